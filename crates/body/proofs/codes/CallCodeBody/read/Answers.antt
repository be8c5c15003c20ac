use Rattle.std.proofs.Common.{◌≡◌, ◌+◌, ◌*◌, ◌/◌, ◌%◌, [], ◌∷◌, get_or, ap₂, length, Some, sym, ap, ◌∙◌, arith, rules}
use Rattle.std.proofs.lemmas.Bool.{cond-true, eq-eqb}
use Rattle.body.proofs.Words.{told_again}
use Rattle.body.proofs.codes.CallCodeBody.read.Goals as goal

pub returns-in-len2 : goal.returns-in-len2
returns-in-len2 c =
    let two : length c.args.told.now ≡ 2 = search rules in
    let value : c.from_be_bytes.result ≡ get_or c.args.told.now 0 0 * 256 + get_or c.args.told.now 1 0 = search rules in
    ap Some (ap₂ (λ x y. x ∷ y ∷ []) (ap (λ n. n / 256) value) (ap (λ n. n % 256) value) ∙ told_again c.args.told.now two (omega arith)) ∙ sym (cond-true _ _ _ (eq-eqb _ _ two))
