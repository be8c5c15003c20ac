use Rattle.std.proofs.Common.{◌≡◌, ℕ, true, List, [], ◌∷◌, leb, sym, subst, arith}
use Rattle.std.proofs.lemmas.Bool.{and_parts, leb-true}
use Rattle.std.proofs.lemmas.Str.{IsUtf8-from_ascii}
use Rattle.std.proofs.lemmas.Str.Ascii.{IsAscii-nil, IsAscii-cons}
use Rattle.std.specs.Str.{IsAscii, IsUtf8}
use Rattle.body.specs.Printable.{printable}
use Rattle.packet_text.proofs.printing.NotePrinted.print.Goals as goal

printable_ascii : (bs : List ℕ) → printable bs ≡ true → IsAscii bs
printable_ascii [] e = IsAscii-nil
printable_ascii (b ∷ bs) e =
    let first = and_parts _ (printable bs) e in
    let high = leb-true _ _ (and_parts (leb 32 b) (leb b 126) first.0).1 in
    IsAscii-cons b bs (omega (arith, high)) (printable_ascii bs first.1)

pub unreachable-requires : goal.unreachable-requires
unreachable-requires g c =
    c.in_default.ensures.cases.0 (subst IsUtf8 (sym c.text.ensures) (IsUtf8-from_ascii _ (printable_ascii _ c.args.self.now.plain)))
