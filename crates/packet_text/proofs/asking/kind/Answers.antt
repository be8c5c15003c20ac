use Rattle.std.proofs.Common.{◌≢◌, ℕ, List, ◌++◌, Bor, None, Some, sym, refl, subst}
use Rattle.std.specs.List.{All}
use Rattle.std.proofs.lemmas.List.{take_all}
use Rattle.std.proofs.lemmas.List.Elements.{All-more}
use Rattle.std.proofs.lemmas.Slice.Eq.{strip_prefix_is}
use Rattle.std.proofs.lemmas.Bool.Decides.{Decides-eqb}
use Rattle.packet_text.proofs.asking.kind.Goals as goal

pub returns-in-Some : goal.returns-in-Some
returns-in-Some g c =
    let found = strip_prefix_is Decides-eqb c.args.line.now c.loop-word-item.result.0.now (Some c.in-Some.rest) c.in-Some.ensures.cases in
    (c.loop-word.word-index, c.loop-word-item.result, c.loop-word-test.true, sym c.loop-word-item.is, (refl, found))

pub loop-word-preserved : goal.loop-word-preserved
loop-word-preserved g c =
    let P : Bor (List ℕ) × g.row.K.Denot → Type 0 = λ k. (rest : List ℕ) → c.args.line.now ≢ k.0.now ++ rest in
    let other = strip_prefix_is Decides-eqb c.args.line.now c.loop-word-item.result.0.now None c.in_default.ensures.cases in
    All-more P c.args.kinds.now c.loop-word.word-index c.loop-word-item.result c.loop-word-test.true c.loop-word.invariant (subst P c.loop-word-item.is other)

pub returns : goal.returns
returns g c =
    let P : Bor (List ℕ) × g.row.K.Denot → Type 0 = λ k. (rest : List ℕ) → c.args.line.now ≢ k.0.now ++ rest in
    subst (All P) (take_all c.loop-word.word-index c.args.kinds.now c.loop-word-test.false) c.loop-word.invariant
