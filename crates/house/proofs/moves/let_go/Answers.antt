use Rattle.std.proofs.Common.{◌≡◌, List, [], ◌∷◌, Some, refl, ap, ◌∙◌, ap₂}
use Rattle.queue.specs.Standing.{without_at}
use Rattle.rules.specs.declared.place.Place.TheVariants.{OnWay}
use Rattle.rules.specs.Functions.{updated, rest}
use Rattle.rules.specs.Changes.{with_notices, with_passed, with_place, with_carried}
use Rattle.rules.specs.Steps.{release_from}
use Rattle.tables.specs.View.{view}
use Rattle.house.proofs.moves.let_go.Goals as goal

first_out : {X : Type 0} (xs : List X) → without_at xs 0 ≡ rest xs
first_out [] = refl
first_out (x ∷ xs) = refl

pub returns : goal.returns
unfolding release_from
returns g c =
    let v = view g.T.Tally.counts c.args.tables.now in
    let p = c.args.station in let j = c.args.notice.handset in let n = c.args.notice.station in
    c.set_carried.ensures
    ∙ ap (λ s. with_carried (updated s.carried j (g.T.Tally.counts c.args.tally)) s)
    (c.set_place.ensures
    ∙ ap (λ s. with_place (updated s.place j (OnWay p n)) s)
    (c.set_passed.ensures
    ∙ ap (λ s. with_passed (updated s.passed p (updated (s.passed p) j (Some n))) s) c.take_notice.ensures))
    ∙ ap₂ (λ l k. with_notices (updated v.notices p l) (with_passed (updated v.passed p (updated (v.passed p) j (Some n)))
    (with_place (updated v.place j (OnWay p n)) (with_carried (updated v.carried j k) v)))) (first_out (v.notices p)) c.requires.counts
