use Rattle.std.proofs.Common.{ap, ◌∙◌, ap₂}
use Rattle.rules.specs.declared.place.Place.TheVariants.{Kept}
use Rattle.rules.specs.Functions.{updated}
use Rattle.rules.specs.Changes.{with_counts, with_place, with_carried}
use Rattle.rules.specs.Steps.{settle_at}
use Rattle.tables.specs.View.{view}
use Rattle.house.proofs.moves.keep.Goals as goal

pub returns : goal.returns
unfolding settle_at
returns g c =
    let v = view g.T.Tally.counts c.args.tables.now in
    let n = c.args.station in let j = c.args.handset in
    c.set_carried.ensures
    ∙ ap (λ s. with_carried (updated s.carried j (g.T.Tally.counts c.blank.result)) s)
    (c.set_place.ensures ∙ ap (λ s. with_place (updated s.place j (Kept n)) s) c.set_tally.ensures)
    ∙ ap₂ (λ k b. with_counts (updated v.counts n k) (with_place (updated v.place j (Kept n)) (with_carried (updated v.carried j b) v))) c.requires.joined c.blank.ensures
