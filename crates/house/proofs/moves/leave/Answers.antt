use Rattle.std.proofs.Common.{ap, ◌∙◌}
use Rattle.rules.specs.declared.place.Place.TheVariants.{Leaving}
use Rattle.rules.specs.Functions.{updated}
use Rattle.rules.specs.Changes.{with_place}
use Rattle.rules.specs.Steps.{register_at}
use Rattle.house.proofs.moves.leave.Goals as goal

pub returns : goal.returns
unfolding register_at
returns g c =
    c.set_place.ensures
    ∙ ap (λ s. with_place (updated s.place c.args.handset (Leaving c.args.keeper c.args.station)) s) c.put_notice.ensures
