use Rattle.tables.specs.View.{whole}
use Rattle.house.proofs.Views.{place_view}
use Rattle.house.proofs.writes.set_place.Goals as goal

pub returns : goal.returns
returns g c = place_view g.T.Tally.counts (whole c.args.tables.now) c.args.handset c.requires _ c.args.place
