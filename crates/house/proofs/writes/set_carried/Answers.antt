use Rattle.tables.specs.View.{whole}
use Rattle.house.proofs.Views.{carried_view}
use Rattle.house.proofs.writes.set_carried.Goals as goal

pub returns : goal.returns
returns g c = carried_view g.T.Tally.counts (whole c.args.tables.now) c.args.handset c.requires _ c.args.tally
