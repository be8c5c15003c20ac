use Rattle.tables.specs.View.{whole}
use Rattle.house.proofs.Views.{tally_view}
use Rattle.house.proofs.writes.set_tally.Goals as goal

pub returns : goal.returns
returns g c = tally_view g.T.Tally.counts (whole c.args.tables.now) c.args.station c.requires _ c.args.tally
