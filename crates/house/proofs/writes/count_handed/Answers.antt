use Rattle.std.proofs.Common.{rules}
use Rattle.tables.specs.View.{whole}
use Rattle.house.proofs.Views.{handed_view}
use Rattle.house.proofs.writes.count_handed.Goals as goal

pub returns : goal.returns
returns g c = handed_view g.T.Tally.counts (whole c.args.tables.now) c.args.handset c.requires.handset _ c.args.station (search rules)
