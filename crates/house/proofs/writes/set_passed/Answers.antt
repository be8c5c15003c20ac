use Rattle.std.proofs.Common.{rules}
use Rattle.tables.specs.View.{whole}
use Rattle.house.proofs.Views.{passed_view}
use Rattle.house.proofs.writes.set_passed.Goals as goal

pub returns : goal.returns
returns g c = passed_view g.T.Tally.counts (whole c.args.tables.now) c.args.station c.requires.station _ c.args.handset c.args.to (search rules)
