use Rattle.tables.specs.View.{whole}
use Rattle.house.proofs.Views.{stage_view}
use Rattle.house.proofs.writes.set_stage.Goals as goal

pub returns : goal.returns
returns g c = stage_view g.T.Tally.counts (whole c.args.tables.now) c.args.name c.requires _ c.args.stage
