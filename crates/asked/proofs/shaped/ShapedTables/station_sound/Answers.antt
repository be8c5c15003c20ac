use Rattle.std.proofs.Common.{rules}
use Rattle.asked.proofs.Strides.{row_within}
use Rattle.asked.proofs.Passes.{many_few}
use Rattle.asked.proofs.shaped.ShapedTables.station_sound.Goals as goal

-- a station has no more notices than handsets leaving it, so its row has their places
pub unwrap-requires : goal.unwrap-requires
unwrap-requires g c = search (rules, row_within, many_few)
