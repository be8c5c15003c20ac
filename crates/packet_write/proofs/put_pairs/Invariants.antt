use Rattle.std.proofs.Common.{◌≡◌, ◌++◌}
use Rattle.std.specs.List.{flat_map}
use Rattle.tally.specs.Counts.{counted_pairs}
use Rattle.tally.specs.Walking.{ahead}
use Rattle.packet.specs.Packing.{pair_bytes}
use Rattle.packet_write.specs.Writing.{Puts}
use Rattle.packet_write.proofs.put_pairs.Given as goal

abbrev pub invariant-loop-pair : goal.invariant-loop-pair
invariant-loop-pair g l = record {
  whole : l.yielded ++ ahead g.T.Tally.counts l.pair-iterator ≡ counted_pairs (g.T.Tally.counts l.tag);
  puts : Puts l.initial.writer l.writer (flat_map pair_bytes l.yielded);
}
