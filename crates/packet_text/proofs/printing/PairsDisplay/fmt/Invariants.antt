use Rattle.std.proofs.Common.{◌≡◌, ◌++◌}
use Rattle.std.specs.Fmt.{HasWritten, IsPlainFormatter}
use Rattle.std.specs.List.{flat_map}
use Rattle.tally.specs.Counts.{counted_pairs}
use Rattle.tally.specs.Walking.{ahead}
use Rattle.packet_text.specs.Printing.{pair_text}
use Rattle.packet_text.proofs.printing.PairsDisplay.fmt.Given as goal

abbrev pub invariant-loop-pair : goal.invariant-loop-pair
invariant-loop-pair g l = record {
  whole : l.yielded ++ ahead g.T.Tally.counts l.pair-iterator ≡ counted_pairs (g.T.Tally.counts l.self.0.now);
  wrote : IsPlainFormatter l.initial.f → HasWritten g.W.Write.write_str_gives l.initial.f (flat_map pair_text l.yielded) l.f;
}
