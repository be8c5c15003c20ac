use Rattle.std.proofs.Common.{◌≡◌, ◌*◌, length, take}
use Rattle.packet_text.specs.Hex.{hex_text}
use Rattle.packet_text.proofs.printing.hex_digits.Given as goal

abbrev pub invariant-loop-at : goal.invariant-loop-at
invariant-loop-at l = record {
  sized : length l.room ≡ 64;
  done : take (2 * l.at) l.room ≡ hex_text (take l.at l.bytes);
}
