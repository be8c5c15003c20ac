use Rattle.std.proofs.Common.{◌≡◌, ◌*◌, ◌<◌, length, take}
use Rattle.std.specs.List.{All}
use Rattle.packet_text.specs.Hex.{hex_text}
use Rattle.packet_text.proofs.asking.read_hex.Given as goal

abbrev pub invariant-loop-at : goal.invariant-loop-at
invariant-loop-at l = record {
  sized : length l.room ≡ length l.initial.room;
  done : take (2 * l.at) l.digits ≡ hex_text (take l.at l.room);
  small : All (λ b. b < 256) (take l.at l.room);
}
