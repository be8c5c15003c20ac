-- The bytes of a packet. Numbers are high byte first.
--
--   word_bytes    a 16-bit number as two bytes
--   pair_bytes    a pair with its count as four bytes: station, handset, count
--   packet_bytes  the packet that carries a message with a body of a given kind: the mark NRS, version 1, the kind,
--                 the head, the number of counted pairs, these pairs in order, the body's length and the body
use Rattle.std.specs.Prelude.{ℕ, ◌/◌, ◌%◌, List, [], ◌∷◌, ◌++◌, length}
use Rattle.std.specs.List.{flat_map}
use Rattle.tally.specs.declared.pair.Pair.{Pair}
use Rattle.tally.specs.Counts.{counted_pairs, counted}
use Rattle.packet.specs.Messages.{Content}

abbrev pub word_bytes : ℕ → List ℕ
word_bytes n = n / 256 ∷ n % 256 ∷ []

abbrev pub pair_bytes : Pair × ℕ → List ℕ
pair_bytes x = x.0.station ∷ x.0.handset ∷ word_bytes x.1

unfoldable pub packet_bytes : ℕ → Content → List ℕ
packet_bytes kind m =
    (78 ∷ 82 ∷ 83 ∷ []) ++ (word_bytes 1 ++ (kind ∷ m.head.station ∷ m.head.sender ∷ m.head.addressee ∷ (word_bytes m.head.name
    ++ (word_bytes (counted m.counts) ++ (flat_map pair_bytes (counted_pairs m.counts) ++ (length m.body ∷ m.body))))))
