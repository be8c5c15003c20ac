-- A packet, part by part.
use Rattle.std.proofs.Common.{◌≡◌, ℕ, ◌+◌, ◌*◌, ◌≤◌, List, ◌∷◌, ◌++◌, length, sym, refl, ap, ◌∙◌, append_assoc, arith}
use Rattle.std.specs.List.{flat_map}
use Rattle.std.proofs.lemmas.List.{length-append}
use Rattle.tally.specs.Counts.{counted_pairs, counted}
use Rattle.body.specs.Bytes.{over}
use Rattle.packet.specs.Messages.{Content}
use Rattle.packet.specs.Packing.{pair_bytes, packet_bytes}
use Rattle.packet_write.specs.declared.writer.Writer.{Writer}
use Rattle.packet_write.specs.Writing.{placed, Puts, head_bytes}
use Rattle.packet_write.proofs.Placing.{placed_front}
use Rattle.packet_write.proofs.Pairing.{length_pairs, puts_more, puts_length}

module _ (kind : ℕ) (m : Content) where
  abbrev pub head_part : List ℕ
  head_part = head_bytes kind m.head (counted m.counts)

  abbrev pub pairs_part : List ℕ
  pairs_part = flat_map pair_bytes (counted_pairs m.counts)

  abbrev pub body_part : List ℕ
  body_part = length m.body ∷ m.body

  pub in_parts : packet_bytes kind m ≡ head_part ++ (pairs_part ++ body_part)
  unfolding packet_bytes
  in_parts = refl

  pub length_packet : length (packet_bytes kind m) ≡ 14 + 4 * counted m.counts + length m.body
  length_packet = ap length in_parts ∙ omega (arith, length-append pairs_part body_part, length_pairs (counted_pairs m.counts))

  module _ (before : Writer) (front : before.place ≡ 0) (room : length (packet_bytes kind m) ≤ length before.out.now) where
    with_pairs : (headed paired : Writer) → Puts before headed head_part → Puts headed paired pairs_part → Puts before paired (head_part ++ pairs_part)
    with_pairs headed paired head pairs = puts_more before headed paired head_part pairs_part head pairs (omega (arith, room, length_packet, front))

    -- behind the pairs there is room for the body
    pub room_after_pairs : (headed paired : Writer) → Puts before headed head_part → Puts headed paired pairs_part → paired.place + 1 + length m.body ≤ length paired.out.now
    room_after_pairs headed paired head pairs =
        let both = with_pairs headed paired head pairs in
        omega (arith, room, length_packet, front, both.on, length_pairs (counted_pairs m.counts), puts_length before paired (head_part ++ pairs_part) both (omega (arith, length_packet, length_pairs (counted_pairs m.counts))))

    -- the parts written one after the other are the packet
    pub packed : (headed paired after : Writer) → Puts before headed head_part → Puts headed paired pairs_part → Puts paired after body_part
        → after.out.now ≡ over (packet_bytes kind m) before.out.now
    packed headed paired after head pairs body =
        let both = with_pairs headed paired head pairs in
        let all = puts_more before paired after (head_part ++ pairs_part) body_part both body (omega (arith, room, length_packet, front, length_pairs (counted_pairs m.counts))) in
        all.writes
        ∙ (λ i. placed (front i) ((append_assoc head_part pairs_part body_part ∙ sym in_parts) i) before.out.now)
        ∙ placed_front (packet_bytes kind m) before.out.now room
