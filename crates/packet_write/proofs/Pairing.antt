-- Bytes and pairs written one after the other.
use Rattle.std.proofs.Common.{◌≡◌, ℕ, ◌+◌, ◌*◌, ◌≤◌, List, [], ◌∷◌, ◌++◌, length, refl, ap, ◌∙◌, subst, arith}
use Rattle.std.specs.List.{flat_map}
use Rattle.std.proofs.lemmas.List.{length-append, flat_map_more}
use Rattle.tally.specs.declared.pair.Pair.{Pair}
use Rattle.packet.specs.Packing.{pair_bytes}
use Rattle.packet_write.specs.declared.writer.Writer.{Writer}
use Rattle.packet_write.specs.Writing.{placed, Puts}
use Rattle.packet_write.proofs.Placing.{placed_more, length_placed}

pub length_pairs : (xs : List (Pair × ℕ)) → length (flat_map pair_bytes xs) ≡ 4 * length xs
length_pairs [] = refl
length_pairs (x ∷ xs) = omega (arith, length_pairs xs)

pub puts_more : (before mid after : Writer) (bs cs : List ℕ) → Puts before mid bs → Puts mid after cs → before.place + length bs ≤ length before.out.now
    → Puts before after (bs ++ cs)
puts_more before mid after bs cs p q room = record {
  same = q.same ∙ p.same;
  writes = q.writes ∙ (λ i. placed (p.on i) cs (p.writes i)) ∙ placed_more before.place bs cs before.out.now room;
  on = omega (arith, q.on, p.on, length-append bs cs);
}

-- the buffer keeps its length
pub puts_length : (before after : Writer) (bs : List ℕ) → Puts before after bs → before.place + length bs ≤ length before.out.now → length after.out.now ≡ length before.out.now
puts_length before after bs p room = ap length p.writes ∙ length_placed before.place bs before.out.now room

-- some pairs of all are written, and one more is to come: there is room for it
module _ (before now : Writer) (done : List (Pair × ℕ)) (x : Pair × ℕ) (later all : List (Pair × ℕ)) (so_far : Puts before now (flat_map pair_bytes done))
    (whole : done ++ (x ∷ later) ≡ all) (long : before.place + 4 * length all ≤ length before.out.now) where
  fits : before.place + length (flat_map pair_bytes done) ≤ length before.out.now
  fits = omega (arith, long, ap length whole, length-append done (x ∷ later), length_pairs done)

  pub room_for : now.place + 4 ≤ length now.out.now
  room_for = omega (arith, long, ap length whole, length-append done (x ∷ later), length_pairs done, so_far.on, puts_length before now (flat_map pair_bytes done) so_far fits)

  pub pair_more : (after : Writer) (bs : List ℕ) → bs ≡ pair_bytes x → Puts now after bs → Puts before after (flat_map pair_bytes (done ++ x ∷ []))
  pair_more after bs is put =
      subst (Puts before after) (ap (λ cs. flat_map pair_bytes done ++ cs) is ∙ flat_map_more pair_bytes [] done x)
      (puts_more before now after (flat_map pair_bytes done) bs so_far put fits)
