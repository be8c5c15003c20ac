-- What is asked about a packet, in order, and what an accepted packet says.
--
--   enough            are there so many bytes? (31, at the packet's length); asked ahead of each field
--   marked            does it open with the mark NRS?
--   rises             is a pair in range and after the pair ahead of it, and does it count 1 to 8,191?
--   with_pair         the counts with a pair raised to its count
--   misfit            what is told where the counts do not fit: the place, and the pair that the tally names
--   head_questions    the questions about the fields ahead of the pairs
--   pair_questions    the questions about one pair
--   pairs_questions   those about some pairs from a given one on
--   body_questions    those about the body and the end
--   refusal           what the first no tells, or none
--   content           what the packet says
--   reading           the answer to reading a packet: its content, or what the first no tells
--
-- A reader wants a kind of body, by its number, with the bytes that it accepts, and a kind of tally, by what fits it.
use Rattle.std.specs.Prelude.{ℕ, zero, suc, ◌+◌, Bool, not, ◌&&◌, List, [], ◌∷◌, ◌++◌, length, Some, Option, Result, ◌==◌, nat_le, nat_lt}
use Rattle.tally.specs.Pairs.{inside, rank}
use Rattle.tally.specs.Counts.{Counts, raised}
use Rattle.tally.specs.Answers.{first_misfit}
use Rattle.questions.specs.Asking.{Question, first_no, answered}
use Rattle.packet.specs.Messages.{Content}
use Rattle.packet.specs.Faults.{Told, refused}
use Rattle.packet.specs.Layout.{byte_at, word_at, pair_from, count_from, pair_place, counts_in, pairs_told, body_place, body_in, packet_end, head_in}

abbrev pub enough : ℕ → List ℕ → Question Told
enough n bs = (refused 31 (length bs), nat_le n (length bs))

abbrev pub marked : List ℕ → Bool
marked bs = byte_at bs 0 == 78 && (byte_at bs 1 == 82 && byte_at bs 2 == 83)

abbrev pub opening_questions : List ℕ → List (Question Told)
opening_questions bs =
    enough 3 bs ∷ (refused 32 0, marked bs)
    ∷ enough 5 bs ∷ (refused 33 3, (word_at bs 3 == 1)) ∷ []

abbrev pub head_questions : ℕ → List ℕ → List (Question Told)
head_questions kind bs =
    enough 6 bs ∷ (refused 34 5, (byte_at bs 5 == kind))
    ∷ enough 7 bs ∷ (refused 35 6, nat_lt (byte_at bs 6) 8)
    ∷ enough 8 bs ∷ (refused 35 7, nat_lt (byte_at bs 7) 32)
    ∷ enough 9 bs ∷ (refused 35 8, nat_lt (byte_at bs 8) 32 && not (byte_at bs 7 == byte_at bs 8))
    ∷ enough 11 bs ∷ (refused 35 9, nat_lt (word_at bs 9) 4096)
    ∷ enough 13 bs ∷ []

-- about the pair at place p, where its place in the order is to be at least n, and the pairs ahead of it count c
abbrev pub rises : List ℕ → ℕ → ℕ → Bool
rises bs p n =
    inside (pair_from bs p) && (nat_le n (rank (pair_from bs p)) && (nat_le 1 (count_from bs p) && nat_le (count_from bs p) 8191))

abbrev pub with_pair : List ℕ → ℕ → Counts → Counts
with_pair bs p c = raised c (pair_from bs p) (count_from bs p)

abbrev pub misfit : (Counts → Bool) → ℕ → Counts → Told
misfit fits p c = record { number = 37; place = p; pair = Some (first_misfit fits c) }

abbrev pub pair_questions : (Counts → Bool) → List ℕ → ℕ → ℕ → Counts → List (Question Told)
pair_questions fits bs p n c =
    enough (p + 4) bs ∷ (refused 36 p, rises bs p n) ∷ (misfit fits p (with_pair bs p c), fits (with_pair bs p c)) ∷ []

-- the least place in the order that the pair with number i may have
abbrev pub least : List ℕ → ℕ → ℕ
least bs zero = 0
least bs (suc i) = suc (rank (pair_from bs (pair_place i)))

unfoldable pub pairs_questions : (Counts → Bool) → List ℕ → ℕ → ℕ → List (Question Told)
pairs_questions fits bs i zero = []
pairs_questions fits bs i (suc left) =
    pair_questions fits bs (pair_place i) (least bs i) (counts_in bs i) ++ pairs_questions fits bs (suc i) left

abbrev pub body_questions : (List ℕ → Bool) → List ℕ → List (Question Told)
body_questions lawful bs =
    enough (body_place bs + 1) bs ∷ enough (packet_end bs) bs
    ∷ (refused 38 (body_place bs), lawful (body_in bs))
    ∷ (refused 39 (packet_end bs), (length bs == packet_end bs)) ∷ []

module _ (kind : ℕ) (lawful : List ℕ → Bool) (fits : Counts → Bool) (bs : List ℕ) where
  abbrev pub refusal : Option Told
  refusal = first_no (opening_questions bs ++ (head_questions kind bs ++ (pairs_questions fits bs 0 (pairs_told bs) ++ body_questions lawful bs)))

  abbrev pub content : Content
  content = record { head = head_in bs; counts = counts_in bs (pairs_told bs); body = body_in bs }

  abbrev pub reading : Result Content Told
  reading = answered refusal content
