-- Where the fields of a packet lie, by byte place from 0. Numbers are high byte first.
--
--   0 mark (3 bytes), 3 version (2), 5 body kind, 6 station, 7 sender, 8 addressee, 9 name (2), 11 number of pairs (2),
--   13 the pairs, four bytes each: station, handset, count (2); then the body's length (1), and the body.
--
--   byte_at, word_at  the byte at a place, and the 16-bit number of the two bytes from there on; 0 past the end
--   pair_from         the pair that lies at a place
--   count_from        its count
--   pair_place        where the pair with a given number lies, counted from 0
--   pairs_told        how many pairs the packet tells
--   counts_in         what its first pairs count: each in turn raises its pair to its count, from 0 everywhere
--   body_place        where the body's length byte lies
--   body_length       what that says
--   body_in           the body
--   packet_end        the place after the body
--   head_in           the station, the handsets and the name
use Rattle.std.specs.Prelude.{ℕ, zero, suc, ◌+◌, ◌*◌, List, take, drop, slice_index}
use Rattle.tally.specs.declared.pair.Pair.{Pair}
use Rattle.tally.specs.Counts.{Counts, none, raised}
use Rattle.packet.specs.declared.head.Head.{Head}

abbrev pub byte_at : List ℕ → ℕ → ℕ
byte_at bs p = slice_index bs p

abbrev pub word_at : List ℕ → ℕ → ℕ
word_at bs p = byte_at bs p * 256 + byte_at bs (p + 1)

abbrev pub pair_from : List ℕ → ℕ → Pair
pair_from bs p = record { station = byte_at bs p; handset = byte_at bs (p + 1) }

abbrev pub count_from : List ℕ → ℕ → ℕ
count_from bs p = word_at bs (p + 2)

abbrev pub pair_place : ℕ → ℕ
pair_place i = 13 + 4 * i

abbrev pub pairs_told : List ℕ → ℕ
pairs_told bs = word_at bs 11

unfoldable pub counts_in : List ℕ → ℕ → Counts
counts_in bs zero = none
counts_in bs (suc n) = raised (counts_in bs n) (pair_from bs (pair_place n)) (count_from bs (pair_place n))

abbrev pub body_place : List ℕ → ℕ
body_place bs = pair_place (pairs_told bs)

abbrev pub body_length : List ℕ → ℕ
body_length bs = byte_at bs (body_place bs)

abbrev pub body_in : List ℕ → List ℕ
body_in bs = take (body_length bs) (drop (body_place bs + 1) bs)

abbrev pub packet_end : List ℕ → ℕ
packet_end bs = body_place bs + 1 + body_length bs

abbrev pub head_in : List ℕ → Head
head_in bs = record { station = byte_at bs 6; sender = byte_at bs 7; addressee = byte_at bs 8; name = word_at bs 9 }
