-- What a listed tally keeps: its counted pairs in order, each with its count.
--
--   listed_fits  which tables of counts fit: at most 96 counts that are not 0, none above 8,191
--   InOrder      a list holds the counted pairs of what it counts: each once, in order, and none that counts 0
--   seek         how many entries stand before a place of the order
--   no_entry     an entry that counts nothing
use Rattle.std.specs.Prelude.{◌≡◌, ℕ, suc, Bool, cond, ◌&&◌, List, [], ◌∷◌, nat_le, nat_lt}
use Rattle.tally.specs.declared.pair.Pair.{Pair}
use Rattle.tally.specs.Pairs.{rank}
use Rattle.tally.specs.Counts.{Counts, counted, counted_pairs, count_of, none_above}

abbrev pub listed_fits : Counts → Bool
listed_fits c = none_above 8191 c && nat_le (counted c) 96

abbrev pub InOrder : List (Pair × ℕ) → Type 0
InOrder es = es ≡ counted_pairs (count_of es)

abbrev pub seek : ℕ → List (Pair × ℕ) → ℕ
seek k [] = 0
seek k (e ∷ es) = cond (nat_lt (rank e.0) k) (suc (seek k es)) 0

abbrev pub no_entry : Pair × ℕ
no_entry = (record { station = 0; handset = 0 }, 0)
