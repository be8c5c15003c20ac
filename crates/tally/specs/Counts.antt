-- Tables of counts: how many messages each station is known to have sent to each handset.
-- (The field's word for such a table is a matrix clock.)
--
--   Counts         a count for every pair; only pairs in range have a meaning
--   none           0 everywhere
--   raised         one pair's count raised to a number, where that is larger
--   larger         the larger of two counts at each pair
--   up_to          the counts up to and with a place of the order, the later ones taken as 0
--   counted_pairs  the pairs in range whose count is not 0, in order, each with its count
--   counted_on     those of them that stand at a place of the order or after it
--   counted        how many there are in all
--   count_of       what a list of pairs with their counts counts: 0 for a pair that it does not hold
--   none_above     no count of a pair in range is above a number
use Rattle.std.specs.Prelude.{ℕ, zero, suc, ◌-◌, max, Bool, true, cond, ◌&&◌, List, [], ◌∷◌, length, ◌==◌, nat_le}
use Rattle.tally.specs.declared.pair.Pair.{Pair}
use Rattle.tally.specs.Pairs.{pairs, same, rank, pair_at}

abbrev pub Counts : Type 0
Counts = Pair → ℕ

abbrev pub none : Counts
none p = 0

abbrev pub raised : Counts → Pair → ℕ → Counts
raised c p n q = cond (same q p) (max (c q) n) (c q)

abbrev pub larger : Counts → Counts → Counts
larger c d p = max (c p) (d p)

abbrev pub up_to : Counts → ℕ → Counts
up_to c n p = cond (nat_le (rank p) n) (c p) 0

-- the counted ones among n places from place k on
abbrev pub counted_from : Counts → ℕ → ℕ → List (Pair × ℕ)
counted_from c k zero = []
counted_from c k (suc n) =
    cond (c (pair_at k) == 0) (counted_from c (suc k) n) ((pair_at k, c (pair_at k)) ∷ counted_from c (suc k) n)

unfoldable pub counted_pairs : Counts → List (Pair × ℕ)
counted_pairs c = counted_from c 0 pairs

unfoldable pub counted_on : Counts → ℕ → List (Pair × ℕ)
counted_on c k = counted_from c k (pairs - k)

abbrev pub counted : Counts → ℕ
counted c = length (counted_pairs c)

abbrev pub count_of : List (Pair × ℕ) → Counts
count_of [] p = 0
count_of (x ∷ xs) p = cond (same p x.0) x.1 (count_of xs p)

-- each of the first n places passes a test
abbrev pub every : (ℕ → Bool) → ℕ → Bool
every f zero = true
every f (suc n) = f n && every f n

unfoldable pub none_above : ℕ → Counts → Bool
none_above m c = every (λ n. nat_le (c (pair_at n)) m) pairs
