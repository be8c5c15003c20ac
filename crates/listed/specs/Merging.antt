-- How two lists of counted pairs are merged.
--
--   front_of      of two entries the one whose pair comes first, or both in one, with the larger count
--   merged_front  the entry with which two lists merged in order begin
--   heads         a list begins with a given pair
use Rattle.std.specs.Prelude.{ℕ, max, Bool, false, cond, List, [], ◌∷◌, Some, None, Option, nat_lt}
use Rattle.tally.specs.declared.pair.Pair.{Pair}
use Rattle.tally.specs.Pairs.{rank, same}

abbrev pub front_of : Pair × ℕ → Pair × ℕ → Pair × ℕ
front_of x y =
    cond (nat_lt (rank x.0) (rank y.0)) x (cond (nat_lt (rank y.0) (rank x.0)) y (x.0, max x.1 y.1))

abbrev pub merged_front : List (Pair × ℕ) → List (Pair × ℕ) → Option (Pair × ℕ)
merged_front [] [] = None
merged_front [] (y ∷ ys) = Some y
merged_front (x ∷ xs) [] = Some x
merged_front (x ∷ xs) (y ∷ ys) = Some (front_of x y)

abbrev pub heads : Pair → List (Pair × ℕ) → Bool
heads p [] = false
heads p (x ∷ xs) = same x.0 p
