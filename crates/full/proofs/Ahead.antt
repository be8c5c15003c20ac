-- The counted pairs of a full tally from a place of the order on.
use Rattle.std.specs.Prelude.{◌≡◌, ℕ, zero, suc, ◌+◌, ◌-◌, ◌<◌, ◌≤◌, min, Bool, true, false, not, cond, List, [], ◌∷◌, Some, None, length, take, drop, slice_index}
use Rattle.std.specs.List.{position, position_or_len}
use Rattle.std.proofs.Common.{eqb, get_or, sym, ap, ◌∙◌, ⊎_elim, arith, length-drop, get_or-drop}
use Rattle.std.proofs.lemmas.Bool.{cases_lt, eqb-true, cases_Bool, lt-ltb, cond-true, both_ways}
use Rattle.std.proofs.lemmas.List.{take_all}
use Rattle.std.proofs.lemmas.Option.{none-some}
use Rattle.std.proofs.lemmas.List.Quantifiers.{position-Some}
use Rattle.tally.specs.Pairs.{pair_at}
use Rattle.tally.specs.Counts.{Counts, counted_on}
use Rattle.tally.proofs.Listing.{rest_here, rest_past, rest_skip}
use Rattle.full.specs.Cells.{of_cells}
use Rattle.full.proofs.Counting.{cell_at}

-- a cell that counts
abbrev pub counts : ℕ → Bool
counts n = not (eqb n 0)

not_counted : (n : ℕ) → counts n ≡ false → n ≡ 0
not_counted n h = ⊎_elim (λ (z : eqb n 0 ≡ true). eqb-true _ _ z) (λ (z : eqb n 0 ≡ false). absurd (both_ways _ h (ap not z))) (cases_Bool (eqb n 0))

is_counted : (n : ℕ) → counts n ≡ true → n ≡ 0 → ⊥
is_counted n h z = both_ways _ (ap counts z) h

-- where no number of a list passes a test, each fails it
none_passes : (p : ℕ → Bool) (xs : List ℕ) → length xs ≤ position_or_len p xs → (k : ℕ) → k < length xs → p (get_or xs k 0) ≡ false
none_passes p [] h k l = absurd (omega arith)
none_passes p (x ∷ xs) h zero l =
    ⊎_elim
    (λ (y : p x ≡ true). absurd (omega (arith, h, ap (λ b. cond (not b) (1 + position_or_len p xs) 0) y)))
    (λ (n : p x ≡ false). n)
    (cases_Bool (p x))
none_passes p (x ∷ xs) h (suc k) l =
    ⊎_elim
    (λ (y : p x ≡ true). absurd (omega (arith, h, ap (λ b. cond (not b) (1 + position_or_len p xs) 0) y)))
    (λ (n : p x ≡ false). none_passes p xs (omega (arith, h, ap (λ b. cond (not b) (1 + position_or_len p xs) 0) n)) k (omega arith))
    (cases_Bool (p x))

no_position : (p : ℕ → Bool) (xs : List ℕ) → position p xs ≡ None → length xs ≤ position_or_len p xs
no_position p xs h =
    ⊎_elim
    (λ (l : position_or_len p xs < length xs). absurd (none-some _ (sym h ∙ cond-true _ _ _ (lt-ltb _ _ l))))
    (λ (l : length xs ≤ position_or_len p xs). l)
    (cases_lt (position_or_len p xs) (length xs))

module _ (xs : List ℕ) (sized : length xs ≡ 256) (m : ℕ) (within : m ≤ 256) where
  -- the count at a place, read in the cells from place m on
  read : (k : ℕ) → m + k < 256 → of_cells xs (pair_at (m + k)) ≡ get_or (drop m xs) k 0
  read k h = cell_at xs (m + k) h ∙ sym (get_or-drop m xs k 0)

  long : length (drop m xs) ≡ 256 - m
  long = length-drop m xs ∙ omega arith

  pub tail : take (256 - m) (drop m xs) ≡ drop m xs
  tail = take_all (256 - m) (drop m xs) (omega (arith, long))

  pub none_ahead : position counts (drop m xs) ≡ None → counted_on (of_cells xs) m ≡ []
  none_ahead h =
      let zero_at : (i : ℕ) → m ≤ i → i < 256 → of_cells xs (pair_at i) ≡ 0 =
      λ i a b. let e : m + (i - m) ≡ i = omega arith in
      ap (λ j. of_cells xs (pair_at j)) (sym e) ∙ read (i - m) (omega arith)
      ∙ not_counted _ (none_passes counts (drop m xs) (no_position counts _ h) (i - m) (omega (arith, long))) in
      rest_skip (of_cells xs) m 256 within (omega arith) zero_at ∙ rest_past (of_cells xs) 256 (omega arith)

  pub some_ahead : (i : ℕ) → position counts (drop m xs) ≡ Some i
      → counted_on (of_cells xs) m ≡ (pair_at (m + i), slice_index xs (m + i)) ∷ counted_on (of_cells xs) (m + i + 1)
  some_ahead i h =
      let found = position-Some counts (drop m xs) i 0 h in
      let l : m + i < 256 = omega (arith, long, found.0) in
      let zero_at : (j : ℕ) → m ≤ j → j < m + i → of_cells xs (pair_at j) ≡ 0 =
      λ j a b. let e : m + (j - m) ≡ j = omega arith in
      ap (λ k. of_cells xs (pair_at k)) (sym e) ∙ read (j - m) (omega arith) ∙ not_counted _ (found.2 (j - m) (omega arith)) in
      rest_skip (of_cells xs) m (m + i) (omega arith) (omega arith) zero_at
      ∙ rest_here (of_cells xs) (m + i) l (λ z. is_counted _ found.1 (sym (read i l) ∙ z))
      ∙ ap (λ n. (pair_at (m + i), n) ∷ counted_on (of_cells xs) (m + i + 1)) (cell_at xs (m + i) l)

-- from a start past the last place on, nothing is counted
pub from_least : (c : Counts) (k m : ℕ) → m ≡ min k 256 → counted_on c k ≡ counted_on c m
from_least c k m h =
    ⊎_elim
    (λ (l : k < 256). ap (counted_on c) (omega arith))
    (λ (l : 256 ≤ k). rest_past c k l ∙ sym (rest_past c m (omega arith)))
    (cases_lt k 256)
