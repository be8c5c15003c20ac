-- What a change of the cells does to the counts.
use Rattle.std.specs.Prelude.{◌≡◌, ℕ, ◌<◌, ◌≤◌, max, true, false, ◌≢◌, List, length, replicate, slice_index, slice_set}
use Rattle.std.proofs.Common.{sym, ap, subst, ◌∙◌, ⊎_elim, arith}
use Rattle.std.proofs.Math.Path.{fun_ext}
use Rattle.std.proofs.lemmas.List.{get_or-set_same, get_or-set_other, get_or-replicate}
use Rattle.std.proofs.lemmas.Bool.{cond-true, cond-false, cases_Bool, both_ways}
use Rattle.tally.specs.declared.pair.Pair.{Pair}
use Rattle.tally.specs.Pairs.{inside, rank, pair_at, same}
use Rattle.tally.specs.Counts.{Counts, none, raised, larger}
use Rattle.tally.proofs.Order.{rank_at, inside_at, rank_below, same_is, same_rank, same_self}
use Rattle.full.specs.Cells.{of_cells}
use Rattle.full.specs.Laws.{cell, no_cell}

-- tables are equal where they are at each pair in range, and out of range
by_pairs : (c d : Counts) → ((p : Pair) → inside p ≡ true → c p ≡ d p) → ((p : Pair) → inside p ≡ false → c p ≡ d p) → c ≡ d
by_pairs c d within without = fun_ext (λ p. ⊎_elim (within p) (without p) (cases_Bool (inside p)))

pub cell_at : (xs : List ℕ) (n : ℕ) → n < 256 → of_cells xs (pair_at n) ≡ slice_index xs n
cell_at xs n h = cell xs (pair_at n) (inside_at n) ∙ ap (λ k. slice_index xs k) (rank_at n h)

pub cells_blank : of_cells (replicate 256 0) ≡ none
cells_blank =
    by_pairs _ _ (λ p i. cell (replicate 256 0) p i ∙ get_or-replicate 256 (rank p) 0 0 (rank_below p i)) (λ p o. no_cell (replicate 256 0) p o)

pub blank_low : (k : ℕ) → k < 256 → slice_index (replicate 256 0) k ≤ 8191
blank_low k h = omega (arith, get_or-replicate {A = ℕ} 256 k 0 0 h)

module _ (xs : List ℕ) (p : Pair) (n : ℕ) (i : inside p ≡ true) where
  -- the cells ys differ from xs at the place of p at most, and have the larger number there
  raised_by : (ys : List ℕ) → slice_index ys (rank p) ≡ max (slice_index xs (rank p)) n → ((k : ℕ) → k ≢ rank p → slice_index ys k ≡ slice_index xs k)
      → of_cells ys ≡ raised (of_cells xs) p n
  raised_by ys here there =
      fun_ext (λ q. ⊎_elim
      (λ (s : same q p ≡ true).
      let at : of_cells ys p ≡ max (of_cells xs p) n = omega (arith, cell ys p i, cell xs p i, here) in
      let P : Pair → Type 0 = λ r. of_cells ys r ≡ max (of_cells xs r) n in
      subst P (sym (same_is q p s)) at ∙ sym (cond-true _ _ _ s))
      (λ (s : same q p ≡ false).
      let differ : inside q ≡ true → rank q ≢ rank p = λ j e. both_ways _ s (ap (λ r. same r p) (same_rank q p j i e) ∙ same_self p) in
      ⊎_elim (λ j. cell ys q j ∙ there (rank q) (differ j) ∙ sym (cell xs q j)) (λ o. no_cell ys q o ∙ sym (no_cell xs q o)) (cases_Bool (inside q))
      ∙ sym (cond-false _ _ _ s))
      (cases_Bool (same q p)))

  pub cells_raised : length xs ≡ 256 → (at : ℕ) → at ≡ rank p → (m : ℕ) → m ≡ max (slice_index xs at) n → of_cells (slice_set xs at m) ≡ raised (of_cells xs) p n
  cells_raised sized at here m is =
      raised_by (slice_set xs at m)
      (ap (λ k. slice_index (slice_set xs at m) k) (sym here) ∙ get_or-set_same xs at m 0 (omega (arith, here, rank_below p i)) ∙ is ∙ ap (λ k. max (slice_index xs k) n) here)
      (λ k ne. get_or-set_other xs at k m 0 (λ e. ne (e ∙ here)))

pub cells_joined : (xs ys zs : List ℕ) → ((k : ℕ) → k < 256 → slice_index zs k ≡ max (slice_index xs k) (slice_index ys k)) → of_cells zs ≡ larger (of_cells xs) (of_cells ys)
cells_joined xs ys zs h =
    by_pairs _ _
    (λ p i. omega (arith, cell xs p i, cell ys p i, cell zs p i, h (rank p) (rank_below p i)))
    (λ p o. omega (arith, no_cell xs p o, no_cell ys p o, no_cell zs p o))
