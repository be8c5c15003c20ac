-- The proofs of laws of full tallies, cited where they are said to be a kind of tally.
use Rattle.std.specs.Prelude.{◌≡◌, ℕ, ◌<◌, ◌≤◌, true, false, List, slice_index}
use Rattle.std.proofs.Common.{arith}
use Rattle.std.proofs.lemmas.Bool.{cond-true, cond-false}
use Rattle.tally.specs.declared.pair.Pair.{Pair}
use Rattle.tally.specs.Pairs.{inside, rank}
use Rattle.tally.specs.Counts.{Counts, counted}
use Rattle.tally.proofs.Order.{rank_below}
use Rattle.tally.proofs.Bounds.{bounded_from}
use Rattle.full.specs.Cells.{of_cells, full_fits}

pub cell : (xs : List ℕ) (p : Pair) → inside p ≡ true → of_cells xs p ≡ slice_index xs (rank p)
cell xs p i = cond-true _ _ _ i

pub no_cell : (xs : List ℕ) (p : Pair) → inside p ≡ false → of_cells xs p ≡ 0
no_cell xs p o = cond-false _ _ _ o

pub cells_fit : (xs : List ℕ) → ((k : ℕ) → k < 256 → slice_index xs k ≤ 8191) → full_fits (of_cells xs) ≡ true
cells_fit xs low = bounded_from 8191 (of_cells xs) (λ p i. omega (arith, cell xs p i, low (rank p) (rank_below p i)))

pub few_fit : (c : Counts) → counted c ≤ 8 → ((p : Pair) → inside p ≡ true → c p ≤ 4096) → full_fits c ≡ true
few_fit c few low = bounded_from 8191 c (λ p i. omega (arith, low p i))
