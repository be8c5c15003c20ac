-- What the cells of a full tally count.
--
--   of_cells   the cell at a pair's place in the order, and 0 out of range
--   place_of   the place of a pair's cell; a pair out of range has none
--   full_fits  which tables of counts fit: those with no count above 8,191
use Rattle.std.specs.Prelude.{ℕ, Bool, cond, List, Some, None, Option, slice_index}
use Rattle.tally.specs.declared.pair.Pair.{Pair}
use Rattle.tally.specs.Pairs.{inside, rank}
use Rattle.tally.specs.Counts.{Counts, none_above}

abbrev pub of_cells : List ℕ → Counts
of_cells xs p = cond (inside p) (slice_index xs (rank p)) 0

abbrev pub place_of : Pair → Option ℕ
place_of p = cond (inside p) (Some (rank p)) None

abbrev pub full_fits : Counts → Bool
full_fits = none_above 8191
