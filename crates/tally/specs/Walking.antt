-- Going along the counted pairs of a tally.
--
--   ahead  the counted pairs that are still to come
use Rattle.std.specs.Prelude.{ℕ, List}
use Rattle.tally.specs.declared.pair.Pair.{Pair}
use Rattle.tally.specs.Pairs.{start}
use Rattle.tally.specs.Counts.{Counts, counted_on}
use Rattle.tally.specs.declared.counted.Counted.{Counted}

abbrev pub ahead : {T : Type 0} → (T → Counts) → Counted T → List (Pair × ℕ)
ahead counts s = counted_on (counts s.tally.now) (start s.from)
