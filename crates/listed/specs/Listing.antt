-- The list of a listed tally.
--
--   listed  the entries of a tally that count
--   sought  where the entry of a pair stands or, as a refusal, where it would stand
--   Sought  a pair in range, with the position at which its entry stands or would stand
use Rattle.std.specs.Prelude.{◌≡◌, ℕ, true, cond, List, drop, Ok, Err, Result}
use Rattle.shortlist.specs.Items.{items}
use Rattle.tally.specs.declared.pair.Pair.{Pair}
use Rattle.tally.specs.Pairs.{inside, rank}
use Rattle.listed.specs.declared.entries.Listed.{Listed}
use Rattle.listed.specs.Entries.{seek}
use Rattle.listed.specs.Merging.{heads}

abbrev pub listed : Listed → List (Pair × ℕ)
listed t = items t.entries

abbrev pub sought : List (Pair × ℕ) → Pair → Result ℕ ℕ
sought es p = cond (heads p (drop (seek (rank p) es) es)) (Ok (seek (rank p) es)) (Err (seek (rank p) es))

pub record Sought (es : List (Pair × ℕ)) (p : Pair) (at : ℕ) : Type 0 where
  pub in_range : inside p ≡ true
  pub here : at ≡ seek (rank p) es
