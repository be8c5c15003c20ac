-- Which of some messages to a handset is ripe first.
--
--   ripe_for  a tag is ripe for a handset: every station's handed count is at least the tag's count for the handset
--   tag_of    what the tag of a message of the roll counts
use Rattle.std.specs.Prelude.{ℕ, Bool, List, nat_le}
use Rattle.tally.specs.Counts.{Counts}
use Rattle.rules.specs.Functions.{all_below}
use Rattle.rules.specs.Sound.{on}
use Rattle.tables.specs.declared.rows.RollRow.{RollRow}
use Rattle.tables.specs.View.{rows_of}

-- of the first `stations` stations, where `handed` tells what was handed of each
unfoldable pub ripe_for : ℕ → (ℕ → ℕ) → ℕ → Counts → Bool
ripe_for stations handed j tag = all_below (λ i. nat_le (tag (on i j)) (handed i)) stations

abbrev pub tag_of : {T B : Type 0} → (T → Counts) → List (RollRow T B) → ℕ → Counts
tag_of counts roll m = (rows_of counts roll m).tag
