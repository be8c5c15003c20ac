use Rattle.std.proofs.Common.{ℕ, ◌-◌, length}
use Rattle.tally.specs.Counts.{count_of}
use Rattle.listed.specs.Listing.{listed}
use Rattle.listed.proofs.Merges.{Merging}
use Rattle.listed.proofs.merge.Given as goal

-- some place of the order is reached: the lists are left from it on, and merged before it
abbrev pub invariant-loop-entry : goal.invariant-loop-entry
invariant-loop-entry l = (m : ℕ) × Merging (count_of (listed l.first)) (count_of (listed l.second)) l.a l.b (listed l.merged) m

abbrev pub decreases-loop-entry : goal.decreases-loop-entry
decreases-loop-entry l = 96 - length (listed l.merged)
