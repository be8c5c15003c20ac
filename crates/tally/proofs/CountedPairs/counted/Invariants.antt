use Rattle.std.proofs.Common.{◌≡◌, ◌+◌, ◌-◌, ◌≤◌, length}
use Rattle.tally.specs.Pairs.{pairs, start}
use Rattle.tally.specs.Counts.{counted, counted_on}
use Rattle.tally.proofs.CountedPairs.counted.Given as goal

-- the pairs gone through and those that are left are all
abbrev pub invariant-loop-pair : goal.invariant-loop-pair
invariant-loop-pair g l =
    let counts = g.Self.Tally.counts l.self in
    (start l.from ≤ pairs) × (l.pairs ≤ start l.from) × (l.pairs + length (counted_on counts (start l.from)) ≡ counted counts)

abbrev pub decreases-loop-pair : goal.decreases-loop-pair
decreases-loop-pair g l = pairs - start l.from
