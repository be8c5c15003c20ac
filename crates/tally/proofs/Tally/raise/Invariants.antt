use Rattle.std.proofs.Common.{◌≡◌}
use Rattle.tally.specs.Counts.{raised}
use Rattle.tally.proofs.Building.{below}
use Rattle.tally.proofs.Tally.raise.Given as goal

-- the places gone through are built up
abbrev pub invariant-loop-place : goal.invariant-loop-place
invariant-loop-place g l =
    let counts = g.Self.Tally.counts in
    counts l.built ≡ below (raised (counts l.self) l.pair l.number) l.place
