use Rattle.std.proofs.Common.{◌≡◌, ℕ, ◌<◌, ◌≤◌, max, get_or}
use Rattle.full.proofs.join_cells.Given as goal

-- the places gone through are joined, and the others are as they were
abbrev pub invariant-loop-place : goal.invariant-loop-place
invariant-loop-place l =
    ((k : ℕ) → k < l.place → get_or l.cells k 0 ≡ max (get_or l.initial.cells k 0) (get_or l.others k 0))
    × ((k : ℕ) → l.place ≤ k → get_or l.cells k 0 ≡ get_or l.initial.cells k 0)
