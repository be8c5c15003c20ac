use Rattle.std.proofs.Common.{◌≡◌, ℕ, ◌<◌, length, get_or}
use Rattle.rules.specs.Functions.{how_many}
use Rattle.rules.specs.Places.{leaves}
use Rattle.tables.specs.View.{places_of}
use Rattle.asked.proofs.stations.leaving_counts.Given as goal

abbrev pub invariant-loop-row : goal.invariant-loop-row
invariant-loop-row g l = record {
  long : length l.counts ≡ 8;
  counted : (p : ℕ) → p < 8 → get_or l.counts p 0 ≡ how_many (λ j. leaves p (places_of l.handsets j)) l.row-index;
}
