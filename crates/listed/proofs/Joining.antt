-- Two listed tallies merged.
use Rattle.std.specs.Prelude.{◌≡◌, ℕ, ◌+◌, cond, List, [], ◌∷◌, ◌++◌, length, drop, Some, None}
use Rattle.std.proofs.Common.{ap, ◌∙◌, arith}
use Rattle.tally.specs.declared.pair.Pair.{Pair}
use Rattle.tally.specs.Pairs.{rank}
use Rattle.tally.specs.Counts.{Counts, none, larger, counted_pairs, count_of}
use Rattle.tally.specs.Answers.{refuses, verdict}
use Rattle.tally.proofs.Bounds.{bounded_lowered, bounded_larger}
use Rattle.tally.proofs.Building.{below, below_le, Ranged}
use Rattle.tally.proofs.Listing.{none_counted}
use Rattle.listed.specs.declared.entries.Listed.{Listed}
use Rattle.listed.specs.Entries.{listed_fits}
use Rattle.listed.specs.Listing.{listed}
use Rattle.listed.specs.Merging.{merged_front, heads}
use Rattle.listed.specs.Laws.{in_order_ranged}
use Rattle.listed.proofs.Keeping.{Kept, kept}
use Rattle.listed.proofs.Merges.{Merging, merging_none, merging_more, merging_stops, merging_all}

-- a tally that counts nothing lists nothing
lists_nothing : (t : Listed) → count_of (listed t) ≡ none → listed t ≡ []
lists_nothing t e = t.ordered ∙ ap counted_pairs e ∙ none_counted

module _ (t u : Listed) where
  abbrev c : Counts
  c = count_of (listed t)

  abbrev d : Counts
  d = count_of (listed u)

  ranged_c : Ranged c
  ranged_c = in_order_ranged (listed t) t.ordered

  ranged_d : Ranged d
  ranged_d = in_order_ranged (listed u) u.ordered

  pub begun : (xs ys : List (Pair × ℕ)) → xs ≡ listed t → ys ≡ listed u → (blank : Listed) → count_of (listed blank) ≡ none → Merging c d xs ys (listed blank) 0
  begun xs ys e f blank g =
      let nothing = lists_nothing blank g in
      let begin = merging_none c d ranged_c ranged_d xs ys (e ∙ t.ordered) (f ∙ u.ordered) in
      record { left = begin.left; right = begin.right; done = nothing ∙ begin.done }

  -- what is merged up to a place may be a tally's list
  so_kept : (a b merged : List (Pair × ℕ)) (m : ℕ) → Merging c d a b merged m → Kept merged (below (larger c d) m)
  so_kept a b merged m so_far =
      kept (below (larger c d) m)
      (λ p o. omega (arith, below_le (larger c d) m p, ranged_c p o, ranged_d p o))
      (bounded_lowered 8191 (larger c d) (below (larger c d) m) (λ p i. below_le (larger c d) m p) (bounded_larger 8191 c d t.low u.low))
      merged so_far.done

  module _ (a b merged : List (Pair × ℕ)) (m : ℕ) (so_far : Merging c d a b merged m) where
    module _ (e : Pair × ℕ) (front : merged_front a b ≡ Some e) where
      pub goes_on : Merging c d (cond (heads e.0 a) (drop 1 a) a) (cond (heads e.0 b) (drop 1 b) b) (merged ++ e ∷ []) (rank e.0 + 1)
      goes_on = merging_more c d ranged_c ranged_d a b merged m so_far e.0 e.1 front

      pub next_kept : Kept (merged ++ e ∷ []) (below (larger c d) (rank e.0 + 1))
      next_kept = so_kept _ _ _ _ goes_on

      pub stops : length merged ≡ 96 → refuses {A = Unit {0}} e.0 ≡ verdict listed_fits (larger c d) tt
      stops = merging_stops c d ranged_c ranged_d a b merged m so_far e.0 e.1 front t.low u.low

    pub ends : merged_front a b ≡ None → merged ≡ counted_pairs (larger c d)
    ends = merging_all c d ranged_c ranged_d a b merged m so_far

  -- a tally that lists the merged counts counts them
  pub joined : (new : Listed) → listed new ≡ counted_pairs (larger c d) → Kept (listed new) (larger c d)
  joined new e =
      kept (larger c d) (λ p o. omega (arith, ranged_c p o, ranged_d p o)) (bounded_larger 8191 c d t.low u.low) (listed new) e
