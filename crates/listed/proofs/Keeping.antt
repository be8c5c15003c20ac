-- A list that holds the counted pairs of a table in order.
use Rattle.std.specs.Prelude.{◌≡◌, ℕ, ◌≤◌, true, List, [], length}
use Rattle.std.proofs.Common.{sym, refl, ap, ◌∙◌, arith}
use Rattle.tally.specs.declared.pair.Pair.{Pair}
use Rattle.tally.specs.Counts.{Counts, none, counted_pairs, count_of, none_above}
use Rattle.tally.proofs.Bounds.{bounded_from}
use Rattle.tally.proofs.Building.{Ranged}
use Rattle.tally.proofs.Listing.{none_counted}
use Rattle.tally.proofs.Splitting.{count_of_counted}
use Rattle.listed.specs.Entries.{InOrder, listed_fits}
use Rattle.listed.specs.Laws.{in_order_fits}

pub none_low : none_above 8191 none ≡ true
none_low = bounded_from 8191 none (λ p i. omega arith)

-- a list that may be a tally's, and counts what the table c does
pub record Kept (es : List (Pair × ℕ)) (c : Counts) : Type 0 where
  pub ordered : InOrder es
  pub low : none_above 8191 (count_of es) ≡ true
  pub counts : count_of es ≡ c

-- the counted pairs of a table are such a list
pub kept : (c : Counts) → Ranged c → none_above 8191 c ≡ true → (es : List (Pair × ℕ)) → es ≡ counted_pairs c → Kept es c
kept c ranged low es lists =
    let counts : count_of es ≡ c = ap count_of lists ∙ count_of_counted c ranged in
    record { ordered = lists ∙ ap counted_pairs (sym counts); low = ap (none_above 8191) counts ∙ low; counts = counts }

-- an empty list is that of the tally that counts nothing
pub nothing_kept : (es : List (Pair × ℕ)) → es ≡ [] → Kept es none
nothing_kept es e = kept none (λ p o. refl) none_low es (e ∙ sym none_counted)

pub kept_fits : {es : List (Pair × ℕ)} {c : Counts} → Kept es c → length es ≤ 96 → listed_fits c ≡ true
kept_fits {es} k few = ap listed_fits (sym k.counts) ∙ in_order_fits es k.ordered k.low few
