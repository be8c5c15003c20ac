-- The proofs of laws of listed tallies, cited where they are said to be a kind of tally.
use Rattle.std.specs.Prelude.{◌≡◌, ℕ, ◌≤◌, true, List, length}
use Rattle.std.proofs.Common.{ap, ◌∙◌, arith}
use Rattle.std.proofs.lemmas.Bool.{and_parts, and_from, leb-true, le-leb}
use Rattle.tally.specs.declared.pair.Pair.{Pair}
use Rattle.tally.specs.Pairs.{inside}
use Rattle.tally.specs.Counts.{Counts, counted, count_of, none_above}
use Rattle.tally.proofs.Bounds.{bounded_at, bounded_from, bounded_lowered}
use Rattle.tally.proofs.Building.{Ranged, Lowers}
use Rattle.tally.proofs.Listing.{counted_lowered}
use Rattle.tally.proofs.Splitting.{counted_ranged}
use Rattle.listed.specs.Entries.{InOrder, listed_fits}

-- what a list in order counts lies in range
pub in_order_ranged : (es : List (Pair × ℕ)) → InOrder es → Ranged (count_of es)
in_order_ranged es h p o = ap (λ xs. count_of xs p) h ∙ counted_ranged (count_of es) p o

-- a list in order of at most 96 counts, none above 8,191, fits
pub in_order_fits : (es : List (Pair × ℕ)) → InOrder es → none_above 8191 (count_of es) ≡ true → length es ≤ 96 → listed_fits (count_of es) ≡ true
in_order_fits es h low few = and_from _ _ low (le-leb _ _ (omega (arith, ap length h)))

-- what fits still fits with counts lowered
pub fits_lowered : Lowers listed_fits
fits_lowered c d less h =
    let fit = and_parts (none_above 8191 c) _ h in
    and_from _ _ (bounded_lowered 8191 c d less fit.0) (le-leb _ _ (omega (arith, leb-true _ _ fit.1, counted_lowered c d less)))

-- no count above 8,191 fits
pub fits_bounded : (c : Counts) (p : Pair) → inside p ≡ true → listed_fits c ≡ true → c p ≤ 8191
fits_bounded c p i h = bounded_at 8191 c (and_parts (none_above 8191 c) _ h).0 p i

-- at most eight counts that are not 0, none above 4,096, fit
pub few_fit : (c : Counts) → counted c ≤ 8 → ((p : Pair) → inside p ≡ true → c p ≤ 4096) → listed_fits c ≡ true
few_fit c few low = and_from _ _ (bounded_from 8191 c (λ p i. omega (arith, low p i))) (le-leb _ _ (omega arith))
