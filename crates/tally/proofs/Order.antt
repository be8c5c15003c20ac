-- Pairs and their places in the order.
use Rattle.std.proofs.Common.{◌≡◌, ℕ, ◌+◌, ◌/◌, ◌%◌, ◌<◌, true, false, eqb, leb, sym, refl, ap, ◌∙◌, subst, arith}
use Rattle.std.proofs.lemmas.Bool.{false_from_ne_true, cond-true, and_parts, and_from, ltb-true, lt-ltb, eqb-true, eq-eqb}
use Rattle.std.proofs.lemmas.Bool.Decides.{nat_tests}
use Rattle.tally.specs.declared.pair.Pair.{Pair}
use Rattle.tally.specs.Pairs.{inside, pairs, same, at_or_after, rank, pair_at, start, after}

pub station_below : (p : Pair) → inside p ≡ true → p.station < 8
station_below p h = ltb-true _ _ (and_parts _ _ h).0

pub handset_below : (p : Pair) → inside p ≡ true → p.handset < 32
handset_below p h = ltb-true _ _ (and_parts _ _ h).1

pub is_inside : (p : Pair) → p.station < 8 → p.handset < 32 → inside p ≡ true
is_inside p s h = and_from _ _ (lt-ltb _ _ s) (lt-ltb _ _ h)

pub rank_below : (p : Pair) → inside p ≡ true → rank p < pairs
rank_below p h = omega (arith, station_below p h, handset_below p h)

pub inside_at : (n : ℕ) → inside (pair_at n) ≡ true
inside_at n = is_inside (pair_at n) (omega arith) (omega arith)

pub rank_at : (n : ℕ) → n < pairs → rank (pair_at n) ≡ n
rank_at n h = omega arith

pub at_rank : (p : Pair) → inside p ≡ true → pair_at (rank p) ≡ p
at_rank p h =
    let s : rank p / 32 % 8 ≡ p.station = omega (arith, station_below p h, handset_below p h) in
    let t : rank p % 32 ≡ p.handset = omega (arith, handset_below p h) in
    λ i. record { station = s i; handset = t i }

pub same_is : (p q : Pair) → same p q ≡ true → p ≡ q
same_is p q h =
    let s = eqb-true _ _ (and_parts (eqb p.station q.station) _ h).0 in
    let t = eqb-true _ _ (and_parts (eqb p.station q.station) _ h).1 in
    λ i. record { station = s i; handset = t i }

pub same_self : (p : Pair) → same p p ≡ true
same_self p = and_from _ _ (eq-eqb p.station _ refl) (eq-eqb p.handset _ refl)

pub not_same : (p q : Pair) → (rank p ≡ rank q → ⊥) → same p q ≡ false
not_same p q h = false_from_ne_true _ (λ s. h (ap rank (same_is p q s)))

pub same_rank : (p q : Pair) → inside p ≡ true → inside q ≡ true → rank p ≡ rank q → p ≡ q
same_rank p q i j e = sym (at_rank p i) ∙ ap pair_at e ∙ at_rank q j

-- what holds at each place holds at each pair in range
pub at_pairs : (P : Pair → Type 0) → ((n : ℕ) → n < pairs → P (pair_at n)) → (p : Pair) → inside p ≡ true → P p
at_pairs P h p i = subst P (at_rank p i) (h (rank p) (rank_below p i))

-- the order, by places
pub from_start : (p q : Pair) → inside q ≡ true → at_or_after p q ≡ leb (start p) (rank q)
from_start p q i = let s = station_below q i in let h = handset_below q i in grind (arith, nat_tests)

-- the pair after one in range starts one place on
pub start_after : (q : Pair) → inside q ≡ true → start (after q) ≡ rank q + 1
start_after q i =
    let low = handset_below q i in
    ap start (cond-true _ _ _ (lt-ltb q.handset 255 (omega arith))) ∙ omega arith
