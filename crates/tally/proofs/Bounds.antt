-- Tables in which no count is above a number.
use Rattle.std.proofs.Common.{◌≡◌, ℕ, ◌<◌, ◌≤◌, max, Bool, true, false, leb, Decides, refl, arith}
use Rattle.std.proofs.lemmas.Bool.{false_from_ne_true, leb-true, le-leb, cond_both, cond-true}
use Rattle.std.proofs.lemmas.Bool.Decides.{Decides-below_and}
use Rattle.tally.specs.declared.pair.Pair.{Pair}
use Rattle.tally.specs.Pairs.{inside, pairs, same, pair_at}
use Rattle.tally.specs.Counts.{Counts, raised, larger, every, none_above}
use Rattle.tally.proofs.Order.{inside_at, at_pairs, same_self}

decides_none_above : (m : ℕ) (c : Counts) → Decides (none_above m c) ((n : ℕ) → n < pairs → c (pair_at n) ≤ m)
unfolding none_above
decides_none_above m c =
    let f : ℕ → Bool = λ n. leb (c (pair_at n)) m in
    Decides-below_and f (λ n. c (pair_at n) ≤ m) (every f) (λ n. (leb-true _ _, le-leb _ _)) refl (λ n. refl) pairs

pub bounded_at : (m : ℕ) (c : Counts) → none_above m c ≡ true → (p : Pair) → inside p ≡ true → c p ≤ m
bounded_at m c h = at_pairs (λ p. c p ≤ m) ((decides_none_above m c).0 h)

pub bounded_from : (m : ℕ) (c : Counts) → ((p : Pair) → inside p ≡ true → c p ≤ m) → none_above m c ≡ true
bounded_from m c h = (decides_none_above m c).1 (λ n l. h (pair_at n) (inside_at n))

pub bounded_lowered : (m : ℕ) (c d : Counts) → ((p : Pair) → inside p ≡ true → d p ≤ c p) → none_above m c ≡ true → none_above m d ≡ true
bounded_lowered m c d less h = bounded_from m d (λ p i. omega (arith, less p i, bounded_at m c h p i))

pub bounded_raised : (m : ℕ) (c : Counts) (p : Pair) (n : ℕ) → n ≤ m → none_above m c ≡ true → none_above m (raised c p n) ≡ true
bounded_raised m c p n low h =
    bounded_from m (raised c p n)
    (λ q i. let l = bounded_at m c h q i in cond_both (same q p) _ _ (λ x. x ≤ m) (λ _. omega arith) (λ _. l))

pub bounded_larger : (m : ℕ) (c d : Counts) → none_above m c ≡ true → none_above m d ≡ true → none_above m (larger c d) ≡ true
bounded_larger m c d h k = bounded_from m (larger c d) (λ q i. omega (arith, bounded_at m c h q i, bounded_at m d k q i))

-- a kind that fits no count above 8,191 fits no raise above it
pub raise_above : (fits : Counts → Bool) → ((c : Counts) (p : Pair) → inside p ≡ true → fits c ≡ true → c p ≤ 8191)
    → (c : Counts) (p : Pair) (n : ℕ) → inside p ≡ true → 8191 < n → fits (raised c p n) ≡ false
raise_above fits bounds c p n i high =
    false_from_ne_true _ (λ e. omega (arith, bounds (raised c p n) p i e, cond-true (same p p) (max (c p) n) (c p) (same_self p)))
