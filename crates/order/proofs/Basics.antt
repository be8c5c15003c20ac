-- Small facts about tables, counts and numbers.
use Rattle.std.proofs.Common.{◌≡◌, ℕ, zero, suc, ◌<◌, ◌≤◌, max, Bool, true, false, eqb, ◌≢◌, ◌⊎◌, sym, refl, ap, ◌∙◌, inl, inr, ⊎_elim, not-suc-le-zero, arith}
use mathlib.Core.Path.{subst⁻¹, fun_ext}
use Rattle.std.proofs.lemmas.Bool.{eq-eqb, ne_eqb, eqb-true, eqb-false, cond_both, cond-true, cond-false, cases_eq, cases_lt, and_parts, and_from}
use Rattle.tally.specs.declared.pair.Pair.{Pair}
use Rattle.tally.specs.Pairs.{same}
use Rattle.tally.specs.Counts.{Counts, raised, larger}
use Rattle.tally.proofs.Order.{same_is, same_self}
use Rattle.rules.specs.Functions.{updated, all_below, bit}

pub lt_next : {m u : ℕ} → m < suc u → (m < u) ⊎ (m ≡ u)
lt_next {m} {u} h = ⊎_elim (λ e. inr e) (λ e. inl (omega arith)) (cases_eq m u)

-- a number that is not above 0 is 0
pub zero_since : (n : ℕ) → (0 < n → ⊥) → n ≡ 0
zero_since n f = ⊎_elim (λ e. e) (λ (ne : n ≢ 0). absurd (f (omega arith))) (cases_eq n 0)

-- a table with one entry changed: that entry, another one, and whatever holds of both
module _ {A : Type 0} where
  pub updated_here : (f : ℕ → A) (i : ℕ) (a : A) → updated f i a i ≡ a
  updated_here f i a = cond-true _ _ _ (eq-eqb i i refl)

  pub updated_off : (f : ℕ → A) (i : ℕ) (a : A) (n : ℕ) → n ≢ i → updated f i a n ≡ f n
  updated_off f i a n h = cond-false _ _ _ (ne_eqb n i h)

  pub updated_both : (P : A → Type 0) (f : ℕ → A) (i : ℕ) (a : A) (n : ℕ) → (n ≡ i → P a) → (n ≢ i → P (f n)) → P (updated f i a n)
  updated_both P f i a n h k = cond_both (eqb n i) a (f n) P (λ e. h (eqb-true n i e)) (λ e. k (eqb-false n i e))

  pub updated_id : (f : ℕ → A) (i : ℕ) → updated f i (f i) ≡ f
  updated_id f i = fun_ext (λ n. updated_both (λ a. a ≡ f n) f i (f i) n (λ e. ap f (sym e)) (λ e. refl))

-- c counts of every pair at most what d counts
abbrev pub AtMost : Counts → Counts → Type 0
AtMost c d = (q : Pair) → c q ≤ d q

-- where a table of counts changes at one station to counts that are no smaller, no count falls
pub grows : (f : ℕ → Counts) (l : ℕ) (c : Counts) → AtMost (f l) c → (p : ℕ) → AtMost (f p) (updated f l c p)
grows f l c g p q = updated_both (λ d. f p q ≤ d q) f l c p (λ e. subst⁻¹ (λ y. f y q ≤ c q) e (g q)) (λ e. omega arith)

pub larger_left : (c d : Counts) → AtMost c (larger c d)
larger_left c d q = omega arith

pub larger_right : (c d : Counts) → AtMost d (larger c d)
larger_right c d q = omega arith

-- what is below the larger of two counts is below one of them
pub below_larger : (c d : Counts) (q : Pair) (n : ℕ) → n < larger c d q → (n < c q) ⊎ (n < d q)
below_larger c d q n h = ⊎_elim (λ l. inl l) (λ (l : c q ≤ n). inr (omega arith)) (cases_lt n (c q))

pub raised_grows : (c : Counts) (q : Pair) (v : ℕ) → AtMost c (raised c q v)
raised_grows c q v x = cond_both (same x q) (max (c x) v) (c x) (λ z. c x ≤ z) (λ e. omega arith) (λ e. omega arith)

pub raised_here : (c : Counts) (q : Pair) (v : ℕ) → v ≤ raised c q v q
raised_here c q v = omega (arith, cond-true (same q q) (max (c q) v) (c q) (same_self q))

-- what is below a raised count was below it before, or is below what one pair was raised to
pub below_raised : (c : Counts) (q : Pair) (v : ℕ) (x : Pair) (n : ℕ) → n < raised c q v x → (n < c x) ⊎ ((x ≡ q) × (n < v))
below_raised c q v x n = cond_both (same x q) (max (c x) v) (c x) (λ z. n < z → (n < c x) ⊎ ((x ≡ q) × (n < v)))
    (λ e h. ⊎_elim (λ l. inl l) (λ (l : c x ≤ n). inr (same_is x q e, omega arith)) (cases_lt n (c x))) (λ e h. inl h)

pub all_below_at : (p : ℕ → Bool) (n : ℕ) → all_below p n ≡ true → (i : ℕ) → i < n → p i ≡ true
unfolding all_below
all_below_at p zero e i h = absurd (not-suc-le-zero h)
all_below_at p (suc n) e i h =
    let q = and_parts (all_below p n) (p n) e in
    ⊎_elim (λ l. all_below_at p n q.0 i l) (λ k. ap p k ∙ q.1) (lt_next h)

pub all_below_from : (p : ℕ → Bool) (n : ℕ) → ((i : ℕ) → i < n → p i ≡ true) → all_below p n ≡ true
unfolding all_below
all_below_from p zero h = refl
all_below_from p (suc n) h = and_from _ _ (all_below_from p n (λ i l. h i (omega arith))) (h n (omega arith))

pub bit_true : (b : Bool) → 0 < bit b → b ≡ true
bit_true true h = refl
bit_true false h = absurd (not-suc-le-zero h)
