-- A table of counts built up place by place, until a place at which it no longer fits.
use Rattle.std.proofs.Common.{◌≡◌, ℕ, ◌+◌, ◌<◌, ◌≤◌, Bool, true, false, cond, ltb, sym, refl, ap, ◌∙◌, ⊎_elim, arith}
use mathlib.Core.Path.{fun_ext}
use Rattle.std.proofs.lemmas.Bool.Decides.{nat_tests}
use Rattle.std.proofs.lemmas.Bool.{false_from_ne_true, cond-true, cond-false, cond_both, cases_Bool, cases_lt, ltb-true, ltb-false, lt-ltb, le-ltb, both_ways, and_from}
use Rattle.tally.specs.declared.pair.Pair.{Pair}
use Rattle.tally.specs.Pairs.{inside, pairs, same, rank, pair_at}
use Rattle.tally.specs.Counts.{Counts, none, raised, up_to}
use Rattle.tally.specs.Answers.{refuses, verdict, raises}
use Rattle.tally.proofs.Order.{rank_below, rank_at, at_rank, inside_at, same_is, same_self}
use Rattle.tally.proofs.Misfits.{first_misfit_is}

-- the counts at the places below n, the others taken as 0
abbrev pub below : Counts → ℕ → Counts
below c n p = cond (ltb (rank p) n) (c p) 0

-- nothing is counted out of range
abbrev pub Ranged : Counts → Type 0
Ranged c = (p : Pair) → inside p ≡ false → c p ≡ 0

-- what fits still fits with counts lowered
abbrev pub Lowers : (Counts → Bool) → Type 0
Lowers fits = (c d : Counts) → ((p : Pair) → inside p ≡ true → d p ≤ c p) → fits c ≡ true → fits d ≡ true

pub below_none : (c : Counts) → none ≡ below c 0
below_none c = fun_ext (λ p. sym (cond-false _ _ _ (le-ltb (rank p) 0 (omega arith))))

below_zero : (c : Counts) (n : ℕ) (p : Pair) → c p ≡ 0 → below c n p ≡ 0
below_zero c n p h = cond_both (ltb (rank p) n) _ _ (λ x. x ≡ 0) (λ _. h) (λ _. refl)

pub below_le : (c : Counts) (n : ℕ) (p : Pair) → below c n p ≤ c p
below_le c n p = cond_both (ltb (rank p) n) _ _ (λ x. x ≤ c p) (λ _. omega arith) (λ _. omega arith)

below_same : (c : Counts) (k : ℕ) (q : Pair) → (rank q ≡ k → ⊥) → below c k q ≡ below c (k + 1) q
below_same c k q h = grind (arith, nat_tests)

-- one place more
pub below_more : (c : Counts) (k : ℕ) → Ranged c → k < pairs → raised (below c k) (pair_at k) (c (pair_at k)) ≡ below c (k + 1)
below_more c k ranged within = fun_ext (λ q. ⊎_elim
    (λ (s : same q (pair_at k) ≡ true).
    let e = same_is q (pair_at k) s in
    let r : rank q ≡ k = ap rank e ∙ rank_at k within in
    let old : below c k q ≡ 0 = cond-false _ _ _ (le-ltb (rank q) k (omega arith)) in
    let new : below c (k + 1) q ≡ c q = cond-true _ _ _ (lt-ltb (rank q) (k + 1) (omega arith)) in
    cond-true _ _ _ s ∙ omega (arith, old, new, ap c e))
    (λ (s : same q (pair_at k) ≡ false).
    cond-false _ _ _ s
    ∙ ⊎_elim
    (λ i. below_same c k q (λ r. both_ways _ s (ap (λ z. same z (pair_at k)) (sym (at_rank q i) ∙ ap pair_at r) ∙ same_self (pair_at k))))
    (λ o. below_zero c k q (ranged q o) ∙ sym (below_zero c (k + 1) q (ranged q o)))
    (cases_Bool (inside q)))
    (cases_Bool (same q (pair_at k))))

-- over places that count nothing
pub below_skip : (c : Counts) (k m : ℕ) → Ranged c → k ≤ m → ((i : ℕ) → k ≤ i → i < m → c (pair_at i) ≡ 0) → below c k ≡ below c m
below_skip c k m ranged low zeros = fun_ext (λ p. ⊎_elim
    (λ (l : rank p < k). cond-true _ _ _ (lt-ltb _ _ l) ∙ sym (cond-true _ _ _ (lt-ltb (rank p) m (omega arith))))
    (λ (l : k ≤ rank p). cond-false _ _ _ (le-ltb _ _ l)
    ∙ sym (cond_both (ltb (rank p) m) _ _ (λ x. x ≡ 0)
    (λ t. ⊎_elim (λ i. ap c (sym (at_rank p i)) ∙ zeros (rank p) l (ltb-true _ _ t)) (ranged p) (cases_Bool (inside p)))
    (λ _. refl)))
    (cases_lt (rank p) k))

-- where nothing is counted from place k on, the counts below it are all
pub below_whole : (c : Counts) (k : ℕ) → Ranged c → ((i : ℕ) → k ≤ i → i < pairs → c (pair_at i) ≡ 0) → below c k ≡ c
below_whole c k ranged zeros = fun_ext (λ p. cond_both (ltb (rank p) k) _ _ (λ x. x ≡ c p)
    (λ _. refl)
    (λ t. sym (⊎_elim (λ i. ap c (sym (at_rank p i)) ∙ zeros (rank p) (ltb-false _ _ t) (rank_below p i)) (ranged p) (cases_Bool (inside p)))))

pub below_all : (c : Counts) → Ranged c → below c pairs ≡ c
below_all c ranged = below_whole c pairs ranged (λ i a b. absurd (omega arith))

-- where the counts below place k fit, and those with it do not, a call that would leave them all is refused at that place
pub stopped : {A : Type 0} (a : A) (fits : Counts → Bool) → Lowers fits → (c : Counts) (k : ℕ) → k < pairs
    → fits (below c k) ≡ true → fits (below c (k + 1)) ≡ false → verdict fits c a ≡ refuses (pair_at k)
stopped a fits lowers c k within so_far no_more =
    let up_to_below : (n : ℕ) → up_to c n ≡ below c (n + 1) = λ n. fun_ext (λ p. grind (arith, nat_tests)) in
    let misfits : fits c ≡ false = false_from_ne_true _ (λ e. both_ways _ no_more (lowers c (below c (k + 1)) (λ p i. below_le c (k + 1) p) e)) in
    cond-false _ _ _ misfits
    ∙ ap refuses (first_misfit_is fits c k within (ap fits (up_to_below k) ∙ no_more)
    (λ n l. lowers (below c k) (up_to c n) (λ p i. grind (arith, nat_tests)) so_far))

-- d holds the counts of c below place k, and p, the pair there, is raised to its count in c
module _ (c : Counts) (ranged : Ranged c) (k : ℕ) (within : k < pairs) (d : Counts) (so_far : d ≡ below c k)
    (p : Pair) (here : p ≡ pair_at k) (n : ℕ) (wanted : n ≡ c p) where
  pub raised_is : raised d p n ≡ below c (k + 1)
  raised_is = (λ i. raised (so_far i) (here i) ((wanted ∙ ap c here) i)) ∙ below_more c k ranged within

  pub refused : {A : Type 0} (a : A) (fits : Counts → Bool) → Lowers fits → fits d ≡ true → raises fits d p n ≡ false → refuses p ≡ verdict fits c a
  refused a fits lowers own h =
      let fit : fits (below c k) ≡ true = ap fits (sym so_far) ∙ own in
      let misfit : fits (below c (k + 1)) ≡ false =
      ap fits (sym raised_is) ∙ false_from_ne_true _ (λ t. both_ways _ h (and_from _ _ (ap inside here ∙ inside_at k) t)) in
      ap refuses here ∙ sym (stopped a fits lowers c k within fit misfit)

pub ranged_raised : (c : Counts) (p : Pair) (n : ℕ) → inside p ≡ true → Ranged c → Ranged (raised c p n)
ranged_raised c p n i ranged q o =
    cond-false _ _ _ (false_from_ne_true _ (λ s. both_ways _ o (ap inside (same_is q p s) ∙ i))) ∙ ranged q o
