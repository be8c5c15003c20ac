-- The counted pairs of a table in parts: those before a place of the order, and those from it on.
use Rattle.std.proofs.Common.{◌≡◌, ℕ, zero, suc, ◌+◌, ◌-◌, ◌<◌, ◌≤◌, max, true, false, cond, eqb, List, [], ◌∷◌, ◌++◌, sym, refl, ap, ◌∙◌, ap₂, ⊎_elim, add-zero, zero-add, arith}
use mathlib.Core.Path.{fun_ext}
use Rattle.std.proofs.lemmas.List.{append-nil}
use Rattle.std.proofs.lemmas.Bool.{false_from_ne_true, cond-true, cond-false, cond_both, cases_Bool, eqb-true, both_ways}
use Rattle.tally.specs.declared.pair.Pair.{Pair}
use Rattle.tally.specs.Pairs.{inside, pairs, same, rank, pair_at}
use Rattle.tally.specs.Counts.{Counts, raised, counted_from, counted_pairs, counted_on, count_of}
use Rattle.tally.proofs.Order.{inside_at, rank_at, at_rank, rank_below, not_same, same_is, same_self}
use Rattle.tally.proofs.Building.{Ranged}
use Rattle.tally.proofs.Listing.{rest_here, rest_past, rest_skip}

-- the counted pairs before place k
abbrev pub before : Counts → ℕ → List (Pair × ℕ)
before c k = counted_from c 0 k

-- tables that agree at some places have the same counted pairs there
from_same : (c d : Counts) (k n : ℕ) → ((i : ℕ) → k ≤ i → i < k + n → c (pair_at i) ≡ d (pair_at i)) → counted_from c k n ≡ counted_from d k n
from_same c d k zero h = refl
from_same c d k (suc n) h =
    let here = h k (omega arith) (omega arith) in
    let later = from_same c d (suc k) n (λ i a b. h i (omega arith) (omega arith)) in
    λ i. cond (eqb (here i) 0) (later i) ((pair_at k, here i) ∷ later i)

from_parts : (c : Counts) (k m n : ℕ) → counted_from c k (m + n) ≡ counted_from c k m ++ counted_from c (k + m) n
from_parts c k zero n = ap₂ (counted_from c) (sym (add-zero k)) (zero-add n)
from_parts c k (suc m) n =
    let e : suc m + n ≡ suc (m + n) = omega arith in
    let f : suc k + m ≡ k + suc m = omega arith in
    let later : counted_from c (suc k) (m + n) ≡ counted_from c (suc k) m ++ counted_from c (k + suc m) n =
    from_parts c (suc k) m n ∙ ap (λ j. counted_from c (suc k) m ++ counted_from c j n) f in
    ap (counted_from c k) e
    ∙ elim (eqb (c (pair_at k)) 0) as (λ b.
    cond b (counted_from c (suc k) (m + n)) ((pair_at k, c (pair_at k)) ∷ counted_from c (suc k) (m + n))
    ≡ cond b (counted_from c (suc k) m) ((pair_at k, c (pair_at k)) ∷ counted_from c (suc k) m) ++ counted_from c (k + suc m) n)
    [ true ↦ later | false ↦ ap (λ xs. (pair_at k, c (pair_at k)) ∷ xs) later ]

-- tables that agree from a place on have the same counted pairs from there on
pub rest_same : (c d : Counts) (k : ℕ) → ((i : ℕ) → k ≤ i → i < pairs → c (pair_at i) ≡ d (pair_at i)) → counted_on c k ≡ counted_on d k
unfolding counted_on
rest_same c d k h = from_same c d k (pairs - k) (λ i a b. h i a (omega arith))

pub parts : (c : Counts) (k : ℕ) → k ≤ pairs → counted_pairs c ≡ before c k ++ counted_on c k
unfolding counted_on counted_pairs
parts c k h =
    let e : pairs ≡ k + (pairs - k) = omega arith in
    ap (counted_from c 0) e ∙ from_parts c 0 k (pairs - k) ∙ ap (λ j. before c k ++ counted_from c j (pairs - k)) (zero-add k)

module _ (c : Counts) (p : Pair) (i : inside p ≡ true) (n : ℕ) where
  here : raised c p n p ≡ max (c p) n
  here = cond-true _ _ _ (same_self p)

  elsewhere : (k : ℕ) → k < pairs → (k ≡ rank p → ⊥) → raised c p n (pair_at k) ≡ c (pair_at k)
  elsewhere k h ne = cond-false _ _ _ (not_same (pair_at k) p (λ e. ne (sym (rank_at k h) ∙ e)))

  -- a raised pair stands between the counted pairs before it and those after it
  pub raised_between : 0 < max (c p) n → counted_pairs (raised c p n) ≡ before c (rank p) ++ ((p, max (c p) n) ∷ counted_on c (rank p + 1))
  raised_between some =
      let low = rank_below p i in
      let at : pair_at (rank p) ≡ p = at_rank p i in
      let counts : raised c p n (pair_at (rank p)) ≡ max (c p) n = ap (raised c p n) at ∙ here in
      parts (raised c p n) (rank p) (omega arith)
      ∙ ap₂ ◌++◌
      (from_same (raised c p n) c 0 (rank p) (λ k a b. elsewhere k (omega arith) (λ e. omega arith)))
      (rest_here (raised c p n) (rank p) low (λ z. omega (arith, z, counts))
      ∙ (λ j. (at j, counts j) ∷ counted_on (raised c p n) (rank p + 1))
      ∙ ap (λ xs. (p, max (c p) n) ∷ xs)
      (rest_same (raised c p n) c (rank p + 1) (λ k a b. elsewhere k b (λ e. omega arith))))

  -- a pair raised past all that are counted comes last
  pub raised_last : 0 < n → ((k : ℕ) → rank p ≤ k → k < pairs → c (pair_at k) ≡ 0) → counted_pairs (raised c p n) ≡ counted_pairs c ++ (p, n) ∷ []
  raised_last some zeros =
      let low = rank_below p i in
      let none : c p ≡ 0 = ap c (sym (at_rank p i)) ∙ zeros (rank p) (omega arith) low in
      let is : max (c p) n ≡ n = omega (arith, none) in
      let past : (k : ℕ) → k ≤ pairs → rank p ≤ k → counted_on c k ≡ [] =
      λ k h l. rest_skip c k pairs h (omega arith) (λ j a b. zeros j (omega arith) b) ∙ rest_past c pairs (omega arith) in
      let all : counted_pairs c ≡ before c (rank p) =
      parts c (rank p) (omega arith) ∙ ap (λ xs. before c (rank p) ++ xs) (past (rank p) (omega arith) (omega arith)) ∙ append-nil _ in
      raised_between (omega (arith, is))
      ∙ (λ j. before c (rank p) ++ ((p, is j) ∷ past (rank p + 1) (omega arith) (omega arith) j))
      ∙ ap (λ xs. xs ++ (p, n) ∷ []) (sym all)

-- what a table's own counted pairs count, looked up among those of n places from k on
module _ (c : Counts) (p : Pair) where
  -- a pair that is at none of the places
  absent : (n k : ℕ) → k + n ≤ pairs → ((j : ℕ) → k ≤ j → j < k + n → same p (pair_at j) ≡ false) → count_of (counted_from c k n) p ≡ 0
  absent zero k h others = refl
  absent (suc n) k h others =
      let later = absent n (suc k) (omega arith) (λ j a b. others j (omega arith) (omega arith)) in
      cond_both (eqb (c (pair_at k)) 0) _ _ (λ xs. count_of xs p ≡ 0)
      (λ _. later)
      (λ _. cond-false _ _ _ (others k (omega arith) (omega arith)) ∙ later)

  present : inside p ≡ true → (n k : ℕ) → k + n ≡ pairs → k ≤ rank p → count_of (counted_from c k n) p ≡ c p
  present i zero k e l = absurd (omega (arith, rank_below p i))
  present i (suc n) k e l =
      ⊎_elim
      (λ (s : same p (pair_at k) ≡ true).
      let is : c p ≡ c (pair_at k) = ap c (same_is p (pair_at k) s) in
      let r : rank p ≡ k = ap rank (same_is p (pair_at k) s) ∙ rank_at k (omega arith) in
      cond_both (eqb (c (pair_at k)) 0) _ _ (λ xs. count_of xs p ≡ c p)
      (λ z. absent n (suc k) (omega arith) (λ j a b. not_same p (pair_at j) (λ q. omega (arith, r, q, rank_at j (omega arith)))) ∙ sym (is ∙ eqb-true _ _ z))
      (λ z. cond-true _ _ _ s ∙ sym is))
      (λ (s : same p (pair_at k) ≡ false).
      let ne : rank p ≡ k → ⊥ = λ r. both_ways _ s (ap (same p) (ap pair_at (sym r) ∙ at_rank p i) ∙ same_self p) in
      let later = present i n (suc k) (omega arith) (omega (arith, ne)) in
      cond_both (eqb (c (pair_at k)) 0) _ _ (λ xs. count_of xs p ≡ c p) (λ _. later) (λ _. cond-false _ _ _ s ∙ later))
      (cases_Bool (same p (pair_at k)))

-- counted pairs are in range
pub counted_ranged : (c : Counts) → Ranged (count_of (counted_pairs c))
unfolding counted_pairs
counted_ranged c p o =
    absent c p pairs 0 (omega arith) (λ j a b. false_from_ne_true _ (λ s. both_ways _ o (ap inside (same_is p (pair_at j) s) ∙ inside_at j)))

-- a table is what its counted pairs count
pub count_of_counted : (c : Counts) → Ranged c → count_of (counted_pairs c) ≡ c
unfolding counted_pairs
count_of_counted c ranged = fun_ext (λ p. ⊎_elim
    (λ i. present c p i pairs 0 (omega arith) (omega arith))
    (λ o. counted_ranged c p o ∙ sym (ranged p o))
    (cases_Bool (inside p)))
