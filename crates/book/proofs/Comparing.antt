-- Comparing handed counts with tags, station by station and name by name.
use Rattle.std.proofs.Common.{◌≡◌, ℕ, zero, suc, ◌+◌, ◌<◌, ◌≤◌, Bool, true, false, cond, leb, ltb, List, length, get_or, Some, None, sym, refl, ap, ◌∙◌, subst, add-one, arith}
use Rattle.std.specs.List.{position, position_or_len}
use Rattle.std.proofs.lemmas.List.Sums.{position_or_len_is}
use Rattle.std.proofs.lemmas.Bool.{lt-leb, le-leb, lt-ltb, le-ltb, cond-true, cond-false, and_from, and_left, and_right}
use Rattle.tally.specs.Counts.{Counts}
use Rattle.rules.specs.Functions.{all_below}
use Rattle.rules.specs.Sound.{on}
use Rattle.book.specs.Ripening.{ripe_for}

-- a test that fails somewhere does not hold of all
falls_short : (p : ℕ → Bool) (n i : ℕ) → i < n → p i ≡ false → all_below p n ≡ false
unfolding all_below
falls_short p zero i h e = let b : ⊥ = omega arith in absurd b
falls_short p (suc n) i h e =
    mathlib.Core.Logic.⊎_elim
    (λ (lt : i < n). and_left (all_below p n) (p n) (falls_short p n i lt e))
    (λ (le : n ≤ i). let same : i ≡ n = omega arith in and_right (all_below p n) (p n) (subst (λ k. p k ≡ false) same e))
    (Rattle.std.proofs.lemmas.Bool.cases_lt i n)

module _ (handed : ℕ → ℕ) (j : ℕ) (tag : Counts) where
  pub ripe_none : ripe_for 0 handed j tag ≡ true
  unfolding ripe_for all_below
  ripe_none = refl

  -- one more station is compared
  pub ripe_more : (i : ℕ) → tag (on i j) ≤ handed i → ripe_for i handed j tag ≡ true → ripe_for (i + 1) handed j tag ≡ true
  unfolding ripe_for all_below
  ripe_more i l e = rw add-one (and_from (all_below _ i) _ e (le-leb (tag (on i j)) (handed i) l))

  -- a station falls short
  pub ripe_short : (i n : ℕ) → i < n → handed i < tag (on i j) → ripe_for n handed j tag ≡ false
  unfolding ripe_for
  ripe_short i n h l = falls_short (λ k. leb (tag (on k j)) (handed k)) n i h (lt-leb (tag (on i j)) (handed i) l)

  -- all are compared
  pub ripe_all : (i n : ℕ) → i ≤ n → n ≤ i → ripe_for i handed j tag ≡ true → ripe_for n handed j tag ≡ true
  ripe_all i n a b e = let same : i ≡ n = omega arith in subst (λ k. ripe_for k handed j tag ≡ true) same e

-- the search for the first that passes a test
module _ {X : Type 0} (p : X → Bool) (xs : List X) (d : X) where
  pub first_found : (i : ℕ) → i < length xs → ((k : ℕ) → k < i → p (get_or xs k d) ≡ false) → p (get_or xs i d) ≡ true → Some i ≡ position p xs
  first_found i l below here =
      let e : position_or_len p xs ≡ i = position_or_len_is p xs i d (omega arith) below (λ _. here) in
      sym (ap (λ k. cond (ltb k (length xs)) (Some k) None) e ∙ cond-true (ltb i (length xs)) (Some i) None (lt-ltb i (length xs) l))

  pub none_found : (i : ℕ) → length xs ≤ i → ((k : ℕ) → k < i → p (get_or xs k d) ≡ false) → None ≡ position p xs
  none_found i l below =
      let e : position_or_len p xs ≡ length xs = position_or_len_is p xs (length xs) d (omega arith) (λ k h. below k (omega arith)) (λ h. absurd (omega arith)) in
      sym (ap (λ k. cond (ltb k (length xs)) (Some k) None) e ∙ cond-false (ltb (length xs) (length xs)) (Some (length xs)) None (le-ltb (length xs) (length xs) (omega arith)))
