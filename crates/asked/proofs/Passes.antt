-- Of how many numbers a test holds, and what a yes to every number below a given one or to everything in a list says.
use Rattle.std.proofs.Common.{◌≡◌, ℕ, zero, suc, ◌+◌, ◌<◌, ◌≤◌, Bool, true, false, List, [], ◌∷◌, length, get_or, refl, ap, subst, ⊎_elim, add-one, arith, lit≤}
use mathlib.Core.Path.{subst⁻¹}
use Rattle.std.proofs.lemmas.Bool.{cases_eq, and_parts, false≢true}
use Rattle.std.specs.List.{list_all}
use Rattle.rules.specs.Functions.{all_below, how_many, bit, any, front}

bit_few : (b : Bool) → bit b ≤ 1
bit_few true = lit≤ tt
bit_few false = lit≤ tt

-- numbers below a given one
module _ (p : ℕ → Bool) where
  -- a yes to all is a yes to each
  pub below_at : (n : ℕ) → all_below p n ≡ true → (i : ℕ) → i < n → p i ≡ true
  unfolding all_below
  below_at zero e i l = let b : ⊥ = omega arith in absurd b
  below_at (suc n) e i l =
      let both = and_parts (all_below p n) (p n) e in
      ⊎_elim (λ k. subst⁻¹ (λ m. p m ≡ true) k both.1) (λ ne. below_at n both.0 i (omega arith)) (cases_eq i n)

  pub many_none : 0 ≡ how_many p 0
  unfolding how_many
  many_none = refl

  pub many_more : (i n k : ℕ) → k ≡ bit (p i) → n ≡ how_many p i → n + k ≡ how_many p (i + 1)
  unfolding how_many
  many_more i n k e h = rw add-one (omega arith)

  pub many_few : (n : ℕ) → how_many p n ≤ n
  unfolding how_many
  many_few zero = lit≤ tt
  many_few (suc n) = let r = many_few n in let o = bit_few (p n) in omega arith

  -- where one does not pass, fewer pass than there are
  pub many_less : (n i : ℕ) → i < n → p i ≡ false → how_many p n < n
  unfolding how_many
  many_less zero i l f = let b : ⊥ = omega arith in absurd b
  many_less (suc n) i l f =
      ⊎_elim
      (λ (e : i ≡ n). let r = many_few n in let z : bit (p n) ≡ 0 = ap bit (subst (λ k. p k ≡ false) e f) in omega arith)
      (λ ne. let r = many_less n i (omega arith) f in let o = bit_few (p n) in omega arith)
      (cases_eq i n)

-- everything in a list
module _ {X : Type 0} (p : X → Bool) where
  -- a yes to all is a yes to each
  pub in_at : (xs : List X) → list_all p xs ≡ true → (i : ℕ) → i < length xs → (d : X) → p (get_or xs i d) ≡ true
  in_at [] e i l d = let b : ⊥ = omega arith in absurd b
  in_at (x ∷ xs) e zero l d = (and_parts (p x) (list_all p xs) e).0
  in_at (x ∷ xs) e (suc i) l d = in_at xs (and_parts (p x) (list_all p xs) e).1 i (omega arith) d

  pub in_front : (xs : List X) → list_all p xs ≡ true → any xs ≡ true → (d : X) → p (front d xs) ≡ true
  in_front [] e a d = absurd (false≢true a)
  in_front (x ∷ xs) e a d = (and_parts (p x) (list_all p xs) e).0
