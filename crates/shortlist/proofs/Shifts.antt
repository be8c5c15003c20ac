-- A list with one element put at the end and rotated to its position.
use Rattle.std.proofs.lemmas.Bool.{cases_lt}
use Rattle.std.proofs.Common.{◌≡◌, ℕ, ◌+◌, ◌-◌, ◌<◌, ◌≤◌, min, ap₂, ⊎_elim, List, [], ◌∷◌, ◌++◌, length, take, drop, set, sym, ap, ◌∙◌, arith}
use borrow.Rule.Slice.PartMut.{put_mid}
use Rattle.std.specs.List.{between}
use Rattle.std.proofs.lemmas.List.{take_all, drop_all, take_more_set, drop-append-le, drop_at, take_at, take-take, take-set-le, length-take, length-drop, length-set, length_push}
use Rattle.std.proofs.lemmas.Slice.{between_is, take-put_mid}

module _ {X : Type 0} (xs : List X) (n at : ℕ) (x : X) (low : at ≤ n) (high : n < length xs) where
  -- the part that is rotated
  part : between at (n + 1) (set xs n x) ≡ drop at (take n xs) ++ (x ∷ [])
  part =
      between_is (set xs n x) at (n + 1)
      ∙ ap (drop at) (take_more_set xs n x high)
      ∙ drop-append-le at (take n xs) (x ∷ []) (omega (arith, length-take n xs))

  pub rotated : (ys : List X) → let p = between at (n + 1) (set xs n x) in ys ≡ drop (length p - 1) p ++ take (length p - 1) p → ys ≡ x ∷ drop at (take n xs)
  rotated ys h =
      let m = length (between at (n + 1) (set xs n x)) - 1 in
      let len : length (drop at (take n xs)) ≡ m = omega (arith, ap length part, length_push (drop at (take n xs)) x) in
      h ∙ (λ i. drop m (part i) ++ take m (part i))
      ∙ (λ i. drop_at (drop at (take n xs)) (x ∷ []) m len i ++ take_at (drop at (take n xs)) (x ∷ []) m len i)

  pub shifted : (ys : List X) (k : ℕ) → ys ≡ x ∷ drop at (take n xs) → take (n + 1) (put_mid at k (set xs n x) ys) ≡ take at (take n xs) ++ (x ∷ drop at (take n xs))
  shifted ys k h =
      let len : n + 1 ≡ at + length ys = omega (arith, ap length h, length-drop at (take n xs), length-take n xs) in
      take-put_mid at k (set xs n x) ys (n + 1) len (omega (arith, length-set xs n x))
      ∙ (λ i. (take-set-le at xs n x low ∙ sym (take-take at n xs low)) i ++ h i)

-- a position past the end is the end
pub at_end : {X : Type 0} (xs : List X) (at : ℕ) (x : X) (to : ℕ) → to ≡ min at (length xs) → take to xs ++ (x ∷ drop to xs) ≡ take at xs ++ (x ∷ drop at xs)
at_end xs at x to h =
    ⊎_elim
    (λ (l : at < length xs). let e : to ≡ at = omega arith in ap (λ n. take n xs ++ (x ∷ drop n xs)) e)
    (λ (l : length xs ≤ at).
    let e : to ≡ length xs = omega arith in
    ap (λ n. take n xs ++ (x ∷ drop n xs)) e
    ∙ ap₂ (λ a b. a ++ (x ∷ b)) (take_all (length xs) xs (omega arith) ∙ sym (take_all at xs l)) (drop_all (length xs) xs (omega arith) ∙ sym (drop_all at xs l)))
    (cases_lt at (length xs))
