-- Closing up where one is taken out of a queue.
--
--   left    what is left of what stood
--   Closed  after that: the places begin with what is left and are else as they were, what is left stands there, and the
--           places past the queue's length are as they were
--   closed  so it is where the later ones are copied one place down
use Rattle.std.proofs.Common.{◌≡◌, ℕ, ◌+◌, ◌-◌, ◌<◌, min, List, length, drop, ap, ◌∙◌, arith, rules}
use lib.Seq.{paste}
use Rattle.std.specs.List.{copy_within}
use Rattle.std.proofs.lemmas.List.{places, same_lists, length-take, take_at}
use Rattle.std.proofs.lemmas.Slice.{drop-append-drop}
use Rattle.queue.specs.Standing.{standing, without_at, with_front}

module _ {X : Type 0} (xs : List X) (len at : ℕ) where
  abbrev taken : ℕ
  taken = min len (length xs)

  abbrev left : List X
  left = without_at (standing len xs) at

  pub record Closed (n : ℕ) (ys : List X) : Type 0 where
    pub leaves : ys ≡ with_front left xs
    pub stands : standing (n - 1) ys ≡ left
    pub keeps : drop len ys ≡ drop len xs

  shifted : at < taken → paste xs at (drop (at + 1) xs) (taken - (at + 1)) ≡ with_front left xs
  shifted h = same_lists _ _ (search (rules, places)) (λ k d p. grind (arith, places))

  length_left : at < taken → length left ≡ taken - 1
  length_left h = search (rules, places)

  pub closed : (stood ys : List X) → stood ≡ standing len xs → at < length stood → ys ≡ copy_within xs (at + 1) (length stood) at → Closed (length stood) ys
  closed stood ys e h c =
      let n : length stood ≡ taken = (let l = length-take len xs in omega (arith, ap length e)) in
      let below : at < taken = omega arith in
      let is : ys ≡ with_front left xs = c ∙ ap (λ k. copy_within xs (at + 1) k at) n ∙ shifted below in
      record {
        leaves = is;
        stands = (λ i. standing (n i - 1) (is i)) ∙ take_at _ _ _ (length_left below);
        keeps = ap (drop len) is ∙ search (rules, drop-append-drop, length_left);
      }
