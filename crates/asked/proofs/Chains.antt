-- Chains that ask the same of every number below a given one, `(0..n).all(|i| ..)`, or of the first rows of a table,
-- `rows.iter().take(n).all(|row| ..)`.
use Rattle.std.proofs.Common.{◌≡◌, ℕ, zero, suc, ◌+◌, ◌<◌, ◌≤◌, Bool, ◌&&◌, List, [], ◌∷◌, length, get_or, take, sym, refl, ap, ◌∙◌, ap₂, arith}
use denote.Param.Members.{Mut}
use Rattle.std.proofs.Math.Bool.{and_assoc, and-true}
use Rattle.std.proofs.iter.Yields.{nat_range_steps}
use Rattle.std.proofs.lemmas.Iterator.{YieldsList-from_range}
use Rattle.std.proofs.lemmas.Iterator.Search.{all_from_yields_List}
use Rattle.std.specs.declared.ops.Range.{Range}
use Rattle.std.specs.Fn.{Called}
use Rattle.std.specs.Iterator.{ChecksAll}
use Rattle.std.specs.List.{list_all, range_with_len}
use Rattle.rules.specs.Functions.{all_below}

-- one number more at the end
all_more : (p : ℕ → Bool) (a n : ℕ) → list_all p (range_with_len a (suc n)) ≡ (list_all p (range_with_len a n) && p (a + n))
all_more p a zero = and-true (p a) ∙ ap p (omega arith)
all_more p a (suc n) =
    ap (λ b. p a && b) (all_more p (a + 1) n)
    ∙ sym (and_assoc (p a) (list_all p (range_with_len (a + 1) n)) (p (a + 1 + n)))
    ∙ ap (λ k. (p a && list_all p (range_with_len (a + 1) n)) && p k) (omega arith)

all_in_range : (p : ℕ → Bool) (n : ℕ) → list_all p (range_with_len 0 n) ≡ all_below p n
unfolding all_below
all_in_range p zero = refl
all_in_range p (suc n) = all_more p 0 n ∙ ap (λ b. b && p (0 + n)) (all_in_range p n) ∙ ap (λ k. all_below p n && p k) (omega arith)

pub all_below_from_all : {F : Type 0} {g : Mut F (ℕ × Unit {0}) Bool} {s : Range ℕ} (p : ℕ → Bool) (n : ℕ) (u : Range ℕ) (f : F) (r : Bool)
    → ChecksAll nat_range_steps g s f r u → s ≡ record { start = 0; end = n }
    → ((x : ℕ) (b : Bool) (q : F) → Called g f (x, tt) b q → (q ≡ f) × (b ≡ p x)) → r ≡ all_below p n
all_below_from_all p n u f r ran whole tells =
    all_from_yields_List p u f r ran (YieldsList-from_range 0 n n whole (omega arith)) tells ∙ all_in_range p n

-- a test of numbers that asks of each what another asks of the row of that number
along : {X : Type 0} (q : ℕ → Bool) (p : X → Bool) (xs : List X) (a n : ℕ) → n ≤ length xs
    → ((k : ℕ) (x : X) → k < length xs → x ≡ get_or xs k x → q (a + k) ≡ p x) → list_all q (range_with_len a n) ≡ list_all p (take n xs)
along q p xs a zero l h = refl
along q p [] a (suc n) l h = let b : ⊥ = omega arith in absurd b
along q p (x ∷ xs) a (suc n) l h =
    ap₂ (λ b c. b && c) (ap q (omega arith) ∙ h 0 x (omega arith) refl)
    (along q p xs (a + 1) n (omega arith) (λ k y m e. ap q (omega arith) ∙ h (suc k) y (omega arith) e))

pub all_below_rows : {X : Type 0} (q : ℕ → Bool) (p : X → Bool) (xs : List X) (n : ℕ) → n ≤ length xs
    → ((k : ℕ) (x : X) → k < length xs → x ≡ get_or xs k x → q k ≡ p x) → list_all p (take n xs) ≡ all_below q n
all_below_rows q p xs n l h = sym (along q p xs 0 n l (λ k x m e. ap q (omega arith) ∙ h k x m e)) ∙ all_in_range q n
