-- Two bytes and the 16-bit number that they make.
use Rattle.std.proofs.Common.{◌≡◌, ℕ, ◌+◌, ◌*◌, ◌/◌, ◌%◌, ◌<◌, List, [], ◌∷◌, length, get_or, refl, ◌∙◌, ap₂, arith}

-- a list of two, by its elements
two : (xs : List ℕ) → length xs ≡ 2 → get_or xs 0 0 ∷ get_or xs 1 0 ∷ [] ≡ xs
two [] e = absurd (omega arith)
two (a ∷ []) e = absurd (omega arith)
two (a ∷ b ∷ []) e = refl
two (a ∷ b ∷ c ∷ r) e = absurd (omega arith)

-- high byte first
pub split : (a b : ℕ) → b < 256 → (a * 256 + b) / 256 ∷ (a * 256 + b) % 256 ∷ [] ≡ a ∷ b ∷ []
split a b low =
    let high_byte : (a * 256 + b) / 256 ≡ a = omega arith in
    let low_byte : (a * 256 + b) % 256 ≡ b = omega arith in
    ap₂ (λ x y. x ∷ y ∷ []) high_byte low_byte

-- the two bytes of the number that two bytes make
pub told_again : (xs : List ℕ) → length xs ≡ 2 → get_or xs 1 0 < 256
    → (get_or xs 0 0 * 256 + get_or xs 1 0) / 256 ∷ (get_or xs 0 0 * 256 + get_or xs 1 0) % 256 ∷ [] ≡ xs
told_again xs e low = split (get_or xs 0 0) (get_or xs 1 0) low ∙ two xs e
