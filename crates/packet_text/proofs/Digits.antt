-- Hex digits.
use Rattle.std.proofs.Common.{◌≡◌, ℕ, zero, suc, ◌+◌, ◌*◌, ◌/◌, ◌%◌, ◌<◌, List, [], ◌∷◌, length, get_or, drop, refl, ap, ◌∙◌, arith}
use Rattle.std.specs.List.{All}
use Rattle.std.specs.Str.{IsAscii}
use Rattle.std.proofs.lemmas.Str.Ascii.{IsAscii-nil, IsAscii-cons}
use Rattle.std.specs.Simd.{first_chunks}
use Rattle.std.proofs.lemmas.List.{get_or-take, get_or-drop}
use Rattle.std.proofs.lemmas.List.Elements.{All-head, All-tail}
use Rattle.packet_text.specs.Hex.{hex_digit, hex_text}

pub length_hex : (bs : List ℕ) → length (hex_text bs) ≡ 2 * length bs
length_hex [] = refl
length_hex (b ∷ bs) = omega (arith, length_hex bs)

pub high_digit : (bs : List ℕ) (i : ℕ) → i < length bs → get_or (hex_text bs) (2 * i) 0 ≡ hex_digit (get_or bs i 0 / 16)
high_digit [] i l = absurd (omega arith)
high_digit (b ∷ bs) zero l = refl
high_digit (b ∷ bs) (suc i) l = let e : 2 * suc i ≡ suc (suc (2 * i)) = omega arith in ap (λ k. get_or (hex_text (b ∷ bs)) k 0) e ∙ high_digit bs i (omega arith)

pub low_digit : (bs : List ℕ) (i : ℕ) → i < length bs → get_or (hex_text bs) (2 * i + 1) 0 ≡ hex_digit (get_or bs i 0 % 16)
low_digit [] i l = absurd (omega arith)
low_digit (b ∷ bs) zero l = refl
low_digit (b ∷ bs) (suc i) l = let e : 2 * suc i + 1 ≡ suc (suc (2 * i + 1)) = omega arith in ap (λ k. get_or (hex_text (b ∷ bs)) k 0) e ∙ low_digit bs i (omega arith)

-- the digits of a pair of digits
pub in_pair : (k i j at : ℕ) (digits : List ℕ) → i < k → j < 2 → at ≡ 2 * i + j → get_or (get_or (first_chunks 2 k digits) i []) j 0 ≡ get_or digits at 0
in_pair zero i j at digits l m e = absurd (omega arith)
in_pair (suc k) zero j at digits l m e = let there : j ≡ at = omega (arith, e) in get_or-take 2 digits j 0 m ∙ ap (λ n. get_or digits n 0) there
in_pair (suc k) (suc i) j at digits l m e =
    let on : 2 + (2 * i + j) ≡ at = omega (arith, e) in
    in_pair k i j (2 * i + j) (drop 2 digits) (omega arith) m refl ∙ get_or-drop 2 digits (2 * i + j) 0 ∙ ap (λ n. get_or digits n 0) on

digit_ascii : (n : ℕ) → n < 16 → hex_digit n < 128
digit_ascii n l = grind arith

-- digits are characters by themselves
pub hex_ascii : (bs : List ℕ) → ((i : ℕ) → get_or bs i 0 < 256) → IsAscii (hex_text bs)
hex_ascii [] small = IsAscii-nil
hex_ascii (b ∷ bs) small =
    let high = digit_ascii (b / 16) (omega (arith, small 0)) in
    let low = digit_ascii (b % 16) (omega arith) in
    let later = hex_text bs in
    IsAscii-cons (hex_digit (b / 16)) (hex_digit (b % 16) ∷ later) high (IsAscii-cons (hex_digit (b % 16)) later low (hex_ascii bs (λ i. small (suc i))))

digit_one : (m n : ℕ) → m < 16 → n < 16 → hex_digit m ≡ hex_digit n → m ≡ n
digit_one m n a b e = grind arith

-- different bytes have different digits
pub hex_one : (bs cs : List ℕ) → All (λ b. b < 256) bs → All (λ b. b < 256) cs → hex_text bs ≡ hex_text cs → bs ≡ cs
hex_one [] [] p q e = refl
hex_one [] (c ∷ cs) p q e = absurd (omega (arith, ap length e))
hex_one (b ∷ bs) [] p q e = absurd (omega (arith, ap length e))
hex_one (b ∷ bs) (c ∷ cs) p q e =
    let b_small = All-head (λ b. b < 256) b bs p in
    let c_small = All-head (λ b. b < 256) c cs q in
    let high : b / 16 ≡ c / 16 = digit_one _ _ (omega (arith, b_small)) (omega (arith, c_small)) (ap (λ l. get_or l 0 0) e) in
    let low : b % 16 ≡ c % 16 = digit_one _ _ (omega arith) (omega arith) (ap (λ l. get_or l 1 0) e) in
    let first : b ≡ c = omega (arith, high, low) in
    let others = hex_one bs cs (All-tail (λ b. b < 256) b bs p) (All-tail (λ b. b < 256) c cs q) (ap (drop 2) e) in
    λ i. first i ∷ others i
