-- Sums over numbers below a given one, and by them: a station has no more notices than handsets are leaving it.
use Rattle.std.proofs.Common.{◌≡◌, ℕ, zero, suc, ◌+◌, ◌<◌, ◌≤◌, Bool, true, eqb, ltb, List, [], ◌∷◌, length, sym, refl, ⊎_elim, not-suc-le-zero, ne_of_lt, arith}
use Rattle.std.proofs.lemmas.Bool.{and_parts, ltb-true}
use Rattle.std.specs.List.{list_all}
use Rattle.rules.specs.declared.place.Place.{Place}
use Rattle.rules.specs.declared.place.Notice.{Notice}
use Rattle.rules.specs.Functions.{bit, how_many}
use Rattle.rules.specs.Places.{leaves}
use Rattle.rules.specs.Sound.{notice_in}
use Rattle.order.proofs.Basics.{lt_next}
use Rattle.order.proofs.Lists.{bit_same, bit_other}
use Rattle.order.proofs.Noticed.{seen, Noticed}

-- f 0 + f 1 + .. up to the number before n
total : (ℕ → ℕ) → ℕ → ℕ
total f zero = 0
total f (suc n) = total f n + f n

total_same : (f g : ℕ → ℕ) (n : ℕ) → ((i : ℕ) → f i ≡ g i) → total f n ≡ total g n
unfolding total
total_same f g zero e = refl
total_same f g (suc n) e = omega (arith, total_same f g n e, e n)

total_plus : (f g : ℕ → ℕ) (n : ℕ) → total (λ i. f i + g i) n ≡ total f n + total g n
unfolding total
total_plus f g zero = refl
total_plus f g (suc n) = omega (arith, total_plus f g n)

total_zero : (n : ℕ) → total (λ i. 0) n ≡ 0
unfolding total
total_zero zero = refl
total_zero (suc n) = omega (arith, total_zero n)

-- one number counts once, if it is below n
total_none : (x n : ℕ) → n ≤ x → total (λ i. bit (eqb i x)) n ≡ 0
unfolding total
total_none x zero h = refl
total_none x (suc n) h = omega (arith, total_none x n (omega arith), bit_other n x (ne_of_lt h))

total_one : (x n : ℕ) → x < n → total (λ i. bit (eqb i x)) n ≡ 1
unfolding total
total_one x zero h = absurd (not-suc-le-zero h)
total_one x (suc n) h = ⊎_elim (λ lt. omega (arith, total_one x n lt, bit_other n x (λ e. ne_of_lt lt (sym e))))
    (λ e. omega (arith, total_none x n (omega arith), bit_same n x (sym e))) (lt_next h)

how_many_total : (p : ℕ → Bool) (n : ℕ) → how_many p n ≡ total (λ j. bit (p j)) n
unfolding how_many total
how_many_total p zero = refl
how_many_total p (suc n) = omega (arith, how_many_total p n)

-- the notices of a list, counted by handset
seen_total : (handsets stations : ℕ) (l : List Notice) → list_all (notice_in handsets stations) l ≡ true → length l ≡ total (λ j. seen j l) handsets
seen_total handsets stations [] e = sym (total_zero handsets)
seen_total handsets stations (x ∷ l) e =
    let w = and_parts _ _ e in
    let low = ltb-true x.handset handsets (and_parts (ltb x.handset handsets) (ltb x.station stations) w.0).0 in
    let both = total_plus (λ j. bit (eqb j x.handset)) (λ j. seen j l) handsets in
    omega (arith, seen_total handsets stations l w.1, total_one x.handset handsets low)

pub few_notices : {place : ℕ → Place} {notices : ℕ → List Notice} → Noticed place notices → (handsets stations p : ℕ)
    → list_all (notice_in handsets stations) (notices p) ≡ true → length (notices p) ≤ how_many (λ j. leaves p (place j)) handsets
few_notices {place} {notices} N handsets stations p e = omega (
  arith,
  seen_total handsets stations (notices p) e,
  how_many_total (λ j. leaves p (place j)) handsets,
  total_same (λ j. seen j (notices p)) (λ j. bit (leaves p (place j))) handsets (N.told p),
)
