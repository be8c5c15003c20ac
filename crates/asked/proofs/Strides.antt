-- Tables in which each row has the same number of places: which places are a row's, and what a write to them leaves.
use Rattle.std.proofs.Common.{◌≡◌, ℕ, zero, suc, ◌+◌, ◌*◌, ◌<◌, ◌≤◌, List, [], ◌∷◌, ◌++◌, length, take, drop, replicate, sym, refl, ap, ◌∙◌, ap₂, ⊎_elim, le_refl, mul-le-mul_right, suc-mul, arith}
use borrow.Rule.Slice.PartMut.{put_mid}
use Rattle.std.proofs.lemmas.List.{take-append-le, drop_at, drop-take, take-take, length-take-le, length-drop, length-append, length-replicate, length-take}
use Rattle.std.proofs.lemmas.Slice.{take-put_mid_below, drop-put_mid}
use Rattle.std.proofs.lemmas.Bool.{cases_order}
use Rattle.rules.specs.Functions.{front, rest}
use Rattle.tables.specs.Columns.{part}

-- the places of row i, n of them, where nothing is made up
abbrev pub plain : {X : Type 0} → ℕ → ℕ → ℕ → List X → List X
plain i q n xs = take n (drop (i * q) xs)

-- where the places are there, nothing is made up
pub part_plain : {X : Type 0} (d : X) (i q n : ℕ) (xs : List X) → i * q + n ≤ length xs → part d i q n xs ≡ plain i q n xs
part_plain d i q n xs h = take-append-le n (drop (i * q) xs) (replicate n d) (simp length-drop (omega arith))

pad : {X : Type 0} (k : ℕ) (ys zs r : List X) → length ys ≡ length zs → take k ys ≡ take k zs → take k (ys ++ r) ≡ take k (zs ++ r)
pad zero ys zs r l e = refl
pad (suc k) [] [] r l e = refl
pad (suc k) [] (z ∷ zs) r l e = let b : ⊥ = omega arith in absurd b
pad (suc k) (y ∷ ys) [] r l e = let b : ⊥ = omega arith in absurd b
pad (suc k) (y ∷ ys) (z ∷ zs) r l e = ap₂ (λ a bs. a ∷ bs) (ap (front y) e) (pad k ys zs r (omega arith) (ap rest e))

-- where two tables of one length have the same in a row's places, its part is the same
pub part_other : {X : Type 0} (d : X) (i q k : ℕ) (xs ys : List X) → length ys ≡ length xs → plain i q k ys ≡ plain i q k xs → part d i q k ys ≡ part d i q k xs
part_other d i q k xs ys l e = pad k (drop (i * q) ys) (drop (i * q) xs) (replicate k d) (simp length-drop (omega arith)) e

-- a part has as many entries as were asked for
pub part_length : {X : Type 0} (d : X) (i q n : ℕ) (xs : List X) → length (part d i q n xs) ≡ n
part_length d i q n xs = length-take-le n (drop (i * q) xs ++ replicate n d) (simp (length-append, length-replicate) (omega arith))

-- the places of row j lie within a table of n rows of q places
pub stride : (j n q m : ℕ) → j < n → n * q ≤ m → j * q + q ≤ m
stride j n q m h l = let p : suc j * q ≤ n * q = mul-le-mul_right q h in let e = suc-mul j q in omega arith

-- so do its first k places
pub row_within : (j n q k m : ℕ) → j < n → m ≡ n * q → k ≤ q → j * q + k ≤ m
row_within j n q k m h l f = let p = stride j n q (n * q) h (le_refl (n * q)) in omega arith

-- the middle of a list, w long from a on, written over by as many others
module _ {X : Type 0} (a w : ℕ) (xs ys : List X) (fits : a + w ≤ length xs) (long : length ys ≡ w) where
  pub mid_here : (n : ℕ) → n ≤ w → take n (drop a (put_mid a w xs ys)) ≡ take n ys
  mid_here n h =
      let l : a ≤ length xs = omega arith in
      let k : n ≤ length ys = omega arith in
      ap (take n) (drop_at (take a xs) _ a (length-take-le a xs l)) ∙ take-append-le n ys _ k

  pub mid_below : (b k : ℕ) → b + k ≤ a → take k (drop b (put_mid a w xs ys)) ≡ take k (drop b xs)
  mid_below b k h = sym (drop-take b k (put_mid a w xs ys)) ∙ ap (drop b) (take-put_mid_below a w xs ys (b + k) h (omega arith)) ∙ drop-take b k xs

  pub mid_above : (b k : ℕ) → a + w ≤ b → take k (drop b (put_mid a w xs ys)) ≡ take k (drop b xs)
  mid_above b k h = ap (take k) (drop-put_mid a w xs ys b h (omega arith) long)

-- a write to the places of one row, as the checker shows it
module _ {X : Type 0} (row q w : ℕ) (xs ys : List X) (wide : w ≡ q) (fits : row * q + q ≤ length xs) (long : length ys ≡ length (take w (drop (row * q) xs))) where
  ys_long : length ys ≡ w
  ys_long = long ∙ length-take-le w (drop (row * q) xs) (simp length-drop (omega arith))

  pub row_here : (n : ℕ) → n ≤ q → plain row q n (put_mid (row * q) w xs ys) ≡ take n ys
  row_here n h = mid_here (row * q) w xs ys (omega arith) ys_long n (omega arith)

  pub row_other : (i k : ℕ) → (i ≡ row → ⊥) → k ≤ q → plain i q k (put_mid (row * q) w xs ys) ≡ plain i q k xs
  row_other i k ne h =
      ⊎_elim (λ e. absurd (ne e))
      (⊎_elim
      (λ lt. mid_below (row * q) w xs ys (omega arith) ys_long (i * q) k (let s = stride i row q (row * q) lt (le_refl (row * q)) in omega arith))
      (λ gt. mid_above (row * q) w xs ys (omega arith) ys_long (i * q) k (let s = stride row i q (i * q) gt (le_refl (i * q)) in omega arith)))
      (cases_order i row)

  -- the front of the places
  pub row_front : (n : ℕ) → n ≤ q → take n (take w (drop (row * q) xs)) ≡ plain row q n xs
  row_front n h = take-take n w (drop (row * q) xs) (omega arith)

  pub row_length : length (put_mid (row * q) w xs ys) ≡ length xs
  row_length = let l = ys_long in simp (length-append, length-take, length-drop) (omega arith)
