-- The queues of a table of places after one row's places are written.
use Rattle.std.proofs.Common.{◌≡◌, ℕ, suc, ◌+◌, ◌-◌, ◌*◌, ◌<◌, ◌≤◌, min, true, cond, ◌&&◌, ltb, List, [], ◌∷◌, ◌++◌, length, take, drop, set, sym, ap, ◌∙◌, ⊎_elim, le_refl, arith, add-one, length-set}
use borrow.Rule.Slice.PartMut.{put_mid, set_mid_at}
use Rattle.std.proofs.lemmas.List.{take_all, take-append-le, drop_at, drop-take, drop-drop, take-take, length-take-le, length-take, length-drop, length-append}
use Rattle.std.proofs.Math.Seq.{take-suc-set}
use Rattle.std.proofs.lemmas.Slice.{take-put_mid_below, drop-put_mid}
use Rattle.std.proofs.lemmas.Bool.{cases_order, cond-true, lt-ltb, le-leb, and_from}
use Rattle.rules.specs.Functions.{updated}
use Rattle.tables.specs.Columns.{part, held}
use Rattle.asked.proofs.Strides.{part_plain, part_other, part_length, stride}
use Rattle.tables.proofs.Changing.{updated_same, updated_other, updated_from}
use Rattle.queue.specs.Standing.{without_at, with_front}
use Rattle.book.specs.Places.{in_table, row_part, with_part, room_in, put_in, take_in, left_in}

module _ {X : Type 0} (d : X) (row q : ℕ) (xs ys : List X) (there : row * q + q ≤ length xs) (long : length ys ≡ q) where
  mid : with_part row q ys xs ≡ put_mid (row * q) q xs ys
  mid = ap (λ zs. take (row * q) xs ++ (ys ++ zs)) (sym (drop-drop q (row * q) xs))

  pub written_length : length (with_part row q ys xs) ≡ length xs
  written_length = simp (length-append, length-take, length-drop) (omega arith)

  pub part_here : (n : ℕ) → n ≤ q → part d row q n (with_part row q ys xs) ≡ take n ys
  part_here n h =
      let l = written_length in
      part_plain d row q n (with_part row q ys xs) (omega arith)
      ∙ ap (take n) (drop_at (take (row * q) xs) _ (row * q) (length-take-le (row * q) xs (omega arith)))
      ∙ take-append-le n ys _ (omega arith)

  below : (b k : ℕ) → b + k ≤ row * q → take k (drop b (put_mid (row * q) q xs ys)) ≡ take k (drop b xs)
  below b k h = sym (drop-take b k (put_mid (row * q) q xs ys)) ∙ ap (drop b) (take-put_mid_below (row * q) q xs ys (b + k) h (omega arith)) ∙ drop-take b k xs

  above : (b k : ℕ) → row * q + q ≤ b → take k (drop b (put_mid (row * q) q xs ys)) ≡ take k (drop b xs)
  above b k h = ap (take k) (drop-put_mid (row * q) q xs ys b h (omega arith) long)

  pub part_elsewhere : (i k : ℕ) → (i ≡ row → ⊥) → k ≤ q → part d i q k (with_part row q ys xs) ≡ part d i q k xs
  part_elsewhere i k ne h =
      part_other d i q k xs (with_part row q ys xs) written_length
      (ap (λ zs. take k (drop (i * q) zs)) mid ∙ ⊎_elim (λ e. absurd (ne e)) (⊎_elim
      (λ lt. below (i * q) k (let s = stride i row q (row * q) lt (le_refl (row * q)) in omega arith))
      (λ gt. above (i * q) k (let s = stride row i q (i * q) gt (le_refl (i * q)) in omega arith)))
      (cases_order i row))

  -- the queues: this row's is the first n of what is written, and the others' stay, where none is longer than its row
  pub held_written : (lens : ℕ → ℕ) (n : ℕ) → n ≤ q → ((i : ℕ) → lens i ≤ q) →
      held d q (updated lens row n) (with_part row q ys xs) ≡ updated (held d q lens xs) row (take n ys)
  held_written lens n h short = updated_from (held d q lens xs) (held d q (updated lens row n) (with_part row q ys xs)) row (take n ys)
      (ap (λ k. part d row q k (with_part row q ys xs)) (updated_same lens row n) ∙ part_here n h)
      (λ i ne. ap (λ k. part d i q k (with_part row q ys xs)) (updated_other lens row n i ne) ∙ part_elsewhere i (lens i) ne (short i))

-- a row whose places are all in the table, where no queue is longer than its row
pub record Fits {X : Type 0} (row q : ℕ) (xs : List X) (lens : ℕ → ℕ) : Type 0 where
  pub there : row * q + q ≤ length xs
  pub short : (i : ℕ) → lens i ≤ q

-- the row's queue is l now, and its length is m; the others are as they were
pub record Became {X : Type 0} (d : X) (row q : ℕ) (xs : List X) (lens : ℕ → ℕ) (m : ℕ) (ys l : List X) : Type 0 where
  pub long : length ys ≡ length xs
  pub is : held d q (updated lens row m) ys ≡ updated (held d q lens xs) row l

module _ {X : Type 0} (d : X) (row q : ℕ) (xs : List X) (lens : ℕ → ℕ) (fits : Fits row q xs lens) where
  part_long : length (row_part row q xs) ≡ q
  part_long = let t = fits.there in length-take-le q (drop (row * q) xs) (simp length-drop (omega arith))

  -- what stands in this row's queue, and how many
  stands : take (lens row) (row_part row q xs) ≡ held d q lens xs row
  stands = let s = fits.short row in let t = fits.there in take-take (lens row) q (drop (row * q) xs) s ∙ sym (part_plain d row q (lens row) xs (omega arith))

  how_many : length (held d q lens xs row) ≡ lens row
  how_many = part_length d row q (lens row) xs

  there : in_table row q xs ≡ true
  there = le-leb (row * q + q) (length xs) fits.there

  -- the row's places are written
  became : (zs l ys : List X) (m : ℕ) → length zs ≡ q → m ≤ q → take m zs ≡ l → ys ≡ with_part row q zs xs → Became d row q xs lens m ys l
  became zs l ys m long few t w = record {
    long = ap length w ∙ written_length d row q xs zs fits.there long;
    is = ap (held d q (updated lens row m)) w ∙ held_written d row q xs zs fits.there long lens m few fits.short ∙ ap (updated (held d q lens xs) row) t;
  }

  -- one more at the end: n is the length that is found, m the one that is left, and ys the places that are left
  pub put_became : (x : X) (n m : ℕ) (ys : List X) → n ≡ lens row → length (held d q lens xs row) < q →
      ys ≡ put_in row q n x xs → m ≡ cond (room_in row q n xs) (n + 1) n → Became d row q xs lens m ys (held d q lens xs row ++ (x ∷ []))
  put_became x n m ys is room w count =
      let k = lens row in let l = part_long in
      let lt : k < q = (let h = how_many in omega arith) in
      let has : room_in row q k xs ≡ true = and_from (in_table row q xs) (ltb k q) there (lt-ltb k q lt) in
      let more : m ≡ suc k = count ∙ ap (λ i. cond (room_in row q i xs) (i + 1) i) is ∙ cond-true (room_in row q k xs) (k + 1) k has ∙ add-one k in
      became (set (row_part row q xs) k x) _ ys m (length-set (row_part row q xs) k x ∙ l) (omega arith)
      (ap (λ i. take i (set (row_part row q xs) k x)) more ∙ take-suc-set (row_part row q xs) k x (omega arith) ∙ ap (λ zs. zs ++ (x ∷ [])) stands)
      (w ∙ ap (λ i. put_in row q i x xs) is ∙ cond-true (room_in row q k xs) (set xs (row * q + k) x) xs has
      ∙ sym (set_mid_at (row * q) q k xs x (omega arith))
      ∙ ap (λ zs. take (row * q) xs ++ (set (row_part row q xs) k x ++ zs)) (drop-drop q (row * q) xs))

  -- one taken out
  pub take_became : (at n m : ℕ) (ys : List X) → n ≡ lens row → at < length (held d q lens xs row) →
      ys ≡ take_in row q n at xs → m ≡ left_in row q n at xs → Became d row q xs lens m ys (without_at (held d q lens xs row) at)
  take_became at n m ys is under w count =
      let k = lens row in let l = part_long in let s = fits.short row in
      let lt : at < k = (let h = how_many in omega arith) in
      let out : List X = without_at (take k (row_part row q xs)) at in
      let t : length (take k (row_part row q xs)) ≡ k = length-take-le k (row_part row q xs) (omega arith) in
      let a : length (take at (take k (row_part row q xs))) ≡ at = length-take-le at (take k (row_part row q xs)) (omega arith) in
      let o : length out ≡ k - 1 = simp (length-append, length-take, length-drop) (omega arith) in
      let less : m ≡ k - 1 = count ∙ ap (λ i. left_in row q i at xs) is
      ∙ cond-true (in_table row q xs && ltb at (min k q)) (min k q - 1) k (and_from (in_table row q xs) (ltb at (min k q)) there (lt-ltb at (min k q) (omega arith))) ∙ omega arith in
      became (with_front out (row_part row q xs)) _ ys m (simp (length-append, length-drop) (omega arith)) (omega arith)
      (ap (λ i. take i (with_front out (row_part row q xs))) less
      ∙ take-append-le (k - 1) out (drop (length out) (row_part row q xs)) (omega arith) ∙ take_all (k - 1) out (omega arith)
      ∙ ap (λ zs. without_at zs at) stands)
      (w ∙ ap (λ i. take_in row q i at xs) is ∙ cond-true (in_table row q xs) (with_part row q (with_front out (row_part row q xs)) xs) xs there)
