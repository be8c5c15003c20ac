-- Two lists merged in order of pairs.
use Rattle.std.specs.Prelude.{◌≡◌, ℕ, ◌+◌, ◌<◌, ◌≤◌, max, true, cond, List, [], ◌∷◌, ◌++◌, length, drop, Some, None, ◌≢◌}
use Rattle.std.proofs.Common.{sym, ap, ap₂, ◌∙◌, ⊎_elim, arith}
use Rattle.std.proofs.lemmas.List.{length_push}
use Rattle.std.proofs.lemmas.Bool.{cond-true, cond-false, cases_eq, cases_order, lt-ltb, le-ltb, eq-eqb, ne_eqb, and_from, and_right, le-leb, lt-leb, not_from_true, not_from_false}
use Rattle.tally.specs.declared.pair.Pair.{Pair}
use Rattle.tally.specs.Pairs.{inside, rank, pair_at}
use Rattle.tally.specs.Counts.{counted_on, Counts, raised, larger, counted_pairs, counted, none_above}
use Rattle.tally.specs.Answers.{refuses, verdict}
use Rattle.tally.proofs.Order.{at_rank, rank_at, rank_below, same_rank}
use Rattle.tally.proofs.Bounds.{bounded_lowered, bounded_larger}
use Rattle.tally.proofs.Building.{below, below_le, below_more, below_none, below_skip, below_whole, Ranged, stopped}
use Rattle.tally.proofs.Listing.{none_counted, all_rest, first, Comes, rest_here, rest_zero, rest_skip, first_none, comes_from, zeros_from}
use Rattle.tally.proofs.Splitting.{rest_same, raised_last}
use Rattle.listed.specs.Entries.{listed_fits}
use Rattle.listed.specs.Laws.{fits_lowered}
use Rattle.listed.specs.Merging.{merged_front, heads}
use Rattle.listed.proofs.Seeking.{heads_rest}

-- the first counted pair from m on
first_at : (c : Counts) (m : ℕ) (q : Pair) → inside q ≡ true → m ≤ rank q → ((i : ℕ) → m ≤ i → i < rank q → c (pair_at i) ≡ 0) → (c q ≢ 0)
    → first (counted_on c m) ≡ Some (q, c q)
first_at c m q i low zeros some =
    let at = at_rank q i in
    ap first (rest_skip c m (rank q) low (omega (arith, rank_below q i)) zeros ∙ rest_here c (rank q) (rank_below q i) (λ z. some (ap c (sym at) ∙ z)))
    ∙ (λ j. Some (at j, c (at j)))

-- past the pair q, before which c counts nothing from m on
past_is : (c : Counts) (m : ℕ) (q : Pair) → inside q ≡ true → m ≤ rank q → ((i : ℕ) → m ≤ i → i < rank q → c (pair_at i) ≡ 0)
    → cond (heads q (counted_on c m)) (drop 1 (counted_on c m)) (counted_on c m) ≡ counted_on c (rank q + 1)
past_is c m q i low zeros =
    let here = rest_skip c m (rank q) low (omega (arith, rank_below q i)) zeros in
    let is : c (pair_at (rank q)) ≡ c q = ap c (at_rank q i) in
    ap (λ xs. cond (heads q xs) (drop 1 xs) xs) here
    ∙ ⊎_elim
    (λ (z : c q ≡ 0). cond-false _ _ _ (heads_rest c q i ∙ not_from_true _ (eq-eqb _ _ z)) ∙ rest_zero c (rank q) (rank_below q i) (is ∙ z))
    (λ (some : c q ≡ 0 → ⊥). cond-true _ _ _ (heads_rest c q i ∙ not_from_false _ (ne_eqb _ _ some))
    ∙ ap (drop 1) (rest_here c (rank q) (rank_below q i) (λ z. some (sym is ∙ z))))
    (cases_eq (c q) 0)

module _ (c d : Counts) where
  abbrev w : Counts
  w = larger c d

  -- where one list has ended, the other one is left
  left_only : (m : ℕ) → counted_on d m ≡ [] → counted_on w m ≡ counted_on c m
  left_only m e = rest_same w c m (λ i a b. omega (arith, zeros_from d m e i a b))

  right_only : (m : ℕ) → counted_on c m ≡ [] → counted_on w m ≡ counted_on d m
  right_only m e = rest_same w d m (λ i a b. omega (arith, zeros_from c m e i a b))

  -- two lists merged begin with the first pair that either counts
  front_is : (m : ℕ) (xs ys : List (Pair × ℕ)) → counted_on c m ≡ xs → counted_on d m ≡ ys → merged_front xs ys ≡ first (counted_on w m)
  front_is m [] [] e f = sym (ap first (right_only m e ∙ f))
  front_is m [] (y ∷ ys) e f = sym (ap first (right_only m e ∙ f))
  front_is m (x ∷ xs) [] e f = sym (ap first (left_only m f ∙ e))
  front_is m (x ∷ xs) (y ∷ ys) e f =
      let p = x.0 in
      let q = y.0 in
      let left = comes_from c p x.1 m (ap first e) in
      let right = comes_from d q y.1 m (ap first f) in
      ⊎_elim
      (λ (same_place : rank p ≡ rank q).
      let one : q ≡ p = same_rank q p right.inn left.inn (sym same_place) in
      let count : max x.1 y.1 ≡ w p = ap₂ max left.is (right.is ∙ ap d one) in
      ap Some (cond-false _ _ _ (le-ltb (rank p) (rank q) (omega arith)) ∙ cond-false _ _ _ (le-ltb (rank q) (rank p) (omega arith)) ∙ ap (λ n. (p, n)) count)
      ∙ sym (first_at w m p left.inn left.from
      (λ i a b. omega (arith, left.between i a b, right.between i a (omega arith)))
      (λ z. left.some (omega (arith, left.is, z)))))
      (⊎_elim
      (λ (first_left : rank p < rank q).
      let other : d p ≡ 0 = ap d (sym (at_rank p left.inn)) ∙ right.between (rank p) left.from first_left in
      let count : x.1 ≡ w p = omega (arith, left.is, other) in
      ap Some (cond-true _ _ _ (lt-ltb _ _ first_left) ∙ ap (λ n. (p, n)) count)
      ∙ sym (first_at w m p left.inn left.from
      (λ i a b. omega (arith, left.between i a b, right.between i a (omega arith)))
      (λ z. left.some (omega (arith, count, z)))))
      (λ (first_right : rank q < rank p).
      let other : c q ≡ 0 = ap c (sym (at_rank q right.inn)) ∙ left.between (rank q) right.from first_right in
      let count : y.1 ≡ w q = omega (arith, right.is, other) in
      ap Some (cond-false _ _ _ (le-ltb (rank p) (rank q) (omega arith)) ∙ cond-true _ _ _ (lt-ltb _ _ first_right) ∙ ap (λ n. (q, n)) count)
      ∙ sym (first_at w m q right.inn right.from
      (λ i a b. omega (arith, left.between i a (omega arith), right.between i a b))
      (λ z. right.some (omega (arith, count, z))))))
      (cases_order (rank p) (rank q))

-- so far: what is left of the lists from a place on, and what is merged before it
pub record Merging (c d : Counts) (a b merged : List (Pair × ℕ)) (m : ℕ) : Type 0 where
  pub left : a ≡ counted_on c m
  pub right : b ≡ counted_on d m
  pub done : merged ≡ counted_pairs (below (larger c d) m)

module _ (c d : Counts) (ranged_c : Ranged c) (ranged_d : Ranged d) where
  pub merging_none : (a b : List (Pair × ℕ)) → a ≡ counted_pairs c → b ≡ counted_pairs d → Merging c d a b [] 0
  merging_none a b e f =
      record { left = e ∙ all_rest c; right = f ∙ all_rest d; done = sym (ap counted_pairs (sym (below_none (w c d))) ∙ none_counted) }

  ranged : Ranged (w c d)
  ranged p o = omega (arith, ranged_c p o, ranged_d p o)

  module _ (a b merged : List (Pair × ℕ)) (m : ℕ) (so_far : Merging c d a b merged m) where
    module _ (q : Pair) (n : ℕ) (front : merged_front a b ≡ Some (q, n)) where
      next : Comes (w c d) m q n
      next = comes_from (w c d) q n m (sym (front_is c d m a b (sym so_far.left) (sym so_far.right)) ∙ front)

      -- nothing is counted between the place reached and the pair
      up_to_pair : below (w c d) m ≡ below (w c d) (rank q)
      up_to_pair = below_skip (w c d) m (rank q) ranged next.from next.between

      with_pair : counted_pairs (below (w c d) (rank q + 1)) ≡ merged ++ (q, n) ∷ []
      with_pair =
          let at = at_rank q next.inn in
          let r : Counts = below (w c d) (rank q) in
          ap counted_pairs (sym (below_more (w c d) (rank q) ranged (rank_below q next.inn)) ∙ (λ j. raised r (at j) ((ap (w c d) at ∙ sym next.is) j)))
          ∙ raised_last r q next.inn n (omega (arith, next.some))
          (λ k l h. cond-false _ _ _ (le-ltb (rank (pair_at k)) (rank q) (omega (arith, rank_at k h))))
          ∙ ap (λ xs. xs ++ (q, n) ∷ []) (ap counted_pairs (sym up_to_pair) ∙ sym so_far.done)

      pub merging_more : Merging c d (cond (heads q a) (drop 1 a) a) (cond (heads q b) (drop 1 b) b) (merged ++ (q, n) ∷ []) (rank q + 1)
      merging_more =
          let zero_c : (i : ℕ) → m ≤ i → i < rank q → c (pair_at i) ≡ 0 = λ i l h. omega (arith, next.between i l h) in
          let zero_d : (i : ℕ) → m ≤ i → i < rank q → d (pair_at i) ≡ 0 = λ i l h. omega (arith, next.between i l h) in
          record {
            left = ap (λ xs. cond (heads q xs) (drop 1 xs) xs) so_far.left ∙ past_is c m q next.inn next.from zero_c;
            right = ap (λ xs. cond (heads q xs) (drop 1 xs) xs) so_far.right ∙ past_is d m q next.inn next.from zero_d;
            done = sym with_pair;
          }

      -- one entry more than there are places
      pub merging_stops : none_above 8191 c ≡ true → none_above 8191 d ≡ true → length merged ≡ 96 → refuses {A = Unit {0}} q ≡ verdict listed_fits (w c d) tt
      merging_stops low_c low_d full =
          let r = rank q in
          let low : none_above 8191 (below (w c d) r) ≡ true =
          bounded_lowered 8191 (w c d) (below (w c d) r) (λ p i. below_le (w c d) r p) (bounded_larger 8191 c d low_c low_d) in
          let many : counted (below (w c d) r) ≡ 96 = ap counted (sym up_to_pair) ∙ ap length (sym so_far.done) ∙ full in
          let too_many : counted (below (w c d) (r + 1)) ≡ 97 = ap length with_pair ∙ length_push merged (q, n) ∙ ap (λ k. k + 1) full in
          sym (stopped tt listed_fits fits_lowered (w c d) r (rank_below q next.inn)
          (and_from _ _ low (le-leb _ _ (omega (arith, many))))
          (and_right (none_above 8191 (below (w c d) (r + 1))) _ (lt-leb _ _ (omega (arith, too_many))))
          ∙ ap refuses (at_rank q next.inn))

    pub merging_all : merged_front a b ≡ None → merged ≡ counted_pairs (w c d)
    merging_all end =
        let nothing = first_none (counted_on (w c d) m) (sym (front_is c d m a b (sym so_far.left) (sym so_far.right)) ∙ end) in
        so_far.done ∙ ap counted_pairs (below_whole (w c d) m ranged (zeros_from (w c d) m nothing))
