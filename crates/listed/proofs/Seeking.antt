-- Where a place of the order is sought in a list of counted pairs.
use Rattle.std.specs.Prelude.{◌≡◌, ℕ, zero, suc, ◌+◌, ◌-◌, ◌<◌, ◌≤◌, true, false, not, ltb, List, [], ◌∷◌, ◌++◌, length, take, drop, ◌==◌, nat_lt}
use Rattle.std.proofs.Math.Path.{refl}
use Rattle.std.proofs.Common.{sym, ap, subst, ◌∙◌, ⊎_elim, arith}
use Rattle.std.specs.List.{slice_get}
use Rattle.std.proofs.lemmas.List.{take_at, drop_at, drop_all}
use Rattle.std.proofs.lemmas.Bool.{cond-true, cond-false, cond_both, cases_lt, cases_eq, lt-ltb, le-ltb, eq-eqb, ne_eqb, not_from_true, not_from_false}
use Rattle.tally.specs.declared.pair.Pair.{Pair}
use Rattle.tally.specs.Pairs.{inside, pairs, same, rank, pair_at, start}
use Rattle.tally.specs.Counts.{counted_on, Counts, counted_from, counted_pairs, count_of}
use Rattle.tally.specs.Answers.{next_counted}
use Rattle.tally.proofs.Order.{rank_at, at_rank, rank_below, same_self, not_same}
use Rattle.tally.proofs.Listing.{first, rest_here, rest_zero, rest_past, next_is, comes_from}
use Rattle.tally.proofs.Splitting.{before, parts}
use Rattle.listed.specs.Entries.{InOrder, seek}
use Rattle.listed.specs.Merging.{heads}

pub seek_le : (k : ℕ) (xs : List (Pair × ℕ)) → seek k xs ≤ length xs
seek_le k [] = omega arith
seek_le k (x ∷ xs) = cond_both (nat_lt (rank x.0) k) _ _ (λ n. n ≤ suc (length xs)) (λ _. omega (arith, seek_le k xs)) (λ _. omega arith)

module _ (c : Counts) (k : ℕ) where
  -- the n places from j on stand before place k
  seek_before : (n j : ℕ) (ys : List (Pair × ℕ)) → j + n ≤ pairs → j + n ≤ k → seek k (counted_from c j n ++ ys) ≡ length (counted_from c j n) + seek k ys
  seek_before zero j ys h l = omega arith
  seek_before (suc n) j ys h l =
      let later = seek_before n (suc j) ys (omega arith) (omega arith) in
      let goes : ltb (rank (pair_at j)) k ≡ true = lt-ltb _ _ (omega (arith, rank_at j (omega arith))) in
      cond_both (c (pair_at j) == 0) _ _ (λ xs. seek k (xs ++ ys) ≡ length xs + seek k ys)
      (λ _. later)
      (λ _. cond-true _ _ _ goes ∙ omega (arith, later))

  -- the n places from j on stand at place k or after it
  seek_after : (n j : ℕ) → j + n ≤ pairs → k ≤ j → seek k (counted_from c j n) ≡ 0
  seek_after zero j h l = refl
  seek_after (suc n) j h l =
      cond_both (c (pair_at j) == 0) _ _ (λ xs. seek k xs ≡ 0)
      (λ _. seek_after n (suc j) (omega arith) (omega arith))
      (λ _. cond-false _ _ _ (le-ltb (rank (pair_at j)) k (omega (arith, rank_at j (omega arith)))))

  -- the places before m are those before k, and the others from k on
  sought_at : (m : ℕ) → m ≤ pairs → m ≤ k → counted_on c m ≡ counted_on c k → seek k (counted_on c m) ≡ 0
      → (take (seek k (counted_pairs c)) (counted_pairs c) ≡ before c m) × (drop (seek k (counted_pairs c)) (counted_pairs c) ≡ counted_on c k)
  sought_at m h l same none =
      let e = parts c m h in
      let n : length (before c m) ≡ seek k (counted_pairs c) = sym (ap (seek k) e ∙ seek_before m 0 (counted_on c m) (omega arith) (omega arith) ∙ omega (arith, none)) in (
        ap (take (seek k (counted_pairs c))) e ∙ take_at (before c m) (counted_on c m) _ n,
        ap (drop (seek k (counted_pairs c))) e ∙ drop_at (before c m) (counted_on c m) _ n ∙ same,
      )

  -- a place in range parts the list
  pub sought : k ≤ pairs → (take (seek k (counted_pairs c)) (counted_pairs c) ≡ before c k) × (drop (seek k (counted_pairs c)) (counted_pairs c) ≡ counted_on c k)
  unfolding counted_on
  sought h = sought_at k h (omega arith) refl (seek_after (pairs - k) k (omega arith) (omega arith))

  -- what stands from any place on
  pub sought_rest : drop (seek k (counted_pairs c)) (counted_pairs c) ≡ counted_on c k
  sought_rest =
      ⊎_elim
      (λ (l : k < pairs). (sought (omega arith)).1)
      (λ (l : pairs ≤ k). let nothing = rest_past c pairs (omega arith) in
      (sought_at pairs (omega arith) l (nothing ∙ sym (rest_past c k l)) (ap (seek k) nothing)).1)
      (cases_lt k pairs)

-- whether a pair is counted shows where it is sought
pub heads_rest : (c : Counts) (p : Pair) → inside p ≡ true → heads p (counted_on c (rank p)) ≡ not (c p == 0)
heads_rest c p i =
    let low = rank_below p i in
    let at : pair_at (rank p) ≡ p = at_rank p i in
    let is : c (pair_at (rank p)) ≡ c p = ap c at in
    ⊎_elim
    (λ (z : c p ≡ 0).
    ap (heads p) (rest_zero c (rank p) low (is ∙ z)) ∙ later (counted_on c (rank p + 1)) refl ∙ sym (not_from_true _ (eq-eqb _ _ z)))
    (λ (some : c p ≡ 0 → ⊥).
    ap (heads p) (rest_here c (rank p) low (λ z. some (sym is ∙ z))) ∙ ap (λ q. same q p) at ∙ same_self p ∙ sym (not_from_false _ (ne_eqb _ _ some)))
    (cases_eq (c p) 0)
  where
    later : (xs : List (Pair × ℕ)) → counted_on c (rank p + 1) ≡ xs → heads p xs ≡ false
    later [] e = refl
    later (x ∷ xs) e =
        let next = comes_from c x.0 x.1 (rank p + 1) (ap first e) in
        not_same x.0 p (λ r. omega (arith, next.from))

-- the next counted pair of a list in order stands where its start is sought
pub first_sought : (es : List (Pair × ℕ)) → InOrder es → (p : Pair) (at : ℕ) → at ≡ seek (start p) es → next_counted (count_of es) p ≡ first (drop at es)
first_sought es ordered p at here =
    let P : List (Pair × ℕ) → Type 0 = λ xs. drop (seek (start p) xs) xs ≡ counted_on (count_of es) (start p) in
    next_is (count_of es) p ∙ ap first (sym (subst P (sym ordered) (sought_rest (count_of es) (start p)))) ∙ ap (λ n. first (drop n es)) (sym here)

-- what stands at a position is the first of what stands from it on
pub first_is : (es : List (Pair × ℕ)) (at : ℕ) → slice_get es at ≡ first (drop at es)
first_is [] at = sym (ap first (drop_all at [] (omega arith)))
first_is (e ∷ es) zero = refl
first_is (e ∷ es) (suc at) = first_is es at
