-- The counted pairs of a table, from a place of the order on.
use Rattle.std.proofs.Common.{◌≡◌, ℕ, zero, suc, ◌+◌, ◌-◌, ◌<◌, ◌≤◌, true, false, cond, eqb, List, [], ◌∷◌, length, Some, None, Option, sym, refl, ap, ◌∙◌, ⊎_elim, add-zero, add-one, arith}
use Rattle.std.proofs.lemmas.Option.{none-some, same_Some}
use Rattle.std.proofs.lemmas.Bool.{cond-true, cond-false, cond_both, cases_Bool, cases_lt, eqb-true, eqb-false, eq-eqb, ne_eqb, le-leb, lt-leb}
use Rattle.tally.specs.declared.pair.Pair.{Pair}
use Rattle.tally.specs.Pairs.{inside, pairs, rank, pair_at, start, after}
use Rattle.tally.specs.Counts.{Counts, none, counted_from, counted_pairs, counted_on, counted}
use Rattle.tally.specs.Answers.{first_from, next_counted}
use Rattle.tally.proofs.Order.{inside_at, rank_at, rank_below, from_start, start_after}

-- the first of some pairs
abbrev pub first : List (Pair × ℕ) → Option (Pair × ℕ)
first [] = None
first (x ∷ xs) = Some x

module _ (c : Counts) where
  pub all_rest : counted_pairs c ≡ counted_on c 0
  unfolding counted_pairs counted_on
  all_rest = refl

  pub rest_past : (k : ℕ) → pairs ≤ k → counted_on c k ≡ []
  unfolding counted_on
  rest_past k h = let e : pairs - k ≡ 0 = omega arith in ap (counted_from c k) e

  -- one place on
  rest_step : (k : ℕ) → k < pairs → counted_on c k ≡ cond (eqb (c (pair_at k)) 0) (counted_on c (k + 1)) ((pair_at k, c (pair_at k)) ∷ counted_on c (k + 1))
  unfolding counted_on
  rest_step k h =
      let e : pairs - k ≡ suc (pairs - suc k) = omega arith in
      ap (counted_from c k) e
      ∙ ap (λ j. cond (eqb (c (pair_at k)) 0) (counted_on c j) ((pair_at k, c (pair_at k)) ∷ counted_on c j)) (sym (add-one k))

  pub rest_here : (k : ℕ) → k < pairs → (c (pair_at k) ≡ 0 → ⊥) → counted_on c k ≡ (pair_at k, c (pair_at k)) ∷ counted_on c (k + 1)
  rest_here k h some = rest_step k h ∙ cond-false _ _ _ (ne_eqb _ _ some)

  pub rest_zero : (k : ℕ) → k < pairs → c (pair_at k) ≡ 0 → counted_on c k ≡ counted_on c (k + 1)
  rest_zero k h z = rest_step k h ∙ cond-true _ _ _ (eq-eqb _ _ z)

  -- over d places that count nothing
  skip : (d k : ℕ) → k + d ≤ pairs → ((i : ℕ) → k ≤ i → i < k + d → c (pair_at i) ≡ 0) → counted_on c k ≡ counted_on c (k + d)
  skip zero k h zeros = ap (counted_on c) (sym (add-zero k))
  skip (suc d) k h zeros =
      rest_zero k (omega arith) (zeros k (omega arith) (omega arith))
      ∙ skip d (k + 1) (omega arith) (λ i a b. zeros i (omega arith) (omega arith))
      ∙ ap (counted_on c) (omega arith)

  pub rest_skip : (k m : ℕ) → k ≤ m → m ≤ pairs → ((i : ℕ) → k ≤ i → i < m → c (pair_at i) ≡ 0) → counted_on c k ≡ counted_on c m
  rest_skip k m low high zeros = let e : k + (m - k) ≡ m = omega arith in skip (m - k) k (omega arith) (λ i a b. zeros i a (omega arith)) ∙ ap (counted_on c) e

  -- the next counted pair is the first from its start on
  module _ (p : Pair) where
    -- n places are left from k on
    from_later : (n k : ℕ) → k + n ≡ pairs → start p ≤ k → first_from p (counted_on c k) ≡ first (counted_on c k)
    from_later zero k e low = ap (first_from p) (rest_past k (omega arith)) ∙ sym (ap first (rest_past k (omega arith)))
    from_later (suc n) k e low =
        ⊎_elim
        (λ (z : eqb (c (pair_at k)) 0 ≡ true).
        let s = rest_zero k (omega arith) (eqb-true _ _ z) in
        ap (first_from p) s ∙ from_later n (k + 1) (omega arith) (omega arith) ∙ ap first (sym s))
        (λ (z : eqb (c (pair_at k)) 0 ≡ false).
        let s = rest_here k (omega arith) (eqb-false _ _ z) in
        let here = from_start p (pair_at k) (inside_at k) ∙ le-leb _ _ (omega (arith, rank_at k (omega arith))) in
        ap (first_from p) s ∙ cond-true _ _ _ here ∙ ap first (sym s))
        (cases_Bool (eqb (c (pair_at k)) 0))

    -- m places before the start are passed over
    from_earlier : (m k : ℕ) → k ≤ pairs → k + m ≡ start p → first_from p (counted_on c k) ≡ first (counted_on c (start p))
    from_earlier zero k h e = from_later (pairs - k) k (omega arith) (omega arith) ∙ ap (λ i. first (counted_on c i)) (omega arith)
    from_earlier (suc m) k h e =
        ⊎_elim
        (λ (l : k < pairs). ⊎_elim
        (λ (z : eqb (c (pair_at k)) 0 ≡ true). ap (first_from p) (rest_zero k l (eqb-true _ _ z)) ∙ from_earlier m (k + 1) (omega arith) (omega arith))
        (λ (z : eqb (c (pair_at k)) 0 ≡ false).
        let before = from_start p (pair_at k) (inside_at k) ∙ lt-leb _ _ (omega (arith, rank_at k l)) in
        ap (first_from p) (rest_here k l (eqb-false _ _ z)) ∙ cond-false _ _ _ before ∙ from_earlier m (k + 1) (omega arith) (omega arith))
        (cases_Bool (eqb (c (pair_at k)) 0)))
        (λ (l : pairs ≤ k). ap (first_from p) (rest_past k l) ∙ sym (ap first (rest_past (start p) (omega arith))))
        (cases_lt k pairs)

    pub next_is : next_counted c p ≡ first (counted_on c (start p))
    next_is = ap (first_from p) all_rest ∙ from_earlier (start p) 0 (omega arith) (omega arith)

-- nothing is counted in a blank table
pub none_counted : counted_pairs none ≡ []
none_counted = all_rest none ∙ rest_skip none 0 pairs (omega arith) (omega arith) (λ i a b. refl) ∙ rest_past none pairs (omega arith)

-- what a walk from place k on comes to: the next counted pair q with its count n, nothing counted between, and what is left after it
pub record Comes (c : Counts) (k : ℕ) (q : Pair) (n : ℕ) : Type 0 where
  pub inn : inside q ≡ true
  pub from : k ≤ rank q
  pub is : n ≡ c q
  pub some : n ≡ 0 → ⊥
  pub between : (i : ℕ) → k ≤ i → i < rank q → c (pair_at i) ≡ 0
  pub left : counted_on c k ≡ (q, n) ∷ counted_on c (rank q + 1)

module _ (c : Counts) (q : Pair) (n : ℕ) where
  -- m places are left from k on
  comes_by : (m k : ℕ) → k + m ≡ pairs → first (counted_on c k) ≡ Some (q, n) → Comes c k q n
  comes_by zero k e h = absurd (none-some (q, n) (sym (ap first (rest_past c k (omega arith))) ∙ h))
  comes_by (suc m) k e h =
      ⊎_elim
      (λ (z : eqb (c (pair_at k)) 0 ≡ true).
      let s = rest_zero c k (omega arith) (eqb-true _ _ z) in
      let later = comes_by m (k + 1) (omega arith) (sym (ap first s) ∙ h) in
      record {
        inn = later.inn;
        from = omega (arith, later.from);
        is = later.is;
        some = later.some;
        between = λ i a b. ⊎_elim
            (λ (l : k < i). later.between i (omega arith) b)
            (λ (l : i ≤ k). let e : i ≡ k = omega arith in ap (λ j. c (pair_at j)) e ∙ eqb-true _ _ z)
            (cases_lt k i);
        left = s ∙ later.left;
      })
      (λ (z : eqb (c (pair_at k)) 0 ≡ false).
      let counts = eqb-false _ _ z in
      let s = rest_here c k (omega arith) counts in
      let pair = same_Some _ _ (sym (ap first s) ∙ h) in
      let x : (pair_at k ≡ q) × (c (pair_at k) ≡ n) = (ap (λ z. z.0) pair, ap (λ z. z.1) pair) in
      let r : rank q ≡ k = ap rank (sym x.0) ∙ rank_at k (omega arith) in
      record {
        inn = ap inside (sym x.0) ∙ inside_at k;
        from = omega (arith, r);
        is = sym x.1 ∙ ap c x.0;
        some = λ z0. counts (x.1 ∙ z0);
        between = λ i a b. absurd (omega (arith, r));
        left = s ∙ (λ i. (x.0 i, x.1 i) ∷ counted_on c (k + 1)) ∙ ap (λ j. (q, n) ∷ counted_on c (j + 1)) (sym r);
      })
      (cases_Bool (eqb (c (pair_at k)) 0))

  pub comes_from : (k : ℕ) → first (counted_on c k) ≡ Some (q, n) → Comes c k q n
  comes_from k h =
      ⊎_elim
      (λ (l : k < pairs). comes_by (pairs - k) k (omega arith) h)
      (λ (l : pairs ≤ k). absurd (none-some (q, n) (sym (ap first (rest_past c k l)) ∙ h)))
      (cases_lt k pairs)

  -- what the next counted pair is
  pub comes : (p : Pair) → next_counted c p ≡ Some (q, n) → Comes c (start p) q n
  comes p h = comes_from (start p) (sym (next_is c p) ∙ h)

pub first_none : (xs : List (Pair × ℕ)) → first xs ≡ None → xs ≡ []
first_none [] h = refl
first_none (x ∷ xs) h = absurd (none-some x (sym h))

-- where there is none, nothing is left
pub comes_not : (c : Counts) (p : Pair) → next_counted c p ≡ None → counted_on c (start p) ≡ []
comes_not c p h = first_none (counted_on c (start p)) (sym (next_is c p) ∙ h)

-- n places are left from k on, and none counts
zeros_by : (c : Counts) (n k : ℕ) → k + n ≡ pairs → counted_on c k ≡ [] → (i : ℕ) → k ≤ i → i < pairs → c (pair_at i) ≡ 0
zeros_by c zero k e h i a b = absurd (omega arith)
zeros_by c (suc n) k e h i a b =
    ⊎_elim
    (λ (z : eqb (c (pair_at k)) 0 ≡ true). ⊎_elim
    (λ (l : k < i). zeros_by c n (k + 1) (omega arith) (sym (rest_zero c k (omega arith) (eqb-true _ _ z)) ∙ h) i (omega arith) b)
    (λ (l : i ≤ k). let e : i ≡ k = omega arith in ap (λ j. c (pair_at j)) e ∙ eqb-true _ _ z)
    (cases_lt k i))
    (λ (z : eqb (c (pair_at k)) 0 ≡ false). absurd (none-some _ (sym (ap first (sym (rest_here c k (omega arith) (eqb-false _ _ z)) ∙ h)))))
    (cases_Bool (eqb (c (pair_at k)) 0))

-- where nothing is left from place k on, nothing is counted there
pub zeros_from : (c : Counts) (k : ℕ) → counted_on c k ≡ [] → (i : ℕ) → k ≤ i → i < pairs → c (pair_at i) ≡ 0
zeros_from c k h i a b = zeros_by c (pairs - k) k (omega arith) h i a b

-- lower counts, fewer counted pairs
fewer : (c d : Counts) → ((n : ℕ) → d (pair_at n) ≤ c (pair_at n)) → (k n : ℕ) → length (counted_from d k n) ≤ length (counted_from c k n)
fewer c d less k zero = omega arith
fewer c d less k (suc n) =
    let more = fewer c d less (suc k) n in
    let ds = counted_from d (suc k) n in
    let cs = counted_from c (suc k) n in
    let least : length cs ≤ length (counted_from c k (suc n)) =
    cond_both (eqb (c (pair_at k)) 0) cs _ (λ ys. length cs ≤ length ys) (λ _. omega arith) (λ _. omega arith) in
    cond_both (eqb (d (pair_at k)) 0) ds _ (λ xs. length xs ≤ length (counted_from c k (suc n)))
    (λ _. omega (arith, more, least))
    (λ z.
    let some : c (pair_at k) ≡ 0 → ⊥ = λ z0. eqb-false _ _ z (omega (arith, less k)) in
    omega (arith, more, ap length (cond-false _ cs ((pair_at k, c (pair_at k)) ∷ cs) (ne_eqb _ _ some))))

pub counted_lowered : (c d : Counts) → ((p : Pair) → inside p ≡ true → d p ≤ c p) → counted d ≤ counted c
unfolding counted_pairs
counted_lowered c d less = fewer c d (λ n. less (pair_at n) (inside_at n)) 0 pairs

-- no more pairs are counted than there are
at_most : (c : Counts) (k n : ℕ) → length (counted_from c k n) ≤ n
at_most c k zero = omega arith
at_most c k (suc n) =
    let more = at_most c (suc k) n in
    cond_both (eqb (c (pair_at k)) 0) (counted_from c (suc k) n) _ (λ xs. length xs ≤ suc n) (λ _. omega (arith, more)) (λ _. omega (arith, more))

pub counted_most : (c : Counts) → counted c ≤ pairs
unfolding counted_pairs
counted_most c = at_most c 0 pairs

-- from p the walk along the counted pairs comes to q with its count n, and goes on from r
pub record Goes (c : Counts) (p q : Pair) (n : ℕ) (r : Pair) : Type 0 where
  pub left : counted_on c (start p) ≡ (q, n) ∷ counted_on c (start r)
  pub later : start p < start r
  pub within : start r ≤ pairs

pub goes : (c : Counts) (p q : Pair) (n : ℕ) (r : Pair) → next_counted c p ≡ Some (q, n) → r ≡ after q → Goes c p q n r
goes c p q n r next e =
    let x = comes c q n p next in
    let on : start r ≡ rank q + 1 = ap start e ∙ start_after q x.inn in
    record {
      left = x.left ∙ ap (λ k. (q, n) ∷ counted_on c k) (sym on);
      later = omega (arith, on, x.from);
      within = omega (arith, on, rank_below q x.inn);
    }
