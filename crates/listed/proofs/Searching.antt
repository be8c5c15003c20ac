-- Searches in a list in order of pairs.
use Rattle.std.specs.Prelude.{◌≡◌, ℕ, zero, suc, ◌+◌, ◌<◌, ◌≤◌, true, false, cond, List, [], ◌∷◌, length, drop, Ok, Err, Result, ◌==◌, nat_lt}
use Rattle.std.proofs.Common.{get_or, sym, refl, ap, subst, ◌∙◌, ⊎_elim, arith}
use Rattle.std.proofs.lemmas.List.{at_drop_more, at_drop_all}
use Rattle.std.proofs.lemmas.List.Sorted.{searchable_from_sorted, IsNonDecreasingBy-from_all_adjacent}
use Rattle.std.proofs.lemmas.Cmp.{ranked, nat_cmp_total}
use Rattle.std.proofs.lemmas.Result.{MatchResult-at_ok, MatchResult-at_err, IfOk-at_ok, IfErr-at_err}
use Rattle.std.proofs.lemmas.Bool.{cond-true, cond-false, cond_both, cases_lt, cases_Bool, both_ways, lt-ltb, le-ltb, ltb-true, ltb-false}
use Rattle.std.specs.Ordering.{nat_cmp, is_lt}
use Rattle.std.specs.declared.cmp.Ordering.TheVariants.{Less, Equal, Greater}
use Rattle.std.specs.List.Sorted.{IsNonDecreasingBy, IsPartitionPoint, IsBinarySearchResult, IsSearchInRange}
use Rattle.tally.specs.declared.pair.Pair.{Pair}
use Rattle.tally.specs.Pairs.{inside, pairs, same, rank, pair_at}
use Rattle.tally.specs.Counts.{Counts, counted_from, counted_pairs, count_of}
use Rattle.tally.proofs.Order.{rank_at, inside_at, same_rank, same_self, not_same}
use Rattle.listed.specs.Entries.{InOrder, seek, no_entry}
use Rattle.listed.specs.Merging.{heads}
use Rattle.listed.specs.Listing.{sought}

-- an entry in range that stands at place k or after it
abbrev Stands : ℕ → Pair × ℕ → Type 0
Stands k e = (k ≤ rank e.0) × (inside e.0 ≡ true)

module _ (c : Counts) where
  -- so does each counted pair of n places from k on
  stands : (k n : ℕ) → k + n ≤ pairs → (i : ℕ) (d : Pair × ℕ) → i < length (counted_from c k n) → Stands k (get_or (counted_from c k n) i d)
  stands k zero h = λ i d l. absurd (omega arith)
  stands k (suc n) h =
      let later : (i : ℕ) (d : Pair × ℕ) → i < length (counted_from c (suc k) n) → Stands k (get_or (counted_from c (suc k) n) i d) =
      λ i d l. let s = stands (suc k) n (omega arith) i d l in (omega (arith, s.0), s.1) in
      elim (c (pair_at k) == 0) as (λ b. (i : ℕ) (d : Pair × ℕ) → let es = cond b (counted_from c (suc k) n) ((pair_at k, c (pair_at k)) ∷ counted_from c (suc k) n) in
      i < length es → Stands k (get_or es i d)) [
        | true ↦ later
        | false ↦ λ i. elim i as (λ j. (d : Pair × ℕ) → j < length ((pair_at k, c (pair_at k)) ∷ counted_from c (suc k) n)
            → Stands k (get_or ((pair_at k, c (pair_at k)) ∷ counted_from c (suc k) n) j d))
            [ zero ↦ λ d l. (omega (arith, rank_at k (omega arith)), inside_at k) | suc j ↦ λ d l. later j d (omega arith) ]
      ]

  -- and each before the next
  rises : (k n : ℕ) → k + n ≤ pairs → (i : ℕ) (d : Pair × ℕ) → i + 1 < length (counted_from c k n)
      → rank (get_or (counted_from c k n) i d).0 < rank (get_or (counted_from c k n) (i + 1) d).0
  rises k zero h = λ i d l. absurd (omega arith)
  rises k (suc n) h =
      let later = rises (suc k) n (omega arith) in
      elim (c (pair_at k) == 0) as (λ b. (i : ℕ) (d : Pair × ℕ) → let es = cond b (counted_from c (suc k) n) ((pair_at k, c (pair_at k)) ∷ counted_from c (suc k) n) in
      i + 1 < length es → rank (get_or es i d).0 < rank (get_or es (i + 1) d).0) [
        | true ↦ later
        | false ↦ λ i. elim i as (λ j. (d : Pair × ℕ) → let es = (pair_at k, c (pair_at k)) ∷ counted_from c (suc k) n in
            j + 1 < length es → rank (get_or es j d).0 < rank (get_or es (j + 1) d).0) [
              | zero ↦ λ d l. omega (arith, rank_at k (omega arith), (stands (suc k) n (omega arith) 0 d (omega arith)).0)
              | suc j ↦ λ d l. let on : suc j + 1 ≡ suc (j + 1) = omega arith in
                  omega (arith, later j d (omega arith), ap (λ m. rank (get_or ((pair_at k, c (pair_at k)) ∷ counted_from c (suc k) n) m d).0) on)
            ]
      ]

module _ (es : List (Pair × ℕ)) (ordered : InOrder es) where
  pub entry_inside : (i : ℕ) (d : Pair × ℕ) → i < length es → inside (get_or es i d).0 ≡ true
  unfolding counted_pairs
  entry_inside = let P : List (Pair × ℕ) → Type 0 = λ xs. (i : ℕ) (d : Pair × ℕ) → i < length xs → inside (get_or xs i d).0 ≡ true in
      subst P (sym ordered) (λ i d l. (stands (count_of es) 0 pairs (omega arith) i d l).1)

  pub rising : IsNonDecreasingBy (λ (e : Pair × ℕ). rank e.0) es
  unfolding counted_pairs
  rising = IsNonDecreasingBy-from_all_adjacent (λ (e : Pair × ℕ). rank e.0) es
      (let P : List (Pair × ℕ) → Type 0 = λ xs. (i : ℕ) (d : Pair × ℕ) → i + 1 < length xs → rank (get_or xs i d).0 ≤ rank (get_or xs (i + 1) d).0 in
      subst P (sym ordered) (λ i d l. omega (arith, rises (count_of es) 0 pairs (omega arith) i d l)))

  pub strict : (i j : ℕ) (d : Pair × ℕ) → i < j → j < length es → rank (get_or es i d).0 < rank (get_or es j d).0
  unfolding counted_pairs
  strict i j d less l =
      let P : List (Pair × ℕ) → Type 0 = λ xs. (i : ℕ) (d : Pair × ℕ) → i + 1 < length xs → rank (get_or xs i d).0 < rank (get_or xs (i + 1) d).0 in
      omega (arith, subst P (sym ordered) (rises (count_of es) 0 pairs (omega arith)) i d (omega arith), rising (i + 1) j d (omega arith) l)

-- the position before which all entries stand before place k, and from which on none does
pub seek_is : (k : ℕ) (es : List (Pair × ℕ)) (at : ℕ) → at ≤ length es → ((i : ℕ) (d : Pair × ℕ) → i < at → rank (get_or es i d).0 < k)
    → ((i : ℕ) (d : Pair × ℕ) → at ≤ i → i < length es → k ≤ rank (get_or es i d).0) → at ≡ seek k es
seek_is k [] at h before after = omega arith
seek_is k (e ∷ es) zero h before after = sym (cond-false _ _ _ (le-ltb (rank e.0) k (after 0 e (omega arith) (omega arith))))
seek_is k (e ∷ es) (suc at) h before after =
    ap suc (seek_is k es at (omega arith) (λ i d l. before (suc i) d (omega arith)) (λ i d l m. after (suc i) d (omega arith) (omega arith)))
    ∙ sym (cond-true _ _ _ (lt-ltb _ _ (before 0 e (omega arith))))

not_less : (x y : ℕ) → y ≤ x → is_lt (nat_cmp x y) ≡ false
not_less x y h = ap is_lt (cond-false _ _ _ (le-ltb x y h)) ∙ cond_both (x == y) Equal Greater (λ o. is_lt o ≡ false) (λ _. refl) (λ _. refl)

module _ (es : List (Pair × ℕ)) (ordered : InOrder es) (p : Pair) (i : inside p ≡ true) where
  -- what a binary search by places finds
  pub searched : (r : Result ℕ ℕ) → IsSearchInRange r (length es) → IsBinarySearchResult (λ (e : Pair × ℕ). nat_cmp (rank e.0) (rank p)) es r → r ≡ sought es p
  searched (Ok at) within found =
      let same_place : rank (get_or es at no_entry).0 ≡ rank p = ranked (rank (get_or es at no_entry).0) (rank p) Equal (sym (found no_entry)) in
      let one : (get_or es at no_entry).0 ≡ p = same_rank _ p (entry_inside es ordered at no_entry within) i same_place in
      let at_place : (d : Pair × ℕ) → rank (get_or es at d).0 ≡ rank p = λ d. ranked (rank (get_or es at d).0) (rank p) Equal (sym (found d)) in
      let here : at ≡ seek (rank p) es = seek_is (rank p) es at (omega arith)
      (λ j d l. omega (arith, strict es ordered j at d l within, at_place d))
      (λ j d l m. omega (arith, rising es ordered at j d l m, at_place d)) in
      let there : heads p (drop at es) ≡ true = at_drop_more (heads p) es at no_entry within ∙ ap (λ q. same q p) one ∙ same_self p in
      ap Ok here ∙ sym (cond-true _ _ _ (ap (λ n. heads p (drop n es)) (sym here) ∙ there))
  searched (Err at) within found =
      let parts = found (searchable_from_sorted nat_cmp_total (λ (e : Pair × ℕ). rank e.0) es (rank p)
      (λ k d a b. not_less _ _ (rising es ordered k (k + 1) d (omega arith) b))) in
      let before : (j : ℕ) (d : Pair × ℕ) → j < at → rank (get_or es j d).0 < rank p = λ j d l. ranked _ _ Less (sym (parts.0 j d (omega arith) l)) in
      let after : (j : ℕ) (d : Pair × ℕ) → at ≤ j → j < length es → rank p < rank (get_or es j d).0 = λ j d l m. ranked _ _ Greater (sym (parts.1 j d l m)) in
      let here : at ≡ seek (rank p) es = seek_is (rank p) es at within before (λ j d l m. omega (arith, after j d l m)) in
      let absent : heads p (drop at es) ≡ false =
      ⊎_elim
      (λ (l : at < length es). at_drop_more (heads p) es at no_entry l ∙ not_same _ p (λ e. omega (arith, e, after at no_entry (omega arith) l)))
      (λ (l : length es ≤ at). at_drop_all (heads p) es at l)
      (cases_lt at (length es)) in
      ap Err here ∙ sym (cond-false _ _ _ (ap (λ n. heads p (drop n es)) (sym here) ∙ absent))

-- what a search for the first entry that does not stand before place k finds
pub parted_at : (es : List (Pair × ℕ)) (k at : ℕ) → at ≤ length es
    → IsPartitionPoint (λ (e : Pair × ℕ). nat_lt (rank e.0) k ≡ true) (λ (e : Pair × ℕ). nat_lt (rank e.0) k ≡ false) es at → at ≡ seek k es
parted_at es k at h parts = seek_is k es at h (λ i d l. ltb-true _ _ (parts.0 i d (omega arith) l)) (λ i d l m. ltb-false _ _ (parts.1 i d l m))

-- what it says of a pair that it was found, and that it was not
module _ (es : List (Pair × ℕ)) (p : Pair) (at : ℕ) where
  pub found_there : Ok at ≡ sought es p → (at ≡ seek (rank p) es) × (heads p (drop at es) ≡ true)
  found_there h =
      ⊎_elim
      (λ (y : heads p (drop (seek (rank p) es) es) ≡ true).
      let e : at ≡ seek (rank p) es = IfOk-at_ok (λ x. at ≡ x) (h ∙ cond-true _ _ _ y) refl in
      (e, ap (λ n. heads p (drop n es)) e ∙ y))
      (λ (n : heads p (drop (seek (rank p) es) es) ≡ false). MatchResult-at_err (λ _. Unit {0}) (λ _. (at ≡ seek (rank p) es) × (heads p (drop at es) ≡ true)) _ (h ∙ cond-false _ _ _ n) tt)
      (cases_Bool (heads p (drop (seek (rank p) es) es)))

  pub absent_there : Err at ≡ sought es p → (at ≡ seek (rank p) es) × (heads p (drop at es) ≡ false)
  absent_there h =
      ⊎_elim
      (λ (y : heads p (drop (seek (rank p) es) es) ≡ true). MatchResult-at_ok (λ _. (at ≡ seek (rank p) es) × (heads p (drop at es) ≡ false)) (λ _. Unit {0}) _ (h ∙ cond-true _ _ _ y) tt)
      (λ (n : heads p (drop (seek (rank p) es) es) ≡ false).
      let e : at ≡ seek (rank p) es = IfErr-at_err (λ x. at ≡ x) (h ∙ cond-false _ _ _ n) refl in
      (e, ap (λ k. heads p (drop k es)) e ∙ n))
      (cases_Bool (heads p (drop (seek (rank p) es) es)))

  pub within_since : heads p (drop at es) ≡ true → at < length es
  within_since h =
      ⊎_elim
      (λ (l : at < length es). l)
      (λ (l : length es ≤ at). absurd (both_ways _ (at_drop_all (heads p) es at l) h))
      (cases_lt at (length es))
