-- A list in order, with one of its pairs raised or one put in.
use Rattle.std.proofs.Common.{◌≡◌, ℕ, ◌+◌, ◌<◌, ◌≤◌, max, true, false, List, ◌∷◌, ◌++◌, length, get_or, take, drop, set, sym, refl, ap, ◌∙◌, subst, arith}
use Rattle.std.specs.Prelude.{Ok, Err, Result, MatchResult, OnOk, OnErr}
use mathlib.Core.Path.{fun_ext}
use Rattle.std.proofs.lemmas.List.{take-append-drop, set_at, get_or_at, length-take-le}
use Rattle.std.proofs.lemmas.List.Edits.{length-insert}
use Rattle.std.proofs.lemmas.Bool.{both_ways, eqb-true, eq-eqb, not-false, not_from_true, and_right, lt-leb, cond_both}
use Rattle.tally.specs.declared.pair.Pair.{Pair}
use Rattle.tally.specs.Pairs.{inside, same, rank, pair_at}
use Rattle.tally.specs.Counts.{counted_on, Counts, raised, counted_pairs, counted, count_of, none_above}
use Rattle.tally.proofs.Order.{at_rank, rank_below}
use Rattle.tally.proofs.Bounds.{bounded_raised}
use Rattle.tally.proofs.Building.{ranged_raised}
use Rattle.tally.proofs.Listing.{rest_here, rest_zero}
use Rattle.tally.proofs.Splitting.{before, raised_between}
use Rattle.shortlist.proofs.Items.{most_items}
use mathlib.Core.HLevel.{is_prop→PathP}
use denote.Struct.Props.{props}
use Rattle.shortlist.specs.declared.list.ShortList.{ShortList}
use Rattle.shortlist.specs.declared.ListFull.{ListFull}
use Rattle.shortlist.specs.Items.{items, adding}
use Rattle.std.specs.Result.{is_ok}
use Rattle.std.proofs.Common.{⊎_elim, eqb}
use Rattle.std.proofs.lemmas.Result.{MatchResult-at_ok}
use Rattle.std.proofs.lemmas.Bool.{cases_Bool, cond-false}
use Rattle.listed.specs.declared.entries.Listed.{Listed, ordered-type, low-type}
use Rattle.listed.specs.Entries.{InOrder, listed_fits, seek, no_entry}
use Rattle.listed.specs.Listing.{listed, sought, Sought}
use Rattle.listed.specs.Merging.{heads}
use Rattle.listed.specs.Laws.{in_order_ranged, in_order_fits}
use Rattle.listed.proofs.Keeping.{Kept, kept}
use Rattle.listed.proofs.Searching.{found_there, absent_there}
use Rattle.listed.proofs.Seeking.{seek_le, sought as sought_parts, heads_rest}

-- at is the position at which the pair p is sought in es
module _ (es : List (Pair × ℕ)) (ordered : InOrder es) (p : Pair) (i : inside p ≡ true) (at : ℕ) (here : at ≡ seek (rank p) es) where
  abbrev c : Counts
  c = count_of es

  parted : (take at es ≡ before c (rank p)) × (drop at es ≡ counted_on c (rank p))
  parted =
      let P : List (Pair × ℕ) → Type 0 = λ xs. (take (seek (rank p) xs) xs ≡ before c (rank p)) × (drop (seek (rank p) xs) xs ≡ counted_on c (rank p)) in
      let Q : ℕ → Type 0 = λ n. (take n es ≡ before c (rank p)) × (drop n es ≡ counted_on c (rank p)) in
      subst Q (sym here) (subst P (sym ordered) (sought_parts c (rank p) (omega (arith, rank_below p i))))

  -- the pair's entry stands there exactly where it is counted
  pub counted_there : heads p (drop at es) ≡ true → c p ≡ 0 → ⊥
  counted_there h z = both_ways _ (ap (heads p) parted.1 ∙ heads_rest c p i ∙ not_from_true _ (eq-eqb _ _ z)) h

  pub not_counted : heads p (drop at es) ≡ false → c p ≡ 0
  not_counted h = eqb-true _ _ (not-false _ (sym (ap (heads p) parted.1 ∙ heads_rest c p i) ∙ h))

  front : length (take at es) ≡ at
  front = length-take-le at es (omega (arith, here, seek_le (rank p) es))

  module _ (counts : c p ≡ 0 → ⊥) where
    whole : es ≡ take at es ++ ((p, c p) ∷ counted_on c (rank p + 1))
    whole =
        let s : pair_at (rank p) ≡ p = at_rank p i in
        sym (take-append-drop at es)
        ∙ ap (λ xs. take at es ++ xs) (parted.1 ∙ rest_here c (rank p) (rank_below p i) (λ z. counts (ap c (sym s) ∙ z)) ∙ (λ j. (s j, c (s j)) ∷ counted_on c (rank p + 1)))

    pub entry_there : (d : Pair × ℕ) → get_or es at d ≡ (p, c p)
    entry_there d = ap (λ xs. get_or xs at d) whole ∙ get_or_at (take at es) _ _ d at front

    -- the entry raised where it stands
    pub raised_there : (n : ℕ) → set es at (p, max (c p) n) ≡ counted_pairs (raised c p n)
    raised_there n =
        ap (λ xs. set xs at (p, max (c p) n)) whole
        ∙ set_at (take at es) _ _ _ at front
        ∙ ap (λ xs. xs ++ ((p, max (c p) n) ∷ counted_on c (rank p + 1))) parted.0
        ∙ sym (raised_between c p i n (omega (arith, counts)))

  -- an entry put in
  pub put_there : (n : ℕ) → c p ≡ 0 → 0 < n → take at es ++ ((p, n) ∷ drop at es) ≡ counted_pairs (raised c p n)
  put_there n z some =
      let most : n ≡ max (c p) n = omega (arith, z) in
      let after : drop at es ≡ counted_on c (rank p + 1) = parted.1 ∙ rest_zero c (rank p) (rank_below p i) (ap c (at_rank p i) ∙ z) in
      (λ j. parted.0 j ++ ((p, most j) ∷ after j)) ∙ sym (raised_between c p i n (omega (arith, most)))

-- a listed tally t, and the position at which a pair's entry stands or would stand in it
module _ (t : Listed) (p : Pair) (at n : ℕ) (sought_there : Sought (listed t) p at) (low : n ≤ 8191) where
  after : (zs : List (Pair × ℕ)) → zs ≡ counted_pairs (raised (count_of (listed t)) p n) → Kept zs (raised (count_of (listed t)) p n)
  after =
      kept (raised (count_of (listed t)) p n)
      (ranged_raised (count_of (listed t)) p n sought_there.in_range (in_order_ranged (listed t) t.ordered))
      (bounded_raised 8191 (count_of (listed t)) p n low t.low)

  pub raise_kept : heads p (drop at (listed t)) ≡ true → (m : ℕ) → m ≡ max (get_or (listed t) at no_entry).1 n
      → (zs : List (Pair × ℕ)) → zs ≡ set (listed t) at (p, m) → Kept zs (raised (count_of (listed t)) p n)
  raise_kept there m most zs e =
      let counts = counted_there (listed t) t.ordered p sought_there.in_range at sought_there.here there in
      let entry = entry_there (listed t) t.ordered p sought_there.in_range at sought_there.here counts no_entry in
      let most_there : m ≡ max (count_of (listed t) p) n = most ∙ ap (λ (e : Pair × ℕ). max e.1 n) entry in
      after _ (e ∙ ap (λ k. set (listed t) at (p, k)) most_there ∙ raised_there (listed t) t.ordered p sought_there.in_range at sought_there.here counts n)

  pub insert_kept : heads p (drop at (listed t)) ≡ false → 0 < n → (zs : List (Pair × ℕ)) → zs ≡ take at (listed t) ++ ((p, n) ∷ drop at (listed t))
      → Kept zs (raised (count_of (listed t)) p n)
  insert_kept absent some zs e =
      let z = not_counted (listed t) t.ordered p sought_there.in_range at sought_there.here absent in
      after zs (e ∙ put_there (listed t) t.ordered p sought_there.in_range at sought_there.here n z some)

  -- there is no place for one pair more
  pub too_many : heads p (drop at (listed t)) ≡ false → 0 < n → length (listed t) ≡ 96 → listed_fits (raised (count_of (listed t)) p n) ≡ false
  too_many absent some full =
      let es = listed t in
      let zs = take at es ++ ((p, n) ∷ drop at es) in
      let new = insert_kept absent some zs refl in
      let long : length zs ≡ length es + 1 = length-insert es at (p, n) (omega (arith, sought_there.here, seek_le (rank p) es)) in
      let many : counted (raised (count_of es) p n) ≡ 97 =
      ap counted (sym new.counts) ∙ ap length (sym new.ordered) ∙ omega (arith, long, full) in
      and_right (none_above 8191 (raised (count_of es) p n)) _ (lt-leb _ _ (omega (arith, many)))

pub own_fits : (t : Listed) → listed_fits (count_of (listed t)) ≡ true
own_fits t = in_order_fits (listed t) t.ordered t.low (most_items t.entries)

-- a raise to 0 changes nothing
pub raised_to_none : (c : Counts) (p : Pair) (n : ℕ) → n ≡ 0 → c ≡ raised c p n
raised_to_none c p n z = fun_ext (λ q. sym (cond_both (same q p) _ _ (λ x. x ≡ c q) (λ s. omega arith) (λ _. refl)))

-- the count that a search for a pair shows
pub count_found : (t : Listed) (p : Pair) → inside p ≡ true → (r : Result ℕ ℕ) → r ≡ sought (listed t) p → (n : ℕ)
    → MatchResult r (λ at. n ≡ (get_or (listed t) at no_entry).1) (λ _. n ≡ 0) → n ≡ count_of (listed t) p
count_found t p i (Ok at) is n h =
    let there = found_there (listed t) p at is in
    h ∙ ap (λ (e : Pair × ℕ). e.1)
    (entry_there (listed t) t.ordered p i at there.0 (counted_there (listed t) t.ordered p i at there.0 there.1) no_entry)
count_found t p i (Err at) is n h =
    let absent = absent_there (listed t) p at is in
    h ∙ sym (not_counted (listed t) t.ordered p i at absent.0 absent.1)

-- a listed tally is its list
pub same_listed : (a b : Listed) → a.entries ≡ b.entries → a ≡ b
same_listed a b e =
    let o = is_prop→PathP (λ i. ordered-type (e i)) (λ i. hlevel props) a.ordered b.ordered in
    let l = is_prop→PathP (λ i. low-type (e i) (o i)) (λ i. hlevel props) a.low b.low in
    λ i. record { entries = e i; ordered = o i; low = l i }

-- what is left of a list into which an entry was put, or was not for want of a place
pub put_or_kept : (t : Listed) (p : Pair) (at n : ℕ) → Sought (listed t) p at → n ≤ 8191 → heads p (drop at (listed t)) ≡ false → 0 < n
    → (r : Result (Unit {0}) ListFull) (new : ShortList (Pair × ℕ) 96) → OnOk r (items new ≡ take at (listed t) ++ ((p, n) ∷ drop at (listed t))) → OnErr r (new ≡ t.entries)
    → InOrder (items new) × (none_above 8191 (count_of (items new)) ≡ true)
put_or_kept t p at n s low absent some (Ok u) new put same = let k = insert_kept t p at n s low absent some (items new) put in (k.ordered, k.low)
put_or_kept t p at n s low absent some (Err e) new put same =
    (rw same t.ordered, rw same t.low)

-- a refusal that is turned into another says what the first says
pub turned : {E F : Type 0} (P Q : Type 0) (r : Result (Unit {0}) E) (m : Result (Unit {0}) F) → is_ok m ≡ is_ok r → OnOk r P → OnErr r Q → MatchResult m (λ _. P) (λ _. Q)
turned P Q (Ok u) (Ok v) e p q = p
turned P Q (Ok u) (Err d) e p q = absurd (both_ways true (sym e) refl)
turned P Q (Err d) (Ok v) e p q = absurd (both_ways true e refl)
turned P Q (Err d) (Err f) e p q = q

-- a list into which no more is put is full
pub full_since : (xs : List (Pair × ℕ)) (r : Result (Unit {0}) ListFull) → r ≡ adding 96 xs → OnErr r (length xs ≡ 96)
full_since xs (Ok u) e = tt
full_since xs (Err d) e =
    ⊎_elim
    (λ (y : eqb (length xs) 96 ≡ true). eqb-true _ _ y)
    (λ (n : eqb (length xs) 96 ≡ false). MatchResult-at_ok (λ _. length xs ≡ 96) (λ _. Unit {0}) tt (e ∙ cond-false _ _ _ n) tt)
    (cases_Bool (eqb (length xs) 96))

pub both : {E : Type 0} (P Q : Type 0) (r : Result (Unit {0}) E) → OnErr r P → OnErr r Q → OnErr r (P × Q)
both P Q (Ok u) p q = tt
both P Q (Err d) p q = (p, q)
