-- The handing part: of the messages from a station to a handset the first so many are handed. Whatever leaves the handed ones as they
-- are keeps that, and so do sending a message and handing a ripe one.
use Rattle.std.proofs.Common.{◌≡◌, ℕ, zero, suc, ◌<◌, ◌≤◌, max, Bool, true, false, ◌&&◌, leb, ◌≢◌, sym, refl, ap, ◌∙◌, subst, ⊎_elim, le_trans, lt_of_lt_of_le, arith}
use mathlib.Core.Path.{subst⁻¹}
use Rattle.std.proofs.lemmas.Bool.{cond_both, cases_eq, both_ways, leb-true}
use Rattle.tally.specs.declared.pair.Pair.{Pair}
use Rattle.tally.specs.Pairs.{same}
use Rattle.tally.specs.Counts.{Counts, raised}
use Rattle.tally.proofs.Order.{same_is}
use Rattle.rules.specs.Functions.{all_below}
use Rattle.rules.specs.House.{Row}
use Rattle.rules.specs.Asking.{pair_of, beside, ripe}
use Rattle.order.proofs.Basics.{lt_next, AtMost, all_below_at, raised_grows, raised_here}
use Rattle.order.proofs.Counting.{number, Counted}

-- the handed counts with one more at the pair q
abbrev pub handed_more : Counts → Pair → Counts
handed_more handed q = raised handed q (suc (handed q))

more_both : (P : ℕ → Type 0) (handed : Counts) (q x : Pair) → (x ≡ q → P (suc (handed q))) → P (handed x) → P (handed_more handed q x)
more_both P handed q x h k = cond_both (same x q) (max (handed x) (suc (handed q))) (handed x) P
    (λ e.
    let d = same_is x q e in
    let one : max (handed x) (suc (handed q)) ≡ suc (handed q) = omega (arith, ap handed d) in
    subst⁻¹ P one (h d))
    (λ e. k)

more_grows : (handed : Counts) (q : Pair) → AtMost handed (handed_more handed q)
more_grows handed q = raised_grows handed q (suc (handed q))

-- counts at another handset stay
pub more_off : (handed : Counts) (q x : Pair) → x.handset ≢ q.handset → handed_more handed q x ≡ handed x
more_off handed q x ne = more_both (λ v. v ≡ handed x) handed q x (λ e. absurd (ne (ap (λ (y : Pair). y.handset) e))) refl

module _ {B : Type 0} where
  ripe_at : (stations : ℕ) (handed : Counts) (r : Row B) → ripe stations handed r ≡ true → (i : ℕ) → i < stations
      → r.tag (beside i r) ≤ handed (beside i r)
  unfolding ripe
  ripe_at stations handed r e i h = leb-true _ _ (all_below_at (λ i. leb (r.tag (beside i r)) (handed (beside i r))) stations e i h)

  -- whether a message is ripe hangs on the counts of its addressee alone
  pub ripe_same : (stations : ℕ) (f g : Counts) (r : Row B) → ((i : ℕ) → f (beside i r) ≡ g (beside i r)) → ripe stations f r ≡ ripe stations g r
  unfolding ripe all_below
  ripe_same zero f g r e = refl
  ripe_same (suc n) f g r e =
      ap (λ b. b && leb (r.tag (beside n r)) (f (beside n r))) (ripe_same n f g r e) ∙ ap (λ v. ripe n g r && leb (r.tag (beside n r)) v) (e n)

  -- `is` tells which messages are handed.
  -- from_house     every message was sent from a station of the house
  -- done, done_if  a message is handed just if its number is below the handed count of its pair
  -- still_ripe     a handed message is ripe
  -- few            no more are handed than the sending station counts
  pub record Handing (R : ℕ → Row B) (stations used : ℕ) (is : ℕ → Bool) (handed : Counts) (counts : ℕ → Counts) : Type 0 where
    pub from_house : (m : ℕ) → m < used → (R m).station < stations
    pub done : (m : ℕ) → m < used → is m ≡ true → number R m < handed (pair_of (R m))
    pub done_if : (m : ℕ) → m < used → number R m < handed (pair_of (R m)) → is m ≡ true
    pub still_ripe : (m : ℕ) → m < used → is m ≡ true → (i : ℕ) → i < stations → (R m).tag (beside i (R m)) ≤ handed (beside i (R m))
    pub few : (q : Pair) → handed q ≤ counts q.station q

  module _ {R : ℕ → Row B} {stations u : ℕ} {is is' : ℕ → Bool} {handed : Counts} {counts : ℕ → Counts}
      (H : Handing R stations u is handed counts) where
    -- the same are handed, and no count of a station falls
    pub handing_same : {counts' : ℕ → Counts} → ((m : ℕ) → m < u → is' m ≡ is m) → ((p : ℕ) → AtMost (counts p) (counts' p))
        → Handing R stations u is' handed counts'
    handing_same e g = record {
      from_house = H.from_house;
      done = λ m h t. H.done m h (sym (e m h) ∙ t);
      done_if = λ m h t. e m h ∙ H.done_if m h t;
      still_ripe = λ m h t. H.still_ripe m h (sym (e m h) ∙ t);
      few = λ q. le_trans (H.few q) (g q.station q);
    }

    -- the message u is sent, which is not handed
    pub handing_send : {counts' : ℕ → Counts} → ((m : ℕ) → m < u → is' m ≡ is m) → is' u ≡ false → ((p : ℕ) → AtMost (counts p) (counts' p))
        → (R u).tag ≡ counts (R u).station → (R u).station < stations → Handing R stations (suc u) is' handed counts'
    handing_send e f g tagged in_house = record {
      from_house = λ m h. ⊎_elim (H.from_house m) (λ eq. subst⁻¹ (λ x. (R x).station < stations) eq in_house) (lt_next h);
      done = λ m h t. ⊎_elim (λ lt. H.done m lt (sym (e m lt) ∙ t)) (λ eq. absurd (both_ways _ (ap is' eq ∙ f) t)) (lt_next h);
      done_if = λ m h t. ⊎_elim (λ lt. e m lt ∙ H.done_if m lt t)
          (λ eq. absurd (new (subst (λ x. number R x < handed (pair_of (R x))) eq t))) (lt_next h);
      still_ripe = λ m h t. ⊎_elim (λ lt. H.still_ripe m lt (sym (e m lt) ∙ t)) (λ eq. absurd (both_ways _ (ap is' eq ∙ f) t)) (lt_next h);
      few = λ q. le_trans (H.few q) (g q.station q);
    }
      where
        new : number R u < handed (pair_of (R u)) → ⊥
        new t = omega (arith, H.few (pair_of (R u)), ap (λ (c : Counts). c (pair_of (R u))) tagged)

    -- the message x is handed, which is ripe and was not handed
    pub handing_hand : {carried : ℕ → Counts} (x : ℕ) → Counted R u counts carried → x < u → is x ≡ false → is' x ≡ true → ((m : ℕ) → m ≢ x → is' m ≡ is m)
        → ripe stations handed (R x) ≡ true → Handing R stations u is' (handed_more handed (pair_of (R x))) counts
    handing_hand x C hx was now kept rp = record {
      from_house = H.from_house;
      done = λ m h t. ⊎_elim
          (λ eq. subst⁻¹ (λ y. number R y < handed_more handed q (pair_of (R y))) eq (omega (arith, exact, raised_here handed q (suc (handed q)))))
          (λ ne. lt_of_lt_of_le (H.done m h (sym (kept m ne) ∙ t)) (more_grows handed q (pair_of (R m)))) (cases_eq m x);
      done_if = λ m h. more_both (λ v. number R m < v → is' m ≡ true) handed q (pair_of (R m))
          (λ e t. ⊎_elim (λ lt. old m h (subst⁻¹ (λ (y : Pair). number R m < handed y) e lt))
          (λ eq. ap is' (C.one_each m x h hx e (eq ∙ sym exact)) ∙ now) (lt_next t))
          (old m h);
      still_ripe = λ m h t i hi. le_trans
          (⊎_elim (λ eq. subst⁻¹ (λ y. (R y).tag (beside i (R y)) ≤ handed (beside i (R y))) eq (ripe_at stations handed (R x) rp i hi))
          (λ ne. H.still_ripe m h (sym (kept m ne) ∙ t) i hi) (cases_eq m x))
          (more_grows handed q (beside i (R m)));
      few = λ y. more_both (λ v. v ≤ counts y.station y) handed q y
          (λ e. subst⁻¹ (λ (z : Pair). suc (handed q) ≤ counts z.station z) e (omega (arith, exact, C.below_own x hx))) (H.few y);
    }
      where
        q : Pair
        q = pair_of (R x)

        exact : number R x ≡ handed q
        exact =
            let a = ripe_at stations handed (R x) rp (R x).station (H.from_house x hx) in
            ⊎_elim (λ lt. absurd (both_ways _ was (H.done_if x hx lt))) (λ e. e) (lt_next {m = number R x} {u = handed q} (omega arith))

        old : (m : ℕ) → m < u → number R m < handed (pair_of (R m)) → is' m ≡ true
        old m h t = ⊎_elim (λ eq. ap is' eq ∙ now) (λ ne. kept m ne ∙ H.done_if m h t) (cases_eq m x)
