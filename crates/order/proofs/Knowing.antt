-- The knowing part: wherever a handset that sent or read a message is, the message and all that its tag counts are counted.
use Rattle.std.proofs.Common.{◌≡◌, ℕ, suc, ◌<◌, ◌≤◌, Bool, true, false, ◌≢◌, ◌⊎◌, sym, refl, ap, ◌∙◌, subst, inl, inr, ⊎_elim, le_trans, le_refl, lt_of_lt_of_le, arith}
use mathlib.Core.Path.{subst⁻¹}
use Rattle.std.proofs.lemmas.Bool.{cases_eq, both_ways, false≢true}
use Rattle.tally.specs.declared.pair.Pair.{Pair}
use Rattle.tally.specs.Counts.{Counts, raised}
use Rattle.rules.specs.declared.place.Place.{Place}
use Rattle.rules.specs.declared.place.Place.TheVariants.{Kept, Leaving, OnWay}
use Rattle.rules.specs.Places.{station_of, is_kept, is_on_way}
use Rattle.rules.specs.House.{Row}
use Rattle.rules.specs.Asking.{pair_of}
use Rattle.order.proofs.Basics.{updated_here, lt_next, AtMost, grows, raised_grows, raised_here}
use Rattle.order.proofs.Counting.{number, counts_sent}

-- the counts that go with a handset in that place: those of the station that holds it, or those that it carries
abbrev pub known : Place → (ℕ → Counts) → Counts → Counts
known (Kept s) counts c = counts s
known (Leaving p n) counts c = counts p
known (OnWay p n) counts c = c

pub known_grows : (pl : Place) (counts counts' : ℕ → Counts) (c : Counts) → ((p : ℕ) → AtMost (counts p) (counts' p))
    → AtMost (known pl counts c) (known pl counts' c)
known_grows (Kept s) counts counts' c g q = g s q
known_grows (Leaving p n) counts counts' c g q = g p q
known_grows (OnWay p n) counts counts' c g q = le_refl (c q)

pub known_kept : (pl : Place) (counts : ℕ → Counts) (c : Counts) → is_kept pl ≡ true → known pl counts c ≡ counts (station_of pl)
known_kept (Kept s) counts c e = refl
known_kept (Leaving p n) counts c e = refl
known_kept (OnWay p n) counts c e = absurd (false≢true e)

pub known_on_way : (pl : Place) (counts : ℕ → Counts) (c : Counts) → is_on_way pl ≡ true → known pl counts c ≡ c
known_on_way (Kept s) counts c e = absurd (false≢true e)
known_on_way (Leaving p n) counts c e = absurd (false≢true e)
known_on_way (OnWay p n) counts c e = refl

module _ {B : Type 0} where
  -- c counts the message m and all that its tag counts
  abbrev pub Covers : (ℕ → Row B) → Counts → ℕ → Type 0
  Covers R c m = AtMost (R m).tag c × (number R m < c (pair_of (R m)))

  covers_more : (R : ℕ → Row B) (c d : Counts) (m : ℕ) → AtMost c d → Covers R c m → Covers R d m
  covers_more R c d m g v = ((λ q. le_trans (v.0 q) (g q)), lt_of_lt_of_le v.1 (g (pair_of (R m))))

  -- handset a sent the message m or has read it; `is` tells which are read
  abbrev pub Had : (ℕ → Row B) → (ℕ → Bool) → ℕ → ℕ → Type 0
  Had R is m a = ((R m).sender ≡ a) ⊎ ((is m ≡ true) × ((R m).addressee ≡ a))

  -- whoever sent or read a message is where it is covered
  pub record Knowing (R : ℕ → Row B) (u : ℕ) (is : ℕ → Bool) (place : ℕ → Place) (counts carried : ℕ → Counts) : Type 0 where
    pub knows : (m a : ℕ) → m < u → Had R is m a → Covers R (known (place a) counts (carried a)) m

  module _ {R : ℕ → Row B} {u : ℕ} {is : ℕ → Bool} {place : ℕ → Place} {counts carried : ℕ → Counts} (K : Knowing R u is place counts carried) where
    -- the same are read, and no handset is where less is counted
    pub knowing_same : {is' : ℕ → Bool} {place' : ℕ → Place} {counts' carried' : ℕ → Counts} → ((m : ℕ) → m < u → is' m ≡ is m)
        → ((a : ℕ) → AtMost (known (place a) counts (carried a)) (known (place' a) counts' (carried' a))) → Knowing R u is' place' counts' carried'
    knowing_same e g = record {
      knows = λ m a h d. covers_more R _ _ m (g a) (K.knows m a h (⊎_elim (λ s. inl s) (λ r. inr (sym (e m h) ∙ r.0, r.1)) d));
    }

    module _ {cs : ℕ → Counts} (g : (p : ℕ) → AtMost (counts p) (cs p)) where
      grown : (m a : ℕ) → m < u → Had R is m a → Covers R (known (place a) cs (carried a)) m
      grown m a h d = covers_more R _ _ m (known_grows (place a) counts cs (carried a) g) (K.knows m a h d)

      -- a handset that a station keeps is where the station's counts are
      kept_covers : (m a : ℕ) → is_kept (place a) ≡ true → Covers R (cs (station_of (place a))) m → Covers R (known (place a) cs (carried a)) m
      kept_covers m a k = subst⁻¹ (λ (c : Counts). Covers R c m) (known_kept (place a) cs (carried a) k)

    -- the message u is sent from the station that keeps its sender
    pub knowing_send : {is' : ℕ → Bool} → is_kept (place (R u).sender) ≡ true → station_of (place (R u).sender) ≡ (R u).station
        → (R u).tag ≡ counts (R u).station → ((m : ℕ) → m < u → is' m ≡ is m) → is' u ≡ false → Knowing R (suc u) is' place (counts_sent counts (R u)) carried
    knowing_send {is'} k at tagged e f = record {
      knows = λ m a h d. ⊎_elim
          (λ lt. grown up m a lt (⊎_elim (λ s. inl s) (λ r. inr (sym (e m lt) ∙ r.0, r.1)) d))
          (λ eq. subst⁻¹ (λ y. Had R is' y a → Covers R (known (place a) cs (carried a)) y) eq
          (⊎_elim (λ s. subst (λ v. Covers R (known (place v) cs (carried v)) u) s (kept_covers up u (R u).sender k here))
          (λ r. absurd (both_ways _ f r.0))) d)
          (lt_next h);
    }
      where
        l : ℕ
        l = (R u).station

        q : Pair
        q = pair_of (R u)

        cs : ℕ → Counts
        cs = counts_sent counts (R u)

        up : (p : ℕ) → AtMost (counts p) (cs p)
        up = grows counts l _ (raised_grows (counts l) q (suc (counts l q)))

        own : number R u < cs l q
        own = omega (
          arith,
          ap (λ (c : Counts). c q) tagged,
          ap (λ (c : Counts). c q) (updated_here counts l (raised (counts l) q (suc (counts l q)))),
          raised_here (counts l) q (suc (counts l q)),
        )

        here : Covers R (cs (station_of (place (R u).sender))) u
        here = subst⁻¹ (λ p. Covers R (cs p) u) at ((λ y. subst⁻¹ (λ (c : Counts). c y ≤ cs l y) tagged (up l y)), own)

    -- the message x is read at the station that keeps its addressee, and which then covers x
    pub knowing_read : {is' : ℕ → Bool} (x : ℕ) → is_kept (place (R x).addressee) ≡ true → ((m : ℕ) → m ≢ x → is' m ≡ is m)
        → {cs : ℕ → Counts} → ((p : ℕ) → AtMost (counts p) (cs p)) → Covers R (cs (station_of (place (R x).addressee))) x → Knowing R u is' place cs carried
    knowing_read x k e {cs} up here = record {
      knows = λ m a h d. ⊎_elim (λ s. grown up m a h (inl s))
          (λ r. ⊎_elim
          (λ eq. subst⁻¹ (λ y. (R y).addressee ≡ a → Covers R (known (place a) cs (carried a)) y) eq
          (λ s. subst (λ v. Covers R (known (place v) cs (carried v)) x) s (kept_covers up x (R x).addressee k here)) r.1)
          (λ ne. grown up m a h (inr (sym (e m ne) ∙ r.0, r.1)))
          (cases_eq m x)) d;
    }
