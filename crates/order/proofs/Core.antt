-- What holds of a house after every handing of a message, the history aside. Handing a ripe message keeps it.
use Rattle.std.proofs.Common.{◌≡◌, ℕ, ◌<◌, ◌≤◌, Bool, true, false, List, [], ◌∷◌, ◌++◌, sym, ap, subst, le_refl, lt_of_lt_of_le}
use mathlib.Core.Path.{subst⁻¹}
use Rattle.std.proofs.lemmas.Bool.{both_ways}
use Rattle.tally.specs.declared.pair.Pair.{Pair}
use Rattle.rules.specs.declared.place.Stage.TheVariants.{Unread}
use Rattle.rules.specs.Functions.{updated, times}
use Rattle.rules.specs.Places.{is_back, is_unread, is_read, is_handed}
use Rattle.rules.specs.House.{Row, House}
use Rattle.rules.specs.Sound.{on}
use Rattle.rules.specs.Asking.{ripe}
use Rattle.rules.specs.Steps.{hand}
use Rattle.order.proofs.Basics.{updated_both, bit_true}
use Rattle.order.proofs.Counting.{Counted}
use Rattle.order.proofs.Handing.{Handing, handing_hand}
use Rattle.order.proofs.Books.{Side, side_put, Below, Ordered, ordered_push}
use Rattle.order.proofs.Knowing.{Knowing, knowing_same}
use Rattle.order.proofs.Noticed.{Noticed}
use Rattle.order.proofs.Stages.{test_same, test_here, test_off, not_handed, stands_unread}

module _ {B : Type 0} where
  -- R is the roll as it will be at the end of a run. A row in use never changes.
  -- rows_are     the rows in use are those of R
  -- counted      what is counted was sent, and each message has a number of its own
  -- handing      of the messages from a station to a handset the first so many are handed
  -- unread_side, back_side   each list holds just the messages that stand there
  -- in_order     no message of an unread list has one behind it that it counts
  -- knowing      whoever sent or read a message is where it is counted
  -- noticed      a station has a notice of just those handsets that are leaving it
  pub record Core (R : ℕ → Row B) (s : House B) : Type 0 where
    pub rows_are : (m : ℕ) → m < s.used → s.rows m ≡ R m
    pub counted : Counted R s.used s.counts s.carried
    pub handing : Handing R s.sizes.stations s.used (λ m. is_handed (s.stage m)) s.handed s.counts
    pub unread_side : Side R s.used (λ m. is_unread (s.stage m)) s.unread
    pub back_side : Side R s.used (λ m. is_back (s.stage m)) s.back
    pub in_order : (j : ℕ) → Ordered R (s.unread j)
    pub knowing : Knowing R s.used (λ m. is_read (s.stage m)) s.place s.counts s.carried
    pub noticed : Noticed s.place s.notices

  -- what stands in a list is in use, is to the list's handset, and its stage says so
  side_is : (R : ℕ → Row B) (u : ℕ) (is : ℕ → Bool) (lists : ℕ → List ℕ) → Side R u is lists → (j m : ℕ) → 0 < times m (lists j)
      → (m < u) × ((R m).addressee ≡ j) × (is m ≡ true)
  side_is R u is lists D j m h =
      let w = D.only j m h in
      (w.0, w.1, bit_true (is m) (subst (λ v. 0 < v) (D.own m w.0) (subst⁻¹ (λ i. 0 < times m (lists i)) w.1 h)))

  module _ {R : ℕ → Row B} {s : House B} (C : Core R s) where
    pub unread_is : (j m : ℕ) → 0 < times m (s.unread j) → (m < s.used) × ((R m).addressee ≡ j) × (is_unread (s.stage m) ≡ true)
    unread_is = side_is R s.used (λ m. is_unread (s.stage m)) s.unread C.unread_side

    pub back_is : (j m : ℕ) → 0 < times m (s.back j) → (m < s.used) × ((R m).addressee ≡ j) × (is_back (s.stage m) ≡ true)
    back_is = side_is R s.used (λ m. is_back (s.stage m)) s.back C.back_side

    -- what a handed message counts is handed
    pub below_handed : (m x : ℕ) → m < s.used → x < s.used → (R m).addressee ≡ (R x).addressee → is_handed (s.stage x) ≡ true → Below R m x
        → is_handed (s.stage m) ≡ true
    below_handed m x hm hx same h below = C.handing.done_if m hm
        (lt_of_lt_of_le below (subst⁻¹ (λ (y : Pair). (R x).tag y ≤ s.handed y) (ap (on (R m).station) same)
        (C.handing.still_ripe x hx h (R m).station (C.handing.from_house m hm))))

    pub core_hand : (x : ℕ) (l : List ℕ) → x < s.used → is_handed (s.stage x) ≡ false → ripe s.sizes.stations s.handed (R x) ≡ true
        → Side R s.used (λ m. is_back (updated s.stage x Unread m)) (updated s.back (R x).addressee l) → Core R (hand (R x) x l s)
    unfolding hand
    core_hand x l hx was rp backs = record {
      rows_are = C.rows_are;
      counted = C.counted;
      handing = handing_hand C.handing x C.counted hx was (test_here is_handed s.stage x Unread) (test_off is_handed s.stage x Unread) rp;
      unread_side = side_put C.unread_side x hx (test_off is_unread s.stage x Unread) nu.0 (test_here is_unread s.stage x Unread);
      back_side = backs;
      in_order = λ j. updated_both (Ordered R) s.unread (R x).addressee (s.unread (R x).addressee ++ (x ∷ [])) j
          (λ e. ordered_push R x (s.unread (R x).addressee) (C.in_order (R x).addressee) later) (λ e. C.in_order j);
      knowing = knowing_same C.knowing (λ m h. test_same is_read s.stage x Unread (sym nu.1) m) (λ a q. le_refl _);
      noticed = C.noticed;
    }
      where
        nu : (is_unread (s.stage x) ≡ false) × (is_read (s.stage x) ≡ false)
        nu = not_handed (s.stage x) was

        later : (y : ℕ) → 0 < times y (s.unread (R x).addressee) → ¬ Below R x y
        later y h below =
            let w = unread_is (R x).addressee y h in
            both_ways _ was (below_handed x y hx w.0 (sym w.1) (stands_unread (s.stage y) w.2).0 below)
