-- A granted registration, release or settling keeps what holds between calls.
use Rattle.std.proofs.Common.{◌≡◌, ℕ, ◌≤◌, true, ◌≢◌, List, ◌∷◌, sym, refl, ap, ◌∙◌, le_of_eq, le_refl, Ok}
use mathlib.Core.Path.{subst⁻¹}
use Rattle.tally.specs.Counts.{Counts, none}
use Rattle.rules.specs.declared.place.Place.{Place}
use Rattle.rules.specs.declared.place.Place.TheVariants.{Kept, Leaving, OnWay}
use Rattle.rules.specs.declared.place.Notice.{Notice}
use Rattle.rules.specs.declared.call.Call.TheVariants.{Register, Release, Settle}
use Rattle.rules.specs.declared.call.Granted.TheVariants.{Registered, Released, Settled}
use Rattle.rules.specs.Functions.{updated, rest}
use Rattle.rules.specs.Places.{station_of, is_kept, is_on_way}
use Rattle.rules.specs.House.{Row, House}
use Rattle.rules.specs.Asking.{after_settle}
use Rattle.rules.specs.Steps.{notice, register_at, release_from, settle_at}
use Rattle.rules.specs.Runs.{History}
use Rattle.order.proofs.Basics.{updated_here, updated_off, updated_both, AtMost, grows, larger_left, larger_right}
use Rattle.order.proofs.Counting.{counted_more, counted_carry, backed_larger, backed_none}
use Rattle.order.proofs.Handing.{handing_same}
use Rattle.order.proofs.Knowing.{known, known_kept, known_on_way, known_grows, knowing_same}
use Rattle.order.proofs.Noticed.{Noticed, noticed_register, noticed_release, noticed_settle}
use Rattle.order.proofs.Told.{told_skip}
use Rattle.order.proofs.Invariant.{Invariant}

-- a handset j goes to another place and keeps what it knows, and no other handset knows less; then that holds of everyone
moved : (place : ℕ → Place) (counts counts' carried carried' : ℕ → Counts) (j : ℕ) (pl : Place) → ((p : ℕ) → AtMost (counts p) (counts' p))
    → ((a : ℕ) → a ≢ j → carried' a ≡ carried a) → AtMost (known (place j) counts (carried j)) (known pl counts' (carried' j))
    → (a : ℕ) → AtMost (known (place a) counts (carried a)) (known (updated place j pl a) counts' (carried' a))
moved place counts counts' carried carried' j pl up same more a q = updated_both
    (λ (v : Place). known (place a) counts (carried a) q ≤ known v counts' (carried' a) q) place j pl a
    (λ e. subst⁻¹ (λ y. known (place y) counts (carried y) q ≤ known pl counts' (carried' y) q) e (more q))
    (λ ne. subst⁻¹ (λ (d : Counts). known (place a) counts (carried a) q ≤ known (place a) counts' d q) (same a ne)
    (known_grows (place a) counts counts' (carried a) up q))

module _ {B : Type 0} {R : ℕ → Row B} {h : History B} {s : House B} (I : Invariant R h s) where
  pub keep_register : (j n : ℕ) → is_kept (s.place j) ≡ true
      → Invariant R ((Register j n, Ok (Registered (station_of (s.place j)))) ∷ h) (register_at (station_of (s.place j)) j n s)
  unfolding register_at
  keep_register j n k = record {
    core = record {
      rows_are = I.core.rows_are;
      counted = I.core.counted;
      handing = I.core.handing;
      unread_side = I.core.unread_side;
      back_side = I.core.back_side;
      in_order = I.core.in_order;
      knowing = knowing_same I.core.knowing (λ m l. refl)
          (moved s.place s.counts s.counts s.carried s.carried j (Leaving (station_of (s.place j)) n) (λ p q. le_refl _) (λ a ne. refl)
          (λ q. le_of_eq (ap (λ (c : Counts). c q) (known_kept (s.place j) s.counts (s.carried j) k))));
      noticed = noticed_register I.core.noticed (station_of (s.place j)) j n k;
    };
    quiet = record { none_ripe = I.quiet.none_ripe; gap = I.quiet.gap; in_book = I.quiet.in_book };
    told = told_skip I.told _ refl (λ m l. refl) (λ m l. refl);
  }

  -- the notice of handset j and station n is the oldest of station p
  pub keep_release : (p j n : ℕ) (l : List Notice) → s.notices p ≡ notice j n ∷ l → Invariant R ((Release p, Ok (Released j n)) ∷ h) (release_from p j n s)
  unfolding release_from
  keep_release p j n l in_front = record {
    core = record {
      rows_are = I.core.rows_are;
      counted = counted_carry I.core.counted j (s.counts p) (I.core.counted.stations p);
      handing = I.core.handing;
      unread_side = I.core.unread_side;
      back_side = I.core.back_side;
      in_order = I.core.in_order;
      knowing = knowing_same I.core.knowing (λ m l. refl)
          (moved s.place s.counts s.counts s.carried (updated s.carried j (s.counts p)) j (OnWay p n) (λ p q. le_refl _)
          (updated_off s.carried j (s.counts p))
          (λ q. le_of_eq (ap (λ v. known v s.counts (s.carried j) q) leaving.0
          ∙ ap (λ (c : Counts). c q) (sym (updated_here s.carried j (s.counts p))))));
      noticed = subst⁻¹ (λ m. Noticed (updated s.place j (OnWay p n)) (updated s.notices p m)) (ap rest in_front) leaving.1;
    };
    quiet = record { none_ripe = I.quiet.none_ripe; gap = I.quiet.gap; in_book = I.quiet.in_book };
    told = told_skip I.told _ refl (λ m l. refl) (λ m l. refl);
  }
    where
      leaving : (s.place j ≡ Leaving p n) × Noticed (updated s.place j (OnWay p n)) (updated s.notices p l)
      leaving = noticed_release I.core.noticed p j n l in_front

  pub keep_settle : (j : ℕ) → is_on_way (s.place j) ≡ true
      → Invariant R ((Settle j, Ok (Settled (station_of (s.place j)))) ∷ h) (settle_at (station_of (s.place j)) j s)
  unfolding settle_at
  keep_settle j k = record {
    core = record {
      rows_are = I.core.rows_are;
      counted = counted_carry (counted_more I.core.counted n c
          (backed_larger R s.used (s.counts n) (s.carried j) (I.core.counted.stations n) (I.core.counted.carriers j)) more)
          j none (backed_none R s.used);
      handing = handing_same I.core.handing (λ m l. refl) up;
      unread_side = I.core.unread_side;
      back_side = I.core.back_side;
      in_order = I.core.in_order;
      knowing = knowing_same I.core.knowing (λ m l. refl)
          (moved s.place s.counts (updated s.counts n c) s.carried (updated s.carried j none) j (Kept n) up (updated_off s.carried j none)
          (λ q. subst⁻¹ (λ (d : Counts). d q ≤ updated s.counts n c n q) (known_on_way (s.place j) s.counts (s.carried j) k)
          (subst⁻¹ (λ (d : Counts). s.carried j q ≤ d q) (updated_here s.counts n c) (larger_right (s.counts n) (s.carried j) q))));
      noticed = noticed_settle I.core.noticed j n k;
    };
    quiet = record { none_ripe = I.quiet.none_ripe; gap = I.quiet.gap; in_book = I.quiet.in_book };
    told = told_skip I.told _ refl (λ m l. refl) (λ m l. refl);
  }
    where
      n : ℕ
      n = station_of (s.place j)

      c : Counts
      c = after_settle s n j

      more : AtMost (s.counts n) c
      more = larger_left (s.counts n) (s.carried j)

      up : (p : ℕ) → AtMost (s.counts p) (updated s.counts n c p)
      up = grows s.counts n c more
