-- A granted send keeps what holds between calls.
use Rattle.std.proofs.Common.{◌≡◌, ℕ, suc, ◌<◌, Bool, true, ◌∷◌, Some, Ok, sym, refl, ap, ◌∙◌, subst, ⊎_elim, ne_of_lt}
use mathlib.Core.Path.{subst⁻¹}
use Rattle.tally.specs.Counts.{Counts}
use Rattle.rules.specs.declared.place.Stage.{Stage}
use Rattle.rules.specs.declared.place.Stage.TheVariants.{Wire}
use Rattle.rules.specs.declared.call.Call.TheVariants.{Send}
use Rattle.rules.specs.declared.call.Granted.TheVariants.{Named}
use Rattle.rules.specs.Functions.{updated}
use Rattle.rules.specs.Places.{station_of, is_kept, is_wire, is_back, is_unread, is_read, is_handed}
use Rattle.rules.specs.House.{Row, House}
use Rattle.rules.specs.Changes.{with_used, with_counts, with_rows, with_stage}
use Rattle.rules.specs.Asking.{pair_of}
use Rattle.rules.specs.Steps.{new_row, send_from}
use Rattle.rules.specs.Runs.{History}
use Rattle.order.proofs.Basics.{updated_both, lt_next, grows, raised_grows, AtMost}
use Rattle.order.proofs.Counting.{counts_sent, counted_send}
use Rattle.order.proofs.Handing.{handing_send}
use Rattle.order.proofs.Books.{side_send}
use Rattle.order.proofs.Knowing.{known, known_kept, Had, Covers, knowing_send}
use Rattle.order.proofs.Told.{Under, told_send}
use Rattle.order.proofs.Stages.{test_here, test_off}
use Rattle.order.proofs.Core.{Core}
use Rattle.order.proofs.Invariant.{Invariant}

module _ {B : Type 0} where
  -- the house after the message with the row r was sent
  abbrev after : House B → Row B → House B
  after s r =
      with_used (suc s.used)
      (with_counts (counts_sent s.counts r)
      (with_rows (updated s.rows s.used r)
      (with_stage (updated s.stage s.used (Wire (station_of (s.place r.addressee)))) s)))

  -- the row r, with the body b, is one that a send can make: a station of the house keeps the sender, and the tag is its counts
  record Sendable (s : House B) (b : B) (r : Row B) : Type 0 where
    kept : is_kept (s.place r.sender) ≡ true
    station_is : station_of (s.place r.sender) ≡ r.station
    in_house : r.station < s.sizes.stations
    tagged : r.tag ≡ s.counts r.station
    body_is : r.body ≡ Some b

  sending : {R : ℕ → Row B} {h : History B} {s : House B} (b : B) → Invariant R h s → Sendable s b (R s.used)
      → Invariant R ((Send (R s.used).sender (R s.used).addressee b, Ok (Named s.used)) ∷ h) (after s (R s.used))
  sending {R} {s = s} b I new = record {
    core = record {
      rows_are = λ m h. updated_both (λ r. r ≡ R m) s.rows u (R u) m (λ e. ap R (sym e))
          (λ ne. C.rows_are m (⊎_elim (λ lt. lt) (λ e. absurd (ne e)) (lt_next h)));
      counted = counted_send C.counted new.tagged;
      handing = handing_send C.handing (old is_handed) (test_here is_handed s.stage u wire) up new.tagged new.in_house;
      unread_side = side_send C.unread_side (old is_unread) (test_here is_unread s.stage u wire);
      back_side = side_send C.back_side (old is_back) (test_here is_back s.stage u wire);
      in_order = C.in_order;
      knowing = knowing_send C.knowing new.kept new.station_is new.tagged (old is_read) (test_here is_read s.stage u wire);
      noticed = C.noticed;
    };
    quiet = record { none_ripe = I.quiet.none_ripe; gap = I.quiet.gap; in_book = I.quiet.in_book };
    told = told_send I.told b new.body_is under (old is_read) (test_here is_read s.stage u wire) (old is_wire) (test_here is_wire s.stage u wire);
  }
    where
      C : Core R s
      C = I.core

      u : ℕ
      u = s.used

      wire : Stage
      wire = Wire (station_of (s.place (R u).addressee))

      old : (test : Stage → Bool) (m : ℕ) → m < u → test (updated s.stage u wire m) ≡ test (s.stage m)
      old test m lt = test_off test s.stage u wire m (ne_of_lt lt)

      up : (p : ℕ) → AtMost (s.counts p) (counts_sent s.counts (R u) p)
      up = grows s.counts (R u).station _ (raised_grows (s.counts (R u).station) (pair_of (R u)) _)

      -- the counts of the sender's station are the tag
      tag_is : known (s.place (R u).sender) s.counts (s.carried (R u).sender) ≡ (R u).tag
      tag_is = known_kept _ _ _ new.kept ∙ ap s.counts new.station_is ∙ sym new.tagged

      under : (m : ℕ) → m < u → Had R (λ m. is_read (s.stage m)) m (R u).sender → Under R m u
      under m lt had = let c = subst (λ (c : Counts). Covers R c m) tag_is (C.knowing.knows m (R u).sender lt had) in (lt, c.0, c.1)

  pub keep_send : {R : ℕ → Row B} {h : History B} {s : House B} (a j : ℕ) (b : B) → Invariant R h s → is_kept (s.place a) ≡ true
      → station_of (s.place a) < s.sizes.stations → R s.used ≡ new_row s (station_of (s.place a)) a j b
      → Invariant R ((Send a j b, Ok (Named s.used)) ∷ h) (send_from (station_of (s.place a)) a j b s)
  unfolding send_from
  keep_send {R} {h} {s} a j b I k in_house new = subst (λ (r : Row B). Invariant R ((Send r.sender r.addressee b, Ok (Named s.used)) ∷ h) (after s r)) new
      (sending b I (subst⁻¹ (Sendable s b) new (record { kept = k; station_is = refl; in_house = in_house; tagged = refl; body_is = refl })))
