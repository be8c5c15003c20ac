-- Every granted call leaves a house whose tables name only what is in the house.
use Rattle.std.proofs.Common.{◌≡◌, ℕ, suc, ◌<◌, Bool, true, false, not, ltb, ◌≢◌, List, [], ◌∷◌, ◌++◌, Some, None, Option, sym, refl, ap, subst, ⊎_elim}
use mathlib.Core.Path.{subst⁻¹}
use Rattle.std.proofs.lemmas.Bool.{cases_Bool, and_parts, and_from, or_left, or_cases, both_ways, ltb-true, lt-ltb, eqb-false, ne_eqb, not-true}
use Rattle.std.specs.List.{list_all}
use Rattle.std.specs.Option.{is_some, unwrap_or}
use Rattle.tally.specs.Counts.{Counts}
use Rattle.rules.specs.declared.place.Place.TheVariants.{Kept, Leaving, OnWay}
use Rattle.rules.specs.declared.place.Stage.{Stage}
use Rattle.rules.specs.declared.place.Stage.TheVariants.{Wire, Back, Unread, Read}
use Rattle.rules.specs.declared.place.Notice.{Notice}
use Rattle.rules.specs.declared.call.Call.{Call}
use Rattle.rules.specs.declared.call.Call.TheVariants.{Send, Arrive, ReadNext, Register, Release, Settle}
use Rattle.rules.specs.Functions.{updated, front, rest}
use Rattle.rules.specs.Places.{station_of, holds, heading, is_wire}
use Rattle.rules.specs.House.{Row, House}
use Rattle.rules.specs.Sound.{place_in, stage_in, passed_in, notice_in}
use Rattle.rules.specs.Asking.{refusal}
use Rattle.rules.specs.Steps.{Answer, notice, hand, stand_back, send_on, new_row, send_from, read_at, register_at, release_from, settle_at, arrive_at, grant}
use Rattle.rules.specs.Runs.{History}
use Rattle.order.proofs.Basics.{updated_both, lt_next}
use Rattle.order.proofs.Lists.{any_front, list_all_push}
use Rattle.order.proofs.Ripe.{with_books}
use Rattle.order.proofs.Arriving.{arrive_ways, hand_wire}
use Rattle.order.proofs.Invariant.{Invariant}
use Rattle.order.proofs.Granted.{answers}
use Rattle.order.proofs.InHouse.{station_in, row_in, InHouse}

-- a stage is in the house if it is so where it is the wire
stage_from : (stations : ℕ) (t : Stage) → (is_wire t ≡ true → stage_in stations t ≡ true) → stage_in stations t ≡ true
stage_from stations t h = ⊎_elim h (λ e. or_left _ _ (ap not e)) (cases_Bool (is_wire t))

module _ {B : Type 0} where
  module _ {h : History B} {s : House B} (I : Invariant s.rows h s) (N : InHouse s) where
    abbrev stations : ℕ
    stations = s.sizes.stations

    abbrev handsets : ℕ
    handsets = s.sizes.handsets

    -- a notice names a handset and a station of the house
    abbrev inside : Notice → Bool
    inside = notice_in handsets stations

    -- one message's stage changes
    stages_updated : (x : ℕ) (t : Stage) → stage_in stations t ≡ true → (m : ℕ) → m < s.used → stage_in stations (updated s.stage x t m) ≡ true
    stages_updated x t e m l = updated_both (λ v. stage_in stations v ≡ true) s.stage x t m (λ d. e) (λ d. N.stages_in m l)

    -- handed counts, lists and stages change, and the stages are in the house
    staged : (handed : Counts) (unread back : ℕ → List ℕ) (stage : ℕ → Stage) → ((m : ℕ) → m < s.used → stage_in stations (stage m) ≡ true)
        → InHouse (with_books handed unread back stage s)
    staged handed unread back stage new = record {
      shape_right = N.shape_right;
      used_in = N.used_in;
      rows_in = N.rows_in;
      stages_in = new;
      places_in = N.places_in;
      passed_on = N.passed_on;
      notices_in = N.notices_in;
    }

    -- the message x, which is on the wire, arrives at station p, which holds its addressee or has passed it on
    in_arrive : (p x : ℕ) → x < s.used → is_wire (s.stage x) ≡ true
        → (holds p (s.place (s.rows x).addressee) ≡ false → is_some (s.passed p (s.rows x).addressee) ≡ true)
        → InHouse (arrive_at p (s.rows x) x s).1
    unfolding hand stand_back send_on
    in_arrive p x hx wx on = arrive_ways (λ (r : Answer B × House B). InHouse r.1) p (s.rows x) x s
        (λ held rp. let D = hand_wire x I.core hx wx rp in subst⁻¹ InHouse D.is (staged D.handed D.unread D.back D.stage
        (λ m l. stage_from stations (D.stage m)
        (λ e. subst⁻¹ (λ t. stage_in stations t ≡ true) (D.wire_stays m e) (stages_updated x Unread refl m l)))))
        (λ held unripe. staged s.handed s.unread _ _ (stages_updated x Back refl))
        (λ away. staged s.handed s.unread s.back _ (stages_updated x (Wire (unwrap_or (s.passed p (s.rows x).addressee) 0))
        (⊎_elim (λ e. absurd (both_ways _ (ap not (on away)) e)) (λ e. e) (or_cases _ _ (N.passed_on p (s.rows x).addressee)))))

    module _ (fits : Counts → Bool) where
      pub in_grant : (c : Call B) → refusal fits s c ≡ None → InHouse (grant s c).1
      unfolding send_from read_at register_at release_from settle_at
      in_grant (Send a j b) e =
          let o = (answers fits s (Send a j b) e).own in
          let both = and_parts (ltb a handsets) (ltb j handsets) o.0 in
          let from = N.places_in a (ltb-true _ _ both.0) in
          record {
            shape_right = N.shape_right;
            used_in = ltb-true _ _ o.1.1.1.0;
            rows_in = λ m l. updated_both (λ (r : Row B). row_in s.sizes r ≡ true) s.rows s.used (new_row s (station_of (s.place a)) a j b) m
                (λ d. and_from _ _ (and_from _ _ (and_from _ _ (lt-ltb _ _ (station_in stations (s.place a) from)) both.0) both.1)
                (ap not (ne_eqb j a (λ f. eqb-false a j (not-true _ o.1.0) (sym f)))))
                (λ d. N.rows_in m (below m l d));
            stages_in = λ m l. updated_both (λ t. stage_in stations t ≡ true) s.stage s.used (Wire (station_of (s.place j))) m
                (λ d. lt-ltb _ _ (station_in stations (s.place j) (N.places_in j (ltb-true _ _ both.1))))
                (λ d. N.stages_in m (below m l d));
            places_in = N.places_in;
            passed_on = N.passed_on;
            notices_in = N.notices_in;
          }
        where
          below : (m : ℕ) → m < suc s.used → m ≢ s.used → m < s.used
          below m l d = ⊎_elim (λ lt. lt) (λ q. absurd (d q)) (lt_next l)
      in_grant (Arrive x) e =
          let o = (answers fits s (Arrive x) e).own in
          in_arrive (heading (s.stage x)) x (ltb-true _ _ o.0) o.1.0
          (λ away. ⊎_elim (λ held. absurd (both_ways _ away held)) (λ y. (and_parts _ _ y).1) (or_cases _ _ o.1.1.0))
      in_grant (ReadNext j) e = record {
        shape_right = N.shape_right;
        used_in = N.used_in;
        rows_in = N.rows_in;
        stages_in = stages_updated (front 0 (s.unread j)) Read refl;
        places_in = N.places_in;
        passed_on = N.passed_on;
        notices_in = N.notices_in;
      }
      in_grant (Register j n) e =
          let o = (answers fits s (Register j n) e).own in
          let p = station_of (s.place j) in
          let held = lt-ltb _ _ (station_in stations (s.place j) (N.places_in j (ltb-true _ _ o.0))) in
          record {
            shape_right = N.shape_right;
            used_in = N.used_in;
            rows_in = N.rows_in;
            stages_in = N.stages_in;
            places_in = λ i l. updated_both (λ pl. place_in stations pl ≡ true) s.place j (Leaving p n) i
                (λ d. and_from _ _ held o.1.0) (λ d. N.places_in i l);
            passed_on = N.passed_on;
            notices_in = λ q. updated_both (λ l. list_all inside l ≡ true) s.notices p
                (s.notices p ++ (notice j n ∷ [])) q
                (λ d. list_all_push inside (s.notices p) (notice j n) (N.notices_in p) (and_from _ _ o.0 o.1.0))
                (λ d. N.notices_in q);
          }
      in_grant (Release p) e =
          let o = (answers fits s (Release p) e).own in
          let x : Notice = front (notice 0 0) (s.notices p) in
          let w = and_parts (inside x) (list_all inside (rest (s.notices p)))
          (subst (λ l. list_all inside l ≡ true) (any_front (notice 0 0) (s.notices p) o.1.0) (N.notices_in p)) in
          let to = (and_parts (ltb x.handset handsets) (ltb x.station stations) w.0).1 in
          record {
            shape_right = N.shape_right;
            used_in = N.used_in;
            rows_in = N.rows_in;
            stages_in = N.stages_in;
            places_in = λ i l. updated_both (λ pl. place_in stations pl ≡ true) s.place x.handset (OnWay p x.station) i
                (λ d. and_from _ _ o.0 to) (λ d. N.places_in i l);
            passed_on = λ q i. updated_both (λ (f : ℕ → Option ℕ). passed_in stations (f i) ≡ true) s.passed p
                (updated (s.passed p) x.handset (Some x.station)) q
                (λ d. updated_both (λ t. passed_in stations t ≡ true) (s.passed p) x.handset (Some x.station) i (λ _. to) (λ _. N.passed_on p i))
                (λ d. N.passed_on q i);
            notices_in = λ q. updated_both (λ l. list_all inside l ≡ true) s.notices p (rest (s.notices p)) q
                (λ d. w.1) (λ d. N.notices_in q);
          }
      in_grant (Settle j) e =
          let o = (answers fits s (Settle j) e).own in
          let p = station_of (s.place j) in
          record {
            shape_right = N.shape_right;
            used_in = N.used_in;
            rows_in = N.rows_in;
            stages_in = N.stages_in;
            places_in = λ i l. updated_both (λ pl. place_in stations pl ≡ true) s.place j (Kept p) i
                (λ d. lt-ltb _ _ (station_in stations (s.place j) (N.places_in j (ltb-true _ _ o.0)))) (λ d. N.places_in i l);
            passed_on = N.passed_on;
            notices_in = N.notices_in;
          }
