-- Between calls the tables are sound, so that no call is denied for their sake.
use Rattle.std.proofs.Common.{◌≡◌, ℕ, zero, suc, ◌<◌, ◌≤◌, true, leb, ⊎_elim, lt_trans, not-suc-le-zero, arith}
use Rattle.std.proofs.lemmas.Bool.{cases_lt, and_parts, and_from, lt-ltb, le-leb, leb-true, eq-eqb}
use Rattle.tally.specs.declared.pair.Pair.{Pair}
use Rattle.tally.specs.Counts.{Counts}
use Rattle.rules.specs.House.{Row, House}
use Rattle.rules.specs.Sound.{on, name_in, passed_in, row_sound, handset_sound, station_sound, sound}
use Rattle.rules.specs.Asking.{pair_of}
use Rattle.rules.specs.Runs.{History}
use Rattle.order.proofs.Basics.{all_below_from}
use Rattle.order.proofs.Lists.{list_all_from}
use Rattle.order.proofs.Counting.{Counted}
use Rattle.order.proofs.Totals.{few_notices}
use Rattle.order.proofs.Core.{Core, unread_is, back_is}
use Rattle.order.proofs.Invariant.{Invariant}
use Rattle.order.proofs.InHouse.{InHouse}

module _ {B : Type 0} where
  module _ {R : ℕ → Row B} {u : ℕ} {counts carried : ℕ → Counts} (C : Counted R u counts carried) where
    -- no tag counts more messages from a station to a handset than were sent before; n bounds the recursion
    tag_small : (n m : ℕ) → m < n → m < u → (q : Pair) → (R m).tag q ≤ m
    tag_small zero m l h q = absurd (not-suc-le-zero l)
    tag_small (suc n) m l h q = ⊎_elim
        (λ lt.
        let w = C.tags m h q m lt in
        absurd (omega (arith, w.1, w.3, tag_small n w.0 (omega (arith, w.1)) (lt_trans w.1 h) (pair_of (R w.0)))))
        (λ le. le) (cases_lt m ((R m).tag q))

    -- nor does a station count more than were sent
    own_small : (p : ℕ) (q : Pair) → counts p q ≤ u
    own_small p q = ⊎_elim
        (λ lt.
        let w = C.stations p q u lt in
        absurd (omega (arith, w.1, w.3, tag_small (suc w.0) w.0 (omega arith) w.1 (pair_of (R w.0)))))
        (λ le. le) (cases_lt u (counts p q))

  pub sound_holds : {h : History B} {s : House B} → Invariant s.rows h s → InHouse s → sound s ≡ true
  unfolding sound
  sound_holds {s = s} I N = and_from _ _
      (and_from _ _ (and_from _ _ (le-leb s.used s.sizes.rows N.used_in) (all_below_from (row_sound s) s.used row))
      (all_below_from (handset_sound s) s.sizes.handsets handset)) (all_below_from (station_sound s) s.sizes.stations station)
    where
      C : Core s.rows s
      C = I.core

      row : (m : ℕ) → m < s.used → row_sound s m ≡ true
      row m l = and_from _ _ (N.rows_in m l) (N.stages_in m l)

      few : (i j : ℕ) → s.handed (on i j) ≤ 4096
      few i j = omega (
        arith,
        C.handing.few (on i j),
        own_small C.counted i (on i j),
        N.used_in,
        leb-true s.sizes.rows 4096 (and_parts (leb 1 s.sizes.rows) (leb s.sizes.rows 4096) N.shape_right.1.1.0).1,
      )

      handset : (j : ℕ) → j < s.sizes.handsets → handset_sound s j ≡ true
      handset j l = and_from _ _
          (and_from _ _
          (and_from _ _ (and_from _ _ (N.places_in j l) (le-leb _ _ (I.quiet.in_book j)))
          (list_all_from (name_in s.used j (λ m. (s.rows m).addressee)) (s.unread j)
          (λ m z. let w = unread_is C j m z in and_from _ _ (lt-ltb m s.used w.0) (eq-eqb (s.rows m).addressee j w.1))))
          (list_all_from (name_in s.used j (λ m. (s.rows m).addressee)) (s.back j)
          (λ m z. let w = back_is C j m z in and_from _ _ (lt-ltb m s.used w.0) (eq-eqb (s.rows m).addressee j w.1))))
          (all_below_from (λ i. leb (s.handed (on i j)) 4096) s.sizes.stations (λ i k. le-leb (s.handed (on i j)) 4096 (few i j)))

      station : (p : ℕ) → p < s.sizes.stations → station_sound s p ≡ true
      station p l = and_from _ _
          (and_from _ _ (le-leb _ _ (few_notices C.noticed s.sizes.handsets s.sizes.stations p (N.notices_in p)))
          (all_below_from (λ j. passed_in s.sizes.stations (s.passed p j)) s.sizes.handsets (λ j k. N.passed_on p j)))
          (N.notices_in p)
