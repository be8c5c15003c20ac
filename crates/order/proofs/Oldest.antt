-- The oldest message to a handset that is not handed is ripe; so it does not stand back, and an arrive call hands it over where there is room.
use Rattle.std.proofs.Common.{◌≡◌, ℕ, suc, ◌-◌, ◌<◌, ◌≤◌, Bool, true, cond, ltb, leb, Some, Ok, refl, ap, ◌∙◌, subst, ⊎_elim, lt_trans, arith}
use mathlib.Core.Path.{subst⁻¹}
use Rattle.std.proofs.lemmas.Bool.{cases_lt, both_ways, le-leb, lt-ltb, or_left, or_right, cond-true}
use Rattle.tally.specs.declared.pair.Pair.{Pair}
use Rattle.tally.specs.Counts.{Counts}
use Rattle.questions.proofs.Asked.{AllYes}
use Rattle.rules.specs.declared.place.Stage.TheVariants.{Wire, Unread}
use Rattle.rules.specs.declared.call.Call.TheVariants.{Arrive}
use Rattle.rules.specs.declared.call.Arrived.TheVariants.{Handed}
use Rattle.rules.specs.declared.call.Granted.TheVariants.{Arrived}
use Rattle.rules.specs.Functions.{times}
use Rattle.rules.specs.Places.{holds, heading, is_wire, is_unread, is_handed}
use Rattle.rules.specs.House.{Row, House}
use Rattle.rules.specs.Sound.{book}
use Rattle.rules.specs.Asking.{beside, ripe, ripe_in, own_questions}
use Rattle.rules.specs.Steps.{Answer, hand, grant, decided}
use Rattle.rules.specs.Runs.{History}
use Rattle.rules.specs.Order.{SentTo, HandedOver, OldestGoes}
use Rattle.order.proofs.Basics.{zero_since, all_below_from}
use Rattle.order.proofs.Counting.{number}
use Rattle.order.proofs.Stages.{test_here}
use Rattle.order.proofs.Arriving.{hand_wire}
use Rattle.order.proofs.Invariant.{Invariant}
use Rattle.order.proofs.Granted.{granted}
use Rattle.order.proofs.InHouse.{InHouse}
use Rattle.order.proofs.Sound.{sound_holds}

module _ {B : Type 0} {h : History B} {s : House B} (I : Invariant s.rows h s) where
  abbrev R : ℕ → Row B
  R = s.rows

  oldest_ripe : (m : ℕ) → m < s.used → ((x : ℕ) → x < m → (R x).addressee ≡ (R m).addressee → is_handed (s.stage x) ≡ true)
      → ripe s.sizes.stations s.handed (R m) ≡ true
  unfolding ripe
  oldest_ripe m hm all = all_below_from (λ i. leb ((R m).tag (beside i (R m))) (s.handed (beside i (R m)))) s.sizes.stations (λ i hi. le-leb _ _ (enough i))
    where
      -- else a message that the tag counts would not be handed
      enough : (i : ℕ) → (R m).tag (beside i (R m)) ≤ s.handed (beside i (R m))
      enough i = ⊎_elim
          (λ lt.
          let w = I.core.counted.tags m hm (beside i (R m)) (s.handed (beside i (R m))) lt in
          let done = I.core.handing.done w.0 (lt_trans w.1 hm) (all w.0 w.1 (ap (λ (y : Pair). y.handset) w.2)) in
          absurd (omega (arith, w.3, subst (λ (y : Pair). number R w.0 < s.handed y) w.2 done)))
          (λ le. le) (cases_lt (s.handed (beside i (R m))) ((R m).tag (beside i (R m))))

  pub oldest_stands : (fits : Counts → Bool) → InHouse s → OldestGoes fits h s
  unfolding hand
  oldest_stands fits N j m o = (not_back, goes)
    where
      w : (m < s.used) × ((R m).sender ≡ o.0.0) × ((R m).addressee ≡ j) × ((R m).body ≡ Some o.0.1)
      w = I.told.sents.sent_in o.0.0 j o.0.1 m o.0.2

      -- a row to j in use was sent to j
      sent : (x : ℕ) → x < s.used → (R x).addressee ≡ j → SentTo h j x
      sent x l to = let v = I.told.sents.sent_out x l in subst (λ i. SentTo h i x) to ((R x).sender, v.0, v.1)

      rp : ripe s.sizes.stations s.handed (R m) ≡ true
      rp = oldest_ripe m w.0 (λ x l e. o.2 x l (sent x (lt_trans l w.0) (e ∙ w.2)))

      not_back : times m (s.back j) ≡ 0
      not_back = zero_since _ (λ p. both_ways _ (I.quiet.none_ripe j m p) rp)

      Goes : Answer B × House B → Type 0
      Goes r = ((n : ℕ) × (r.0 ≡ Ok (Arrived (Handed (suc n))))) × (is_unread (r.1.stage m) ≡ true)

      goes : (p : ℕ) → s.stage m ≡ Wire p → holds p (s.place j) ≡ true → book s j < s.sizes.places → HandedOver fits s m
      goes p at held room =
          let on_wire : is_wire (s.stage m) ≡ true = ap is_wire at in
          let there : holds (heading (s.stage m)) (s.place (R m).addressee) ≡ true =
          ap (λ t. holds (heading t) (s.place (R m).addressee)) at ∙ ap (λ k. holds p (s.place k)) w.2 ∙ held in
          let fits_in : ltb (book s (R m).addressee) (cond (ripe_in s m) s.sizes.places (s.sizes.places - 1)) ≡ true =
          ap (λ b. ltb (book s (R m).addressee) (cond b s.sizes.places (s.sizes.places - 1))) rp
          ∙ lt-ltb _ _ (subst⁻¹ (λ k. book s k < s.sizes.places) w.2 room) in
          let own : AllYes (own_questions fits s (Arrive m)) = (lt-ltb m s.used w.0, (on_wire, (or_left _ _ there, (or_right _ _ fits_in, tt)))) in
          let none = granted fits s (Arrive m) (record { shape = N.shape_right; tables = sound_holds I N; own = own }) in
          let D = hand_wire m I.core w.0 on_wire rp in
          subst⁻¹ (λ q. Goes (decided q s (grant s (Arrive m)))) none
          (subst⁻¹ Goes (cond-true _ _ _ there ∙ cond-true _ _ _ rp)
          ((_, refl), subst⁻¹ (λ (t : House B). is_unread (t.stage m) ≡ true) D.is (D.unread_stays m (test_here is_unread s.stage m Unread))))
