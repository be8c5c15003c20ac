-- A granted arrival keeps what holds between calls: the message is handed, stands back, or is sent on.
use Rattle.std.proofs.Common.{◌≡◌, ℕ, suc, ◌+◌, ◌<◌, ◌≤◌, true, false, ◌≢◌, List, [], ◌∷◌, ◌++◌, length, sym, refl, ap, ◌∙◌, subst, ⊎_elim, le_of_eq, le_refl, arith, Ok}
use mathlib.Core.Path.{subst⁻¹}
use Rattle.std.proofs.lemmas.List.{length_push}
use Rattle.std.proofs.lemmas.Bool.{cases_eq, cond_both}
use Rattle.std.specs.Option.{unwrap_or}
use Rattle.rules.specs.declared.place.Stage.{Stage}
use Rattle.rules.specs.declared.place.Stage.TheVariants.{Wire, Back, Unread}
use Rattle.rules.specs.declared.call.Call.TheVariants.{Arrive}
use Rattle.rules.specs.declared.call.Arrived.TheVariants.{Handed, SentOn}
use Rattle.rules.specs.declared.call.Granted.TheVariants.{Arrived}
use Rattle.rules.specs.Functions.{updated, times}
use Rattle.rules.specs.Places.{holds, is_wire, is_back, is_unread, is_read, is_handed}
use Rattle.rules.specs.House.{Row, House}
use Rattle.rules.specs.Changes.{with_back, with_stage}
use Rattle.rules.specs.Sound.{book}
use Rattle.rules.specs.Asking.{pair_of, beside, ripe}
use Rattle.rules.specs.Steps.{Answer, hand, hand_all, stand_back, send_on, arrive_at}
use Rattle.rules.specs.Runs.{History}
use Rattle.order.proofs.Basics.{updated_here, updated_off, updated_both, updated_id}
use Rattle.order.proofs.Lists.{times_push, bit_other}
use Rattle.order.proofs.Handing.{handing_same, more_off, ripe_same}
use Rattle.order.proofs.Books.{Side, side_same, side_put}
use Rattle.order.proofs.Knowing.{knowing_same}
use Rattle.order.proofs.Told.{told_skip, told_take}
use Rattle.order.proofs.Stages.{test_same, test_here, test_off, on_wire}
use Rattle.order.proofs.Core.{Core, core_hand}
use Rattle.order.proofs.Ripe.{HandsRipe, hands_ripe}
use Rattle.order.proofs.Invariant.{Invariant}

module _ {B : Type 0} where
  -- the three ways of an arrival at station p, of the message x with the row r
  pub arrive_ways : (P : Answer B × House B → Type 0) (p : ℕ) (r : Row B) (x : ℕ) (s : House B)
      → (holds p (s.place r.addressee) ≡ true → ripe s.sizes.stations s.handed r ≡ true → P (Ok (Arrived (Handed (hand_all r x s).0)), (hand_all r x s).1))
      → (holds p (s.place r.addressee) ≡ true → ripe s.sizes.stations s.handed r ≡ false → P (Ok (Arrived (Handed 0)), stand_back r x s))
      → (holds p (s.place r.addressee) ≡ false
      → P (Ok (Arrived (SentOn (unwrap_or (s.passed p r.addressee) 0))), send_on (unwrap_or (s.passed p r.addressee) 0) x s))
      → P (arrive_at p r x s)
  arrive_ways P p r x s hands stands goes_on = cond_both _ _ _ P (λ held. cond_both _ _ _ P (hands held) (stands held)) goes_on

  -- the message x, which is on the wire, is ripe and is handed, and then what that makes ripe
  pub hand_wire : {R : ℕ → Row B} {s : House B} (x : ℕ) → Core R s → x < s.used → is_wire (s.stage x) ≡ true
      → ripe s.sizes.stations s.handed (R x) ≡ true
      → HandsRipe R (R x).addressee (hand (R x) x (s.back (R x).addressee) s) (hand_all (R x) x s).1
  unfolding hand
  hand_wire {R} {s} x C hx wx rp = hands_ripe R (length (s.back j)) j (hand (R x) x (s.back j) s)
      (core_hand C x (s.back j) hx w.0 rp
      (subst⁻¹ (λ (f : ℕ → List ℕ). Side R s.used (λ m. is_back (updated s.stage x Unread m)) f) (updated_id s.back j)
      (side_same C.back_side (λ m l. test_same is_back s.stage x Unread (sym w.1) m))))
      (le_of_eq (ap length (updated_here s.back j (s.back j))))
    where
      j : ℕ
      j = (R x).addressee

      w : (is_handed (s.stage x) ≡ false) × (is_back (s.stage x) ≡ false) × (is_unread (s.stage x) ≡ false) × (is_read (s.stage x) ≡ false)
      w = on_wire (s.stage x) wx

  module _ {R : ℕ → Row B} {h : History B} {s : House B} (I : Invariant R h s) (x : ℕ) (hx : x < s.used) (wx : is_wire (s.stage x) ≡ true) where
    abbrev j : ℕ
    j = (R x).addressee

    w : (is_handed (s.stage x) ≡ false) × (is_back (s.stage x) ≡ false) × (is_unread (s.stage x) ≡ false) × (is_read (s.stage x) ≡ false)
    w = on_wire (s.stage x) wx

    -- x goes to a stage where it is not handed, and the back lists are as that says
    core_stage : (t : Stage) (back : ℕ → List ℕ) → is_handed t ≡ false → is_unread t ≡ false → is_read t ≡ false
        → Side R s.used (λ m. is_back (updated s.stage x t m)) back → Core R (with_back back (with_stage (updated s.stage x t) s))
    core_stage t back th tu tr side = record {
      rows_are = I.core.rows_are;
      counted = I.core.counted;
      handing = handing_same I.core.handing (λ m l. test_same is_handed s.stage x t (th ∙ sym w.0) m) (λ p q. le_refl _);
      unread_side = side_same I.core.unread_side (λ m l. test_same is_unread s.stage x t (tu ∙ sym w.2) m);
      back_side = side;
      in_order = I.core.in_order;
      knowing = knowing_same I.core.knowing (λ m l. test_same is_read s.stage x t (tr ∙ sym w.3) m) (λ a q. le_refl _);
      noticed = I.core.noticed;
    }

    keep_send_on : (n : ℕ) → Invariant R ((Arrive x, Ok (Arrived (SentOn n))) ∷ h) (send_on n x s)
    unfolding send_on
    keep_send_on n = record {
      core = core_stage (Wire n) s.back refl refl refl
          (side_same I.core.back_side (λ m l. test_same is_back s.stage x (Wire n) (sym w.1) m));
      quiet = record { none_ripe = I.quiet.none_ripe; gap = I.quiet.gap; in_book = I.quiet.in_book };
      told = told_skip I.told _ refl (λ m l. test_same is_read s.stage x (Wire n) (sym w.3) m)
          (λ m l. test_same is_wire s.stage x (Wire n) (sym wx) m);
    }

    keep_stand_back : ripe s.sizes.stations s.handed (R x) ≡ false → suc (book s (R x).addressee) < s.sizes.places
        → Invariant R ((Arrive x, Ok (Arrived (Handed 0))) ∷ h) (stand_back (R x) x s)
    unfolding stand_back
    keep_stand_back unripe room = record {
      core = core_stage Back (updated s.back j l) refl refl refl
          (side_put I.core.back_side x hx (test_off is_back s.stage x Back) w.1 (test_here is_back s.stage x Back));
      quiet = record {
        none_ripe = λ i m. updated_both (λ k. 0 < times m k → ripe s.sizes.stations s.handed (R m) ≡ false) s.back j l i
            (λ e t. ⊎_elim (λ eq. subst⁻¹ (λ y. ripe s.sizes.stations s.handed (R y) ≡ false) eq unripe)
            (λ ne. I.quiet.none_ripe j m (omega (arith, times_push m x (s.back j), bit_other m x ne))) (cases_eq m x))
            (λ e t. I.quiet.none_ripe i m t);
        gap = λ i. updated_both (λ k. length k < s.sizes.places) s.back j l i (λ e. omega (arith, length_push (s.back j) x)) (λ e. I.quiet.gap i);
        in_book = λ i. updated_both (λ k. length (s.unread i) + length k ≤ s.sizes.places) s.back j l i
            (λ e. omega (arith, length_push (s.back j) x, ap (λ y. length (s.unread y)) e)) (λ e. I.quiet.in_book i);
      };
      told = told_take I.told x 0 hx (test_here is_wire s.stage x Back) (λ m l. test_same is_read s.stage x Back (sym w.3) m)
          (test_off is_wire s.stage x Back);
    }
      where
        l : List ℕ
        l = s.back j ++ (x ∷ [])

    keep_hand : (n : ℕ) → ripe s.sizes.stations s.handed (R x) ≡ true → book s (R x).addressee < s.sizes.places
        → Invariant R ((Arrive x, Ok (Arrived (Handed n))) ∷ h) (hand_all (R x) x s).1
    unfolding hand
    keep_hand n rp room = subst⁻¹ (Invariant R ((Arrive x, Ok (Arrived (Handed n))) ∷ h)) D.is (record {
      core = D.core;
      quiet = record {
        none_ripe = λ i m t. ⊎_elim (λ e. D.none_ripe m (subst (λ y. 0 < times m (D.back y)) e t))
            (λ ne.
            let off : (R m).addressee ≢ j = λ e. ne (sym (D.core.back_side.only i m t).1 ∙ e) in
            ripe_same s.sizes.stations D.handed s.handed (R m)
            (λ p. D.others_handed (beside p (R m)) off ∙ more_off s.handed (pair_of (R x)) (beside p (R m)) off)
            ∙ I.quiet.none_ripe i m (subst (λ l. 0 < times m l) (back_off i ne) t))
            (cases_eq i j);
        gap = λ i. ⊎_elim (λ e. subst⁻¹ (λ y. length (D.back y) < s.sizes.places) e (omega (arith, D.shorter, back_here, I.quiet.gap j)))
            (λ ne. subst⁻¹ (λ l. length l < s.sizes.places) (back_off i ne) (I.quiet.gap i)) (cases_eq i j);
        in_book = λ i. ⊎_elim
            (λ e. subst⁻¹ (λ y. length (D.unread y) + length (D.back y) ≤ s.sizes.places) e (omega (arith, D.same_book, back_here, unread_here)))
            (λ ne. omega (arith, I.quiet.in_book i, ap length (back_off i ne), ap length (unread_off i ne))) (cases_eq i j);
      };
      told = told_take I.told x n hx (D.wire_same x ∙ test_here is_wire s.stage x Unread)
          (λ m l. D.read_same m ∙ test_same is_read s.stage x Unread (sym w.3) m) (λ m ne. D.wire_same m ∙ test_off is_wire s.stage x Unread m ne);
    })
      where
        D : HandsRipe R j (hand (R x) x (s.back j) s) (hand_all (R x) x s).1
        D = hand_wire x I.core hx wx rp

        l : List ℕ
        l = s.unread j ++ (x ∷ [])

        back_here : length (updated s.back j (s.back j) j) ≡ length (s.back j)
        back_here = ap length (updated_here s.back j (s.back j))

        unread_here : length (updated s.unread j l j) ≡ length (s.unread j) + 1
        unread_here = ap length (updated_here s.unread j l) ∙ length_push (s.unread j) x

        back_off : (i : ℕ) → i ≢ j → D.back i ≡ s.back i
        back_off i ne = (D.others i ne).0 ∙ updated_off s.back j (s.back j) i ne

        unread_off : (i : ℕ) → i ≢ j → D.unread i ≡ s.unread i
        unread_off i ne = (D.others i ne).1 ∙ updated_off s.unread j l i ne

    -- x arrives at station p
    pub keep_arrive : (p : ℕ)
        → (holds p (s.place (R x).addressee) ≡ true → ripe s.sizes.stations s.handed (R x) ≡ true → book s (R x).addressee < s.sizes.places)
        → (holds p (s.place (R x).addressee) ≡ true → ripe s.sizes.stations s.handed (R x) ≡ false → suc (book s (R x).addressee) < s.sizes.places)
        → Invariant R ((Arrive x, (arrive_at p (R x) x s).0) ∷ h) (arrive_at p (R x) x s).1
    keep_arrive p room room_back = arrive_ways (λ (r : Answer B × House B). Invariant R ((Arrive x, r.0) ∷ h) r.1) p (R x) x s
        (λ held rp. keep_hand _ rp (room held rp)) (λ held unripe. keep_stand_back unripe (room_back held unripe)) (λ away. keep_send_on _)
