-- Every granted call keeps what holds between calls, and leaves the rows in use as they were.
use Rattle.std.proofs.Common.{◌≡◌, ℕ, suc, ◌-◌, ◌<◌, ◌≤◌, Bool, true, false, cond, not, ◌||◌, ltb, List, [], ◌∷◌, Some, None, Option, sym, refl, ◌∙◌, subst, le_refl, ne_of_lt, arith}
use mathlib.Core.Path.{subst⁻¹}
use Rattle.std.proofs.lemmas.Bool.{true≢false, false≢true, and_parts, ltb-true}
use Rattle.tally.specs.Counts.{Counts}
use Rattle.rules.specs.declared.call.Call.{Call}
use Rattle.rules.specs.declared.call.Call.TheVariants.{Send, Arrive, ReadNext, Register, Release, Settle}
use Rattle.rules.specs.Functions.{times, any, front, rest}
use Rattle.rules.specs.Places.{station_of, holds, heading, is_kept}
use Rattle.rules.specs.House.{Row, House}
use Rattle.rules.specs.Sound.{book}
use Rattle.rules.specs.Asking.{ripe, refusal}
use Rattle.rules.specs.Steps.{Answer, notice, hand, stand_back, send_on, new_row, send_from, read_at, register_at, release_from, settle_at, got, arrive_at, grant}
use Rattle.rules.specs.Runs.{History}
use Rattle.order.proofs.Basics.{updated_here, updated_off}
use Rattle.order.proofs.Lists.{any_front, times_front}
use Rattle.order.proofs.Core.{unread_is}
use Rattle.order.proofs.Invariant.{Invariant}
use Rattle.order.proofs.Sending.{keep_send}
use Rattle.order.proofs.Reading.{keep_read}
use Rattle.order.proofs.Moving.{keep_register, keep_release, keep_settle}
use Rattle.order.proofs.Arriving.{arrive_ways, hand_wire, keep_arrive}
use Rattle.order.proofs.Granted.{answers}
use Rattle.order.proofs.InHouse.{InHouse, station_in}

-- the room that the question about the book asks for
room : (held rp : Bool) (b places : ℕ) → (not held || ltb b (cond rp places (places - 1))) ≡ true → held ≡ true
    → (rp ≡ true → b < places) × (rp ≡ false → suc b < places)
room true true b places e h = ((λ _. ltb-true _ _ e), λ f. absurd (true≢false f))
room true false b places e h = ((λ f. absurd (false≢true f)), λ _. omega (arith, ltb-true b (places - 1) e))
room false rp b places e h = absurd (false≢true h)

front_in : (l : List ℕ) → any l ≡ true → 0 < times (front 0 l) l
front_in [] e = absurd (false≢true e)
front_in (x ∷ l) e = times_front x l

module _ {B : Type 0} where
  -- the rows in use in s are in use in s', and the same
  pub record RollKept (s s' : House B) : Type 0 where
    pub more : s.used ≤ s'.used
    pub same : (m : ℕ) → m < s.used → s'.rows m ≡ s.rows m

  -- the rows in use are those of R
  abbrev pub Agrees : (ℕ → Row B) → House B → Type 0
  Agrees R s = (m : ℕ) → m < s.used → s.rows m ≡ R m

  module _ (fits : Counts → Bool) {h : History B} {s : House B} where
    pub roll_kept : Invariant s.rows h s → (c : Call B) → refusal fits s c ≡ None → RollKept s (grant s c).1
    unfolding hand stand_back send_on send_from read_at register_at release_from settle_at
    roll_kept I (Send a j b) e = record {
      more = omega arith;
      same = λ m l. updated_off s.rows s.used (new_row s (station_of (s.place a)) a j b) m (ne_of_lt l);
    }
    roll_kept I (Arrive x) e =
        let o = (answers fits s (Arrive x) e).own in
        arrive_ways (λ (r : Answer B × House B). RollKept s r.1) (heading (s.stage x)) (s.rows x) x s
        (λ held rp. subst⁻¹ (RollKept s) (hand_wire x I.core (ltb-true _ _ o.0) o.1.0 rp).is (record { more = le_refl _; same = λ m l. refl }))
        (λ held unripe. record { more = le_refl _; same = λ m l. refl })
        (λ away. record { more = le_refl _; same = λ m l. refl })
    roll_kept I (ReadNext j) e = record { more = le_refl _; same = λ m l. refl }
    roll_kept I (Register j n) e = record { more = le_refl _; same = λ m l. refl }
    roll_kept I (Release p) e = record { more = le_refl _; same = λ m l. refl }
    roll_kept I (Settle j) e = record { more = le_refl _; same = λ m l. refl }

    module _ {R : ℕ → Row B} (I : Invariant R h s) (N : InHouse s) where
      pub keep : (c : Call B) → refusal fits s c ≡ None → Agrees R (grant s c).1 → Invariant R ((c, (grant s c).0) ∷ h) (grant s c).1
      unfolding send_from
      keep (Send a j b) e agrees =
          let o = (answers fits s (Send a j b) e).own in
          let known = (and_parts (ltb a s.sizes.handsets) (ltb j s.sizes.handsets) o.0).0 in
          keep_send a j b I o.1.1.0 (station_in s.sizes.stations (s.place a) (N.places_in a (ltb-true _ _ known)))
          (sym (agrees s.used (omega arith)) ∙ updated_here s.rows s.used (new_row s (station_of (s.place a)) a j b))
      keep (Arrive x) e agrees =
          let o = (answers fits s (Arrive x) e).own in
          let hx = ltb-true x s.used o.0 in
          let row = I.core.rows_are x hx in
          let p : ℕ = heading (s.stage x) in
          let places = s.sizes.places in
          let asked = subst (λ (r : Row B). (not (holds p (s.place r.addressee))
          || ltb (book s r.addressee) (cond (ripe s.sizes.stations s.handed r) places (places - 1))) ≡ true) row o.1.1.1.0 in
          let rm = room _ _ _ _ asked in
          subst⁻¹ (λ (r : Row B). Invariant R ((Arrive x, (arrive_at p r x s).0) ∷ h) (arrive_at p r x s).1) row
          (keep_arrive I x hx o.1.0 p (λ held. (rm held).0) (λ held. (rm held).1))
      keep (ReadNext j) e agrees =
          let o = (answers fits s (ReadNext j) e).own in
          let x : ℕ = front 0 (s.unread j) in
          let w = unread_is I.core j x (front_in (s.unread j) o.1.1.0) in
          let sent = I.told.sents.sent_out x w.0 in
          let body = (I.told.sents.sent_in (R x).sender (R x).addressee sent.0 x sent.1).3 in
          subst⁻¹ (λ (r : Row B). Invariant R ((ReadNext j, got x r.body) ∷ h) (read_at (station_of (s.place j)) j x r s)) (I.core.rows_are x w.0)
          (subst⁻¹ (λ (y : Option B). Invariant R ((ReadNext j, got x y) ∷ h) (read_at (station_of (s.place j)) j x (R x) s)) body
          (subst (λ i. is_kept (s.place i) ≡ true → s.unread i ≡ x ∷ rest (s.unread j)
          → Invariant R ((ReadNext i, got x (Some sent.0)) ∷ h) (read_at (station_of (s.place i)) i x (R x) s)) w.1
          (λ k f. keep_read x (rest (s.unread j)) sent.0 I k f body) o.1.0 (any_front 0 (s.unread j) o.1.1.0)))
      keep (Register j n) e agrees = keep_register I j n (answers fits s (Register j n) e).own.1.1.0
      keep (Release p) e agrees =
          let x = front (notice 0 0) (s.notices p) in
          keep_release I p x.handset x.station (rest (s.notices p))
          (any_front (notice 0 0) (s.notices p) (answers fits s (Release p) e).own.1.0)
      keep (Settle j) e agrees = keep_settle I j (answers fits s (Settle j) e).own.1.0
