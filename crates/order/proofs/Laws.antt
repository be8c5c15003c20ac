-- The law about the order of messages holds of every house that was opened and after any list of calls.
use Rattle.std.proofs.Common.{◌≡◌, ℕ, ◌<◌, Bool, true, List, [], Some, None, sym, refl, ap, ◌∙◌, subst, ⊎_elim, le_trans, lt_trans, lt_of_lt_of_le, arith}
use Rattle.std.proofs.lemmas.Bool.{cases_Bool, both_ways}
use Rattle.tally.specs.Counts.{Counts}
use Rattle.rules.specs.declared.call.Call.{Call}
use Rattle.rules.specs.Functions.{bit, times}
use Rattle.rules.specs.Places.{is_wire, is_back, is_unread, is_read}
use Rattle.rules.specs.House.{Row, Sizes, House}
use Rattle.rules.specs.Asking.{pair_of}
use Rattle.rules.specs.Opening.{opening_refusal, opened}
use Rattle.rules.specs.Runs.{History, followed}
use Rattle.rules.specs.Order.{Before, Before.link, Before.chain, ReadBy, InOrder, AsSent, InOnePlace, ReadOnce, FullHasUnread, Law}
use Rattle.order.proofs.Basics.{zero_since, bit_true}
use Rattle.order.proofs.Stages.{one_place}
use Rattle.order.proofs.Told.{Under, Sents, Told}
use Rattle.order.proofs.Invariant.{Invariant}
use Rattle.order.proofs.Following.{Sure, sure_opened, sure_followed}
use Rattle.order.proofs.Oldest.{oldest_stands}

bit_above : (b : Bool) (n : ℕ) → n ≡ bit b → b ≡ true → 0 < n
bit_above b n e t = omega (arith, ap bit t)

bit_from : (b : Bool) (n : ℕ) → n ≡ bit b → 0 < n → b ≡ true
bit_from b n e h = bit_true b (subst (λ v. 0 < v) e h)

module _ {B : Type 0} where
  -- what came before a message stands under it
  before_under : {R : ℕ → Row B} {u : ℕ} {h : History B} → Sents R u h → {m m' : ℕ} → Before h m m' → Under R m m'
  before_under D (link l) = D.links _ _ l
  before_under {R} D (chain {m = m} {m₁ = m₁} {m' = m'} b l) =
      let p = before_under D b in
      let q = D.links m₁ m' l in
      (lt_trans p.0 q.0, (λ y. le_trans (p.1 y) (q.1 y)), lt_of_lt_of_le p.2 (q.1 (pair_of (R m))))

  module _ {h : History B} {s : House B} (I : Invariant s.rows h s) where
    abbrev D : Told s.rows s.used (λ m. is_read (s.stage m)) (λ m. is_wire (s.stage m)) h
    D = I.told

    in_order_stands : InOrder h
    in_order_stands m m' j sm sm' before i b h₀ at =
        let w = D.sents.sent_in sm.0 j sm.1 m sm.2 in
        let w' = D.sents.sent_in sm'.0 j sm'.1 m' sm'.2 in
        subst (λ k. ReadBy h₀ k m) w.2 (D.readings.order m m' (before_under D.sents before) (w.2 ∙ sym w'.2) i b h₀ at)

    as_sent_stands : AsSent h s
    as_sent_stands m a j b sm =
        let w = D.sents.sent_in a j b m sm in
        (w.1, w.2, w.3, λ i c r. let v = D.readings.read_in i c m r in cc)

    one_place_stands : InOnePlace h s
    one_place_stands m j sm = record {
      on_wire = (
        (λ e. ((j, sm), λ t. both_ways _ (D.takings.taken_in m t).1 e)),
        λ o. ⊎_elim (λ e. e) (λ f. absurd (o.1 (D.takings.taken_out m w.0 f))) (cases_Bool (is_wire (s.stage m))),
      );
      back = (bit_above _ _ backs, bit_from _ _ backs);
      unread = (bit_above _ _ unreads, bit_from _ _ unreads);
      read = ((λ e. subst (λ k. ReadBy h k m) w.2 (D.readings.read_out m w.0 e)), λ r. (D.readings.read_in j r.0 m r.1).1);
      once = omega (arith, one_place (s.stage m), unreads, backs);
      elsewhere = λ i ne. (
        zero_since _ (λ p. ne (sym (I.core.unread_side.only i m p).1 ∙ w.2)),
        zero_since _ (λ p. ne (sym (I.core.back_side.only i m p).1 ∙ w.2)),
      );
    }
      where
        w : (m < s.used) × ((s.rows m).sender ≡ sm.0) × ((s.rows m).addressee ≡ j) × ((s.rows m).body ≡ Some sm.1)
        w = D.sents.sent_in sm.0 j sm.1 m sm.2

        backs : times m (s.back j) ≡ bit (is_back (s.stage m))
        backs = subst (λ k. times m (s.back k) ≡ bit (is_back (s.stage m))) w.2 (I.core.back_side.own m w.0)

        unreads : times m (s.unread j) ≡ bit (is_unread (s.stage m))
        unreads = subst (λ k. times m (s.unread k) ≡ bit (is_unread (s.stage m))) w.2 (I.core.unread_side.own m w.0)

    read_once_stands : ReadOnce h
    read_once_stands m j i b h₀ sm at =
        (sym (D.readings.read_in i b m (h₀, at)).2 ∙ (D.sents.sent_in sm.0 j sm.1 m sm.2).2, D.readings.once m j i b h₀ at)

    full_stands : FullHasUnread s
    full_stands j full = omega (arith, I.quiet.gap j)

  law_stands : (fits : Counts → Bool) {h : History B} {s : House B} → Sure h s → Law fits h s
  law_stands fits {s = s} S =
      let I = S.invariant s.rows (λ m l. refl) in
      record {
        in_order = in_order_stands I;
        as_sent = as_sent_stands I;
        in_one_place = one_place_stands I;
        read_once = read_once_stands I;
        oldest_goes = oldest_stands I fits S.in_house;
        full_has_unread = full_stands I;
      }

-- whatever house is opened, whatever calls are then made, and whichever of them are granted, the law holds
pub law_follows : {B : Type 0} (fits : Counts → Bool) (s : House B) (z : Sizes) (l : List ℕ) → opening_refusal z l ≡ None → (cs : List (Call B))
    → Law fits (followed fits [] (opened z l s) cs).0 (followed fits [] (opened z l s) cs).1
law_follows fits s z l e cs = law_stands fits (sure_followed fits [] (opened z l s) (sure_opened s z l e) cs)
