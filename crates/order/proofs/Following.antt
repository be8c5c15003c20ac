-- What holds between calls holds of a house that was just opened and after every call, granted or denied; so it holds after any list of calls.
use Rattle.std.proofs.Common.{◌≡◌, ℕ, Bool, List, [], ◌∷◌, Some, None, Option, sym, refl, ◌∙◌, lt_of_lt_of_le}
use Rattle.tally.specs.Counts.{Counts}
use Rattle.rules.specs.declared.fault.HouseFault.{HouseFault}
use Rattle.rules.specs.declared.call.Call.{Call}
use Rattle.rules.specs.House.{Row, Sizes, House}
use Rattle.rules.specs.Asking.{refusal}
use Rattle.rules.specs.Steps.{grant, decided, step}
use Rattle.rules.specs.Opening.{opening_refusal, opened}
use Rattle.rules.specs.Runs.{History, followed}
use Rattle.order.proofs.Invariant.{Invariant, keep_denied}
use Rattle.order.proofs.InHouse.{InHouse, in_opened}
use Rattle.order.proofs.Opening.{opened_holds}
use Rattle.order.proofs.Staying.{in_grant}
use Rattle.order.proofs.Keeping.{Agrees, roll_kept, keep}

module _ {B : Type 0} where
  -- invariant  what holds between calls, for every roll that agrees with the rows in use
  -- in_house   the tables name only what is in the house
  pub record Sure (h : History B) (s : House B) : Type 0 where
    pub invariant : (R : ℕ → Row B) → Agrees R s → Invariant R h s
    pub in_house : InHouse s

  pub sure_opened : (s : House B) (z : Sizes) (l : List ℕ) → opening_refusal z l ≡ None → Sure [] (opened z l s)
  sure_opened s z l e = record { invariant = λ R agrees. opened_holds s z l e R; in_house = in_opened s z l e }

  module _ (fits : Counts → Bool) where
    sure_step : {h : History B} {s : House B} → Sure h s → (c : Call B) → Sure ((c, (step fits s c).0) ∷ h) (step fits s c).1
    sure_step {h} {s} S c = by (refusal fits s c) refl
      where
        I : Invariant s.rows h s
        I = S.invariant s.rows (λ m l. refl)

        by : (o : Option HouseFault) → refusal fits s c ≡ o → Sure ((c, (decided o s (grant s c)).0) ∷ h) (decided o s (grant s c)).1
        by (Some f) e = record { invariant = λ R agrees. keep_denied c f (S.invariant R agrees); in_house = S.in_house }
        by None e =
            let kept = roll_kept fits I c e in
            record {
              invariant = λ R agrees.
                  keep fits (S.invariant R (λ m l. sym (kept.same m l) ∙ agrees m (lt_of_lt_of_le l kept.more))) S.in_house c e agrees;
              in_house = in_grant I S.in_house fits c e;
            }

    pub sure_followed : (h : History B) (s : House B) → Sure h s → (cs : List (Call B)) → Sure (followed fits h s cs).0 (followed fits h s cs).1
    sure_followed h s S [] = S
    sure_followed h s S (c ∷ cs) = sure_followed ((c, (step fits s c).0) ∷ h) (step fits s c).1 (sure_step S c) cs
