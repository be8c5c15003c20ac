-- From the questions and the change to what a public call promises.
use Rattle.std.proofs.Common.{◌≡◌, Bool, Some, None, Ok, Err, ap, ◌∙◌}
use Rattle.tally.specs.Counts.{Counts}
use Rattle.rules.specs.declared.fault.HouseFault.{HouseFault}
use Rattle.rules.specs.declared.call.Call.{Call}
use Rattle.rules.specs.declared.call.Granted.{Granted}
use Rattle.rules.specs.Asking.{refusal}
use Rattle.rules.specs.Steps.{grant, decided}
use Rattle.tables.specs.declared.tables.Tables.{Tables}
use Rattle.tables.specs.View.{view, whole}
use Rattle.tables.specs.Calls.{Does}

module _ {T B : Type 0} (fits : Counts → Bool) (counts : T → Counts) (c : Call B) (h h' : Tables T B) where
  pub not_done : (e : HouseFault) → Some e ≡ refusal fits (view counts h) c → view counts h' ≡ view counts h → whole h' ≡ whole h → Does fits counts c (Err e) h h'
  not_done e r v w = record {
    answers = ap (λ o. (decided o (view counts h) (grant (view counts h) c)).0) r;
    leaves = v ∙ ap (λ o. (decided o (view counts h) (grant (view counts h) c)).1) r;
    denied = w;
  }

  pub done : (a : Granted B) → None ≡ refusal fits (view counts h) c → Ok a ≡ (grant (view counts h) c).0 → view counts h' ≡ (grant (view counts h) c).1 → Does fits counts c (Ok a) h h'
  done a r e v = record {
    answers = e ∙ ap (λ o. (decided o (view counts h) (grant (view counts h) c)).0) r;
    leaves = v ∙ ap (λ o. (decided o (view counts h) (grant (view counts h) c)).1) r;
    denied = tt;
  }
