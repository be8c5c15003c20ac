-- What a call on the tables of a house promises.
--
--   told   a result as the answer of a call: a granted call tells its value, and a denied one why
--   Does   a call answers and leaves what the rules say of the house that the tables say; a denied call leaves every
--          table as it was, place for place
use Rattle.std.specs.Prelude.{◌≡◌, Bool, Result, OnErr}
use Rattle.std.specs.Result.{result_map_both}
use Rattle.tally.specs.Counts.{Counts}
use Rattle.rules.specs.declared.fault.HouseFault.{HouseFault}
use Rattle.rules.specs.declared.call.Call.{Call}
use Rattle.rules.specs.declared.call.Granted.{Granted}
use Rattle.rules.specs.Steps.{Answer, step}
use Rattle.tables.specs.declared.tables.Tables.{Tables}
use Rattle.tables.specs.View.{view, whole}

abbrev pub told : {A B : Type 0} → (A → Granted B) → Result A HouseFault → Answer B
told f r = result_map_both f (λ e. e) r

pub record Does {T B : Type 0} (fits : Counts → Bool) (counts : T → Counts) (c : Call B) (a : Answer B) (h h' : Tables T B) : Type 0 where
  pub answers : a ≡ (step fits (view counts h) c).0
  pub leaves : view counts h' ≡ (step fits (view counts h) c).1
  pub denied : OnErr a (whole h' ≡ whole h)
