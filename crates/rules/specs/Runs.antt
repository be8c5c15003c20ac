-- Runs: any list of calls, made one after the other.
--
--   Made        a call that was made, with its answer
--   History     all calls made so far with their answers, the newest first
--   At          a call with some property was made, and the calls before it were those given
--   followed    the history and the house after a list of calls
--   answers_of  the answers to a list of calls
--   left_by     the house that they leave
use Rattle.std.specs.Prelude.{◌≡◌, Bool, ◌⊎◌, List, [], ◌∷◌}
use Rattle.tally.specs.Counts.{Counts}
use Rattle.rules.specs.declared.call.Call.{Call}
use Rattle.rules.specs.House.{House}
use Rattle.rules.specs.Steps.{Answer, step}

abbrev pub Made : Type 0 → Type 0
Made B = Call B × Answer B

abbrev pub History : Type 0 → Type 0
History B = List (Made B)

module _ {B : Type 0} where
  abbrev pub At : History B → (Made B → Type 0) → History B → Type 0
  At [] P before = ⊥
  At (x ∷ h) P before = (P x × (h ≡ before)) ⊎ At h P before

  module _ (fits : Counts → Bool) where
    abbrev pub followed : History B → House B → List (Call B) → History B × House B
    followed h s [] = (h, s)
    followed h s (c ∷ cs) = followed ((c, (step fits s c).0) ∷ h) (step fits s c).1 cs

    abbrev pub answers_of : House B → List (Call B) → List (Answer B)
    answers_of s [] = []
    answers_of s (c ∷ cs) = (step fits s c).0 ∷ answers_of (step fits s c).1 cs

    abbrev pub left_by : House B → List (Call B) → House B
    left_by s [] = s
    left_by s (c ∷ cs) = left_by (step fits s c).1 cs
