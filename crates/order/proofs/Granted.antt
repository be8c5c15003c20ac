-- A granted call: every question was answered yes.
use Rattle.std.proofs.Common.{◌≡◌, ℕ, Bool, true, List, [], ◌∷◌, Some, None, Option, refl, ap, ◌∙◌, arith}
use Rattle.tally.specs.Counts.{Counts}
use Rattle.questions.specs.Asking.{Question, first_no, or_next}
use Rattle.questions.proofs.Asked.{AllYes, all_yes, no_no}
use Rattle.rules.specs.declared.fault.HouseFault.{HouseFault}
use Rattle.rules.specs.declared.fault.HouseFault.TheVariants.{Tables}
use Rattle.rules.specs.declared.call.Call.{Call}
use Rattle.rules.specs.House.{House}
use Rattle.rules.specs.Sound.{sound}
use Rattle.rules.specs.Asking.{shape_questions, own_questions, common, refusal}

-- no question of either part is answered no
pub both_none : {F : Type 0} (a b : Option F) → or_next a b ≡ None → (a ≡ None) × (b ≡ None)
both_none None b e = (refl, e)
both_none (Some f) b e = absurd (let z : ◌≡◌ {A = ℕ} 0 1 = cc in omega arith)

none_both : {F : Type 0} (a b : Option F) → a ≡ None → b ≡ None → or_next a b ≡ None
none_both a b e f = ap (λ x. or_next x b) e ∙ f

module _ {B : Type 0} (fits : Counts → Bool) (s : House B) (c : Call B) where
  abbrev table_question : List (Question HouseFault)
  table_question = (Tables, sound s) ∷ []

  -- what the answers of a granted call say: the shape is right, the tables are sound, and the call's own questions are answered yes
  pub record Answers : Type 0 where
    pub shape : AllYes (shape_questions s.sizes)
    pub tables : sound s ≡ true
    pub own : AllYes (own_questions fits s c)

  pub answers : refusal fits s c ≡ None → Answers
  answers e =
      let p = both_none (common s) (first_no (own_questions fits s c)) e in
      let q = both_none (first_no (shape_questions s.sizes)) (first_no table_question) p.0 in
      record { shape = all_yes (shape_questions s.sizes) q.0; tables = (all_yes table_question q.1).0; own = all_yes (own_questions fits s c) p.1 }

  pub granted : Answers → refusal fits s c ≡ None
  granted y = none_both (common s) (first_no (own_questions fits s c))
      (none_both (first_no (shape_questions s.sizes)) (first_no table_question) (no_no (shape_questions s.sizes) y.shape)
      (no_no table_question (y.tables, tt)))
      (no_no (own_questions fits s c) y.own)
