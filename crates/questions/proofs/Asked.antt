-- Questions put in parts.
use Rattle.std.proofs.Common.{◌≡◌, ℕ, Bool, true, false, cond, List, [], ◌∷◌, ◌++◌, Some, None, Option, refl, ◌∙◌, arith}
use Rattle.std.proofs.lemmas.Bool.{cond-true}
use Rattle.questions.specs.Asking.{Question, first_no}

one_more : {R : Type 0} (b : Bool) (r : R) (o p q : Option R) → (o ≡ None → p ≡ q) → cond b o (Some r) ≡ None → cond b p (Some r) ≡ q
one_more true r o p q rest e = rest e
one_more false r o p q rest e = absurd (let z : ◌≡◌ {A = ℕ} 0 1 = cc in omega arith)

-- where the first part is all yes, the second part decides
pub passed : {R : Type 0} (qs rs : List (Question R)) → first_no qs ≡ None → first_no (qs ++ rs) ≡ first_no rs
passed [] rs e = refl
passed (q ∷ qs) rs e = one_more q.1 q.0 (first_no qs) (first_no (qs ++ rs)) (first_no rs) (passed qs rs) e

same_no : {R : Type 0} (b : Bool) (r s : R) (o p : Option R) → (o ≡ Some s → p ≡ Some s) → cond b o (Some r) ≡ Some s → cond b p (Some r) ≡ Some s
same_no true r s o p rest e = rest e
same_no false r s o p rest e = e

-- where the first part has a no, that decides
pub stopped : {R : Type 0} (qs rs : List (Question R)) (r : R) → first_no qs ≡ Some r → first_no (qs ++ rs) ≡ Some r
stopped [] rs r e = absurd (let z : ◌≡◌ {A = ℕ} 0 1 = cc in omega arith)
stopped (q ∷ qs) rs r e = same_no q.1 q.0 r (first_no qs) (first_no (qs ++ rs)) (stopped qs rs r) e

-- every question is answered yes
abbrev pub AllYes : {R : Type 0} → List (Question R) → Type 0
AllYes [] = Unit {0}
AllYes (q ∷ qs) = (q.1 ≡ true) × (AllYes qs)

both : {R : Type 0} (b : Bool) (r : R) (o : Option R) → cond b o (Some r) ≡ None → (b ≡ true) × (o ≡ None)
both true r o e = (refl, e)
both false r o e = absurd (let z : ◌≡◌ {A = ℕ} 0 1 = cc in omega arith)

-- where there is no no
pub all_yes : {R : Type 0} (qs : List (Question R)) → first_no qs ≡ None → AllYes qs
all_yes [] e = tt
all_yes (q ∷ qs) e = let y = both q.1 q.0 (first_no qs) e in (y.0, all_yes qs y.1)

pub no_no : {R : Type 0} (qs : List (Question R)) → AllYes qs → first_no qs ≡ None
no_no [] y = refl
no_no (q ∷ qs) y = cond-true q.1 (first_no qs) (Some q.0) y.0 ∙ no_no qs y.1

pub yes_parts : {R : Type 0} (qs rs : List (Question R)) → AllYes (qs ++ rs) → AllYes qs × AllYes rs
yes_parts [] rs y = (tt, y)
yes_parts (q ∷ qs) rs y = let parts = yes_parts qs rs y.1 in ((y.0, parts.0), parts.1)

pub yes_both : {R : Type 0} (qs rs : List (Question R)) → AllYes qs → AllYes rs → AllYes (qs ++ rs)
yes_both [] rs y z = z
yes_both (q ∷ qs) rs y z = (y.0, yes_both qs rs y.1 z)
