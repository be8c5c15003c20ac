-- Questions put one after the other. The first that is answered no ends it.
--
--   Question  what is told where the answer is no, and whether it is yes
--   first_no  what the first no tells, or none where all answers are yes
--   or_next   what the first no of some questions tells or, where there is none, that of the questions put next
--   answered  the answer of a call: refused with what the first no tells, else granted
use Rattle.std.specs.Prelude.{Bool, cond, List, [], ◌∷◌, Some, None, Ok, Err, Option, Result}

abbrev pub Question : Type 0 → Type 0
Question R = R × Bool

abbrev pub first_no : {R : Type 0} → List (Question R) → Option R
first_no [] = None
first_no (q ∷ qs) = cond q.1 (first_no qs) (Some q.0)

abbrev pub or_next : {R : Type 0} → Option R → Option R → Option R
or_next None next = next
or_next (Some r) next = Some r

abbrev pub answered : {R A : Type 0} → Option R → A → Result A R
answered None a = Ok a
answered (Some r) a = Err r
