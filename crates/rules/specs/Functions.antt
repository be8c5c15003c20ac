-- Tables as functions of the row number, and small words about numbers and lists.
--
--   updated    a table with one entry changed
--   bit        1 for yes and 0 for no
--   all_below  a test holds of every number below a given one
--   how_many   of how many numbers below a given one it holds
--   times      how often a name stands in a list
--   without    a list without the first place at which a name stands in it
--   front      what stands first in a list, or a given thing where the list is empty
--   rest       the list without what stands first
--   any        whether a list holds anything
--   within     a number is at least the one given and at most the other
use Rattle.std.specs.Prelude.{ℕ, zero, suc, ◌+◌, Bool, true, false, cond, ◌&&◌, List, [], ◌∷◌, ◌==◌, nat_le}

abbrev pub updated : {A : Type 0} → (ℕ → A) → ℕ → A → ℕ → A
updated f i a n = cond (n == i) a (f n)

abbrev pub bit : Bool → ℕ
bit true = 1
bit false = 0

unfoldable pub all_below : (ℕ → Bool) → ℕ → Bool
all_below p zero = true
all_below p (suc n) = all_below p n && p n

unfoldable pub how_many : (ℕ → Bool) → ℕ → ℕ
how_many p zero = 0
how_many p (suc n) = how_many p n + bit (p n)

unfoldable pub times : ℕ → List ℕ → ℕ
times m [] = 0
times m (x ∷ l) = bit (m == x) + times m l

unfoldable pub without : ℕ → List ℕ → List ℕ
without m [] = []
without m (x ∷ l) = cond (m == x) l (x ∷ without m l)

abbrev pub front : {A : Type 0} → A → List A → A
front d [] = d
front d (x ∷ l) = x

abbrev pub rest : {A : Type 0} → List A → List A
rest [] = []
rest (x ∷ l) = l

abbrev pub any : {A : Type 0} → List A → Bool
any [] = false
any (x ∷ l) = true

abbrev pub within : ℕ → ℕ → ℕ → Bool
within low high n = nat_le low n && nat_le n high
