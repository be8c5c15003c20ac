-- Columns of a table: what a reader finds, and what the change of one row leaves.
use Rattle.std.proofs.Common.{◌≡◌, ℕ, zero, suc, ◌<◌, ◌≤◌, eqb, List, [], ◌∷◌, map, length, get_or, set, sym, refl, ap, ◌∙◌, subst, ⊎_elim, arith}
use mathlib.Core.Path.{fun_ext}
use Rattle.std.proofs.lemmas.List.{get_or-map, get_or_past, length-map}
use Rattle.std.proofs.lemmas.Bool.{cases_eq, eq-eqb, ne_eqb, cond-true, cond-false}
use Rattle.rules.specs.Functions.{updated}
use Rattle.tables.specs.Columns.{column, modify}

-- what is read of a row is what its column holds
pub column_at : {X Y : Type 0} (f : X → Y) (d : Y) (xs : List X) (i : ℕ) (x : X) → i < length xs → x ≡ get_or xs i x → f x ≡ column f d xs i
column_at f d xs i x l r = ap f r ∙ sym (get_or-map f xs i x d l)

pub column_read : {X Y : Type 0} (f : X → Y) (d : Y) (xs : List X) (i : ℕ) (x : X) → i < length xs → f (get_or xs i x) ≡ column f d xs i
column_read f d xs i x l = sym (get_or-map f xs i x d l)

-- past the table's end it holds the given value
pub column_past : {X Y : Type 0} (f : X → Y) (d : Y) (xs : List X) (i : ℕ) → length xs ≤ i → d ≡ column f d xs i
column_past f d xs i l = sym (get_or_past (map f xs) i d (simp length-map l))

pub updated_same : {A : Type 0} (f : ℕ → A) (i : ℕ) (a : A) → updated f i a i ≡ a
updated_same f i a = cond-true (eqb i i) a (f i) (eq-eqb i i refl)

pub updated_other : {A : Type 0} (f : ℕ → A) (i : ℕ) (a : A) (n : ℕ) → (n ≡ i → ⊥) → updated f i a n ≡ f n
updated_other f i a n ne = cond-false (eqb n i) a (f n) (ne_eqb n i ne)

-- a table that differs from another at one place
pub updated_from : {Y : Type 0} (f g : ℕ → Y) (i : ℕ) (y : Y) → g i ≡ y → ((n : ℕ) → (n ≡ i → ⊥) → g n ≡ f n) → g ≡ updated f i y
updated_from f g i y here others = fun_ext (λ n. ⊎_elim
    (λ e. subst (λ k. g k ≡ updated f i y k) (sym e) (here ∙ sym (updated_same f i y)))
    (λ ne. others n ne ∙ sym (updated_other f i y n ne))
    (cases_eq n i))

-- a row that is written back changed
pub set_modify : {X : Type 0} (xs : List X) (i : ℕ) (f : X → X) (d : X) → set xs i (f (get_or xs i d)) ≡ modify xs i f
set_modify [] i f d = refl
set_modify (x ∷ xs) zero f d = refl
set_modify (x ∷ xs) (suc i) f d = ap (λ ys. x ∷ ys) (set_modify xs i f d)

pub set_modify_read : {X : Type 0} (xs : List X) (i : ℕ) (f : X → X) (x : X) → x ≡ get_or xs i x → set xs i (f x) ≡ modify xs i f
set_modify_read xs i f x r = ap (λ y. set xs i (f y)) r ∙ set_modify xs i f x

pub length_modify : {X : Type 0} (xs : List X) (i : ℕ) (f : X → X) → length (modify xs i f) ≡ length xs
length_modify [] i f = refl
length_modify (x ∷ xs) zero f = refl
length_modify (x ∷ xs) (suc i) f = ap suc (length_modify xs i f)

at_same : {X Y : Type 0} (f : X → Y) (d : Y) (g : X → X) (k : Y → Y) → ((x : X) → f (g x) ≡ k (f x)) → (xs : List X) (i : ℕ) → i < length xs → column f d (modify xs i g) i ≡ k (column f d xs i)
at_same f d g k e [] zero h = let b : ⊥ = omega arith in absurd b
at_same f d g k e [] (suc i) h = let b : ⊥ = omega arith in absurd b
at_same f d g k e (x ∷ xs) zero h = e x
at_same f d g k e (x ∷ xs) (suc i) h = at_same f d g k e xs i (omega arith)

at_other : {X Y : Type 0} (f : X → Y) (d : Y) (g : X → X) (xs : List X) (i n : ℕ) → (n ≡ i → ⊥) → column f d (modify xs i g) n ≡ column f d xs n
at_other f d g [] i n ne = refl
at_other f d g (x ∷ xs) zero zero ne = absurd (ne refl)
at_other f d g (x ∷ xs) zero (suc n) ne = refl
at_other f d g (x ∷ xs) (suc i) zero ne = refl
at_other f d g (x ∷ xs) (suc i) (suc n) ne = at_other f d g xs i n (λ e. ne (ap suc e))

-- a column that the change of a row changes, by what it held there
pub column_mod : {X Y : Type 0} (f : X → Y) (d : Y) (g : X → X) (k : Y → Y) → ((x : X) → f (g x) ≡ k (f x)) → (xs : List X) (i : ℕ) → i < length xs →
    column f d (modify xs i g) ≡ updated (column f d xs) i (k (column f d xs i))
column_mod f d g k e xs i h =
    updated_from (column f d xs) (column f d (modify xs i g)) i (k (column f d xs i)) (at_same f d g k e xs i h) (λ n ne. at_other f d g xs i n ne)

pub column_to : {X Y : Type 0} (f : X → Y) (d : Y) (g : X → X) (y : Y) → ((x : X) → f (g x) ≡ y) → (xs : List X) (i : ℕ) → i < length xs →
    column f d (modify xs i g) ≡ updated (column f d xs) i y
column_to f d g y e xs i h = column_mod f d g (λ _. y) e xs i h

map_same : {X Y : Type 0} (f : X → Y) (g : X → X) → ((x : X) → f (g x) ≡ f x) → (xs : List X) (i : ℕ) → map f (modify xs i g) ≡ map f xs
map_same f g e [] i = refl
map_same f g e (x ∷ xs) zero = ap (λ y. y ∷ map f xs) (e x)
map_same f g e (x ∷ xs) (suc i) = ap (λ ys. f x ∷ ys) (map_same f g e xs i)

-- a column that it leaves
pub column_same : {X Y : Type 0} (f : X → Y) (d : Y) (g : X → X) → ((x : X) → f (g x) ≡ f x) → (xs : List X) (i : ℕ) → ◌≡◌ {A = ℕ → Y} (column f d (modify xs i g)) (column f d xs)
column_same f d g e xs i = ap (λ ys n. get_or ys n d) (map_same f g e xs i)
