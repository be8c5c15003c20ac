-- How often a name stands in a list, and small facts about lists.
use Rattle.std.proofs.Common.{◌≡◌, ℕ, suc, ◌+◌, ◌<◌, Bool, true, false, eqb, ◌≢◌, ◌⊎◌, List, [], ◌∷◌, ◌++◌, length, Some, None, refl, ap, ◌∙◌, subst, inl, inr, ⊎_elim, not-suc-le-zero, arith}
use mathlib.Core.Path.{subst⁻¹}
use Rattle.std.proofs.lemmas.Bool.{eq-eqb, ne_eqb, eqb-true, eqb-false, cond_both, cases_eq, and_from, false≢true}
use Rattle.std.specs.List.{list_all, find}
use Rattle.std.proofs.lemmas.List.Folds.{list_all-append}
use Rattle.rules.specs.Functions.{bit, times, without, any, front, rest}

pub bit_same : (m x : ℕ) → m ≡ x → bit (eqb m x) ≡ 1
bit_same m x e = ap bit (eq-eqb m x e)

pub bit_other : (m x : ℕ) → m ≢ x → bit (eqb m x) ≡ 0
bit_other m x e = ap bit (ne_eqb m x e)

pub times_push : (m x : ℕ) (l : List ℕ) → times m (l ++ (x ∷ [])) ≡ times m l + bit (eqb m x)
unfolding times
times_push m x [] = omega arith
times_push m x (y ∷ l) = let h = times_push m x l in omega arith

-- a name in x ∷ l is x or stands in l
pub times_cons : (m x : ℕ) (l : List ℕ) → 0 < times m (x ∷ l) → (m ≡ x) ⊎ (0 < times m l)
unfolding times
times_cons m x l h = ⊎_elim (λ e. inl e) (λ e. let z = bit_other m x e in inr (omega arith)) (cases_eq m x)

pub times_front : (x : ℕ) (l : List ℕ) → 0 < times x (x ∷ l)
unfolding times
times_front x l = let k = bit_same x x refl in omega arith

pub times_nil : (m : ℕ) → times m [] ≡ 0
unfolding times
times_nil m = refl

pub times_without : (m x : ℕ) (l : List ℕ) → 0 < times x l → times m l ≡ times m (without x l) + bit (eqb m x)
unfolding times without
times_without m x [] h = absurd (not-suc-le-zero h)
times_without m x (y ∷ l) h = cond_both (eqb x y) l (y ∷ without x l) (λ z. bit (eqb m y) + times m l ≡ times m z + bit (eqb m x))
    (λ e. subst (λ z. bit (eqb m z) + times m l ≡ times m l + bit (eqb m x)) (eqb-true x y e) (omega arith))
    (λ e. let q = times_without m x l (⊎_elim (λ k. absurd (eqb-false x y e k)) (λ k. k) (times_cons x y l h)) in omega arith)

pub length_without : (x : ℕ) (l : List ℕ) → 0 < times x l → length l ≡ suc (length (without x l))
unfolding times without
length_without x [] h = absurd (not-suc-le-zero h)
length_without x (y ∷ l) h = cond_both (eqb x y) l (y ∷ without x l) (λ z. suc (length l) ≡ suc (length z)) (λ e. refl)
    (λ e. ap suc (length_without x l (⊎_elim (λ k. absurd (eqb-false x y e k)) (λ k. k) (times_cons x y l h))))

-- no name of the list passes the test, or the first that does stands in the list
pub find_none : (p : ℕ → Bool) (l : List ℕ) → find p l ≡ None → (m : ℕ) → 0 < times m l → p m ≡ false
unfolding times
find_none p [] e m h = absurd (not-suc-le-zero h)
find_none p (y ∷ l) e m h = cond_both (p y) (Some y) (find p l) (λ o. o ≡ None → p m ≡ false)
    (λ q r. absurd (let z : ◌≡◌ {A = ℕ} 0 1 = cc in omega arith))
    (λ q r. ⊎_elim (λ k. ap p k ∙ q) (λ k. find_none p l r m k) (times_cons m y l h)) e

pub find_some : (p : ℕ → Bool) (l : List ℕ) (x : ℕ) → find p l ≡ Some x → (p x ≡ true) × (0 < times x l)
unfolding times
find_some p [] x e = absurd (let z : ◌≡◌ {A = ℕ} 0 1 = cc in omega arith)
find_some p (y ∷ l) x e = cond_both (p y) (Some y) (find p l) (λ o. o ≡ Some x → (p x ≡ true) × (0 < times x (y ∷ l)))
    (λ q r. let k : x ≡ y = cc in (ap p k ∙ q, subst⁻¹ (λ z. 0 < times z (y ∷ l)) k (times_front y l)))
    (λ q r. let w = find_some p l x r in (w.0, omega (arith, w.1))) e

pub any_front : {A : Type 0} (d : A) (l : List A) → any l ≡ true → l ≡ front d l ∷ rest l
any_front d [] e = absurd (false≢true e)
any_front d (x ∷ l) e = refl

pub list_all_from : (p : ℕ → Bool) (l : List ℕ) → ((m : ℕ) → 0 < times m l → p m ≡ true) → list_all p l ≡ true
unfolding times
list_all_from p [] h = refl
list_all_from p (x ∷ l) h = and_from _ _ (h x (times_front x l)) (list_all_from p l (λ m z. h m (omega arith)))

pub list_all_push : {A : Type 0} (p : A → Bool) (l : List A) (x : A) → list_all p l ≡ true → p x ≡ true → list_all p (l ++ (x ∷ [])) ≡ true
list_all_push p l x e f = list_all-append p l (x ∷ []) ∙ and_from _ _ e (and_from _ true f refl)
