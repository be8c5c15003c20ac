-- The books: each list holds just the messages to its handset that stand there, once each, and no message of an unread list has one
-- behind it that it counts.
use Rattle.std.proofs.Common.{◌≡◌, ℕ, suc, ◌+◌, ◌<◌, Bool, true, false, eqb, ◌≢◌, List, [], ◌∷◌, ◌++◌, sym, refl, ap, ◌∙◌, subst, ⊎_elim, not-suc-le-zero, lt_irrefl, arith}
use mathlib.Core.Path.{subst⁻¹}
use Rattle.std.proofs.lemmas.Bool.{cases_eq}
use Rattle.rules.specs.Functions.{updated, bit, times}
use Rattle.rules.specs.House.{Row}
use Rattle.rules.specs.Asking.{pair_of}
use Rattle.order.proofs.Basics.{zero_since, updated_both, updated_here, lt_next}
use Rattle.order.proofs.Lists.{times_push, bit_same, bit_other, times_front}
use Rattle.order.proofs.Counting.{number}

module _ {B : Type 0} where
  -- Each handset has a list, and `is` tells which messages stand in one.
  -- own   a message that stands there is once in its addressee's list, and another not at all
  -- only  the list of a handset holds messages to that handset alone
  pub record Side (R : ℕ → Row B) (u : ℕ) (is : ℕ → Bool) (lists : ℕ → List ℕ) : Type 0 where
    pub own : (m : ℕ) → m < u → times m (lists (R m).addressee) ≡ bit (is m)
    pub only : (j m : ℕ) → 0 < times m (lists j) → (m < u) × ((R m).addressee ≡ j)

  module _ {R : ℕ → Row B} {u : ℕ} {is is' : ℕ → Bool} {lists : ℕ → List ℕ} (D : Side R u is lists) where
    pub side_same : ((m : ℕ) → m < u → is' m ≡ is m) → Side R u is' lists
    side_same e = record { own = λ m h. D.own m h ∙ ap bit (sym (e m h)); only = D.only }

    -- the message u is sent, which stands in no list
    pub side_send : ((m : ℕ) → m < u → is' m ≡ is m) → is' u ≡ false → Side R (suc u) is' lists
    side_send e f = record {
      own = λ m h. ⊎_elim (λ lt. D.own m lt ∙ ap bit (sym (e m lt)))
          (λ eq. subst⁻¹ (λ x. times x (lists (R x).addressee) ≡ bit (is' x)) eq (absent (R u).addressee ∙ ap bit (sym f))) (lt_next h);
      only = λ j m h. let w = D.only j m h in (omega (arith, w.0), w.1);
    }
      where
        absent : (j : ℕ) → times u (lists j) ≡ 0
        absent j = zero_since _ (λ p. lt_irrefl u (D.only j u p).0)

    module _ (x : ℕ) (hx : x < u) (e : (m : ℕ) → m ≢ x → is' m ≡ is m) where
      -- the list of x's addressee becomes l, in which all but x stand as often as before
      side_change : (l : List ℕ) → times x l ≡ bit (is' x) → ((m : ℕ) → m ≢ x → times m l ≡ times m (lists (R x).addressee))
          → Side R u is' (updated lists (R x).addressee l)
      side_change l here off = record {
        own = λ m h. ⊎_elim
            (λ eq. subst⁻¹ (λ y. times y (updated lists j l (R y).addressee) ≡ bit (is' y)) eq (ap (times x) (updated_here lists j l) ∙ here))
            (λ ne. updated_both (λ k. times m k ≡ bit (is' m)) lists j l (R m).addressee
            (λ d. off m ne ∙ ap (λ i. times m (lists i)) (sym d) ∙ D.own m h ∙ ap bit (sym (e m ne)))
            (λ d. D.own m h ∙ ap bit (sym (e m ne))))
            (cases_eq m x);
        only = λ i m. updated_both (λ k. 0 < times m k → (m < u) × ((R m).addressee ≡ i)) lists j l i
            (λ d h. ⊎_elim (λ eq. (subst⁻¹ (λ y. y < u) eq hx, ap (λ y. (R y).addressee) eq ∙ sym d))
            (λ ne. let w = D.only j m (subst (λ v. 0 < v) (off m ne) h) in (w.0, w.1 ∙ sym d)) (cases_eq m x))
            (λ d h. D.only i m h);
      }
        where
          j : ℕ
          j = (R x).addressee

      -- x, which stood in no list, goes to the end of its addressee's
      pub side_put : is x ≡ false → is' x ≡ true → Side R u is' (updated lists (R x).addressee (lists (R x).addressee ++ (x ∷ [])))
      side_put f t = side_change (l ++ (x ∷ [])) (omega (arith, times_push x x l, D.own x hx, ap bit f, ap bit t, bit_same x x refl))
          (λ m ne. omega (arith, times_push m x l, bit_other m x ne))
        where
          l : List ℕ
          l = lists (R x).addressee

      -- x, which stood in a list, is taken out of it
      pub side_take : is x ≡ true → is' x ≡ false → (l : List ℕ) → ((m : ℕ) → times m (lists (R x).addressee) ≡ times m l + bit (eqb m x))
          → Side R u is' (updated lists (R x).addressee l)
      side_take t f l q = side_change l (omega (arith, q x, D.own x hx, ap bit f, ap bit t, bit_same x x refl)) (λ m ne. omega (arith, q m, bit_other m x ne))

  -- the tag of x counts y
  abbrev pub Below : (ℕ → Row B) → ℕ → ℕ → Type 0
  Below R y x = number R y < (R x).tag (pair_of (R y))

  -- no message of the list has one behind it that it counts
  abbrev pub Ordered : (ℕ → Row B) → List ℕ → Type 0
  Ordered R [] = Unit {0}
  Ordered R (x ∷ l) = ((y : ℕ) → 0 < times y l → ¬ Below R y x) × Ordered R l

  pub ordered_push : (R : ℕ → Row B) (x : ℕ) (l : List ℕ) → Ordered R l → ((y : ℕ) → 0 < times y l → ¬ Below R x y) → Ordered R (l ++ (x ∷ []))
  unfolding times
  ordered_push R x [] o h = ((λ y z. absurd (not-suc-le-zero z)), tt)
  ordered_push R x (w ∷ l) o h = (
    (λ y z. ⊎_elim (λ eq. subst⁻¹ (λ v. ¬ Below R v w) eq (h w (times_front w l)))
        (λ ne. o.0 y (omega (arith, bit_other y x ne, times_push y x l))) (cases_eq y x)),
    ordered_push R x l o.1 (λ y z. h y (omega arith)),
  )
