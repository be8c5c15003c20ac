-- The notices: a station has one for each handset that is leaving it, and it says for which station.
use Rattle.std.proofs.Common.{◌≡◌, ℕ, ◌+◌, true, eqb, ◌≢◌, List, [], ◌∷◌, ◌++◌, sym, refl, ap, ◌∙◌, subst, ⊎_elim, arith}
use mathlib.Core.Path.{subst⁻¹}
use Rattle.std.proofs.lemmas.Bool.{cases_eq, false≢true}
use Rattle.rules.specs.declared.place.Place.{Place}
use Rattle.rules.specs.declared.place.Place.TheVariants.{Kept, Leaving, OnWay}
use Rattle.rules.specs.declared.place.Notice.{Notice}
use Rattle.rules.specs.Functions.{updated, bit}
use Rattle.rules.specs.Places.{leaves, is_kept, is_on_way}
use Rattle.rules.specs.Steps.{notice}
use Rattle.order.proofs.Basics.{updated_both, updated_here, updated_off}
use Rattle.order.proofs.Lists.{bit_same, bit_other}

-- how many notices of a list are of the handset j
abbrev pub seen : ℕ → List Notice → ℕ
seen j [] = 0
seen j (x ∷ l) = bit (eqb j x.handset) + seen j l

-- each notice of the list says where its handset is: leaving p for the station that it names
abbrev pub Right : (ℕ → Place) → ℕ → List Notice → Type 0
Right place p [] = Unit {0}
Right place p (x ∷ l) = (place x.handset ≡ Leaving p x.station) × Right place p l

-- told   a station has one notice of a handset that is leaving it, and none of another
-- right  each notice says where its handset is
pub record Noticed (place : ℕ → Place) (notices : ℕ → List Notice) : Type 0 where
  pub told : (p j : ℕ) → seen j (notices p) ≡ bit (leaves p (place j))
  pub right : (p : ℕ) → Right place p (notices p)

seen_push : (i : ℕ) (x : Notice) (l : List Notice) → seen i (l ++ (x ∷ [])) ≡ seen i l + bit (eqb i x.handset)
seen_push i x [] = omega arith
seen_push i x (y ∷ l) = omega (arith, seen_push i x l)

right_push : (place : ℕ → Place) (p : ℕ) (l : List Notice) (x : Notice) → Right place p l → place x.handset ≡ Leaving p x.station
    → Right place p (l ++ (x ∷ []))
right_push place p [] x r e = (e, tt)
right_push place p (y ∷ l) x r e = (r.0, right_push place p l x r.1 e)

kept_leaves : (p : ℕ) (pl : Place) → is_kept pl ≡ true → bit (leaves p pl) ≡ 0
kept_leaves p (Kept s) e = refl
kept_leaves p (Leaving q n) e = absurd (false≢true e)
kept_leaves p (OnWay q n) e = refl

on_way_leaves : (p : ℕ) (pl : Place) → is_on_way pl ≡ true → bit (leaves p pl) ≡ 0
on_way_leaves p (Kept s) e = refl
on_way_leaves p (Leaving q n) e = absurd (false≢true e)
on_way_leaves p (OnWay q n) e = refl

-- the handset j changes its place to pl
module _ (place : ℕ → Place) (j : ℕ) (pl : Place) where
  right_keep : (p : ℕ) (l : List Notice) → Right place p l → seen j l ≡ 0 → Right (updated place j pl) p l
  right_keep p [] r z = tt
  right_keep p (x ∷ l) r z = (
    updated_off place j pl x.handset (λ e. absurd (omega (arith, bit_same j x.handset (sym e)))) ∙ r.0,
    right_keep p l r.1 (omega arith),
  )

  told_change : (before after : ℕ → List Notice) → Noticed place before → ((q : ℕ) → seen j (after q) ≡ bit (leaves q pl))
      → ((q i : ℕ) → i ≢ j → seen i (after q) ≡ seen i (before q)) → (q i : ℕ) → seen i (after q) ≡ bit (leaves q (updated place j pl i))
  told_change before after N own others q i = ⊎_elim
      (λ eq. subst⁻¹ (λ y. seen y (after q) ≡ bit (leaves q (updated place j pl y))) eq (own q ∙ ap (λ v. bit (leaves q v)) (sym (updated_here place j pl))))
      (λ ne. others q i ne ∙ N.told q i ∙ ap (λ v. bit (leaves q v)) (sym (updated_off place j pl i ne)))
      (cases_eq i j)

module _ {place : ℕ → Place} {notices : ℕ → List Notice} (N : Noticed place notices) where
  pub noticed_register : (p j n : ℕ) → is_kept (place j) ≡ true
      → Noticed (updated place j (Leaving p n)) (updated notices p (notices p ++ (notice j n ∷ [])))
  noticed_register p j n k = record {
    told = told_change place j (Leaving p n) notices (updated notices p l) N
        (λ q. updated_both (λ m. seen j m ≡ bit (eqb q p)) notices p l q
        (λ d. omega (arith, seen_push j (notice j n) (notices p), unseen p, bit_same j j refl, bit_same q p d))
        (λ d. omega (arith, unseen q, bit_other q p d)))
        (λ q i ne. updated_both (λ m. seen i m ≡ seen i (notices q)) notices p l q
        (λ d. omega (arith, seen_push i (notice j n) (notices p), bit_other i j ne, ap (λ y. seen i (notices y)) d)) (λ d. refl));
    right = λ q. updated_both (Right (updated place j (Leaving p n)) q) notices p l q
        (λ d. subst⁻¹ (λ y. Right (updated place j (Leaving p n)) y l) d
        (right_push (updated place j (Leaving p n)) p (notices p) (notice j n) (right_keep place j (Leaving p n) p (notices p) (N.right p) (unseen p))
        (updated_here place j (Leaving p n))))
        (λ d. right_keep place j (Leaving p n) q (notices q) (N.right q) (unseen q));
  }
    where
      l : List Notice
      l = notices p ++ (notice j n ∷ [])

      unseen : (q : ℕ) → seen j (notices q) ≡ 0
      unseen q = N.told q j ∙ kept_leaves q (place j) k

  -- the oldest notice of a station is of a handset that is leaving it, and is taken away
  pub noticed_release : (p j n : ℕ) (l : List Notice) → notices p ≡ notice j n ∷ l
      → (place j ≡ Leaving p n) × Noticed (updated place j (OnWay p n)) (updated notices p l)
  noticed_release p j n l e = (
    was,
    record {
      told = told_change place j (OnWay p n) notices (updated notices p l) N unseen
          (λ q i ne. updated_both (λ m. seen i m ≡ seen i (notices q)) notices p l q
          (λ d. omega (arith, ap (seen i) e, bit_other i j ne, ap (λ y. seen i (notices y)) d)) (λ d. refl));
      right = λ q. right_keep place j (OnWay p n) q (updated notices p l q)
          (updated_both (Right place q) notices p l q (λ d. subst⁻¹ (λ y. Right place y l) d both.1) (λ d. N.right q)) (unseen q);
    },
  )
    where
      both : Right place p (notice j n ∷ l)
      both = subst (Right place p) e (N.right p)

      was : place j ≡ Leaving p n
      was = both.0

      unseen : (q : ℕ) → seen j (updated notices p l q) ≡ 0
      unseen q = updated_both (λ m. seen j m ≡ 0) notices p l q
          (λ d. omega (arith, bit_same j j refl, bit_same p p refl, ap (seen j) e, N.told p j, ap (λ v. bit (leaves p v)) was))
          (λ d. N.told q j ∙ ap (λ v. bit (leaves q v)) was ∙ bit_other q p d)

  pub noticed_settle : (j n : ℕ) → is_on_way (place j) ≡ true → Noticed (updated place j (Kept n)) notices
  noticed_settle j n k = record {
    told = told_change place j (Kept n) notices notices N unseen (λ q i ne. refl);
    right = λ q. right_keep place j (Kept n) q (notices q) (N.right q) (unseen q);
  }
    where
      unseen : (q : ℕ) → seen j (notices q) ≡ 0
      unseen q = N.told q j ∙ on_way_leaves q (place j) k
