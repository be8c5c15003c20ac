-- Where a message is: the tests of a stage, and what they say after one message's stage has changed.
use Rattle.std.proofs.Common.{◌≡◌, ℕ, ◌+◌, ◌≤◌, Bool, true, false, ◌≢◌, ◌⊎◌, sym, refl, ap, ◌∙◌, inl, inr, arith}
use Rattle.std.proofs.lemmas.Bool.{true≢false, false≢true}
use Rattle.rules.specs.declared.place.Stage.{Stage}
use Rattle.rules.specs.declared.place.Stage.TheVariants.{Wire, Back, Unread, Read}
use Rattle.rules.specs.Functions.{updated, bit}
use Rattle.rules.specs.Places.{is_wire, is_back, is_unread, is_read, is_handed}
use Rattle.order.proofs.Basics.{updated_here, updated_off, updated_both}

-- the message x goes to the stage t, seen by a test
module _ (test : Stage → Bool) (stage : ℕ → Stage) (x : ℕ) (t : Stage) where
  pub test_same : test t ≡ test (stage x) → (m : ℕ) → test (updated stage x t m) ≡ test (stage m)
  test_same e m = updated_both (λ v. test v ≡ test (stage m)) stage x t m (λ d. e ∙ ap (λ y. test (stage y)) (sym d)) (λ d. refl)

  pub test_here : test (updated stage x t x) ≡ test t
  test_here = ap test (updated_here stage x t)

  pub test_off : (m : ℕ) → m ≢ x → test (updated stage x t m) ≡ test (stage m)
  test_off m ne = ap test (updated_off stage x t m ne)

pub not_handed : (t : Stage) → is_handed t ≡ false → (is_unread t ≡ false) × (is_read t ≡ false)
not_handed (Wire n) e = (refl, refl)
not_handed Back e = (refl, refl)
not_handed Unread e = absurd (true≢false e)
not_handed Read e = absurd (true≢false e)

pub on_wire : (t : Stage) → is_wire t ≡ true → (is_handed t ≡ false) × (is_back t ≡ false) × (is_unread t ≡ false) × (is_read t ≡ false)
on_wire (Wire n) e = (refl, refl, refl, refl)
on_wire Back e = absurd (false≢true e)
on_wire Unread e = absurd (false≢true e)
on_wire Read e = absurd (false≢true e)

pub stands_back : (t : Stage) → is_back t ≡ true → (is_handed t ≡ false) × (is_wire t ≡ false) × (is_read t ≡ false)
stands_back (Wire n) e = absurd (false≢true e)
stands_back Back e = (refl, refl, refl)
stands_back Unread e = absurd (false≢true e)
stands_back Read e = absurd (false≢true e)

pub stands_unread : (t : Stage) → is_unread t ≡ true → (is_handed t ≡ true) × (is_wire t ≡ false) × (is_back t ≡ false) × (is_read t ≡ false)
stands_unread (Wire n) e = absurd (false≢true e)
stands_unread Back e = absurd (false≢true e)
stands_unread Unread e = (refl, refl, refl, refl)
stands_unread Read e = absurd (false≢true e)

pub handed_ways : (t : Stage) → is_handed t ≡ true → (is_unread t ≡ true) ⊎ (is_read t ≡ true)
handed_ways (Wire n) e = absurd (false≢true e)
handed_ways Back e = absurd (false≢true e)
handed_ways Unread e = inl refl
handed_ways Read e = inr refl

pub one_place : (t : Stage) → bit (is_unread t) + bit (is_back t) ≤ 1
one_place (Wire n) = omega arith
one_place Back = omega arith
one_place Unread = omega arith
one_place Read = omega arith
