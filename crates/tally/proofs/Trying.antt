-- What the answer of a try to raise a count says.
use Rattle.std.proofs.Common.{◌≡◌, Bool, true, false, cond, Ok, Err, Result, refl, ap}
use Rattle.std.proofs.lemmas.Bool.{both_ways}
use Rattle.std.specs.Result.{is_ok, is_err, MatchResult}
use Rattle.tally.specs.declared.pair.NotRaised.{NotRaised}

abbrev Answer : Type 0
Answer = Result (Unit {0}) NotRaised

pub not_ok : (r : Answer) → is_ok r ≡ false → is_err r ≡ true
not_ok (Ok a) h = absurd (both_ways _ h refl)
not_ok (Err e) h = refl

module _ (b : Bool) (r : Answer) (is : r ≡ cond b (Ok tt) (Err (record {}))) where
  pub refused_since : is_err r ≡ true → b ≡ false
  refused_since h = elim b as (λ z. (r ≡ cond z (Ok tt) (Err (record {}))) → z ≡ false) [ true ↦ λ e. absurd (both_ways _ (ap is_err e) h) | false ↦ λ e. refl ] is

  pub granted_since : is_err r ≡ false → b ≡ true
  granted_since h = elim b as (λ z. (r ≡ cond z (Ok tt) (Err (record {}))) → z ≡ true) [ true ↦ λ e. refl | false ↦ λ e. absurd (both_ways _ h (ap is_err e)) ] is

-- what is left where the try was refused, and where it was granted
pub refused_leaves : (P Q : Type 0) (r : Answer) → is_err r ≡ true → MatchResult r (λ _. P) (λ _. Q) → Q
refused_leaves P Q (Ok a) h m = absurd (both_ways _ refl h)
refused_leaves P Q (Err e) h m = m

pub granted_leaves : (P Q : Type 0) (r : Answer) → is_err r ≡ false → MatchResult r (λ _. P) (λ _. Q) → P
granted_leaves P Q (Ok a) h m = m
granted_leaves P Q (Err e) h m = absurd (both_ways _ h refl)
