-- The first pair up to which a table of counts does not fit.
use Rattle.std.proofs.Common.{◌≡◌, ℕ, zero, suc, ◌+◌, ◌<◌, ◌≤◌, Bool, true, false, ap, ◌∙◌, ⊎_elim, arith}
use Rattle.std.proofs.lemmas.Bool.{cond-true, cond-false, cases_lt}
use Rattle.tally.specs.Pairs.{pairs, pair_at}
use Rattle.tally.specs.Counts.{Counts, up_to}
use Rattle.tally.specs.Answers.{first_failing, first_misfit}

first_failing_is : (f : ℕ → Bool) (k n m : ℕ) → k ≤ m → m < k + n → f m ≡ false → ((i : ℕ) → i < m → f i ≡ true) → first_failing f k n ≡ m
first_failing_is f k zero m low high fails before = absurd (omega arith)
first_failing_is f k (suc n) m low high fails before =
    ⊎_elim
    (λ (l : k < m). cond-true _ _ _ (before k l) ∙ first_failing_is f (suc k) n m (omega arith) (omega arith) fails before)
    (λ (l : m ≤ k). let e : k ≡ m = omega arith in cond-false _ _ _ (ap f e ∙ fails) ∙ e)
    (cases_lt k m)

-- the counts up to place m do not fit, and those up to any earlier place do
pub first_misfit_is : (fits : Counts → Bool) (c : Counts) (m : ℕ) → m < pairs → fits (up_to c m) ≡ false
    → ((n : ℕ) → n < m → fits (up_to c n) ≡ true) → first_misfit fits c ≡ pair_at m
unfolding first_misfit
first_misfit_is fits c m within fails before =
    ap pair_at (first_failing_is (λ n. fits (up_to c n)) 0 pairs m (omega arith) (omega arith) fails before)
