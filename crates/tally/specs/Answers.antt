-- What a tally answers. Each kind of tally says which tables of counts fit it; the answers follow from that.
--
--   first_misfit  the first pair such that the counts up to and with it do not fit
--   refuses       the refusal that names a pair
--   verdict       the answer of a call that would leave a table of counts: granted where they fit,
--                 else a refusal that names the first misfit
--   raises        whether a pair is in range and the counts with it raised to a number fit
--   trying        the answer to a try to raise: granted where that holds, else a refusal that says no more
--   raising       the answer to raising a pair to a number; a pair out of range is named itself
--   next_counted  the first counted pair at or after a given one, with its count
use Rattle.std.specs.Prelude.{ℕ, zero, suc, Bool, cond, ◌&&◌, List, [], ◌∷◌, Some, None, Ok, Err, Option, Result}
use Rattle.tally.specs.declared.pair.Pair.{Pair}
use Rattle.tally.specs.declared.pair.Refusal.{Refusal}
use Rattle.tally.specs.declared.pair.NotRaised.{NotRaised}
use Rattle.tally.specs.Pairs.{inside, pairs, pair_at, at_or_after}
use Rattle.tally.specs.Counts.{Counts, raised, up_to, counted_pairs}

-- the first of n places from k on that fails a test, or else k + n
abbrev pub first_failing : (ℕ → Bool) → ℕ → ℕ → ℕ
first_failing f k zero = k
first_failing f k (suc n) = cond (f k) (first_failing f (suc k) n) k

unfoldable pub first_misfit : (Counts → Bool) → Counts → Pair
first_misfit fits c = pair_at (first_failing (λ n. fits (up_to c n)) 0 pairs)

abbrev pub refuses : {A : Type 0} → Pair → Result A Refusal
refuses p = Err (record { pair = p })

abbrev pub verdict : {A : Type 0} → (Counts → Bool) → Counts → A → Result A Refusal
verdict fits c a = cond (fits c) (Ok a) (refuses (first_misfit fits c))

abbrev pub raises : (Counts → Bool) → Counts → Pair → ℕ → Bool
raises fits c p n = inside p && fits (raised c p n)

abbrev pub trying : (Counts → Bool) → Counts → Pair → ℕ → Result (Unit {0}) NotRaised
trying fits c p n = cond (raises fits c p n) (Ok tt) (Err (record {}))

abbrev pub raising : (Counts → Bool) → Counts → Pair → ℕ → Result (Unit {0}) Refusal
raising fits c p n = cond (inside p) (verdict fits (raised c p n) tt) (refuses p)

-- the first of some counted pairs that stands at p or after it
abbrev pub first_from : Pair → List (Pair × ℕ) → Option (Pair × ℕ)
first_from p [] = None
first_from p (x ∷ xs) = cond (at_or_after p x.0) (Some x) (first_from p xs)

abbrev pub next_counted : Counts → Pair → Option (Pair × ℕ)
next_counted c p = first_from p (counted_pairs c)
