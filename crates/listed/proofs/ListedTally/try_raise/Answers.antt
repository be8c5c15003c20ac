use Rattle.std.proofs.Common.{sym, ap, ◌∙◌, ⊎_elim, arith}
use Rattle.std.proofs.lemmas.Result.{err_from_is_err_and}
use Rattle.std.proofs.lemmas.Bool.{cond-true, cond-false, and_parts, and_from, and_left, and_right}
use Rattle.tally.specs.Pairs.{inside}
use Rattle.tally.specs.Counts.{count_of, none_above}
use Rattle.tally.proofs.Bounds.{bounded_at, raise_above}
use Rattle.listed.specs.Entries.{listed_fits}
use Rattle.listed.specs.Listing.{listed, Sought}
use Rattle.listed.proofs.Searching.{absent_there}
use Rattle.listed.proofs.Raising.{own_fits, too_many}
use Rattle.listed.proofs.ListedTally.try_raise.Goals as goal

pub returns-then-not-in_range-clause-answers : goal.returns-then-not-in_range-clause-answers
returns-then-not-in_range-clause-answers c =
    let p = c.args.pair in
    sym (cond-false _ _ _ (⊎_elim
    (λ outside. and_left _ _ (sym c.in_range.ensures ∙ outside))
    (λ above. and_right (inside p) _
    (raise_above listed_fits (λ d q i e. bounded_at 8191 d (and_parts (none_above 8191 d) _ e).0 q i) (count_of (listed c.args.self.now)) p c.args.number
    (sym c.in_range.ensures ∙ above.0) above.1))
    c.then-not-in_range.either))

pub returns-in_err-insert_at-in-Err-2-clause-answers : goal.returns-in_err-insert_at-in-Err-2-clause-answers
returns-in_err-insert_at-in-Err-2-clause-answers c =
    let t = c.args.self.now in
    let p = c.args.pair in
    let at = c.in-Err-2.at in
    let absent = absent_there (listed t) p at (sym c.in-Err-2.is ∙ c.search.ensures) in
    let s : Sought (listed t) p at = record { in_range = sym c.if-not-in_range.ensures; here = absent.0 } in
    let full = c.in_err-insert_at-in-Err-2.ensures.1 in
    let refusal = err_from_is_err_and c.from_residual.result c.from_residual.ensures.1 in
    rw refusal.1 (sym (cond-false _ _ _ (and_right (inside p) _ (too_many t p at c.args.number s c.if-number-gt-MOST.false absent.1 (omega arith) full))))

pub returns-in-Ok-clause-answers : goal.returns-in-Ok-clause-answers
returns-in-Ok-clause-answers c =
    let fit = ap listed_fits (sym c.raise_at.ensures) ∙ own_fits c.raise_at.new.self in
    sym (cond-true _ _ _ (and_from _ _ (sym c.if-not-in_range.ensures) fit))

pub returns-in_ok-insert_at-in-Err-2-clause-answers : goal.returns-in_ok-insert_at-in-Err-2-clause-answers
returns-in_ok-insert_at-in-Err-2-clause-answers c =
    let fit = ap listed_fits (sym c.in_ok-insert_at-in-Err-2.ensures) ∙ own_fits c.insert_at.new.self in
    sym (cond-true _ _ _ (and_from _ _ (sym c.if-not-in_range.ensures) fit))
