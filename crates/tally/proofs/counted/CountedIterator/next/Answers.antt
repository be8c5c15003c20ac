use Rattle.std.proofs.Common.{sym, ap, ◌∙◌, length, arith, rules}
use Rattle.tally.proofs.Listing.{comes_not, goes}
use Rattle.tally.proofs.counted.CountedIterator.next.Goals as goal

-- nothing is left where there is no next counted pair
pub returns-in_err-pair-clause-steps : goal.returns-in_err-pair-clause-steps
returns-in_err-pair-clause-steps g c =
    let none = comes_not (g.T.Tally.counts c.args.self.now.tally.now) _ (sym c.next_counted.ensures ∙ c.in_err-pair.was) in
    rw c.from_residual.ensures (none, none)

-- from where the walk stands it comes to the pair, and goes on after it
pub returns-clause-steps : goal.returns-clause-steps
returns-clause-steps g c = (goes _ _ _ _ _ (sym c.next_counted.ensures ∙ c.in_ok-pair.was) (search rules)).left

pub returns-clause-goes : goal.returns-clause-goes
returns-clause-goes g c = record { on = λ h. (tt, tt, omega (arith, ap length (returns-clause-steps g c))); keeps = tt; rests = λ h. tt }
