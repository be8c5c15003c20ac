use Rattle.std.proofs.Common.{sym, arith}
use Rattle.std.proofs.lemmas.Bool.{cond-true}
use Rattle.tally.proofs.Bounds.{bounded_larger}
use Rattle.full.specs.Cells.{of_cells}
use Rattle.full.specs.Laws.{cells_fit}
use Rattle.full.proofs.FullTally.join.Goals as goal

pub returns-clause-answers : goal.returns-clause-answers
returns-clause-answers c =
    let t = c.args.self.now in
    let u = c.args.other.now in
    sym (cond-true _ _ _ (bounded_larger 8191 (of_cells t.cells) (of_cells u.cells) (cells_fit t.cells t.low) (cells_fit u.cells u.low)))

pub invariant_of-self : goal.invariant_of-self
invariant_of-self c = record { low = λ k h. omega (arith, c.join_cells.ensures k h, c.args.self.now.low k h, c.args.other.now.low k h) }
