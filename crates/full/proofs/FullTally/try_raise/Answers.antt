use Rattle.std.proofs.Common.{◌≡◌, Some, sym, rules}
use Rattle.std.proofs.lemmas.Bool.{cond-true, cond-false, and_from, and_right}
use Rattle.std.proofs.lemmas.Option.{cond_some}
use Rattle.tally.specs.Pairs.{inside}
use Rattle.tally.proofs.Bounds.{bounded_at, bounded_raised, raise_above}
use Rattle.full.specs.Cells.{of_cells, place_of, full_fits}
use Rattle.full.specs.Laws.{cells_fit}
use Rattle.full.proofs.Counting.{cells_raised}
use Rattle.full.proofs.FullTally.try_raise.Goals as goal

pub returns-then-number-gt-MOST-clause-answers : goal.returns-then-number-gt-MOST-clause-answers
returns-then-number-gt-MOST-clause-answers c =
    let p = c.args.pair in
    let found : place_of p ≡ Some c.in_ok-at.at = search rules in
    sym (cond-false _ _ _ (and_right (inside p) _
    (raise_above full_fits (λ d q i e. bounded_at 8191 d e q i) (of_cells c.args.self.now.cells) p c.args.number (cond_some _ _ _ found).0 c.if-number-gt-MOST.true)))

pub returns-clause-answers : goal.returns-clause-answers
returns-clause-answers c =
    let t = c.args.self.now in
    let p = c.args.pair in
    let found : place_of p ≡ Some c.in_ok-at.at = search rules in
    sym (cond-true _ _ _ (and_from _ _ (cond_some _ _ _ found).0 (bounded_raised 8191 (of_cells t.cells) p c.args.number c.if-number-gt-MOST.false (cells_fit t.cells t.low))))

pub returns-clause-leaves : goal.returns-clause-leaves
returns-clause-leaves c =
    let t = c.args.self.now in
    let p = c.args.pair in
    let found : place_of p ≡ Some c.in_ok-at.at = search rules in
    cells_raised t.cells p c.args.number (cond_some _ _ _ found).0 (search rules) c.in_ok-at.at (sym (cond_some _ _ _ found).1) _ (search rules)
