use Rattle.std.proofs.Common.{◌≤◌, ⊎_elim, arith, rules}
use Rattle.std.proofs.lemmas.Bool.{cases_Bool}
use Rattle.tally.specs.Pairs.{inside}
use Rattle.station.proofs.next_of.Goals as goal

-- a tally's own count is at most 8,191
pub overflow_add-result : goal.overflow_add-result
overflow_add-result g c =
    let few : g.T.Tally.counts c.args.tag.now c.args.pair ≤ 8191 =
    ⊎_elim
    (λ yes_inside. g.met.T.Tally.bounded _ c.args.pair yes_inside (g.met.T.Tally.own c.args.tag.now))
    (λ outside. let z = g.met.T.Tally.outside c.args.tag.now c.args.pair outside in omega arith)
    (cases_Bool (inside c.args.pair)) in
    let is = c.count.ensures in
    search rules
