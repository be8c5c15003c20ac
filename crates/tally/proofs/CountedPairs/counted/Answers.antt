use Rattle.std.proofs.Common.{length, sym, ap, arith}
use Rattle.tally.proofs.Listing.{all_rest, comes_not, Goes, goes}
use Rattle.tally.proofs.CountedPairs.counted.Given.{Over}
use Rattle.tally.proofs.CountedPairs.counted.Goals as goal

pub loop-pair-init : goal.loop-pair-init
loop-pair-init g c = (omega arith, omega arith, omega (arith, ap length (all_rest (g.Self.Tally.counts c.args.self.now))))

going : (g : Over) (c : goal.After-after-from g) → Goes (g.Self.Tally.counts c.args.self.now) c.loop-pair.from c.in-Some.pair c.in-Some._count c.after-from.result
going g c =
    goes (g.Self.Tally.counts c.args.self.now) c.loop-pair.from c.in-Some.pair c.in-Some._count c.after-from.result (sym c.in-Some.ensures) c.after-from.ensures

pub loop-pair-smaller : goal.loop-pair-smaller
loop-pair-smaller g c = omega (arith, (going g c).later, (going g c).within)

pub loop-pair-preserved : goal.loop-pair-preserved
loop-pair-preserved g c =
    let on = going g c in
    (on.within, omega (arith, on.later), omega (arith, ap length on.left, c.loop-pair.invariant.2))

pub returns : goal.returns
returns g c =
    omega (arith, c.loop-pair.invariant.2, ap length (comes_not (g.Self.Tally.counts c.args.self.now) c.loop-pair.from (sym c.in_default.ensures)))
