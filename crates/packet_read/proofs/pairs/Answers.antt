use Rattle.std.proofs.Common.{refl, sym, arith}
use Rattle.std.proofs.lemmas.Result.{err_from_is_err_and}
use Rattle.packet_read.proofs.Going.{going_none, going_more, going_stops, going_all}
use Rattle.packet_read.proofs.pairs.Goals as goal

pub loop-init : goal.loop-init
loop-init g c = going_none g.T.Tally.fits c.args.count c.args.reader.now c.requires (g.T.Tally.counts c.blank-tag.result) c.blank-tag.ensures

pub returns-in_err-least : goal.returns-in_err-least
returns-in_err-least g c =
    let no_pair = c.in_err-least.ensures in
    let p = err_from_is_err_and c.from_residual.result c.from_residual.ensures.1 in
    rw (p.1, p.2)
    (going_stops g.T.Tally.fits c.args.count c.args.reader.now c.requires c.loop.counter c.loop.reader c.loop.least (g.T.Tally.counts c.loop.tag) c.loop.invariant c.loop-test.true
    _ _ (sym no_pair.asks) no_pair.same _)

pub loop-preserved : goal.loop-preserved
loop-preserved g c =
    going_more g.T.Tally.fits c.args.count c.args.reader.now c.requires c.loop.counter c.loop.reader c.loop.least (g.T.Tally.counts c.loop.tag) c.loop.invariant c.loop-test.true
    c.one_pair.new.reader c.in_ok-least.least (g.T.Tally.counts c.one_pair.new.tag) c.in_ok-least.ensures

pub returns : goal.returns
returns g c =
    going_all g.T.Tally.fits c.args.count c.args.reader.now c.requires c.loop.counter c.loop.reader c.loop.least (g.T.Tally.counts c.loop.tag) c.loop.invariant (omega arith)
    c.loop.tag g.T.Tally.counts refl
