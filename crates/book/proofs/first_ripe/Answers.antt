use Rattle.std.proofs.Common.{get_or, sym, ap, ◌∙◌, below_more, arith}
use Rattle.book.specs.Ripening.{ripe_for}
use Rattle.book.proofs.Comparing.{ripe_none, ripe_more, ripe_short, ripe_all, first_found, none_found}
use Rattle.book.proofs.first_ripe.Goals as goal

pub loop-station-init : goal.loop-station-init
loop-station-init g c = ripe_none (λ i. get_or c.args.handed.now i 0) c.args.handset (g.T.Tally.counts c.tag_of-tag.result)

pub loop-station-preserved : goal.loop-station-preserved
loop-station-preserved g c =
    ripe_more (λ i. get_or c.args.handed.now i 0) c.args.handset (g.T.Tally.counts c.tag_of-tag.result) c.loop-station.station
    (omega (arith, c.count.ensures, c.handed_at.ensures)) c.loop-station.invariant

pub names-preserved : goal.names-preserved
names-preserved g c =
    below_more _ _ c.names.invariant
    (ap (ripe_for c.args.stations (λ i. get_or c.args.handed.now i 0) c.args.handset) (sym c.tag_of-tag.ensures)
    ∙ ripe_short (λ i. get_or c.args.handed.now i 0) c.args.handset (g.T.Tally.counts c.tag_of-tag.result) c.loop-station.station c.args.stations
    c.loop-station-test.true (omega (arith, c.count.ensures, c.handed_at.ensures)))

pub returns-in-names : goal.returns-in-names
returns-in-names g c =
    first_found _ c.args.names.now 0 c.names.at c.names-test.true c.names.invariant
    (ap (ripe_for c.args.stations (λ i. get_or c.args.handed.now i 0) c.args.handset) (sym c.tag_of-tag.ensures)
    ∙ ripe_all (λ i. get_or c.args.handed.now i 0) c.args.handset (g.T.Tally.counts c.tag_of-tag.result) c.loop-station.station c.args.stations
    c.loop-station.auto.station-end c.loop-station-test.false c.loop-station.invariant)

pub returns : goal.returns
returns g c = none_found _ c.args.names.now 0 c.names.at c.names-test.false c.names.invariant
