use Rattle.packet_read.proofs.Going.{Going}
use Rattle.packet_read.proofs.pairs.Given as goal

abbrev pub invariant-loop : goal.invariant-loop
invariant-loop g l = Going g.T.Tally.fits l.count l.counter l.initial.reader l.reader l.least (g.T.Tally.counts l.tag)
