use Rattle.std.proofs.Common.{sym}
use Rattle.tally.proofs.Listing.{all_rest}
use Rattle.tally.proofs.CountedPairs.pairs.Goals as goal

pub returns : goal.returns
returns g c = sym (all_rest (g.Self.Tally.counts c.args.self.now))
