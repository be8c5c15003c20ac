use lib.Seq.{take-set-lt}
use Rattle.shortlist.proofs.list.ShortList.set.Goals as goal

pub returns-then-at-self : goal.returns-then-at-self
returns-then-at-self g c = take-set-lt c.args.self.now.len c.args.self.now.places c.args.at c.args.x c.if-at-self.true
