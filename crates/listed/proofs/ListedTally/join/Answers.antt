use Rattle.std.proofs.Common.{sym}
use Rattle.std.proofs.lemmas.Bool.{cond-true}
use Rattle.shortlist.proofs.Items.{most_items}
use Rattle.listed.proofs.Keeping.{kept_fits}
use Rattle.listed.proofs.Joining.{joined}
use Rattle.listed.proofs.ListedTally.join.Goals as goal

pub returns-clause-answers : goal.returns-clause-answers
returns-clause-answers c =
    let new = c.merge.new.merged in
    sym (cond-true _ _ _ (kept_fits (joined c.args.self.now c.args.other.now new c.in_ok-merge.ensures) (most_items new.entries)))

pub returns-clause-leaves : goal.returns-clause-leaves
returns-clause-leaves c = (joined c.args.self.now c.args.other.now c.merge.new.merged c.in_ok-merge.ensures).counts
