use Rattle.std.proofs.Common.{◌≡◌, length, min, ap, ◌∙◌, sym, arith}
use Rattle.std.proofs.lemmas.List.{length-take-le}
use Rattle.shortlist.specs.Items.{items}
use Rattle.shortlist.proofs.Shifts.{at_end}
use Rattle.shortlist.proofs.list.ShortList.insert.Goals as goal

pub returns-clause-ok : goal.returns-clause-ok
returns-clause-ok g c =
    let l = c.args.self.now in
    let long : length (items l) ≡ l.len = length-take-le l.len l.places (omega (arith, l.sized, l.few)) in
    c.put_in.ensures ∙ at_end (items l) c.args.at c.args.x c.min.result (c.min.ensures ∙ ap (min c.args.at) (sym long))
