use Rattle.std.proofs.Common.{rules}
use Rattle.std.proofs.lemmas.Result.{on_ok_weaker, on_err_weaker}
use Rattle.shortlist.specs.Items.{items}
use Rattle.listed.specs.Listing.{listed}
use Rattle.listed.proofs.Raising.{insert_kept, put_or_kept, same_listed, turned, both, full_since}
use Rattle.listed.proofs.entries.Listed.insert_at.Goals as goal

pub invariant_of-self : goal.invariant_of-self
invariant_of-self c =
    let kept = put_or_kept c.args.self.now c.args.pair c.args.at c.args.number c.requires.sought c.requires.low c.requires.absent c.requires.some
    c.insert.result c.insert.new.self c.insert.ensures.ok c.insert.ensures.err in
    record { ordered = kept.0; low = kept.1 }

pub returns : goal.returns
returns c =
    let t = c.args.self.now in
    turned _ _ c.insert.result c.map_err.result (search rules)
    (on_ok_weaker c.insert.result
    (λ put. (insert_kept t c.args.pair c.args.at c.args.number c.requires.sought c.requires.low c.requires.absent c.requires.some (items c.insert.new.self) put).counts)
    c.insert.ensures.ok)
    (both _ _ c.insert.result (on_err_weaker c.insert.result (λ same. same_listed _ t same) c.insert.ensures.err) (full_since (listed t) c.insert.result c.insert.ensures.answers))
