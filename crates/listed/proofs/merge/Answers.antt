use Rattle.std.proofs.Common.{◌+◌, Err, length, sym, ap, ◌∙◌, arith}
use Rattle.std.proofs.lemmas.List.{length_push}
use Rattle.std.proofs.lemmas.Result.{err_from_is_err_and}
use Rattle.tally.specs.Pairs.{rank}
use Rattle.listed.specs.Listing.{listed}
use Rattle.shortlist.proofs.Items.{most_items}
use Rattle.listed.proofs.Joining.{begun, goes_on, next_kept, stops, ends}
use Rattle.listed.proofs.merge.Goals as goal

pub loop-entry-init : goal.loop-entry-init
loop-entry-init c =
    (0, begun c.args.first.now c.args.second.now c.list-a.result.now c.list-b.result.now c.list-a.ensures c.list-b.ensures c.args.merged.now c.requires)

pub push-requires-clause-ordered : goal.push-requires-clause-ordered
push-requires-clause-ordered c =
    let so_far = c.loop-entry.invariant in
    (next_kept c.args.first.now c.args.second.now _ _ _ so_far.0 so_far.1 c.in-Some.entry (sym c.front.ensures ∙ c.in-Some.is)).ordered

pub push-requires-clause-low : goal.push-requires-clause-low
push-requires-clause-low c =
    let so_far = c.loop-entry.invariant in
    (next_kept c.args.first.now c.args.second.now _ _ _ so_far.0 so_far.1 c.in-Some.entry (sym c.front.ensures ∙ c.in-Some.is)).low

pub returns-in_err-push : goal.returns-in_err-push
returns-in_err-push c =
    let so_far = c.loop-entry.invariant in
    let p = err_from_is_err_and c.from_residual.result c.from_residual.ensures.1 in
    rw (p.1, p.2) ((λ i. Err (record { pair = c.in_err-push.ensures.0 i }))
    ∙ stops c.args.first.now c.args.second.now _ _ _ so_far.0 so_far.1 c.in-Some.entry (sym c.front.ensures ∙ c.in-Some.is) c.in_err-push.ensures.1)

pub loop-entry-smaller : goal.loop-entry-smaller
loop-entry-smaller c =
    let t = c.push.new.self in
    omega (arith, ap length c.in_ok-push.ensures, length_push (listed c.loop-entry.merged) c.in-Some.entry, most_items t.entries)

pub loop-entry-preserved : goal.loop-entry-preserved
loop-entry-preserved c =
    let so_far = c.loop-entry.invariant in
    let more = goes_on c.args.first.now c.args.second.now _ _ _ so_far.0 so_far.1 c.in-Some.entry (sym c.front.ensures ∙ c.in-Some.is) in
    (rank c.in-Some.entry.0 + 1, record { left = c.past-a.ensures ∙ more.left; right = c.past-b.ensures ∙ more.right; done = c.in_ok-push.ensures ∙ more.done })

pub returns : goal.returns
returns c =
    let so_far = c.loop-entry.invariant in
    ends c.args.first.now c.args.second.now _ _ _ so_far.0 so_far.1 (sym c.front.ensures ∙ c.in_default.is)
