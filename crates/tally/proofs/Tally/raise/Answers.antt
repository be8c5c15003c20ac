use Rattle.std.proofs.Common.{◌≡◌, true, sym, ap, ◌∙◌, arith}
use Rattle.std.proofs.lemmas.Bool.{cond-true, and_from, both_ways}
use Rattle.tally.specs.Pairs.{inside}
use Rattle.tally.specs.Counts.{Counts, raised}
use Rattle.tally.specs.Answers.{raising}
use Rattle.tally.proofs.Building.{below, below_all, Ranged, raised_is, refused, ranged_raised}
use Rattle.tally.proofs.Trying.{not_ok, refused_since, refused_leaves, granted_leaves}
use Rattle.tally.proofs.Tally.raise.Goals as goal

-- a place is reached at which what is built is refused too
pub returns-then-is_err-clause-answers : goal.returns-then-is_err-clause-answers
returns-then-is_err-clause-answers g c =
    let counts = g.Self.Tally.counts in
    let refused_first = not_ok _ (sym c.if-is_ok.ensures.value) in
    let unchanged : c.try_raise.new.self ≡ c.args.self.now = refused_leaves _ _ _ refused_first c.try_raise.ensures.leaves in
    let in_range : inside c.args.pair ≡ true = sym c.if-not-in_range.ensures in
    let wanted : Counts = raised (counts c.try_raise.new.self) c.args.pair c.args.number in
    let ranged : Ranged wanted = ranged_raised _ c.args.pair c.args.number in_range (g.met.Self.Tally.outside c.try_raise.new.self) in
    let count : c.raised_count-wanted.result ≡ wanted c.at-at.result =
    c.raised_count-wanted.ensures ∙ ap (λ n. raised (λ _. n) c.args.pair c.args.number c.at-at.result) c.count.ensures in
    refused wanted ranged c.loop-place.place c.loop-place-test.true (counts c.loop-place.built) c.loop-place.invariant
    c.at-at.result c.at-at.ensures c.raised_count-wanted.result count tt g.Self.Tally.fits g.met.Self.Tally.lowered
    (g.met.Self.Tally.own c.loop-place.built)
    (refused_since _ _ c.try_raise-in-loop-place.ensures.answers (sym c.if-is_err.ensures.value))
    ∙ sym (cond-true _ _ _ in_range) ∙ ap (λ z. raising g.Self.Tally.fits (counts z) c.args.pair c.args.number) unchanged

pub loop-place-preserved : goal.loop-place-preserved
loop-place-preserved g c =
    let counts = g.Self.Tally.counts in
    let in_range : inside c.args.pair ≡ true = sym c.if-not-in_range.ensures in
    let wanted : Counts = raised (counts c.try_raise.new.self) c.args.pair c.args.number in
    let ranged : Ranged wanted = ranged_raised _ c.args.pair c.args.number in_range (g.met.Self.Tally.outside c.try_raise.new.self) in
    let count : c.raised_count-wanted.result ≡ wanted c.at-at.result =
    c.raised_count-wanted.ensures ∙ ap (λ n. raised (λ _. n) c.args.pair c.args.number c.at-at.result) c.count.ensures in
    granted_leaves _ _ _ (sym c.if-is_err.ensures.value) c.try_raise-in-loop-place.ensures.leaves
    ∙ raised_is wanted ranged c.loop-place.place c.loop-place-test.true (counts c.loop-place.built) c.loop-place.invariant
    c.at-at.result c.at-at.ensures c.raised_count-wanted.result count

-- were all places built up, the first try would have been granted
pub unreachable-requires : goal.unreachable-requires
unreachable-requires g c =
    let counts = g.Self.Tally.counts in
    let fits = g.Self.Tally.fits in
    let refused_first = not_ok _ (sym c.if-is_ok.ensures.value) in
    let unchanged : c.try_raise.new.self ≡ c.args.self.now = refused_leaves _ _ _ refused_first c.try_raise.ensures.leaves in
    let in_range : inside c.args.pair ≡ true = sym c.if-not-in_range.ensures in
    let wanted : Counts = raised (counts c.try_raise.new.self) c.args.pair c.args.number in
    let ranged : Ranged wanted = ranged_raised _ c.args.pair c.args.number in_range (g.met.Self.Tally.outside c.try_raise.new.self) in
    let whole : counts c.loop-place.built ≡ wanted = c.loop-place.invariant ∙ ap (below wanted) (omega arith) ∙ below_all wanted ranged in
    let fit : fits (raised (counts c.args.self.now) c.args.pair c.args.number) ≡ true =
    ap (λ z. fits (raised (counts z) c.args.pair c.args.number)) (sym unchanged) ∙ ap fits (sym whole) ∙ g.met.Self.Tally.own c.loop-place.built in
    both_ways _ (refused_since _ _ c.try_raise.ensures.answers refused_first) (and_from _ _ in_range fit)
