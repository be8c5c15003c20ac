use Rattle.std.proofs.Common.{Ok, sym, ap, ◌∙◌}
use Rattle.std.proofs.lemmas.Result.{err_from_is_err_and}
use Rattle.questions.specs.Asking.{answered}
use Rattle.packet.specs.Reading.{content}
use Rattle.packet.specs.Packing.{packet_bytes}
use Rattle.packet_read.proofs.Whole.{refused_in_pairs, refused_in_body, no_refusal, says}
use Rattle.packet_read.proofs.Packed.{packs_back}
use Rattle.packet_read.proofs.read.Goals as goal

pub returns-in_err-tag-clause-answers : goal.returns-in_err-tag-clause-answers
returns-in_err-tag-clause-answers g c =
    let p = err_from_is_err_and c.from_residual-in_err-tag.result c.from_residual-in_err-tag.ensures.1 in
    rw (p.1, p.2) (sym (refused_in_pairs g.B.Body.kind g.B.Body.lawful g.T.Tally.fits _ _ _ _ (sym c.in_ok-place.ensures.asks) c.in_ok-head.ensures _ c.in_err-tag.ensures.asks))

pub returns-in_err-body-clause-answers : goal.returns-in_err-body-clause-answers
returns-in_err-body-clause-answers g c =
    let p = err_from_is_err_and c.from_residual-in_err-body.result c.from_residual-in_err-body.ensures.1 in
    rw (p.1, p.2)
    (sym (refused_in_body g.B.Body.kind g.B.Body.lawful g.T.Tally.fits _ _ _ _ (sym c.in_ok-place.ensures.asks) c.in_ok-head.ensures
    _ c.in_ok-tag.tag g.T.Tally.counts c.in_ok-tag.ensures _ c.in_err-body.ensures.asks))

pub returns : goal.returns
returns g c =
    let kind = g.B.Body.kind in
    let lawful = g.B.Body.lawful in
    let fits = g.T.Tally.fits in
    let accepted = no_refusal kind lawful fits _ _ _ _ (sym c.in_ok-place.ensures.asks) c.in_ok-head.ensures _ c.in_ok-tag.tag g.T.Tally.counts c.in_ok-tag.ensures c.in_ok-body.ensures.asks in
    let message_is =
    says kind lawful fits _ _ _ _ (sym c.in_ok-place.ensures.asks) c.in_ok-head.ensures _ c.in_ok-tag.tag g.T.Tally.counts c.in_ok-tag.ensures c.in_ok-body.ensures.asks
    g.B.Body.bytes c.in_ok-body.body c.in-Some.message c.in_ok-body.ensures.reads c.in-Some.ensures in
    record {
      answers = ap Ok message_is ∙ sym (ap (λ o. answered o (content kind lawful fits c.args.packet.now)) accepted);
      packs = ap (packet_bytes kind) message_is ∙ packs_back c.args.packet.now (λ i. (c.type_inv.packet i).fits) kind lawful fits accepted;
    }
