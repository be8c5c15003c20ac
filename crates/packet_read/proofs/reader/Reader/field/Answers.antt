use Rattle.std.proofs.Common.{true, false, Ok, Err, refl, ap, ◌∙◌}
use Rattle.std.proofs.lemmas.Result.{err_from_is_err_and}
use Rattle.packet_read.proofs.reader.Reader.field.Goals as goal

pub returns-in_err-number : goal.returns-in_err-number
returns-in_err-number g c =
    let p = err_from_is_err_and c.from_residual.result c.from_residual.ensures.1 in
    (Err c.in_err-number.field-0.0, record { shown = _; shows = refl; left = _; met = c.in_err-number.ensures; leaves = refl }, p.1 ∙ ap Err p.2)

pub returns-then-accept : goal.returns-then-accept
returns-then-accept g c =
    (Ok c.in_ok-number.number, record { shown = _; shows = refl; left = _; met = c.in_ok-number.ensures; leaves = refl }, (true, c.if-accept.ensures, refl))

pub returns-else-accept : goal.returns-else-accept
returns-else-accept g c =
    (Ok c.in_ok-number.number, record { shown = _; shows = refl; left = _; met = c.in_ok-number.ensures; leaves = refl }, (false, c.if-accept.ensures, refl))
