use Rattle.std.proofs.Common.{◌≡◌, ◌++◌, refl, rules}
use Rattle.packet_text.specs.Lines.{tally_word}
use Rattle.packet_text.proofs.Lines.{no_tally, no_body}
use Rattle.packet_text.proofs.asking.asked.Goals as goal

pub returns-in_err-tally : goal.returns-in_err-tally
returns-in_err-tally c = rw c.from_residual.ensures (no_tally c.args.line.now _ _ refl refl c.in_err-tally.ensures)

pub returns-in_err-body : goal.returns-in_err-body
returns-in_err-body c =
    let said : c.args.line.now ≡ tally_word c.in_ok-tally.tally ++ c.in_ok-tally.rest.now = search rules in
    rw c.from_residual-in_err-body.ensures (no_body c.args.line.now _ _ said _ _ refl refl c.in_err-body.ensures)
