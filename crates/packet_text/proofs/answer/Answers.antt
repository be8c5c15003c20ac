use Rattle.packet_text.specs.Lines.{asked_of}
use Rattle.packet_text.proofs.Lines.{answers_asked}
use Rattle.packet_text.proofs.answer.Goals as goal

pub returns-in_ok-reply-in-Some : goal.returns-in_ok-reply-in-Some
returns-in_ok-reply-in-Some c = answers_asked c.args.line.now _ (asked_of c.in-Some.asked) c.in-Some.ensures c.in_ok-reply-in-Some.ensures
