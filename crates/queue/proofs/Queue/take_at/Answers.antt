use Rattle.std.proofs.Common.{rules}
use Rattle.queue.proofs.Closing.{closed}
use Rattle.queue.proofs.Queue.take_at.Goals as goal

pub returns-clause-leaves : goal.returns-clause-leaves
returns-clause-leaves g c = (closed _ _ _ _ _ c.as_slice-filled.ensures (search rules) c.copy_within.ensures.after).leaves

pub returns-clause-stands : goal.returns-clause-stands
returns-clause-stands g c = (closed _ _ _ _ _ c.as_slice-filled.ensures (search rules) c.copy_within.ensures.after).stands

pub returns-clause-keeps : goal.returns-clause-keeps
returns-clause-keeps g c = (closed _ _ _ _ _ c.as_slice-filled.ensures (search rules) c.copy_within.ensures.after).keeps
