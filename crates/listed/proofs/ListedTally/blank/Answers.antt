use Rattle.std.proofs.Common.{rules}
use Rattle.listed.proofs.Keeping.{nothing_kept}
use Rattle.listed.proofs.ListedTally.blank.Goals as goal

pub invariant_of-result : goal.invariant_of-result
invariant_of-result c = record { ordered = (nothing_kept _ (search rules)).ordered; low = (nothing_kept _ (search rules)).low }
