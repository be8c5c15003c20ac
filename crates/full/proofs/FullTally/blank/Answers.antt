use Rattle.full.proofs.Counting.{cells_blank, blank_low}
use Rattle.full.proofs.FullTally.blank.Goals as goal

pub invariant_of-result : goal.invariant_of-result
invariant_of-result c = record { low = blank_low }

pub returns : goal.returns
returns c = cells_blank
