-- What a station does with its tally when it takes in a message that is read.
--
--   taken_in   the counts of a station that has taken in a message: with the message's tag joined, and the message's pair
--              raised to one more than the tag counts
--   taking_in  the answer to that: the join's refusal, or else the raising's
use Rattle.std.specs.Prelude.{suc, Bool, Ok, Err, Result}
use Rattle.tally.specs.declared.pair.Pair.{Pair}
use Rattle.tally.specs.Counts.{Counts, raised, larger}
use Rattle.tally.specs.Answers.{verdict, raising}
use Rattle.station.specs.declared.fault.StationFault.{StationFault}
use Rattle.station.specs.Faults.{carried}

abbrev pub taken_in : Counts → Counts → Pair → Counts
taken_in c tag p = raised (larger c tag) p (suc (tag p))

-- the first answer where it is a refusal, else the next
abbrev pub and_next : {A F : Type 0} → Result A F → Result A F → Result A F
and_next (Ok a) next = next
and_next (Err f) next = Err f

abbrev pub taking_in : (Counts → Bool) → Counts → Counts → Pair → Result (Unit {0}) StationFault
taking_in fits c tag p = and_next (carried (verdict fits (larger c tag) tt)) (carried (raising fits (larger c tag) p (suc (tag p))))
