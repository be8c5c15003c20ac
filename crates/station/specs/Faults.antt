-- Why a station refuses.
--
--   fault_number  the number of each refusal
--   fault_pair    the pair that it carries
--   carried       the answer of a station that passes its tally's answer on
use Rattle.std.specs.Prelude.{ℕ, Ok, Err, Result}
use Rattle.tally.specs.declared.pair.Pair.{Pair}
use Rattle.tally.specs.declared.pair.Refusal.{Refusal}
use Rattle.station.specs.declared.fault.StationFault.{StationFault}
use Rattle.station.specs.declared.fault.StationFault.TheVariants.{Counts}

abbrev pub fault_number : StationFault → ℕ
fault_number (Counts r) = 21

abbrev pub fault_pair : StationFault → Pair
fault_pair (Counts r) = r.pair

abbrev pub carried : {A : Type 0} → Result A Refusal → Result A StationFault
carried (Ok a) = Ok a
carried (Err r) = Err (Counts r)
