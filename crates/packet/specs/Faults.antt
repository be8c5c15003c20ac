-- Why a packet is refused, and why a message is not packed.
--
--   Told         what a refusal of a packet tells: its number, a byte place, and a pair or none
--   tells        what each refusal of a packet tells
--   pack_number  the number of each refusal to pack; it tells nothing else
use Rattle.std.specs.Prelude.{ℕ, Some, None, Option}
use Rattle.tally.specs.declared.pair.Pair.{Pair}
use Rattle.station.specs.Faults.{fault_pair}
use Rattle.packet.specs.declared.fault.Fault.{Fault}
use Rattle.packet.specs.declared.fault.Fault.TheVariants.{Short, Mark, Version, Kind, Field, Order, Counts, Unlawful, Trailing}
use Rattle.packet.specs.declared.fault.PackFault.{PackFault}
use Rattle.packet.specs.declared.fault.PackFault.TheVariants.{ShortBuffer}

pub record Told : Type 0 where
  pub number : ℕ
  pub place : ℕ
  pub pair : Option Pair

-- a refusal with a number and a place
abbrev pub refused : ℕ → ℕ → Told
refused n p = record { number = n; place = p; pair = None }

abbrev pub tells : Fault → Told
tells (Short length) = refused 31 length
tells Mark = refused 32 0
tells Version = refused 33 3
tells Kind = refused 34 5
tells (Field place) = refused 35 place
tells (Order place) = refused 36 place
tells (Counts place f) = record { number = 37; place = place; pair = Some (fault_pair f) }
tells (Unlawful place) = refused 38 place
tells (Trailing place) = refused 39 place

abbrev pub pack_number : PackFault → ℕ
pack_number ShortBuffer = 40
