-- Why a house denies a call.
--
--   Told   what a refusal tells: its number, and a pair or none
--   tells  what each refusal tells
use Rattle.std.specs.Prelude.{ℕ, Some, None, Option}
use Rattle.tally.specs.declared.pair.Pair.{Pair}
use Rattle.station.specs.Faults.{fault_number, fault_pair}
use Rattle.rules.specs.declared.fault.HouseFault.{HouseFault}
use Rattle.rules.specs.declared.fault.HouseFault.TheVariants.{Stations, Handsets, Rows, Places, Lengths, StartList, Tables, NoHandset, NoStation, NoMessage, ToItself, NotKept, SameStation, NoRow, NotOnWire, NotHeld, BookFull, NothingUnread, NoNotice, NotOnWay, Station}

pub record Told : Type 0 where
  pub number : ℕ
  pub pair : Option Pair

-- a refusal with a number alone
abbrev pub plain : ℕ → Told
plain n = record { number = n; pair = None }

abbrev pub tells : HouseFault → Told
tells Stations = plain 1
tells Handsets = plain 2
tells Rows = plain 3
tells Places = plain 4
tells Lengths = plain 5
tells StartList = plain 6
tells Tables = plain 7
tells NoHandset = plain 8
tells NoStation = plain 9
tells NoMessage = plain 10
tells ToItself = plain 11
tells NotKept = plain 12
tells SameStation = plain 13
tells NoRow = plain 14
tells NotOnWire = plain 15
tells NotHeld = plain 16
tells BookFull = plain 17
tells NothingUnread = plain 18
tells NoNotice = plain 19
tells NotOnWay = plain 20
tells (Station f) = record { number = fault_number f; pair = Some (fault_pair f) }
