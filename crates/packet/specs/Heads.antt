-- The numbers that a message names.
--
--   in_range  the station is below 8, the handsets below 32 and differ, and the name is below 4,096
use Rattle.std.specs.Prelude.{Bool, not, ◌&&◌, ◌==◌, nat_lt}
use Rattle.packet.specs.declared.head.Head.{Head}

abbrev pub in_range : Head → Bool
in_range h =
    nat_lt h.station 8 && (nat_lt h.sender 32 && (nat_lt h.addressee 32 && (not (h.sender == h.addressee) && nat_lt h.name 4096)))
