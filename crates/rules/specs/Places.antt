-- Where handsets and messages are.
--
--   station_of  the station that holds a handset or, where it is on its way, to which it goes
--   is_kept     a station keeps it
--   is_on_way   it is on its way
--   holds       a station holds it: the station keeps it, or it is leaving the station
--   leaves      it is leaving the station
--   awaits      it is on its way to the station
--   heading     the station that a message on the wire heads for
--   is_wire, is_back, is_unread, is_read   the message is there
--   is_handed   it is unread or read
use Rattle.std.specs.Prelude.{ℕ, Bool, true, false, ◌==◌}
use Rattle.rules.specs.declared.place.Place.{Place}
use Rattle.rules.specs.declared.place.Place.TheVariants.{Kept, Leaving, OnWay}
use Rattle.rules.specs.declared.place.Stage.{Stage}
use Rattle.rules.specs.declared.place.Stage.TheVariants.{Wire, Back, Unread, Read}

abbrev pub station_of : Place → ℕ
station_of (Kept s) = s
station_of (Leaving p n) = p
station_of (OnWay p n) = n

abbrev pub is_kept : Place → Bool
is_kept (Kept s) = true
is_kept (Leaving p n) = false
is_kept (OnWay p n) = false

abbrev pub is_on_way : Place → Bool
is_on_way (Kept s) = false
is_on_way (Leaving p n) = false
is_on_way (OnWay p n) = true

abbrev pub holds : ℕ → Place → Bool
holds t (Kept s) = t == s
holds t (Leaving p n) = t == p
holds t (OnWay p n) = false

abbrev pub leaves : ℕ → Place → Bool
leaves t (Kept s) = false
leaves t (Leaving p n) = t == p
leaves t (OnWay p n) = false

abbrev pub awaits : ℕ → Place → Bool
awaits t (Kept s) = false
awaits t (Leaving p n) = false
awaits t (OnWay p n) = t == n

-- 0 where it is not on the wire
abbrev pub heading : Stage → ℕ
heading (Wire s) = s
heading Back = 0
heading Unread = 0
heading Read = 0

abbrev pub is_wire : Stage → Bool
is_wire (Wire s) = true
is_wire Back = false
is_wire Unread = false
is_wire Read = false

abbrev pub is_back : Stage → Bool
is_back (Wire s) = false
is_back Back = true
is_back Unread = false
is_back Read = false

abbrev pub is_unread : Stage → Bool
is_unread (Wire s) = false
is_unread Back = false
is_unread Unread = true
is_unread Read = false

abbrev pub is_read : Stage → Bool
is_read (Wire s) = false
is_read Back = false
is_read Unread = false
is_read Read = true

abbrev pub is_handed : Stage → Bool
is_handed (Wire s) = false
is_handed Back = false
is_handed Unread = true
is_handed Read = true
