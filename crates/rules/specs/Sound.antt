-- What every house's tables may name and hold. Only rows in use and places that are filled are looked at.
--
--   book           how many messages a handset's book holds: its unread list and its back list
--   message_sound  a message's station and handsets are in the house and the handsets differ; on the wire, it heads for
--                  a station of the house
--   row_sound      the message of a name is sound
--   names_sound    a list of a handset's holds names in use of messages to that handset
--   handset_sound  a handset's place names stations of the house, its book holds at most as many as it has places, its
--                  lists are sound, and its handed counts are at most 4,096
--   station_sound  a station has at most as many notices as handsets are leaving it, has passed handsets to stations of
--                  the house, and its notices name handsets and stations of the house
--   sound          there are at most as many rows in use as rows, and all of that holds
use Rattle.std.specs.Prelude.{ℕ, ◌+◌, Bool, not, ◌&&◌, ◌||◌, List, length, Option, ◌==◌, nat_le, nat_lt, is_some, unwrap_or}
use Rattle.std.specs.List.{list_all}
use Rattle.tally.specs.declared.pair.Pair.{Pair}
use Rattle.rules.specs.declared.place.Place.{Place}
use Rattle.rules.specs.declared.place.Place.TheVariants.{Kept, Leaving, OnWay}
use Rattle.rules.specs.declared.place.Stage.{Stage}
use Rattle.rules.specs.declared.place.Notice.{Notice}
use Rattle.rules.specs.Functions.{all_below, how_many}
use Rattle.rules.specs.Places.{heading, is_wire, leaves}
use Rattle.rules.specs.House.{Row, House}

-- the pair of a station and a handset
abbrev pub on : ℕ → ℕ → Pair
on i j = record { station = i; handset = j }

abbrev pub place_in : ℕ → Place → Bool
place_in stations (Kept s) = nat_lt s stations
place_in stations (Leaving p n) = nat_lt p stations && nat_lt n stations
place_in stations (OnWay p n) = nat_lt p stations && nat_lt n stations

abbrev pub stage_in : ℕ → Stage → Bool
stage_in stations t = not (is_wire t) || nat_lt (heading t) stations

abbrev pub passed_in : ℕ → Option ℕ → Bool
passed_in stations x = not (is_some x) || nat_lt (unwrap_or x 0) stations

abbrev pub notice_in : ℕ → ℕ → Notice → Bool
notice_in handsets stations x = nat_lt x.handset handsets && nat_lt x.station stations

-- a name below `used` whose message is to the handset j, where `to` tells the addressees
abbrev pub name_in : ℕ → ℕ → (ℕ → ℕ) → ℕ → Bool
name_in used j to m = nat_lt m used && to m == j

module _ {B : Type 0} where
  abbrev pub book : House B → ℕ → ℕ
  book s j = length (s.unread j) + length (s.back j)

  -- with this row and at this stage, in a house of so many stations and handsets
  abbrev pub message_sound : ℕ → ℕ → Row B → Stage → Bool
  message_sound stations handsets r t =
      nat_lt r.station stations && nat_lt r.sender handsets && nat_lt r.addressee handsets
      && not (r.addressee == r.sender) && stage_in stations t

  abbrev pub row_sound : House B → ℕ → Bool
  row_sound s m = message_sound s.sizes.stations s.sizes.handsets (s.rows m) (s.stage m)

  abbrev pub names_sound : House B → ℕ → List ℕ → Bool
  names_sound s j l = list_all (name_in s.used j (λ m. (s.rows m).addressee)) l

  abbrev pub handset_sound : House B → ℕ → Bool
  handset_sound s j =
      place_in s.sizes.stations (s.place j) && nat_le (book s j) s.sizes.places
      && names_sound s j (s.unread j) && names_sound s j (s.back j)
      && all_below (λ i. nat_le (s.handed (on i j)) 4096) s.sizes.stations

  abbrev pub station_sound : House B → ℕ → Bool
  station_sound s p =
      nat_le (length (s.notices p)) (how_many (λ j. leaves p (s.place j)) s.sizes.handsets)
      && all_below (λ j. passed_in s.sizes.stations (s.passed p j)) s.sizes.handsets
      && list_all (notice_in s.sizes.handsets s.sizes.stations) (s.notices p)

  unfoldable pub sound : House B → Bool
  sound s =
      nat_le s.used s.sizes.rows && all_below (row_sound s) s.used
      && all_below (handset_sound s) s.sizes.handsets && all_below (station_sound s) s.sizes.stations
