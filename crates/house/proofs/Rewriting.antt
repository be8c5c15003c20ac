-- Rows with one entry changed.
--
--   moved       a handset row with another place
--   carrying    with another carried tally
--   handing     with one more handed from a station
--   unread_as   with another length of its unread list
--   back_as     with another length of its back list
--   tallied     a station row with another tally
--   passing     with a handset passed on to a station
--   noticing    with another number of notices
--   staged      a message with another stage
use Rattle.std.specs.Prelude.{ℕ, ◌+◌, Some, slice_index, slice_set}
use Rattle.rules.specs.declared.place.Place.{Place}
use Rattle.rules.specs.declared.place.Stage.{Stage}
use Rattle.tables.specs.declared.rows.StationRow.{StationRow}
use Rattle.tables.specs.declared.rows.HandsetRow.{HandsetRow}
use Rattle.tables.specs.declared.rows.RollRow.{RollRow}

module _ {T : Type 0} where
  abbrev pub moved : Place → HandsetRow T → HandsetRow T
  moved p x = record x { place = p }

  abbrev pub carrying : T → HandsetRow T → HandsetRow T
  carrying t x = record x { carried = t }

  abbrev pub handing : ℕ → HandsetRow T → HandsetRow T
  handing i x = record x { handed = slice_set x.handed i (slice_index x.handed i + 1) }

  abbrev pub unread_as : ℕ → HandsetRow T → HandsetRow T
  unread_as n x = record x { unread = n }

  abbrev pub back_as : ℕ → HandsetRow T → HandsetRow T
  back_as n x = record x { back = n }

  abbrev pub tallied : T → StationRow T → StationRow T
  tallied t x = record x { tally = t }

  abbrev pub passing : ℕ → ℕ → StationRow T → StationRow T
  passing j n x = record x { passed = slice_set x.passed j (Some n) }

  abbrev pub noticing : ℕ → StationRow T → StationRow T
  noticing n x = record x { notices = n }

abbrev pub staged : {T B : Type 0} → Stage → RollRow T B → RollRow T B
staged s x = record x { stage = s }
