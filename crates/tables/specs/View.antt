-- What the tables say of the house. A tally is seen by its counts, a queue by what stands in it.
--
--   Whole    the tables as they are, place for place
--   whole    the tables of a house
--   view     the house that they say
--
-- Rows that a table does not have are seen as in a newly opened house: nothing counted, nothing queued, handsets kept by
-- station 0, and messages without a body.
use Rattle.std.specs.Prelude.{ℕ, List, [], length, Some, None, Option, slice_index, slice_index_or}
use Rattle.tally.specs.Counts.{Counts, none}
use Rattle.rules.specs.declared.place.Place.{Place}
use Rattle.rules.specs.declared.place.Place.TheVariants.{Kept}
use Rattle.rules.specs.declared.place.Stage.{Stage}
use Rattle.rules.specs.declared.place.Stage.TheVariants.{Wire}
use Rattle.rules.specs.declared.place.Notice.{Notice}
use Rattle.rules.specs.House.{Row, Sizes, House}
use Rattle.rules.specs.Steps.{notice}
use Rattle.tables.specs.declared.rows.Head.{Head}
use Rattle.tables.specs.declared.rows.StationRow.{StationRow}
use Rattle.tables.specs.declared.rows.HandsetRow.{HandsetRow}
use Rattle.tables.specs.declared.rows.RollRow.{RollRow}
use Rattle.tables.specs.declared.tables.Tables.{Tables}
use Rattle.tables.specs.Columns.{column, held}

module _ {T : Type 0} where
  abbrev pub counts_of : (T → Counts) → List (StationRow T) → ℕ → Counts
  counts_of counts = column (λ x. counts x.tally) none

  abbrev pub notice_lengths : List (StationRow T) → ℕ → ℕ
  notice_lengths = column (λ x. x.notices) 0

  abbrev pub passed_of : List (StationRow T) → ℕ → ℕ → Option ℕ
  passed_of xs p j = slice_index_or (column (λ x. x.passed) [] xs p) j None

  abbrev pub places_of : List (HandsetRow T) → ℕ → Place
  places_of = column (λ x. x.place) (Kept 0)

  abbrev pub handed_of : List (HandsetRow T) → Counts
  handed_of xs q = slice_index (column (λ x. x.handed) [] xs q.handset) q.station

  abbrev pub carried_of : (T → Counts) → List (HandsetRow T) → ℕ → Counts
  carried_of counts = column (λ x. counts x.carried) none

  abbrev pub unread_lengths : List (HandsetRow T) → ℕ → ℕ
  unread_lengths = column (λ x. x.unread) 0

  abbrev pub back_lengths : List (HandsetRow T) → ℕ → ℕ
  back_lengths = column (λ x. x.back) 0

abbrev pub no_row : {B : Type 0} → Row B
no_row = record { station = 0; sender = 0; addressee = 0; tag = none; body = None }

module _ {T B : Type 0} where
  abbrev pub row_of : (T → Counts) → RollRow T B → Row B
  row_of counts x = record { station = x.station; sender = x.sender; addressee = x.addressee; tag = counts x.tag; body = Some x.body }

  abbrev pub rows_of : (T → Counts) → List (RollRow T B) → ℕ → Row B
  rows_of counts = column (row_of counts) no_row

  abbrev pub stages_of : List (RollRow T B) → ℕ → Stage
  stages_of = column (λ x. x.stage) (Wire 0)

pub record Whole (T B : Type 0) : Type 0 where
  pub head : Head
  pub stations : List (StationRow T)
  pub handsets : List (HandsetRow T)
  pub roll : List (RollRow T B)
  pub unread : List ℕ
  pub back : List ℕ
  pub notices : List Notice

module _ {T B : Type 0} where
  abbrev pub sizes_of : Whole T B → Sizes
  sizes_of w = record {
    stations = w.head.numbers.stations;
    handsets = w.head.numbers.handsets;
    rows = w.head.numbers.rows;
    places = w.head.numbers.places;
    lengths = record {
      stations = length w.stations;
      handsets = length w.handsets;
      roll = length w.roll;
      unread = length w.unread;
      back = length w.back;
      notices = length w.notices;
    };
  }

  abbrev pub viewed : (T → Counts) → Whole T B → House B
  viewed counts w = record {
    sizes = sizes_of w;
    used = w.head.used;
    counts = counts_of counts w.stations;
    notices = held (notice 0 0) w.head.numbers.handsets (notice_lengths w.stations) w.notices;
    passed = passed_of w.stations;
    place = places_of w.handsets;
    handed = handed_of w.handsets;
    carried = carried_of counts w.handsets;
    unread = held 0 w.head.numbers.places (unread_lengths w.handsets) w.unread;
    back = held 0 w.head.numbers.places (back_lengths w.handsets) w.back;
    rows = rows_of counts w.roll;
    stage = stages_of w.roll;
  }

  abbrev pub whole : Tables T B → Whole T B
  whole h = record {
    head = h.head.now;
    stations = h.stations.now;
    handsets = h.handsets.now;
    roll = h.roll.now;
    unread = h.unread.now;
    back = h.back.now;
    notices = h.notices.now;
  }

  abbrev pub view : (T → Counts) → Tables T B → House B
  view counts h = viewed counts (whole h)
