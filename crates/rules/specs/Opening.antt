-- Opening a house: with given numbers of stations, handsets, rows and places, and a start list.
--
--   asked_sizes      the numbers that are asked for, with the lengths of the tables that there are
--   start_right      the start list is empty, or names a station of the house for each handset
--   start_station    the station that keeps a handset at first: the one that the list names, and 0 where the list is empty
--   opening_refusal  the refusal of an opening, or none
--   opened           what a granted opening leaves: every count 0, every queue empty, nothing passed on and no row in use;
--                    the roll's rows stay
--   opening          the refusal of an opening, or none, and the house that it leaves
use Rattle.std.specs.Prelude.{ℕ, Bool, not, ◌&&◌, ◌||◌, List, [], ◌∷◌, length, None, Option, ◌==◌, nat_lt, slice_index}
use Rattle.std.specs.List.{list_all}
use Rattle.std.specs.Option.{option_map_or}
use Rattle.tally.specs.Counts.{none}
use Rattle.questions.specs.Asking.{first_no, or_next}
use Rattle.rules.specs.declared.numbers.Numbers.{Numbers}
use Rattle.rules.specs.declared.place.Place.TheVariants.{Kept}
use Rattle.rules.specs.declared.fault.HouseFault.{HouseFault}
use Rattle.rules.specs.declared.fault.HouseFault.TheVariants.{StartList}
use Rattle.rules.specs.Functions.{any}
use Rattle.rules.specs.House.{Sizes, House}
use Rattle.rules.specs.Asking.{shape_questions}

abbrev pub start_right : Sizes → List ℕ → Bool
start_right z l = not (any l) || (length l == z.handsets && list_all (λ p. nat_lt p z.stations) l)

abbrev pub start_station : List ℕ → ℕ → ℕ
start_station l j = slice_index l j

abbrev pub opening_refusal : Sizes → List ℕ → Option HouseFault
opening_refusal z l = or_next (first_no (shape_questions z)) (first_no ((StartList, start_right z l) ∷ []))

module _ {B : Type 0} where
  abbrev pub asked_sizes : House B → Numbers → Sizes
  asked_sizes s n =
      record { stations = n.stations; handsets = n.handsets; rows = n.rows; places = n.places; lengths = s.sizes.lengths }

  abbrev pub opened : Sizes → List ℕ → House B → House B
  opened z l s = record {
    sizes = z;
    used = 0;
    counts = λ p. none;
    notices = λ p. [];
    passed = λ p j. None;
    place = λ j. Kept (start_station l j);
    handed = none;
    carried = λ j. none;
    unread = λ j. [];
    back = λ j. [];
    rows = s.rows;
    stage = s.stage;
  }

  abbrev pub opening : Sizes → List ℕ → House B → Option HouseFault × House B
  opening z l s = (opening_refusal z l, option_map_or (λ e. s) (opening_refusal z l) (opened z l s))
