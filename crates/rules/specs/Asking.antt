-- The questions that are put to each call, in order. The first no is the refusal.
--
--   ripe             every station's handed count for the addressee is at least the tag's count (the field's word is
--                    deliverable)
--   shape_questions  about the numbers of the house and the lengths of its tables
--   own_questions    those of each call itself
--   common           the refusal by the questions that every step is put first, or none
--   refusal          the refusal of a call on a house, or none
--   after_send, after_join, after_read, after_settle   the counts that a call would leave at its station
--   fit              do counts fit the kind of tally? The tally's own refusal is told.
use Rattle.std.specs.Prelude.{ℕ, suc, ◌-◌, ◌*◌, Bool, cond, not, ◌&&◌, ◌||◌, List, [], ◌∷◌, Option, ◌==◌, nat_le, nat_lt, is_some}
use Rattle.tally.specs.declared.pair.Pair.{Pair}
use Rattle.tally.specs.Counts.{Counts, raised, larger}
use Rattle.tally.specs.Answers.{first_misfit}
use Rattle.station.specs.declared.fault.StationFault.TheVariants.{Counts as Misfit}
use Rattle.questions.specs.Asking.{Question, first_no, or_next}
use Rattle.rules.specs.declared.fault.HouseFault.{HouseFault}
use Rattle.rules.specs.declared.fault.HouseFault.TheVariants.{Stations, Handsets, Rows, Places, Lengths as WrongLengths, Tables, NoHandset, NoStation, NoMessage, ToItself, NotKept, SameStation, NoRow, NotOnWire, NotHeld, BookFull, NothingUnread, NoNotice, NotOnWay, Station}
use Rattle.rules.specs.declared.call.Call.{Call}
use Rattle.rules.specs.declared.call.Call.TheVariants.{Send, Arrive, ReadNext, Register, Release, Settle}
use Rattle.rules.specs.Functions.{all_below, front, any, within}
use Rattle.rules.specs.Places.{station_of, is_kept, is_on_way, holds, awaits, heading, is_wire}
use Rattle.rules.specs.House.{Row, Sizes, House}
use Rattle.rules.specs.Sound.{on, book, sound}

abbrev pub lengths_right : Sizes → Bool
lengths_right z =
    (z.lengths.stations == z.stations) && (z.lengths.handsets == z.handsets && (z.lengths.roll == z.rows
    && (z.lengths.unread == z.handsets * z.places && (z.lengths.back == z.handsets * z.places
    && z.lengths.notices == z.stations * z.handsets))))

abbrev pub shape_questions : Sizes → List (Question HouseFault)
shape_questions z =
    (Stations, within 1 8 z.stations) ∷ (Handsets, within 1 32 z.handsets) ∷ (Rows, within 1 4096 z.rows)
    ∷ (Places, within 2 64 z.places) ∷ (WrongLengths, lengths_right z) ∷ []

abbrev pub misfit : (Counts → Bool) → Counts → HouseFault
misfit fits c = Station (Misfit (record { pair = first_misfit fits c }))

abbrev pub fit : (Counts → Bool) → Counts → Question HouseFault
fit fits c = (misfit fits c, fits c)

module _ {B : Type 0} where
  -- the pair of a station and a message's addressee, and the pair that counts the message itself
  abbrev pub beside : ℕ → Row B → Pair
  beside i r = on i r.addressee

  abbrev pub pair_of : Row B → Pair
  pair_of r = beside r.station r

  unfoldable pub ripe : ℕ → Counts → Row B → Bool
  ripe stations handed r = all_below (λ i. nat_le (r.tag (beside i r)) (handed (beside i r))) stations

  abbrev pub ripe_in : House B → ℕ → Bool
  ripe_in s m = ripe s.sizes.stations s.handed (s.rows m)

  -- one more from station l to handset j
  abbrev pub after_send : House B → ℕ → ℕ → Counts
  after_send s l j = raised (s.counts l) (on l j) (suc (s.counts l (on l j)))

  -- the tag of a message joined in, and then the message itself counted
  abbrev pub after_join : House B → ℕ → Row B → Counts
  after_join s l r = larger (s.counts l) r.tag

  abbrev pub after_read : House B → ℕ → Row B → Counts
  after_read s l r = raised (after_join s l r) (pair_of r) (suc (r.tag (pair_of r)))

  abbrev pub after_settle : House B → ℕ → ℕ → Counts
  after_settle s n j = larger (s.counts n) (s.carried j)

  -- a message m that is on the wire to station p and is for handset j
  abbrev pub arrive_questions : House B → ℕ → ℕ → ℕ → List (Question HouseFault)
  arrive_questions s m p j =
      (NotHeld, holds p (s.place j) || (not (awaits p (s.place j)) && is_some (s.passed p j)))
      ∷ (BookFull, not (holds p (s.place j)) || nat_lt (book s j) (cond (ripe_in s m) s.sizes.places (s.sizes.places - 1))) ∷ []

  module _ (fits : Counts → Bool) where
    abbrev pub own_questions : House B → Call B → List (Question HouseFault)
    own_questions s (Send a j b) =
        (NoHandset, nat_lt a s.sizes.handsets && nat_lt j s.sizes.handsets) ∷ (ToItself, not (a == j))
        ∷ (NotKept, is_kept (s.place a)) ∷ (NoRow, nat_lt s.used s.sizes.rows)
        ∷ fit fits (after_send s (station_of (s.place a)) j) ∷ []
    own_questions s (Arrive m) =
        (NoMessage, nat_lt m s.used) ∷ (NotOnWire, is_wire (s.stage m))
        ∷ arrive_questions s m (heading (s.stage m)) (s.rows m).addressee
    own_questions s (ReadNext j) =
        (NoHandset, nat_lt j s.sizes.handsets) ∷ (NotKept, is_kept (s.place j)) ∷ (NothingUnread, any (s.unread j))
        ∷ fit fits (after_join s (station_of (s.place j)) (s.rows (front 0 (s.unread j))))
        ∷ fit fits (after_read s (station_of (s.place j)) (s.rows (front 0 (s.unread j)))) ∷ []
    own_questions s (Register j n) =
        (NoHandset, nat_lt j s.sizes.handsets) ∷ (NoStation, nat_lt n s.sizes.stations) ∷ (NotKept, is_kept (s.place j))
        ∷ (SameStation, not (n == station_of (s.place j))) ∷ []
    own_questions s (Release p) = (NoStation, nat_lt p s.sizes.stations) ∷ (NoNotice, any (s.notices p)) ∷ []
    own_questions s (Settle j) =
        (NoHandset, nat_lt j s.sizes.handsets) ∷ (NotOnWay, is_on_way (s.place j))
        ∷ fit fits (after_settle s (station_of (s.place j)) j) ∷ []

  -- about the shape, and then about what the tables name and hold
  abbrev pub common : House B → Option HouseFault
  common s = or_next (first_no (shape_questions s.sizes)) (first_no ((Tables, sound s) ∷ []))

  abbrev pub refusal : (Counts → Bool) → House B → Call B → Option HouseFault
  refusal fits s c = or_next (common s) (first_no (own_questions fits s c))
