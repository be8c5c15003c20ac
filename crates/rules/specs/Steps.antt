-- What a call answers and what it leaves.
--
--   Answer        what a house answers to a call: what a granted call tells, or why it is denied
--   hand          a message is handed: it goes to the end of its addressee's unread list, and one more is handed from its
--                 sending station; the back list is given
--   hand_ripe     the first ripe message of a back list is handed, and so on until none is ripe; how many, and the house
--   stand_back    a message goes to the end of its addressee's back list
--   send_on       a message now heads for another station
--   send_from, read_at, register_at, release_from, settle_at   what a granted call leaves
--   grant         the answer of a granted call, and the house that it leaves
--   step          the answer of any call, and the house that it leaves: a denied call leaves the house as it was
use Rattle.std.specs.Prelude.{ℕ, zero, suc, Bool, cond, List, [], ◌∷◌, ◌++◌, length, Some, None, Option, Ok, Err, Result, unwrap_or, find}
use Rattle.std.specs.Option.{option_map_or}
use Rattle.tally.specs.Counts.{Counts, none, raised}
use Rattle.rules.specs.declared.place.Place.TheVariants.{Kept, Leaving, OnWay}
use Rattle.rules.specs.declared.place.Stage.TheVariants.{Wire, Back, Unread, Read}
use Rattle.rules.specs.declared.place.Notice.{Notice}
use Rattle.rules.specs.declared.fault.HouseFault.{HouseFault}
use Rattle.rules.specs.declared.fault.HouseFault.TheVariants.{Tables}
use Rattle.rules.specs.declared.call.Call.{Call}
use Rattle.rules.specs.declared.call.Call.TheVariants.{Send, Arrive, ReadNext, Register, Release, Settle}
use Rattle.rules.specs.declared.call.Arrived.TheVariants.{Handed, SentOn}
use Rattle.rules.specs.declared.call.Granted.{Granted}
use Rattle.rules.specs.declared.call.Granted.TheVariants.{Named, Arrived, Got, Registered, Released, Settled}
use Rattle.rules.specs.Functions.{updated, without, front, rest}
use Rattle.rules.specs.Places.{station_of, holds, heading}
use Rattle.rules.specs.House.{Row, House}
use Rattle.rules.specs.Changes.{with_used, with_counts, with_notices, with_passed, with_place, with_handed, with_carried, with_unread, with_back, with_rows, with_stage}
use Rattle.rules.specs.Asking.{ripe, ripe_in, pair_of, after_send, after_read, after_settle, refusal}

-- a notice of a handset that goes to a station
abbrev pub notice : ℕ → ℕ → Notice
notice j n = record { handset = j; station = n }

abbrev pub Answer : Type 0 → Type 0
Answer B = Result (Granted B) HouseFault

module _ {B : Type 0} where
  -- the message x, whose row is r; its addressee's back list is then l
  unfoldable pub hand : Row B → ℕ → List ℕ → House B → House B
  hand r x l s =
      with_handed (raised s.handed (pair_of r) (suc (s.handed (pair_of r))))
      (with_unread (updated s.unread r.addressee (s.unread r.addressee ++ (x ∷ [])))
      (with_back (updated s.back r.addressee l)
      (with_stage (updated s.stage x Unread) s)))

  abbrev pub one_more : ℕ × House B → ℕ × House B
  one_more r = (suc r.0, r.1)

  -- from the back list of handset j, at most n messages
  unfoldable pub hand_ripe : ℕ → ℕ → House B → ℕ × House B
  hand_ripe zero j s = (0, s)
  hand_ripe (suc n) j s =
      option_map_or (λ x. one_more (hand_ripe n j (hand (s.rows x) x (without x (s.back j)) s))) (find (ripe_in s) (s.back j)) (0, s)

  unfoldable pub stand_back : Row B → ℕ → House B → House B
  stand_back r x s =
      with_back (updated s.back r.addressee (s.back r.addressee ++ (x ∷ []))) (with_stage (updated s.stage x Back) s)

  unfoldable pub send_on : ℕ → ℕ → House B → House B
  send_on n x s = with_stage (updated s.stage x (Wire n)) s

  -- the row of a message from handset a, which station l keeps, to handset j
  abbrev pub new_row : House B → ℕ → ℕ → ℕ → B → Row B
  new_row s l a j b = record { station = l; sender = a; addressee = j; tag = s.counts l; body = Some b }

  unfoldable pub send_from : ℕ → ℕ → ℕ → B → House B → House B
  send_from l a j b s =
      with_used (suc s.used)
      (with_counts (updated s.counts l (after_send s l j))
      (with_rows (updated s.rows s.used (new_row s l a j b))
      (with_stage (updated s.stage s.used (Wire (station_of (s.place j)))) s)))

  -- the message x, whose row is r, by handset j at station l
  unfoldable pub read_at : ℕ → ℕ → ℕ → Row B → House B → House B
  read_at l j x r s =
      with_counts (updated s.counts l (after_read s l r))
      (with_unread (updated s.unread j (rest (s.unread j)))
      (with_stage (updated s.stage x Read) s))

  unfoldable pub register_at : ℕ → ℕ → ℕ → House B → House B
  register_at p j n s =
      with_notices (updated s.notices p (s.notices p ++ (notice j n ∷ [])))
      (with_place (updated s.place j (Leaving p n)) s)

  unfoldable pub release_from : ℕ → ℕ → ℕ → House B → House B
  release_from p j n s =
      with_notices (updated s.notices p (rest (s.notices p)))
      (with_passed (updated s.passed p (updated (s.passed p) j (Some n)))
      (with_place (updated s.place j (OnWay p n))
      (with_carried (updated s.carried j (s.counts p)) s)))

  unfoldable pub settle_at : ℕ → ℕ → House B → House B
  settle_at n j s =
      with_counts (updated s.counts n (after_settle s n j))
      (with_place (updated s.place j (Kept n))
      (with_carried (updated s.carried j none) s))

  -- the answer of a reading: a message in use has a body
  abbrev pub got : ℕ → Option B → Answer B
  got x (Some b) = Ok (Got x b)
  got x None = Err Tables

  -- the message x, whose row is r, is handed, and then what that makes ripe
  abbrev pub hand_all : Row B → ℕ → House B → ℕ × House B
  hand_all r x s = one_more (hand_ripe (length (s.back r.addressee)) r.addressee (hand r x (s.back r.addressee) s))

  -- the message x, whose row is r, arrives at station p
  abbrev pub arrive_at : ℕ → Row B → ℕ → House B → Answer B × House B
  arrive_at p r x s =
      cond (holds p (s.place r.addressee))
      (cond (ripe s.sizes.stations s.handed r)
      (Ok (Arrived (Handed (hand_all r x s).0)), (hand_all r x s).1)
      (Ok (Arrived (Handed 0)), stand_back r x s))
      (Ok (Arrived (SentOn (unwrap_or (s.passed p r.addressee) 0))), send_on (unwrap_or (s.passed p r.addressee) 0) x s)

  abbrev pub grant : House B → Call B → Answer B × House B
  grant s (Send a j b) = (Ok (Named s.used), send_from (station_of (s.place a)) a j b s)
  grant s (Arrive m) = arrive_at (heading (s.stage m)) (s.rows m) m s
  grant s (ReadNext j) = (
    got (front 0 (s.unread j)) (s.rows (front 0 (s.unread j))).body,
    read_at (station_of (s.place j)) j (front 0 (s.unread j)) (s.rows (front 0 (s.unread j))) s,
  )
  grant s (Register j n) = (Ok (Registered (station_of (s.place j))), register_at (station_of (s.place j)) j n s)
  grant s (Release p) = (
    Ok (Released (front (notice 0 0) (s.notices p)).handset (front (notice 0 0) (s.notices p)).station),
    release_from p (front (notice 0 0) (s.notices p)).handset (front (notice 0 0) (s.notices p)).station s,
  )
  grant s (Settle j) = (Ok (Settled (station_of (s.place j))), settle_at (station_of (s.place j)) j s)

  -- a refusal leaves the house as it was; without one the call is granted
  abbrev pub decided : Option HouseFault → House B → Answer B × House B → Answer B × House B
  decided (Some e) s granted = (Err e, s)
  decided None s granted = granted

  module _ (fits : Counts → Bool) where
    abbrev pub step : House B → Call B → Answer B × House B
    step s c = decided (refusal fits s c) s (grant s c)
