-- Every table of a house names only stations, handsets and messages of that house. Opening a house sees to that.
use Rattle.std.proofs.Common.{◌≡◌, ℕ, zero, suc, ◌<◌, ◌≤◌, Bool, true, not, ◌&&◌, eqb, ltb, leb, List, [], ◌∷◌, length, get_or, None, refl, not-suc-le-zero, arith}
use Rattle.std.proofs.lemmas.Bool.{and_parts, ltb-true, lt-ltb, leb-true}
use Rattle.std.specs.List.{list_all}
use Rattle.questions.specs.Asking.{first_no}
use Rattle.questions.proofs.Asked.{AllYes, all_yes}
use Rattle.rules.specs.declared.place.Place.{Place}
use Rattle.rules.specs.declared.place.Place.TheVariants.{Kept, Leaving, OnWay}
use Rattle.rules.specs.declared.fault.HouseFault.TheVariants.{StartList}
use Rattle.rules.specs.Places.{station_of}
use Rattle.rules.specs.House.{Row, Sizes, House}
use Rattle.rules.specs.Sound.{place_in, stage_in, passed_in, notice_in}
use Rattle.rules.specs.Asking.{shape_questions}
use Rattle.rules.specs.Opening.{start_right, start_station, opening_refusal, opened}
use Rattle.order.proofs.Granted.{both_none}

pub station_in : (stations : ℕ) (pl : Place) → place_in stations pl ≡ true → station_of pl < stations
station_in stations (Kept s) e = ltb-true _ _ e
station_in stations (Leaving p n) e = ltb-true _ _ (and_parts (ltb p stations) (ltb n stations) e).0
station_in stations (OnWay p n) e = ltb-true _ _ (and_parts (ltb p stations) (ltb n stations) e).1

module _ {B : Type 0} where
  -- the stations and handsets that a row names are in the house, and sender and addressee differ
  abbrev pub row_in : Sizes → Row B → Bool
  row_in z r = ltb r.station z.stations && ltb r.sender z.handsets && ltb r.addressee z.handsets && not (eqb r.addressee r.sender)

  -- shape_right  the numbers of the house are in range, and its tables are as long as they say
  -- used_in      no more rows are in use than there are
  -- rows_in, stages_in, places_in, passed_on, notices_in   the stations and handsets that are named by rows in use, by stages and
  --              places, by what a station knows of handsets that it passed on, and by notices are in the house
  pub record InHouse (s : House B) : Type 0 where
    pub shape_right : AllYes (shape_questions s.sizes)
    pub used_in : s.used ≤ s.sizes.rows
    pub rows_in : (m : ℕ) → m < s.used → row_in s.sizes (s.rows m) ≡ true
    pub stages_in : (m : ℕ) → m < s.used → stage_in s.sizes.stations (s.stage m) ≡ true
    pub places_in : (j : ℕ) → j < s.sizes.handsets → place_in s.sizes.stations (s.place j) ≡ true
    pub passed_on : (p j : ℕ) → passed_in s.sizes.stations (s.passed p j) ≡ true
    pub notices_in : (p : ℕ) → list_all (notice_in s.sizes.handsets s.sizes.stations) (s.notices p) ≡ true

-- the stations that a right start list names
listed_in : (stations : ℕ) (l : List ℕ) → list_all (λ p. ltb p stations) l ≡ true → 0 < stations → (j : ℕ) → get_or l j 0 < stations
listed_in stations [] e z j = z
listed_in stations (x ∷ l) e z zero = ltb-true _ _ (and_parts _ _ e).0
listed_in stations (x ∷ l) e z (suc j) = listed_in stations l (and_parts _ _ e).1 z j

start_in : (z : Sizes) (l : List ℕ) → start_right z l ≡ true → 0 < z.stations → (j : ℕ) → start_station l j < z.stations
start_in z [] e h j = h
start_in z (x ∷ l) e h j = listed_in z.stations (x ∷ l) (and_parts (eqb (length (x ∷ l)) z.handsets) (list_all (λ p. ltb p z.stations) (x ∷ l)) e).1 h j

pub in_opened : {B : Type 0} (s : House B) (z : Sizes) (l : List ℕ) → opening_refusal z l ≡ None → InHouse (opened z l s)
in_opened s z l e =
    let p = both_none (first_no (shape_questions z)) (first_no ((StartList, start_right z l) ∷ [])) e in
    let shape = all_yes (shape_questions z) p.0 in
    let right = (all_yes ((StartList, start_right z l) ∷ []) p.1).0 in
    let one = leb-true 1 z.stations (and_parts (leb 1 z.stations) (leb z.stations 8) shape.0).0 in
    record {
      shape_right = shape;
      used_in = omega arith;
      rows_in = λ m l. absurd (not-suc-le-zero l);
      stages_in = λ m l. absurd (not-suc-le-zero l);
      places_in = λ j _. lt-ltb _ _ (start_in z l right one j);
      passed_on = λ p j. refl;
      notices_in = λ p. refl;
    }
