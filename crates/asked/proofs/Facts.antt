-- What a yes to the question about what the tables name and hold says, part by part: of the rows in use, of the
-- handsets, and of the stations.
use Rattle.std.proofs.Common.{◌≡◌, ℕ, ◌<◌, ◌≤◌, Bool, true, false, not, ◌||◌, eqb, ltb, leb, length, get_or, sym, refl, subst, ⊎_elim, arith}
use Rattle.std.proofs.lemmas.Bool.{and_parts, or_cases, leb-true, ltb-true, eqb-true, eqb-false, not-true, both_ways, false≢true}
use Rattle.std.specs.List.{list_all}
use Rattle.std.specs.Option.{is_some, unwrap_or}
use Rattle.rules.specs.declared.place.Place.{Place}
use Rattle.rules.specs.declared.place.Place.TheVariants.{Kept, Leaving, OnWay}
use Rattle.rules.specs.Functions.{all_below, how_many, any, front}
use Rattle.rules.specs.Places.{station_of, is_kept, leaves, heading, is_wire}
use Rattle.rules.specs.House.{House}
use Rattle.rules.specs.Steps.{notice}
use Rattle.rules.specs.Sound.{on, book, place_in, stage_in, passed_in, notice_in, name_in, row_sound, names_sound, handset_sound, station_sound, sound}
use Rattle.asked.proofs.Passes.{below_at, many_less, in_at, in_front}

-- a yes that a no to something else would have spared
unless : (b t : Bool) → (not b || t) ≡ true → b ≡ true → t ≡ true
unless b t e y = ⊎_elim (λ n. absurd (both_ways b (not-true b n) y)) (λ k. k) (or_cases (not b) t e)

-- a kept handset leaves no station
pub kept_stays : (p : ℕ) (x : Place) → is_kept x ≡ true → leaves p x ≡ false
kept_stays p (Kept s) k = refl
kept_stays p (Leaving a b) k = absurd (false≢true k)
kept_stays p (OnWay a b) k = absurd (false≢true k)

module _ {B : Type 0} (s : House B) (e : sound s ≡ true) where
  parts : (leb s.used s.sizes.rows ≡ true) × (all_below (row_sound s) s.used ≡ true) × (all_below (handset_sound s) s.sizes.handsets ≡ true) × (all_below (station_sound s) s.sizes.stations ≡ true)
  unfolding sound
  parts =
      let a = and_parts _ _ e in
      let b = and_parts _ _ a.0 in
      let c = and_parts _ _ b.0 in
      (c.0, c.1, b.1, a.1)

  pub used_within_rows : s.used ≤ s.sizes.rows
  used_within_rows = leb-true _ _ parts.0

  -- a row in use
  module _ (m : ℕ) (l : m < s.used) where
    pub row_is_sound : row_sound s m ≡ true
    row_is_sound = below_at (row_sound s) s.used parts.1 m l

    row_parts : (ltb (s.rows m).station s.sizes.stations ≡ true) × (ltb (s.rows m).sender s.sizes.handsets ≡ true) × (ltb (s.rows m).addressee s.sizes.handsets ≡ true) × (not (eqb (s.rows m).addressee (s.rows m).sender) ≡ true) × (stage_in s.sizes.stations (s.stage m) ≡ true)
    row_parts =
        let a = and_parts _ _ row_is_sound in
        let b = and_parts _ _ a.0 in
        let c = and_parts _ _ b.0 in
        let d = and_parts _ _ c.0 in
        (d.0, d.1, c.1, b.1, a.1)

    pub row_station : (s.rows m).station < s.sizes.stations
    row_station = ltb-true _ _ row_parts.0

    pub row_sender : (s.rows m).sender < s.sizes.handsets
    row_sender = ltb-true _ _ row_parts.1

    pub row_addressee : (s.rows m).addressee < s.sizes.handsets
    row_addressee = ltb-true _ _ row_parts.2

    pub row_handsets_differ : (s.rows m).sender ≡ (s.rows m).addressee → ⊥
    row_handsets_differ same = eqb-false _ _ (not-true _ row_parts.3) (sym same)

    pub row_stage : stage_in s.sizes.stations (s.stage m) ≡ true
    row_stage = row_parts.4

    pub row_heading : is_wire (s.stage m) ≡ true → heading (s.stage m) < s.sizes.stations
    row_heading w = ltb-true _ _ (unless (is_wire (s.stage m)) (ltb (heading (s.stage m)) s.sizes.stations) row_stage w)

  -- a handset
  module _ (j : ℕ) (l : j < s.sizes.handsets) where
    pub handset_is_sound : handset_sound s j ≡ true
    handset_is_sound = below_at (handset_sound s) s.sizes.handsets parts.2 j l

    handset_parts : (place_in s.sizes.stations (s.place j) ≡ true) × (leb (book s j) s.sizes.places ≡ true) × (names_sound s j (s.unread j) ≡ true) × (names_sound s j (s.back j) ≡ true) × (all_below (λ i. leb (s.handed (on i j)) 4096) s.sizes.stations ≡ true)
    handset_parts =
        let a = and_parts _ _ handset_is_sound in
        let b = and_parts _ _ a.0 in
        let c = and_parts _ _ b.0 in
        let d = and_parts _ _ c.0 in
        (d.0, d.1, c.1, b.1, a.1)

    pub handset_place : place_in s.sizes.stations (s.place j) ≡ true
    handset_place = handset_parts.0

    pub handset_kept : (p : ℕ) → s.place j ≡ Kept p → p < s.sizes.stations
    handset_kept p k = ltb-true _ _ (subst (λ x. place_in s.sizes.stations x ≡ true) k handset_place)

    pub handset_leaving : (p n : ℕ) → s.place j ≡ Leaving p n → (p < s.sizes.stations) × (n < s.sizes.stations)
    handset_leaving p n k =
        let both = and_parts _ _ (subst (λ x. place_in s.sizes.stations x ≡ true) k handset_place) in
        (ltb-true _ _ both.0, ltb-true _ _ both.1)

    pub handset_on_way : (p n : ℕ) → s.place j ≡ OnWay p n → (p < s.sizes.stations) × (n < s.sizes.stations)
    handset_on_way p n k =
        let both = and_parts _ _ (subst (λ x. place_in s.sizes.stations x ≡ true) k handset_place) in
        (ltb-true _ _ both.0, ltb-true _ _ both.1)

    -- the station that holds it or to which it goes
    pub handset_station : station_of (s.place j) < s.sizes.stations
    handset_station =
        elim (s.place j) as (λ x. s.place j ≡ x → station_of x < s.sizes.stations) [
          | Kept p ↦ λ k. handset_kept p k
          | Leaving p n ↦ λ k. (handset_leaving p n k).0
          | OnWay p n ↦ λ k. (handset_on_way p n k).1
        ] refl

    pub book_within_places : book s j ≤ s.sizes.places
    book_within_places = leb-true _ _ handset_parts.1

    pub unread_sound : names_sound s j (s.unread j) ≡ true
    unread_sound = handset_parts.2

    pub back_sound : names_sound s j (s.back j) ≡ true
    back_sound = handset_parts.3

    named : (m : ℕ) → name_in s.used j (λ n. (s.rows n).addressee) m ≡ true → (m < s.used) × ((s.rows m).addressee ≡ j)
    named m y = let both = and_parts (ltb m s.used) (eqb (s.rows m).addressee j) y in (ltb-true _ _ both.0, eqb-true _ _ both.1)

    -- each name in the unread list: it is in use, and the message is to this handset
    pub unread_name : (i : ℕ) → i < length (s.unread j) → (get_or (s.unread j) i 0 < s.used) × ((s.rows (get_or (s.unread j) i 0)).addressee ≡ j)
    unread_name i h = named (get_or (s.unread j) i 0) (in_at (name_in s.used j (λ n. (s.rows n).addressee)) (s.unread j) unread_sound i h 0)

    pub unread_front : any (s.unread j) ≡ true → (front 0 (s.unread j) < s.used) × ((s.rows (front 0 (s.unread j))).addressee ≡ j)
    unread_front a = named (front 0 (s.unread j)) (in_front (name_in s.used j (λ n. (s.rows n).addressee)) (s.unread j) unread_sound a 0)

    -- each name in the back list
    pub back_name : (i : ℕ) → i < length (s.back j) → (get_or (s.back j) i 0 < s.used) × ((s.rows (get_or (s.back j) i 0)).addressee ≡ j)
    back_name i h = named (get_or (s.back j) i 0) (in_at (name_in s.used j (λ n. (s.rows n).addressee)) (s.back j) back_sound i h 0)

    pub handed_few : (i : ℕ) → i < s.sizes.stations → s.handed (on i j) ≤ 4096
    handed_few i h = leb-true _ _ (below_at (λ k. leb (s.handed (on k j)) 4096) s.sizes.stations handset_parts.4 i h)

  -- a station
  module _ (p : ℕ) (l : p < s.sizes.stations) where
    pub station_is_sound : station_sound s p ≡ true
    station_is_sound = below_at (station_sound s) s.sizes.stations parts.3 p l

    station_parts : (leb (length (s.notices p)) (how_many (λ j. leaves p (s.place j)) s.sizes.handsets) ≡ true) × (all_below (λ j. passed_in s.sizes.stations (s.passed p j)) s.sizes.handsets ≡ true) × (list_all (notice_in s.sizes.handsets s.sizes.stations) (s.notices p) ≡ true)
    station_parts =
        let a = and_parts _ _ station_is_sound in
        let b = and_parts _ _ a.0 in
        (b.0, b.1, a.1)

    pub notices_within_leaving : length (s.notices p) ≤ how_many (λ j. leaves p (s.place j)) s.sizes.handsets
    notices_within_leaving = leb-true _ _ station_parts.0

    -- while a station keeps some handset, no station has a notice for every handset
    pub notices_have_room : (j : ℕ) → j < s.sizes.handsets → is_kept (s.place j) ≡ true → length (s.notices p) < s.sizes.handsets
    notices_have_room j h k =
        let few = notices_within_leaving in
        let less = many_less (λ i. leaves p (s.place i)) s.sizes.handsets j h (kept_stays p (s.place j) k) in
        omega arith

    pub passed_is_in : (j : ℕ) → j < s.sizes.handsets → passed_in s.sizes.stations (s.passed p j) ≡ true
    passed_is_in j h = below_at (λ k. passed_in s.sizes.stations (s.passed p k)) s.sizes.handsets station_parts.1 j h

    pub passed_station : (j : ℕ) → j < s.sizes.handsets → is_some (s.passed p j) ≡ true → unwrap_or (s.passed p j) 0 < s.sizes.stations
    passed_station j h y =
        ltb-true _ _ (unless (is_some (s.passed p j)) (ltb (unwrap_or (s.passed p j) 0) s.sizes.stations) (passed_is_in j h) y)

    pub notices_in : list_all (notice_in s.sizes.handsets s.sizes.stations) (s.notices p) ≡ true
    notices_in = station_parts.2

    -- each notice names a handset and a station of the house
    pub notice_at : (i : ℕ) → i < length (s.notices p) → ((get_or (s.notices p) i (notice 0 0)).handset < s.sizes.handsets) × ((get_or (s.notices p) i (notice 0 0)).station < s.sizes.stations)
    notice_at i h =
        let both = and_parts _ _ (in_at (notice_in s.sizes.handsets s.sizes.stations) (s.notices p) notices_in i h (notice 0 0)) in
        (ltb-true _ _ both.0, ltb-true _ _ both.1)

    pub notice_front : any (s.notices p) ≡ true → ((front (notice 0 0) (s.notices p)).handset < s.sizes.handsets) × ((front (notice 0 0) (s.notices p)).station < s.sizes.stations)
    notice_front a =
        let both = and_parts _ _ (in_front (notice_in s.sizes.handsets s.sizes.stations) (s.notices p) notices_in a (notice 0 0)) in
        (ltb-true _ _ both.0, ltb-true _ _ both.1)
