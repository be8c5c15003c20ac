-- What the tables say after one of them is changed: the house with one column changed.
use Rattle.std.proofs.Common.{◌≡◌, ℕ, suc, ◌<◌, List, [], length, get_or, set, Some, None, Option, refl, ap, ◌∙◌, subst, add-one, arith}
use mathlib.Core.Path.{fun_ext}
use Rattle.std.proofs.lemmas.List.{get_or-set_same, get_or-set_other}
use Rattle.std.proofs.lemmas.Grind.{common_steps}
use Rattle.tally.specs.Counts.{Counts, none, raised}
use Rattle.rules.specs.declared.place.Place.{Place}
use Rattle.rules.specs.declared.place.Place.TheVariants.{Kept}
use Rattle.rules.specs.declared.place.Stage.{Stage}
use Rattle.rules.specs.declared.place.Stage.TheVariants.{Wire}
use Rattle.rules.specs.declared.place.Notice.{Notice}
use Rattle.rules.specs.Functions.{updated}
use Rattle.rules.specs.House.{Row}
use Rattle.rules.specs.Sound.{on}
use Rattle.rules.specs.Steps.{notice}
use Rattle.rules.specs.Changes.{with_counts, with_notices, with_passed, with_place, with_handed, with_carried, with_unread, with_back, with_rows, with_stage}
use Rattle.tables.specs.declared.rows.StationRow.{StationRow}
use Rattle.tables.specs.declared.rows.HandsetRow.{HandsetRow}
use Rattle.tables.specs.declared.rows.RollRow.{RollRow}
use Rattle.tables.specs.Columns.{column, held, modify}
use Rattle.tables.specs.View.{Whole, viewed, sizes_of, counts_of, notice_lengths, passed_of, places_of, handed_of, carried_of, unread_lengths, back_lengths, rows_of, stages_of, row_of, no_row}
use Rattle.tables.proofs.Changing.{column_mod, column_to, column_same, column_read, set_modify, length_modify, updated_from, updated_same, updated_other}
use Rattle.house.proofs.Held.{Became}
use Rattle.house.proofs.Rewriting.{moved, carrying, handing, unread_as, back_as, tallied, passing, noticing, staged}

-- an entry of an array
entry_set : {Y : Type 0} (ys : List Y) (j : ℕ) (v d : Y) → j < length ys → (λ (k : ℕ). get_or (set ys j v) k d) ≡ updated (λ k. get_or ys k d) j v
entry_set ys j v d l = updated_from (λ k. get_or ys k d) (λ k. get_or (set ys j v) k d) j v (get_or-set_same ys j v d l) (λ k ne. get_or-set_other ys j k v d ne)

-- one more at an entry of an array in a column
one_more : (col : ℕ → List ℕ) (i j : ℕ) → i < length (col j) → (a b : ℕ) →
    get_or (updated col j (set (col j) i (suc (get_or (col j) i 0))) b) a 0
    ≡ raised (λ q. get_or (col q.handset) q.station 0) (on i j) (suc (get_or (col j) i 0)) (on a b)
one_more col i j inside a b = grind (arith, common_steps)

module _ {T : Type 0} where
  passed_same : (g : StationRow T → StationRow T) → ((x : StationRow T) → (g x).passed ≡ x.passed) → (xs : List (StationRow T)) (p : ℕ) →
      ◌≡◌ {A = ℕ → ℕ → Option ℕ} (passed_of (modify xs p g)) (passed_of xs)
  passed_same g e xs p = λ i q k. get_or (column_same (λ x. x.passed) [] g e xs p i q) k None

  handed_same : (g : HandsetRow T → HandsetRow T) → ((x : HandsetRow T) → (g x).handed ≡ x.handed) → (xs : List (HandsetRow T)) (j : ℕ) →
      ◌≡◌ {A = Counts} (handed_of (modify xs j g)) (handed_of xs)
  handed_same g e xs j = λ i q. get_or (column_same (λ x. x.handed) [] g e xs j i q.handset) q.station 0

  passed_on : (xs : List (StationRow T)) (p j n : ℕ) → p < length xs → j < length (column (λ x. x.passed) [] xs p) →
      passed_of (modify xs p (passing j n)) ≡ updated (passed_of xs) p (updated (passed_of xs p) j (Some n))
  passed_on xs p j n there inside =
      let c = column_mod (λ x. x.passed) [] (passing j n) (λ ys. set ys j (Some n)) (λ x. refl) xs p there in
      updated_from (passed_of xs) (passed_of (modify xs p (passing j n))) p (updated (passed_of xs p) j (Some n))
      ((λ i k. get_or ((ap (λ (f : ℕ → List (Option ℕ)). f p) c ∙ updated_same (column (λ x. x.passed) [] xs) p _) i) k None)
      ∙ entry_set (column (λ x. x.passed) [] xs p) j (Some n) None inside)
      (λ q ne. λ i k. get_or ((ap (λ (f : ℕ → List (Option ℕ)). f q) c ∙ updated_other (column (λ x. x.passed) [] xs) p _ q ne) i) k None)

  one_more_handed : (xs : List (HandsetRow T)) (i j : ℕ) → j < length xs → i < length (column (λ x. x.handed) [] xs j) →
      ◌≡◌ {A = Counts} (handed_of (modify xs j (handing i))) (raised (handed_of xs) (on i j) (suc (handed_of xs (on i j))))
  one_more_handed xs i j there inside = fun_ext (λ q.
      ap (λ (f : ℕ → List ℕ). get_or (f q.handset) q.station 0)
      (column_mod (λ x. x.handed) [] (handing i) (λ ys. set ys i (suc (get_or ys i 0))) (λ x. ap (set x.handed i) (add-one (get_or x.handed i 0))) xs j there)
      ∙ one_more (column (λ x. x.handed) [] xs) i j inside q.station q.handset)

module _ {T B : Type 0} (counts : T → Counts) (w : Whole T B) where
  -- the tables with other handset rows, station rows, or messages
  abbrev pub with_handsets : List (HandsetRow T) → Whole T B
  with_handsets hs = record w { handsets = hs }

  abbrev pub with_stations : List (StationRow T) → Whole T B
  with_stations ss = record w { stations = ss }

  abbrev pub with_roll : List (RollRow T B) → Whole T B
  with_roll rs = record w { roll = rs }

  -- another table of unread places with other handset rows, of back places with other handset rows, of notices with other station rows
  abbrev pub with_unread_places : List ℕ → List (HandsetRow T) → Whole T B
  with_unread_places us hs = record w { handsets = hs; unread = us }

  abbrev pub with_back_places : List ℕ → List (HandsetRow T) → Whole T B
  with_back_places bs hs = record w { handsets = hs; back = bs }

  abbrev pub with_notice_places : List Notice → List (StationRow T) → Whole T B
  with_notice_places ns ss = record w { stations = ss; notices = ns }

  -- the columns of handset rows that a change of one row leaves
  module _ (j : ℕ) (g : HandsetRow T → HandsetRow T) where
    abbrev hs : List (HandsetRow T)
    hs = modify w.handsets j g

    -- the row is written where it stands
    abbrev pub new_handsets : HandsetRow T → List (HandsetRow T)
    new_handsets x = set w.handsets j (g (get_or w.handsets j x))

    handsets_changed : (x : HandsetRow T) (us bs : List ℕ) (P : ℕ → Place) (Hd : Counts) (C : ℕ → Counts) (U K : ℕ → ℕ) →
        length us ≡ length w.unread → length bs ≡ length w.back →
        places_of hs ≡ P → ◌≡◌ {A = Counts} (handed_of hs) Hd → carried_of counts hs ≡ C → unread_lengths hs ≡ U → back_lengths hs ≡ K →
        viewed counts (record w { handsets = new_handsets x; unread = us; back = bs })
        ≡ record (viewed counts w) { place = P; handed = Hd; carried = C; unread = held 0 w.head.numbers.places U us; back = held 0 w.head.numbers.places K bs }
    handsets_changed x us bs P Hd C U K lu lb p h c u k = ap (λ rows. viewed counts (record w { handsets = rows; unread = us; back = bs })) (set_modify w.handsets j g x) ∙ (λ i. record (viewed counts w) {
      sizes = record (sizes_of w) { lengths = record (sizes_of w).lengths { handsets = length_modify w.handsets j g i; unread = lu i; back = lb i } };
      place = p i;
      handed = h i;
      carried = c i;
      unread = held 0 w.head.numbers.places (u i) us;
      back = held 0 w.head.numbers.places (k i) bs;
    })

    places_same : ((x : HandsetRow T) → (g x).place ≡ x.place) → places_of hs ≡ places_of w.handsets
    places_same e = column_same (λ x. x.place) (Kept 0) g e w.handsets j

    carried_same : ((x : HandsetRow T) → (g x).carried ≡ x.carried) → carried_of counts hs ≡ carried_of counts w.handsets
    carried_same e = column_same (λ x. counts x.carried) none g (λ x. ap counts (e x)) w.handsets j

    unread_same : ((x : HandsetRow T) → (g x).unread ≡ x.unread) → unread_lengths hs ≡ unread_lengths w.handsets
    unread_same e = column_same (λ x. x.unread) 0 g e w.handsets j

    back_same : ((x : HandsetRow T) → (g x).back ≡ x.back) → back_lengths hs ≡ back_lengths w.handsets
    back_same e = column_same (λ x. x.back) 0 g e w.handsets j

  module _ (j : ℕ) (there : j < length w.handsets) where
    pub place_view : (x : HandsetRow T) (p : Place) → viewed counts (with_handsets (new_handsets j (moved p) x)) ≡ with_place (updated (viewed counts w).place j p) (viewed counts w)
    place_view x p = handsets_changed j (moved p) x w.unread w.back _ _ _ _ _ refl refl
        (column_to (λ x. x.place) (Kept 0) (moved p) p (λ x. refl) w.handsets j there)
        (handed_same (moved p) (λ x. refl) w.handsets j) (carried_same j (moved p) (λ x. refl))
        (unread_same j (moved p) (λ x. refl)) (back_same j (moved p) (λ x. refl))

    pub carried_view : (x : HandsetRow T) (t : T) → viewed counts (with_handsets (new_handsets j (carrying t) x)) ≡ with_carried (updated (viewed counts w).carried j (counts t)) (viewed counts w)
    carried_view x t = handsets_changed j (carrying t) x w.unread w.back _ _ _ _ _ refl refl
        (places_same j (carrying t) (λ x. refl)) (handed_same (carrying t) (λ x. refl) w.handsets j)
        (column_to (λ x. counts x.carried) none (carrying t) (counts t) (λ x. refl) w.handsets j there)
        (unread_same j (carrying t) (λ x. refl)) (back_same j (carrying t) (λ x. refl))

    -- one more is handed from station i, for which the row has a count
    pub handed_view : (x : HandsetRow T) (i : ℕ) → i < length (get_or w.handsets j x).handed →
        viewed counts (with_handsets (new_handsets j (handing i) x))
        ≡ with_handed (raised (viewed counts w).handed (on i j) (suc ((viewed counts w).handed (on i j)))) (viewed counts w)
    handed_view x i inside = handsets_changed j (handing i) x w.unread w.back _ _ _ _ _ refl refl
        (places_same j (handing i) (λ x. refl)) (one_more_handed w.handsets i j there (subst (λ l. i < length l) (column_read (λ y. y.handed) [] w.handsets j x there) inside)) (carried_same j (handing i) (λ x. refl))
        (unread_same j (handing i) (λ x. refl)) (back_same j (handing i) (λ x. refl))

    -- the handset's unread list is another, with its length
    pub unread_view : (x : HandsetRow T) (n : ℕ) (xs l : List ℕ) → Became 0 j w.head.numbers.places w.unread (unread_lengths w.handsets) n xs l →
        viewed counts (with_unread_places xs (new_handsets j (unread_as n) x)) ≡ with_unread (updated (viewed counts w).unread j l) (viewed counts w)
    unread_view x n xs l after =
        handsets_changed j (unread_as n) x xs w.back _ _ _ _ _ after.long refl
        (places_same j (unread_as n) (λ x. refl)) (handed_same (unread_as n) (λ x. refl) w.handsets j) (carried_same j (unread_as n) (λ x. refl))
        (column_to (λ x. x.unread) 0 (unread_as n) n (λ x. refl) w.handsets j there) (back_same j (unread_as n) (λ x. refl))
        ∙ (λ i. with_unread (after.is i) (viewed counts w))

    -- its back list likewise
    pub back_view : (x : HandsetRow T) (n : ℕ) (xs l : List ℕ) → Became 0 j w.head.numbers.places w.back (back_lengths w.handsets) n xs l →
        viewed counts (with_back_places xs (new_handsets j (back_as n) x)) ≡ with_back (updated (viewed counts w).back j l) (viewed counts w)
    back_view x n xs l after =
        handsets_changed j (back_as n) x w.unread xs _ _ _ _ _ refl after.long
        (places_same j (back_as n) (λ x. refl)) (handed_same (back_as n) (λ x. refl) w.handsets j) (carried_same j (back_as n) (λ x. refl))
        (unread_same j (back_as n) (λ x. refl)) (column_to (λ x. x.back) 0 (back_as n) n (λ x. refl) w.handsets j there)
        ∙ (λ i. with_back (after.is i) (viewed counts w))

  -- the columns of station rows
  module _ (p : ℕ) (g : StationRow T → StationRow T) where
    abbrev ss : List (StationRow T)
    ss = modify w.stations p g

    abbrev pub new_stations : StationRow T → List (StationRow T)
    new_stations x = set w.stations p (g (get_or w.stations p x))

    stations_changed : (x : StationRow T) (ns : List Notice) (C : ℕ → Counts) (P : ℕ → ℕ → Option ℕ) (N : ℕ → ℕ) → length ns ≡ length w.notices →
        counts_of counts ss ≡ C → ◌≡◌ {A = ℕ → ℕ → Option ℕ} (passed_of ss) P → notice_lengths ss ≡ N →
        viewed counts (with_notice_places ns (new_stations x))
        ≡ record (viewed counts w) { counts = C; notices = held (notice 0 0) w.head.numbers.handsets N ns; passed = P }
    stations_changed x ns C P N ln c q n = ap (λ rows. viewed counts (with_notice_places ns rows)) (set_modify w.stations p g x) ∙ (λ i. record (viewed counts w) {
      sizes = record (sizes_of w) { lengths = record (sizes_of w).lengths { stations = length_modify w.stations p g i; notices = ln i } };
      counts = c i;
      notices = held (notice 0 0) w.head.numbers.handsets (n i) ns;
      passed = q i;
    })

    counts_same : ((x : StationRow T) → (g x).tally ≡ x.tally) → counts_of counts ss ≡ counts_of counts w.stations
    counts_same e = column_same (λ x. counts x.tally) none g (λ x. ap counts (e x)) w.stations p

    notices_same : ((x : StationRow T) → (g x).notices ≡ x.notices) → notice_lengths ss ≡ notice_lengths w.stations
    notices_same e = column_same (λ x. x.notices) 0 g e w.stations p

  module _ (p : ℕ) (there : p < length w.stations) where
    pub tally_view : (x : StationRow T) (t : T) → viewed counts (with_stations (new_stations p (tallied t) x)) ≡ with_counts (updated (viewed counts w).counts p (counts t)) (viewed counts w)
    tally_view x t = stations_changed p (tallied t) x w.notices _ _ _ refl
        (column_to (λ x. counts x.tally) none (tallied t) (counts t) (λ x. refl) w.stations p there)
        (passed_same (tallied t) (λ x. refl) w.stations p) (notices_same p (tallied t) (λ x. refl))

    -- handset j, for which the row has an entry, is passed on to station n
    pub passed_view : (x : StationRow T) (j n : ℕ) → j < length (get_or w.stations p x).passed →
        viewed counts (with_stations (new_stations p (passing j n) x))
        ≡ with_passed (updated (viewed counts w).passed p (updated ((viewed counts w).passed p) j (Some n))) (viewed counts w)
    passed_view x j n inside = stations_changed p (passing j n) x w.notices _ _ _ refl
        (counts_same p (passing j n) (λ x. refl)) (passed_on w.stations p j n there (subst (λ l. j < length l) (column_read (λ y. y.passed) [] w.stations p x there) inside)) (notices_same p (passing j n) (λ x. refl))

    -- the station's notices are others, with their number
    pub notices_view : (x : StationRow T) (n : ℕ) (xs l : List Notice) → Became (notice 0 0) p w.head.numbers.handsets w.notices (notice_lengths w.stations) n xs l →
        viewed counts (with_notice_places xs (new_stations p (noticing n) x)) ≡ with_notices (updated (viewed counts w).notices p l) (viewed counts w)
    notices_view x n xs l after =
        stations_changed p (noticing n) x xs _ _ _ after.long
        (counts_same p (noticing n) (λ x. refl)) (passed_same (noticing n) (λ x. refl) w.stations p)
        (column_to (λ x. x.notices) 0 (noticing n) n (λ x. refl) w.stations p there)
        ∙ (λ i. with_notices (after.is i) (viewed counts w))

  -- the columns of the roll
  module _ (m : ℕ) (there : m < length w.roll) where
    roll_changed : (g : RollRow T B → RollRow T B) (x : RollRow T B) (R : ℕ → Row B) (S : ℕ → Stage) → rows_of counts (modify w.roll m g) ≡ R → stages_of (modify w.roll m g) ≡ S →
        viewed counts (with_roll (set w.roll m (g (get_or w.roll m x)))) ≡ with_rows R (with_stage S (viewed counts w))
    roll_changed g x R S r s = ap (λ rows. viewed counts (with_roll rows)) (set_modify w.roll m g x) ∙ (λ i. record (viewed counts w) {
      sizes = record (sizes_of w) { lengths = record (sizes_of w).lengths { roll = length_modify w.roll m g i } };
      rows = r i;
      stage = s i;
    })

    pub stage_view : (x : RollRow T B) (s : Stage) → viewed counts (with_roll (set w.roll m (staged s (get_or w.roll m x)))) ≡ with_stage (updated (viewed counts w).stage m s) (viewed counts w)
    stage_view x s = roll_changed (staged s) x _ _ (column_same (row_of counts) no_row (staged s) (λ x. refl) w.roll m)
        (column_to (λ x. x.stage) (Wire 0) (staged s) s (λ x. refl) w.roll m there)

    -- another row
    pub row_view : (x : RollRow T B) → viewed counts (with_roll (set w.roll m x))
        ≡ with_rows (updated (viewed counts w).rows m (row_of counts x)) (with_stage (updated (viewed counts w).stage m x.stage) (viewed counts w))
    row_view x = roll_changed (λ _. x) x _ _ (column_to (row_of counts) no_row (λ _. x) (row_of counts x) (λ _. refl) w.roll m there)
        (column_to (λ y. y.stage) (Wire 0) (λ _. x) x.stage (λ _. refl) w.roll m there)
