-- A house with one table changed and the others as they are: `with_place f s` is s with the places f, and so on.
use Rattle.std.specs.Prelude.{ℕ, List, Option}
use Rattle.tally.specs.Counts.{Counts}
use Rattle.rules.specs.declared.place.Place.{Place}
use Rattle.rules.specs.declared.place.Stage.{Stage}
use Rattle.rules.specs.declared.place.Notice.{Notice}
use Rattle.rules.specs.House.{Row, House}

module _ {B : Type 0} where
  abbrev pub with_used : ℕ → House B → House B
  with_used f s = record s { used = f }

  abbrev pub with_counts : (ℕ → Counts) → House B → House B
  with_counts f s = record s { counts = f }

  abbrev pub with_notices : (ℕ → List Notice) → House B → House B
  with_notices f s = record s { notices = f }

  abbrev pub with_passed : (ℕ → ℕ → Option ℕ) → House B → House B
  with_passed f s = record s { passed = f }

  abbrev pub with_place : (ℕ → Place) → House B → House B
  with_place f s = record s { place = f }

  abbrev pub with_handed : Counts → House B → House B
  with_handed f s = record s { handed = f }

  abbrev pub with_carried : (ℕ → Counts) → House B → House B
  with_carried f s = record s { carried = f }

  abbrev pub with_unread : (ℕ → List ℕ) → House B → House B
  with_unread f s = record s { unread = f }

  abbrev pub with_back : (ℕ → List ℕ) → House B → House B
  with_back f s = record s { back = f }

  abbrev pub with_rows : (ℕ → Row B) → House B → House B
  with_rows f s = record s { rows = f }

  abbrev pub with_stage : (ℕ → Stage) → House B → House B
  with_stage f s = record s { stage = f }
