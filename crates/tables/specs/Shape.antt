-- Tables whose numbers are in range and whose lengths are right.
--
--   Shaped   what a yes to the questions about the numbers and lengths says
--   Asked    what a yes to all questions says that every step is put first
use Rattle.std.specs.Prelude.{◌≡◌, ◌*◌, ◌≤◌, true}
use Rattle.rules.specs.House.{Sizes, House}
use Rattle.rules.specs.Sound.{sound}

pub record Shaped (z : Sizes) : Type 0 where
  pub some_stations : 1 ≤ z.stations
  pub few_stations : z.stations ≤ 8
  pub some_handsets : 1 ≤ z.handsets
  pub few_handsets : z.handsets ≤ 32
  pub some_rows : 1 ≤ z.rows
  pub few_rows : z.rows ≤ 4096
  pub some_places : 2 ≤ z.places
  pub few_places : z.places ≤ 64
  pub stations : z.lengths.stations ≡ z.stations
  pub handsets : z.lengths.handsets ≡ z.handsets
  pub roll : z.lengths.roll ≡ z.rows
  pub unread : z.lengths.unread ≡ z.handsets * z.places
  pub back : z.lengths.back ≡ z.handsets * z.places
  pub notices : z.lengths.notices ≡ z.stations * z.handsets

pub record Asked {B : Type 0} (s : House B) : Type 0 where
  pub shaped : Shaped s.sizes
  pub sound : sound s ≡ true
