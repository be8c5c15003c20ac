-- What a granted call knows of the tables before it changes them.
--
--   Registers, Releases, Settles   of the call of that name
use Rattle.std.specs.Prelude.{◌≡◌, ℕ, ◌<◌, length}
use Rattle.tally.specs.Counts.{Counts}
use Rattle.rules.specs.declared.place.Notice.{Notice}
use Rattle.rules.specs.House.{House}
use Rattle.house.specs.Bounded.{Bounded}

module _ {B : Type 0} where
  -- handset j, which station p keeps, goes to station n
  pub record Registers (s : House B) (j n p : ℕ) : Type 0 where
    pub bounded : Bounded s
    pub handset : j < s.sizes.handsets
    pub station : n < s.sizes.stations
    pub keeper : p < s.sizes.stations
    pub room : length (s.notices p) < s.sizes.handsets

  -- station p lets go the handset of its oldest notice x, with a tally that counts c
  pub record Releases (s : House B) (p : ℕ) (x : Notice) (c : Counts) : Type 0 where
    pub bounded : Bounded s
    pub station : p < s.sizes.stations
    pub stands : 0 < length (s.notices p)
    pub handset : x.handset < s.sizes.handsets
    pub counts : c ≡ s.counts p

  -- handset j arrives at station n
  pub record Settles (s : House B) (j n : ℕ) : Type 0 where
    pub bounded : Bounded s
    pub handset : j < s.sizes.handsets
    pub station : n < s.sizes.stations
