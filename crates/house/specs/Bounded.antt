-- Tables whose queues lie within their places.
--
--   Bounded   the numbers and lengths are right, no book holds more than its handset has places, and no station has more
--             notices than there are handsets
--   HasRoom   such tables, with a queue that holds fewer than so many
--   Stands    such tables, with a queue that has one at a position
use Rattle.std.specs.Prelude.{ℕ, ◌<◌, ◌≤◌, List, length}
use Rattle.rules.specs.House.{House}
use Rattle.rules.specs.Sound.{book}
use Rattle.tables.specs.Shape.{Shaped}

pub record Bounded {B : Type 0} (s : House B) : Type 0 where
  pub shaped : Shaped s.sizes
  pub books : (j : ℕ) → book s j ≤ s.sizes.places
  pub notices : (p : ℕ) → length (s.notices p) ≤ s.sizes.handsets

module _ {B X : Type 0} (s : House B) (queue : List X) where
  pub record HasRoom (places : ℕ) : Type 0 where
    pub bounded : Bounded s
    pub room : length queue < places

  pub record Stands (at : ℕ) : Type 0 where
    pub bounded : Bounded s
    pub stands : at < length queue
