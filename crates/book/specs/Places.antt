-- The places of one row in a table where each row has the same number of places, its width.
--
--   in_table   the row's places are all there
--   row_start  where they begin
--   row_part   the places
--   with_part  the table with the row's places replaced
--   room_in    one more fits behind the first `len` of them
--   put_in     the table with an element put there
--   taken      what stands at a position of the first `len` of them, or none
--   take_in    the table with what stands at a position of the first `len` taken out, closed up
--   left_in    how many stand there after that
use Rattle.std.specs.Prelude.{ℕ, ◌+◌, ◌-◌, ◌*◌, min, Bool, cond, ◌&&◌, List, ◌++◌, length, take, drop, None, Option, nat_le, nat_lt, slice_set}
use Rattle.std.specs.List.{slice_get}
use Rattle.queue.specs.Standing.{standing, without_at, with_front}

abbrev pub row_start : ℕ → ℕ → ℕ
row_start row width = row * width

module _ {X : Type 0} where
  abbrev pub in_table : ℕ → ℕ → List X → Bool
  in_table row width xs = nat_le (row_start row width + width) (length xs)

  abbrev pub row_part : ℕ → ℕ → List X → List X
  row_part row width xs = take width (drop (row_start row width) xs)

  abbrev pub with_part : ℕ → ℕ → List X → List X → List X
  with_part row width ys xs = take (row_start row width) xs ++ (ys ++ drop (row_start row width + width) xs)

  abbrev pub room_in : ℕ → ℕ → ℕ → List X → Bool
  room_in row width len xs = in_table row width xs && nat_lt len width

  abbrev pub put_in : ℕ → ℕ → ℕ → X → List X → List X
  put_in row width len x xs = cond (room_in row width len xs) (slice_set xs (row_start row width + len) x) xs

  abbrev pub taken : ℕ → ℕ → ℕ → ℕ → List X → Option X
  taken row width len at xs = cond (in_table row width xs) (slice_get (standing len (row_part row width xs)) at) None

  abbrev pub take_in : ℕ → ℕ → ℕ → ℕ → List X → List X
  take_in row width len at xs =
      cond (in_table row width xs)
      (with_part row width (with_front (without_at (standing len (row_part row width xs)) at) (row_part row width xs)) xs)
      xs

  abbrev pub left_in : ℕ → ℕ → ℕ → ℕ → List X → ℕ
  left_in row width len at xs = cond (in_table row width xs && nat_lt at (min len width)) (min len width - 1) len
