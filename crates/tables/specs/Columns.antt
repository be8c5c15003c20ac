-- Tables as lists of rows, read by column.
--
--   column   a column of a table, by row number; a given value past the table's end
--   part     the first places of a row's queue, in a table where each row has so many places; a given value past the end
--   held     the queues of a table of places, by row number, where each row says how many of its places are filled
--   modify   a table with one row changed; a row that it does not have changes nothing
use Rattle.std.specs.Prelude.{ℕ, zero, suc, ◌*◌, List, [], ◌∷◌, ◌++◌, map, take, drop, replicate, slice_index_or}

abbrev pub column : {X Y : Type 0} → (X → Y) → Y → List X → ℕ → Y
column f d xs n = slice_index_or (map f xs) n d

-- the first len of the places from i times q on
abbrev pub part : {X : Type 0} → X → ℕ → ℕ → ℕ → List X → List X
part d i q len xs = take len (drop (i * q) xs ++ replicate len d)

abbrev pub held : {X : Type 0} → X → ℕ → (ℕ → ℕ) → List X → ℕ → List X
held d q lens xs i = part d i q (lens i) xs

abbrev pub modify : {X : Type 0} → List X → ℕ → (X → X) → List X
modify [] i f = []
modify (x ∷ xs) zero f = f x ∷ xs
modify (x ∷ xs) (suc i) f = x ∷ modify xs i f
