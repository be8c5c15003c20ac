-- What a write to the places of one row leaves of the whole table.
use Rattle.std.proofs.Common.{◌≡◌, ℕ, ◌+◌, ◌*◌, ◌<◌, ◌≤◌, ltb, List, ◌++◌, length, take, drop, set, sym, ◌∙◌, arith}
use borrow.Rule.Slice.PartMut.{set_mid_at}
use Rattle.std.proofs.lemmas.List.{length-take-le, length-drop}
use Rattle.std.proofs.lemmas.Bool.{cond-true, lt-ltb, le-leb, and_from}
use Rattle.book.specs.Places.{in_table, row_part, room_in, put_in}

-- one of the row's places, from the places before the row, the row's own, and those behind it
pub put_leaves : {X : Type 0} (row width len : ℕ) (x : X) (xs front last behind : List X) → row * width + width ≤ length xs → len < width →
    front ≡ take (row * width) xs → last ≡ set (row_part row width xs) len x → behind ≡ drop width (drop (row * width) xs) →
    front ++ (last ++ behind) ≡ put_in row width len x xs
put_leaves row width len x xs front last behind there room f l b =
    let long : length (row_part row width xs) ≡ width = length-take-le width (drop (row * width) xs) (simp length-drop (omega arith)) in
    (λ i. f i ++ (l i ++ b i))
    ∙ set_mid_at (row * width) width len xs x (omega arith)
    ∙ sym (cond-true (room_in row width len xs) (set xs (row * width + len) x) xs
    (and_from (in_table row width xs) (ltb len width) (le-leb (row * width + width) (length xs) there) (lt-ltb len width room)))
