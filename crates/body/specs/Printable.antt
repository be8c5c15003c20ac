-- The bytes of notes.
--
--   printable    every byte is from 32 to 126
--   note_lawful  the bytes that a note accepts: at most 24, all printable
use Rattle.std.specs.Prelude.{ℕ, Bool, ◌&&◌, List, length, nat_le}
use Rattle.std.specs.List.{list_all}

abbrev pub printable : List ℕ → Bool
printable = list_all (λ b. nat_le 32 b && nat_le b 126)

abbrev pub note_lawful : List ℕ → Bool
note_lawful bs = nat_le (length bs) 24 && printable bs
