-- Notes.
--
--   note_bytes  a note's own bytes
use Rattle.std.specs.Prelude.{ℕ, List}
use Rattle.shortlist.specs.Items.{items}
use Rattle.body.specs.declared.note.Note.{Note}

abbrev pub note_bytes : Note → List ℕ
note_bytes n = items n.text
