-- Lines that carry a packet: a kind of tally, a kind of body and the packet's bytes in hex digits, after one space each.
--
--   Asked      what a line asks: that the packet be read with a kind of tally and a kind of body
--   asked_of   what the program's record of a line asks
--   line_text  the line that asks it
--   Asks       a line of at most 4,096 bytes asks it
--   reply      what is printed of it
--   Answers    a line is answered with a text: the reply to what it asks, and "bad" where it asks nothing
use Rattle.std.specs.Prelude.{◌≡◌, ℕ, ◌<◌, ◌≤◌, Bool, List, ◌++◌, length, codes}
use Rattle.std.specs.List.{All}
use Rattle.full.specs.Cells.{full_fits}
use Rattle.listed.specs.Entries.{listed_fits}
use Rattle.body.specs.Codes.{code_lawful}
use Rattle.body.specs.Printable.{note_lawful}
use Rattle.tally.specs.Counts.{Counts}
use Rattle.packet.specs.Reading.{reading}
use Rattle.packet_text.specs.declared.line.Asked.{Asked as AskedRecord}
use Rattle.packet_text.specs.declared.line.TallyKind.{TallyKind}
use Rattle.packet_text.specs.declared.line.TallyKind.TheVariants.{Full, Listed}
use Rattle.packet_text.specs.declared.line.BodyKind.{BodyKind}
use Rattle.packet_text.specs.declared.line.BodyKind.TheVariants.{Code, Note}
use Rattle.packet_text.specs.Hex.{hex_text}
use Rattle.packet_text.specs.Printing.{code_text, note_text, outcome_text}

pub record Asked : Type 0 where
  pub tally : TallyKind
  pub body : BodyKind
  pub packet : List ℕ

-- what the program's own record of it says
abbrev pub asked_of : AskedRecord → Asked
asked_of a = record { tally = a.tally; body = a.body; packet = a.packet.now }

abbrev pub tally_word : TallyKind → List ℕ
tally_word Full = codes "full "
tally_word Listed = codes "listed "

abbrev pub body_word : BodyKind → List ℕ
body_word Code = codes "code "
body_word Note = codes "note "

abbrev pub line_text : Asked → List ℕ
line_text a = tally_word a.tally ++ (body_word a.body ++ hex_text a.packet)

pub record Asks (line : List ℕ) (a : Asked) : Type 0 where
  pub is : line ≡ line_text a
  pub bytes : All (λ b. b < 256) a.packet
  pub short : length line ≤ 4096

abbrev pub fits_of : TallyKind → Counts → Bool
fits_of Full = full_fits
fits_of Listed = listed_fits

abbrev pub kind_of : BodyKind → ℕ
kind_of Code = 1
kind_of Note = 2

abbrev pub lawful_of : BodyKind → List ℕ → Bool
lawful_of Code = code_lawful
lawful_of Note = note_lawful

abbrev pub text_of : BodyKind → List ℕ → List ℕ
text_of Code = code_text
text_of Note = note_text

abbrev pub reply : Asked → List ℕ
reply a =
    outcome_text (kind_of a.body) (text_of a.body) (reading (kind_of a.body) (lawful_of a.body) (fits_of a.tally) a.packet)

pub record Answers (line text : List ℕ) : Type 0 where
  pub asked : (a : Asked) → Asks line a → text ≡ reply a
  pub other : ((a : Asked) → Asks line a → ⊥) → text ≡ codes "bad"
