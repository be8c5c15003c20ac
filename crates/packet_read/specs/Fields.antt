-- What the reader's methods answer.
--
--   packet     the bytes that a reader works along
--   next_byte  the byte at its place
--   next_word  the 16-bit number of the two bytes from its place on
--   needs      the question whether there are so many bytes from its place on
--   asked      what an answer says to the questions that were put: none where it is granted, else what the refusal tells
--   Takes      the questions decide an answer, and the packet stays; where the answer is granted, the reader has gone so many
--              bytes on, and a fact holds of what it answers
--   placed     a station's answer, with the byte place of a pair in its refusal
--   outcome    an answer by its meaning: the content of the message, or what the refusal tells
use Rattle.std.specs.Prelude.{◌≡◌, ℕ, ◌+◌, List, Some, None, Ok, Err, Option, Result, IfOk}
use Rattle.tally.specs.Counts.{Counts}
use Rattle.questions.specs.Asking.{Question, first_no}
use Rattle.station.specs.declared.fault.StationFault.{StationFault}
use Rattle.packet.specs.declared.fault.Fault.{Fault}
use Rattle.packet.specs.declared.message.Message.{Message}
use Rattle.packet.specs.Messages.{Content, meaning}
use Rattle.packet.specs.Faults.{Told, tells}
use Rattle.packet.specs.Layout.{byte_at, word_at}
use Rattle.packet.specs.Reading.{enough}
use Rattle.packet_read.specs.declared.Misfit.{Misfit}
use Rattle.packet_read.specs.declared.reader.Reader.{Reader}

abbrev pub packet : Reader → List ℕ
packet r = r.packet.now

abbrev pub next_byte : Reader → ℕ
next_byte r = byte_at (packet r) r.place

abbrev pub next_word : Reader → ℕ
next_word r = word_at (packet r) r.place

abbrev pub needs : ℕ → Reader → Question Told
needs size r = enough (r.place + size) (packet r)

abbrev pub asked : {A : Type 0} → Result A Fault → Option Told
asked (Ok a) = None
asked (Err f) = Some (tells f)

pub record Takes {A : Type 0} (before after : Reader) (answer : Result A Fault) (size : ℕ) (questions : List (Question Told)) (holds : A → Type 0) : Type 0 where
  pub same : after.packet ≡ before.packet
  pub asks : asked answer ≡ first_no questions
  pub on : IfOk answer (λ a. after.place ≡ before.place + size)
  pub reads : IfOk answer holds

abbrev pub placed : {A : Type 0} → ℕ → Result A StationFault → Result A Misfit
placed place (Ok a) = Ok a
placed place (Err f) = Err (record { place = place; fault = f })

abbrev pub outcome : {T B : Type 0} → (T → Counts) → (B → List ℕ) → Result (Message T B) Fault → Result Content Told
outcome counts bytes (Ok m) = Ok (meaning counts bytes m)
outcome counts bytes (Err f) = Err (tells f)
