-- What a message says.
--
--   Content   a message by its meaning: the numbers that it names, its tag's counts and its body's bytes
--   meaning   the content of a message
--   parts     the head, tag and body of a message
use Rattle.std.specs.Prelude.{ℕ, List}
use Rattle.tally.specs.Counts.{Counts}
use Rattle.packet.specs.declared.head.Head.{Head}
use Rattle.packet.specs.declared.message.Message.{Message}

pub record Content : Type 0 where
  pub head : Head
  pub counts : Counts
  pub body : List ℕ

abbrev pub meaning : {T B : Type 0} → (T → Counts) → (B → List ℕ) → Message T B → Content
meaning counts bytes m = record { head = m.head; counts = counts m.tag; body = bytes m.body }

abbrev pub parts : {T B : Type 0} → Message T B → Head × T × B
parts m = (m.head, m.tag, m.body)
