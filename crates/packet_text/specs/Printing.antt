-- What is printed of a packet.
--
--   number         a number in decimal, after one space
--   pair_text      a counted pair: its station, handset and count
--   code_text      a call code, by its two bytes
--   note_text      a note, in quotes
--   message_text   a message and some bytes: its head, the number of its pairs, the pairs, its body, and the bytes in hex digits
--   accepted_text  an accepted message, and what it packs to
--   refused_text   a refusal: its number and byte place, and the pair that it names, if any
--   outcome_text   what is printed of the answer to a packet
use Rattle.std.specs.Prelude.{ℕ, ◌+◌, ◌*◌, List, ◌∷◌, ◌++◌, Some, None, Ok, Err, codes, decimal, Option, Result, slice_index}
use Rattle.std.specs.List.{flat_map}
use Rattle.tally.specs.declared.pair.Pair.{Pair}
use Rattle.tally.specs.Counts.{counted, counted_pairs}
use Rattle.packet.specs.declared.head.Head.{Head}
use Rattle.packet.specs.Messages.{Content}
use Rattle.packet.specs.Faults.{Told}
use Rattle.packet.specs.Packing.{packet_bytes}
use Rattle.packet_text.specs.Hex.{hex_text}

abbrev pub number : ℕ → List ℕ
number n = 32 ∷ decimal n

abbrev pub pair_text : Pair × ℕ → List ℕ
pair_text x = number x.0.station ++ (number x.0.handset ++ number x.1)

abbrev pub code_text : List ℕ → List ℕ
code_text bs = codes " code " ++ decimal (slice_index bs 0 * 256 + slice_index bs 1)

abbrev pub note_text : List ℕ → List ℕ
note_text bs = codes " note \"" ++ (bs ++ codes "\"")

abbrev pub head_text : Head → ℕ → List ℕ
head_text h pairs =
    codes "ok" ++ (number h.station ++ (number h.sender ++ (number h.addressee ++ (number h.name ++ number pairs))))

-- of a message with a body printed by a given text, and of some bytes
abbrev pub message_text : (List ℕ → List ℕ) → Content → List ℕ → List ℕ
message_text text m bs =
    head_text m.head (counted m.counts) ++ (flat_map pair_text (counted_pairs m.counts) ++ (text m.body ++ (codes " " ++ hex_text bs)))

-- the same with the packet of the message, with a body of a given kind
abbrev pub accepted_text : ℕ → (List ℕ → List ℕ) → Content → List ℕ
accepted_text kind text m = message_text text m (packet_bytes kind m)

-- a byte place, and the pair behind it, if any
abbrev pub place_text : ℕ → Option Pair → List ℕ
place_text n None = number n
place_text n (Some p) = number n ++ (number p.station ++ number p.handset)

abbrev pub refused_text : Told → List ℕ
refused_text t = codes "no" ++ (number t.number ++ place_text t.place t.pair)

abbrev pub outcome_text : ℕ → (List ℕ → List ℕ) → Result Content Told → List ℕ
outcome_text kind text (Ok m) = accepted_text kind text m
outcome_text kind text (Err t) = refused_text t
