-- The proofs of laws of notes, cited where notes are said to be bodies.
--
--   told_short   a note tells at most 255 bytes
--   told_lawful  what a note tells is accepted
--   told_once    notes that tell the same bytes are one
use Rattle.std.specs.Prelude.{◌≡◌, ◌-◌, ◌≤◌, true, length, replicate}
use Rattle.std.proofs.Common.{sym, ◌∙◌, ap, arith}
use Rattle.std.proofs.lemmas.Bool.{and_from, le-leb}
use mathlib.Core.HLevel.{is_prop→PathP}
use denote.Struct.Props.{props}
use Rattle.shortlist.proofs.Items.{most_items, same_list}
use Rattle.body.specs.declared.note.Note.{Note, plain-type, blank-type}
use Rattle.body.specs.Notes.{note_bytes}
use Rattle.body.specs.Printable.{note_lawful}

pub told_short : (n : Note) → length (note_bytes n) ≤ 255
told_short n = omega (arith, most_items n.text)

pub told_lawful : (n : Note) → note_lawful (note_bytes n) ≡ true
told_lawful n = and_from _ _ (le-leb _ _ (most_items n.text)) n.plain

pub told_once : (a b : Note) → note_bytes a ≡ note_bytes b → a ≡ b
told_once a b e =
    let t : a.text ≡ b.text = same_list a.text b.text e (a.blank ∙ ap (λ xs. replicate (24 - length xs) 0) e ∙ sym b.blank) in
    let p = is_prop→PathP (λ i. plain-type (t i)) (λ i. hlevel props) a.plain b.plain in
    let z = is_prop→PathP (λ i. blank-type (t i) (p i)) (λ i. hlevel props) a.blank b.blank in
    λ i. record { text = t i; plain = p i; blank = z i }
