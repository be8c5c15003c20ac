use Rattle.std.proofs.Common.{◌≡◌, ℕ, List, [], ◌++◌, refl, sym, ap, ◌∙◌, rules, append_assoc, append-nil}
use Rattle.std.proofs.Output.{has_written_append, has_written_of_eq}
use Rattle.std.proofs.lemmas.List.{nil_from_length}
use Rattle.std.proofs.lemmas.List.Concat.{flat_map-append}
use Rattle.std.specs.Slice.Iter.{chunks_rest}
use Rattle.packet_text.specs.Hex.{byte_text, hex_text}
use Rattle.packet_text.proofs.printing.HexDisplay.fmt.Goals as goal

pub loop-part-init : goal.loop-part-init
loop-part-init g c = (search rules, tt, search rules, λ plain. ([], search rules, search rules))

pub loop-part-preserved : goal.loop-part-preserved
loop-part-preserved g c =
    let part = c.in-Some.part.now in
    let later = chunks_rest c.next.new.self in
    let steps = c.in-Some.ensures.steps in
    let parts : hex_text (chunks_rest c.loop-part.part-iterator) ≡ hex_text part ++ hex_text later = ap hex_text steps.1.0 ∙ flat_map-append byte_text part later in (
      search rules,
      tt,
      steps.0 ∙ c.loop-part.invariant.2,
      λ plain.
          let so_far = c.loop-part.invariant.3 plain in (
            so_far.0 ++ hex_text part,
            has_written_append _ _ _ _ _ _ so_far.1 (has_written_of_eq _ _ _ _ _ c.hex_digits.ensures (c.in_ok-write_str.ensures.writes so_far.1.plain refl)),
            append_assoc so_far.0 (hex_text part) (hex_text later) ∙ ap (λ (t : List ℕ). so_far.0 ++ t) (sym parts) ∙ so_far.2,
          ),
    )

pub returns-clause-writes : goal.returns-clause-writes
returns-clause-writes g c = λ plain _.
    let so_far = c.loop-part.invariant.3 plain in
    let none = nil_from_length _ c.in-None.ensures.steps.1.0 in
    has_written_of_eq _ _ _ _ _ (rw (none, append-nil) at so_far.2) so_far.1
