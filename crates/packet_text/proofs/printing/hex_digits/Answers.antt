use Rattle.std.proofs.Common.{◌≡◌, ℕ, ◌+◌, ◌*◌, ◌<◌, ◌≤◌, List, [], ◌∷◌, ◌++◌, length, get_or, set, take, refl, sym, ap, ◌∙◌, subst, append_assoc, arith}
use Rattle.std.proofs.lemmas.List.{length-set, take_more, take_more_set, take_all, flat_map_more}
use Rattle.std.proofs.lemmas.Str.{IsUtf8-from_ascii}
use Rattle.std.specs.Str.{IsUtf8}
use Rattle.packet_text.specs.Hex.{byte_text, hex_text}
use Rattle.packet_text.proofs.Digits.{hex_ascii}
use Rattle.packet_text.proofs.printing.hex_digits.Goals as goal

pub loop-at-init : goal.loop-at-init
loop-at-init c = record { sized = c.told-room; done = refl }

pub loop-at-preserved : goal.loop-at-preserved
loop-at-preserved c =
    let bytes = c.args.bytes.now in
    let i = c.loop-at.at in
    let room = c.loop-at.room in
    let high = c.hex_digit.result in
    let low = c.hex_digit-in-loop-at.result in
    let one = set room (2 * i) high in
    let both = set one (2 * i + 1) low in
    let first : 2 * i < length room = omega (arith, c.loop-at-test.true, c.requires, c.loop-at.invariant.sized) in
    let second : 2 * i + 1 < length one = omega (arith, c.loop-at-test.true, c.requires, c.loop-at.invariant.sized, length-set room (2 * i) high) in
    let on : 2 * (i + 1) ≡ 2 * i + 1 + 1 = omega arith in
    record {
      sized = length-set _ _ _ ∙ length-set _ _ _ ∙ c.loop-at.invariant.sized;
      done =
          ap (λ k. take k both) on
          ∙ take_more_set one (2 * i + 1) low second
          ∙ ap (λ l. l ++ low ∷ []) (take_more_set room (2 * i) high first)
          ∙ append_assoc (take (2 * i) room) (high ∷ []) (low ∷ [])
          ∙ (λ j. c.loop-at.invariant.done j ++ (c.hex_digit.ensures j ∷ c.hex_digit-in-loop-at.ensures j ∷ []))
          ∙ flat_map_more byte_text [] (take i bytes) (get_or bytes i 0)
          ∙ ap hex_text (sym (take_more bytes i 0 c.loop-at-test.true));
    }

-- what is written when every byte is done
all_done : (bytes room : List ℕ) (at : ℕ) → length bytes ≤ at → at ≤ length bytes → take (2 * at) room ≡ hex_text (take at bytes)
    → take (2 * length bytes) room ≡ hex_text bytes
all_done bytes room at long short done =
    let end : length bytes ≡ at = omega (arith, long, short) in
    ap (λ n. take (2 * n) room) end ∙ done ∙ ap hex_text (take_all at bytes long)

pub unreachable-requires : goal.unreachable-requires
unreachable-requires c =
    let text = all_done c.args.bytes.now c.loop-at.room c.loop-at.at c.loop-at-test.false c.loop-at.auto.at-end c.loop-at.invariant.done in
    c.in_default.ensures.cases.0 (subst IsUtf8 (sym text) (IsUtf8-from_ascii _ (hex_ascii c.args.bytes.now (λ i. omega (arith, c.type_inv.bytes i)))))

pub returns : goal.returns
returns c =
    c.in-Ok.ensures.cases.0 ∙ all_done c.args.bytes.now c.loop-at.room c.loop-at.at c.loop-at-test.false c.loop-at.auto.at-end c.loop-at.invariant.done
