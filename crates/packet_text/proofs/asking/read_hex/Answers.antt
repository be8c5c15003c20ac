use Rattle.std.proofs.Common.{◌≡◌, ℕ, ◌+◌, ◌*◌, ◌/◌, ◌%◌, ◌<◌, List, [], ◌∷◌, ◌++◌, length, get_or, take, sym, ap, ◌∙◌, subst, append_assoc, arith}
use Rattle.std.specs.List.{All}
use Rattle.std.specs.Simd.{first_chunks}
use Rattle.std.proofs.lemmas.Bool.{eqb-true, eqb-false}
use Rattle.std.proofs.lemmas.List.{length-set, take_more, take_more_set, take_all, flat_map_more}
use Rattle.std.proofs.lemmas.List.Elements.{All-push}
use Rattle.packet_text.specs.Hex.{hex_digit, byte_text, hex_text}
use Rattle.packet_text.proofs.Digits.{length_hex, high_digit, low_digit, in_pair}
use Rattle.packet_text.proofs.asking.read_hex.Goals as goal

-- a digit of the pair at a place, among all digits
at_place : (digits : List ℕ) (pairs : List (List ℕ)) → pairs ≡ first_chunks 2 (length digits / 2) digits → (i j at : ℕ) → i < length digits / 2 → j < 2
    → at ≡ 2 * i + j → get_or (get_or pairs i []) j 0 ≡ get_or digits at 0
at_place digits pairs e i j at l m place = ap (λ ps. get_or (get_or ps i []) j 0) e ∙ in_pair (length digits / 2) i j at digits l m place

pub returns-then-not-is_empty : goal.returns-then-not-is_empty
returns-then-not-is_empty c = λ bs all e.
    eqb-false _ 0 (sym c.is_empty.ensures ∙ c.if-not-is_empty.true) (omega (arith, ap length e, length_hex bs, c.as_chunks.ensures.back_len))

pub returns-in_err-hex_value : goal.returns-in_err-hex_value
returns-in_err-hex_value c =
    rw c.from_residual.ensures
    (λ bs all e.
    let digits = c.args.digits.now in
    let i = c.loop-at.at in
    let here : i < length digits / 2 = omega (arith, c.loop-at-test.true, c.as_chunks.ensures.front_len) in
    let inside : i < length bs = omega (arith, ap length e, length_hex bs, here) in
    let digit = at_place digits _ c.as_chunks.ensures.front i 0 (2 * i) here (omega arith) (omega arith) in
    c.in_err-hex_value.ensures (get_or bs i 0 / 16) (omega (arith, all i 0 inside)) (digit ∙ ap (λ l. get_or l (2 * i) 0) e ∙ high_digit bs i inside))

pub returns-in_err-room : goal.returns-in_err-room
returns-in_err-room c =
    rw c.from_residual-in_err-room.ensures
    (λ bs all e.
    let digits = c.args.digits.now in
    let i = c.loop-at.at in
    let here : i < length digits / 2 = omega (arith, c.loop-at-test.true, c.as_chunks.ensures.front_len) in
    let inside : i < length bs = omega (arith, ap length e, length_hex bs, here) in
    let digit = at_place digits _ c.as_chunks.ensures.front i 1 (2 * i + 1) here (omega arith) (omega arith) in
    c.in_err-room.ensures (get_or bs i 0 % 16) (omega arith) (digit ∙ ap (λ l. get_or l (2 * i + 1) 0) e ∙ low_digit bs i inside))

pub loop-at-preserved : goal.loop-at-preserved
loop-at-preserved c =
    let digits = c.args.digits.now in
    let i = c.loop-at.at in
    let room = c.loop-at.room in
    let high = c.in_ok-hex_value.field-0 in
    let low = c.in_ok-room.field-0 in
    let b = 16 * high + low in
    let here : i < length digits / 2 = omega (arith, c.loop-at-test.true, c.as_chunks.ensures.front_len) in
    let first : get_or digits (2 * i) 0 ≡ hex_digit high = sym (at_place digits _ c.as_chunks.ensures.front i 0 (2 * i) here (omega arith) (omega arith)) ∙ c.in_ok-hex_value.ensures.1 in
    let second : get_or digits (2 * i + 1) 0 ≡ hex_digit low = sym (at_place digits _ c.as_chunks.ensures.front i 1 (2 * i + 1) here (omega arith) (omega arith)) ∙ c.in_ok-room.ensures.1 in
    let fits : i < length room = omega (arith, here, c.loop-at.invariant.sized, c.requires) in
    let high_is : high ≡ b / 16 = omega (arith, c.in_ok-room.ensures.0) in
    let low_is : low ≡ b % 16 = omega (arith, c.in_ok-room.ensures.0) in
    let digit : take (2 * i + 1) digits ≡ take (2 * i) digits ++ get_or digits (2 * i) 0 ∷ [] = take_more digits (2 * i) 0 (omega (arith, here)) in
    let digit_more : take (2 * i + 1 + 1) digits ≡ take (2 * i + 1) digits ++ get_or digits (2 * i + 1) 0 ∷ [] = take_more digits (2 * i + 1) 0 (omega (arith, here)) in
    let on : 2 * (i + 1) ≡ 2 * i + 1 + 1 = omega arith in
    record {
      sized = length-set _ _ _ ∙ c.loop-at.invariant.sized;
      done =
          ap (λ k. take k digits) on
          ∙ digit_more
          ∙ ap (λ l. l ++ get_or digits (2 * i + 1) 0 ∷ []) digit
          ∙ append_assoc (take (2 * i) digits) (get_or digits (2 * i) 0 ∷ []) (get_or digits (2 * i + 1) 0 ∷ [])
          ∙ (λ j. c.loop-at.invariant.done j ++ ((first ∙ ap hex_digit high_is) j ∷ (second ∙ ap hex_digit low_is) j ∷ []))
          ∙ flat_map_more byte_text [] (take i room) b
          ∙ ap hex_text (sym (take_more_set room i b fits));
      small = subst (All (λ b. b < 256)) (sym (take_more_set room i b fits)) (All-push (λ b. b < 256) (take i room) b c.loop-at.invariant.small (omega (arith, c.in_ok-hex_value.ensures.0, c.in_ok-room.ensures.0)));
    }

pub returns : goal.returns
returns c =
    let digits = c.args.digits.now in
    let end : c.loop-at.at ≡ length c.as_chunks.result.0.now = omega (arith, c.loop-at-test.false, c.loop-at.auto.at-end) in
    let none : length c.as_chunks.result.1.now ≡ 0 = eqb-true _ 0 (sym c.is_empty.ensures ∙ c.if-not-is_empty.false) in
    let even : 2 * c.loop-at.at ≡ length digits = omega (arith, end, none, c.as_chunks.ensures.front_len, c.as_chunks.ensures.back_len) in (
      sym (take_all (2 * c.loop-at.at) digits (omega (arith, even))) ∙ c.loop-at.invariant.done ∙ ap (λ n. hex_text (take n c.loop-at.room)) end,
      subst (λ n. All (λ b. b < 256) (take n c.loop-at.room)) end c.loop-at.invariant.small,
    )
