-- Bytes written one after the other over a buffer.
use Rattle.std.proofs.Common.{◌≡◌, ℕ, ◌+◌, ◌-◌, ◌≤◌, List, [], ◌++◌, length, take, drop, sym, ap, ◌∙◌, append_assoc, zero-add, arith}
use borrow.Rule.Slice.PartMut.{put_mid}
use Rattle.std.proofs.lemmas.List.{take_at, drop_at, drop-drop, length-append, length-take-le, length-drop, take_rest, drop_all, append-nil}
use Rattle.std.proofs.lemmas.Bool.{cond-true, le-leb}
use Rattle.body.specs.Bytes.{over}
use Rattle.packet_write.specs.Writing.{placed}

-- bs and then cs behind them
pub placed_more : (at : ℕ) (bs cs out : List ℕ) → at + length bs ≤ length out → placed (at + length bs) cs (placed at bs out) ≡ placed at (bs ++ cs) out
placed_more at bs cs out room =
    let front = take at out ++ bs in
    let m = at + length bs in
    let rest = drop m out in
    let whole : placed at bs out ≡ front ++ rest = sym (append_assoc (take at out) bs rest) in
    let long : length front ≡ m = length-append (take at out) bs ∙ ap (λ k. k + length bs) (length-take-le at out (omega arith)) in
    let kept : take m (placed at bs out) ≡ front = ap (take m) whole ∙ take_at front rest m long in
    let after : drop (m + length cs) (placed at bs out) ≡ drop (m + length cs) out =
    ap (drop (m + length cs)) whole ∙ sym (drop-drop (length cs) m (front ++ rest)) ∙ ap (drop (length cs)) (drop_at front rest m long) ∙ drop-drop (length cs) m out in
    let size : m + length cs ≡ at + length (bs ++ cs) = omega (arith, length-append bs cs) in
    (λ i. kept i ++ (cs ++ after i))
    ∙ append_assoc (take at out) bs (cs ++ drop (m + length cs) out)
    ∙ ap (λ xs. take at out ++ xs) (sym (append_assoc bs cs (drop (m + length cs) out)) ∙ ap (λ k. (bs ++ cs) ++ drop k out) size)

pub placed_front : (bs out : List ℕ) → length bs ≤ length out → placed 0 bs out ≡ over bs out
placed_front bs out room = ap (λ k. bs ++ drop k out) (zero-add (length bs)) ∙ sym (cond-true _ _ _ (le-leb _ _ room))

pub length_placed : (at : ℕ) (bs out : List ℕ) → at + length bs ≤ length out → length (placed at bs out) ≡ length out
length_placed at bs out room =
    length-append (take at out) (bs ++ drop (at + length bs) out)
    ∙ omega (arith, length-take-le at out (omega arith), length-append bs (drop (at + length bs) out), length-drop (at + length bs) out)

-- what is written at the front of the part from m on
pub placed_part : (m : ℕ) (bs out part : List ℕ) → m + length bs ≤ length out → part ≡ over bs (take (length out - m) (drop m out))
    → put_mid m (length out - m) out part ≡ placed m bs out
placed_part m bs out part room wrote =
    let rest = drop m out in
    let all : take (length out - m) rest ≡ rest = take_rest out m in
    let long : length bs ≤ length rest = omega (arith, length-drop m out) in
    let behind : drop (length out - m) rest ≡ [] = drop_all (length out - m) rest (omega (arith, length-drop m out)) in
    let written : part ≡ bs ++ drop (m + length bs) out =
    wrote ∙ ap (over bs) all ∙ cond-true _ _ _ (le-leb _ _ long) ∙ ap (λ xs. bs ++ xs) (drop-drop (length bs) m out) in
    (λ i. take m out ++ (written i ++ behind i)) ∙ ap (λ xs. take m out ++ xs) (append-nil (bs ++ drop (m + length bs) out))
