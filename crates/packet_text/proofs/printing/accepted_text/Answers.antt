use Rattle.std.proofs.Common.{◌≡◌, ℕ, ◌≤◌, length, take, drop, replicate, IfOk, Ok, string_bytes, refl, ◌∙◌, subst, arith}
use Rattle.std.proofs.lemmas.List.{take_at}
use Rattle.std.proofs.lemmas.Bool.{cond-true, le-leb}
use Rattle.tally.proofs.Listing.{counted_most}
use Rattle.packet.specs.Messages.{Content, meaning}
use Rattle.packet.specs.Packing.{packet_bytes}
use Rattle.packet_write.proofs.Packets.{length_packet}
use Rattle.packet_text.specs.Printing.{message_text}
use Rattle.packet_text.proofs.printing.accepted_text.Goals as goal

-- the buffer has room for any packet
room : (kind : ℕ) (m : Content) → length m.body ≤ 255 → length (packet_bytes kind m) ≤ 1293
room kind m short = omega (arith, length_packet kind m, counted_most m.counts)

pub unreachable-requires : goal.unreachable-requires
unreachable-requires g c =
    let kind = g.B.Body.kind in
    let m : Content = meaning g.T.Tally.counts g.B.Body.bytes c.args.message.now in
    let fits = le-leb _ _ (room kind m (g.met.B.Body.short c.args.message.now.body)) in
    c.in_default.not-Ok (length (packet_bytes kind m)) (c.pack.ensures.answers ∙ cond-true _ _ _ fits)

pub returns : goal.returns
returns g c =
    let kind = g.B.Body.kind in
    let m : Content = meaning g.T.Tally.counts g.B.Body.bytes c.args.message.now in
    let packet = packet_bytes kind m in
    let fits = room kind m (g.met.B.Body.short c.args.message.now.body) in
    let answer : Ok c.in-Ok.length ≡ Ok (length packet) = c.in-Ok.ensures.answers ∙ cond-true _ _ _ (le-leb _ _ fits) in
    let long : c.in-Ok.length ≡ length packet = cc in
    let packed : take c.in-Ok.length c.pack.new.out ≡ packet =
    (λ i. take (long i) ((c.pack.ensures.leaves ∙ cond-true _ _ _ (le-leb _ _ fits)) i)) ∙ take_at packet (drop (length packet) (replicate 1293 0)) (length packet) refl in
    subst (λ bs. IfOk c.format.result (λ text. string_bytes text ≡ message_text g.B.Printed.text m bs)) packed c.format.ensures.ok
