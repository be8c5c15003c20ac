use Rattle.std.proofs.Common.{◌≡◌, ℕ, ◌+◌, ◌*◌, ◌<◌, ◌≤◌, List, ◌∷◌, length, take, drop, Ok, sym, refl, ap, ◌∙◌, subst, arith}
use Rattle.std.specs.List.{flat_map}
use Rattle.std.proofs.lemmas.List.{take_at}
use Rattle.std.proofs.lemmas.Bool.{cond-true, cond-false, le-leb, lt-leb}
use Rattle.tally.specs.Counts.{counted_pairs, counted}
use Rattle.body.specs.Bytes.{over}
use Rattle.packet.specs.Messages.{Content, meaning}
use Rattle.packet.specs.Packing.{pair_bytes, packet_bytes}
use Rattle.packet.specs.Reading.{reading}
use Rattle.packet_write.specs.Writing.{Puts, head_bytes}
use Rattle.packet_write.proofs.Packets.{head_part, pairs_part, body_part, length_packet, room_after_pairs, packed}
use Rattle.packet_write.proofs.Back.{Lawful, reads_back}
use Rattle.packet_write.proofs.pack.Goals as goal

pub returns-then-out-length : goal.returns-then-out-length
returns-then-out-length g c =
    let kind = g.B.Body.kind in
    let m : Content = meaning g.T.Tally.counts g.B.Body.bytes c.args.message.now in
    let pairs : c.counted-pairs.result ≡ counted m.counts = c.counted-pairs.ensures ∙ ap (λ t. counted (g.T.Tally.counts t)) c.tag-tag.ensures in
    let size : c.size.result ≡ length m.body = c.size.ensures ∙ ap (λ b. length (g.B.Body.bytes b)) c.body-body.ensures in
    let short : length c.args.out.now < length (packet_bytes kind m) = omega (arith, length_packet kind m, pairs, size, c.if-out-length.true) in
    record { answers = sym (cond-false _ _ _ (lt-leb _ _ short)); leaves = sym (cond-false _ _ _ (lt-leb _ _ short)); reads_back = tt }

pub put_body-requires : goal.put_body-requires
put_body-requires g c =
    let kind = g.B.Body.kind in
    let m : Content = meaning g.T.Tally.counts g.B.Body.bytes c.args.message.now in
    let pairs : c.counted-pairs.result ≡ counted m.counts = c.counted-pairs.ensures ∙ ap (λ t. counted (g.T.Tally.counts t)) c.tag-tag.ensures in
    let size : c.size.result ≡ length m.body = c.size.ensures ∙ ap (λ b. length (g.B.Body.bytes b)) c.body-body.ensures in
    let room : length (packet_bytes kind m) ≤ length c.args.out.now = omega (arith, length_packet kind m, pairs, size, c.if-out-length.false) in
    let head : Puts _ c.put.new.self (head_part kind m) =
    subst (Puts _ c.put.new.self) (c.head_bytes.ensures ∙ (λ i. head_bytes (c.kind.ensures i) (c.head.ensures i) (pairs i))) c.put.ensures in
    let told : Puts c.put.new.self c.put_pairs.new.writer (pairs_part kind m) =
    subst (Puts c.put.new.self c.put_pairs.new.writer) (ap (λ t. flat_map pair_bytes (counted_pairs (g.T.Tally.counts t))) c.tag-tag.ensures) c.put_pairs.ensures in
    omega (arith, room_after_pairs kind m _ refl room _ _ head told, ap (λ b. length (g.B.Body.bytes b)) c.body-body.ensures)

pub returns : goal.returns
returns g c =
    let kind = g.B.Body.kind in
    let counts = g.T.Tally.counts in
    let bytes = g.B.Body.bytes in
    let m : Content = meaning counts bytes c.args.message.now in
    let packet = packet_bytes kind m in
    let pairs : c.counted-pairs.result ≡ counted m.counts = c.counted-pairs.ensures ∙ ap (λ t. counted (counts t)) c.tag-tag.ensures in
    let size : c.size.result ≡ length m.body = c.size.ensures ∙ ap (λ b. length (bytes b)) c.body-body.ensures in
    let answer : 14 + 4 * c.counted-pairs.result + c.size.result ≡ length packet = omega (arith, length_packet kind m, pairs, size) in
    let room : length packet ≤ length c.args.out.now = omega (arith, answer, c.if-out-length.false) in
    let head : Puts _ c.put.new.self (head_part kind m) =
    subst (Puts _ c.put.new.self) (c.head_bytes.ensures ∙ (λ i. head_bytes (c.kind.ensures i) (c.head.ensures i) (pairs i))) c.put.ensures in
    let told : Puts c.put.new.self c.put_pairs.new.writer (pairs_part kind m) =
    subst (Puts c.put.new.self c.put_pairs.new.writer) (ap (λ t. flat_map pair_bytes (counted_pairs (counts t))) c.tag-tag.ensures) c.put_pairs.ensures in
    let body : Puts c.put_pairs.new.writer c.put_body.new.writer (body_part kind m) =
    subst (Puts c.put_pairs.new.writer c.put_body.new.writer) (ap (λ b. length (bytes b) ∷ bytes b) c.body-body.ensures) c.put_body.ensures.leaves in
    let written = packed kind m _ refl room _ _ _ head told body in
    let name = sym (body.same ∙ told.same ∙ head.same) in
    let carries : Lawful g.B.Body.lawful g.T.Tally.fits m =
    record {
      ranged = c.args.message.now.ranged;
      within = g.met.T.Tally.outside c.args.message.now.tag;
      fit = g.met.T.Tally.own c.args.message.now.tag;
      low = λ p i. g.met.T.Tally.bounded m.counts p i (g.met.T.Tally.own c.args.message.now.tag);
      body_lawful = g.met.B.Body.own c.args.message.now.body;
    } in
    let back = λ (after : List ℕ) (e : after ≡ over packet c.args.out.now).
    ap (reading kind g.B.Body.lawful g.T.Tally.fits) ((λ i. take (answer i) ((e ∙ cond-true _ _ _ (le-leb _ _ room)) i)) ∙ take_at packet (drop (length packet) c.args.out.now) (length packet) refl)
    ∙ reads_back kind g.B.Body.lawful g.T.Tally.fits g.met.T.Tally.lowered m carries in
    record {
      answers = ap Ok answer ∙ sym (cond-true _ _ _ (le-leb _ _ room));
      leaves = grind arith;
      reads_back = back _ (grind arith);
    }
