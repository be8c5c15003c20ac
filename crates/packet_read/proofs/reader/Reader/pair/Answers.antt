use Rattle.std.proofs.Common.{◌≡◌, ℕ, ◌+◌, ◌<◌, List, get_or, take, drop, ap, ◌∙◌, arith}
use Rattle.std.proofs.lemmas.List.{get_or-take, get_or-drop}
use Rattle.packet.specs.Layout.{byte_at, count_from}
use Rattle.packet_read.specs.Fields.{packet}
use Rattle.packet_read.proofs.reader.Reader.pair.Goals as goal

-- the byte at a place of the packet, in a field of n bytes from p on
byte_of : (bs field : List ℕ) (p n k place : ℕ) → field ≡ take n (drop p bs) → k < n → p + k ≡ place → get_or field k 0 ≡ byte_at bs place
byte_of bs field p n k place e h at = ap (λ l. get_or l k 0) e ∙ get_or-take n (drop p bs) k 0 h ∙ get_or-drop p bs k 0 ∙ ap (byte_at bs) at

pub returns : goal.returns
returns c =
    let made = c.in_ok-field.ensures in
    let bs = packet c.args.self.now in
    let place = c.args.self.now.place in
    let byte = λ (k at : ℕ) (h : k < 4) (e : place + k ≡ at). byte_of bs c.in_ok-field.field.now place 4 k at made.reads h e in
    let count : c.from_be_bytes.result ≡ count_from bs place = omega (arith, c.from_be_bytes.ensures, byte 2 (place + 2) (omega arith) (omega arith), byte 3 (place + 2 + 1) (omega arith) (omega arith)) in
    record {
      same = made.same;
      asks = made.asks;
      on = made.on;
      reads = ((λ i. record { station = byte 0 place (omega arith) (omega arith) i; handset = byte 1 (place + 1) (omega arith) (omega arith) i }), count);
    }
