-- What packing answers and writes.
--
--   packing     the answer: the packet's length where the buffer has room for it
--   placed      a buffer with some bytes written over it from a place on
--   Puts        a writer has written some bytes over its buffer, and stands behind them
--   head_bytes  the first thirteen bytes of a packet: up to the number of pairs
use Rattle.std.specs.Prelude.{◌≡◌, ℕ, ◌+◌, cond, List, ◌∷◌, ◌++◌, length, take, drop, Ok, Err, Result, nat_le}
use Rattle.packet.specs.declared.head.Head.{Head}
use Rattle.packet.specs.declared.fault.PackFault.{PackFault}
use Rattle.packet.specs.declared.fault.PackFault.TheVariants.{ShortBuffer}
use Rattle.packet.specs.Packing.{word_bytes}
use Rattle.packet_write.specs.declared.writer.Writer.{Writer}

abbrev pub packing : List ℕ → List ℕ → Result ℕ PackFault
packing packet out = cond (nat_le (length packet) (length out)) (Ok (length packet)) (Err ShortBuffer)

abbrev pub placed : ℕ → List ℕ → List ℕ → List ℕ
placed at bs out = take at out ++ (bs ++ drop (at + length bs) out)

pub record Puts (before after : Writer) (bytes : List ℕ) : Type 0 where
  pub same : after.out.ghost_name ≡ before.out.ghost_name
  pub writes : after.out.now ≡ placed before.place bytes before.out.now
  pub on : after.place ≡ before.place + length bytes

abbrev pub head_bytes : ℕ → Head → ℕ → List ℕ
head_bytes kind h n =
    78 ∷ 82 ∷ 83 ∷ (word_bytes 1 ++ (kind ∷ h.station ∷ h.sender ∷ h.addressee ∷ (word_bytes h.name ++ word_bytes n)))
