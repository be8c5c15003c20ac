-- Bytes that are told and read back.
--
--   over       a buffer with some bytes written over its front, the bytes past them kept;
--              a buffer that is too short for them stays as it is
--   writing    the answer to writing some bytes: refused where the buffer is too short for them
--   told_back  what a reading tells of some bytes: the bytes themselves where they are lawful, else nothing
use Rattle.std.specs.Prelude.{ℕ, Bool, cond, List, ◌++◌, length, drop, Some, None, Option, Ok, Err, Result, nat_le}
use Rattle.body.specs.declared.ShortBuffer.{ShortBuffer}

abbrev pub over : List ℕ → List ℕ → List ℕ
over bs out = cond (nat_le (length bs) (length out)) (bs ++ drop (length bs) out) out

abbrev pub writing : List ℕ → List ℕ → Result (Unit {0}) ShortBuffer
writing bs out = cond (nat_le (length bs) (length out)) (Ok tt) (Err (record {}))

abbrev pub told_back : Bool → List ℕ → Option (List ℕ)
told_back lawful bs = cond lawful (Some bs) None
