-- Call codes.
--
--   code_bytes   a 16-bit number as two bytes, high byte first
--   code_lawful  the bytes that a call code accepts: two
use Rattle.std.specs.Prelude.{ℕ, ◌/◌, ◌%◌, Bool, List, [], ◌∷◌, length, ◌==◌}
use Rattle.body.specs.declared.code.CallCode.{CallCode}

abbrev pub code_bytes : CallCode → List ℕ
code_bytes c = c.value / 256 ∷ c.value % 256 ∷ []

abbrev pub code_lawful : List ℕ → Bool
code_lawful bs = length bs == 2
