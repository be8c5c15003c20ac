use Rattle.std.proofs.Common.{◌≢◌, ℕ, List, ◌++◌, take}
use Rattle.std.specs.List.{All}
use Rattle.packet_text.proofs.asking.kind.Given as goal

abbrev pub invariant-loop-word : goal.invariant-loop-word
invariant-loop-word g l = All (λ k. (rest : List ℕ) → l.line ≢ k.0.now ++ rest) (take l.word-index l.kinds)
