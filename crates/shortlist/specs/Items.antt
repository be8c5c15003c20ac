-- What a short list holds.
--
--   items   its elements
--   rest    what lies in the places past them
--   adding  the answer to putting an element into a list of at most so many: refused where it has as many already
use Rattle.std.specs.Prelude.{ℕ, cond, List, length, take, drop, Ok, Err, Result, ◌==◌}
use Rattle.shortlist.specs.declared.list.ShortList.{ShortList}
use Rattle.shortlist.specs.declared.ListFull.{ListFull}

abbrev pub items : {T : Type 0} {N : ℕ} → ShortList T N → List T
items l = take l.len l.places

abbrev pub rest : {T : Type 0} {N : ℕ} → ShortList T N → List T
rest l = drop l.len l.places

abbrev pub adding : {T : Type 0} → ℕ → List T → Result (Unit {0}) ListFull
adding n xs = cond (length xs == n) (Err (record {})) (Ok tt)
