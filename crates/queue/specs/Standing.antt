-- What stands in a queue: the first of its places, as many as its length says.
--
--   standing    what stands in places of which so many are taken; all of them where the length is past the last
--   queued      what stands in a queue
--   filled      how many of its places are taken
--   without_at  a list without what stands at a position, closed up; the same list where nothing stands there
--   with_front  places that begin with a list, and past it are as they were
--   putting     the answer of putting one more into a queue: refused exactly where every place is taken
use Rattle.std.specs.Prelude.{ℕ, suc, min, cond, List, ◌++◌, length, take, drop, Ok, Err, Result, nat_lt}
use Rattle.queue.specs.declared.QueueFull.{QueueFull}
use Rattle.queue.specs.declared.Queue.{Queue}

abbrev pub standing : {X : Type 0} → ℕ → List X → List X
standing len places = take len places

abbrev pub queued : {X : Type 0} → Queue X → List X
queued q = standing q.len q.places.now

abbrev pub filled : {X : Type 0} → Queue X → ℕ
filled q = min q.len (length q.places.now)

abbrev pub without_at : {X : Type 0} → List X → ℕ → List X
without_at xs i = take i xs ++ drop (suc i) xs

abbrev pub with_front : {X : Type 0} → List X → List X → List X
with_front xs places = xs ++ drop (length xs) places

abbrev pub putting : {X : Type 0} → Queue X → Result (Unit {0}) QueueFull
putting q = cond (nat_lt q.len (length q.places.now)) (Ok tt) (Err (record {}))
