-- What a yes to the questions that every step is put first says of the tables' queues.
use Rattle.std.proofs.Common.{arith}
use Rattle.tally.specs.Counts.{Counts}
use Rattle.tables.specs.declared.tables.Tables.{Tables}
use Rattle.tables.specs.View.{view}
use Rattle.tables.specs.Shape.{Asked}
use Rattle.asked.proofs.Filled.{book_filled, notices_filled, unread_long, back_long, notices_long}
use Rattle.house.specs.Bounded.{Bounded}

pub asked_bounded : {T B : Type 0} (counts : T → Counts) (h : Tables T B) → Asked (view counts h) → Bounded (view counts h)
asked_bounded counts h a = record {
  shaped = a.shaped;
  books = λ j. omega (arith, book_filled counts h a j, unread_long counts h a j, back_long counts h a j);
  notices = λ p. omega (arith, notices_filled counts h a p, notices_long counts h a p);
}
