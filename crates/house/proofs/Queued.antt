-- What the tables say after one queue of theirs gets one more, or loses one.
use Rattle.std.proofs.Common.{◌≡◌, ℕ, ◌<◌, length, arith}
use Rattle.tally.specs.Counts.{Counts}
use Rattle.rules.specs.Steps.{notice}
use Rattle.tables.specs.View.{Whole, viewed, notice_lengths, unread_lengths, back_lengths}
use Rattle.house.specs.Bounded.{Bounded}
use Rattle.asked.proofs.Strides.{part_length, stride}
use Rattle.house.proofs.Held.{Fits}

module _ {T B : Type 0} (counts : T → Counts) (w : Whole T B) (bounded : Bounded (viewed counts w)) where
  unread_length : (j : ℕ) → length ((viewed counts w).unread j) ≡ unread_lengths w.handsets j
  unread_length j = part_length 0 j w.head.numbers.places (unread_lengths w.handsets j) w.unread

  back_length : (j : ℕ) → length ((viewed counts w).back j) ≡ back_lengths w.handsets j
  back_length j = part_length 0 j w.head.numbers.places (back_lengths w.handsets j) w.back

  notices_length : (p : ℕ) → length ((viewed counts w).notices p) ≡ notice_lengths w.stations p
  notices_length p = part_length (notice 0 0) p w.head.numbers.handsets (notice_lengths w.stations p) w.notices

  pub unread_fits : (j : ℕ) → j < length w.handsets → Fits j w.head.numbers.places w.unread (unread_lengths w.handsets)
  unread_fits j h = let shape = bounded.shaped in record {
    there = stride j w.head.numbers.handsets w.head.numbers.places (length w.unread) (omega arith) (omega arith);
    short = λ i. let b = bounded.books i in let l = unread_length i in omega arith;
  }

  pub back_fits : (j : ℕ) → j < length w.handsets → Fits j w.head.numbers.places w.back (back_lengths w.handsets)
  back_fits j h = let shape = bounded.shaped in record {
    there = stride j w.head.numbers.handsets w.head.numbers.places (length w.back) (omega arith) (omega arith);
    short = λ i. let b = bounded.books i in let l = back_length i in omega arith;
  }

  pub notices_fit : (p : ℕ) → p < length w.stations → Fits p w.head.numbers.handsets w.notices (notice_lengths w.stations)
  notices_fit p h = let shape = bounded.shaped in record {
    there = stride p w.head.numbers.stations w.head.numbers.handsets (length w.notices) (omega arith) (omega arith);
    short = λ i. let b = bounded.notices i in let l = notices_length i in omega arith;
  }
