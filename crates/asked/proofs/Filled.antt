-- How many places of the tables are filled, where every question that a step is put first is answered yes.
use Rattle.std.proofs.Common.{◌≡◌, ℕ, ◌+◌, ◌<◌, ◌≤◌, true, length, ⊎_elim, arith}
use Rattle.std.proofs.lemmas.Bool.{cases_lt}
use Rattle.tally.specs.Counts.{Counts}
use Rattle.rules.specs.Places.{is_kept, leaves}
use Rattle.rules.specs.Steps.{notice}
use Rattle.tables.specs.declared.tables.Tables.{Tables}
use Rattle.tables.specs.View.{view, places_of, unread_lengths, back_lengths, notice_lengths}
use Rattle.tables.specs.Shape.{Asked}
use Rattle.tables.proofs.Changing.{column_past}
use Rattle.asked.proofs.Strides.{part_length}
use Rattle.asked.proofs.Passes.{many_few}
use Rattle.asked.proofs.Facts.{book_within_places, notices_within_leaving, notices_have_room}

module _ {T B : Type 0} (counts : T → Counts) (h : Tables T B) (a : Asked (view counts h)) where
  pub unread_long : (j : ℕ) → length ((view counts h).unread j) ≡ unread_lengths h.handsets.now j
  unread_long j = part_length 0 j h.head.now.numbers.places (unread_lengths h.handsets.now j) h.unread.now

  pub back_long : (j : ℕ) → length ((view counts h).back j) ≡ back_lengths h.handsets.now j
  back_long j = part_length 0 j h.head.now.numbers.places (back_lengths h.handsets.now j) h.back.now

  pub notices_long : (p : ℕ) → length ((view counts h).notices p) ≡ notice_lengths h.stations.now p
  notices_long p = part_length (notice 0 0) p h.head.now.numbers.handsets (notice_lengths h.stations.now p) h.notices.now

  -- the unread and the back places of every handset
  pub book_filled : (j : ℕ) → unread_lengths h.handsets.now j + back_lengths h.handsets.now j ≤ h.head.now.numbers.places
  book_filled j =
      ⊎_elim
      (λ (lt : j < length h.handsets.now).
      let few = book_within_places (view counts h) a.sound j (omega (arith, a.shaped.handsets)) in
      omega (arith, unread_long j, back_long j))
      (λ ge.
      let no_unread = column_past (λ x. x.unread) 0 h.handsets.now j ge in
      let no_back = column_past (λ x. x.back) 0 h.handsets.now j ge in
      omega arith)
      (cases_lt j (length h.handsets.now))

  -- the notice places of every station
  pub notices_filled : (p : ℕ) → notice_lengths h.stations.now p ≤ h.head.now.numbers.handsets
  notices_filled p =
      ⊎_elim
      (λ (lt : p < length h.stations.now).
      let few = notices_within_leaving (view counts h) a.sound p (omega (arith, a.shaped.stations)) in
      omega (arith, notices_long p, many_few (λ j. leaves p (places_of h.handsets.now j)) h.head.now.numbers.handsets))
      (λ ge. let none = column_past (λ x. x.notices) 0 h.stations.now p ge in omega arith)
      (cases_lt p (length h.stations.now))

  -- while a station keeps some handset, every station has a free notice place
  pub notices_have_place : (p : ℕ) → p < h.head.now.numbers.stations → (j : ℕ) → j < h.head.now.numbers.handsets → is_kept (places_of h.handsets.now j) ≡ true →
      notice_lengths h.stations.now p < h.head.now.numbers.handsets
  notices_have_place p l j i k = let room = notices_have_room (view counts h) a.sound p l j i k in omega (arith, notices_long p)
