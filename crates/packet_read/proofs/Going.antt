-- The pairs of a packet, read one after the other.
use Rattle.std.proofs.Common.{◌≡◌, ℕ, suc, ◌+◌, ◌-◌, ◌*◌, ◌<◌, Bool, ◌++◌, Some, Ok, Err, sym, refl, ap, ◌∙◌, add-one, arith}
use Rattle.tally.specs.Pairs.{rank}
use Rattle.tally.specs.Counts.{Counts, none}
use Rattle.questions.specs.Asking.{first_no}
use Rattle.questions.proofs.Asked.{passed, stopped}
use Rattle.packet.specs.declared.fault.Fault.{Fault}
use Rattle.packet.specs.Faults.{tells}
use Rattle.packet.specs.Layout.{pair_from, pair_place, counts_in}
use Rattle.packet.specs.Reading.{with_pair, pair_questions, least, pairs_questions}
use Rattle.packet_read.specs.declared.reader.Reader.{Reader}
use Rattle.packet_read.specs.Fields.{packet, Takes}

-- i of n pairs are read since the reader was at the first of them: the next pair's place in the order is to be at least l, and the pairs read count c
pub record Going (fits : Counts → Bool) (n i : ℕ) (before now : Reader) (l : ℕ) (c : Counts) : Type 0 where
  pub same : now.packet ≡ before.packet
  pub here : now.place ≡ pair_place i
  pub lowest : l ≡ least (packet before) i
  pub counts : c ≡ counts_in (packet before) i
  pub left : first_no (pairs_questions fits (packet before) 0 n) ≡ first_no (pairs_questions fits (packet before) i (n - i))

module _ (fits : Counts → Bool) (n : ℕ) (before : Reader) (first : before.place ≡ 13) where
  pub going_none : (c : Counts) → c ≡ none → Going fits n 0 before before 0 c
  unfolding counts_in
  going_none c blank = record { same = refl; here = first ∙ omega arith; lowest = refl; counts = blank; left = ap (λ k. first_no (pairs_questions fits (packet before) 0 k)) (omega arith) }

  module _ (i : ℕ) (now : Reader) (l : ℕ) (c : Counts) (so_far : Going fits n i before now l c) where
    -- the questions about the next pair, and then those about the others
    next : i < n → first_no (pairs_questions fits (packet before) 0 n)
        ≡ first_no (pair_questions fits (packet now) now.place l c ++ pairs_questions fits (packet before) (suc i) (n - suc i))
    unfolding pairs_questions
    next h =
        let e : n - i ≡ suc (n - suc i) = omega arith in
        so_far.left ∙ ap (λ k. first_no (pairs_questions fits (packet before) i k)) e
        ∙ (λ j. first_no (pair_questions fits (sym so_far.same j).now (sym so_far.here j) (sym so_far.lowest j) (sym so_far.counts j)
        ++ pairs_questions fits (packet before) (suc i) (n - suc i)))

    pub going_more : i < n → (after : Reader) (least_next : ℕ) (d : Counts)
        → Takes now after (Ok least_next) 4 (pair_questions fits (packet now) now.place l c)
        (λ m. (m ≡ suc (rank (pair_from (packet now) now.place))) × (d ≡ with_pair (packet now) now.place c))
        → Going fits n (i + 1) before after least_next d
    unfolding counts_in
    going_more h after least_next d made =
        let one : suc i ≡ i + 1 = sym (add-one i) in
        let lowest_next : least_next ≡ least (packet before) (suc i) = made.reads.0 ∙ (λ j. suc (rank (pair_from (so_far.same j).now (so_far.here j)))) in
        let counts_next : d ≡ counts_in (packet before) (suc i) = made.reads.1 ∙ (λ j. with_pair (so_far.same j).now (so_far.here j) (so_far.counts j)) in
        let left_next = next h ∙ passed (pair_questions fits (packet now) now.place l c) (pairs_questions fits (packet before) (suc i) (n - suc i)) (sym made.asks) in
        record {
          same = made.same ∙ so_far.same;
          here = omega (arith, made.on, so_far.here);
          lowest = lowest_next ∙ ap (least (packet before)) one;
          counts = counts_next ∙ ap (counts_in (packet before)) one;
          left = left_next ∙ ap (λ k. first_no (pairs_questions fits (packet before) k (n - k))) one;
        }

    pub going_stops : i < n → (after : Reader) (f : Fault) → first_no (pair_questions fits (packet now) now.place l c) ≡ Some (tells f) → after.packet ≡ now.packet
        → {T : Type 0} (holds : T → Type 0) → Takes {A = T} before after (Err f) (4 * n) (pairs_questions fits (packet before) 0 n) holds
    going_stops h after f refused same holds = record {
      same = same ∙ so_far.same;
      asks = sym (next h ∙ stopped (pair_questions fits (packet now) now.place l c) (pairs_questions fits (packet before) (suc i) (n - suc i)) (tells f) refused);
      on = tt;
      reads = tt;
    }

    pub going_all : i ≡ n → {T : Type 0} (t : T) (counts : T → Counts) → counts t ≡ c
        → Takes before now (Ok t) (4 * n) (pairs_questions fits (packet before) 0 n) (λ x. counts x ≡ counts_in (packet before) n)
    unfolding pairs_questions
    going_all h t counts is =
        let e : n - i ≡ 0 = omega arith in
        record {
          same = so_far.same;
          asks = sym (so_far.left ∙ ap (λ k. first_no (pairs_questions fits (packet before) i k)) e);
          on = omega (arith, first, so_far.here, h);
          reads = is ∙ so_far.counts ∙ ap (counts_in (packet before)) h;
        }
