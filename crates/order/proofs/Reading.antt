-- A granted reading keeps what holds between calls.
use Rattle.std.proofs.Common.{◌≡◌, ℕ, suc, ◌+◌, ◌<◌, ◌≤◌, true, false, eqb, List, ◌∷◌, length, Some, Ok, sym, refl, ap, ◌∙◌, subst, ⊎_elim, le_trans, lt_trans, ne_of_lt, arith}
use mathlib.Core.Path.{subst⁻¹}
use Rattle.tally.specs.Counts.{Counts, larger}
use Rattle.rules.specs.declared.place.Stage.TheVariants.{Read}
use Rattle.rules.specs.declared.call.Call.TheVariants.{ReadNext}
use Rattle.rules.specs.declared.call.Granted.TheVariants.{Got}
use Rattle.rules.specs.Functions.{updated, bit, times, rest}
use Rattle.rules.specs.Places.{station_of, is_kept, is_wire, is_back, is_unread, is_read, is_handed}
use Rattle.rules.specs.House.{Row, House}
use Rattle.rules.specs.Asking.{pair_of, after_read}
use Rattle.rules.specs.Steps.{read_at}
use Rattle.rules.specs.Runs.{History}
use Rattle.order.proofs.Basics.{updated_here, updated_both, AtMost, grows, larger_left, larger_right, raised_grows, raised_here}
use Rattle.order.proofs.Lists.{times_cons, times_front}
use Rattle.order.proofs.Counting.{number, Backed, counted_more, backed_larger, backed_next, backed_wide}
use Rattle.order.proofs.Handing.{handing_same}
use Rattle.order.proofs.Books.{side_same, side_take, Ordered}
use Rattle.order.proofs.Knowing.{Covers, knowing_read}
use Rattle.order.proofs.Told.{Under, told_read}
use Rattle.order.proofs.Stages.{test_same, test_here, test_off, stands_unread, handed_ways}
use Rattle.order.proofs.Core.{Core, unread_is, below_handed}
use Rattle.order.proofs.Invariant.{Invariant}

module _ {B : Type 0} where
  -- the message x, at the front of its addressee's unread list, is read
  pub keep_read : {R : ℕ → Row B} {h : History B} {s : House B} (x : ℕ) (l : List ℕ) (b : B) → Invariant R h s → is_kept (s.place (R x).addressee) ≡ true
      → s.unread (R x).addressee ≡ x ∷ l → (R x).body ≡ Some b
      → Invariant R ((ReadNext (R x).addressee, Ok (Got x b)) ∷ h) (read_at (station_of (s.place (R x).addressee)) (R x).addressee x (R x) s)
  unfolding read_at times
  keep_read {R} {s = s} x l b I k in_front body = record {
    core = record {
      rows_are = C.rows_are;
      counted = counted_more C.counted p c backed more;
      handing = handing_same C.handing (λ m lt. test_same is_handed s.stage x Read (sym ux.0) m) (grows s.counts p c more);
      unread_side = side_take C.unread_side x hx (test_off is_unread s.stage x Read) at_x.2 (test_here is_unread s.stage x Read)
          (rest (s.unread j)) (λ m. subst⁻¹ (λ l. times m l ≡ times m (rest l) + bit (eqb m x)) in_front (omega arith));
      back_side = side_same C.back_side (λ m lt. test_same is_back s.stage x Read (sym ux.2) m);
      in_order = λ i. updated_both (Ordered R) s.unread j (rest (s.unread j)) i
          (λ e. subst⁻¹ (λ l. Ordered R (rest l)) in_front ordered.1) (λ e. C.in_order i);
      knowing = knowing_read C.knowing x k (test_off is_read s.stage x Read) (grows s.counts p c more) covers;
      noticed = C.noticed;
    };
    quiet = record {
      none_ripe = I.quiet.none_ripe;
      gap = I.quiet.gap;
      in_book = λ i. updated_both (λ l. length l + length (s.back i) ≤ s.sizes.places) s.unread j (rest (s.unread j)) i
          (λ e. subst⁻¹ (λ y. length (rest (s.unread j)) + length (s.back y) ≤ s.sizes.places) e fewer) (λ e. I.quiet.in_book i);
    };
    told = told_read I.told x b hx body ux.3 (test_here is_read s.stage x Read) (test_off is_read s.stage x Read)
        (λ m lt. test_same is_wire s.stage x Read (sym ux.1) m) all_read;
  }
    where
      C : Core R s
      C = I.core

      u : ℕ
      u = s.used

      j : ℕ
      j = (R x).addressee

      p : ℕ
      p = station_of (s.place j)

      joined : Counts
      joined = larger (s.counts p) (R x).tag

      c : Counts
      c = after_read s p (R x)

      at_x : (x < u) × ((R x).addressee ≡ j) × (is_unread (s.stage x) ≡ true)
      at_x = unread_is C j x (subst⁻¹ (λ l. 0 < times x l) in_front (times_front x l))

      hx : x < u
      hx = at_x.0

      ux : (is_handed (s.stage x) ≡ true) × (is_wire (s.stage x) ≡ false) × (is_back (s.stage x) ≡ false) × (is_read (s.stage x) ≡ false)
      ux = stands_unread (s.stage x) at_x.2

      raises : AtMost joined c
      raises = raised_grows joined (pair_of (R x)) (suc (number R x))

      more : AtMost (s.counts p) c
      more q = le_trans (larger_left (s.counts p) (R x).tag q) (raises q)

      tagged : Backed R u (R x).tag
      tagged = backed_wide R x u (R x).tag (omega (arith, hx)) (C.counted.tags x hx)

      backed : Backed R u c
      backed = backed_next R u joined (R x).tag x (backed_larger R u (s.counts p) (R x).tag (C.counted.stations p) tagged) tagged hx refl

      covers : Covers R (updated s.counts p c p) x
      covers = subst⁻¹ (λ (d : Counts). Covers R d x) (updated_here s.counts p c)
          ((λ q. le_trans (larger_right (s.counts p) (R x).tag q) (raises q)), raised_here joined (pair_of (R x)) (suc (number R x)))

      ordered : Ordered R (x ∷ l)
      ordered = subst (Ordered R) in_front (C.in_order j)

      fewer : length (rest (s.unread j)) + length (s.back j) ≤ s.sizes.places
      fewer = subst⁻¹ (λ l. length (rest l) + length (s.back j) ≤ s.sizes.places) in_front
          (omega (arith, I.quiet.in_book j, ap length in_front))

      -- what stands under x is handed, and is not behind x in the unread list
      all_read : (m : ℕ) → Under R m x → (R m).addressee ≡ j → is_read (s.stage m) ≡ true
      all_read m un to =
          let hm : m < u = lt_trans un.0 hx in
          ⊎_elim
          (λ unread.
          let once = ap (times m) (sym in_front) ∙ ap (λ i. times m (s.unread i)) (sym to) ∙ C.unread_side.own m hm ∙ ap bit unread in
          ⊎_elim (λ e. absurd (ne_of_lt un.0 e)) (λ t. absurd (ordered.0 m t un.2)) (times_cons m x l (omega (arith, once))))
          (λ r. r) (handed_ways (s.stage m) (below_handed C m x hm hx to ux.0 un.2))
