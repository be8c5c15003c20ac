-- The first ripe message of a back list is handed, and so on until none is ripe: what that changes, and what it leaves as it was.
use Rattle.std.proofs.Common.{◌≡◌, ℕ, zero, suc, ◌+◌, ◌<◌, ◌≤◌, true, false, ◌≢◌, List, [], ◌∷◌, ◌++◌, length, Some, None, Option, sym, refl, ap, ◌∙◌, subst, le_refl, arith}
use mathlib.Core.Path.{subst⁻¹}
use Rattle.std.proofs.lemmas.List.{length_push, nil_from_length}
use Rattle.std.proofs.lemmas.Bool.{false≢true}
use Rattle.std.specs.Option.{option_map_or}
use Rattle.std.specs.List.{find}
use Rattle.tally.specs.declared.pair.Pair.{Pair}
use Rattle.tally.specs.Counts.{Counts}
use Rattle.rules.specs.declared.place.Stage.{Stage}
use Rattle.rules.specs.declared.place.Stage.TheVariants.{Unread}
use Rattle.rules.specs.Functions.{times, without}
use Rattle.rules.specs.Places.{is_wire, is_back, is_unread, is_read, is_handed}
use Rattle.rules.specs.House.{Row, House}
use Rattle.rules.specs.Changes.{with_handed, with_unread, with_back, with_stage}
use Rattle.rules.specs.Sound.{book}
use Rattle.rules.specs.Asking.{pair_of, ripe, ripe_in}
use Rattle.rules.specs.Steps.{hand, one_more, hand_ripe}
use Rattle.order.proofs.Basics.{updated_here, updated_off, updated_both}
use Rattle.order.proofs.Lists.{times_nil, times_without, length_without, find_none, find_some}
use Rattle.order.proofs.Handing.{more_off}
use Rattle.order.proofs.Books.{side_take}
use Rattle.order.proofs.Stages.{test_same, test_here, test_off, stands_back}
use Rattle.order.proofs.Core.{Core, back_is, core_hand}

module _ {B : Type 0} where
  -- a house with other handed counts, lists and stages
  abbrev pub with_books : Counts → (ℕ → List ℕ) → (ℕ → List ℕ) → (ℕ → Stage) → House B → House B
  with_books handed unread back stage s = with_handed handed (with_unread unread (with_back back (with_stage stage s)))

  -- The house s' is s after the ripe messages of handset j's back list have been handed.
  -- is             handed counts, lists and stages alone may differ from those of s
  -- core           what holds of a house after every handing of a message holds of s'
  -- read_same, wire_same, wire_stays   the same messages are read, and the same on the wire, where they stay
  -- unread_stays   what was unread is so still
  -- others, others_handed   lists and handed counts of other handsets are as they were
  -- shorter        the back list is no longer than it was
  -- same_book      the book holds as many messages as before
  -- none_ripe      none of the messages that still stand back is ripe
  pub record HandsRipe (R : ℕ → Row B) (j : ℕ) (s s' : House B) : Type 0 where
    pub handed : Counts
    pub unread : ℕ → List ℕ
    pub back : ℕ → List ℕ
    pub stage : ℕ → Stage
    pub is : s' ≡ with_books handed unread back stage s
    pub core : Core R (with_books handed unread back stage s)
    pub read_same : (m : ℕ) → is_read (stage m) ≡ is_read (s.stage m)
    pub wire_same : (m : ℕ) → is_wire (stage m) ≡ is_wire (s.stage m)
    pub wire_stays : (m : ℕ) → is_wire (stage m) ≡ true → stage m ≡ s.stage m
    pub unread_stays : (m : ℕ) → is_unread (s.stage m) ≡ true → is_unread (stage m) ≡ true
    pub others : (i : ℕ) → i ≢ j → (back i ≡ s.back i) × (unread i ≡ s.unread i)
    pub others_handed : (q : Pair) → q.handset ≢ j → handed q ≡ s.handed q
    pub shorter : length (back j) ≤ length (s.back j)
    pub same_book : length (unread j) + length (back j) ≡ book s j
    pub none_ripe : (m : ℕ) → 0 < times m (back j) → ripe s.sizes.stations handed (R m) ≡ false

  -- where none is ripe, nothing is done
  hands_none : {R : ℕ → Row B} {s : House B} (j : ℕ) → Core R s
      → ((m : ℕ) → 0 < times m (s.back j) → ripe s.sizes.stations s.handed (R m) ≡ false) → HandsRipe R j s s
  hands_none {s = s} j C quiet = record {
    handed = s.handed;
    unread = s.unread;
    back = s.back;
    stage = s.stage;
    is = refl;
    core = C;
    read_same = λ m. refl;
    wire_same = λ m. refl;
    wire_stays = λ m e. refl;
    unread_stays = λ m e. e;
    others = λ i ne. (refl, refl);
    others_handed = λ q ne. refl;
    shorter = le_refl _;
    same_book = refl;
    none_ripe = quiet;
  }

  -- the ripe message x is handed out of its addressee's back list
  module _ {R : ℕ → Row B} {s : House B} (x : ℕ) (C : Core R s) (there : 0 < times x (s.back (R x).addressee))
      (rp : ripe s.sizes.stations s.handed (R x) ≡ true) where
    abbrev left : List ℕ
    left = without x (s.back (R x).addressee)

    was : (x < s.used) × ((R x).addressee ≡ (R x).addressee) × (is_back (s.stage x) ≡ true)
    was = back_is C (R x).addressee x there

    hand_core : Core R (hand (R x) x left s)
    hand_core = core_hand C x left was.0 (stands_back (s.stage x) was.2).0 rp
        (side_take C.back_side x was.0 (test_off is_back s.stage x Unread) was.2 (test_here is_back s.stage x Unread) left
        (λ m. times_without m x (s.back (R x).addressee) there))

    hand_shorter : length (s.back (R x).addressee) ≡ suc (length ((hand (R x) x left s).back (R x).addressee))
    unfolding hand
    hand_shorter = length_without x (s.back (R x).addressee) there ∙ ap (λ l. suc (length l)) (sym (updated_here s.back (R x).addressee left))

    hands_one : {s' : House B} → HandsRipe R (R x).addressee (hand (R x) x left s) s' → HandsRipe R (R x).addressee s s'
    unfolding hand
    hands_one D = record {
      handed = D.handed;
      unread = D.unread;
      back = D.back;
      stage = D.stage;
      is = D.is;
      core = D.core;
      read_same = λ m. D.read_same m ∙ test_same is_read s.stage x Unread (sym b.2) m;
      wire_same = λ m. D.wire_same m ∙ test_same is_wire s.stage x Unread (sym b.1) m;
      wire_stays = λ m e. D.wire_stays m e ∙ updated_both (λ v. is_wire v ≡ true → v ≡ s.stage m) s.stage x Unread m
          (λ d f. absurd (false≢true f)) (λ d f. refl) (sym (D.wire_same m) ∙ e);
      unread_stays = λ m e. D.unread_stays m (updated_both (λ v. is_unread v ≡ true) s.stage x Unread m (λ d. refl) (λ d. e));
      others = λ i ne. ((D.others i ne).0 ∙ updated_off s.back j left i ne, (D.others i ne).1 ∙ updated_off s.unread j (s.unread j ++ (x ∷ [])) i ne);
      others_handed = λ q ne. D.others_handed q ne ∙ more_off s.handed (pair_of (R x)) q ne;
      shorter = omega (arith, D.shorter, hand_shorter);
      same_book = D.same_book ∙ omega (arith, hand_shorter, length_push (s.unread j) x, ap length (updated_here s.unread j (s.unread j ++ (x ∷ []))));
      none_ripe = D.none_ripe;
    }
      where
        j : ℕ
        j = (R x).addressee

        b : (is_handed (s.stage x) ≡ false) × (is_wire (s.stage x) ≡ false) × (is_read (s.stage x) ≡ false)
        b = stands_back (s.stage x) was.2

  hands_next : (R : ℕ → Row B) (n j : ℕ) (s : House B) → Core R s → length (s.back j) ≤ suc n
      → ((t : House B) → Core R t → length (t.back j) ≤ n → HandsRipe R j t (hand_ripe n j t).1)
      → (o : Option ℕ) → find (ripe_in s) (s.back j) ≡ o
      → HandsRipe R j s (option_map_or (λ x. one_more (hand_ripe n j (hand (s.rows x) x (without x (s.back j)) s))) o (0, s)).1
  hands_next R n j s C l later None e = hands_none j C (λ m h.
      subst (λ (r : Row B). ripe s.sizes.stations s.handed r ≡ false) (C.rows_are m (back_is C j m h).0) (find_none (ripe_in s) (s.back j) e m h))
  hands_next R n j s C l later (Some x) e =
      let f = find_some (ripe_in s) (s.back j) x e in
      let w = back_is C j x f.1 in
      let row = C.rows_are x w.0 in
      let rp = subst (λ (r : Row B). ripe s.sizes.stations s.handed r ≡ true) row f.0 in
      subst⁻¹ (λ (r : Row B). HandsRipe R j s (hand_ripe n j (hand r x (without x (s.back j)) s)).1) row
      (subst (λ i. 0 < times x (s.back i) → length (s.back i) ≤ suc n
      → ((t : House B) → Core R t → length (t.back i) ≤ n → HandsRipe R i t (hand_ripe n i t).1)
      → HandsRipe R i s (hand_ripe n i (hand (R x) x (without x (s.back i)) s)).1) w.1
      (λ there l later. hands_one x C there rp (later (hand (R x) x (without x (s.back (R x).addressee)) s) (hand_core x C there rp)
      (omega (arith, hand_shorter x C there rp))))
      f.1 l later)

  pub hands_ripe : (R : ℕ → Row B) (n j : ℕ) (s : House B) → Core R s → length (s.back j) ≤ n → HandsRipe R j s (hand_ripe n j s).1
  unfolding hand_ripe
  hands_ripe R zero j s C l = hands_none j C (λ m h.
      absurd (omega (arith, times_nil m, ap (times m) (nil_from_length (s.back j) (omega arith)))))
  hands_ripe R (suc n) j s C l = hands_next R n j s C l (λ t D k. hands_ripe R n j t D k) (find (ripe_in s) (s.back j)) refl
