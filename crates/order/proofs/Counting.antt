-- The counting part: whatever a table counts was sent, and each message has a number of its own. Sending, a station that learns more
-- and a handset that carries counts keep that.
use Rattle.std.proofs.Common.{◌≡◌, ℕ, suc, ◌<◌, ◌≤◌, sym, refl, ap, ◌∙◌, subst, ⊎_elim, lt_of_lt_of_le, not-suc-le-zero, arith}
use mathlib.Core.Path.{subst⁻¹}
use Rattle.tally.specs.declared.pair.Pair.{Pair}
use Rattle.tally.specs.Counts.{Counts, none, raised, larger}
use Rattle.rules.specs.Functions.{updated}
use Rattle.rules.specs.House.{Row}
use Rattle.rules.specs.Asking.{pair_of}
use Rattle.order.proofs.Basics.{updated_here, updated_both, lt_next, AtMost, grows, raised_grows, raised_here, below_raised, below_larger}

module _ {B : Type 0} where
  -- a message's number among those from its station to its addressee, counted from 0
  abbrev pub number : (ℕ → Row B) → ℕ → ℕ
  number R m = (R m).tag (pair_of (R m))

  -- a message with a name below u is counted at the pair q and has the number n there
  abbrev pub Was : (ℕ → Row B) → ℕ → Pair → ℕ → Type 0
  Was R u q n = (x : ℕ) × (x < u) × (pair_of (R x) ≡ q) × (number R x ≡ n)

  -- of whatever c counts there is a message with a name below u
  abbrev pub Backed : (ℕ → Row B) → ℕ → Counts → Type 0
  Backed R u c = (q : Pair) (n : ℕ) → n < c q → Was R u q n

  -- the counts of the stations after the message with the row r was sent
  abbrev pub counts_sent : (ℕ → Counts) → Row B → ℕ → Counts
  counts_sent counts r = updated counts r.station (raised (counts r.station) (pair_of r) (suc (counts r.station (pair_of r))))

  -- stations, carriers   what a station counts, and what a handset carries, was sent
  -- tags                 what a message's tag counts was sent before it
  -- below_own            a message's sending station counts it
  -- one_each             no two messages from a station to a handset have one number
  pub record Counted (R : ℕ → Row B) (used : ℕ) (counts carried : ℕ → Counts) : Type 0 where
    pub stations : (p : ℕ) → Backed R used (counts p)
    pub carriers : (j : ℕ) → Backed R used (carried j)
    pub tags : (m : ℕ) → m < used → Backed R m (R m).tag
    pub below_own : (m : ℕ) → m < used → number R m < counts (R m).station (pair_of (R m))
    pub one_each : (m x : ℕ) → m < used → x < used → pair_of (R m) ≡ pair_of (R x) → number R m ≡ number R x → m ≡ x

  module _ (R : ℕ → Row B) where
    pub backed_wide : (u v : ℕ) (c : Counts) → u ≤ v → Backed R u c → Backed R v c
    backed_wide u v c h b q n l = let w = b q n l in (w.0, omega (arith, w.1), w.2, w.3)

    pub backed_none : (u : ℕ) → Backed R u none
    backed_none u q n l = absurd (not-suc-le-zero l)

    pub backed_larger : (u : ℕ) (c d : Counts) → Backed R u c → Backed R u d → Backed R u (larger c d)
    backed_larger u c d b e q n l = ⊎_elim (b q n) (e q n) (below_larger c d q n l)

    -- the message x is the next after those that d counts at its pair; its pair is raised, to count x too
    pub backed_next : (u : ℕ) (c d : Counts) (x : ℕ) → Backed R u c → Backed R u d → x < u → number R x ≡ d (pair_of (R x))
        → Backed R u (raised c (pair_of (R x)) (suc (d (pair_of (R x)))))
    backed_next u c d x b e h is q n l = ⊎_elim (b q n)
        (λ s. subst⁻¹ (λ y. Was R u y n) s.0 (⊎_elim (e (pair_of (R x)) n) (λ eq. (x, h, refl, is ∙ sym eq)) (lt_next s.1)))
        (below_raised c (pair_of (R x)) (suc (d (pair_of (R x)))) q n l)

  module _ {R : ℕ → Row B} {u : ℕ} {counts carried : ℕ → Counts} (C : Counted R u counts carried) where
    -- the message u is sent
    pub counted_send : (R u).tag ≡ counts (R u).station → Counted R (suc u) (counts_sent counts (R u)) carried
    counted_send tagged = record {
      stations = λ p. updated_both (Backed R (suc u)) counts l after p
          (λ e. backed_next R (suc u) (counts l) (counts l) u (wide (C.stations l)) (wide (C.stations l)) (omega arith) is)
          (λ e. wide (C.stations p));
      carriers = λ j. wide (C.carriers j);
      tags = λ m h. ⊎_elim (C.tags m) (λ eq. subst⁻¹ (λ x. Backed R x (R x).tag) eq (subst⁻¹ (Backed R u) tagged (C.stations l))) (lt_next h);
      below_own = λ m h. ⊎_elim
          (λ lt. lt_of_lt_of_le (C.below_own m lt) (grows counts l after (raised_grows (counts l) q (suc (counts l q))) (R m).station (pair_of (R m))))
          (λ eq. subst⁻¹ (λ x. number R x < counts_sent counts (R u) (R x).station (pair_of (R x))) eq own) (lt_next h);
      one_each = λ m x hm hx ep en. ⊎_elim
          (λ lm. ⊎_elim (λ lx. C.one_each m x lm lx ep en) (λ ex. absurd (clash m x lm ex ep en)) (lt_next hx))
          (λ em. ⊎_elim (λ lx. absurd (clash x m lx em (sym ep) (sym en))) (λ ex. em ∙ sym ex) (lt_next hx)) (lt_next hm);
    }
      where
        l : ℕ
        l = (R u).station

        q : Pair
        q = pair_of (R u)

        after : Counts
        after = raised (counts l) q (suc (counts l q))

        wide : {c : Counts} → Backed R u c → Backed R (suc u) c
        wide {c} = backed_wide R u (suc u) c (omega arith)

        is : number R u ≡ counts l q
        is = ap (λ (c : Counts). c q) tagged

        own : number R u < counts_sent counts (R u) l q
        own = omega (arith, is, ap (λ (c : Counts). c q) (updated_here counts l after), raised_here (counts l) q (suc (counts l q)))

        clash : (m x : ℕ) → m < u → x ≡ u → pair_of (R m) ≡ pair_of (R x) → number R m ≡ number R x → ⊥
        clash m x lm ex ep en =
            let to : pair_of (R m) ≡ q = ep ∙ ap (λ y. pair_of (R y)) ex in
            omega (arith, is, ap (number R) ex, subst (λ (y : Pair). number R m < counts y.station y) to (C.below_own m lm))

    -- a station's counts become c, which is no smaller
    pub counted_more : (l : ℕ) (c : Counts) → Backed R u c → AtMost (counts l) c → Counted R u (updated counts l c) carried
    counted_more l c b g = record {
      stations = λ p. updated_both (Backed R u) counts l c p (λ e. b) (λ e. C.stations p);
      carriers = C.carriers;
      tags = C.tags;
      below_own = λ m h. lt_of_lt_of_le (C.below_own m h) (grows counts l c g (R m).station (pair_of (R m)));
      one_each = C.one_each;
    }

    -- a handset carries the counts c
    pub counted_carry : (j : ℕ) (c : Counts) → Backed R u c → Counted R u counts (updated carried j c)
    counted_carry j c b = record {
      stations = C.stations;
      carriers = λ i. updated_both (Backed R u) carried j c i (λ e. b) (λ e. C.carriers i);
      tags = C.tags;
      below_own = C.below_own;
      one_each = C.one_each;
    }
