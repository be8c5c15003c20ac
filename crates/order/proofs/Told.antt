-- What a history tells of the tables, and of itself: what was sent, what was read and what was taken in. Each call adds an entry to the
-- history, and keeps all of it.
use Rattle.std.proofs.Common.{◌≡◌, ℕ, suc, ◌<◌, Bool, true, false, ◌≢◌, ◌∷◌, Some, Ok, Err, sym, refl, ap, ◌∙◌, subst, inl, inr, ⊎_elim, arith}
use mathlib.Core.Path.{subst⁻¹}
use Rattle.std.proofs.lemmas.Bool.{cases_eq, both_ways}
use Rattle.rules.specs.declared.call.Call.TheVariants.{Send, Arrive, ReadNext}
use Rattle.rules.specs.declared.call.Arrived.TheVariants.{Handed, SentOn}
use Rattle.rules.specs.declared.call.Granted.TheVariants.{Named, Arrived, Got, Registered, Released, Settled}
use Rattle.rules.specs.House.{Row}
use Rattle.rules.specs.Steps.{Answer}
use Rattle.rules.specs.Runs.{Made, History, At}
use Rattle.rules.specs.Order.{Reads, Sent, Read, TakenIn, ReadBy, Link}
use Rattle.order.proofs.Basics.{lt_next, AtMost}
use Rattle.order.proofs.Books.{Below}
use Rattle.order.proofs.Knowing.{Had}

module _ {B : Type 0} where
  -- equal entries have equal calls and equal answers
  halves : {x y : Made B} → x ≡ y → (x.0 ≡ y.0) × (x.1 ≡ y.1)
  halves p = (ap (λ (x : Made B). x.0) p, ap (λ (x : Made B). x.1) p)

  -- what an answer tells: 1 that a message was sent, 2 that one was read, 3 that one was taken in, and 0 none of that
  abbrev pub kind : Answer B → ℕ
  kind (Ok (Named m)) = 1
  kind (Ok (Arrived (Handed n))) = 3
  kind (Ok (Arrived (SentOn s))) = 0
  kind (Ok (Got m b)) = 2
  kind (Ok (Registered s)) = 0
  kind (Ok (Released j s)) = 0
  kind (Ok (Settled s)) = 0
  kind (Err e) = 0

  kind_of : {x y : Made B} → x ≡ y → kind x.1 ≡ kind y.1
  kind_of p = ap (λ (x : Made B). kind x.1) p

  -- m stands under m': it is the older one, and the tag of m' counts m and all that the tag of m counts
  abbrev pub Under : (ℕ → Row B) → ℕ → ℕ → Type 0
  Under R m m' = (m < m') × AtMost (R m).tag (R m').tag × Below R m m'

  -- sent_in   what was sent has a row in use, which says so
  -- sent_out  every row in use was sent
  -- links     where the sender of a message had sent or read another, that one stands under it
  pub record Sents (R : ℕ → Row B) (u : ℕ) (h : History B) : Type 0 where
    pub sent_in : (a j : ℕ) (b : B) (m : ℕ) → Sent h a j b m → (m < u) × ((R m).sender ≡ a) × ((R m).addressee ≡ j) × ((R m).body ≡ Some b)
    pub sent_out : (m : ℕ) → m < u → (b : B) × Sent h (R m).sender (R m).addressee b m
    pub links : (m m' : ℕ) → Link h m m' → Under R m m'

  -- `is` tells which messages are read.
  -- read_in   what was read is marked as read, and its row says by whom and what
  -- read_out  what is marked as read was read by its addressee
  -- order     of two messages to one handset, of which one stands under the other, the later is read only after the earlier
  -- once      what is read had not been read before
  pub record Readings (R : ℕ → Row B) (u : ℕ) (is : ℕ → Bool) (h : History B) : Type 0 where
    pub read_in : (j : ℕ) (b : B) (m : ℕ) → Read h j b m → (m < u) × (is m ≡ true) × ((R m).addressee ≡ j) × ((R m).body ≡ Some b)
    pub read_out : (m : ℕ) → m < u → is m ≡ true → ReadBy h (R m).addressee m
    pub order : (m m' : ℕ) → Under R m m' → (R m).addressee ≡ (R m').addressee → (i : ℕ) (b : B) (h₀ : History B) → At h (Reads i b m') h₀
        → ReadBy h₀ (R m).addressee m
    pub once : (m j i : ℕ) (b : B) (h₀ : History B) → At h (Reads i b m) h₀ → ¬ ReadBy h₀ j m

  -- `is` tells which messages are on the wire.
  -- taken_in   what was taken in is in use and not on the wire
  -- taken_out  what is in use and not on the wire was taken in
  pub record Takings (u : ℕ) (is : ℕ → Bool) (h : History B) : Type 0 where
    pub taken_in : (m : ℕ) → TakenIn h m → (m < u) × (is m ≡ false)
    pub taken_out : (m : ℕ) → m < u → is m ≡ false → TakenIn h m

  -- sents, readings, takings   what the history tells of sent messages, of read ones and of those taken in; `is_read` and `is_wire` tell
  --                            which messages are read and which are on the wire
  pub record Told (R : ℕ → Row B) (u : ℕ) (is_read is_wire : ℕ → Bool) (h : History B) : Type 0 where
    pub sents : Sents R u h
    pub readings : Readings R u is_read h
    pub takings : Takings u is_wire h

  module _ {R : ℕ → Row B} {u : ℕ} {h : History B} (D : Sents R u h) where
    sents_skip : (e : Made B) → kind e.1 ≢ 1 → Sents R u (e ∷ h)
    sents_skip e never = record {
      sent_in = λ a j b m s. ⊎_elim (λ p. absurd (never (kind_of p.0))) (λ t. D.sent_in a j b m (s.0, t)) s.1;
      sent_out = λ m l. let w = D.sent_out m l in (w.0, (w.1.0, inr w.1.1));
      links = λ m m' s. ⊎_elim (λ p. absurd (never (kind_of p.0))) (λ t. D.links m m' (s.0, s.1, s.2, s.3, t, s.5)) s.4;
    }

    -- the message u is sent, and all that its sender had sent or read stands under it
    sents_send : {is : ℕ → Bool} (b : B) → (R u).body ≡ Some b → Readings R u is h → ((m : ℕ) → m < u → Had R is m (R u).sender → Under R m u)
        → Sents R (suc u) ((Send (R u).sender (R u).addressee b, Ok (Named u)) ∷ h)
    sents_send b body E under = record {
      sent_in = λ a j c m s. ⊎_elim
          (λ p. let e = halves p.0 in let eq : u ≡ m = cc in (omega arith, cc, cc, cc))
          (λ t. let w = D.sent_in a j c m (s.0, t) in (omega (arith, w.0), w.1, w.2, w.3)) s.1;
      sent_out = λ m l. ⊎_elim (λ k. let w = D.sent_out m k in (w.0, (w.1.0, inr w.1.1))) (λ eq. (b, (h, inl (cc, refl)))) (lt_next l);
      links = λ m m' s. ⊎_elim
          (λ p. let e = halves p.0 in let eq : u ≡ m' = cc in let by : s.0 ≡ (R u).sender = cc in subst (Under R m) eq (⊎_elim
          (λ q. let v = D.sent_in s.0 q.0 q.1 m (subst⁻¹ (λ g. Sent g s.0 q.0 q.1 m) p.1 q.2) in under m v.0 (inl (v.1 ∙ by)))
          (λ q. let v = E.read_in s.0 q.0 m (subst⁻¹ (λ g. Read g s.0 q.0 m) p.1 q.1) in under m v.0 (inr (v.1, v.2 ∙ by)))
          s.5))
          (λ t. D.links m m' (s.0, s.1, s.2, s.3, t, s.5)) s.4;
    }

  module _ {R : ℕ → Row B} {u : ℕ} {is : ℕ → Bool} {h : History B} (D : Readings R u is h) where
    readings_skip : (e : Made B) → kind e.1 ≢ 2 → Readings R u is (e ∷ h)
    readings_skip e never = record {
      read_in = λ j b m s. ⊎_elim (λ p. absurd (never (kind_of p.0))) (λ t. D.read_in j b m (s.0, t)) s.1;
      read_out = λ m l r. let w = D.read_out m l r in (w.0, (w.1.0, inr w.1.1));
      order = λ m m' r t i b h₀. ⊎_elim (λ p. absurd (never (kind_of p.0))) (D.order m m' r t i b h₀);
      once = λ m j i b h₀. ⊎_elim (λ p. absurd (never (kind_of p.0))) (D.once m j i b h₀);
    }

    readings_same : {is' : ℕ → Bool} → ((m : ℕ) → m < u → is' m ≡ is m) → Readings R u is' h
    readings_same e = record {
      read_in = λ j b m s. let w = D.read_in j b m s in (w.0, e m w.0 ∙ w.1, w.2, w.3);
      read_out = λ m l r. D.read_out m l (sym (e m l) ∙ r);
      order = D.order;
      once = D.once;
    }

    -- there is one more message, which is not read
    readings_wide : {is' : ℕ → Bool} → ((m : ℕ) → m < u → is' m ≡ is m) → is' u ≡ false → Readings R (suc u) is' h
    readings_wide {is'} e f = record {
      read_in = λ j b m s. let w = D.read_in j b m s in (omega (arith, w.0), e m w.0 ∙ w.1, w.2, w.3);
      read_out = λ m l r. ⊎_elim (λ k. D.read_out m k (sym (e m k) ∙ r)) (λ eq. absurd (both_ways _ (ap is' eq ∙ f) r)) (lt_next l);
      order = D.order;
      once = D.once;
    }

    -- the addressee of x reads it, having read all messages to it that stand under x
    readings_read : {is' : ℕ → Bool} (x : ℕ) (b : B) → x < u → (R x).body ≡ Some b → is x ≡ false → is' x ≡ true → ((m : ℕ) → m ≢ x → is' m ≡ is m)
        → ((m : ℕ) → Under R m x → (R m).addressee ≡ (R x).addressee → is m ≡ true) → Readings R u is' ((ReadNext (R x).addressee, Ok (Got x b)) ∷ h)
    readings_read {is'} x b hx body was now kept under = record {
      read_in = λ j c m s. ⊎_elim
          (λ p. let e = halves p.0 in let eq : x ≡ m = cc in (subst (λ y. y < u) eq hx, ap is' (sym eq) ∙ now, cc, cc))
          (λ t. let w = D.read_in j c m (s.0, t) in (w.0, stays m w.1, w.2, w.3)) s.1;
      read_out = λ m l r. ⊎_elim (λ eq. (b, (h, inl (cc, refl))))
          (λ ne. let w = D.read_out m l (sym (kept m ne) ∙ r) in (w.0, (w.1.0, inr w.1.1))) (cases_eq m x);
      order = λ m m' r t i c h₀. ⊎_elim
          (λ p. let e = halves p.0 in let eq : m' ≡ x = cc in let low : m < x = subst (λ y. m < y) eq r.0 in
          subst (λ g. ReadBy g (R m).addressee m) p.1 (D.read_out m (omega arith) (under m (subst (Under R m) eq r) (t ∙ ap (λ y. (R y).addressee) eq))))
          (D.order m m' r t i c h₀);
      once = λ m j i c h₀. ⊎_elim
          (λ p again. let e = halves p.0 in let eq : x ≡ m = cc in
          let v = D.read_in j again.0 m (subst⁻¹ (λ g. Read g j again.0 m) p.1 again.1) in both_ways _ (ap is (sym eq) ∙ was) v.1)
          (D.once m j i c h₀);
    }
      where
        stays : (m : ℕ) → is m ≡ true → is' m ≡ true
        stays m r = ⊎_elim (λ eq. ap is' eq ∙ now) (λ ne. kept m ne ∙ r) (cases_eq m x)

  module _ {u : ℕ} {is : ℕ → Bool} {h : History B} (D : Takings u is h) where
    takings_skip : (e : Made B) → kind e.1 ≢ 3 → Takings u is (e ∷ h)
    takings_skip e never = record {
      taken_in = λ m s. ⊎_elim (λ p. absurd (never (kind_of p.0.1))) (λ t. D.taken_in m (s.0, t)) s.1;
      taken_out = λ m l r. let w = D.taken_out m l r in (w.0, inr w.1);
    }

    takings_same : {is' : ℕ → Bool} → ((m : ℕ) → m < u → is' m ≡ is m) → Takings u is' h
    takings_same e = record {
      taken_in = λ m s. let w = D.taken_in m s in (w.0, e m w.0 ∙ w.1);
      taken_out = λ m l r. D.taken_out m l (sym (e m l) ∙ r);
    }

    -- there is one more message, which is on the wire
    takings_wide : {is' : ℕ → Bool} → ((m : ℕ) → m < u → is' m ≡ is m) → is' u ≡ true → Takings (suc u) is' h
    takings_wide {is'} e f = record {
      taken_in = λ m s. let w = D.taken_in m s in (omega (arith, w.0), e m w.0 ∙ w.1);
      taken_out = λ m l r. ⊎_elim (λ k. D.taken_out m k (sym (e m k) ∙ r)) (λ eq. absurd (both_ways _ r (ap is' eq ∙ f))) (lt_next l);
    }

    -- the message x is taken in
    takings_take : {is' : ℕ → Bool} (x n : ℕ) → x < u → is' x ≡ false → ((m : ℕ) → m ≢ x → is' m ≡ is m) → Takings u is' ((Arrive x, Ok (Arrived (Handed n))) ∷ h)
    takings_take {is'} x n hx now kept = record {
      taken_in = λ m s. ⊎_elim
          (λ p. let e = halves p.0.1 in let eq : x ≡ m = cc in (subst (λ y. y < u) eq hx, ap is' (sym eq) ∙ now))
          (λ t. let w = D.taken_in m (s.0, t) in (w.0, ⊎_elim (λ eq. ap is' eq ∙ now) (λ ne. kept m ne ∙ w.1) (cases_eq m x))) s.1;
      taken_out = λ m l r. ⊎_elim (λ eq. (h, inl ((n, cc), refl)))
          (λ ne. let w = D.taken_out m l (sym (kept m ne) ∙ r) in (w.0, inr w.1)) (cases_eq m x);
    }

  module _ {R : ℕ → Row B} {u : ℕ} {rd wr : ℕ → Bool} {h : History B} (D : Told R u rd wr h) where
    -- an entry that sends, reads and takes in nothing
    pub told_skip : {rd' wr' : ℕ → Bool} (e : Made B) → kind e.1 ≡ 0 → ((m : ℕ) → m < u → rd' m ≡ rd m) → ((m : ℕ) → m < u → wr' m ≡ wr m)
        → Told R u rd' wr' (e ∷ h)
    told_skip e k er ew = record {
      sents = sents_skip D.sents e (omega arith);
      readings = readings_same (readings_skip D.readings e (omega arith)) er;
      takings = takings_same (takings_skip D.takings e (omega arith)) ew;
    }

    pub told_send : {rd' wr' : ℕ → Bool} (b : B) → (R u).body ≡ Some b → ((m : ℕ) → m < u → Had R rd m (R u).sender → Under R m u)
        → ((m : ℕ) → m < u → rd' m ≡ rd m) → rd' u ≡ false → ((m : ℕ) → m < u → wr' m ≡ wr m) → wr' u ≡ true
        → Told R (suc u) rd' wr' ((Send (R u).sender (R u).addressee b, Ok (Named u)) ∷ h)
    told_send b body under er ru ew wu = record {
      sents = sents_send D.sents b body D.readings under;
      readings = readings_wide (readings_skip D.readings _ (omega arith)) er ru;
      takings = takings_wide (takings_skip D.takings _ (omega arith)) ew wu;
    }

    pub told_read : {rd' wr' : ℕ → Bool} (x : ℕ) (b : B) → x < u → (R x).body ≡ Some b → rd x ≡ false → rd' x ≡ true → ((m : ℕ) → m ≢ x → rd' m ≡ rd m)
        → ((m : ℕ) → m < u → wr' m ≡ wr m) → ((m : ℕ) → Under R m x → (R m).addressee ≡ (R x).addressee → rd m ≡ true)
        → Told R u rd' wr' ((ReadNext (R x).addressee, Ok (Got x b)) ∷ h)
    told_read x b hx body was now er ew under = record {
      sents = sents_skip D.sents _ (omega arith);
      readings = readings_read D.readings x b hx body was now er under;
      takings = takings_same (takings_skip D.takings _ (omega arith)) ew;
    }

    pub told_take : {rd' wr' : ℕ → Bool} (x n : ℕ) → x < u → wr' x ≡ false → ((m : ℕ) → m < u → rd' m ≡ rd m) → ((m : ℕ) → m ≢ x → wr' m ≡ wr m)
        → Told R u rd' wr' ((Arrive x, Ok (Arrived (Handed n))) ∷ h)
    told_take x n hx now er ew = record {
      sents = sents_skip D.sents _ (omega arith);
      readings = readings_same (readings_skip D.readings _ (omega arith)) er;
      takings = takings_take D.takings x n hx now ew;
    }
