-- What holds of a house and its history between any two calls. A denied call keeps it.
use Rattle.std.proofs.Common.{◌≡◌, ℕ, ◌<◌, ◌≤◌, false, ◌∷◌, length, refl, Err}
use Rattle.rules.specs.declared.fault.HouseFault.{HouseFault}
use Rattle.rules.specs.declared.call.Call.{Call}
use Rattle.rules.specs.Functions.{times}
use Rattle.rules.specs.Places.{is_wire, is_read}
use Rattle.rules.specs.House.{Row, House}
use Rattle.rules.specs.Sound.{book}
use Rattle.rules.specs.Asking.{ripe}
use Rattle.rules.specs.Runs.{History}
use Rattle.order.proofs.Told.{Told, told_skip}
use Rattle.order.proofs.Core.{Core}

module _ {B : Type 0} where
  -- none_ripe  no message that stands back is ripe
  -- gap        a back list leaves at least one place of its book free
  -- in_book    a book holds no more than it has places
  pub record Quiet (R : ℕ → Row B) (s : House B) : Type 0 where
    pub none_ripe : (j m : ℕ) → 0 < times m (s.back j) → ripe s.sizes.stations s.handed (R m) ≡ false
    pub gap : (j : ℕ) → length (s.back j) < s.sizes.places
    pub in_book : (j : ℕ) → book s j ≤ s.sizes.places

  -- R is the roll as it will be at the end of a run.
  -- core   what holds of the house after every handing of a message
  -- quiet  what holds of it only after all ripe messages have been handed
  -- told   what the history tells of it
  pub record Invariant (R : ℕ → Row B) (h : History B) (s : House B) : Type 0 where
    pub core : Core R s
    pub quiet : Quiet R s
    pub told : Told R s.used (λ m. is_read (s.stage m)) (λ m. is_wire (s.stage m)) h

  pub keep_denied : {R : ℕ → Row B} {h : History B} {s : House B} (c : Call B) (e : HouseFault) → Invariant R h s → Invariant R ((c, Err e) ∷ h) s
  keep_denied c e I = record { core = I.core; quiet = I.quiet; told = told_skip I.told (c, Err e) refl (λ m l. refl) (λ m l. refl) }
