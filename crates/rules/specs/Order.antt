-- The words of the law about the order of messages, over a history of calls and the house that it leaves.
--
--   Sends, Reads, TakesIn    a call with its answer: handset a sends m to handset j; handset j reads m; m arrives and the
--                            answer is how many were handed
--   Sent, Read, TakenIn      there is such a call in the history
--   OnWire       m is sent and not taken in
--   Before       m came before m': a chain of messages leads from m to m', and the sender of each next one had sent or read
--                the one ahead of it by an earlier call (the field's word is causal order)
--   Oldest       of the messages to handset j that are not handed, m has the lowest name
--
-- The law:
--
--   InOrder         of two messages to one handset of which one came before the other, the later is read only after the
--                    earlier
--   AsSent          a message's row says what was sent, and by whom to whom; what is read is what was sent
--   InOnePlace      a message sent is on the wire, standing back, unread or read, in just one of them, as its row says; its
--                    addressee's lists hold it at most once, and no other handset's lists hold it
--   ReadOnce        only its addressee reads a message, and once
--   OldestGoes      the oldest message that is not handed does not stand back; if it heads for the station that holds its
--                    addressee, an arrive call hands it over unless the book is full
--   FullHasUnread   a full book has something unread
use Rattle.std.specs.Prelude.{◌≡◌, ℕ, suc, ◌+◌, ◌<◌, ◌≤◌, Bool, true, false, ◌≢◌, ◌⊎◌, ◌↔◌, length, Some, Ok}
use Rattle.tally.specs.Counts.{Counts}
use Rattle.rules.specs.declared.place.Stage.TheVariants.{Wire}
use Rattle.rules.specs.declared.call.Call.TheVariants.{Send, Arrive, ReadNext}
use Rattle.rules.specs.declared.call.Arrived.TheVariants.{Handed}
use Rattle.rules.specs.declared.call.Granted.TheVariants.{Named, Arrived, Got}
use Rattle.rules.specs.Functions.{times}
use Rattle.rules.specs.Places.{holds, is_wire, is_back, is_unread, is_read, is_handed}
use Rattle.rules.specs.House.{House}
use Rattle.rules.specs.Sound.{book}
use Rattle.rules.specs.Steps.{step}
use Rattle.rules.specs.Runs.{Made, History, At}

module _ {B : Type 0} where
  abbrev pub Sends : ℕ → ℕ → B → ℕ → Made B → Type 0
  Sends a j b m x = x ≡ (Send a j b, Ok (Named m))

  abbrev pub Reads : ℕ → B → ℕ → Made B → Type 0
  Reads j b m x = x ≡ (ReadNext j, Ok (Got m b))

  abbrev pub TakesIn : ℕ → Made B → Type 0
  TakesIn m x = (n : ℕ) × (x ≡ (Arrive m, Ok (Arrived (Handed n))))

  abbrev pub Sent : History B → ℕ → ℕ → B → ℕ → Type 0
  Sent h a j b m = (h₀ : History B) × At h (Sends a j b m) h₀

  abbrev pub Read : History B → ℕ → B → ℕ → Type 0
  Read h j b m = (h₀ : History B) × At h (Reads j b m) h₀

  abbrev pub TakenIn : History B → ℕ → Type 0
  TakenIn h m = (h₀ : History B) × At h (TakesIn m) h₀

  -- handset a has sent m; m was sent to handset j; handset j has read m
  abbrev pub SentBy : History B → ℕ → ℕ → Type 0
  SentBy h a m = (j : ℕ) × (b : B) × Sent h a j b m

  abbrev pub SentTo : History B → ℕ → ℕ → Type 0
  SentTo h j m = (a : ℕ) × (b : B) × Sent h a j b m

  abbrev pub ReadBy : History B → ℕ → ℕ → Type 0
  ReadBy h j m = (b : B) × Read h j b m

  abbrev pub OnWire : History B → ℕ → Type 0
  OnWire h m = ((j : ℕ) × SentTo h j m) × ¬ TakenIn h m

  -- one link of a chain: the sender of m' had sent or read m
  abbrev pub Link : History B → ℕ → ℕ → Type 0
  Link h m m' = (a : ℕ) × (j : ℕ) × (b : B) × (h₀ : History B) × At h (Sends a j b m') h₀ × (SentBy h₀ a m ⊎ ReadBy h₀ a m)

  pub data Before (h : History B) : ℕ → ℕ → Type 0 where
    link : {m m' : ℕ} → Link h m m' → Before h m m'
    chain : {m m₁ m' : ℕ} → Before h m m₁ → Link h m₁ m' → Before h m m'

  abbrev pub InOrder : History B → Type 0
  InOrder h =
      (m m' j : ℕ) → SentTo h j m → SentTo h j m' → Before h m m'
      → (i : ℕ) (b : B) (h₀ : History B) → At h (Reads i b m') h₀ → ReadBy h₀ j m

  abbrev pub AsSent : History B → House B → Type 0
  AsSent h s =
      (m a j : ℕ) (b : B) → Sent h a j b m
      → ((s.rows m).sender ≡ a) × ((s.rows m).addressee ≡ j) × ((s.rows m).body ≡ Some b) × ((i : ℕ) (c : B) → Read h i c m → c ≡ b)

  pub record Placed (h : History B) (s : House B) (j m : ℕ) : Type 0 where
    pub on_wire : (is_wire (s.stage m) ≡ true) ↔ OnWire h m
    pub back : (is_back (s.stage m) ≡ true) ↔ (0 < times m (s.back j))
    pub unread : (is_unread (s.stage m) ≡ true) ↔ (0 < times m (s.unread j))
    pub read : (is_read (s.stage m) ≡ true) ↔ ReadBy h j m
    pub once : times m (s.unread j) + times m (s.back j) ≤ 1
    pub elsewhere : (i : ℕ) → i ≢ j → (times m (s.unread i) ≡ 0) × (times m (s.back i) ≡ 0)

  abbrev pub InOnePlace : History B → House B → Type 0
  InOnePlace h s = (m j : ℕ) → SentTo h j m → Placed h s j m

  abbrev pub ReadOnce : History B → Type 0
  ReadOnce h =
      (m j i : ℕ) (b : B) (h₀ : History B) → SentTo h j m → At h (Reads i b m) h₀ → (i ≡ j) × ¬ ReadBy h₀ j m

  abbrev pub Oldest : History B → House B → ℕ → ℕ → Type 0
  Oldest h s j m =
      SentTo h j m × (is_handed (s.stage m) ≡ false) × ((x : ℕ) → x < m → SentTo h j x → is_handed (s.stage x) ≡ true)

  module _ (fits : Counts → Bool) where
    -- an arrive call for m hands it over, with what that makes ripe
    abbrev pub HandedOver : House B → ℕ → Type 0
    HandedOver s m = ((n : ℕ) × ((step fits s (Arrive m)).0 ≡ Ok (Arrived (Handed (suc n))))) × (is_unread ((step fits s (Arrive m)).1.stage m) ≡ true)

    abbrev pub OldestGoes : History B → House B → Type 0
    OldestGoes h s =
        (j m : ℕ) → Oldest h s j m
        → (times m (s.back j) ≡ 0)
        × ((p : ℕ) → s.stage m ≡ Wire p → holds p (s.place j) ≡ true → book s j < s.sizes.places → HandedOver s m)

  abbrev pub FullHasUnread : House B → Type 0
  FullHasUnread s = (j : ℕ) → s.sizes.places ≤ book s j → 0 < length (s.unread j)

-- the whole law, of a history and the house that it leaves
pub record Law {B : Type 0} (fits : Counts → Bool) (h : History B) (s : House B) : Type 0 where
  pub in_order : InOrder h
  pub as_sent : AsSent h s
  pub in_one_place : InOnePlace h s
  pub read_once : ReadOnce h
  pub oldest_goes : OldestGoes fits h s
  pub full_has_unread : FullHasUnread s
