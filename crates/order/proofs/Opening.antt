-- What holds between calls holds of a house that was just opened.
use Rattle.std.proofs.Common.{◌≡◌, ℕ, ◌<◌, ◌≤◌, leb, List, [], None, refl, not-suc-le-zero, arith}
use Rattle.std.proofs.lemmas.Bool.{and_parts, leb-true}
use Rattle.rules.specs.Functions.{times}
use Rattle.rules.specs.House.{Row, Sizes, House}
use Rattle.rules.specs.Opening.{opening_refusal, opened}
use Rattle.order.proofs.Lists.{times_nil}
use Rattle.order.proofs.Counting.{backed_none}
use Rattle.order.proofs.Invariant.{Invariant}
use Rattle.order.proofs.InHouse.{in_opened}

-- an empty list holds nothing
nowhere : (m : ℕ) → 0 < times m [] → ⊥
nowhere m t = omega (arith, times_nil m)

module _ {B : Type 0} where
  pub opened_holds : (s : House B) (z : Sizes) (l : List ℕ) → opening_refusal z l ≡ None → (R : ℕ → Row B) → Invariant R [] (opened z l s)
  opened_holds s z l e R = record {
    core = record {
      rows_are = λ m l. absurd (not-suc-le-zero l);
      counted = record {
        stations = λ p. backed_none R 0;
        carriers = λ j. backed_none R 0;
        tags = λ m l. absurd (not-suc-le-zero l);
        below_own = λ m l. absurd (not-suc-le-zero l);
        one_each = λ m x l. absurd (not-suc-le-zero l);
      };
      handing = record {
        from_house = λ m l. absurd (not-suc-le-zero l);
        done = λ m l. absurd (not-suc-le-zero l);
        done_if = λ m l. absurd (not-suc-le-zero l);
        still_ripe = λ m l. absurd (not-suc-le-zero l);
        few = λ q. omega arith;
      };
      unread_side = record { own = λ m l. absurd (not-suc-le-zero l); only = λ j m t. absurd (nowhere m t) };
      back_side = record { own = λ m l. absurd (not-suc-le-zero l); only = λ j m t. absurd (nowhere m t) };
      in_order = λ j. tt;
      knowing = record { knows = λ m a l. absurd (not-suc-le-zero l) };
      noticed = record { told = λ p j. refl; right = λ p. tt };
    };
    quiet = record { none_ripe = λ j m t. absurd (nowhere m t); gap = λ j. omega (arith, two); in_book = λ j. omega arith };
    told = record {
      sents = record { sent_in = λ a j b m t. absurd t.1; sent_out = λ m l. absurd (not-suc-le-zero l); links = λ m m' t. absurd t.4 };
      readings = record {
        read_in = λ j b m t. absurd t.1;
        read_out = λ m l. absurd (not-suc-le-zero l);
        order = λ m m' r to i b h₀ t. absurd t;
        once = λ m j i b h₀ t. absurd t;
      };
      takings = record { taken_in = λ m t. absurd t.1; taken_out = λ m l. absurd (not-suc-le-zero l) };
    };
  }
    where
      two : 2 ≤ z.places
      two = leb-true 2 z.places (and_parts (leb 2 z.places) (leb z.places 64) (in_opened s z l e).shape_right.1.1.1.0).0
