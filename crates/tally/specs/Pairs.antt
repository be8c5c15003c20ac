-- Pairs of a station and a handset, and their order.
--
--   inside       a pair is in range: its station is below 8 and its handset below 32
--   pairs        how many pairs are in range
--   same         two pairs are one and the same
--   at_or_after  in the order by station and then handset, a pair stands at another or after it
--   rank         a pair's place in that order, counted from 0
--   pair_at      the pair in range at a place; past the last place the order begins anew
--   start        the place of the first pair in range that stands at a pair or after it
--   after        the pair that comes next, of all whose station and handset are at most 255; the last is its own next
use Rattle.std.specs.Prelude.{ℕ, ◌+◌, ◌*◌, ◌/◌, ◌%◌, min, Bool, cond, ◌&&◌, ◌||◌, ◌==◌, nat_le, nat_lt}
use Rattle.tally.specs.declared.pair.Pair.{Pair}

abbrev pub inside : Pair → Bool
inside p = nat_lt p.station 8 && nat_lt p.handset 32

abbrev pub pairs : ℕ
pairs = 256

abbrev pub same : Pair → Pair → Bool
same p q = p.station == q.station && p.handset == q.handset

-- q stands at p or after it
abbrev pub at_or_after : Pair → Pair → Bool
at_or_after p q = nat_lt p.station q.station || (p.station == q.station && nat_le p.handset q.handset)

abbrev pub rank : Pair → ℕ
rank p = p.station * 32 + p.handset

abbrev pub pair_at : ℕ → Pair
pair_at n = record { station = n / 32 % 8; handset = n % 32 }

-- 256 or more where no pair in range stands there
abbrev pub start : Pair → ℕ
start p = p.station * 32 + min p.handset 32

abbrev pub after : Pair → Pair
after p =
    cond (nat_lt p.handset 255) (record { station = p.station; handset = p.handset + 1 })
    (cond (nat_lt p.station 255) (record { station = p.station + 1; handset = 0 }) p)
