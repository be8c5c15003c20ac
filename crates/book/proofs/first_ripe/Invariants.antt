use Rattle.std.proofs.Common.{◌≡◌, ℕ, ◌<◌, true, false, get_or}
use Rattle.book.specs.Ripening.{ripe_for, tag_of}
use Rattle.book.proofs.first_ripe.Given as goal

-- the stations compared so far do not fall short
abbrev pub invariant-loop-station : goal.invariant-loop-station
invariant-loop-station g l = ripe_for l.station (λ i. get_or l.handed i 0) l.handset (g.T.Tally.counts l.tag) ≡ true

-- none of the names before is ripe
abbrev pub invariant-names : goal.invariant-names
invariant-names g l = (k : ℕ) → k < l.at →
    ripe_for l.stations (λ i. get_or l.handed i 0) l.handset (tag_of g.T.Tally.counts l.roll (get_or l.names k 0)) ≡ false
