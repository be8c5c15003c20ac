use Rattle.std.proofs.Common.{sym, rules}
use Rattle.listed.specs.Listing.{listed}
use Rattle.std.proofs.lemmas.Result.{MatchResult-weaker}
use Rattle.listed.proofs.Raising.{count_found}
use Rattle.listed.specs.Laws.{in_order_ranged}
use Rattle.listed.proofs.ListedTally.count.Goals as goal

pub returns-then-not-in_range : goal.returns-then-not-in_range
returns-then-not-in_range c = sym (in_order_ranged (listed c.args.self.now) c.args.self.now.ordered c.args.pair (sym c.if-not-in_range.ensures))

pub returns : goal.returns
returns c =
    count_found c.args.self.now c.args.pair (sym c.if-not-in_range.ensures) c.search.result c.search.ensures c.map_or.result
    (MatchResult-weaker c.search.result c.map_or.ensures (λ at h. search rules) (λ _ h. h))
