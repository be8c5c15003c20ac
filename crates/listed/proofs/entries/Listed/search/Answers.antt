use Rattle.std.specs.Prelude.{ℕ}
use Rattle.std.proofs.Common.{ap, ◌∙◌, rules}
use Rattle.std.proofs.lemmas.List.Sorted.{answers_always}
use Rattle.tally.specs.declared.pair.Pair.{Pair}
use Rattle.tally.specs.Pairs.{rank}
use Rattle.listed.specs.Entries.{InOrder}
use Rattle.listed.specs.Listing.{sought}
use Rattle.listed.proofs.Searching.{searched}
use Rattle.listed.proofs.entries.Listed.search.Goals as goal

-- the closure gives the place of an entry's pair
pub returns : goal.returns
returns c =
    let facts = c.binary_search_by_key.ensures in
    let ordered : InOrder c.list.result.now = rw c.list.ensures c.args.self.now.ordered in
    let by_place = facts.position (λ (e : Pair × ℕ). rank e.0) (answers_always _ _ _ (λ f a r g called. search rules)) in
    searched c.list.result.now ordered c.args.pair c.requires _ facts.bound (rw c.rank.ensures at by_place) ∙ ap (λ es. sought es c.args.pair) c.list.ensures
