use Rattle.std.specs.Prelude.{ℕ, nat_lt}
use Rattle.std.proofs.Common.{ap, ◌∙◌, rules}
use Rattle.std.proofs.lemmas.List.Sorted.{IsPartitionPoint-from_clause, IsPartitionedBy-ltb}
use Rattle.tally.specs.declared.pair.Pair.{Pair}
use Rattle.tally.specs.Pairs.{rank}
use Rattle.listed.specs.Entries.{InOrder, seek}
use Rattle.listed.proofs.Searching.{rising, parted_at}
use Rattle.listed.proofs.entries.Listed.position.Goals as goal

pub returns : goal.returns
returns c =
    let facts = c.partition_point.ensures in
    let ordered : InOrder c.list.result.now = rw c.list.ensures c.args.self.now.ordered in
    let parts = IsPartitionPoint-from_clause (λ (e : Pair × ℕ). nat_lt (rank e.0) c.args.rank) c.list.result.now c.partition_point.result facts.partitioned
    (IsPartitionedBy-ltb (λ (e : Pair × ℕ). rank e.0) c.list.result.now c.args.rank (rising c.list.result.now ordered))
    (λ a r f' called. search rules) in
    parted_at c.list.result.now c.args.rank c.partition_point.result facts.bound parts ∙ ap (seek c.args.rank) c.list.ensures
