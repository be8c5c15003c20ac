use Rattle.std.proofs.Common.{rules}
use Rattle.book.proofs.Lending.{put_leaves}
use Rattle.book.proofs.Row.put_in.Goals as goal

pub returns-clause-leaves : goal.returns-clause-leaves
returns-clause-leaves g c = search (rules, put_leaves)
