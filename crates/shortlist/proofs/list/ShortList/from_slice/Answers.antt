use Rattle.std.proofs.Common.{length, replicate, drop, ap, ◌∙◌}
use Rattle.std.proofs.lemmas.List.{take_at, drop_at, drop-replicate}
use Rattle.shortlist.proofs.list.ShortList.from_slice.Goals as goal

pub returns : goal.returns
returns g c =
    let xs = c.args.xs.now in
    let n = length xs in
    let behind = drop n (replicate g.row.N c.args.blank) in
    let long = ap length c.copy_from_slice.ensures.after in (
      take_at c.copy_from_slice.new.self behind n long ∙ c.copy_from_slice.ensures.after,
      drop_at c.copy_from_slice.new.self behind n long ∙ drop-replicate n g.row.N c.args.blank,
    )
