use Rattle.rules.specs.Steps.{notice}
use Rattle.tables.specs.View.{whole}
use Rattle.tables.proofs.Changing.{column_read}
use Rattle.house.proofs.Held.{take_became}
use Rattle.house.proofs.Queued.{notices_fit}
use Rattle.house.proofs.Views.{notices_view}
use Rattle.house.proofs.queues.take_notice.Goals as goal

pub returns : goal.returns
returns g c =
    let w = whole c.args.tables.now in let i = c.args.station in let counts = g.T.Tally.counts in let next = c.take_in.new in
    notices_view counts w i c.requires.there _ next.len next.places _
    (take_became (notice 0 0) i w.head.numbers.handsets w.notices _ (notices_fit counts w c.requires.stands.bounded i c.requires.there) c.args.at _ next.len next.places
    (column_read (λ x. x.notices) 0 w.stations i _ c.requires.there) c.requires.stands.stands c.take_in.ensures.leaves c.take_in.ensures.counts)
