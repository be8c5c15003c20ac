use Rattle.tables.specs.View.{whole}
use Rattle.tables.proofs.Changing.{column_read}
use Rattle.house.proofs.Held.{put_became}
use Rattle.house.proofs.Queued.{unread_fits}
use Rattle.house.proofs.Views.{unread_view}
use Rattle.house.proofs.queues.put_unread.Goals as goal

pub returns : goal.returns
returns g c =
    let w = whole c.args.tables.now in let i = c.args.handset in let counts = g.T.Tally.counts in let next = c.put_in.new in
    unread_view counts w i c.requires.there _ next.len next.places _
    (put_became 0 i w.head.numbers.places w.unread _ (unread_fits counts w c.requires.room.bounded i c.requires.there) c.args.name _ next.len next.places
    (column_read (λ x. x.unread) 0 w.handsets i _ c.requires.there) c.requires.room.room c.put_in.ensures.leaves c.put_in.ensures.counts)
