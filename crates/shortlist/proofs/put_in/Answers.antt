use Rattle.shortlist.proofs.Shifts.{rotated, shifted}
use Rattle.shortlist.proofs.put_in.Goals as goal

pub returns : goal.returns
returns g c =
    let xs = c.args.places.now in
    let n = c.args.len in
    let at = c.args.at in
    let x = c.args.x in
    shifted xs n at x c.requires.within c.requires.room c.rotate_right.new.self _
    (rotated xs n at x c.requires.within c.requires.room c.rotate_right.new.self c.rotate_right.ensures.after)
