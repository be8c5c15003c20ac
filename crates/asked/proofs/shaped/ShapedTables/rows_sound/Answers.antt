use Rattle.std.proofs.Common.{rules, sym, ◌∙◌, ap₂, arith}
use borrow.Author.Tests.{tests}
use Rattle.std.proofs.lemmas.Iterator.{YieldsList-from_slice, YieldsList-from_take}
use Rattle.std.proofs.lemmas.Iterator.Search.{all_from_yields_List}
use Rattle.rules.specs.declared.place.Stage.TheVariants.{Wire}
use Rattle.rules.specs.Sound.{message_sound, row_sound}
use Rattle.tables.specs.View.{row_of, no_row, view}
use Rattle.tables.proofs.Changing.{column_at}
use Rattle.asked.proofs.Chains.{all_below_rows}
use Rattle.asked.proofs.shaped.ShapedTables.rows_sound.Goals as goal

pub returns : goal.returns
returns g c =
    let h = c.args.self.now.tables.now in
    let n = h.head.now.numbers in
    let counts = g.T.Tally.counts in
    all_from_yields_List (λ r. message_sound n.stations n.handsets (row_of counts r) r.stage) _ _ c.all.result c.all.ensures.ran
    (YieldsList-from_take h.head.now.used (YieldsList-from_slice h.roll.now (cc)) (cc)) (λ x b q k. search (rules, tests))
    ∙ all_below_rows (row_sound (view counts h)) _ h.roll.now _ (omega (arith, c.requires, c.args.self.now.shaped.roll))
    (λ k r l e. ap₂ (message_sound n.stations n.handsets) (sym (column_at (row_of counts) no_row h.roll.now k r l e))
    (sym (column_at (λ x. x.stage) (Wire 0) h.roll.now k r l e)))
