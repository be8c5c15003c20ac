use Rattle.std.proofs.Common.{◌≡◌, ◌+◌, ◌≤◌, slice_index, Some, length, sym, ap, ◌∙◌, rules}
use Rattle.std.specs.List.{position}
use Rattle.tally.proofs.Listing.{first, next_is}
use Rattle.full.specs.Cells.{of_cells}
use Rattle.full.proofs.Ahead.{counts, tail, none_ahead, some_ahead, from_least}
use Rattle.full.proofs.FullCountedPairs.next_counted.Goals as goal

pub returns-in_err-at : goal.returns-in_err-at
returns-in_err-at c =
    let xs = c.args.self.now.cells in
    let sized : length xs ≡ 256 = search rules in
    let m = c.min-start.result in
    let within : m ≤ 256 = search rules in
    c.from_residual.ensures
    ∙ sym (next_is (of_cells xs) c.args.from ∙ ap first (from_least (of_cells xs) _ m (search rules) ∙ none_ahead xs sized m within (ap (position counts) (sym (tail xs sized m within)) ∙ sym c.first_counted.ensures ∙ c.in_err-at.was)))

pub returns : goal.returns
returns c =
    let xs = c.args.self.now.cells in
    let sized : length xs ≡ 256 = search rules in
    let m = c.min-start.result in
    let within : m ≤ 256 = search rules in
    (λ i. Some (c.at.ensures i, slice_index xs (m + c.in_ok-at.field-0)))
    ∙ sym (next_is (of_cells xs) c.args.from ∙ ap first (from_least (of_cells xs) _ m (search rules) ∙ some_ahead xs sized m within _ (ap (position counts) (sym (tail xs sized m within)) ∙ sym c.first_counted.ensures ∙ c.in_ok-at.was)))
