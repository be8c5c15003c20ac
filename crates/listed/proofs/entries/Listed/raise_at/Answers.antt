use Rattle.std.proofs.Common.{◌≡◌, ap, ◌∙◌, max, get_or}
use Rattle.listed.specs.Entries.{no_entry}
use Rattle.listed.specs.Listing.{listed}
use Rattle.listed.proofs.Raising.{raise_kept}
use Rattle.listed.proofs.entries.Listed.raise_at.Goals as goal

pub invariant_of-self : goal.invariant_of-self
invariant_of-self c =
    let t = c.args.self.now in
    let most : c.max.result ≡ max (get_or (listed t) c.args.at no_entry).1 c.args.number = c.max.ensures ∙ ap (λ es. max (get_or es c.args.at no_entry).1 c.args.number) c.list.ensures in
    let new = raise_kept t c.args.pair c.args.at c.args.number c.requires.sought c.requires.low c.requires.there c.max.result most _ c.set.ensures in
    record { ordered = new.ordered; low = new.low }

pub returns : goal.returns
returns c =
    let t = c.args.self.now in
    let most : c.max.result ≡ max (get_or (listed t) c.args.at no_entry).1 c.args.number = c.max.ensures ∙ ap (λ es. max (get_or es c.args.at no_entry).1 c.args.number) c.list.ensures in
    (raise_kept t c.args.pair c.args.at c.args.number c.requires.sought c.requires.low c.requires.there c.max.result most _ c.set.ensures).counts
