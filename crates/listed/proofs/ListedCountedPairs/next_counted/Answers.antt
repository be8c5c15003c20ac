use Rattle.std.proofs.Common.{◌≡◌, slice_get, sym, ap, ◌∙◌, rules}
use Rattle.std.proofs.lemmas.Option.{gets}
use Rattle.listed.specs.Entries.{seek}
use Rattle.listed.specs.Listing.{listed}
use Rattle.listed.proofs.Seeking.{first_sought, first_is}
use Rattle.listed.proofs.ListedCountedPairs.next_counted.Goals as goal

pub returns : goal.returns
returns c =
    let t = c.args.self.now in
    let at = c.position-at.result in
    let got : c.copied.result ≡ slice_get c.list.result.now at = search (rules, gets) in
    got ∙ ap (λ es. slice_get es at) c.list.ensures ∙ first_is (listed t) at
    ∙ sym (first_sought (listed t) t.ordered c.args.from at (c.position-at.ensures ∙ ap (λ k. seek k (listed t)) c.start.ensures))
