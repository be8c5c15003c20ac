-- A short list's elements.
use Rattle.std.specs.Prelude.{◌≡◌, ℕ, ◌≤◌, length, ◌++◌}
use Rattle.std.proofs.Common.{sym, ap, ap₂, ◌∙◌, arith}
use Rattle.std.proofs.lemmas.List.{length-take-le, take-append-drop}
use mathlib.Core.HLevel.{is_prop→PathP}
use denote.Struct.Props.{props}
use Rattle.shortlist.specs.declared.list.ShortList.{ShortList, sized-type, few-type}
use Rattle.shortlist.specs.Items.{items, rest}

module _ {T : Type 0} {N : ℕ} where
  pub length_items : (l : ShortList T N) → length (items l) ≡ l.len
  length_items l = length-take-le l.len l.places (omega (arith, l.sized, l.few))

  pub most_items : (l : ShortList T N) → length (items l) ≤ N
  most_items l = omega (arith, length_items l, l.few)

  -- a short list is what it holds and what lies past it
  pub same_list : (a b : ShortList T N) → items a ≡ items b → rest a ≡ rest b → a ≡ b
  same_list a b e f =
      let n : a.len ≡ b.len = sym (length_items a) ∙ ap length e ∙ length_items b in
      let p : a.places ≡ b.places = sym (take-append-drop a.len a.places) ∙ ap₂ ◌++◌ e f ∙ take-append-drop b.len b.places in
      let s = is_prop→PathP (λ i. sized-type T N (p i) (n i)) (λ i. hlevel props) a.sized b.sized in
      let w = is_prop→PathP (λ i. few-type T N (p i) (n i) (s i)) (λ i. hlevel props) a.few b.few in
      λ i. record { places = p i; len = n i; sized = s i; few = w i }
