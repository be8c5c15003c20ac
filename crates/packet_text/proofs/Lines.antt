-- A line asks at most one thing.
use Rattle.std.proofs.Common.{◌≡◌, ◌≢◌, ℕ, List, [], ◌∷◌, ◌++◌, Bor, lit<, get_or, drop, sym, refl, ap, ◌∙◌, arith}
use Rattle.std.specs.List.{All}
use Rattle.packet_text.specs.declared.line.TallyKind.{TallyKind}
use Rattle.packet_text.specs.declared.line.TallyKind.TheVariants.{Full, Listed}
use Rattle.packet_text.specs.declared.line.BodyKind.{BodyKind}
use Rattle.packet_text.specs.declared.line.BodyKind.TheVariants.{Code, Note}
use Rattle.packet_text.specs.Lines.{Asked, Asks, Answers, tally_word, body_word, reply}
use Rattle.packet_text.specs.Hex.{hex_text}
use Rattle.packet_text.proofs.Digits.{hex_one}

tally_one : (j k : TallyKind) (xs ys : List ℕ) → tally_word j ++ xs ≡ tally_word k ++ ys → (j ≡ k) × (xs ≡ ys)
tally_one Full Full xs ys e = (refl, ap (drop 5) e)
tally_one Full Listed xs ys e = absurd (omega (arith, ap (λ l. get_or l 0 0) e))
tally_one Listed Full xs ys e = absurd (omega (arith, ap (λ l. get_or l 0 0) e))
tally_one Listed Listed xs ys e = (refl, ap (drop 7) e)

body_one : (j k : BodyKind) (xs ys : List ℕ) → body_word j ++ xs ≡ body_word k ++ ys → (j ≡ k) × (xs ≡ ys)
body_one Code Code xs ys e = (refl, ap (drop 5) e)
body_one Code Note xs ys e = absurd (omega (arith, ap (λ l. get_or l 0 0) e))
body_one Note Code xs ys e = absurd (omega (arith, ap (λ l. get_or l 0 0) e))
body_one Note Note xs ys e = (refl, ap (drop 5) e)

-- a line begins with no word of a table
abbrev NoWord : {K : Type 0} → List ℕ → List (Bor (List ℕ) × K) → Type 0
NoWord {K} line kinds = All (λ (x : Bor (List ℕ) × K). (rest : List ℕ) → line ≢ x.0.now ++ rest) kinds

module _ {K : Type 0} (line : List ℕ) (first second : Bor (List ℕ)) (j k : K) (none : NoWord line ((first, j) ∷ (second, k) ∷ [])) where
  not_first : (rest : List ℕ) → line ≢ first.now ++ rest
  not_first = none 0 (first, j) (lit< tt)

  not_second : (rest : List ℕ) → line ≢ second.now ++ rest
  not_second = none 1 (second, k) (lit< tt)

-- a line that begins with no word of a tally asks nothing
pub no_tally : (line : List ℕ) (first second : Bor (List ℕ)) → first.now ≡ tally_word Full → second.now ≡ tally_word Listed
    → NoWord line ((first, Full) ∷ (second, Listed) ∷ []) → (a : Asked) → Asks line a → ⊥
no_tally line first second p q none a asks =
    let more = body_word a.body ++ hex_text a.packet in
    elim a.tally as (λ k. line ≡ tally_word k ++ more → ⊥) [
      | Full ↦ λ e. not_first line first second Full Listed none more (e ∙ ap (λ w. w ++ more) (sym p))
      | Listed ↦ λ e. not_second line first second Full Listed none more (e ∙ ap (λ w. w ++ more) (sym q))
    ] asks.is

-- nor does one that goes on with no word of a body
pub no_body : (line : List ℕ) (k : TallyKind) (rest : List ℕ) → line ≡ tally_word k ++ rest → (first second : Bor (List ℕ)) → first.now ≡ body_word Code → second.now ≡ body_word Note
    → NoWord rest ((first, Code) ∷ (second, Note) ∷ []) → (a : Asked) → Asks line a → ⊥
no_body line k rest said first second p q none a asks =
    let more = hex_text a.packet in
    elim a.body as (λ b. rest ≡ body_word b ++ more → ⊥) [
      | Code ↦ λ e. not_first rest first second Code Note none more (e ∙ ap (λ w. w ++ more) (sym p))
      | Note ↦ λ e. not_second rest first second Code Note none more (e ∙ ap (λ w. w ++ more) (sym q))
    ] (tally_one k a.tally rest _ (sym said ∙ asks.is)).1

pub asks_one : (line : List ℕ) (a b : Asked) → Asks line a → Asks line b → a ≡ b
asks_one line a b p q =
    let tally = tally_one a.tally b.tally _ _ (sym p.is ∙ q.is) in
    let body = body_one a.body b.body _ _ tally.1 in
    let packet = hex_one a.packet b.packet p.bytes q.bytes body.1 in
    λ i. record { tally = tally.0 i; body = body.0 i; packet = packet i }

-- the reply to what a line asks answers it
pub answers_asked : (line text : List ℕ) (a : Asked) → Asks line a → text ≡ reply a → Answers line text
answers_asked line text a p e = record { asked = λ b q. e ∙ ap reply (asks_one line a b p q); other = λ none. absurd (none a p) }
