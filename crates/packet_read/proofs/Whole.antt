-- A packet read part by part: the first part with a no decides.
use Rattle.std.proofs.Common.{◌≡◌, ℕ, ◌*◌, Bool, true, cond, ltb, List, ◌++◌, Some, None, Option, Ok, Err, sym, ap, ◌∙◌}
use Rattle.std.proofs.lemmas.Bool.{cond-true, and_parts, and_from}
use Rattle.tally.specs.Counts.{Counts}
use Rattle.questions.specs.Asking.{Question, first_no, answered}
use Rattle.questions.proofs.Asked.{passed, stopped, all_yes}
use Rattle.packet.specs.declared.head.Head.{Head}
use Rattle.packet.specs.declared.message.Message.{Message}
use Rattle.packet.specs.Heads.{in_range}
use Rattle.packet.specs.Messages.{meaning, parts}
use Rattle.packet.specs.Faults.{Told}
use Rattle.packet.specs.Layout.{byte_at, pairs_told, counts_in, head_in, body_in}
use Rattle.packet.specs.Reading.{opening_questions, head_questions, pairs_questions, body_questions, refusal, content, reading}
use Rattle.packet_read.specs.declared.reader.Reader.{Reader}
use Rattle.packet_read.specs.Fields.{packet, Takes}

-- a head with no no is in range
pub headed : (kind : ℕ) (bs : List ℕ) → first_no (head_questions kind bs) ≡ None → in_range (head_in bs) ≡ true
headed kind bs e =
    let y = all_yes (head_questions kind bs) e in
    let station = y.1.1.1.0 in
    let sender = y.1.1.1.1.1.0 in
    let addressee = and_parts (ltb (byte_at bs 8) 32) _ y.1.1.1.1.1.1.1.0 in
    let name = y.1.1.1.1.1.1.1.1.1.0 in
    and_from _ _ station (and_from _ _ sender (and_from _ _ addressee.0 (and_from _ _ addressee.1 name)))

some_parts : {X : Type 0} (x y : X) → ◌≡◌ {A = Option X} (Some x) (Some y) → x ≡ y
some_parts x y e = cc

-- the mark, the version and the head are read, with the number of pairs
module _ (kind : ℕ) (lawful : List ℕ → Bool) (fits : Counts → Bool) (before headed_at : Reader) (h : Head) (n : ℕ)
    (opens : first_no (opening_questions (packet before)) ≡ None)
    (head : Takes {A = Head × ℕ} before headed_at (Ok (h, n)) 8 (head_questions kind (packet before)) (λ x. (x.0 ≡ head_in (packet before)) × (x.1 ≡ pairs_told (packet before)))) where
  abbrev pairs : List (Question Told)
  pairs = pairs_questions fits (packet before) 0 (pairs_told (packet before))

  after_head : refusal kind lawful fits (packet before) ≡ first_no (pairs ++ body_questions lawful (packet before))
  after_head =
      passed (opening_questions (packet before)) (head_questions kind (packet before) ++ (pairs ++ body_questions lawful (packet before))) opens
      ∙ passed (head_questions kind (packet before)) (pairs ++ body_questions lawful (packet before)) (sym head.asks)

  same_pairs : first_no pairs ≡ first_no (pairs_questions fits (packet headed_at) 0 n)
  same_pairs i = first_no (pairs_questions fits (sym head.same i).now 0 (sym head.reads.1 i))

  pub refused_in_pairs : (t : Told) → Some t ≡ first_no (pairs_questions fits (packet headed_at) 0 n) → reading kind lawful fits (packet before) ≡ Err t
  refused_in_pairs t e =
      ap (λ o. answered o (content kind lawful fits (packet before))) (after_head ∙ stopped pairs (body_questions lawful (packet before)) t (same_pairs ∙ sym e))

  pub ranged : in_range h ≡ true
  ranged = ap in_range head.reads.0 ∙ headed kind (packet before) (sym head.asks)

  -- and the pairs
  module _ {T : Type 0} (paired : Reader) (tag : T) (counts : T → Counts)
      (tagged : Takes headed_at paired (Ok tag) (4 * n) (pairs_questions fits (packet headed_at) 0 n) (λ t. counts t ≡ counts_in (packet headed_at) n)) where
    same_body : paired.packet ≡ before.packet
    same_body = tagged.same ∙ head.same

    from_body : refusal kind lawful fits (packet before) ≡ first_no (body_questions lawful (packet paired))
    from_body =
        after_head ∙ passed pairs (body_questions lawful (packet before)) (same_pairs ∙ sym tagged.asks)
        ∙ (λ i. first_no (body_questions lawful (sym same_body i).now))

    pub refused_in_body : (t : Told) → Some t ≡ first_no (body_questions lawful (packet paired)) → reading kind lawful fits (packet before) ≡ Err t
    refused_in_body t e = ap (λ o. answered o (content kind lawful fits (packet before))) (from_body ∙ sym e)

    -- and the body
    module _ (bodied : None ≡ first_no (body_questions lawful (packet paired))) where
      pub no_refusal : refusal kind lawful fits (packet before) ≡ None
      no_refusal = from_body ∙ sym bodied

      -- a message made of what was read says what the packet does
      pub says : {B : Type 0} (bytes : B → List ℕ) (b : B) (m : Message T B) → bytes b ≡ body_in (packet paired) → Some (parts m) ≡ cond (in_range h) (Some (h, tag, b)) None
          → meaning counts bytes m ≡ content kind lawful fits (packet before)
      says bytes b m body made =
          let is = some_parts (parts m) (h, tag, b) (made ∙ cond-true _ _ _ ranged) in
          λ i. record {
            head = (ap (λ x. x.0) is ∙ head.reads.0) i;
            counts = (ap (λ x. counts x.1) is ∙ tagged.reads ∙ (λ j. counts_in (head.same j).now (head.reads.1 j))) i;
            body = (ap (λ x. bytes x.2) is ∙ body ∙ (λ j. body_in (same_body j).now)) i;
          }
