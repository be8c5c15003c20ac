-- An accepted packet packs to the same bytes.
use Rattle.std.proofs.Common.{◌≡◌, ℕ, zero, suc, ◌+◌, ◌/◌, ◌%◌, ◌<◌, ◌≤◌, Bool, true, eqb, leb, List, [], ◌∷◌, ◌++◌, length, drop, None, sym, refl, ap, ◌∙◌, subst, ⊎_elim, append_assoc, add_assoc, arith}
use Rattle.std.specs.List.{flat_map}
use Rattle.std.proofs.lemmas.List.{drop_more, flat_map_more, length_push, take_all, length-drop}
use Rattle.std.proofs.lemmas.Bool.{cond-false, and_parts, cases_lt, leb-true, eqb-true}
use Rattle.tally.specs.declared.pair.Pair.{Pair}
use Rattle.tally.specs.Pairs.{inside, pairs, rank, pair_at}
use Rattle.tally.specs.Counts.{Counts, counted_pairs, counted}
use Rattle.tally.proofs.Order.{rank_at, not_same}
use Rattle.tally.proofs.Listing.{none_counted}
use Rattle.tally.proofs.Splitting.{raised_last}
use Rattle.questions.proofs.Asked.{AllYes, all_yes, yes_parts}
use Rattle.packet.specs.Layout.{byte_at, word_at, pair_from, count_from, pair_place, counts_in, pairs_told, body_place, body_in, packet_end}
use Rattle.packet.specs.Reading.{opening_questions, head_questions, pairs_questions, body_questions, rises, least, refusal, content}
use Rattle.packet.specs.Packing.{word_bytes, pair_bytes, packet_bytes}

module _ (bs : List ℕ) (bytes : (i : ℕ) → byte_at bs i < 256) where
  -- what is left of the packet, from a byte, a number of two bytes and a pair on
  from_byte : (p x : ℕ) → p < length bs → byte_at bs p ≡ x → (rest : List ℕ) → drop (p + 1) bs ≡ rest → drop p bs ≡ x ∷ rest
  from_byte p x h is rest e = drop_more bs p 0 h ∙ (λ i. is i ∷ e i)

  from_word : (p : ℕ) → p + 2 ≤ length bs → drop p bs ≡ word_bytes (word_at bs p) ++ drop (p + 2) bs
  from_word p h =
      let high : byte_at bs p ≡ word_at bs p / 256 = omega (arith, bytes (p + 1)) in
      let low : byte_at bs (p + 1) ≡ word_at bs p % 256 = omega (arith, bytes (p + 1)) in
      drop_more bs p 0 (omega arith)
      ∙ ap (λ r. byte_at bs p ∷ r) (drop_more bs (p + 1) 0 (omega arith) ∙ ap (λ k. byte_at bs (p + 1) ∷ drop k bs) (add_assoc p 1 1))
      ∙ (λ i. high i ∷ low i ∷ drop (p + 2) bs)

  from_pair : (p : ℕ) → p + 4 ≤ length bs → drop p bs ≡ pair_bytes (pair_from bs p, count_from bs p) ++ drop (p + 4) bs
  from_pair p h =
      drop_more bs p 0 (omega arith)
      ∙ ap (λ r. byte_at bs p ∷ r) (drop_more bs (p + 1) 0 (omega arith)
      ∙ ap (λ r. byte_at bs (p + 1) ∷ r) (ap (λ k. drop k bs) (add_assoc p 1 1) ∙ from_word (p + 2) (omega arith)
      ∙ ap (λ k. word_bytes (count_from bs p) ++ drop k bs) (add_assoc p 2 2)))

  -- the first pairs that the packet tells, with their counts
  told : ℕ → List (Pair × ℕ)
  told zero = []
  told (suc i) = told i ++ (pair_from bs (pair_place i), count_from bs (pair_place i)) ∷ []

  -- i pairs are told: they are what is counted, and what the bytes say; nothing is counted from the least place of the next one on
  record ToldSoFar (i : ℕ) : Type 0 where
    lists : counted_pairs (counts_in bs i) ≡ told i
    many : length (told i) ≡ i
    written : drop 13 bs ≡ flat_map pair_bytes (told i) ++ drop (pair_place i) bs
    blank : (k : ℕ) → least bs i ≤ k → k < pairs → counts_in bs i (pair_at k) ≡ 0

  none_told : ToldSoFar 0
  unfolding told counts_in
  none_told = record { lists = none_counted; many = refl; written = refl; blank = λ k l h. refl }

  one_more : (i : ℕ) → ToldSoFar i → pair_place i + 4 ≤ length bs → rises bs (pair_place i) (least bs i) ≡ true → ToldSoFar (suc i)
  unfolding told counts_in
  one_more i so_far long up =
      let p = pair_place i in
      let q = pair_from bs p in
      let n = count_from bs p in
      let in_range = and_parts (inside q) _ up in
      let after = and_parts (leb (least bs i) (rank q)) _ in_range.1 in
      let some = and_parts (leb 1 n) _ after.1 in
      let later = leb-true (least bs i) (rank q) after.0 in
      let next : p + 4 ≡ pair_place (suc i) = omega arith in
      record {
        lists = raised_last (counts_in bs i) q in_range.0 n (leb-true 1 n some.0) (λ k l h. so_far.blank k (omega arith) h)
            ∙ ap (λ xs. xs ++ (q, n) ∷ []) so_far.lists;
        many = length_push (told i) (q, n) ∙ ap (λ k. k + 1) so_far.many ∙ omega arith;
        written = so_far.written
            ∙ ap (λ r. flat_map pair_bytes (told i) ++ r) (from_pair p long ∙ ap (λ k. pair_bytes (q, n) ++ drop k bs) next)
            ∙ sym (append_assoc (flat_map pair_bytes (told i)) (pair_bytes (q, n)) (drop (pair_place (suc i)) bs))
            ∙ ap (λ xs. xs ++ drop (pair_place (suc i)) bs) (flat_map_more pair_bytes [] (told i) (q, n));
        blank = λ k l h. cond-false _ _ _ (not_same (pair_at k) q (λ e. omega (arith, e, rank_at k h, l))) ∙ so_far.blank k (omega (arith, l)) h;
      }

  -- each pair that was asked about is there and rises
  record Asked (i : ℕ) : Type 0 where
    long : pair_place i + 4 ≤ length bs
    up : rises bs (pair_place i) (least bs i) ≡ true

  all_asked : (fits : Counts → Bool) (j left : ℕ) → AllYes (pairs_questions fits bs j left) → (i : ℕ) → j ≤ i → i < j + left → Asked i
  unfolding pairs_questions
  all_asked fits j zero yeses i low high = absurd (omega arith)
  all_asked fits j (suc left) yeses i low high =
      ⊎_elim
      (λ (l : j < i). all_asked fits (suc j) left yeses.1.1.1 i l (omega arith))
      (λ (l : i ≤ j). let e : j ≡ i = omega arith in subst Asked e (record { long = leb-true _ _ yeses.0; up = yeses.1.0 }))
      (cases_lt j i)

  told_all : (n : ℕ) → ((i : ℕ) → i < n → Asked i) → ToldSoFar n
  told_all zero asked = none_told
  told_all (suc n) asked = one_more n (told_all n (λ i h. asked i (omega arith))) (asked n (omega arith)).long (asked n (omega arith)).up

  -- what the questions have shown of an accepted packet
  record Accepted (kind : ℕ) : Type 0 where
    mark_0 : byte_at bs 0 ≡ 78
    mark_1 : byte_at bs 1 ≡ 82
    mark_2 : byte_at bs 2 ≡ 83
    version : word_at bs 3 ≡ 1
    kind_is : byte_at bs 5 ≡ kind
    long : 13 ≤ length bs
    asked : (i : ℕ) → i < pairs_told bs → Asked i
    body_long : body_place bs + 1 ≤ length bs
    ends : length bs ≡ packet_end bs

  accepted : (kind : ℕ) (lawful : List ℕ → Bool) (fits : Counts → Bool) → refusal kind lawful fits bs ≡ None → Accepted kind
  accepted kind lawful fits none =
      let pair_list = pairs_questions fits bs 0 (pairs_told bs) in
      let opens = all_yes (opening_questions bs ++ (head_questions kind bs ++ (pair_list ++ body_questions lawful bs))) none in
      let mark = and_parts (eqb (byte_at bs 0) 78) _ opens.1.0 in
      let mark_rest = and_parts (eqb (byte_at bs 1) 82) _ mark.1 in
      let heads = opens.1.1.1.1 in
      let names = heads.1.1.1.1.1.1.1.1 in
      let parts = yes_parts pair_list (body_questions lawful bs) names.1.1.1 in
      record {
        mark_0 = eqb-true _ _ mark.0;
        mark_1 = eqb-true _ _ mark_rest.0;
        mark_2 = eqb-true _ _ mark_rest.1;
        version = eqb-true _ _ opens.1.1.1.0;
        kind_is = eqb-true _ _ heads.1.0;
        long = leb-true _ _ names.1.1.0;
        asked = λ i h. all_asked fits 0 (pairs_told bs) parts.0 i (omega arith) (omega arith);
        body_long = leb-true _ _ parts.1.0;
        ends = eqb-true _ _ parts.1.1.1.1.0;
      }

  body_bytes : (kind : ℕ) → Accepted kind → drop (body_place bs) bs ≡ length (body_in bs) ∷ body_in bs
  body_bytes kind holds =
      let rest = drop (body_place bs + 1) bs in
      let len : length rest ≡ byte_at bs (body_place bs) = length-drop (body_place bs + 1) bs ∙ omega (arith, holds.ends) in
      let body : body_in bs ≡ rest = take_all (byte_at bs (body_place bs)) rest (omega (arith, len)) in
      drop_more bs (body_place bs) 0 (omega (arith, holds.body_long)) ∙ (λ i. (sym len ∙ ap length (sym body)) i ∷ sym body i)

  pub packs_back : (kind : ℕ) (lawful : List ℕ → Bool) (fits : Counts → Bool) → refusal kind lawful fits bs ≡ None
      → packet_bytes kind (content kind lawful fits bs) ≡ bs
  unfolding packet_bytes
  packs_back kind lawful fits none =
      let holds = accepted kind lawful fits none in
      let long = holds.long in
      let n = pairs_told bs in
      let all = told_all n holds.asked in
      let many : n ≡ counted (counts_in bs n) = sym (ap length all.lists ∙ all.many) in
      let pairs_and_body : drop 13 bs ≡ flat_map pair_bytes (counted_pairs (counts_in bs n)) ++ (length (body_in bs) ∷ body_in bs) =
      all.written ∙ (λ i. flat_map pair_bytes (sym all.lists i) ++ body_bytes kind holds i) in
      let from_11 = from_word 11 (omega arith) ∙ (λ i. word_bytes (many i) ++ pairs_and_body i) in
      let from_9 = from_word 9 (omega arith) ∙ ap (λ r. word_bytes (word_at bs 9) ++ r) from_11 in
      let from_5 =
      from_byte 5 kind (omega arith) holds.kind_is _
      (from_byte 6 (byte_at bs 6) (omega arith) refl _ (from_byte 7 (byte_at bs 7) (omega arith) refl _ (from_byte 8 (byte_at bs 8) (omega arith) refl _ from_9))) in
      sym
      (from_byte 0 78 (omega arith) holds.mark_0 _ (from_byte 1 82 (omega arith) holds.mark_1 _ (from_byte 2 83 (omega arith) holds.mark_2 _
      (from_word 3 (omega arith) ∙ (λ i. word_bytes (holds.version i) ++ from_5 i)))))
