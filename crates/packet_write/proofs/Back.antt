-- A packed message reads back as itself.
use Rattle.std.proofs.Common.{◌≡◌, ℕ, zero, suc, ◌+◌, ◌*◌, ◌/◌, ◌%◌, ◌<◌, ◌≤◌, Bool, true, not, ◌&&◌, eqb, ltb, leb, List, [], ◌∷◌, ◌++◌, length, get_or, take, drop, None, Ok, sym, refl, ap, ◌∙◌, add-zero, add_assoc, add-one, arith}
use Rattle.std.specs.List.{flat_map}
use Rattle.std.proofs.lemmas.List.{drop_more, drop_all, drop-drop, get_or-drop, take_all}
use Rattle.std.proofs.lemmas.Bool.{and_parts, and_from, le-leb, eq-eqb}
use Rattle.tally.specs.declared.pair.Pair.{Pair}
use Rattle.tally.specs.Pairs.{inside, rank, pair_at}
use Rattle.tally.specs.Counts.{Counts, raised, counted_pairs, counted_on, counted}
use Rattle.tally.proofs.Order.{at_rank, rank_below}
use Rattle.tally.proofs.Building.{below, below_none, below_skip, below_more, below_whole, below_le, Ranged, Lowers}
use Rattle.tally.proofs.Listing.{first, all_rest, Comes, comes_from, zeros_from}
use Rattle.questions.specs.Asking.{answered}
use Rattle.questions.proofs.Asked.{AllYes, no_no, yes_both}
use Rattle.packet.specs.Heads.{in_range}
use Rattle.packet.specs.Messages.{Content}
use Rattle.packet.specs.Layout.{byte_at, pair_from, count_from, pair_place, counts_in, pairs_told, body_place, body_in, packet_end, head_in}
use Rattle.packet.specs.Reading.{opening_questions, head_questions, pair_questions, pairs_questions, body_questions, rises, with_pair, least, refusal, content, reading}
use Rattle.packet.specs.Packing.{pair_bytes, packet_bytes}
use Rattle.packet_write.proofs.Packets.{body_part, length_packet}

-- a message that a packet can carry
pub record Lawful (lawful : List ℕ → Bool) (fits : Counts → Bool) (m : Content) : Type 0 where
  pub ranged : in_range m.head ≡ true
  pub within : Ranged m.counts
  pub fit : fits m.counts ≡ true
  pub low : (p : Pair) → inside p ≡ true → m.counts p ≤ 8191
  pub body_lawful : lawful m.body ≡ true

-- the bytes from the pair with number i on
drop_pairs : (i : ℕ) (ps : List (Pair × ℕ)) (behind : List ℕ) → i ≤ length ps → drop (4 * i) (flat_map pair_bytes ps ++ behind) ≡ flat_map pair_bytes (drop i ps) ++ behind
drop_pairs zero ps behind h = refl
drop_pairs (suc i) [] behind h = absurd (omega arith)
drop_pairs (suc i) (x ∷ ps) behind h =
    let e : 4 * suc i ≡ suc (suc (suc (suc (4 * i)))) = omega arith in
    ap (λ k. drop k (flat_map pair_bytes (x ∷ ps) ++ behind)) e ∙ drop_pairs i ps behind (omega arith)

-- bytes by what is left of a list from a place on
first_left : (bs xs : List ℕ) (p : ℕ) → drop p bs ≡ xs → byte_at bs p ≡ get_or xs 0 0
first_left bs xs p e = ap (byte_at bs) (sym (add-zero p)) ∙ sym (get_or-drop p bs 0 0) ∙ ap (λ l. get_or l 0 0) e

left_at : (bs xs : List ℕ) (p j : ℕ) → drop p bs ≡ xs → byte_at bs (p + j) ≡ get_or xs j 0
left_at bs xs p j e = sym (get_or-drop p bs j 0) ∙ ap (λ l. get_or l j 0) e

-- high byte first
whole_word : (n : ℕ) → n / 256 * 256 + n % 256 ≡ n
whole_word n = omega arith

module _ (kind : ℕ) (lawful : List ℕ → Bool) (fits : Counts → Bool) (lowers : Lowers fits) (m : Content) (holds : Lawful lawful fits m) where
  abbrev bs : List ℕ
  bs = packet_bytes kind m

  abbrev c : Counts
  c = m.counts

  abbrev ps : List (Pair × ℕ)
  ps = counted_pairs c

  from_pair : (i : ℕ) → i ≤ length ps → drop (pair_place i) bs ≡ flat_map pair_bytes (drop i ps) ++ body_part kind m
  unfolding packet_bytes
  from_pair i h = sym (drop-drop (4 * i) 13 bs) ∙ drop_pairs i ps (body_part kind m) h

  many : pairs_told bs ≡ length ps
  unfolding packet_bytes
  many = whole_word (counted c)

  -- i pairs are read: the others are left, and what was read is counted
  record ReadSoFar (i : ℕ) : Type 0 where
    left : counted_on c (least bs i) ≡ drop i ps
    counts : counts_in bs i ≡ below c (least bs i)

  read_none : ReadSoFar 0
  unfolding counts_in
  read_none = record { left = sym (all_rest c); counts = below_none c }

  -- the pair with number i is the next counted one
  module _ (i : ℕ) (so_far : ReadSoFar i) (h : i < length ps) where
    abbrev x : Pair × ℕ
    x = get_or ps i (pair_at 0, 0)

    next : drop i ps ≡ x ∷ drop (i + 1) ps
    next = drop_more ps i (pair_at 0, 0) h

    is_next : Comes c (least bs i) x.0 x.1
    is_next = comes_from c x.0 x.1 (least bs i) (ap first (so_far.left ∙ next))

    here : drop (pair_place i) bs ≡ pair_bytes x ++ (flat_map pair_bytes (drop (i + 1) ps) ++ body_part kind m)
    here = from_pair i (omega arith) ∙ ap (λ xs. flat_map pair_bytes xs ++ body_part kind m) next

    pair_is : pair_from bs (pair_place i) ≡ x.0
    pair_is = λ j. record { station = first_left bs _ (pair_place i) here j; handset = left_at bs _ (pair_place i) 1 here j }

    count_is : count_from bs (pair_place i) ≡ x.1
    count_is =
        let high = left_at bs _ (pair_place i) 2 here in
        let low = ap (byte_at bs) (add_assoc (pair_place i) 2 1) ∙ left_at bs _ (pair_place i) 3 here in
        (λ j. high j * 256 + low j) ∙ whole_word x.1

    lowest : least bs (suc i) ≡ rank x.0 + 1
    lowest = ap (λ p. suc (rank p)) pair_is ∙ sym (add-one (rank x.0))

    with_it : with_pair bs (pair_place i) (counts_in bs i) ≡ below c (rank x.0 + 1)
    with_it =
        let q = x.0 in
        let at = at_rank q is_next.inn in
        (λ j. raised ((so_far.counts ∙ below_skip c (least bs i) (rank q) holds.within is_next.from is_next.between) j) (pair_is j) (count_is j))
        ∙ (λ j. raised (below c (rank q)) (sym at j) ((is_next.is ∙ ap c (sym at)) j))
        ∙ below_more c (rank q) holds.within (rank_below q is_next.inn)

    read_more : ReadSoFar (suc i)
    unfolding counts_in
    read_more =
        record {
          left = ap (counted_on c) lowest ∙ ap (drop 1) (sym is_next.left ∙ so_far.left ∙ next) ∙ ap (λ k. drop k ps) (add-one i);
          counts = with_it ∙ ap (below c) (sym lowest);
        }

    all_asked : AllYes (pair_questions fits bs (pair_place i) (least bs i) (counts_in bs i))
    all_asked =
        let q = x.0 in
        let n = x.1 in
        let up : rises bs (pair_place i) (least bs i) ≡ true =
        (λ j. inside (pair_is j) && (leb (least bs i) (rank (pair_is j)) && (leb 1 (count_is j) && leb (count_is j) 8191)))
        ∙ and_from _ _ is_next.inn (and_from _ _ (le-leb _ _ is_next.from)
        (and_from _ _ (le-leb 1 n (omega (arith, is_next.some))) (le-leb n 8191 (omega (arith, is_next.is, holds.low q is_next.inn))))) in
        (le-leb _ _ (omega (arith, length_packet kind m)), (up, (ap fits with_it ∙ lowers c (below c (rank q + 1)) (λ p j. below_le c (rank q + 1) p) holds.fit, tt)))

  read_some : (i : ℕ) → i ≤ length ps → ReadSoFar i
  read_some zero h = read_none
  read_some (suc i) h = read_more i (read_some i (omega arith)) (omega arith)

  all_pairs : (left i : ℕ) → i + left ≤ length ps → AllYes (pairs_questions fits bs i left)
  unfolding pairs_questions
  all_pairs zero i h = tt
  all_pairs (suc left) i h =
      yes_both (pair_questions fits bs (pair_place i) (least bs i) (counts_in bs i)) (pairs_questions fits bs (suc i) left)
      (all_asked i (read_some i (omega arith)) (omega arith)) (all_pairs left (suc i) (omega arith))

  -- what is left from the body's length on
  from_body : drop (body_place bs) bs ≡ length m.body ∷ m.body
  from_body =
      ap (λ k. drop (pair_place k) bs) many ∙ from_pair (length ps) (omega arith)
      ∙ ap (λ xs. flat_map pair_bytes xs ++ body_part kind m) (drop_all (length ps) ps (omega arith))

  body_size : byte_at bs (body_place bs) ≡ length m.body
  body_size = first_left bs _ (body_place bs) from_body

  ends : length bs ≡ packet_end bs
  ends = length_packet kind m ∙ omega (arith, body_size, many)

  body_is : body_in bs ≡ m.body
  body_is =
      let left : drop (body_place bs + 1) bs ≡ m.body = sym (drop-drop 1 (body_place bs) bs) ∙ ap (drop 1) from_body in
      (λ i. take (body_size i) (left i)) ∙ take_all (length m.body) m.body (omega arith)

  head_is : head_in bs ≡ m.head
  unfolding packet_bytes
  head_is = λ i. record { station = m.head.station; sender = m.head.sender; addressee = m.head.addressee; name = whole_word m.head.name i }

  counts_are : counts_in bs (pairs_told bs) ≡ c
  counts_are =
      let all = read_some (length ps) (omega arith) in
      let nothing_left = all.left ∙ drop_all (length ps) ps (omega arith) in
      ap (counts_in bs) many ∙ all.counts ∙ below_whole c (least bs (length ps)) holds.within (zeros_from c (least bs (length ps)) nothing_left)

  long : (n : ℕ) → n ≤ 14 → leb n (length bs) ≡ true
  long n h = le-leb n (length bs) (omega (arith, length_packet kind m))

  opens : AllYes (opening_questions bs)
  unfolding packet_bytes
  opens = (long 3 (omega arith), (refl, (long 5 (omega arith), (refl, tt))))

  headed : AllYes (head_questions kind bs)
  unfolding packet_bytes
  headed =
      let station = and_parts (ltb m.head.station 8) _ holds.ranged in
      let sender = and_parts (ltb m.head.sender 32) _ station.1 in
      let addressee = and_parts (ltb m.head.addressee 32) _ sender.1 in
      let name = and_parts (not (eqb m.head.sender m.head.addressee)) _ addressee.1 in (
        long 6 (omega arith),
        (
          eq-eqb kind kind refl,
          (
            long 7 (omega arith),
            (
              station.0,
              (
                long 8 (omega arith),
                (
                  sender.0,
                  (
                    long 9 (omega arith),
                    (
                      and_from _ _ addressee.0 name.0,
                      (
                        long 11 (omega arith),
                        (
                          ap (λ n. ltb n 4096) (whole_word m.head.name) ∙ name.1,
                          (long 13 (omega arith), tt),
                        ),
                      ),
                    ),
                  ),
                ),
              ),
            ),
          ),
        ),
      )

  bodied : AllYes (body_questions lawful bs)
  bodied =
      (le-leb _ _ (omega (arith, ends)), (le-leb _ _ (omega (arith, ends)), (ap lawful body_is ∙ holds.body_lawful, (eq-eqb _ _ ends, tt))))

  no_refusal : refusal kind lawful fits bs ≡ None
  no_refusal =
      let pairs_yes : AllYes (pairs_questions fits bs 0 (pairs_told bs)) = all_pairs (pairs_told bs) 0 (omega (arith, many)) in
      let after_head = pairs_questions fits bs 0 (pairs_told bs) ++ body_questions lawful bs in
      no_no (opening_questions bs ++ (head_questions kind bs ++ after_head))
      (yes_both (opening_questions bs) (head_questions kind bs ++ after_head) opens
      (yes_both (head_questions kind bs) after_head headed (yes_both (pairs_questions fits bs 0 (pairs_told bs)) (body_questions lawful bs) pairs_yes bodied)))

  pub reads_back : reading kind lawful fits bs ≡ Ok m
  reads_back =
      ap (λ o. answered o (content kind lawful fits bs)) no_refusal
      ∙ (λ i. Ok (record { head = head_is i; counts = counts_are i; body = body_is i }))
