use Rattle.std.proofs.Common.{[], ◌∷◌, ◌++◌, length, sym, ap, ◌∙◌, append_assoc, arith}
use Rattle.packet_write.proofs.Pairing.{room_for, pair_more}
use Rattle.packet_write.proofs.put_pairs.Goals as goal

pub put-requires : goal.put-requires
put-requires g c =
    let room = room_for c.args.writer.now c.loop-pair.writer c.loop-pair.yielded _ _ _ c.loop-pair.invariant.puts
    (ap (λ xs. c.loop-pair.yielded ++ xs) (sym c.in-Some.ensures.steps) ∙ c.loop-pair.invariant.whole) c.requires in
    omega (arith, room, ap length c.pair_bytes.ensures)

pub loop-pair-preserved : goal.loop-pair-preserved
loop-pair-preserved g c =
    let done = c.loop-pair.yielded in
    let whole = ap (λ xs. done ++ xs) (sym c.in-Some.ensures.steps) ∙ c.loop-pair.invariant.whole in
    record {
      whole = append_assoc done ((c.in-Some.pair, c.in-Some.count) ∷ []) _ ∙ whole;
      puts = pair_more c.args.writer.now c.loop-pair.writer done _ _ _ c.loop-pair.invariant.puts whole c.requires c.put.new.self _ c.pair_bytes.ensures c.put.ensures;
    }
