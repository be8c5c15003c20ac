use Rattle.std.proofs.Common.{◌+◌, ◌≤◌, [], ◌∷◌, length, refl, ap, subst, arith}
use Rattle.packet_write.specs.Writing.{Puts}
use Rattle.packet_write.proofs.Placing.{placed_part}
use Rattle.packet_write.proofs.Pairing.{puts_more, puts_length}
use Rattle.packet_write.proofs.put_body.Goals as goal

pub returns-clause-leaves : goal.returns-clause-leaves
returns-clause-leaves g c =
    let before = c.args.writer.now in
    let bs = g.B.Body.bytes c.args.body.now in
    let first : Puts before c.put.new.self (length bs ∷ []) = subst (λ n. Puts before c.put.new.self (n ∷ [])) c.size-size.ensures c.put.ensures in
    let room : c.put.new.self.place + length bs ≤ length c.put.new.self.out.now =
    omega (arith, first.on, puts_length before c.put.new.self (length bs ∷ []) first (omega (arith, c.requires)), c.requires) in
    puts_more before c.put.new.self _ (length bs ∷ []) bs first
    (record {
      same = refl;
      writes = placed_part c.put.new.self.place bs c.put.new.self.out.now c.write.new.out room c.write.ensures.leaves;
      on = ap (λ n. c.put.new.self.place + n) c.size-size.ensures;
    })
    (omega (arith, c.requires))
