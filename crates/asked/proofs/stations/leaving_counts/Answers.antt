use Rattle.std.proofs.Common.{refl, ap, ◌∙◌, arith}
use Rattle.std.proofs.lemmas.List.{get_or-replicate}
use Rattle.rules.specs.declared.place.Place.TheVariants.{Kept}
use Rattle.rules.specs.Functions.{bit}
use Rattle.rules.specs.Places.{leaves}
use Rattle.tables.specs.View.{places_of}
use Rattle.tables.proofs.Changing.{column_at}
use Rattle.asked.proofs.Passes.{many_none, many_more, many_few}
use Rattle.asked.proofs.stations.leaving_counts.Goals as goal

pub loop-row-init : goal.loop-row-init
loop-row-init g c = record { long = refl; counted = λ p l. get_or-replicate 8 p 0 0 l ∙ many_none _ }

pub count_leaving-requires : goal.count_leaving-requires
count_leaving-requires g c =
    λ p l.
    let held = c.loop-row.invariant.counted p (omega (arith, c.loop-row.invariant.long)) in
    let few = many_few (λ j. leaves p (places_of c.args.handsets.now j)) c.loop-row.row-index in
    omega arith

pub loop-row-preserved : goal.loop-row-preserved
loop-row-preserved g c = record {
  long = omega (arith, c.count_leaving.auto.counts, c.loop-row.invariant.long);
  counted = λ p l.
      let held = c.loop-row.invariant.counted p l in
      let counted = c.count_leaving.ensures p (omega (arith, c.loop-row.invariant.long)) in
      let place = column_at (λ x. x.place) (Kept 0) c.args.handsets.now c.loop-row.row-index c.row-item.result c.loop-row-test.true c.row-item.is in
      let more = many_more (λ j. leaves p (places_of c.args.handsets.now j)) c.loop-row.row-index _ _ (ap (λ x. bit (leaves p x)) place) held in
      cc;
}
