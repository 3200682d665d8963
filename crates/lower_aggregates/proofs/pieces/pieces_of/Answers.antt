use Rattle.std.proofs.Common.{arith, refl, ◌∙◌, sym, ap, length}
use Rattle.std.proofs.lemmas.Grind.{common_steps}
use Rattle.std.proofs.lemmas.List.{length-map}
use Rattle.lower_aggregates.specs.Held.{held_heading}
use Rattle.lower_aggregates.proofs.Zipping.{pieces_more}
use Rattle.lower_aggregates.proofs.pieces.pieces_of.Goals as goal

pub loop-number-preserved : goal.loop-number-preserved
loop-number-preserved c =
    let ds = c.in_ok-declared.declared.items in
    let many = sym (length-map ds held_heading) ∙ ap length c.in_ok-declared.ensures in
    let r = pieces_more ds c.args.types.now c.loop-number.number c.loop-number.first c.in_ok-first.first c.in_ok-leaf_number.field-0 c.index-declaration.result.now c.index-types-number.result
    c.loop-number.pieces.items c.push.new.self.items _ (grind (arith, common_steps)) (omega (arith, many, c.requires)) (grind (arith, common_steps)) c.index-types-number.is refl c.loop-number.invariant.pieces
    c.loop-number.invariant.first c.in_ok-push.ensures.items c.in_ok-leaf_number.ensures c.in_ok-first.ensures in
    record { pieces = r.0; first = r.1 }
