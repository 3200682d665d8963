use Rattle.std.proofs.Common.{◌≤◌, arith, rules}
use Rattle.std.proofs.lemmas.Grind.{common_steps}
use Rattle.fir_types.specs.declared.fir_type.FirType.{the_lemmas}
use Rattle.fir_types.specs.Leaves.{leaves, count}
use Rattle.fir_types.proofs.Layers.{leaves-bundle, count-vector, count-field}
use Rattle.fir_types.proofs.Runs.{element_falls}
use Rattle.fir_types.proofs.Singles.{leads_on}
use Rattle.fir_types.proofs.Walks.{elements_more, fields_more, field_within, element_within, no_leaves}
use Rattle.fir_types.proofs.listing.+push.Goals as goal

pub push_elements-loop-index-preserved : goal.push_elements-loop-index-preserved
push_elements-loop-index-preserved t c = record {
  listed = elements_more (leaves c.args.element.now) c.loop-index.index c.args.path.now.items c.push.new.self.items c.loop-index.path.items c.args.flip c.args.listed.now.items
      c.loop-index.listed.items c.push_leaves.new.listed.items c.loop-index.invariant.listed c.loop-index.invariant.path c.in_ok-push.ensures.items c.in_ok-push_leaves.ensures.listed;
  path = grind (arith, common_steps);
}

pub push_field_leaves-push_leaves-requires : goal.push_field_leaves-push_leaves-requires
push_field_leaves-push_leaves-requires t c =
    let w = field_within c.args.fields.now c.loop-field.field-index c.field-item.result (grind (arith, common_steps)) in
    let n : count c.field-item.result.typ ≤ 65536 = grind (arith, common_steps, count-field) in
    search (rules, the_lemmas)

pub push_field_leaves-loop-field-preserved : goal.push_field_leaves-loop-field-preserved
push_field_leaves-loop-field-preserved t c = record {
  listed = fields_more c.args.fields.now c.loop-field.field-index c.field-item.result c.args.path.now.items c.push.new.self.items c.loop-field.path.items c.args.flip
      c.args.listed.now.items c.loop-field.listed.items c.push_leaves.new.listed.items (grind (arith, common_steps)) (grind (arith, common_steps)) c.loop-field.invariant.listed
      c.loop-field.invariant.path c.in_ok-push.ensures.items c.in_ok-push_leaves.ensures.listed;
  path = grind (arith, common_steps);
}

pub push_inside-push_elements-requires : goal.push_inside-push_elements-requires
push_inside-push_elements-requires t c =
    let e = count-vector c.args.typ.now c.in-Vector.element c.in-Vector.length c.in-Vector.is in
    let n : count c.get.result.now ≤ 65536 = grind (arith, common_steps, e, element_within) in
    search (rules, the_lemmas)

pub push_inside-returns-in-Bundle-clause-listed : goal.push_inside-returns-in-Bundle-clause-listed
push_inside-returns-in-Bundle-clause-listed t c =
    let e = leaves-bundle c.args.typ.now c.in-Bundle.fields c.in-Bundle.is in
    grind (arith, common_steps, e)

pub push_inside-returns-else-leaf_count-gt0-clause-listed : goal.push_inside-returns-else-leaf_count-gt0-clause-listed
push_inside-returns-else-leaf_count-gt0-clause-listed t c =
    let z = no_leaves c.args.typ.now (grind (arith, common_steps)) in
    grind (arith, common_steps, z)

pub push_leaves-loop-inside-preserved : goal.push_leaves-loop-inside-preserved
push_leaves-loop-inside-preserved t c =
    let inside = c.loop-inside.inside.now in
    let at = c.in-Vector.is in
    let one = c.if-length-ne1.false in
    rw c.get-inside.ensures (
      leads_on c.args.typ.now inside _ c.args.path.now.items c.loop-inside.path.items c.push.new.self.items _ at one c.loop-inside.invariant.0 c.in_ok-push.ensures.items,
      element_falls inside _ _ _ at c.loop-inside.invariant.1,
    )
