use Rattle.std.proofs.Common.{◌++◌, ◌∙◌, map, ap, arith}
use Rattle.std.proofs.lemmas.Grind.{common_steps}
use Rattle.fir_types.specs.Leaves.{leaves, under}
use Rattle.fir_types.proofs.Layers.{leaves-bundle}
use Rattle.fir_types.proofs.Runs.{element_falls}
use Rattle.fir_types.proofs.Singles.{leads_on}
use Rattle.fir_types.proofs.Walks.{elements_more, fields_more, no_leaves}
use Rattle.drive_check.proofs.listing.Listing.+push.Goals as goal

pub push_inside-loop-index-preserved : goal.push_inside-loop-index-preserved
push_inside-loop-index-preserved t c = record {
  listed = elements_more (leaves c.in-Vector.element) c.loop-index.index c.args.self.now.path.items c.push-in-loop-index.new.self.items c.loop-index.self.path.items c.args.flip
      c.args.self.now.listed.items c.loop-index.self.listed.items c.push_leaves-in-loop-index.new.self.listed.items c.loop-index.invariant.listed c.loop-index.invariant.path
      c.in_ok-push-in-Vector.ensures.items
      (c.in_ok-push_leaves-in-Vector.ensures.listed ∙ ap (λ x. c.loop-index.self.listed.items ++ map (under c.push-in-loop-index.new.self.items c.args.flip) (leaves x)) c.get.ensures);
  path = grind (arith, common_steps);
}

pub push_inside-loop-field-preserved : goal.push_inside-loop-field-preserved
push_inside-loop-field-preserved t c = record {
  listed = fields_more c.as_slice-field-items.result.now c.loop-field.field-index c.field-item.result c.args.self.now.path.items c.push.new.self.items c.loop-field.self.path.items c.args.flip
      c.args.self.now.listed.items c.loop-field.self.listed.items c.push_leaves.new.self.listed.items (grind (arith, common_steps)) (grind (arith, common_steps)) c.loop-field.invariant.listed
      c.loop-field.invariant.path c.in_ok-push-in-Bundle.ensures.items c.in_ok-push_leaves-in-Bundle.ensures.listed;
  path = grind (arith, common_steps);
}

pub push_inside-returns-after-loop-field-clause-listed : goal.push_inside-returns-after-loop-field-clause-listed
push_inside-returns-after-loop-field-clause-listed t c =
    let e = leaves-bundle c.args.typ.now c.in-Bundle.fields c.in-Bundle.is in
    grind (arith, common_steps, e)

pub push_inside-returns-then-leaf_count-eq0-clause-listed : goal.push_inside-returns-then-leaf_count-eq0-clause-listed
push_inside-returns-then-leaf_count-eq0-clause-listed t c =
    let z = no_leaves c.args.typ.now (grind (arith, common_steps)) in
    grind (arith, common_steps, z)

pub push_leaves-loop-inside-preserved : goal.push_leaves-loop-inside-preserved
push_leaves-loop-inside-preserved t c =
    let inside = c.loop-inside.inside.now in
    let at = c.in-Vector.is in
    rw c.get-inside.ensures (
      leads_on c.args.typ.now inside _ c.args.self.now.path.items c.loop-inside.self.path.items c.push.new.self.items _ at c.if-length-ne1.false c.loop-inside.invariant.0 c.in_ok-push.ensures.items,
      c.loop-inside.invariant.1,
      element_falls inside _ _ _ at c.loop-inside.invariant.2,
    )
