use Rattle.std.proofs.Common.{◌∙◌, arith}
use Rattle.std.proofs.lemmas.Grind.{common_steps}
use Rattle.fir_types.specs.Leaves.{leaves}
use Rattle.fir_types.proofs.Layers.{leaves-bundle}
use Rattle.fir_types.proofs.Runs.{element_falls}
use Rattle.fir_types.proofs.Walks.{no_leaves}
use Rattle.fir_tree.specs.LeafNames.{text_of}
use Rattle.trace_print.proofs.LeafLines.{elements_more, fields_more, at_element, at_field, cut_back, leads_on}
use Rattle.trace_print.proofs.leaf_lines.+lines.Goals as goal

pub push_inside-returns-after-loop-field-clause-text : goal.push_inside-returns-after-loop-field-clause-text
push_inside-returns-after-loop-field-clause-text t c =
    let e = leaves-bundle c.args.typ.now c.in-Bundle.fields c.in-Bundle.is in
    grind (arith, common_steps, e)

pub push_inside-returns-then-leaf_count-eq0-clause-text : goal.push_inside-returns-then-leaf_count-eq0-clause-text
push_inside-returns-then-leaf_count-eq0-clause-text t c =
    let none = no_leaves c.args.typ.now (grind (arith, common_steps)) in
    grind (arith, common_steps, none)

pub push_inside-loop-index-preserved : goal.push_inside-loop-index-preserved
push_inside-loop-index-preserved t c =
    let way = at_element c.args.front.now.items c.loop-index.front.items c.push-in-loop-index.new.self.items c.as_bytes.result.now c.extend_from_slice.new.self.items c.push-in-loop-index-2.new.self.items
    c.loop-index.index c.loop-index.invariant.front c.in_ok-push-in-Vector.ensures.items c.in_ok-extend_from_slice-in-Vector.ensures.items (c.as_bytes.ensures.value ∙ c.format.ensures.text)
    c.in_ok-push-in-Vector-2.ensures.items in
    record {
      text = elements_more c.args.names.now (leaves c.in-Vector.element) c.loop-index.index c.args.front.now.items c.push-in-loop-index-2.new.self.items c.args.text.now.items
          c.loop-index.text.items c.push_lines-in-loop-index.new.text.items c.loop-index.invariant.text way (rw c.get.ensures at c.in_ok-push_lines-in-Vector.ensures.text);
      front = cut_back c.args.front.now.items _ c.push-in-loop-index-2.new.self.items c.push_lines-in-loop-index.new.front.items c.truncate-in-loop-index.new.self.items c.len-before-in-Vector.result way
          c.in_ok-push_lines-in-Vector.ensures.front (grind (arith, common_steps)) c.truncate-in-loop-index.ensures.items;
    }

pub push_inside-loop-field-preserved : goal.push_inside-loop-field-preserved
push_inside-loop-field-preserved t c =
    let way = at_field c.args.front.now.items c.loop-field.front.items c.push.new.self.items (text_of c.args.names.now c.field-item.result.name.id) c.push_name.new.text.items
    c.loop-field.invariant.front c.in_ok-push-in-Bundle.ensures.items c.in_ok-push_name-in-Bundle.ensures in
    record {
      text = fields_more c.args.names.now c.as_slice-field-items.result.now c.loop-field.field-index c.field-item.result c.args.front.now.items c.push_name.new.text.items c.args.text.now.items
          c.loop-field.text.items c.push_lines.new.text.items c.loop-field-test.true c.field-item.is c.loop-field.invariant.text way c.in_ok-push_lines-in-Bundle.ensures.text;
      front = cut_back c.args.front.now.items _ c.push_name.new.text.items c.push_lines.new.front.items c.truncate.new.self.items c.len-before.result way c.in_ok-push_lines-in-Bundle.ensures.front
          (grind (arith, common_steps)) c.truncate.ensures.items;
    }

pub push_lines-loop-inside-preserved : goal.push_lines-loop-inside-preserved
push_lines-loop-inside-preserved t c =
    let inside = c.loop-inside.inside.now in
    let at = c.in-Vector.is in
    rw c.get-inside.ensures (
      leads_on c.args.names.now c.args.typ.now inside _ c.args.front.now.items c.loop-inside.front.items c.extend_from_slice.new.self.items _ at c.if-length-ne1.false
          c.loop-inside.invariant.0 c.in_ok-extend_from_slice.ensures.items,
      element_falls inside _ _ _ at c.loop-inside.invariant.1,
    )
