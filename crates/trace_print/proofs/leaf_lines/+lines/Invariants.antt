use Rattle.std.proofs.Common.{◌≡◌, ◌≤◌, ◌++◌, flat_map, take}
use Rattle.fir_types.specs.declared.fir_type.FirType.{size-FirType}
use Rattle.fir_types.specs.Leaves.{leaves, field_leaves, elements}
use Rattle.trace_print.specs.Listing.{leaf_line}
use Rattle.trace_print.proofs.LeafLines.{LeadsTo}
use Rattle.trace_print.proofs.leaf_lines.+lines.Given as goal

abbrev pub invariant-push_lines-loop-inside : goal.invariant-push_lines-loop-inside
invariant-push_lines-loop-inside l = LeadsTo l.names l.typ l.fn.front.items l.inside l.front.items × (size-FirType l.inside ≤ size-FirType l.typ)

abbrev pub invariant-push_inside-loop-index : goal.invariant-push_inside-loop-index
invariant-push_inside-loop-index l = record {
  text : l.text.items ≡ l.fn.text.items ++ flat_map (leaf_line l.names l.fn.front.items) (elements (leaves l.element) l.index);
  front : l.front.items ≡ l.fn.front.items;
}

abbrev pub invariant-push_inside-loop-field : goal.invariant-push_inside-loop-field
invariant-push_inside-loop-field l = record {
  text : l.text.items ≡ l.fn.text.items ++ flat_map (leaf_line l.names l.fn.front.items) (flat_map field_leaves (take l.field-index l.field-items));
  front : l.front.items ≡ l.fn.front.items;
}
