use Rattle.std.proofs.Common.{◌≡◌, ◌≤◌, ◌++◌, map, take}
use Rattle.std.specs.List.{flat_map}
use Rattle.fir_types.specs.declared.fir_type.FirType.{size-FirType}
use Rattle.fir_types.specs.Leaves.{leaves, field_leaves, elements, under}
use Rattle.fir_types.proofs.Singles.{LeadsTo}
use Rattle.fir_types.proofs.listing.+push.Given as goal

abbrev pub invariant-push_leaves-loop-inside : goal.invariant-push_leaves-loop-inside
invariant-push_leaves-loop-inside l = LeadsTo l.typ l.fn.path.items l.inside l.path.items × (size-FirType l.inside ≤ size-FirType l.typ)

abbrev pub invariant-push_field_leaves-loop-field : goal.invariant-push_field_leaves-loop-field
invariant-push_field_leaves-loop-field l = record {
  listed : l.listed.items ≡ l.fn.listed.items ++ map (under l.fn.path.items l.flip) (flat_map field_leaves (take l.field-index l.fields));
  path : l.path.items ≡ l.fn.path.items;
}

abbrev pub invariant-push_elements-loop-index : goal.invariant-push_elements-loop-index
invariant-push_elements-loop-index l = record {
  listed : l.listed.items ≡ l.fn.listed.items ++ map (under l.fn.path.items l.flip) (elements (leaves l.element) l.index);
  path : l.path.items ≡ l.fn.path.items;
}
