use Rattle.std.proofs.Common.{◌≡◌, ◌≤◌, ◌++◌, map, take}
use Rattle.std.specs.List.{flat_map}
use Rattle.fir_types.specs.declared.fir_type.FirType.{size-FirType}
use Rattle.fir_types.specs.Leaves.{leaves, field_leaves, elements, under}
use Rattle.fir_types.proofs.Singles.{LeadsTo}
use Rattle.drive_check.proofs.listing.Listing.+push.Given as goal

abbrev pub invariant-push_leaves-loop-inside : goal.invariant-push_leaves-loop-inside
invariant-push_leaves-loop-inside l = LeadsTo l.typ l.fn.self.path.items l.inside l.self.path.items × (l.self.listed.items ≡ l.fn.self.listed.items) × (size-FirType l.inside ≤ size-FirType l.typ)

abbrev pub invariant-push_inside-loop-field : goal.invariant-push_inside-loop-field
invariant-push_inside-loop-field l = record {
  listed : l.self.listed.items ≡ l.fn.self.listed.items ++ map (under l.fn.self.path.items l.flip) (flat_map field_leaves (take l.field-index l.field-items));
  path : l.self.path.items ≡ l.fn.self.path.items;
}

abbrev pub invariant-push_inside-loop-index : goal.invariant-push_inside-loop-index
invariant-push_inside-loop-index l = record {
  listed : l.self.listed.items ≡ l.fn.self.listed.items ++ map (under l.fn.self.path.items l.flip) (elements (leaves l.element) l.index);
  path : l.self.path.items ≡ l.fn.self.path.items;
}
