use Rattle.std.proofs.Common.{◌≡◌, ◌≤◌}
use Rattle.fir_types.specs.declared.fir_type.FirType.{size-FirType}
use Rattle.width_rules.specs.Places.{node_spots}
use Rattle.width_rules.proofs.sizes.inside_node.Given as goal

abbrev pub invariant-loop-inside : goal.invariant-loop-inside
invariant-loop-inside l = (node_spots l.inside ≡ node_spots l.typ) × (size-FirType l.inside ≤ size-FirType l.typ)
