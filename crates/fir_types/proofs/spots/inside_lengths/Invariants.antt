use Rattle.std.proofs.Common.{◌≡◌, ◌≤◌}
use Rattle.fir_types.specs.Bundles.{mask_of}
use Rattle.fir_types.specs.declared.fir_type.FirType.{size-FirType}
use Rattle.fir_types.specs.Spots.{spots}
use Rattle.fir_types.proofs.spots.inside_lengths.Given as goal

abbrev pub invariant-loop-inside : goal.invariant-loop-inside
invariant-loop-inside l = (spots l.inside ≡ spots l.typ) × (spots (mask_of l.inside) ≡ spots (mask_of l.typ)) × (size-FirType l.inside ≤ size-FirType l.typ)
