use Rattle.std.proofs.Common.{All, take}
use Rattle.fir_types.specs.declared.fir_type.FirType.{FirType}
use Rattle.type_index.specs.Gathering.{Gathers}
use Rattle.type_index.specs.Ports.{IsPortField, Keeps}
use Rattle.type_index.proofs.memories.gather_fields.Given as goal

abbrev pub invariant-loop-field : goal.invariant-loop-field
invariant-loop-field l =
    (element mask : FirType) → All (IsPortField element mask) l.fields → Keeps l.names element mask l.fn.kept
    → Gathers l.names (take l.field-index l.fields) l.gathered × Keeps l.names element mask l.kept
