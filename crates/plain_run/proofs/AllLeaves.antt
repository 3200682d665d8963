-- The leaves of a run are all leaves, and what they read is among them.
use Rattle.fir_tree.specs.declared.scope.Fitted.{Fitted}
use Rattle.std.specs.Prelude.{List}
use Rattle.fir_meaning.specs.Components.{design_of}
use Rattle.fir_meaning.specs.Loops.{HasLeaves}
use Rattle.circuit_laws.specs.WellFormed.{IsWellFormed}
use Rattle.plain_cycle.specs.Layouts.{Located, AreAll, all_flat}
use Rattle.plain_cycle.proofs.Seeing.{leaves_listed}
use Rattle.settling_laws.proofs.Reading.{reads_leaf}

pub are_leaves : (fitted : Fitted) → IsWellFormed fitted → (all : List Located) → AreAll (design_of fitted) all → HasLeaves (design_of fitted) (all_flat all)
are_leaves fitted well all are = record { listed = leaves_listed (design_of fitted) all are; closed = reads_leaf fitted well }
