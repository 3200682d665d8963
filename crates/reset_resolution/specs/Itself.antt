-- A circuit that is given, and else this one.
use Rattle.std.specs.Prelude.{Option, Some, None}
use Rattle.fir_tree.specs.declared.circuit.Circuit.{Circuit}

abbrev pub or_itself : Circuit → Option Circuit → Circuit
or_itself circuit (Some tree) = tree
or_itself circuit None = circuit
