-- What the statements of a branch declare.
use Rattle.fir_tree.specs.declared.circuit.Module.{Module}
use Rattle.fir_tree.specs.declared.stmt.Arm.{Arm, fold-Arm}
use Rattle.reference_flow.specs.Flows.{Declared, of_declaring, of_declaring_arm}
use Rattle.std.specs.Prelude.{List}

abbrev pub arm_declared : List Module → Arm → Declared
arm_declared modules = fold-Arm Declared Declared (of_declaring modules) of_declaring_arm
