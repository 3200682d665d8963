use Rattle.std.proofs.Common.{take}
use Rattle.fir_types.specs.declared.fir_type.FirType.{FirType}
use Rattle.type_index.specs.Numbers.{HasNumber}
use Rattle.type_index.specs.Sights.{table_of}
use Rattle.module_table.specs.Leading.{ClassAlong}
use Rattle.module_table.proofs.reference.class_along.Given as goal

abbrev pub invariant-loop-suffix : goal.invariant-loop-suffix
invariant-loop-suffix l = (typ : FirType) → HasNumber (table_of l.classes) typ l.base → ClassAlong (table_of l.classes) (take l.suffix-index l.suffixes) typ l.class
