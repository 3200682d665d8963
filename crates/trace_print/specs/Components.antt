-- The declarations of a circuit in text order, and which of them the listing of widths has lines of.
use Rattle.std.specs.Prelude.{Bool, false, List, [], ◌∷◌, ◌++◌, map, flat_map, drop, get_or}
use Rattle.fir_types.specs.declared.name.Name.{Name}
use Rattle.fir_tree.specs.declared.circuit.Module.{Module}
use Rattle.fir_tree.specs.declared.stmt.Stmt.{Stmt, fold-Stmt}
use Rattle.fir_tree.specs.declared.stmt.Arm.{Arm, fold-Arm}
use Rattle.fir_tree.specs.declared.stmt.Stmt.TheOpen.{Stmt-F, Arm-F}
use Rattle.trace_print.specs.declared.component.Component.{Component}

-- the declarations of a part of a module with this name, which is reached or not
abbrev pub Declared : Type 0
Declared = Name → Bool → List Component

abbrev pub declares : Name → Declared
declares name holder reached = record { holder = holder.id; name = name.id; listed = reached } ∷ []

-- An instance has no lines: its leaves are those of its module's ports.
abbrev pub instantiates : Name → Declared
instantiates name holder reached = record { holder = holder.id; name = name.id; listed = false } ∷ []

abbrev pub none : Declared
none holder reached = []

abbrev pub all_of : List Declared → Declared
all_of parts holder reached = flat_map (λ part. part holder reached) parts

abbrev pub both : Declared → Declared → Declared
both first second holder reached = first holder reached ++ second holder reached

abbrev pub of_stmt : Stmt-F Declared Declared → Declared
of_stmt (Stmt-F.Wire name typ) = declares name
of_stmt (Stmt-F.Reg name typ clock) = declares name
of_stmt (Stmt-F.RegReset name typ clock reset init) = declares name
of_stmt (Stmt-F.Mem memory) = declares memory.name
of_stmt (Stmt-F.Inst name target) = instantiates name
of_stmt (Stmt-F.Node name expr) = declares name
of_stmt (Stmt-F.Connect left right) = none
of_stmt (Stmt-F.Invalidate target) = none
of_stmt (Stmt-F.When arms other) = both (all_of arms) (all_of other)
of_stmt (Stmt-F.Skip place) = none

abbrev pub of_arm : Arm-F Declared Declared → Declared
of_arm arm = all_of arm.body

abbrev pub stmt_declared : Stmt → Declared
stmt_declared = fold-Stmt Declared Declared of_stmt of_arm

abbrev pub arm_declared : Arm → Declared
arm_declared = fold-Arm Declared Declared of_stmt of_arm

-- the ports of a module, and then the declarations of its body
abbrev pub module_declared : Module → Bool → List Component
module_declared m reached = map (λ port. record { holder = m.name.id; name = port.name.id; listed = reached }) m.ports ++ flat_map (λ statement. stmt_declared statement m.name reached) m.body

-- The declarations of all modules, where the flags say which of them the main module reaches.
abbrev pub components_of : List Module → List Bool → List Component
components_of [] reached = []
components_of (m ∷ ms) reached = module_declared m (get_or reached 0 false) ++ components_of ms (drop 1 reached)
