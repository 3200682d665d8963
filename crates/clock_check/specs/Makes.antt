-- The instances of a module, each by its name and that of its module, in text order.
use Rattle.std.specs.Prelude.{ℕ, ◌++◌, List, [], ◌∷◌, map, flat_map}
use Rattle.fir_tree.specs.declared.circuit.Module.{Module}
use Rattle.fir_tree.specs.declared.stmt.Stmt.{Stmt, fold-Stmt}
use Rattle.fir_tree.specs.declared.stmt.Arm.{Arm, fold-Arm}
use Rattle.fir_tree.specs.declared.stmt.Stmt.TheOpen.{Stmt-F, Arm-F}
use Rattle.fir_meaning.specs.Components.{Declaration, Sort, An_instance}
use Rattle.clock_check.specs.declared.instances.Instance.{Instance}

-- the name of an instance, and that of its module
abbrev pub Makes : Type 0
Makes = ℕ × ℕ

abbrev pub makes_of : List Instance → List Makes
makes_of = map (λ i. (i.name, i.target))

abbrev pub all_makes : List (List Makes) → List Makes
all_makes = flat_map (λ makes. makes)

abbrev pub of_stmt : Stmt-F (List Makes) (List Makes) → List Makes
of_stmt (Stmt-F.Inst name target) = (name.id, target.id) ∷ []
of_stmt (Stmt-F.When arms other) = all_makes arms ++ all_makes other
of_stmt _ = []

abbrev pub of_arm : Arm-F (List Makes) (List Makes) → List Makes
of_arm arm = all_makes arm.body

-- those of a statement, the blocks in it included
abbrev pub stmt_makes : Stmt → List Makes
stmt_makes = fold-Stmt (List Makes) (List Makes) of_stmt of_arm

abbrev pub arm_makes : Arm → List Makes
arm_makes = fold-Arm (List Makes) (List Makes) of_stmt of_arm

-- those of a module
abbrev pub module_makes : Module → List Makes
module_makes holder = flat_map stmt_makes holder.body

-- those of a declaration
abbrev pub sort_makes : Declaration → Sort → List Makes
sort_makes d (An_instance target) = (d.name, target) ∷ []
sort_makes d _ = []

abbrev pub makes_by : Declaration → List Makes
makes_by d = sort_makes d d.sort
