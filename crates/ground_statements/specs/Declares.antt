-- Which declarations stand in statements, by their names and what they make.
use Rattle.std.specs.Prelude.{◌≡◌, ℕ, ⊤, suc, List, [], ◌∷◌, ◌++◌, map, slice_get, Some}
use Rattle.fir_tree.specs.declared.stmt.Stmt.{Stmt, fold-Stmt}
use Rattle.fir_tree.specs.declared.stmt.Arm.{Arm, fold-Arm}
use Rattle.fir_tree.specs.declared.stmt.Stmt.TheOpen.{Stmt-F, Arm-F}
use Rattle.fir_meaning.specs.Components.{TypedModule, Component, Sort, A_wire, A_register, A_reset_register, A_memory, An_instance, A_node}

-- a name, and what is declared under it
abbrev pub Label : Type 0
Label = ℕ × Sort

-- all of the lists, one after the other
abbrev pub all_labels : List (List Label) → List Label
all_labels [] = []
all_labels (ls ∷ rest) = ls ++ all_labels rest

abbrev pub of_stmt : Stmt-F (List Label) (List Label) → List Label
of_stmt (Stmt-F.Wire name typ) = (name.id, A_wire) ∷ []
of_stmt (Stmt-F.Reg name typ clock) = (name.id, A_register clock) ∷ []
of_stmt (Stmt-F.RegReset name typ clock reset init) = (name.id, A_reset_register clock reset init) ∷ []
of_stmt (Stmt-F.Mem memory) = (memory.name.id, A_memory memory) ∷ []
of_stmt (Stmt-F.Inst name target) = (name.id, An_instance target.id) ∷ []
of_stmt (Stmt-F.Node name expr) = (name.id, A_node expr) ∷ []
of_stmt (Stmt-F.Connect left right) = []
of_stmt (Stmt-F.Invalidate target) = []
of_stmt (Stmt-F.When arms other) = all_labels arms ++ all_labels other
of_stmt (Stmt-F.Skip place) = []

abbrev pub of_arm : Arm-F (List Label) (List Label) → List Label
of_arm arm = all_labels arm.body

-- What is declared in a statement, in text order, the blocks in it included.
abbrev pub labels : Stmt → List Label
labels = fold-Stmt (List Label) (List Label) of_stmt of_arm

abbrev pub arm_labels : Arm → List Label
arm_labels = fold-Arm (List Label) (List Label) of_stmt of_arm

-- What is declared in statements.
abbrev pub body_labels : List Stmt → List Label
body_labels body = all_labels (map labels body)

abbrev pub arms_labels : List Arm → List Label
arms_labels arms = all_labels (map arm_labels arms)

-- The components of the module from this one on are these declarations.
abbrev pub Declares : TypedModule → ℕ → List Label → Type 0
Declares m n [] = ⊤
Declares m n (l ∷ ls) = ((c : Component) × (slice_get m.components n ≡ Some c) × (c.declaration.name ≡ l.0) × (c.declaration.sort ≡ l.1)) × Declares m (suc n) ls
