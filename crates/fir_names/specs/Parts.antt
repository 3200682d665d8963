-- What the walk through a module does to what it keeps, part by part: it carries what is visible from each part to the next.
use Rattle.std.specs.Prelude.{ℕ, ◌+◌, List, [], ◌∷◌, ◌++◌, map, length}
use Rattle.fir_types.specs.declared.name.Name.{Name}
use Rattle.fir_tree.specs.declared.circuit.Module.{Module}
use Rattle.fir_tree.specs.declared.stmt.Stmt.{Stmt, fold-Stmt}
use Rattle.fir_tree.specs.declared.stmt.Arm.{Arm, fold-Arm}
use Rattle.fir_tree.specs.declared.stmt.Stmt.TheOpen.{Stmt-F, Arm-F}
use Rattle.fir_tree.specs.Turns.{in_order}
use Rattle.fir_names.specs.Extents.{Seen, Use, references}

-- What a part of a module has: the declarations that it shows to what stands behind it in its block, all names that it
-- declares, the modules of its instances, and its references, each in text order. The numbers of its declarations depend
-- on how many stand before it, and what a reference sees on what the part sees.
pub record Part : Type 0 where
  pub shows : ℕ → List Seen
  pub declares : List Name
  pub instances : List Name
  pub uses : List Seen → ℕ → List Use

abbrev pub nothing : Part
nothing = record { shows = λ n. []; declares = []; instances = []; uses = λ seen n. [] }

-- references, which see the same
abbrev pub mentions : List Name → Part
mentions names = record { shows = λ n. []; declares = []; instances = []; uses = λ seen n. map (λ name. record { name = name; seen = seen }) names }

abbrev pub declares : Name → Part
declares name = record { shows = λ n. (name.id, n) ∷ []; declares = name ∷ []; instances = []; uses = λ seen n. [] }

abbrev pub instance_of : Name → Part
instance_of target = record { shows = λ n. []; declares = []; instances = target ∷ []; uses = λ seen n. [] }

-- a part, and behind it in its block another one, which sees what the first one sees and shows
abbrev pub joined : Part → Part → Part
joined first second = record {
  shows = λ n. first.shows n ++ second.shows (n + length first.declares);
  declares = first.declares ++ second.declares;
  instances = first.instances ++ second.instances;
  uses = λ seen n. first.uses seen n ++ second.uses (seen ++ first.shows n) (n + length first.declares);
}

abbrev pub in_turn : List Part → Part
in_turn = in_order joined nothing

-- a block shows nothing to what stands behind it
abbrev pub block : List Part → Part
block parts = record (in_turn parts) { shows = λ n. [] }

-- A statement. What it refers to comes before what it declares, since it doesn't see its own declaration.
abbrev pub of_stmt : Stmt-F Part Part → Part
of_stmt (Stmt-F.Wire name typ) = declares name
of_stmt (Stmt-F.Reg name typ clock) = joined (mentions (references clock)) (declares name)
of_stmt (Stmt-F.RegReset name typ clock reset init) = joined (mentions (references clock ++ references reset ++ references init)) (declares name)
of_stmt (Stmt-F.Mem memory) = declares memory.name
of_stmt (Stmt-F.Inst name target) = joined (instance_of target) (declares name)
of_stmt (Stmt-F.Node name expr) = joined (mentions (references expr)) (declares name)
of_stmt (Stmt-F.Connect left right) = mentions (references left ++ references right)
of_stmt (Stmt-F.Invalidate target) = mentions (references target)
of_stmt (Stmt-F.When arms other) = joined (in_turn arms) (block other)
of_stmt (Stmt-F.Skip place) = nothing

abbrev pub of_arm : Arm-F Part Part → Part
of_arm arm = joined (mentions (references arm.condition)) (block arm.body)

abbrev pub stmt_part : Stmt → Part
stmt_part = fold-Stmt Part Part of_stmt of_arm

abbrev pub arm_part : Arm → Part
arm_part = fold-Arm Part Part of_stmt of_arm

-- a module: its ports, and then its body
abbrev pub module_part : Module → Part
module_part module' = joined (in_turn (map (λ port. declares port.name) module'.ports)) (in_turn (map stmt_part module'.body))
