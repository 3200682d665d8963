-- The statements of a node.
use Rattle.std.specs.Prelude.{ℕ, ◌+◌, List, [], ◌∷◌, ◌++◌, if◌then◌else◌}
use Rattle.fir_types.specs.declared.leaf.TypeLeaf.{TypeLeaf}
use Rattle.fir_types.specs.Leaves.{is_clock}
use Rattle.ground_net.specs.declared.circuit.GroundStmt.{GroundStmt}
use Rattle.ground_net.specs.declared.circuit.GroundStmt.TheVariants.{Connect}
use Rattle.ground_exprs.specs.declared.source.Source.{Source}

-- a connect of a leaf that is no Clock
abbrev pub node_leaf : ℕ → TypeLeaf → Source → List GroundStmt
node_leaf number leaf s = if is_clock leaf then [] else Connect number [] s.expr ∷ []

-- A connect of each leaf, one after another, but for Clock leaves.
abbrev pub node_leaves : ℕ → List TypeLeaf → List Source → List GroundStmt
node_leaves number [] sources = []
node_leaves number (leaf ∷ ls) [] = []
node_leaves number (leaf ∷ ls) (s ∷ sources) = node_leaf number leaf s ++ node_leaves (number + 1) ls sources
