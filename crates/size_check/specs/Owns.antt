-- What a module has of its own, without the modules of its instances: the size of its statements, its leaves, its flat names, their
-- bytes without the instances before them, and its state words.
--
-- The size of a statement is 1, its expression nodes and those of the conditions that it stands under, times the greatest number of
-- leaves, at least 1, that its declaration or one of its own nodes has. A `when` has the conditions of all its arms as its own; an
-- arm stands under the conditions before it as well. Ports count as statements.
use Rattle.std.specs.Prelude.{ℕ, ◌+◌, ◌*◌, max, sum, nat_eq, List, [], ◌∷◌, map, filter_map, if◌then◌else◌}
use Rattle.fir_types.specs.declared.fir_type.FirType.{FirType}
use Rattle.fir_types.specs.declared.fir_type.Shape.TheVariants as shape
use Rattle.fir_types.specs.declared.memory.Memory.{Memory}
use Rattle.fir_types.specs.declared.memory.MemLine.{MemLine}
use Rattle.fir_types.specs.declared.memory.MemLine.TheVariants as line
use Rattle.fir_types.specs.declared.memory.PortMode.{PortMode}
use Rattle.fir_types.specs.declared.memory.PortMode.TheVariants as mode
use Rattle.fir_types.specs.declared.port.Port.{Port}
use Rattle.fir_types.specs.Bundles.{nowhere}
use Rattle.fir_types.specs.Leaves.{count}
use Rattle.fir_types.specs.Memories.{element_of, depth_of, read_latency_in, first_or}
use Rattle.fir_tree.specs.declared.circuit.Module.{Module}
use Rattle.fir_tree.specs.declared.stmt.Stmt.{Stmt, fold-Stmt}
use Rattle.fir_tree.specs.declared.stmt.Arm.{Arm, fold-Arm}
use Rattle.fir_tree.specs.declared.stmt.Stmt.TheOpen.{Stmt-F, Arm-F}
use Rattle.fir_tree.specs.LeafNames.{Texts}
use Rattle.fir_tree.specs.Texts.{name_bytes}
use Rattle.size_check.specs.declared.sums.Sums.{Sums}
use Rattle.size_check.specs.Measures.{nothing, plus, together, greatest}
use Rattle.size_check.specs.Weights.{Typing, nodes, weight}
use Rattle.size_check.specs.Typings.{typing_in}

-- The size of a statement with so many nodes, under conditions with so many, whose types have at most so many leaves.
abbrev pub sized : ℕ → ℕ → ℕ → Sums
sized own most around = record nothing { size = (1 + own + around) * max 1 most }

-- the leaves of a component, each with a flat name
abbrev pub flat : Texts → ℕ → FirType → Sums
flat texts id typ = record { size = 0; leaves = count typ; names = count typ; bytes = name_bytes texts id typ; words = 0 }

-- A leaf of the state has two words, whatever its width.
abbrev pub stored : ℕ → Sums
stored n = record nothing { words = 2 * n }

-- The elements of a memory, as a vector of them: the names of its leaves are those of the elements' leaves.
abbrev pub vector_of : FirType → ℕ → FirType
vector_of element depth = record { place = nowhere; shape = shape.Vector element depth }

abbrev pub cells : Memory → FirType
cells memory = vector_of (element_of memory) (depth_of memory)

-- the names and words of a memory's elements
abbrev pub celled : Texts → ℕ → FirType → Sums
celled texts id typ = record { size = 0; leaves = 0; names = count typ; bytes = name_bytes texts id typ; words = 2 * count typ }

-- A port that reads keeps what it read where the read latency is 1.
abbrev pub reads_in_mode : PortMode → ℕ
reads_in_mode mode.Reader = 1
reads_in_mode mode.Writer = 0
reads_in_mode mode.ReadWriter = 1

abbrev pub reads_in : MemLine → ℕ
reads_in (line.MemPort at m name) = reads_in_mode m
reads_in _ = 0

abbrev pub kept_leaves : List MemLine → FirType → ℕ
kept_leaves lines element = if nat_eq (first_or 0 (filter_map read_latency_in lines)) 1 then sum (map reads_in lines) * count element else 0

abbrev pub captured : Memory → ℕ
captured memory = kept_leaves memory.lines (element_of memory)

-- What a statement has, where the conditions that it stands under have so many nodes.
abbrev pub Own : Type 0
Own = ℕ → Sums

abbrev pub both : Own → Own → Own
both a b around = plus (a around) (b around)

abbrev pub all_own : List Own → Own
all_own owns around = together (map (λ own. own around) owns)

-- An arm: the nodes of its condition, the leaves of their types, and what its statements have.
pub record OwnArm : Type 0 where
  pub nodes : ℕ
  pub most : ℕ
  pub body : Own

-- The arms in order: each stands under its own condition and those of the arms before it.
abbrev pub arms_own : List OwnArm → Own
arms_own [] around = nothing
arms_own (arm ∷ arms) around = plus (arm.body (around + arm.nodes)) (arms_own arms (around + arm.nodes))

abbrev pub nodes_in : List OwnArm → ℕ
nodes_in arms = sum (map (λ arm. arm.nodes) arms)

-- a memory: the leaves of its ports, its elements, and what its ports keep
abbrev pub of_memory : Texts → Typing → Memory → Own
of_memory texts types memory around =
    plus (sized 0 (count (types memory.name.id)) around)
    (plus (flat texts memory.name.id (types memory.name.id)) (plus (celled texts memory.name.id (cells memory)) (stored (captured memory))))

abbrev pub of_stmt : Texts → Typing → Stmt-F Own OwnArm → Own
of_stmt texts types (Stmt-F.Wire name typ) around = plus (sized 0 (count typ) around) (flat texts name.id typ)
of_stmt texts types (Stmt-F.Reg name typ clock) around =
    plus (sized (nodes clock) (max (count typ) (weight clock types).most) around) (plus (flat texts name.id typ) (stored (count typ)))
of_stmt texts types (Stmt-F.RegReset name typ clock reset init) around =
    plus (sized (nodes clock + nodes reset + nodes init) (max (max (count typ) (weight clock types).most) (max (weight reset types).most (weight init types).most)) around)
    (plus (flat texts name.id typ) (stored (count typ)))
of_stmt texts types (Stmt-F.Mem memory) around = of_memory texts types memory around
of_stmt texts types (Stmt-F.Inst name target) around = sized 0 (count (types name.id)) around
of_stmt texts types (Stmt-F.Node name expr) around =
    plus (sized (nodes expr) (max (count (types name.id)) (weight expr types).most) around) (flat texts name.id (types name.id))
of_stmt texts types (Stmt-F.Connect left right) around = sized (nodes left + nodes right) (max (weight left types).most (weight right types).most) around
of_stmt texts types (Stmt-F.Invalidate target) around = sized (nodes target) (weight target types).most around
of_stmt texts types (Stmt-F.When arms other) around =
    plus (sized (nodes_in arms) (greatest (map (λ arm. arm.most) arms)) around) (plus (arms_own arms around) (all_own other (around + nodes_in arms)))
of_stmt texts types (Stmt-F.Skip place) around = sized 0 0 around

abbrev pub of_arm : Typing → Arm-F Own OwnArm → OwnArm
of_arm types arm = record { nodes = nodes arm.condition; most = (weight arm.condition types).most; body = all_own arm.body }

abbrev pub stmt_own : Texts → Typing → Stmt → Own
stmt_own texts types = fold-Stmt Own OwnArm (of_stmt texts types) (of_arm types)

abbrev pub arm_own : Texts → Typing → Arm → OwnArm
arm_own texts types = fold-Arm Own OwnArm (of_stmt texts types) (of_arm types)

abbrev pub port_own : Texts → Port → Sums
port_own texts port = plus (sized 0 (count port.typ) 0) (flat texts port.name.id port.typ)

-- A module: its ports, and the statements of its body, which stand under no condition.
abbrev pub own_in : Texts → Typing → Module → Sums
own_in texts types holder = plus (together (map (port_own texts) holder.ports)) (all_own (map (stmt_own texts types) holder.body) 0)

abbrev pub module_own : Texts → List Module → Module → Sums
module_own texts modules holder = own_in texts (typing_in modules holder) holder
