-- Which ground places of a circuit feed which (FIRRTL specification 3.0, "Reset Type"): the source side of a connect feeds the driven
-- side, and the expression of a node the node, leaf by leaf. Neither flows nor indices are judged here.
use Rattle.std.specs.Prelude.{◌≡◌, Contains, ℕ, ◌+◌, ◌==◌, nat_eq, Bool, true, false, List, [], ◌∷◌, ◌++◌, map, flat_map, filter_map, find, length, take, drop, is_some, Option, Some, None, option_map, option_and_then, if◌then◌else◌}
use Rattle.std.specs.List.{range_with_len}
use Rattle.std.specs.Map.{lookup}
use Rattle.place_text.specs.declared.place.Place.{Place}
use Rattle.bit_words.specs.declared.value.Kind.{Kind as Sign}
use Rattle.bit_words.specs.declared.value.Kind.TheVariants.{Unsigned, Signed}
use Rattle.fir_types.specs.declared.fir_type.FirType.{FirType}
use Rattle.fir_types.specs.declared.fir_type.Shape.{Shape}
use Rattle.fir_types.specs.declared.fir_type.Shape.TheOpen.{Shape-F}
use Rattle.fir_types.specs.declared.fir_type.Shape.TheViews.{out-Shape}
use Rattle.fir_types.specs.declared.fir_type.Shape.TheVariants as shape
use Rattle.fir_types.specs.declared.fir_type.Field.{Field}
use Rattle.fir_types.specs.declared.port.Port.{Port}
use Rattle.fir_types.specs.declared.memory.Memory.{Memory}
use Rattle.fir_types.specs.declared.memory.MemLine.{MemLine}
use Rattle.fir_types.specs.declared.memory.MemLine.TheVariants as line
use Rattle.fir_types.specs.declared.memory.PortMode.{PortMode}
use Rattle.fir_types.specs.declared.memory.PortMode.TheVariants as mode
use Rattle.fir_types.specs.Bundles.{instance_of, memory_of, mask_of}
use Rattle.fir_types.specs.Memories.{element_of}
use Rattle.prim_ops.specs.declared.operation.PrimOp.{PrimOp}
use Rattle.prim_ops.specs.declared.operation.PrimOp.TheVariants.{AsAsyncReset}
use Rattle.prim_ops.specs.Kinds.{row_kind}
use Rattle.fir_tree.specs.declared.circuit.Circuit.{Circuit}
use Rattle.fir_tree.specs.declared.circuit.Module.{Module}
use Rattle.fir_tree.specs.declared.expr.Expr.{Expr, fold-Expr}
use Rattle.fir_tree.specs.declared.expr.Suffix.{Suffix}
use Rattle.fir_tree.specs.declared.expr.Form.TheOpen.{Form-F, Suffix-F, Expr-F}
use Rattle.fir_tree.specs.declared.stmt.Stmt.{Stmt, fold-Stmt}
use Rattle.fir_tree.specs.declared.stmt.Arm.{Arm, fold-Arm}
use Rattle.fir_tree.specs.declared.stmt.Stmt.TheOpen.{Stmt-F, Arm-F}
use Rattle.fir_tree.specs.Turns.{in_order}
use Rattle.fir_tree.specs.Kinds.{ground}
use Rattle.fir_types.specs.Spots.{size}
use Rattle.reset_search.specs.declared.ground.Word.{Word}
use Rattle.reset_search.specs.declared.ground.Word.TheVariants.{OfAsync}
use Rattle.reset_search.specs.declared.ground.Ground.{Ground}
use Rattle.reset_search.specs.declared.spot.Spot.{Spot}
use Rattle.reset_search.specs.declared.spot.Spot.TheVariants.{Cast, Declared, OfNode}
use Rattle.reset_search.specs.declared.spot.Feed.{Feed}
use Rattle.reset_search.specs.declared.spot.Feeds.{Feeds}
use Rattle.reset_search.specs.declared.spot.Reach.{Reach}
use Rattle.reset_search.specs.Grounds.{grounds, are_alike, is_one_bit_or_uint, is_sint}

abbrev pub feed : Spot → Spot → Feed
feed from to = record { from = from; to = to }

abbrev pub reach : FirType → List Spot → Reach
reach typ spots = record { typ = typ; spots = spots }

-- so many places of the text from this number on, and of a node
abbrev pub declared_from : ℕ → ℕ → List Spot
declared_from n count = map Declared (range_with_len n count)

abbrev pub node_from : ℕ → ℕ → List Spot
node_from n count = map OfNode (range_with_len n count)

-- the components that are declared so far in a module, by the numbers of their names
abbrev pub Known : Type 0
Known = List (ℕ × Reach)

-- one more component, where it has a type; of one name the first counts
abbrev pub known_with : Known → ℕ → Option Reach → Known
known_with known name (Some r) = if is_some (lookup (nat_eq name) known) then known else known ++ (name, r) ∷ []
known_with known name None = known

-- Expressions. One without a type comes to nothing.

abbrev pub Among : Type 0
Among = Known → Option Reach

abbrev pub Step : Type 0
Step = Reach → Option Reach

-- the places of the first field of this name
abbrev pub field_among : ℕ → List Field → List Spot → Option Reach
field_among name [] spots = None
field_among name (f ∷ fs) spots = if f.name.id == name then Some (reach f.typ (take (size f.typ) spots)) else field_among name fs (drop (size f.typ) spots)

abbrev pub field_of : ℕ → List Spot → Shape-F Shape Field FirType → Option Reach
field_of name spots (Shape-F.Bundle fields) = field_among name fields spots
field_of name spots _ = None

abbrev pub element_in : List Spot → Shape-F Shape Field FirType → Option Reach
element_in spots (Shape-F.Vector element n) = Some (reach element spots)
element_in spots _ = None

abbrev pub field_step : ℕ → Step
field_step name r = field_of name r.spots (out-Shape r.typ.shape)

abbrev pub element_step : Step
element_step r = element_in r.spots (out-Shape r.typ.shape)

abbrev pub along : List Step → Option Reach → Option Reach
along [] r = r
along (step ∷ steps) r = along steps (option_and_then step r)

abbrev pub is_cast : PrimOp → Bool
is_cast AsAsyncReset = true
is_cast _ = false

abbrev pub sign_of_layer : Shape-F Shape Field FirType → Option Sign
sign_of_layer s = if is_one_bit_or_uint s then Some Unsigned else if is_sint s then Some Signed else None

abbrev pub with_sign : Option Sign → Option (List Sign) → Option (List Sign)
with_sign (Some sign) (Some signs) = Some (sign ∷ signs)
with_sign _ _ = None

abbrev pub signs_of : List (Option Reach) → Option (List Sign)
signs_of [] = Some []
signs_of (r ∷ rs) = with_sign (option_and_then (λ x. sign_of_layer (out-Shape x.typ.shape)) r) (signs_of rs)

-- An operation has the type of its row. An `asAsyncReset` counts as an AsyncReset leaf, and every other one feeds nothing.
abbrev pub result : PrimOp → Place → Sign → Reach
result op place sign =
    if is_cast op then reach (record { place = place; shape = shape.AsyncReset }) (Cast ∷ []) else reach (ground place sign None) []

abbrev pub operation : PrimOp → Place → List (Option Reach) → Option Reach
operation op place operands = option_map (result op place) (option_and_then (row_kind op) (signs_of operands))

-- a choice feeds nothing
abbrev pub choice : List (Option Reach) → Option Reach
choice (Some c ∷ Some a ∷ Some b ∷ []) = if are_alike a.typ b.typ then Some (reach a.typ []) else None
choice _ = None

abbrev pub of_form : Form-F (Place → Among) Step Among → Place → Among
of_form (Form-F.Ref name suffixes) place known = along suffixes (lookup (nat_eq name.id) known)
of_form (Form-F.Literal sign width number) place known = Some (reach (ground place sign width) [])
of_form (Form-F.Prim op operands params) place known = operation op place (map (λ e. e known) operands)
of_form (Form-F.Mux operands) place known = choice (map (λ e. e known) operands)

abbrev pub of_suffix : Suffix-F (Place → Among) Step Among → Step
of_suffix (Suffix-F.Field name) = field_step name.id
of_suffix (Suffix-F.At bracket at n) = element_step
of_suffix (Suffix-F.Index bracket index) = element_step

abbrev pub of_expr : Expr-F (Place → Among) Step Among → Among
of_expr e = e.form e.place

-- What an expression comes to among the components.
abbrev pub reached_by : Expr → Among
reached_by = fold-Expr (Place → Among) Step Among of_form of_suffix of_expr

-- Feeds

-- Of a pair of leaves the right one feeds the left one, and where they are flipped the left one the right one.
abbrev pub between : Ground → Spot → Spot → List Feed
between g left right = if g.leaf then (if g.flip then feed left right else feed right left) ∷ [] else []

abbrev pub pairs : List Ground → List Spot → List Spot → List Feed
pairs (g ∷ gs) (l ∷ ls) (r ∷ rs) = between g l r ++ pairs gs ls rs
pairs _ _ _ = []

-- A connect whose sides aren't equivalent where Reset, AsyncReset and UInt are one type feeds nothing.
abbrev pub connected : Option Reach → Option Reach → List Feed
connected (Some left) (Some right) = if are_alike left.typ right.typ then pairs (grounds left.typ) left.spots right.spots else []
connected _ _ = []

-- each of the second places is fed by the first one beside it
abbrev pub fed_by : List Spot → List Spot → List Feed
fed_by (source ∷ sources) (own ∷ owns) = feed source own ∷ fed_by sources owns
fed_by _ _ = []

-- the places that the text calls AsyncReset
abbrev pub where_async : Word → Spot → List Spot
where_async OfAsync spot = spot ∷ []
where_async _ spot = []

abbrev pub asyncs_among : List Ground → List Spot → List Spot
asyncs_among (g ∷ gs) (s ∷ spots) = where_async g.word s ++ asyncs_among gs spots
asyncs_among _ _ = []

-- Statements: what is known behind them, how many places of the text and of nodes they have, which places feed which, and the
-- AsyncReset leaves.

pub record Gathered : Type 0 where
  pub known : Known
  pub declared : ℕ
  pub nodes : ℕ
  pub feeds : List Feed
  pub asyncs : List Spot

-- among what is known, with places of the text and of nodes from these numbers on
abbrev pub Walk : Type 0
Walk = Known → ℕ → ℕ → Gathered

abbrev pub nothing : Walk
nothing known n k = record { known = known; declared = 0; nodes = 0; feeds = []; asyncs = [] }

abbrev pub and_then : Walk → Walk → Walk
and_then first second known n k =
    let a = first known n k in
    let b = second a.known (n + a.declared) (k + a.nodes) in
    record { known = b.known; declared = a.declared + b.declared; nodes = a.nodes + b.nodes; feeds = a.feeds ++ b.feeds; asyncs = a.asyncs ++ b.asyncs }

abbrev pub in_turn : List Walk → Walk
in_turn = in_order and_then nothing

-- a wire or a register
abbrev pub declares : ℕ → FirType → Walk
declares name typ known n k =
    let spots = declared_from n (size typ) in
    record { known = known_with known name (Some (reach typ spots)); declared = size typ; nodes = 0; feeds = []; asyncs = asyncs_among (grounds typ) spots }

-- A memory: the places of an element, which the data of all its ports are, and then those of each port's own fields: its address and its
-- enable, the mode, and the mask, which has a place for a Clock of the element as well.
abbrev pub own_count : ℕ → PortMode → ℕ
own_count mask mode.Reader = 2
own_count mask mode.Writer = 2 + mask
own_count mask mode.ReadWriter = 3 + mask

abbrev pub port_spots : List Spot → ℕ → ℕ → PortMode → List Spot
port_spots element mask n mode.Reader = declared_from n 2 ++ element
port_spots element mask n mode.Writer = declared_from n 2 ++ (element ++ declared_from (n + 2) mask)
port_spots element mask n mode.ReadWriter = declared_from n 2 ++ (element ++ (Declared (n + 2) ∷ (element ++ declared_from (n + 3) mask)))

-- what a line has, where the own places of its port have the numbers from this one on
abbrev pub line_spots : List Spot → ℕ → ℕ → MemLine → List Spot
line_spots element mask n (line.MemPort at m name) = port_spots element mask n m
line_spots element mask n _ = []

abbrev pub line_count : ℕ → MemLine → ℕ
line_count mask (line.MemPort at m name) = own_count mask m
line_count mask _ = 0

abbrev pub lines_spots : List Spot → ℕ → ℕ → List MemLine → List Spot
lines_spots element mask n [] = []
lines_spots element mask n (l ∷ lines) = line_spots element mask n l ++ lines_spots element mask (n + line_count mask l) lines

abbrev pub lines_count : ℕ → List MemLine → ℕ
lines_count mask [] = 0
lines_count mask (l ∷ lines) = line_count mask l + lines_count mask lines

abbrev pub element_size : Memory → ℕ
element_size memory = size (element_of memory)

abbrev pub mask_size : Memory → ℕ
mask_size memory = size (mask_of (element_of memory))

abbrev pub memory_count : Memory → ℕ
memory_count memory = element_size memory + lines_count (mask_size memory) memory.lines

abbrev pub memory_spots : Memory → ℕ → List Spot
memory_spots memory n = lines_spots (declared_from n (element_size memory)) (mask_size memory) (n + element_size memory) memory.lines

abbrev pub declares_memory : Memory → Walk
declares_memory memory known n k = record {
  known = known_with known memory.name.id (Some (reach (memory_of memory) (memory_spots memory n)));
  declared = memory_count memory;
  nodes = 0;
  feeds = [];
  asyncs = asyncs_among (grounds (element_of memory)) (declared_from n (element_size memory));
}

-- A module with the places of its ports, which all its instances share.
pub record WithPorts : Type 0 where
  pub holder : Module
  pub ports : List (List Spot)

abbrev pub instance_reach : WithPorts → Reach
instance_reach m = reach (instance_of m.holder.ports) (flat_map (λ spots. spots) m.ports)

-- what the instances of the module of a name come to: of one name the first counts
abbrev pub Instances : Type 0
Instances = ℕ → Option Reach

abbrev pub instance_in : List WithPorts → Instances
instance_in modules name = option_map instance_reach (find (λ m. m.holder.name.id == name) modules)

abbrev pub declares_instance : Instances → ℕ → ℕ → Walk
declares_instance instances name target known n k = record { known = known_with known name (instances target); declared = 0; nodes = 0; feeds = []; asyncs = [] }

-- A node has the type of its expression, and places of its own, which the expression feeds.
abbrev pub named_as : ℕ → Option Reach → Walk
named_as name (Some r) known n k =
    let own = node_from k (size r.typ) in
    record {
      known = known_with known name (Some (reach r.typ own));
      declared = 0;
      nodes = size r.typ;
      feeds = fed_by r.spots own;
      asyncs = asyncs_among (grounds r.typ) own;
    }
named_as name None known n k = nothing known n k

abbrev pub names_node : ℕ → Expr → Walk
names_node name e known = named_as name (reached_by e known) known

abbrev pub connects : Expr → Expr → Walk
connects left right known n k =
    record { known = known; declared = 0; nodes = 0; feeds = connected (reached_by left known) (reached_by right known); asyncs = [] }

abbrev pub of_stmt : Instances → Stmt-F Walk Walk → Walk
of_stmt instances (Stmt-F.Wire name typ) = declares name.id typ
of_stmt instances (Stmt-F.Reg name typ clock) = declares name.id typ
of_stmt instances (Stmt-F.RegReset name typ clock reset init) = declares name.id typ
of_stmt instances (Stmt-F.Mem memory) = declares_memory memory
of_stmt instances (Stmt-F.Inst name target) = declares_instance instances name.id target.id
of_stmt instances (Stmt-F.Node name e) = names_node name.id e
of_stmt instances (Stmt-F.Connect left right) = connects left right
of_stmt instances (Stmt-F.When arms other) = and_then (in_turn arms) (in_turn other)
of_stmt instances _ = nothing

abbrev pub of_arm : Arm-F Walk Walk → Walk
of_arm arm = in_turn arm.body

abbrev pub stmt_walk : Instances → Stmt → Walk
stmt_walk instances = fold-Stmt Walk Walk (of_stmt instances) of_arm

abbrev pub arm_walk : Instances → Arm → Walk
arm_walk instances = fold-Arm Walk Walk (of_stmt instances) of_arm

-- The circuit: the ports of all modules first, then their bodies, each in text order.

abbrev pub ports_count : List Port → ℕ
ports_count [] = 0
ports_count (port ∷ ports) = size port.typ + ports_count ports

abbrev pub ports_from : ℕ → List Port → List (List Spot)
ports_from n [] = []
ports_from n (port ∷ ports) = declared_from n (size port.typ) ∷ ports_from (n + size port.typ) ports

abbrev pub modules_from : ℕ → List Module → List WithPorts
modules_from n [] = []
modules_from n (m ∷ modules) = record { holder = m; ports = ports_from n m.ports } ∷ modules_from (n + ports_count m.ports) modules

abbrev pub all_ports : List Module → ℕ
all_ports [] = 0
all_ports (m ∷ modules) = ports_count m.ports + all_ports modules

abbrev pub known_ports : List Port → List (List Spot) → Known → Known
known_ports (port ∷ ports) (spots ∷ rest) known = known_ports ports rest (known_with known port.name.id (Some (reach port.typ spots)))
known_ports _ _ known = known

abbrev pub ports_asyncs : List Port → List (List Spot) → List Spot
ports_asyncs (port ∷ ports) (spots ∷ rest) = asyncs_among (grounds port.typ) spots ++ ports_asyncs ports rest
ports_asyncs _ _ = []

-- the bodies of modules, with places of the text and of nodes from these numbers on
abbrev pub bodies_from : Instances → ℕ → ℕ → List WithPorts → Feeds
bodies_from instances n k [] = record { feeds = []; asyncs = [] }
bodies_from instances n k (m ∷ rest) =
    let body = in_turn (map (stmt_walk instances) m.holder.body) (known_ports m.holder.ports m.ports []) n k in
    let others = bodies_from instances (n + body.declared) (k + body.nodes) rest in
    record { feeds = body.feeds ++ others.feeds; asyncs = ports_asyncs m.holder.ports m.ports ++ (body.asyncs ++ others.asyncs) }

abbrev pub feeds_in : Circuit → Feeds
feeds_in circuit =
    let modules = modules_from 0 circuit.modules in
    let all = bodies_from (instance_in modules) (all_ports circuit.modules) 0 modules in
    record { feeds = all.feeds; asyncs = Cast ∷ all.asyncs }

-- A chain of feeds leads to the place from an AsyncReset leaf.
pub data IsReached (all : Feeds) : Spot → Type 0 where
  begins : {p : Spot} → Contains all.asyncs p → IsReached all p
  onward : {p q : Spot} → IsReached all p → Contains all.feeds (feed p q) → IsReached all q
