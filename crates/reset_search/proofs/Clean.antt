-- A circuit in which no AsyncReset is declared and no source is an `asAsyncReset` resolves to itself.
use Rattle.std.proofs.Common.{arith, ◌≡◌, ℕ, zero, suc, ◌+◌, Bool, true, false, ◌||◌, List, [], ◌∷◌, ◌++◌, map, length, Option, Some, None, refl, sym, ap, ap₂, ◌∙◌, subst, nat_eq, if◌then◌else◌}
use Rattle.std.specs.Prelude.{flat_map, option_map, find, Contains, ◌==◌}
use Rattle.std.specs.List.{list_any}
use Rattle.fir_types.specs.declared.fir_type.FirType.{FirType}
use Rattle.fir_types.specs.declared.port.Port.{Port}
use Rattle.fir_types.specs.declared.memory.Memory.{Memory}
use Rattle.fir_types.specs.declared.memory.MemLine.{MemLine}
use Rattle.fir_types.specs.declared.memory.MemLine.TheVariants as line
use Rattle.fir_types.specs.declared.memory.PortMode.{PortMode}
use Rattle.fir_types.specs.declared.memory.PortMode.TheVariants as mode
use Rattle.fir_types.specs.Spots.{size}
use Rattle.fir_types.specs.Memories.{element_of}
use Rattle.fir_types.specs.Bundles.{memory_of}
use Rattle.fir_tree.specs.declared.circuit.Circuit.{Circuit}
use Rattle.fir_tree.specs.declared.circuit.Module.{Module}
use Rattle.fir_tree.specs.declared.expr.Expr.{Expr}
use Rattle.fir_tree.specs.declared.stmt.Stmt.{Stmt, fold-Stmt}
use Rattle.fir_tree.specs.declared.stmt.Arm.{Arm, fold-Arm}
use Rattle.fir_tree.specs.declared.stmt.Stmt.TheOpen.{Stmt-F, Arm-F}
use Rattle.fir_tree.specs.declared.stmt.Stmt.TheFolds.{map-Stmt, map-Arm, ind-Stmt, fold-roll-Stmt, fold-roll-Arm}
use Rattle.fir_tree.specs.declared.stmt.Stmt.TheViews.{roll-Stmt, roll-Arm}
use Rattle.reset_search.specs.declared.spot.Spot.{Spot}
use Rattle.reset_search.specs.declared.spot.Spot.TheVariants.{Cast, Declared, OfNode}
use Rattle.reset_search.specs.declared.spot.Reach.{Reach}
use Rattle.reset_search.specs.Grounds.{grounds}
use Rattle.reset_search.specs.Feeds as feeding
use Rattle.reset_search.specs.Feeds.{Known, Gathered, Walk, WithPorts, nothing, and_then, in_turn, declared_from, node_from, reached_by, declares, declares_memory, declares_instance, named_as, names_node, connects, stmt_walk, arm_walk, reach, known_with, connected, memory_spots, lines_spots, line_spots, line_count, port_spots, own_count, element_size, mask_size, Instances, instance_in, instance_reach, ports_from, modules_from, known_ports, ports_asyncs, ports_count, bodies_from, all_ports, asyncs_among, fed_by, feeds_in}
use Rattle.reset_search.specs.declared.spot.Feeds.{Feeds}
use Rattle.reset_search.specs.Sources as source
use Rattle.reset_search.specs.Sources.{any_of, holds_async, is_a_cast, stmt_source, arm_source, port_source, module_source, has_source}
use Rattle.reset_search.proofs.Placed.{Placed, Plain, MayPlace, KnownPlaced, FromPlaces, NoneAsync, IsPlace, placed_append, placed_declared, placed_node, placed_with, from_append, from_connected, from_fed, no_asyncs}
use Rattle.reset_search.proofs.Sourceless.{or_left, or_right, type_plain, expr_places}
use Rattle.reset_search.proofs.Bundled.{memory_plain, instance_plain}

-- what is known has places of the text and of nodes alone, these alone feed, and there is no AsyncReset leaf
pub record Clean (g : Gathered) : Type 0 where
  pub known : KnownPlaced g.known
  pub feeds : FromPlaces g.feeds
  pub asyncs : g.asyncs ≡ []

abbrev pub CleanWalk : Walk → Type 0
CleanWalk walk = (known : Known) (n k : ℕ) → KnownPlaced known → Clean (walk known n k)

none_then : {X : Type 0} (xs ys : List X) → xs ≡ [] → ys ≡ [] → xs ++ ys ≡ []
none_then xs ys e f = ap₂ (λ a b. a ++ b) e f

clean_nothing : CleanWalk nothing
clean_nothing known n k h = record { known = h; feeds = tt; asyncs = refl }

clean_then : (first second : Walk) → CleanWalk first → CleanWalk second → CleanWalk (and_then first second)
clean_then first second f s known n k h =
    let a = f known n k h in
    let g : Gathered = first known n k in
    let b = s g.known (n + g.declared) (k + g.nodes) a.known in
    record { known = b.known; feeds = from_append g.feeds _ a.feeds b.feeds; asyncs = none_then g.asyncs _ a.asyncs b.asyncs }

none_declared : (typ : FirType) (spots : List Spot) → holds_async typ ≡ false → asyncs_among (grounds typ) spots ≡ []
none_declared typ spots e = no_asyncs (grounds typ) spots (type_plain typ e)

clean_declares : (name : ℕ) (typ : FirType) → holds_async typ ≡ false → CleanWalk (declares name typ)
clean_declares name typ e known n k h = record {
  known = placed_with known name (Some (reach typ (declared_from n (size typ)))) h (placed_declared n (size typ), e);
  feeds = tt;
  asyncs = none_declared typ (declared_from n (size typ)) e;
}

placed_port : (element : List Spot) (mask n : ℕ) (m : PortMode) → Placed element → Placed (port_spots element mask n m)
placed_port element mask n mode.Reader h = placed_append (declared_from n 2) element (placed_declared n 2) h
placed_port element mask n mode.Writer h =
    placed_append (declared_from n 2) (element ++ declared_from (n + 2) mask) (placed_declared n 2) (placed_append element (declared_from (n + 2) mask) h (placed_declared (n + 2) mask))
placed_port element mask n mode.ReadWriter h =
    let behind : Placed (Declared (n + 2) ∷ (element ++ declared_from (n + 3) mask)) = (tt, placed_append element (declared_from (n + 3) mask) h (placed_declared (n + 3) mask)) in
    placed_append (declared_from n 2) (element ++ (Declared (n + 2) ∷ (element ++ declared_from (n + 3) mask))) (placed_declared n 2)
    (placed_append element (Declared (n + 2) ∷ (element ++ declared_from (n + 3) mask)) h behind)

placed_line : (element : List Spot) (mask n : ℕ) (l : MemLine) → Placed element → Placed (line_spots element mask n l)
placed_line element mask n (line.MemPort at m name) h = placed_port element mask n m h
placed_line element mask n (line.Element at typ) h = tt
placed_line element mask n (line.Depth at d) h = tt
placed_line element mask n (line.ReadLatency at d) h = tt
placed_line element mask n (line.WriteLatency at d) h = tt
placed_line element mask n (line.ReadUnder at u) h = tt

placed_lines : (element : List Spot) (mask n : ℕ) (lines : List MemLine) → Placed element → Placed (lines_spots element mask n lines)
placed_lines element mask n [] h = tt
placed_lines element mask n (l ∷ lines) h =
    placed_append (line_spots element mask n l) (lines_spots element mask (n + line_count mask l) lines) (placed_line element mask n l h)
    (placed_lines element mask (n + line_count mask l) lines h)

clean_memory : (memory : Memory) → holds_async (element_of memory) ≡ false → CleanWalk (declares_memory memory)
clean_memory memory e known n k h = record {
  known = placed_with known memory.name.id (Some (reach (memory_of memory) (memory_spots memory n))) h
      (placed_lines (declared_from n (element_size memory)) (mask_size memory) (n + element_size memory) memory.lines (placed_declared n (element_size memory)), memory_plain memory e);
  feeds = tt;
  asyncs = none_declared (element_of memory) (declared_from n (element_size memory)) e;
}

-- Modules whose ports have places of the text, and in which nothing is a source

abbrev pub AllPlaced : List (List Spot) → Type 0
AllPlaced [] = Unit {0}
AllPlaced (ps ∷ rest) = Placed ps × AllPlaced rest

pub record PlainModule (m : WithPorts) : Type 0 where
  pub placed : AllPlaced m.ports
  pub ports : list_any port_source m.holder.ports ≡ false
  pub body : list_any stmt_source m.holder.body ≡ false

abbrev pub PlainModules : List WithPorts → Type 0
PlainModules [] = Unit {0}
PlainModules (m ∷ modules) = PlainModule m × PlainModules modules

joined_placed : (all : List (List Spot)) → AllPlaced all → Placed (flat_map (λ spots. spots) all)
joined_placed [] h = tt
joined_placed (ps ∷ rest) h = placed_append ps (flat_map (λ spots. spots) rest) h.0 (joined_placed rest h.1)

found_if : (b : Bool) (x y : Option WithPorts) → MayPlace (option_map instance_reach x) → MayPlace (option_map instance_reach y)
    → MayPlace (option_map instance_reach (if b then x else y))
found_if true x y h k = h
found_if false x y h k = k

found_placed : (target : ℕ) (modules : List WithPorts) → PlainModules modules → MayPlace (option_map instance_reach (find (λ m. m.holder.name.id == target) modules))
found_placed target [] h = tt
found_placed target (m ∷ modules) h =
    found_if (m.holder.name.id == target) (Some m) (find (λ m. m.holder.name.id == target) modules) (joined_placed m.ports h.0.placed, instance_plain m.holder.ports h.0.ports) (found_placed target modules h.1)

clean_instance : (instances : Instances) (name target : ℕ) → ((target : ℕ) → MayPlace (instances target)) → CleanWalk (declares_instance instances name target)
clean_instance instances name target p known n k h = record { known = placed_with known name (instances target) h (p target); feeds = tt; asyncs = refl }

-- Nodes and connects

clean_named : (name : ℕ) (r : Option Reach) → MayPlace r → CleanWalk (named_as name r)
clean_named name None p known n k h = record { known = h; feeds = tt; asyncs = refl }
clean_named name (Some r) p known n k h = record {
  known = placed_with known name (Some (reach r.typ (node_from k (size r.typ)))) h (placed_node k (size r.typ), p.1);
  feeds = from_fed r.spots (node_from k (size r.typ)) p.0;
  asyncs = none_declared r.typ (node_from k (size r.typ)) p.1;
}

clean_node : (name : ℕ) (e : Expr) → is_a_cast e ≡ false → CleanWalk (names_node name e)
clean_node name e f known n k h = clean_named name (reached_by e known) (expr_places e f known h) known n k h

clean_connects : (left right : Expr) → is_a_cast left ≡ false → is_a_cast right ≡ false → CleanWalk (connects left right)
clean_connects left right e f known n k h = record {
  known = h;
  feeds = from_connected (reached_by left known) (reached_by right known) (expr_places left e known h) (expr_places right f known h);
  asyncs = refl;
}

-- Statements

module _ (instances : Instances) (plain : (target : ℕ) → MayPlace (instances target)) where
  abbrev StmtClean : Stmt → Type 0
  StmtClean s = stmt_source s ≡ false → CleanWalk (stmt_walk instances s)

  abbrev ArmClean : Arm → Type 0
  ArmClean a = arm_source a ≡ false → CleanWalk (arm_walk instances a)

  all_clean : (ps : List ((s : Stmt) × StmtClean s)) → any_of (map stmt_source (map (λ e. e.0) ps)) ≡ false → CleanWalk (in_turn (map (stmt_walk instances) (map (λ e. e.0) ps)))
  all_clean [] e = clean_nothing
  all_clean (p ∷ ps) e =
      clean_then (stmt_walk instances p.0) (in_turn (map (stmt_walk instances) (map (λ e. e.0) ps))) (p.1 (or_left (stmt_source p.0) _ e)) (all_clean ps (or_right (stmt_source p.0) _ e))

  arms_clean : (ps : List ((a : Arm) × ArmClean a)) → any_of (map arm_source (map (λ e. e.0) ps)) ≡ false → CleanWalk (in_turn (map (arm_walk instances) (map (λ e. e.0) ps)))
  arms_clean [] e = clean_nothing
  arms_clean (p ∷ ps) e =
      clean_then (arm_walk instances p.0) (in_turn (map (arm_walk instances) (map (λ e. e.0) ps))) (p.1 (or_left (arm_source p.0) _ e)) (arms_clean ps (or_right (arm_source p.0) _ e))

  stmt_layer : (y : Stmt-F ((s : Stmt) × StmtClean s) ((a : Arm) × ArmClean a))
      → source.of_stmt (map-Stmt Stmt Arm Bool Bool stmt_source arm_source (map-Stmt _ _ Stmt Arm (λ e. e.0) (λ e. e.0) y)) ≡ false
      → CleanWalk (feeding.of_stmt instances (map-Stmt Stmt Arm Walk Walk (stmt_walk instances) (arm_walk instances) (map-Stmt _ _ Stmt Arm (λ e. e.0) (λ e. e.0) y)))
  stmt_layer (Stmt-F.Wire name typ) e = clean_declares name.id typ e
  stmt_layer (Stmt-F.Reg name typ clock) e = clean_declares name.id typ e
  stmt_layer (Stmt-F.RegReset name typ clock reset init) e = clean_declares name.id typ e
  stmt_layer (Stmt-F.Mem memory) e = clean_memory memory e
  stmt_layer (Stmt-F.Inst name target) e = clean_instance instances name.id target.id plain
  stmt_layer (Stmt-F.Node name x) e = clean_node name.id x e
  stmt_layer (Stmt-F.Connect left right) e = clean_connects left right (or_left (is_a_cast left) _ e) (or_right (is_a_cast left) _ e)
  stmt_layer (Stmt-F.Invalidate target) e = clean_nothing
  stmt_layer (Stmt-F.When arms other) e =
      clean_then (in_turn (map (arm_walk instances) (map (λ e. e.0) arms))) (in_turn (map (stmt_walk instances) (map (λ e. e.0) other)))
      (arms_clean arms (or_left (any_of (map arm_source (map (λ e. e.0) arms))) _ e)) (all_clean other (or_right (any_of (map arm_source (map (λ e. e.0) arms))) _ e))
  stmt_layer (Stmt-F.Skip place) e = clean_nothing

  pub stmt_clean : (s : Stmt) → StmtClean s
  stmt_clean = ind-Stmt StmtClean ArmClean
      (λ x y is. subst (λ z. StmtClean (roll-Stmt z)) is
      (λ e. let z = map-Stmt _ _ Stmt Arm (λ e. e.0) (λ e. e.0) y in
      subst CleanWalk (sym (fold-roll-Stmt Walk Walk (feeding.of_stmt instances) feeding.of_arm z))
      (stmt_layer y (sym (fold-roll-Stmt Bool Bool source.of_stmt source.of_arm z) ∙ e))))
      (λ x y is. subst (λ z. ArmClean (roll-Arm z)) is
      (λ e. let z = map-Arm _ _ Stmt Arm (λ e. e.0) (λ e. e.0) y in
      subst CleanWalk (sym (fold-roll-Arm Walk Walk (feeding.of_stmt instances) feeding.of_arm z))
      (all_clean y.body (sym (fold-roll-Arm Bool Bool source.of_stmt source.of_arm z) ∙ e))))

  pub body_clean : (body : List Stmt) → list_any stmt_source body ≡ false → CleanWalk (in_turn (map (stmt_walk instances) body))
  body_clean [] e = clean_nothing
  body_clean (s ∷ body) e =
      clean_then (stmt_walk instances s) (in_turn (map (stmt_walk instances) body)) (stmt_clean s (or_left (stmt_source s) _ e)) (body_clean body (or_right (stmt_source s) _ e))

-- Circuits

known_ports_placed : (ports : List Port) (all : List (List Spot)) (known : Known) → list_any port_source ports ≡ false → AllPlaced all → KnownPlaced known → KnownPlaced (known_ports ports all known)
known_ports_placed [] all known e p h = h
known_ports_placed (port ∷ ports) [] known e p h = h
known_ports_placed (port ∷ ports) (spots ∷ all) known e p h =
    known_ports_placed ports all (known_with known port.name.id (Some (reach port.typ spots))) (or_right (port_source port) _ e) p.1
    (placed_with known port.name.id (Some (reach port.typ spots)) h (p.0, or_left (port_source port) _ e))

ports_none : (ports : List Port) (all : List (List Spot)) → list_any port_source ports ≡ false → ports_asyncs ports all ≡ []
ports_none [] all e = refl
ports_none (port ∷ ports) [] e = refl
ports_none (port ∷ ports) (spots ∷ all) e =
    none_then (asyncs_among (grounds port.typ) spots) (ports_asyncs ports all) (none_declared port.typ spots (or_left (port_source port) _ e)) (ports_none ports all (or_right (port_source port) _ e))

pub record CleanFeeds (f : Feeds) : Type 0 where
  pub feeds : FromPlaces f.feeds
  pub asyncs : f.asyncs ≡ []

bodies_clean : (instances : Instances) → ((target : ℕ) → MayPlace (instances target)) → (n k : ℕ) (rest : List WithPorts) → PlainModules rest
    → CleanFeeds (bodies_from instances n k rest)
bodies_clean instances plain n k [] h = record { feeds = tt; asyncs = refl }
bodies_clean instances plain n k (m ∷ rest) h =
    let walk : Walk = in_turn (map (stmt_walk instances) m.holder.body) in
    let ports : Known = known_ports m.holder.ports m.ports [] in
    let body = body_clean instances plain m.holder.body h.0.body ports n k (known_ports_placed m.holder.ports m.ports [] h.0.ports h.0.placed tt) in
    let g : Gathered = walk ports n k in
    let others = bodies_clean instances plain (n + g.declared) (k + g.nodes) rest h.1 in
    record {
      feeds = from_append g.feeds _ body.feeds others.feeds;
      asyncs = none_then (ports_asyncs m.holder.ports m.ports) _ (ports_none m.holder.ports m.ports h.0.ports) (none_then g.asyncs _ body.asyncs others.asyncs);
    }

ports_placed : (n : ℕ) (ports : List Port) → AllPlaced (ports_from n ports)
ports_placed n [] = tt
ports_placed n (port ∷ ports) = (placed_declared n (size port.typ), ports_placed (n + size port.typ) ports)

modules_plain : (n : ℕ) (modules : List Module) → list_any module_source modules ≡ false → PlainModules (modules_from n modules)
modules_plain n [] e = tt
modules_plain n (m ∷ modules) e =
    let own : module_source m ≡ false = or_left (module_source m) _ e in (
      record {
        placed = ports_placed n m.ports;
        ports = or_left (list_any port_source m.ports) _ own;
        body = or_right (list_any port_source m.ports) _ own;
      },
      modules_plain (n + ports_count m.ports) modules (or_right (module_source m) _ e),
    )

pub record NoSource (f : Feeds) : Type 0 where
  pub feeds : FromPlaces f.feeds
  pub asyncs : f.asyncs ≡ Cast ∷ []

pub no_source : (circuit : Circuit) → has_source circuit ≡ false → NoSource (feeds_in circuit)
no_source circuit e =
    let modules : List WithPorts = modules_from 0 circuit.modules in
    let plain = modules_plain 0 circuit.modules e in
    let all = bodies_clean (instance_in modules) (λ target. found_placed target modules plain) (all_ports circuit.modules) 0 modules plain in
    record { feeds = all.feeds; asyncs = ap (λ rest. Cast ∷ rest) all.asyncs }
