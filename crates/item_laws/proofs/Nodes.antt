-- The nodes among what statements declare.
use Rattle.std.proofs.Common.{◌≡◌, ℕ, Bool, true, false, List, [], ◌∷◌, ◌++◌, map, Option, Some, None, if◌then◌else◌, refl, sym, ap, ap₂, ◌∙◌, subst, append_assoc, arith}
use Rattle.std.specs.Prelude.{Contains, filter_map, flat_map}
use Rattle.std.proofs.lemmas.Grind.{common_steps}
use Rattle.std.proofs.lemmas.List.Elements.{filter_map-append}
use Rattle.std.proofs.lemmas.Option.{same_Some}
use Rattle.fir_types.specs.declared.name.Name.{Name}
use Rattle.fir_types.specs.declared.port.Port.{Port}
use Rattle.fir_tree.specs.declared.circuit.Module.{Module}
use Rattle.fir_tree.specs.declared.expr.Expr.{Expr}
use Rattle.fir_tree.specs.declared.stmt.Stmt.{Stmt, fold-Stmt, ind-Stmt, the_lemmas as stmt_lemmas}
use Rattle.fir_tree.specs.declared.stmt.Stmt.TheVariants as stmt
use Rattle.fir_tree.specs.declared.stmt.Arm.{Arm, fold-Arm}
use Rattle.fir_tree.specs.declared.stmt.Stmt.TheOpen.{Stmt-F, Arm-F}
use Rattle.fir_tree.specs.declared.stmt.Stmt.TheFolds.{map-Stmt, map-Arm, fold-roll-Stmt, fold-roll-Arm}
use Rattle.fir_tree.specs.declared.stmt.Stmt.TheViews.{roll-Stmt, roll-Arm}
use Rattle.fir_meaning.specs.Components.{Sort, An_input, An_output, A_wire, A_register, A_reset_register, A_memory, An_instance, A_node, Declaration, Told, ToldArm, told, of_told, of_told_arm, declared_from, declared_in_block, declarations_of, declared_by_port}
use Rattle.fir_meaning.proofs.Ports.{from_filter_map}
use Rattle.item_laws.specs.Drivers.{all_of}

-- a node: its name and its expression
abbrev pub Nodes : Type 0
Nodes = List (ℕ × Expr)

abbrev pub of_stmt : Stmt-F Nodes Nodes → Nodes
of_stmt (Stmt-F.Node name e) = (name.id, e) ∷ []
of_stmt (Stmt-F.When arms other) = all_of arms ++ all_of other
of_stmt _ = []

abbrev pub of_arm : Arm-F Nodes Nodes → Nodes
of_arm arm = all_of arm.body

abbrev pub nodes_in : Stmt → Nodes
nodes_in = fold-Stmt Nodes Nodes of_stmt of_arm

abbrev pub arm_nodes : Arm → Nodes
arm_nodes = fold-Arm Nodes Nodes of_stmt of_arm

-- The nodes of statements, those of the blocks in them included.
abbrev pub nodes : List Stmt → Nodes
nodes stmts = all_of (map nodes_in stmts)

all_append : {A : Type 0} (xs ys : List (List A)) → all_of (xs ++ ys) ≡ all_of xs ++ all_of ys
all_append [] ys = refl
all_append (x ∷ xs) ys = ap (λ zs. x ++ zs) (all_append xs ys) ∙ sym (append_assoc x (all_of xs) (all_of ys))

map_append : {A B : Type 0} (f : A → B) (xs ys : List A) → map f (xs ++ ys) ≡ map f xs ++ map f ys
map_append f [] ys = refl
map_append f (x ∷ xs) ys = ap (λ zs. f x ∷ zs) (map_append f xs ys)

pub nodes_append : (xs ys : List Stmt) → nodes (xs ++ ys) ≡ nodes xs ++ nodes ys
nodes_append xs ys = ap all_of (map_append nodes_in xs ys) ∙ all_append (map nodes_in xs) (map nodes_in ys)

pub of-node : (name : Name) (e : Expr) → nodes_in (stmt.Node name e) ≡ (name.id, e) ∷ []
of-node name e = grind (arith, common_steps, stmt_lemmas)

pub of-when : (arms : List Arm) (other : List Stmt) → nodes_in (stmt.When arms other) ≡ all_of (map arm_nodes arms) ++ nodes other
of-when arms other = grind (arith, common_steps, stmt_lemmas)

pub of-arm : (condition : Expr) (body : List Stmt) → arm_nodes (record { condition = condition; body = body }) ≡ nodes body
of-arm condition body = grind (arith, common_steps, stmt_lemmas)

-- those among declarations

abbrev node_in : ℕ → Sort → Option (ℕ × Expr)
node_in name (A_node e) = Some (name, e)
node_in name _ = None

abbrev node_of : Declaration → Option (ℕ × Expr)
node_of d = node_in d.name d.sort

abbrev among : List Declaration → Nodes
among ds = filter_map node_of ds

among_append : (xs ys : List Declaration) → among (xs ++ ys) ≡ among xs ++ among ys
among_append xs ys = filter_map-append node_of xs ys

abbrev told_arm : Arm → ToldArm
told_arm = fold-Arm Told ToldArm of_told of_told_arm

-- a statement is told with itself and with its nodes
record IsTold (s : Stmt) : Type 0 where
  same : (told s).itself ≡ s
  all : (block behind : List Stmt) → among ((told s).declares block behind) ≡ nodes_in s

record ArmIsTold (a : Arm) : Type 0 where
  same : (told_arm a).itself ≡ a
  all : among (told_arm a).declared ≡ arm_nodes a

each_same : (ps : List ((s : Stmt) × IsTold s)) → map (λ t. t.itself) (map told (map (λ e. e.0) ps)) ≡ map (λ e. e.0) ps
each_same [] = refl
each_same (p ∷ ps) = ap₂ (λ a b. a ∷ b) p.1.same (each_same ps)

arms_same : (ps : List ((a : Arm) × ArmIsTold a)) → map (λ t. t.itself) (map told_arm (map (λ e. e.0) ps)) ≡ map (λ e. e.0) ps
arms_same [] = refl
arms_same (p ∷ ps) = ap₂ (λ a b. a ∷ b) p.1.same (arms_same ps)

block_all : (ps : List ((s : Stmt) × IsTold s)) (block : List Stmt) → among (declared_from block (map told (map (λ e. e.0) ps))) ≡ nodes (map (λ e. e.0) ps)
block_all [] block = refl
block_all (p ∷ ps) block =
    let rest = map (λ t. t.itself) (map told (map (λ e. e.0) ps)) in
    among_append ((told p.0).declares block rest) (declared_from block (map told (map (λ e. e.0) ps))) ∙ ap₂ (λ a b. a ++ b) (p.1.all block rest) (block_all ps block)

arms_all : (ps : List ((a : Arm) × ArmIsTold a)) → among (flat_map (λ arm. arm.declared) (map told_arm (map (λ e. e.0) ps))) ≡ all_of (map arm_nodes (map (λ e. e.0) ps))
arms_all [] = refl
arms_all (p ∷ ps) =
    among_append (told_arm p.0).declared (flat_map (λ arm. arm.declared) (map told_arm (map (λ e. e.0) ps))) ∙ ap₂ (λ a b. a ++ b) p.1.all (arms_all ps)

told_at : (z : Stmt-F Stmt Arm) → (of_told (map-Stmt Stmt Arm Told ToldArm told told_arm z)).itself ≡ roll-Stmt z
    → ((block behind : List Stmt) → among ((of_told (map-Stmt Stmt Arm Told ToldArm told told_arm z)).declares block behind) ≡ of_stmt (map-Stmt Stmt Arm Nodes Nodes nodes_in arm_nodes z))
    → IsTold (roll-Stmt z)
told_at z h k =
    let t = fold-roll-Stmt Told ToldArm of_told of_told_arm z in
    record {
      same = ap (λ (x : Told). x.itself) t ∙ h;
      all = λ block behind. ap (λ (x : Told). among (x.declares block behind)) t ∙ k block behind ∙ sym (fold-roll-Stmt Nodes Nodes of_stmt of_arm z);
    }

told_layer : (y : Stmt-F ((s : Stmt) × IsTold s) ((a : Arm) × ArmIsTold a)) → IsTold (roll-Stmt (map-Stmt _ _ Stmt Arm (λ e. e.0) (λ e. e.0) y))
told_layer (Stmt-F.Wire name typ) = told_at (Stmt-F.Wire name typ) refl (λ b h. refl)
told_layer (Stmt-F.Reg name typ clock) = told_at (Stmt-F.Reg name typ clock) refl (λ b h. refl)
told_layer (Stmt-F.RegReset name typ clock reset init) = told_at (Stmt-F.RegReset name typ clock reset init) refl (λ b h. refl)
told_layer (Stmt-F.Mem memory) = told_at (Stmt-F.Mem memory) refl (λ b h. refl)
told_layer (Stmt-F.Inst name target) = told_at (Stmt-F.Inst name target) refl (λ b h. refl)
told_layer (Stmt-F.Node name e) = told_at (Stmt-F.Node name e) refl (λ b h. refl)
told_layer (Stmt-F.Connect left right) = told_at (Stmt-F.Connect left right) refl (λ b h. refl)
told_layer (Stmt-F.Invalidate target) = told_at (Stmt-F.Invalidate target) refl (λ b h. refl)
told_layer (Stmt-F.Skip place) = told_at (Stmt-F.Skip place) refl (λ b h. refl)
told_layer (Stmt-F.When arms other) =
    let xs : List Arm = map (λ e. e.0) arms in
    let ys : List Stmt = map (λ e. e.0) other in
    told_at (Stmt-F.When xs ys)
    (ap₂ (λ a b. roll-Stmt (Stmt-F.When a b)) (arms_same arms) (each_same other))
    (λ block behind. among_append (flat_map (λ arm. arm.declared) (map told_arm xs)) (declared_in_block (map told ys))
    ∙ ap₂ (λ a b. a ++ b) (arms_all arms) (block_all other (map (λ t. t.itself) (map told ys))))

told_arm_layer : (y : Arm-F ((s : Stmt) × IsTold s) ((a : Arm) × ArmIsTold a)) → ArmIsTold (roll-Arm (map-Arm _ _ Stmt Arm (λ e. e.0) (λ e. e.0) y))
told_arm_layer y =
    let z : Arm-F Stmt Arm = map-Arm _ _ Stmt Arm (λ e. e.0) (λ e. e.0) y in
    let t = fold-roll-Arm Told ToldArm of_told of_told_arm z in
    record {
      same = ap (λ (x : ToldArm). x.itself) t ∙ ap (λ b. roll-Arm (record { condition = y.condition; body = b })) (each_same y.body);
      all = ap (λ (x : ToldArm). among x.declared) t ∙ block_all y.body (map (λ t. t.itself) (map told (map (λ e. e.0) y.body))) ∙ sym (fold-roll-Arm Nodes Nodes of_stmt of_arm z);
    }

is_told : (s : Stmt) → IsTold s
is_told = ind-Stmt IsTold ArmIsTold (λ x y is. subst (λ z. IsTold (roll-Stmt z)) is (told_layer y)) (λ x y is. subst (λ z. ArmIsTold (roll-Arm z)) is (told_arm_layer y))

-- the statements of a block are told with themselves
pub itself_in : (ss : List Stmt) → map (λ t. t.itself) (map told ss) ≡ ss
itself_in [] = refl
itself_in (s ∷ ss) = ap₂ (λ a b. a ∷ b) (is_told s).same (itself_in ss)

body_all : (ss : List Stmt) (block : List Stmt) → among (declared_from block (map told ss)) ≡ nodes ss
body_all [] block = refl
body_all (s ∷ ss) block =
    let rest = map (λ t. t.itself) (map told ss) in
    among_append ((told s).declares block rest) (declared_from block (map told ss)) ∙ ap₂ (λ a b. a ++ b) ((is_told s).all block rest) (body_all ss block)

ports_none : (body : List Stmt) (ports : List Port) → among (map (declared_by_port body) ports) ≡ []
ports_none body [] = refl
ports_none body (port ∷ ports) = by port.output (ports_none body ports)
  where
    by : (b : Bool) → among (map (declared_by_port body) ports) ≡ []
        → among (record { name = port.name.id; place = port.name.place; sort = if b then An_output else An_input; block = body; behind = body } ∷ map (declared_by_port body) ports) ≡ []
    by true h = h
    by false h = h

module_all : (holder : Module) → among (declarations_of holder) ≡ nodes holder.body
module_all holder =
    among_append (map (declared_by_port holder.body) holder.ports) (declared_in_block (map told holder.body))
    ∙ ap₂ (λ a b. a ++ b) (ports_none holder.body holder.ports) (body_all holder.body (map (λ t. t.itself) (map told holder.body)))

-- a declaration of a node
pub record IsNode (d : Declaration) (name : ℕ) (e : Expr) : Type 0 where
  pub named : d.name ≡ name
  pub sort : d.sort ≡ A_node e

is_node : (d : Declaration) (name : ℕ) (e : Expr) → node_of d ≡ Some (name, e) → IsNode d name e
is_node d name e = by d.sort refl
  where
    none : d.sort ≡ d.sort → ◌≡◌ {A = Option (ℕ × Expr)} None (Some (name, e)) → IsNode d name e
    none q h = cc

    by : (s : Sort) → d.sort ≡ s → node_in d.name s ≡ Some (name, e) → IsNode d name e
    by (A_node f) q h =
        let same = same_Some (d.name, f) (name, e) h in
        record { named = ap (λ (p : ℕ × Expr). p.0) same; sort = q ∙ ap (λ (p : ℕ × Expr). A_node p.1) same }
    by An_input q h = none refl h
    by An_output q h = none refl h
    by A_wire q h = none refl h
    by (A_register clock) q h = none refl h
    by (A_reset_register clock reset init) q h = none refl h
    by (A_memory memory) q h = none refl h
    by (An_instance target) q h = none refl h

-- Each node of the body is declared.
pub node_declared : (holder : Module) (name : ℕ) (e : Expr) → Contains (nodes holder.body) (name, e) → (d : Declaration) × Contains (declarations_of holder) d × IsNode d name e
node_declared holder name e i =
    let found = from_filter_map node_of (declarations_of holder) (name, e) (subst (λ l. Contains l (name, e)) (sym (module_all holder)) i) in
    (found.0, found.1, is_node found.0 name e found.2)
