-- The Clock inputs that are found are those of the components.
use Rattle.std.proofs.Common.{◌≡◌, ℕ, Bool, true, false, ◌&&◌, cond, List, [], ◌∷◌, ◌++◌, map, filter, Some, append-nil, refl, sym, ap, ap₂, ◌∙◌, subst, if◌then◌else◌}
use Rattle.std.specs.List.{flat_map}
use Rattle.std.proofs.lemmas.List.Concat.{flat_map-append, flat_map-cons}
use Rattle.std.proofs.lemmas.List.Folds.{flat_map-map}
use Rattle.fir_types.specs.declared.name.Name.{Name}
use Rattle.fir_types.specs.declared.port.Port.{Port}
use Rattle.fir_types.specs.declared.leaf.TypeLeaf.{TypeLeaf}
use Rattle.fir_types.specs.Leaves.{leaves, is_clock}
use Rattle.fir_tree.specs.declared.circuit.Module.{Module}
use Rattle.fir_tree.specs.declared.scope.Fitted.{Fitted}
use Rattle.fir_tree.specs.declared.stmt.Stmt.{Stmt, ind-Stmt}
use Rattle.fir_tree.specs.declared.stmt.Arm.{Arm, fold-Arm}
use Rattle.fir_tree.specs.declared.stmt.Stmt.TheOpen.{Stmt-F, Arm-F}
use Rattle.fir_tree.specs.declared.stmt.Stmt.TheFolds.{map-Stmt, map-Arm, fold-roll-Stmt, fold-roll-Arm}
use Rattle.fir_tree.specs.declared.stmt.Stmt.TheViews.{roll-Stmt, roll-Arm}
use Rattle.fir_meaning.specs.Components.{Leaf, Component, TypedModule, Declaration, Told, ToldArm, told, of_told, of_told_arm, declared_from, declared_in_block, declarations_of, declared_by_port, modules_of, component_named, type_in, type_or_empty, flow_of, Sort, An_input, An_output, A_wire, A_register, A_reset_register, A_memory, An_instance, A_node}
use Rattle.fir_meaning.specs.Mentions.{Scope}
use Rattle.fir_meaning.specs.States.{is_port, is_source}
use Rattle.fir_meaning.specs.ClockRoot.{clock_inputs_of_component, clock_inputs_of}
use Rattle.circuit_laws.specs.WellFormed.{IsKnownModule}
use Rattle.drive_check.proofs.Telling.{AreNamed, get_contains}
use Rattle.clock_check.specs.Edges.{part_of}
use Rattle.one_clock.specs.Modules.{port_sort, input_leaf, port_inputs, module_inputs}
use Rattle.one_clock.proofs.Lists.{same_flat_map}

turned : (a b : Bool) → (a && b) ≡ (b && a)
turned true true = refl
turned true false = refl
turned false true = refl
turned false false = refl

-- those of a declaration, where components have these types by name
abbrev sort_inputs : Scope → ℕ → Sort → List Leaf
sort_inputs types name sort = if is_port sort then map (part_of name) (filter (λ leaf. is_source (flow_of sort leaf.flip) && is_clock leaf) (leaves (types name))) else []

abbrev inputs_by : Scope → Declaration → List Leaf
inputs_by types d = sort_inputs types d.name d.sort

-- Ports

listed : (output : Bool) (name : ℕ) (ls : List TypeLeaf)
    → map (part_of name) (filter (λ leaf. is_source (flow_of (port_sort output) leaf.flip) && is_clock leaf) ls) ≡ flat_map (input_leaf output name) ls
listed output name [] = refl
listed output name (l ∷ ls) =
    ap (λ q. map (part_of name) (cond q (l ∷ later) later)) (turned (is_source (flow_of (port_sort output) l.flip)) (is_clock l))
    ∙ one (is_clock l && is_source (flow_of (port_sort output) l.flip))
    ∙ ap (λ r. input_leaf output name l ++ r) (listed output name ls)
    ∙ sym (flat_map-cons (input_leaf output name) l ls)
  where
    later : List TypeLeaf
    later = filter (λ leaf. is_source (flow_of (port_sort output) leaf.flip) && is_clock leaf) ls

    one : (q : Bool) → map (part_of name) (cond q (l ∷ later) later) ≡ (if q then part_of name l ∷ [] else []) ++ map (part_of name) later
    one true = refl
    one false = refl

port_is : (types : Scope) (body : List Stmt) (port : Port) → inputs_by types (declared_by_port body port) ≡ port_inputs types port
port_is types body port = sorted port.output ∙ listed port.output port.name.id (leaves (types port.name.id))
  where
    sorted : (output : Bool) → sort_inputs types port.name.id (if output then An_output else An_input)
        ≡ map (part_of port.name.id) (filter (λ leaf. is_source (flow_of (port_sort output) leaf.flip) && is_clock leaf) (leaves (types port.name.id)))
    sorted true = refl
    sorted false = refl

-- What statements declare is no port.

module _ (types : Scope) where
  abbrev HasNone : List Declaration → Type 0
  HasNone ds = flat_map (inputs_by types) ds ≡ []

  abbrev IsBare : Stmt → Type 0
  IsBare s = (block behind : List Stmt) → HasNone ((told s).declares block behind)

  abbrev IsBareArm : Arm → Type 0
  IsBareArm a = HasNone (fold-Arm Told ToldArm of_told of_told_arm a).declared

  both_bare : (ds es : List Declaration) → HasNone ds → HasNone es → HasNone (ds ++ es)
  both_bare ds es h k = flat_map-append (inputs_by types) ds es ∙ ap₂ (λ a b. a ++ b) h k

  lone : (d : Declaration) → inputs_by types d ≡ [] → HasNone (d ∷ [])
  lone d e = flat_map-cons (inputs_by types) d [] ∙ ap (λ l. l ++ []) e

  abbrev declared : Name → Sort → List Stmt → List Stmt → Declaration
  declared name sort block behind = record { name = name.id; place = name.place; sort = sort; block = block; behind = behind }

  from_bare : (ps : List ((s : Stmt) × IsBare s)) (block : List Stmt) → HasNone (declared_from block (map told (map (λ e. e.0) ps)))
  from_bare [] block = refl
  from_bare (p ∷ ps) block =
      let rest : List Stmt = map (λ t. t.itself) (map told (map (λ e. e.0) ps)) in
      both_bare ((told p.0).declares block rest) (declared_from block (map told (map (λ e. e.0) ps))) (p.1 block rest) (from_bare ps block)

  block_bare : (ps : List ((s : Stmt) × IsBare s)) → HasNone (declared_in_block (map told (map (λ e. e.0) ps)))
  block_bare ps = from_bare ps (map (λ t. t.itself) (map told (map (λ e. e.0) ps)))

  arms_bare : (ps : List ((a : Arm) × IsBareArm a)) → HasNone (flat_map (λ a. a.declared) (map (fold-Arm Told ToldArm of_told of_told_arm) (map (λ e. e.0) ps)))
  arms_bare [] = refl
  arms_bare (p ∷ ps) =
      let tas : List ToldArm = map (fold-Arm Told ToldArm of_told of_told_arm) (map (λ e. e.0) ps) in
      ap (flat_map (inputs_by types)) (flat_map-cons (λ (a : ToldArm). a.declared) (fold-Arm Told ToldArm of_told of_told_arm p.0) tas)
      ∙ both_bare (fold-Arm Told ToldArm of_told of_told_arm p.0).declared (flat_map (λ a. a.declared) tas) p.1 (arms_bare ps)

  bare_at : (z : Stmt-F Stmt Arm) → ((block behind : List Stmt) → HasNone ((of_told (map-Stmt Stmt Arm Told ToldArm told (fold-Arm Told ToldArm of_told of_told_arm) z)).declares block behind)) → IsBare (roll-Stmt z)
  bare_at z h block behind = ap (λ (t : Told). flat_map (inputs_by types) (t.declares block behind)) (fold-roll-Stmt Told ToldArm of_told of_told_arm z) ∙ h block behind

  bare_case : (y : Stmt-F ((s : Stmt) × IsBare s) ((a : Arm) × IsBareArm a)) → IsBare (roll-Stmt (map-Stmt _ _ Stmt Arm (λ e. e.0) (λ e. e.0) y))
  bare_case (Stmt-F.Wire name typ) = bare_at (Stmt-F.Wire name typ) (λ block behind. lone (declared name A_wire block behind) refl)
  bare_case (Stmt-F.Reg name typ clock) = bare_at (Stmt-F.Reg name typ clock) (λ block behind. lone (declared name (A_register clock) block behind) refl)
  bare_case (Stmt-F.RegReset name typ clock reset init) =
      bare_at (Stmt-F.RegReset name typ clock reset init) (λ block behind. lone (declared name (A_reset_register clock reset init) block behind) refl)
  bare_case (Stmt-F.Mem memory) = bare_at (Stmt-F.Mem memory) (λ block behind. lone (declared memory.name (A_memory memory) block behind) refl)
  bare_case (Stmt-F.Inst name target) = bare_at (Stmt-F.Inst name target) (λ block behind. lone (declared name (An_instance target.id) block behind) refl)
  bare_case (Stmt-F.Node name expr) = bare_at (Stmt-F.Node name expr) (λ block behind. lone (declared name (A_node expr) block behind) refl)
  bare_case (Stmt-F.Connect left right) = bare_at (Stmt-F.Connect left right) (λ block behind. refl)
  bare_case (Stmt-F.Invalidate target) = bare_at (Stmt-F.Invalidate target) (λ block behind. refl)
  bare_case (Stmt-F.Skip place) = bare_at (Stmt-F.Skip place) (λ block behind. refl)
  bare_case (Stmt-F.When arms other) = bare_at (Stmt-F.When (map (λ e. e.0) arms) (map (λ e. e.0) other))
      (λ block behind. both_bare (flat_map (λ a. a.declared) (map (fold-Arm Told ToldArm of_told of_told_arm) (map (λ e. e.0) arms))) (declared_in_block (map told (map (λ e. e.0) other)))
      (arms_bare arms) (block_bare other))

  arm_case : (y : Arm-F ((s : Stmt) × IsBare s) ((a : Arm) × IsBareArm a)) → IsBareArm (roll-Arm (map-Arm _ _ Stmt Arm (λ e. e.0) (λ e. e.0) y))
  arm_case y =
      let z : Arm-F Stmt Arm = record { condition = y.condition; body = map (λ e. e.0) y.body } in
      ap (λ (t : ToldArm). flat_map (inputs_by types) t.declared) (fold-roll-Arm Told ToldArm of_told of_told_arm z) ∙ block_bare y.body

  is_bare : (s : Stmt) → IsBare s
  is_bare = ind-Stmt IsBare IsBareArm
      (λ x y is. subst (λ z. IsBare (roll-Stmt z)) is (bare_case y))
      (λ x y is. subst (λ z. IsBareArm (roll-Arm z)) is (arm_case y))

  body_bare : (ss : List Stmt) (block : List Stmt) → HasNone (declared_from block (map told ss))
  body_bare [] block = refl
  body_bare (s ∷ ss) block =
      both_bare ((told s).declares block (map (λ t. t.itself) (map told ss))) (declared_from block (map told ss)) (is_bare s block (map (λ t. t.itself) (map told ss))) (body_bare ss block)

  module_is : (holder : Module) → flat_map (inputs_by types) (declarations_of holder) ≡ module_inputs types holder
  module_is holder =
      flat_map-append (inputs_by types) (map (declared_by_port holder.body) holder.ports) (declared_in_block (map told holder.body))
      ∙ ap₂ (λ a b. a ++ b)
      (flat_map-map (inputs_by types) (declared_by_port holder.body) holder.ports
      ∙ same_flat_map (λ port. inputs_by types (declared_by_port holder.body port)) (port_inputs types) holder.ports (λ port c. port_is types holder.body port))
      (body_bare holder.body (map (λ t. t.itself) (map told holder.body)))
      ∙ append-nil (module_inputs types holder)

-- Components

component_is : (m : TypedModule) (c : Component) → component_named m c.declaration.name ≡ Some c → clock_inputs_of_component c ≡ inputs_by (type_in m) c.declaration
component_is m c named =
    ap (λ typ. if is_port c.declaration.sort then map (part_of c.declaration.name) (filter (λ leaf. is_source (flow_of c.declaration.sort leaf.flip) && is_clock leaf) (leaves typ)) else [])
    (sym (ap type_or_empty named))

pub inputs_are : (fitted : Fitted) → AreNamed fitted → (m : TypedModule) (its : IsKnownModule fitted m) → module_inputs (type_in m) its.holder ≡ clock_inputs_of (Some m)
inputs_are fitted named m its =
    sym (module_is (type_in m) its.holder)
    ∙ ap (flat_map (inputs_by (type_in m))) (sym its.typed.components)
    ∙ flat_map-map (inputs_by (type_in m)) (λ (c : Component). c.declaration) m.components
    ∙ sym (same_flat_map clock_inputs_of_component (λ c. inputs_by (type_in m) c.declaration) m.components
    (λ c has. component_is m c (named m (get_contains (modules_of fitted) its.k m its.number) c has)))
