-- The bundles of instances and of memories, with widths.
use Rattle.std.proofs.Common.{◌≡◌, ℕ, zero, suc, ◌+◌, ◌==◌, Bool, true, false, not, cond, List, [], ◌∷◌, ◌++◌, map, zip, length, Option, Some, None, refl, sym, ap, ap₂, ◌∙◌, subst, arith, slice_get, append-nil}
use Rattle.std.specs.Prelude.{find}
use Rattle.std.specs.List.{flat_map, filter_map, cons_option}
use Rattle.std.proofs.lemmas.Bool.{eqb-true, eq-eqb}
use Rattle.std.proofs.lemmas.List.{take_at, drop_at, map-append, length-map}
use Rattle.std.proofs.lemmas.List.Elements.{filter_map-append}
use Rattle.fir_types.specs.declared.fir_type.FirType.{FirType}
use Rattle.fir_types.specs.declared.fir_type.Field.{Field}
use Rattle.fir_types.specs.declared.leaf.PathStep.TheVariants as step
use Rattle.fir_types.specs.declared.port.Port.{Port}
use Rattle.fir_types.specs.Leaves.{leaves, field_leaves, under}
use Rattle.fir_types.specs.Bundles.{nowhere, instance_of, instance_field}
use Rattle.fir_types.proofs.Layers.{leaves-bundle, leaves-field}
use Rattle.prim_ops.specs.declared.widths.Width.{Width}
use Rattle.fir_tree.specs.declared.circuit.Module.{Module}
use Rattle.fir_tree.specs.declared.stmt.Stmt.{Stmt, ind-Stmt}
use Rattle.fir_tree.specs.declared.stmt.Arm.{Arm, fold-Arm}
use Rattle.fir_tree.specs.declared.stmt.Stmt.TheOpen.{Stmt-F, Arm-F}
use Rattle.fir_tree.specs.declared.stmt.Stmt.TheFolds.{map-Stmt, map-Arm, fold-roll-Stmt, fold-roll-Arm}
use Rattle.fir_tree.specs.declared.stmt.Stmt.TheViews.{roll-Stmt, roll-Arm}
use Rattle.width_rules.specs.declared.slot.Slot.{Slot}
use Rattle.width_rules.specs.Places.{spots, size, slots_from, open_spots}
use Rattle.width_rules.specs.Circuits.{WithPorts, ports_from, open_ports, modules_from}
use Rattle.type_filling.specs.Filling.{filled}
use Rattle.width_fit.specs.Judging.{Solved, slot_width, ports_declared}
use Rattle.fir_meaning.specs.Components.{Declaration, Component, TypedModule, Sort, An_input, An_output, A_wire, A_register, A_reset_register, A_memory, An_instance, A_node, Told, ToldArm, told, of_told, of_told_arm, declared_from, declared_in_block, declared_by_port, declarations_of, port_of, typed_ports}
use Rattle.fir_meaning.specs.States.{is_port}
use Rattle.fir_names.specs.Scopes.{FirstOf, texts}
use Rattle.fir_names.proofs.Graphs.{some_same}
use Rattle.circuit_laws.specs.Names.{Every}
use Rattle.circuit_laws.specs.Designs.{component_of}
use Rattle.circuit_laws.proofs.Alone.{every-append}
use Rattle.fitted_laws.proofs.Filling.{filled_fields, filled-bundle, takes}
use Rattle.fitted_laws.proofs.Ruling.{length-slots}

-- Widths one behind the other

pub front_filled : (t : FirType) (xs ys : List Width) → length xs ≡ size t → filled t (xs ++ ys) ≡ filled t xs
front_filled t xs ys e = sym ((takes t).own (xs ++ ys)) ∙ ap (filled t) (take_at xs ys (size t) e)

-- The declarations of statements are no ports

abbrev NoPort : Declaration → Type 0
NoPort d = is_port d.sort ≡ false

abbrev told_arm : Arm → ToldArm
told_arm = fold-Arm Told ToldArm of_told of_told_arm

abbrev StmtInside : Stmt → Type 0
StmtInside s = (block behind : List Stmt) → Every Declaration NoPort ((told s).declares block behind)

abbrev ArmInside : Arm → Type 0
ArmInside a = Every Declaration NoPort (told_arm a).declared

block_inside : (ps : List ((s : Stmt) × StmtInside s)) (block : List Stmt) → Every Declaration NoPort (declared_from block (map told (map (λ e. e.0) ps)))
block_inside [] block = tt
block_inside (p ∷ ps) block = every-append Declaration NoPort ((told p.0).declares block (map (λ t. t.itself) (map told (map (λ e. e.0) ps)))) _ (p.1 block _) (block_inside ps block)

arms_inside : (ps : List ((a : Arm) × ArmInside a)) → Every Declaration NoPort (flat_map (λ (arm : ToldArm). arm.declared) (map told_arm (map (λ e. e.0) ps)))
arms_inside [] = tt
arms_inside (p ∷ ps) = every-append Declaration NoPort (told_arm p.0).declared _ p.1 (arms_inside ps)

inside_at : (z : Stmt-F Stmt Arm) → ((block behind : List Stmt) → Every Declaration NoPort ((of_told (map-Stmt Stmt Arm Told ToldArm told told_arm z)).declares block behind)) → StmtInside (roll-Stmt z)
inside_at z h block behind = subst (λ (t : Told). Every Declaration NoPort (t.declares block behind)) (sym (fold-roll-Stmt Told ToldArm of_told of_told_arm z)) (h block behind)

stmt_inside : (y : Stmt-F ((s : Stmt) × StmtInside s) ((a : Arm) × ArmInside a)) → StmtInside (roll-Stmt (map-Stmt _ _ Stmt Arm (λ e. e.0) (λ e. e.0) y))
stmt_inside (Stmt-F.Wire name typ) = inside_at (Stmt-F.Wire name typ) (λ b h. (refl, tt))
stmt_inside (Stmt-F.Reg name typ clock) = inside_at (Stmt-F.Reg name typ clock) (λ b h. (refl, tt))
stmt_inside (Stmt-F.RegReset name typ clock reset init) = inside_at (Stmt-F.RegReset name typ clock reset init) (λ b h. (refl, tt))
stmt_inside (Stmt-F.Mem memory) = inside_at (Stmt-F.Mem memory) (λ b h. (refl, tt))
stmt_inside (Stmt-F.Inst name target) = inside_at (Stmt-F.Inst name target) (λ b h. (refl, tt))
stmt_inside (Stmt-F.Node name expr) = inside_at (Stmt-F.Node name expr) (λ b h. (refl, tt))
stmt_inside (Stmt-F.Connect left right) = inside_at (Stmt-F.Connect left right) (λ b h. tt)
stmt_inside (Stmt-F.Invalidate target) = inside_at (Stmt-F.Invalidate target) (λ b h. tt)
stmt_inside (Stmt-F.Skip place) = inside_at (Stmt-F.Skip place) (λ b h. tt)
stmt_inside (Stmt-F.When arms other) = inside_at (Stmt-F.When (map (λ e. e.0) arms) (map (λ e. e.0) other)) (λ b h.
    every-append Declaration NoPort (flat_map (λ (arm : ToldArm). arm.declared) (map told_arm (map (λ e. e.0) arms))) _ (arms_inside arms) (block_inside other _))

arm_inside : (y : Arm-F ((s : Stmt) × StmtInside s) ((a : Arm) × ArmInside a)) → ArmInside (roll-Arm (map-Arm _ _ Stmt Arm (λ e. e.0) (λ e. e.0) y))
arm_inside y =
    let z : Arm-F Stmt Arm = map-Arm _ _ Stmt Arm (λ e. e.0) (λ e. e.0) y in
    subst (λ (t : ToldArm). Every Declaration NoPort t.declared) (sym (fold-roll-Arm Told ToldArm of_told of_told_arm z)) (block_inside y.body _)

inside : (s : Stmt) → StmtInside s
inside = ind-Stmt StmtInside ArmInside (λ x y is. subst (λ z. StmtInside (roll-Stmt z)) is (stmt_inside y)) (λ x y is. subst (λ z. ArmInside (roll-Arm z)) is (arm_inside y))

body_inside : (ss : List Stmt) (block : List Stmt) → Every Declaration NoPort (declared_from block (map told ss))
body_inside [] block = tt
body_inside (s ∷ ss) block = every-append Declaration NoPort ((told s).declares block (map (λ t. t.itself) (map told ss))) _ (inside s block _) (body_inside ss block)

-- The ports of a module with their types

abbrev as_port : Component → Option Port
as_port c = port_of c c.declaration.sort

no_port : (c : Component) (s : Sort) → is_port s ≡ false → port_of c s ≡ None
no_port c An_input e = cc
no_port c An_output e = cc
no_port c A_wire e = refl
no_port c (A_register clock) e = refl
no_port c (A_reset_register clock reset init) e = refl
no_port c (A_memory memory) e = refl
no_port c (An_instance target) e = refl
no_port c (A_node x) e = refl

no_ports : (ds : List Declaration) (ts : List FirType) → Every Declaration NoPort ds → filter_map as_port (map component_of (zip ds ts)) ≡ []
no_ports [] ts h = refl
no_ports (d ∷ ds) [] h = refl
no_ports (d ∷ ds) (t ∷ ts) h = ap₂ cons_option (no_port (component_of (d, t)) d.sort h.0) (no_ports ds ts h.1)

zip-append : (ds es : List Declaration) (ts us : List FirType) → length ds ≡ length ts → zip (ds ++ es) (ts ++ us) ≡ zip ds ts ++ zip es us
zip-append [] es [] us e = refl
zip-append [] es (t ∷ ts) us e = absurd (omega (arith, e))
zip-append (d ∷ ds) es [] us e = absurd (omega (arith, e))
zip-append (d ∷ ds) es (t ∷ ts) us e = ap (λ l. (d, t) ∷ l) (zip-append ds es ts us (omega (arith, e)))

module _ (all : Solved) where
  abbrev ws : List Width
  ws = all.widths

  abbrev typed_port : ℕ → Port → Port
  typed_port n p = record { output = p.output; name = record { id = p.name.id; place = nowhere }; typ = filled p.typ (map (slot_width ws) (slots_from n (spots p.typ))) }

  abbrev ports_typed : ℕ → List Port → List Port
  ports_typed n [] = []
  ports_typed n (p ∷ ps) = typed_port n p ∷ ports_typed (n + open_spots (spots p.typ)) ps

  one_port : (body : List Stmt) (p : Port) (t : FirType) → as_port (component_of (declared_by_port body p, t)) ≡ Some (record { output = p.output; name = record { id = p.name.id; place = nowhere }; typ = t })
  one_port body p t = by p.output where
    by : (b : Bool) → port_of (record { declaration = record { name = p.name.id; place = p.name.place; sort = cond b An_output An_input; block = body; behind = body }; typ = t }) (cond b An_output An_input)
        ≡ Some (record { output = b; name = record { id = p.name.id; place = nowhere }; typ = t })
    by true = refl
    by false = refl

  ports_found : (body : List Stmt) (n : ℕ) (ps : List Port) → filter_map as_port (map component_of (zip (map (declared_by_port body) ps) (ports_declared all ps (ports_from n ps)))) ≡ ports_typed n ps
  ports_found body n [] = refl
  ports_found body n (p ∷ ps) = ap₂ cons_option (one_port body p (filled p.typ (map (slot_width ws) (slots_from n (spots p.typ))))) (ports_found body (n + open_spots (spots p.typ)) ps)

  ports_counted : (body : List Stmt) (n : ℕ) (ps : List Port) → length (map (declared_by_port body) ps) ≡ length (ports_declared all ps (ports_from n ps))
  ports_counted body n [] = refl
  ports_counted body n (p ∷ ps) = ap suc (ports_counted body (n + open_spots (spots p.typ)) ps)

  pub ports_are : (holder : Module) (m : TypedModule) (types rest : List FirType) (k : ℕ) → m.components ≡ map component_of (zip (declarations_of holder) types)
      → types ≡ ports_declared all holder.ports (ports_from k holder.ports) ++ rest → typed_ports m ≡ ports_typed k holder.ports
  ports_are holder m types rest k is t =
      let front : List Declaration = map (declared_by_port holder.body) holder.ports in
      let back : List Declaration = declared_in_block (map told holder.body) in
      let pd : List FirType = ports_declared all holder.ports (ports_from k holder.ports) in
      let split : zip (declarations_of holder) types ≡ zip front pd ++ zip back rest = ap (zip (front ++ back)) t ∙ zip-append front back pd rest (ports_counted holder.body k holder.ports) in
      ap (filter_map as_port) (is ∙ ap (map component_of) split ∙ map-append component_of (zip front pd) (zip back rest))
      ∙ filter_map-append as_port (map component_of (zip front pd)) (map component_of (zip back rest))
      ∙ ap₂ (λ a b. a ++ b) (ports_found holder.body k holder.ports) (no_ports back rest (body_inside holder.body (map (λ t. t.itself) (map told holder.body))))
      ∙ append-nil (ports_typed k holder.ports)

  field_same : (f g : Field) → f.name.id ≡ g.name.id → f.flip ≡ g.flip → f.typ ≡ g.typ → field_leaves f ≡ field_leaves g
  field_same f g a b c = leaves-field f ∙ ap₂ (λ n x. map (under (step.Field n ∷ []) x) (leaves f.typ)) a b ∙ ap (λ t. map (under (step.Field g.name.id ∷ []) g.flip) (leaves t)) c ∙ sym (leaves-field g)

  fields_same : (n : ℕ) (ps : List Port) → flat_map field_leaves (filled_fields (map instance_field ps) (map (slot_width ws) (flat_map (λ (slots : List Slot). slots) (ports_from n ps))))
      ≡ flat_map field_leaves (map instance_field (ports_typed n ps))
  fields_same n [] = refl
  fields_same n (p ∷ ps) =
      let own : List Width = map (slot_width ws) (slots_from n (spots p.typ)) in
      let others : List Width = map (slot_width ws) (flat_map (λ (slots : List Slot). slots) (ports_from (n + open_spots (spots p.typ)) ps)) in
      let split : map (slot_width ws) (flat_map (λ (slots : List Slot). slots) (ports_from n (p ∷ ps))) ≡ own ++ others = map-append (slot_width ws) (slots_from n (spots p.typ)) _ in
      let long : length own ≡ size p.typ = length-map (slots_from n (spots p.typ)) (slot_width ws) ∙ length-slots n (spots p.typ) in
      ap (λ vs. flat_map field_leaves (filled_fields (map instance_field (p ∷ ps)) vs)) split
      ∙ ap₂ (λ a b. a ++ b)
      (field_same (record { flip = not p.output; name = p.name; typ = filled p.typ (own ++ others) }) (instance_field (typed_port n p)) refl refl (front_filled p.typ own others long))
      (ap (λ vs. flat_map field_leaves (filled_fields (map instance_field ps) vs)) (drop_at own others (size p.typ) long) ∙ fields_same (n + open_spots (spots p.typ)) ps)

  -- an instance has the leaves of its module's ports
  pub instance_leaves : (n : ℕ) (ps : List Port) → leaves (filled (instance_of ps) (map (slot_width ws) (flat_map (λ (slots : List Slot). slots) (ports_from n ps)))) ≡ leaves (instance_of (ports_typed n ps))
  instance_leaves n ps =
      let vs : List Width = map (slot_width ws) (flat_map (λ (slots : List Slot). slots) (ports_from n ps)) in
      leaves-bundle (filled (instance_of ps) vs) (filled_fields (map instance_field ps) vs) (filled-bundle (instance_of ps) (map instance_field ps) refl vs)
      ∙ fields_same n ps ∙ sym (leaves-bundle (instance_of (ports_typed n ps)) (map instance_field (ports_typed n ps)) refl)

-- the first module of a name, with its ports
pub first_with : (ms : List Module) (n name k : ℕ) (w : WithPorts) → FirstOf (texts (map (λ m. m.name) ms)) name k → slice_get (modules_from n ms) k ≡ Some w
    → find (λ m. m.holder.name.id == name) (modules_from n ms) ≡ Some w
first_with [] n name k w f e = cc
first_with (m ∷ ms) n name zero w f e =
    ap (λ b. cond b (Some (record { holder = m; ports = ports_from n m.ports })) (find (λ x. x.holder.name.id == name) (modules_from (n + open_ports m.ports) ms))) (eq-eqb m.name.id name (some_same f.has)) ∙ e
first_with (m ∷ ms) n name (suc k) w f e = by (m.name.id == name) refl (first_with ms (n + open_ports m.ports) name k w (record { has = f.has; first = λ earlier below is. f.first (suc earlier) (omega arith) is }) e) where
  by : (b : Bool) → (m.name.id == name) ≡ b → find (λ x. x.holder.name.id == name) (modules_from (n + open_ports m.ports) ms) ≡ Some w
      → cond b (Some (record { holder = m; ports = ports_from n m.ports })) (find (λ x. x.holder.name.id == name) (modules_from (n + open_ports m.ports) ms)) ≡ Some w
  by true q r = absurd (f.first 0 (omega arith) (ap Some (eqb-true m.name.id name q)))
  by false q r = r
