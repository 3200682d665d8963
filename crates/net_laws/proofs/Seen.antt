-- What is seen of a net's leaves is a settled valuation of the circuit.
use Rattle.std.proofs.Common.{◌≡◌, ◌≢◌, ℕ, zero, suc, ◌==◌, ◌<◌, ◌≤◌, ◌&&◌, not, Bool, true, false, List, [], ◌∷◌, ◌++◌, map, length, Option, Some, None, option_map, option_and_then, pos, refl, sym, ap, ap₂, ◌∙◌, subst, arith, true≢false, if◌then◌else◌}
use Rattle.std.specs.Prelude.{Contains}
use Rattle.std.specs.List.{slice_get}
use Rattle.std.proofs.lemmas.Grind.{common_steps}
use Rattle.bit_words.specs.declared.value.Value.{Value}
use Rattle.bit_words.specs.Values.{integer_of}
use Rattle.fir_types.specs.declared.fir_type.FirType.{FirType}
use Rattle.fir_types.specs.declared.fir_type.Field.{Field}
use Rattle.fir_types.specs.declared.fir_type.Shape.{Shape as FirShape}
use Rattle.fir_types.specs.declared.fir_type.Shape.TheOpen.{Shape-F}
use Rattle.fir_types.specs.declared.fir_type.Shape.TheViews.{out-Shape}
use Rattle.fir_types.specs.declared.leaf.TypeLeaf.{TypeLeaf}
use Rattle.fir_types.specs.declared.leaf.PathStep.{PathStep}
use Rattle.fir_types.specs.declared.leaf.PathStep.TheVariants as step
use Rattle.fir_types.specs.declared.memory.Memory.{Memory}
use Rattle.fir_types.specs.Leaves.{leaves}
use Rattle.fir_types.specs.Memories.{read_latency_of}
use Rattle.fir_tree.specs.declared.expr.Expr.{Expr}
use Rattle.prim_ops.specs.Shapes.{Shape, shape_of_value}
use Rattle.fir_tree.specs.LeafNames.{Texts}
use Rattle.fir_meaning.specs.Components.{Design, TypedModule, Component, FlatLeaf, Sort, An_input, An_output, A_wire, A_register, A_reset_register, A_memory, An_instance, A_node, flow_of, is_clock, width_of_leaf, is_clock_shape, width_of_shape, flat, flat_through, component_named, target_in, module_at, HasBundles}
use Rattle.fir_meaning.specs.Values.{Valuation, scene_of, value}
use Rattle.fir_meaning.specs.MemoryPorts.{read_by}
use Rattle.fir_meaning.specs.Drives.{drives}
use Rattle.fir_meaning.specs.States.{State, Inputs, Stands, Settled, seen, leaf_of, is_port, is_source, is_register, is_driven, IsLeafOf}
use Rattle.fir_meaning.specs.WellTyped.{leaf_shape}
use Rattle.fir_meaning.proofs.Settling.{at, seen_at, get-map, port_target, flat_none, one_leaf}
use Rattle.fir_meaning.proofs.Ports.{instance_inside}
use Rattle.ground_net.specs.declared.ground.Ground.{Ground}
use Rattle.ground_net.specs.declared.net.Leaf.{Leaf as NetLeaf}
use Rattle.ground_net.specs.declared.net.Role.{Role}
use Rattle.ground_net.specs.declared.net.Role.TheVariants as role
use Rattle.ground_net.specs.declared.net.Net.{Net}
use Rattle.ground_net.specs.Reads.{driver_of}
use Rattle.ground_net.specs.Cycles.{NetState, Capture, instant_of, captures}
use Rattle.ground_net.specs.Cycles as cycle
use Rattle.ground_net.specs.Nets.{IsNet, HasRole, AreInputs, register_shapes, captured_shapes, shape_or_none, leaf_shape as net_shape}
use Rattle.net_of_circuit.specs.FlatOrder.{Placed, Standing, all_leaves, flat_of, ListsLeaves}
use Rattle.net_of_circuit.specs.NetOf.{Part, Given, Without_value, Held, Kept, Driven, part_of_role, part_of, is_input_of_main, is_late_read, MatchingInputs, IsSeen, IsNetWith, seen_valuation}
use Rattle.net_laws.specs.Typed.{IsTyped}
use Rattle.net_laws.proofs.Numbers.{some_same, none_some, below_length, valuation_at}
use Rattle.net_laws.proofs.Integers.{fitted_is, fitted_zero, no_bits}

-- Roles

as_given : (r : Role) → part_of_role r ≡ Given → (n : ℕ) × (r ≡ role.Input n)
as_given (role.Input n) e = (n, refl)
as_given role.Clock e = absurd cc
as_given role.Assigned e = absurd cc
as_given (role.Register n) e = absurd cc
as_given (role.Captured n) e = absurd cc

as_clock : (r : Role) → part_of_role r ≡ Without_value → r ≡ role.Clock
as_clock (role.Input n) e = absurd cc
as_clock role.Clock e = refl
as_clock role.Assigned e = absurd cc
as_clock (role.Register n) e = absurd cc
as_clock (role.Captured n) e = absurd cc

as_held : (r : Role) → part_of_role r ≡ Held → (n : ℕ) × (r ≡ role.Register n)
as_held (role.Input n) e = absurd cc
as_held role.Clock e = absurd cc
as_held role.Assigned e = absurd cc
as_held (role.Register n) e = (n, refl)
as_held (role.Captured n) e = absurd cc

pub as_kept : (r : Role) → part_of_role r ≡ Kept → (n : ℕ) × (r ≡ role.Captured n)
as_kept (role.Input n) e = absurd cc
as_kept role.Clock e = absurd cc
as_kept role.Assigned e = absurd cc
as_kept (role.Register n) e = absurd cc
as_kept (role.Captured n) e = (n, refl)

as_driven : (r : Role) → part_of_role r ≡ Driven → r ≡ role.Assigned
as_driven (role.Input n) e = absurd cc
as_driven role.Clock e = absurd cc
as_driven role.Assigned e = refl
as_driven (role.Register n) e = absurd cc
as_driven (role.Captured n) e = absurd cc

-- What a leaf of the circuit is in a cycle

abbrev chosen_part : Bool → Bool → Bool → Bool → Part
chosen_part clock register input late =
    if clock then Without_value else if register then Held else if input then Given else if late then Kept else Driven

pub part_is : (y : Standing) (clock register input late : Bool) → is_clock y.1 ≡ clock → is_register y.0.c.declaration.sort ≡ register → is_input_of_main y.0.path y.0.c y.1 ≡ input
    → is_late_read y.0.c.declaration.sort y.1 ≡ late → part_of y ≡ chosen_part clock register input late
part_is y clock register input late a b c d = grind (arith, common_steps, a, b, c, d)

clock_part : (y : Standing) → is_clock y.1 ≡ true → part_of y ≡ Without_value
clock_part y e = grind (arith, common_steps, e)

held_part : (y : Standing) → is_clock y.1 ≡ false → is_register y.0.c.declaration.sort ≡ true → part_of y ≡ Held
held_part y e f = grind (arith, common_steps, e, f)

-- an instance path that has an instance isn't main's
below_main : (path : List ℕ) (i : ℕ) (c : Component) (leaf : TypeLeaf) → is_input_of_main (path ++ i ∷ []) c leaf ≡ false
below_main [] i c leaf = refl
below_main (j ∷ path) i c leaf = refl

not_input : (path : List ℕ) (c : Component) (leaf : TypeLeaf) → (is_port c.declaration.sort && is_source (flow_of c.declaration.sort leaf.flip)) ≡ false → is_input_of_main path c leaf ≡ false
not_input [] c leaf e = e
not_input (i ∷ path) c leaf e = refl

-- a leaf that statements decide

driven_flow : (c : Component) (leaf : TypeLeaf) → is_driven c leaf ≡ true → is_source (flow_of c.declaration.sort leaf.flip) ≡ false
driven_flow c leaf e = grind (arith, common_steps, e)

driven_register : (c : Component) (leaf : TypeLeaf) → is_driven c leaf ≡ true → is_register c.declaration.sort ≡ false
driven_register c leaf e = grind (arith, common_steps, e)

pub driven_clock : (c : Component) (leaf : TypeLeaf) → is_driven c leaf ≡ true → is_clock leaf ≡ false
driven_clock c leaf e = grind (arith, common_steps, e)

turned_late : (sort : Sort) (leaf : TypeLeaf) → is_source (flow_of sort leaf.flip) ≡ false → is_late_read sort leaf ≡ false
turned_late (A_memory memory) leaf e = by (leaf.flip) refl e where
  by : (b : Bool) → leaf.flip ≡ b → is_source (flow_of (A_memory memory) b) ≡ false → (not (read_latency_of memory == 0) && not leaf.flip) ≡ false
  by true q e = grind (arith, common_steps, q)
  by false q e = absurd (true≢false e)
turned_late An_input leaf e = refl
turned_late An_output leaf e = refl
turned_late A_wire leaf e = refl
turned_late (A_register clock) leaf e = refl
turned_late (A_reset_register clock reset init) leaf e = refl
turned_late (An_instance target) leaf e = refl
turned_late (A_node expr) leaf e = refl

pub port_late : (sort : Sort) (leaf : TypeLeaf) → is_port sort ≡ true → is_late_read sort leaf ≡ false
port_late An_input leaf e = refl
port_late An_output leaf e = refl
port_late A_wire leaf e = refl
port_late (A_register clock) leaf e = refl
port_late (A_reset_register clock reset init) leaf e = refl
port_late (A_memory memory) leaf e = absurd (true≢false (sym e))
port_late (An_instance target) leaf e = refl
port_late (A_node expr) leaf e = refl

pub port_held : (sort : Sort) → is_port sort ≡ true → is_register sort ≡ false
port_held An_input e = refl
port_held An_output e = refl
port_held A_wire e = refl
port_held (A_register clock) e = absurd (true≢false (sym e))
port_held (A_reset_register clock reset init) e = absurd (true≢false (sym e))
port_held (A_memory memory) e = refl
port_held (An_instance target) e = refl
port_held (A_node expr) e = refl

pub register_target : (sort : Sort) → is_register sort ≡ true → target_in sort ≡ None
register_target An_input e = refl
register_target An_output e = refl
register_target A_wire e = refl
register_target (A_register clock) e = refl
register_target (A_reset_register clock reset init) e = refl
register_target (A_memory memory) e = refl
register_target (An_instance target) e = absurd (true≢false (sym e))
register_target (A_node expr) e = refl

instance_sort : (sort : Sort) (target : ℕ) → target_in sort ≡ Some target → sort ≡ An_instance target
instance_sort (An_instance t) target e = ap An_instance (some_same e)
instance_sort An_input target e = none_some e
instance_sort An_output target e = none_some e
instance_sort A_wire target e = none_some e
instance_sort (A_register clock) target e = none_some e
instance_sort (A_reset_register clock reset init) target e = none_some e
instance_sort (A_memory memory) target e = none_some e
instance_sort (A_node expr) target e = none_some e

pub get_item : {A : Type 0} (xs : List A) (x : ℕ) → x < length xs → (y : A) × (slice_get xs x ≡ Some y)
get_item [] x h = absurd (omega arith)
get_item (a ∷ xs) zero h = (a, refl)
get_item (a ∷ xs) (suc x) h = get_item xs x (omega arith)

-- lists that have the same at each place
same_items : {A : Type 0} (xs ys : List A) → ((k : ℕ) → slice_get xs k ≡ slice_get ys k) → xs ≡ ys
same_items [] [] h = refl
same_items [] (y ∷ ys) h = none_some (h 0)
same_items (x ∷ xs) [] h = none_some (sym (h 0))
same_items (x ∷ xs) (y ∷ ys) h = ap₂ (λ a b. a ∷ b) (some_same (h 0)) (same_items xs ys (λ k. h (suc k)))

pub get-map' : {A B : Type 0} (h : A → B) (xs : List A) (k : ℕ) (x : A) → slice_get xs k ≡ Some x → slice_get (map h xs) k ≡ Some (h x)
get-map' h xs k x e = get-map h xs k ∙ ap (option_map h) e

-- a Clock has no bits
clock_width : (leaf : TypeLeaf) → is_clock leaf ≡ true → width_of_leaf leaf ≡ 0
clock_width leaf e = clock_shape (out-Shape leaf.typ.shape) e where
  clock_shape : (s : Shape-F FirShape Field FirType) → is_clock_shape s ≡ true → width_of_shape s ≡ 0
  clock_shape (Shape-F.Unsigned w) e = absurd (true≢false (sym e))
  clock_shape (Shape-F.Signed w) e = absurd (true≢false (sym e))
  clock_shape Shape-F.Clock e = refl
  clock_shape Shape-F.Reset e = absurd (true≢false (sym e))
  clock_shape Shape-F.AsyncReset e = absurd (true≢false (sym e))
  clock_shape (Shape-F.Bundle fs) e = absurd (true≢false (sym e))
  clock_shape (Shape-F.Vector t n) e = absurd (true≢false (sym e))

-- a value without bits
nothing : (o : Option Value) {shape : Shape} → option_map shape_of_value o ≡ Some shape → shape.width ≡ 0 → option_map integer_of o ≡ Some (pos 0)
nothing None e w = none_some e
nothing (Some v) e w = ap Some (no_bits v.kind v.width v.bits (ap (λ s. s.width) (some_same e) ∙ w) v.within)

no_item : (o : Option Value) → option_map shape_of_value o ≡ None → option_map integer_of o ≡ None
no_item None e = refl
no_item (Some v) e = none_some (sym e)

pub in_list : {A : Type 0} (xs : List A) (k : ℕ) (x : A) → slice_get xs k ≡ Some x → Contains xs x
in_list [] k x e = none_some e
in_list (a ∷ xs) zero x e = (0, omega arith, some_same e)
in_list (a ∷ xs) (suc k) x e = let rest = in_list xs k x e in (suc rest.0, omega arith, rest.2)

module _ (texts : Texts) (design : Design) (placed : List Placed) (elements : List FirType) (net : Net) (is : IsNetWith texts design placed elements net) (well : IsNet net) (lists : ListsLeaves design placed) (has : HasBundles design) (typed : IsTyped design) where
  -- Each leaf of a component of the run has an entry, which is a Clock where the leaf is, and is of a port where the component is an instance.
  record Found (path : List ℕ) (m : TypedModule) (c : Component) (leaf : TypeLeaf) : Type 0 where
    x : ℕ
    y : Standing
    there : slice_get (all_leaves placed) x ≡ Some y
    same : flat_of y ≡ flat m path (leaf_of c leaf)
    clock : is_clock y.1 ≡ is_clock leaf
    settles : is_driven c leaf ≡ true → part_of y ≡ Driven

  pub own_flat : (path : List ℕ) (m : TypedModule) (c : Component) (leaf : TypeLeaf) → component_named m c.declaration.name ≡ Some c → target_in c.declaration.sort ≡ None
      → flat m path (leaf_of c leaf) ≡ record { path = path; component = c.declaration.name; way = leaf.path }
  own_flat path m c leaf declared none =
      ap (λ o. flat_through path c.declaration.name o leaf.path) (ap (option_and_then (λ x. target_in x.declaration.sort)) declared ∙ none)
      ∙ flat_none path c.declaration.name leaf.path

  found_own : (path : List ℕ) (m : TypedModule) (c : Component) (leaf : TypeLeaf) → Stands design path m c leaf → target_in c.declaration.sort ≡ None → Found path m c leaf
  found_own path m c leaf stands none =
      let entry = lists.own path m c leaf stands none in
      let p : Placed = record { path = path; m = m; c = c } in
      record {
        x = entry.0;
        y = (p, leaf);
        there = entry.1;
        same = sym (own_flat path m c leaf stands.declared none);
        clock = refl;
        settles = λ d. part_is (p, leaf) false false false false (driven_clock c leaf d) (driven_register c leaf d)
            (not_input path c leaf (ap (λ b. is_port c.declaration.sort && b) (driven_flow c leaf d) ∙ and_false (is_port c.declaration.sort)))
            (turned_late c.declaration.sort leaf (driven_flow c leaf d));
      }
    where
      and_false : (b : Bool) → (b && false) ≡ false
      and_false true = refl
      and_false false = refl

  found_instance : (path : List ℕ) (m : TypedModule) (c : Component) (leaf : TypeLeaf) (target : ℕ) → Stands design path m c leaf → target_in c.declaration.sort ≡ Some target → Found path m c leaf
  found_instance path m c leaf target stands some =
      let sort : c.declaration.sort ≡ An_instance target = instance_sort c.declaration.sort target some in
      let in_ = instance_inside design has path m c leaf target stands sort in
      let n : TypedModule = in_.0 in
      let p : Component = in_.1 in
      let part : TypeLeaf = in_.2 in
      let inner = in_.3 in
      let port : is_port p.declaration.sort ≡ true = in_.4 in
      let entry = lists.own (path ++ c.declaration.name ∷ []) n p part inner (port_target p.declaration.sort port) in
      let q : Placed = record { path = path ++ c.declaration.name ∷ []; m = n; c = p } in
      let same = one_leaf path m n c p leaf part target stands.declared sort inner.declared port in_.6 in
      record {
        x = entry.0;
        y = (q, part);
        there = entry.1;
        same = sym (own_flat (path ++ c.declaration.name ∷ []) n p part inner.declared (port_target p.declaration.sort port)) ∙ sym same;
        clock = sym in_.7;
        settles = λ d. part_is (q, part) false false false false (sym in_.7 ∙ driven_clock c leaf d) (port_held p.declaration.sort port)
            (below_main path c.declaration.name p part) (port_late p.declaration.sort part port);
      }

  found : (path : List ℕ) (m : TypedModule) (c : Component) (leaf : TypeLeaf) → Stands design path m c leaf → Found path m c leaf
  found path m c leaf stands = by (target_in c.declaration.sort) refl where
    by : (o : Option ℕ) → target_in c.declaration.sort ≡ o → Found path m c leaf
    by None e = found_own path m c leaf stands e
    by (Some target) e = found_instance path m c leaf target stands e

  pub found_entry : (f : FlatLeaf) → IsLeafOf design f → (x : ℕ) × (y : Standing) × (slice_get (all_leaves placed) x ≡ Some y) × (flat_of y ≡ f)
  found_entry f leaf = let g = found leaf.path leaf.m leaf.c leaf.leaf leaf.stands in (g.x, g.y, g.there, g.same ∙ leaf.is)

  -- the net's leaf of an entry
  net_leaf : (x : ℕ) (y : Standing) → slice_get (all_leaves placed) x ≡ Some y → (leaf : NetLeaf) × (slice_get net.leaves x ≡ Some leaf)
  net_leaf x y e = get_item net.leaves x (subst (λ n. x < n) (sym is.counted) (below_length (all_leaves placed) x y e))

  -- A driven entry has a driver, which is an assignment.
  driver_there : (x : ℕ) (y : Standing) → slice_get (all_leaves placed) x ≡ Some y → part_of y ≡ Driven → (leaf : NetLeaf) × (driver : Ground) × (slice_get net.leaves x ≡ Some leaf) × (leaf.role ≡ role.Assigned) × (driver_of net x ≡ Some driver)
  driver_there x y e d =
      let there = net_leaf x y e in
      let assigned : there.0.role ≡ role.Assigned = as_driven there.0.role ((is.leaves_are x y there.0 e there.1).part ∙ d) in
      let has_driver = well.assigned x (record { leaf = there.0; there = there.1; is = assigned }) in
      (there.0, has_driver.0, there.1, assigned, has_driver.1)

  narrow : (leaf : NetLeaf) → leaf.width ≤ 128
  narrow leaf = leaf.narrow

  module _ (s : State) (t : NetState) (given : Inputs) (numbered : cycle.Inputs) (rho : cycle.Valuation) (seen_is : IsSeen placed elements net s t rho) (matching : MatchingInputs (all_leaves placed) net given numbered) (ranges : AreInputs net numbered) (settled : cycle.Settled net t numbered rho) where
    abbrev tree_rho : Valuation
    tree_rho = seen_valuation placed net t rho

    -- what is seen of an entry
    entry_seen : (x : ℕ) (y : Standing) → slice_get (all_leaves placed) x ≡ Some y → at tree_rho (flat_of y) ≡ integer_of (rho x)
    entry_seen x y e = valuation_at design placed lists (instant_of net t rho) x y e

    leaf_seen : (path : List ℕ) (m : TypedModule) (c : Component) (leaf : TypeLeaf) (f : Found path m c leaf) → seen m path tree_rho c leaf ≡ integer_of (rho f.x)
    leaf_seen path m c leaf f = seen_at m path tree_rho c leaf ∙ (ap (at tree_rho) (sym f.same) ∙ entry_seen f.x f.y f.there)

    clock_seen : (x : ℕ) (y : Standing) → slice_get (all_leaves placed) x ≡ Some y → is_clock y.1 ≡ true → integer_of (rho x) ≡ pos 0
    clock_seen x y e k =
        let there = net_leaf x y e in
        let clock : there.0.role ≡ role.Clock = as_clock there.0.role ((is.leaves_are x y there.0 e there.1).part ∙ clock_part y k) in
        ap integer_of (settled.clocks x there.0 there.1 clock) ∙ fitted_zero there.0.kind there.0.width (narrow there.0)

    clocks_settle : (path : List ℕ) (m : TypedModule) (c : Component) (leaf : TypeLeaf) → Stands design path m c leaf → is_clock leaf ≡ true → seen m path tree_rho c leaf ≡ pos 0
    clocks_settle path m c leaf stands k =
        let f = found path m c leaf stands in
        leaf_seen path m c leaf f ∙ clock_seen f.x f.y f.there (f.clock ∙ k)

    own_seen : (path : List ℕ) (m : TypedModule) (c : Component) (leaf : TypeLeaf) (stands : Stands design path m c leaf) (none : target_in c.declaration.sort ≡ None)
        → seen m path tree_rho c leaf ≡ integer_of (rho (lists.own path m c leaf stands none).0)
    unfolding found_own
    own_seen path m c leaf stands none = leaf_seen path m c leaf (found_own path m c leaf stands none)

    inputs_settle : (m : TypedModule) (c : Component) (leaf : TypeLeaf) → Stands design [] m c leaf → is_port c.declaration.sort ≡ true
        → is_source (flow_of c.declaration.sort leaf.flip) ≡ true → is_clock leaf ≡ false → seen m [] tree_rho c leaf ≡ given c.declaration.name leaf.path
    inputs_settle m c leaf stands port source k =
        let none = port_target c.declaration.sort port in
        let entry = lists.own [] m c leaf stands none in
        let p : Placed = record { path = []; m = m; c = c } in
        let y : Standing = (p, leaf) in
        let there = net_leaf entry.0 y entry.1 in
        let input : is_input_of_main [] c leaf ≡ true = ap₂ (λ a b. a && b) port source in
        let part : part_of y ≡ Given = part_is y false false true false k (port_held c.declaration.sort port) input (port_late c.declaration.sort leaf port) in
        let input_number = as_given there.0.role ((is.leaves_are entry.0 y there.0 entry.1 there.1).part ∙ part) in
        own_seen [] m c leaf stands none
        ∙ (ap integer_of (settled.inputs entry.0 input_number.0 there.0 there.1 input_number.1)
        ∙ (fitted_is there.0.kind there.0.width (numbered input_number.0) (narrow there.0) (ranges entry.0 input_number.0 there.0 there.1 input_number.1)
        ∙ sym (matching.inputs entry.0 input_number.0 y entry.1 (record { leaf = there.0; there = there.1; is = input_number.1 }))))

    registers_settle : (path : List ℕ) (m : TypedModule) (c : Component) (leaf : TypeLeaf) → Stands design path m c leaf → is_register c.declaration.sort ≡ true
        → seen m path tree_rho c leaf ≡ s.registers path c.declaration.name leaf.path
    registers_settle path m c leaf stands held =
        let none = register_target c.declaration.sort held in
        let entry = lists.own path m c leaf stands none in
        let p : Placed = record { path = path; m = m; c = c } in
        let y : Standing = (p, leaf) in
        let there = net_leaf entry.0 y entry.1 in
        let part : part_of y ≡ Held = held_part y (typed.registers path m c leaf stands held) held in
        let number = as_held there.0.role ((is.leaves_are entry.0 y there.0 entry.1 there.1).part ∙ part) in
        let has_role : HasRole net entry.0 (role.Register number.0) = record { leaf = there.0; there = there.1; is = number.1 } in
        let register = well.registers entry.0 number.0 has_role in
        let shaped_at : slice_get (register_shapes net) number.0 ≡ Some (net_shape there.0) =
        get-map (λ r. shape_or_none (slice_get net.leaves r.leaf)) net.registers number.0
        ∙ (ap (option_map (λ r. shape_or_none (slice_get net.leaves r.leaf))) register.1
        ∙ ap (λ o. Some (shape_or_none o)) (ap (slice_get net.leaves) register.2 ∙ there.1)) in
        own_seen path m c leaf stands none
        ∙ (ap integer_of (settled.registers entry.0 number.0 there.0 there.1 number.1)
        ∙ (fitted_is there.0.kind there.0.width (t.registers number.0) (narrow there.0) (seen_is.within.registers number.0 (net_shape there.0) shaped_at)
        ∙ sym (seen_is.states.registers entry.0 number.0 y entry.1 has_role)))

    memory_target : (c : Component) (memory : Memory) → c.declaration.sort ≡ A_memory memory → target_in c.declaration.sort ≡ None
    memory_target c memory sort = ap target_in sort

    memory_held : (c : Component) (memory : Memory) → c.declaration.sort ≡ A_memory memory → is_register c.declaration.sort ≡ false
    memory_held c memory sort = ap is_register sort

    memory_input : (path : List ℕ) (c : Component) (leaf : TypeLeaf) (memory : Memory) → c.declaration.sort ≡ A_memory memory → is_input_of_main path c leaf ≡ false
    memory_input path c leaf memory sort = not_input path c leaf (ap (λ b. b && is_source (flow_of c.declaration.sort leaf.flip)) (ap is_port sort))

    late : (memory : Memory) (leaf : TypeLeaf) (n : ℕ) (b : Bool) → read_latency_of memory ≡ n → leaf.flip ≡ false → (not (n == 0) && not false) ≡ b → is_late_read (A_memory memory) leaf ≡ b
    late memory leaf n b e f q = ap₂ (λ l turned. not (l == 0) && not turned) e f ∙ q

    reads_settle : (path : List ℕ) (m : TypedModule) (c : Component) (leaf : TypeLeaf) (memory : Memory) (port field : ℕ) (way : List PathStep)
        → Stands design path m c leaf → c.declaration.sort ≡ A_memory memory → read_latency_of memory ≡ 0 → leaf.flip ≡ false
        → leaf.path ≡ step.Field port ∷ step.Field field ∷ way
        → seen m path tree_rho c leaf ≡ read_by memory ((scene_of m path tree_rho).integers c.declaration.name) (s.contents path c.declaration.name) port way
    reads_settle path m c leaf memory port field way stands sort latency turned behind =
        let none = memory_target c memory sort in
        let entry = lists.own path m c leaf stands none in
        let p : Placed = record { path = path; m = m; c = c } in
        let y : Standing = (p, leaf) in
        let part : part_of y ≡ Driven =
        part_is y false false false false (typed.read_data path m c leaf memory stands sort turned) (memory_held c memory sort) (memory_input path c leaf memory sort)
        (ap (λ q. is_late_read q leaf) sort ∙ late memory leaf 0 false latency turned refl) in
        let d = driver_there entry.0 y entry.1 part in
        own_seen path m c leaf stands none
        ∙ (ap integer_of (settled.assigned entry.0 d.0 d.1 d.2 d.3 d.4)
        ∙ sym (is.port_reads entry.0 y memory port field way d.1 s t rho entry.1 sort latency turned behind d.4 seen_is))

    captured_settle : (path : List ℕ) (m : TypedModule) (c : Component) (leaf : TypeLeaf) (memory : Memory) (port field : ℕ) (way : List PathStep)
        → Stands design path m c leaf → c.declaration.sort ≡ A_memory memory → read_latency_of memory ≢ 0 → leaf.flip ≡ false
        → leaf.path ≡ step.Field port ∷ step.Field field ∷ way → seen m path tree_rho c leaf ≡ s.captured path c.declaration.name port way
    captured_settle path m c leaf memory port field way stands sort latency turned behind =
        let none = memory_target c memory sort in
        let entry = lists.own path m c leaf stands none in
        let p : Placed = record { path = path; m = m; c = c } in
        let y : Standing = (p, leaf) in
        let there = net_leaf entry.0 y entry.1 in
        let part : part_of y ≡ Kept =
        part_is y false false false true (typed.read_data path m c leaf memory stands sort turned) (memory_held c memory sort) (memory_input path c leaf memory sort)
        (ap (λ q. is_late_read q leaf) sort ∙ is_late (read_latency_of memory) refl latency) in
        let number = as_kept there.0.role ((is.leaves_are entry.0 y there.0 entry.1 there.1).part ∙ part) in
        let has_role : HasRole net entry.0 (role.Captured number.0) = record { leaf = there.0; there = there.1; is = number.1 } in
        let capture = well.captured entry.0 number.0 has_role in
        let shaped_at : slice_get (captured_shapes net) number.0 ≡ Some (net_shape there.0) =
        get-map (λ r. shape_or_none (slice_get net.leaves r.leaf)) (captures net) number.0
        ∙ (ap (option_map (λ r. shape_or_none (slice_get net.leaves r.leaf))) capture.1
        ∙ ap (λ o. Some (shape_or_none o)) (ap (slice_get net.leaves) capture.2 ∙ there.1)) in
        own_seen path m c leaf stands none
        ∙ (ap integer_of (settled.captured entry.0 number.0 there.0 there.1 number.1)
        ∙ (fitted_is there.0.kind there.0.width (t.captured number.0) (narrow there.0) (seen_is.within.captured number.0 (net_shape there.0) shaped_at)
        ∙ sym (seen_is.states.captured entry.0 number.0 y port field way entry.1 has_role behind)))
      where
        is_late : (n : ℕ) → read_latency_of memory ≡ n → read_latency_of memory ≢ 0 → is_late_read (A_memory memory) leaf ≡ true
        is_late zero e h = absurd (h e)
        is_late (suc n) e h = late memory leaf (suc n) true e turned (grind (arith, common_steps))

    driven_settle : (path : List ℕ) (m : TypedModule) (c : Component) (leaf : TypeLeaf) → Stands design path m c leaf → is_driven c leaf ≡ true
        → drives (scene_of m path tree_rho) (leaf_of c leaf) c.declaration.block ≡ Some (seen m path tree_rho c leaf)
    driven_settle path m c leaf stands drive =
        let f = found path m c leaf stands in
        let d = driver_there f.x f.y f.there (f.settles drive) in
        is.driven path m c leaf f.x f.y d.1 s t rho stands drive f.there (sym f.same) d.4 seen_is
        ∙ ap Some (sym (ap integer_of (settled.assigned f.x d.0 d.1 d.2 d.3 d.4)) ∙ sym (leaf_seen path m c leaf f))

    node_at : (path : List ℕ) (m : TypedModule) (c : Component) (e : Expr) (k : ℕ) (leaf : TypeLeaf) → Stands design path m c leaf → c.declaration.sort ≡ A_node e → slice_get (leaves c.typ) k ≡ Some leaf
        → Some (seen m path tree_rho c leaf) ≡ slice_get (map integer_of (value e (scene_of m path tree_rho))) k
    node_at path m c e k leaf stands sort there = by (is_clock leaf) refl where
      by : (b : Bool) → is_clock leaf ≡ b → Some (seen m path tree_rho c leaf) ≡ slice_get (map integer_of (value e (scene_of m path tree_rho))) k
      by true clock =
          let vs : List Value = value e (scene_of m path tree_rho) in
          let shapes : map shape_of_value vs ≡ map leaf_shape (leaves c.typ) = typed.nodes path m c e tree_rho stands.reached stands.declared sort in
          let at_k : option_map shape_of_value (slice_get vs k) ≡ Some (leaf_shape leaf) =
          sym (get-map shape_of_value vs k) ∙ (ap (λ l. slice_get l k) shapes ∙ (get-map leaf_shape (leaves c.typ) k ∙ ap (option_map leaf_shape) there)) in
          ap Some (clocks_settle path m c leaf stands clock) ∙ sym (get-map integer_of vs k ∙ nothing (slice_get vs k) at_k (clock_width leaf clock))
      by false clock =
          let none = ap target_in sort in
          let entry = lists.own path m c leaf stands none in
          let p : Placed = record { path = path; m = m; c = c } in
          let y : Standing = (p, leaf) in
          let part : part_of y ≡ Driven =
          part_is y false false false false clock (ap is_register sort) (not_input path c leaf (ap (λ b. b && is_source (flow_of c.declaration.sort leaf.flip)) (ap is_port sort))) (ap (λ q. is_late_read q leaf) sort) in
          let d = driver_there entry.0 y entry.1 part in
          ap Some (own_seen path m c leaf stands none ∙ ap integer_of (settled.assigned entry.0 d.0 d.1 d.2 d.3 d.4)) ∙ sym (is.nodes entry.0 y e k d.1 s t rho entry.1 sort clock there d.4 seen_is)

    nodes_settle : (path : List ℕ) (m : TypedModule) (c : Component) (e : Expr) → module_at design path ≡ Some m → component_named m c.declaration.name ≡ Some c
        → c.declaration.sort ≡ A_node e → map (seen m path tree_rho c) (leaves c.typ) ≡ map integer_of (value e (scene_of m path tree_rho))
    nodes_settle path m c e reached declared sort = same_items (map (seen m path tree_rho c) (leaves c.typ)) (map integer_of (value e (scene_of m path tree_rho))) each where
      vs : List Value
      vs = value e (scene_of m path tree_rho)

      each : (k : ℕ) → slice_get (map (seen m path tree_rho c) (leaves c.typ)) k ≡ slice_get (map integer_of (value e (scene_of m path tree_rho))) k
      each k = by (slice_get (leaves c.typ) k) refl where
        by : (o : Option TypeLeaf) → slice_get (leaves c.typ) k ≡ o → slice_get (map (seen m path tree_rho c) (leaves c.typ)) k ≡ slice_get (map integer_of (value e (scene_of m path tree_rho))) k
        by (Some leaf) q =
            get-map (seen m path tree_rho c) (leaves c.typ) k ∙ (ap (option_map (seen m path tree_rho c)) q
            ∙ node_at path m c e k leaf (record { reached = reached; declared = declared; listed = in_list (leaves c.typ) k leaf q }) sort q)
        by None q =
            let shapes : map shape_of_value (value e (scene_of m path tree_rho)) ≡ map leaf_shape (leaves c.typ) = typed.nodes path m c e tree_rho reached declared sort in
            let at_k : option_map shape_of_value (slice_get (value e (scene_of m path tree_rho)) k) ≡ None =
            sym (get-map shape_of_value (value e (scene_of m path tree_rho)) k) ∙ (ap (λ l. slice_get l k) shapes ∙ (get-map leaf_shape (leaves c.typ) k ∙ ap (option_map leaf_shape) q)) in
            get-map (seen m path tree_rho c) (leaves c.typ) k ∙ (ap (option_map (seen m path tree_rho c)) q
            ∙ sym (get-map integer_of (value e (scene_of m path tree_rho)) k ∙ no_item (slice_get (value e (scene_of m path tree_rho)) k) at_k))

    -- What is seen settles the circuit.
    pub seen_settles : Settled design s given tree_rho
    seen_settles = record {
      clocks = clocks_settle;
      inputs = inputs_settle;
      registers = registers_settle;
      nodes = nodes_settle;
      reads = reads_settle;
      captured = captured_settle;
      driven = driven_settle;
    }
