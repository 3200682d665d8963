-- What a sweep has at each leaf of the run.
use Rattle.std.proofs.Common.{◌≡◌, ℕ, Bool, true, false, not, ◌&&◌, List, [], ◌∷◌, ◌++◌, map, slice_get, Some, None, option_map, option_and_then, is_some, pos, refl, sym, ap, ◌∙◌, subst, true≢false, if◌then◌else◌}
use Rattle.fir_types.specs.declared.leaf.TypeLeaf.{TypeLeaf}
use Rattle.fir_types.specs.declared.leaf.PathStep.TheVariants as step
use Rattle.fir_types.specs.declared.memory.Memory.{Memory}
use Rattle.fir_types.specs.Leaves.{leaves}
use Rattle.fir_tree.specs.declared.expr.Expr.{Expr}
use Rattle.prim_ops.specs.Shapes.{shape_of_value}
use Rattle.fir_meaning.specs.Components.{Design, TypedModule, Component, FlatLeaf, Leaf, Sort, An_input, An_output, A_wire, A_register, A_reset_register, A_memory, An_instance, A_node, flow_of, is_clock, flat, flat_through, component_named, module_at, target_in, HasBundles}
use Rattle.fir_meaning.specs.Values.{Valuation, scene_of, value}
use Rattle.fir_meaning.specs.Drives.{drives}
use Rattle.fir_meaning.specs.States.{State, Inputs, Stands, leaf_of, is_port, is_source, is_register, is_driven, or_else, located, where_located, IsLeafOf}
use Rattle.fir_meaning.specs.WellTyped.{leaf_shape}
use Rattle.fir_meaning.proofs.Settling.{at, get_there, port_target, flat_none, one_leaf}
use Rattle.fir_meaning.proofs.Ports.{instance_inside}
use Rattle.settling_laws.specs.Sweeps.{left_in_block, last_instance, left_above, from_outside, leaf_at, of_port, of_sort, asked, sweep}
use Rattle.settling_laws.proofs.Places.{IsOnce, at_way}

-- What the checks make sure of in a run, as far as sweeps need it.
pub record IsSound (design : Design) : Type 0 where
  pub has : HasBundles design
  pub ways : (path : List ℕ) (m : TypedModule) (c : Component) → module_at design path ≡ Some m → component_named m c.declaration.name ≡ Some c
      → (j k : ℕ) (a b : TypeLeaf) → slice_get (leaves c.typ) j ≡ Some a → slice_get (leaves c.typ) k ≡ Some b → a.path ≡ b.path → j ≡ k
  pub registers : (path : List ℕ) (m : TypedModule) (c : Component) (leaf : TypeLeaf) → Stands design path m c leaf → is_register c.declaration.sort ≡ true → is_clock leaf ≡ false
  pub read_data : (path : List ℕ) (m : TypedModule) (c : Component) (leaf : TypeLeaf) (memory : Memory) → Stands design path m c leaf → c.declaration.sort ≡ A_memory memory → leaf.flip ≡ false → is_clock leaf ≡ false
  pub nodes : (path : List ℕ) (m : TypedModule) (c : Component) (e : Expr) (rho : Valuation) → module_at design path ≡ Some m → component_named m c.declaration.name ≡ Some c → c.declaration.sort ≡ A_node e
      → map shape_of_value (value e (scene_of m path rho)) ≡ map leaf_shape (leaves c.typ)
  pub driven : (path : List ℕ) (m : TypedModule) (c : Component) (leaf : TypeLeaf) → Stands design path m c leaf → is_driven c leaf ≡ true → (rho : Valuation)
      → is_some (drives (scene_of m path rho) (leaf_of c leaf) c.declaration.block) ≡ true

pub driven_by : (c : Component) (leaf : TypeLeaf) → is_source (flow_of c.declaration.sort leaf.flip) ≡ false → is_register c.declaration.sort ≡ false → is_clock leaf ≡ false → is_driven c leaf ≡ true
driven_by c leaf s r k =
    ap (λ b. not b && (not (is_register c.declaration.sort) && not (is_clock leaf))) s ∙ (ap (λ b. not b && not (is_clock leaf)) r ∙ ap not k)

pub driven_parts : (source register clock : Bool) → (not source && (not register && not clock)) ≡ true → (source ≡ false) × (register ≡ false) × (clock ≡ false)
driven_parts false false false e = (refl, refl, refl)
driven_parts true register clock e = absurd (true≢false (sym e))
driven_parts false true clock e = absurd (true≢false (sym e))
driven_parts false false true e = absurd (true≢false (sym e))

pub port_register : (sort : Sort) → is_port sort ≡ true → is_register sort ≡ false
port_register An_input e = refl
port_register An_output e = refl
port_register A_wire e = refl
port_register (A_register clock) e = absurd (true≢false (sym e))
port_register (A_reset_register clock reset init) e = absurd (true≢false (sym e))
port_register (A_memory memory) e = refl
port_register (An_instance target) e = refl
port_register (A_node expr) e = refl

pub register_target : (sort : Sort) → is_register sort ≡ true → target_in sort ≡ None
register_target (A_register clock) e = refl
register_target (A_reset_register clock reset init) e = refl
register_target An_input e = refl
register_target An_output e = refl
register_target A_wire e = refl
register_target (A_memory memory) e = refl
register_target (An_instance target) e = absurd (true≢false (sym e))
register_target (A_node expr) e = refl

-- The component that has a leaf of the run itself, which is no instance.
pub record Owned (design : Design) (x : FlatLeaf) : Type 0 where
  pub path : List ℕ
  pub m : TypedModule
  pub c : Component
  pub leaf : TypeLeaf
  pub stands : Stands design path m c leaf
  pub own : target_in c.declaration.sort ≡ None
  pub is : flat m path (leaf_of c leaf) ≡ x

owner_by_sort : (design : Design) → HasBundles design → (path : List ℕ) (m : TypedModule) (c : Component) (leaf : TypeLeaf) → Stands design path m c leaf → (sort : Sort) → c.declaration.sort ≡ sort
    → Owned design (flat m path (leaf_of c leaf))
owner_by_sort design has path m c leaf stands (An_instance target) e =
    let inner = instance_inside design has path m c leaf target stands e in
    record {
      path = path ++ c.declaration.name ∷ [];
      m = inner.0;
      c = inner.1;
      leaf = inner.2;
      stands = inner.3;
      own = port_target inner.1.declaration.sort inner.4;
      is = sym (one_leaf path m inner.0 c inner.1 leaf inner.2 target stands.declared e inner.3.declared inner.4 inner.6);
    }
owner_by_sort design has path m c leaf stands An_input e = record { path = path; m = m; c = c; leaf = leaf; stands = stands; own = ap target_in e; is = refl }
owner_by_sort design has path m c leaf stands An_output e = record { path = path; m = m; c = c; leaf = leaf; stands = stands; own = ap target_in e; is = refl }
owner_by_sort design has path m c leaf stands A_wire e = record { path = path; m = m; c = c; leaf = leaf; stands = stands; own = ap target_in e; is = refl }
owner_by_sort design has path m c leaf stands (A_register clock) e = record { path = path; m = m; c = c; leaf = leaf; stands = stands; own = ap target_in e; is = refl }
owner_by_sort design has path m c leaf stands (A_reset_register clock reset init) e = record { path = path; m = m; c = c; leaf = leaf; stands = stands; own = ap target_in e; is = refl }
owner_by_sort design has path m c leaf stands (A_memory memory) e = record { path = path; m = m; c = c; leaf = leaf; stands = stands; own = ap target_in e; is = refl }
owner_by_sort design has path m c leaf stands (A_node expr) e = record { path = path; m = m; c = c; leaf = leaf; stands = stands; own = ap target_in e; is = refl }

pub owner : (design : Design) → HasBundles design → (x : FlatLeaf) → IsLeafOf design x → Owned design x
owner design has x l = subst (Owned design) l.is (owner_by_sort design has l.path l.m l.c l.leaf l.stands l.c.declaration.sort refl)

own_leaf : (path : List ℕ) (m : TypedModule) (c : Component) (leaf : TypeLeaf) → component_named m c.declaration.name ≡ Some c → target_in c.declaration.sort ≡ None
    → flat m path (leaf_of c leaf) ≡ record { path = path; component = c.declaration.name; way = leaf.path }
own_leaf path m c leaf declared none =
    ap (λ o. flat_through path c.declaration.name o leaf.path) (ap (option_and_then (λ x. target_in x.declaration.sort)) declared ∙ none) ∙ flat_none path c.declaration.name leaf.path

pub located_is : (design : Design) (path : List ℕ) (m : TypedModule) (c : Component) (leaf : TypeLeaf) → Stands design path m c leaf → located design path c.declaration.name ≡ Some (m, c)
located_is design path m c leaf stands =
    ap (option_and_then (λ x. option_map (λ y. (x, y)) (component_named x c.declaration.name))) stands.reached ∙ ap (option_map (λ y. (m, y))) stands.declared

pub once_there : (design : Design) → IsSound design → (path : List ℕ) (m : TypedModule) (c : Component) (leaf : TypeLeaf) → module_at design path ≡ Some m → component_named m c.declaration.name ≡ Some c
    → (k : ℕ) → slice_get (leaves c.typ) k ≡ Some leaf → IsOnce (leaves c.typ) k leaf
once_there design sound path m c leaf reached declared k there = λ j a e same. sound.ways path m c reached declared j k a leaf e there same

-- the last instance on a path

last_is : (i : ℕ) (front : List ℕ) (j : ℕ) → last_instance i (front ++ j ∷ []) ≡ (i ∷ front, j)
last_is i [] j = refl
last_is i (k ∷ front) j = ap (λ (rest : List ℕ × ℕ). (i ∷ rest.0, rest.1)) (last_is k front j)

outside_is : (design : Design) (given : Inputs) (rho : Valuation) (front : List ℕ) (j : ℕ) (leaf : Leaf) → from_outside design given rho (front ++ j ∷ []) leaf ≡ left_above design rho (front, j) leaf
outside_is design given rho [] j leaf = refl
outside_is design given rho (i ∷ front) j leaf = ap (λ above. left_above design rho above leaf) (last_is i front j)

-- what comes in from outside is what statements leave in the leaf of the instance
pub outside_left : (design : Design) (given : Inputs) (rho : Valuation) (front : List ℕ) (i : ℕ) (p : Component) (part : TypeLeaf) (m : TypedModule) (c : Component) (leaf : TypeLeaf)
    → Stands design front m c leaf → c.declaration.name ≡ i → leaf.path ≡ step.Field p.declaration.name ∷ part.path
    → from_outside design given rho (front ++ i ∷ []) (leaf_of p part) ≡ left_in_block rho front (leaf_of c leaf) (m, c)
outside_left design given rho front i p part m c leaf stands name way =
    outside_is design given rho front i (leaf_of p part)
    ∙ (ap (λ n. left_above design rho (front, n) (leaf_of p part)) (sym name)
    ∙ (ap (where_located (pos 0) (left_in_block rho front (record { component = c.declaration.name; way = step.Field p.declaration.name ∷ part.path }))) (located_is design front m c leaf stands)
    ∙ ap (λ w. left_in_block rho front (record { component = c.declaration.name; way = w }) (m, c)) (sym way)))

-- a sweep at a component's own leaf

module _ (design : Design) (sound : IsSound design) (s : State) (given : Inputs) (rho : Valuation) where
  here : (path : List ℕ) (m : TypedModule) (c : Component) (leaf : TypeLeaf) → Stands design path m c leaf
      → sweep design s given rho path c.declaration.name leaf.path ≡ asked design s given rho path (m, c) leaf
  here path m c leaf stands =
      let there = get_there (leaves c.typ) leaf stands.listed in
      ap (where_located (pos 0) (λ found. or_else (pos 0) (option_map (asked design s given rho path found) (leaf_at found.1 leaf.path)))) (located_is design path m c leaf stands)
      ∙ ap (λ o. or_else (pos 0) (option_map (asked design s given rho path (m, c)) o))
      (at_way (leaves c.typ) stands.listed.0 leaf there (once_there design sound path m c leaf stands.reached stands.declared stands.listed.0 there))

  pub at_own : (path : List ℕ) (m : TypedModule) (c : Component) (leaf : TypeLeaf) → Stands design path m c leaf → target_in c.declaration.sort ≡ None
      → at (sweep design s given rho) (flat m path (leaf_of c leaf)) ≡ asked design s given rho path (m, c) leaf
  at_own path m c leaf stands none = ap (at (sweep design s given rho)) (own_leaf path m c leaf stands.declared none) ∙ here path m c leaf stands

  pub asked_clock : (path : List ℕ) (m : TypedModule) (c : Component) (leaf : TypeLeaf) → is_clock leaf ≡ true → asked design s given rho path (m, c) leaf ≡ pos 0
  asked_clock path m c leaf clock = ap (λ b. if b then pos 0 else of_sort design s given rho c.declaration.sort path (m, c) leaf) clock

  pub asked_sort : (path : List ℕ) (m : TypedModule) (c : Component) (leaf : TypeLeaf) (sort : Sort) → is_clock leaf ≡ false → c.declaration.sort ≡ sort
      → asked design s given rho path (m, c) leaf ≡ of_sort design s given rho sort path (m, c) leaf
  asked_sort path m c leaf sort clock e =
      ap (λ b. if b then pos 0 else of_sort design s given rho c.declaration.sort path (m, c) leaf) clock ∙ ap (λ x. of_sort design s given rho x path (m, c) leaf) e

  pub asked_port : (path : List ℕ) (m : TypedModule) (c : Component) (leaf : TypeLeaf) (sort : Sort) → is_port sort ≡ true
      → of_sort design s given rho sort path (m, c) leaf ≡ of_port design s given rho path (m, c) leaf
  asked_port path m c leaf An_input e = refl
  asked_port path m c leaf An_output e = refl
  asked_port path m c leaf A_wire e = absurd (true≢false (sym e))
  asked_port path m c leaf (A_register clock) e = absurd (true≢false (sym e))
  asked_port path m c leaf (A_reset_register clock reset init) e = absurd (true≢false (sym e))
  asked_port path m c leaf (A_memory memory) e = absurd (true≢false (sym e))
  asked_port path m c leaf (An_instance target) e = absurd (true≢false (sym e))
  asked_port path m c leaf (A_node expr) e = absurd (true≢false (sym e))

  pub from_source : (path : List ℕ) (m : TypedModule) (c : Component) (leaf : TypeLeaf) → is_source (flow_of c.declaration.sort leaf.flip) ≡ true
      → of_port design s given rho path (m, c) leaf ≡ from_outside design given rho path (leaf_of c leaf)
  from_source path m c leaf source = ap (λ b. if b then from_outside design given rho path (leaf_of c leaf) else left_in_block rho path (leaf_of c leaf) (m, c)) source

  pub from_block : (path : List ℕ) (m : TypedModule) (c : Component) (leaf : TypeLeaf) → is_source (flow_of c.declaration.sort leaf.flip) ≡ false
      → of_port design s given rho path (m, c) leaf ≡ left_in_block rho path (leaf_of c leaf) (m, c)
  from_block path m c leaf source = ap (λ b. if b then from_outside design given rho path (leaf_of c leaf) else left_in_block rho path (leaf_of c leaf) (m, c)) source
