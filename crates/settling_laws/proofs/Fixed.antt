-- A valuation that a sweep leaves alone is settled.
use Rattle.std.proofs.Common.{◌≡◌, ◌≢◌, ℕ, zero, suc, Bool, true, false, not, List, [], ◌∷◌, ◌++◌, map, length, slice_get, Option, Some, None, option_map, is_some, ℤ, pos, refl, sym, ap, ◌∙◌, true≢false, if◌then◌else◌}
use Rattle.std.proofs.lemmas.List.{length-map}
use Rattle.bit_words.specs.Values.{integer_of}
use Rattle.fir_types.specs.declared.leaf.TypeLeaf.{TypeLeaf}
use Rattle.fir_types.specs.declared.leaf.PathStep.{PathStep}
use Rattle.fir_types.specs.declared.leaf.PathStep.TheVariants as step
use Rattle.fir_types.specs.declared.memory.Memory.{Memory}
use Rattle.fir_types.specs.Leaves.{leaves}
use Rattle.fir_types.specs.Memories.{read_latency_of}
use Rattle.fir_tree.specs.declared.expr.Expr.{Expr}
use Rattle.prim_ops.specs.Shapes.{shape_of_value}
use Rattle.fir_meaning.specs.Components.{Design, TypedModule, Component, FlatLeaf, Sort, An_input, An_output, A_wire, A_register, A_reset_register, A_memory, An_instance, A_node, flow_of, is_clock, flat, component_named, module_at, target_in}
use Rattle.fir_meaning.specs.Values.{Valuation, scene_of, value}
use Rattle.fir_meaning.specs.MemoryPorts.{read_by}
use Rattle.fir_meaning.specs.Drives.{drives}
use Rattle.fir_meaning.specs.States.{State, Inputs, Stands, Settled, seen, leaf_of, is_port, is_source, is_register, is_driven, or_else, IsLeafOf}
use Rattle.fir_meaning.specs.WellTyped.{leaf_shape}
use Rattle.fir_meaning.proofs.Tracking.{none_some}
use Rattle.fir_meaning.proofs.Settling.{at, seen_at, get-map, port_target, instance_flip, one_leaf}
use Rattle.fir_meaning.proofs.Ports.{target_sort, instance_inside}
use Rattle.settling_laws.specs.Sweeps.{left_in_block, by_latency, of_read, of_sort, asked, sweep}
use Rattle.settling_laws.proofs.Places.{beside_at, integer_or_zero, in_list, map_each, clock_width, nothing}
use Rattle.settling_laws.proofs.Sound.{IsSound, driven_parts, register_target, once_there, outside_left, at_own, asked_clock, asked_sort, asked_port, from_source, from_block}

-- what is left where something is
some_left : (o : Option ℤ) → is_some o ≡ true → o ≡ Some (or_else (pos 0) o)
some_left (Some n) e = refl
some_left None e = absurd (true≢false (sym e))

back : (b : Bool) → not b ≡ false → b ≡ true
back true e = refl
back false e = absurd (true≢false e)

module _ (design : Design) (sound : IsSound design) (s : State) (given : Inputs) (rho : Valuation)
    (fixed : (x : FlatLeaf) → IsLeafOf design x → at rho x ≡ at (sweep design s given rho) x) where
  seen_swept : (path : List ℕ) (m : TypedModule) (c : Component) (leaf : TypeLeaf) → Stands design path m c leaf
      → seen m path rho c leaf ≡ at (sweep design s given rho) (flat m path (leaf_of c leaf))
  seen_swept path m c leaf stands =
      seen_at m path rho c leaf ∙ fixed (flat m path (leaf_of c leaf)) (record { path = path; m = m; c = c; leaf = leaf; stands = stands; is = refl })

  seen_own : (path : List ℕ) (m : TypedModule) (c : Component) (leaf : TypeLeaf) → Stands design path m c leaf → target_in c.declaration.sort ≡ None
      → seen m path rho c leaf ≡ asked design s given rho path (m, c) leaf
  seen_own path m c leaf stands own = seen_swept path m c leaf stands ∙ at_own design sound s given rho path m c leaf stands own

  seen_sort : (path : List ℕ) (m : TypedModule) (c : Component) (leaf : TypeLeaf) (sort : Sort) → Stands design path m c leaf → is_clock leaf ≡ false → c.declaration.sort ≡ sort
      → target_in sort ≡ None → seen m path rho c leaf ≡ of_sort design s given rho sort path (m, c) leaf
  seen_sort path m c leaf sort stands clock e own =
      seen_own path m c leaf stands (ap target_in e ∙ own) ∙ asked_sort design sound s given rho path m c leaf sort clock e

  -- a leaf of an instance is that of the port inside

  record Inner (path : List ℕ) (m : TypedModule) (c : Component) (leaf : TypeLeaf) : Type 0 where
    n : TypedModule
    p : Component
    part : TypeLeaf
    port : is_port p.declaration.sort ≡ true
    source : is_source (flow_of p.declaration.sort part.flip) ≡ leaf.flip
    way : leaf.path ≡ step.Field p.declaration.name ∷ part.path
    clock : is_clock leaf ≡ is_clock part
    is : seen m path rho c leaf ≡ asked design s given rho (path ++ c.declaration.name ∷ []) (n, p) part

  inner : (path : List ℕ) (m : TypedModule) (c : Component) (leaf : TypeLeaf) (target : ℕ) → Stands design path m c leaf → c.declaration.sort ≡ An_instance target → Inner path m c leaf
  inner path m c leaf target stands e =
      let i = instance_inside design sound.has path m c leaf target stands e in
      record {
        n = i.0;
        p = i.1;
        part = i.2;
        port = i.4;
        source = i.5;
        way = i.6;
        clock = i.7;
        is = seen_swept path m c leaf stands
            ∙ (ap (at (sweep design s given rho)) (one_leaf path m i.0 c i.1 leaf i.2 target stands.declared e i.3.declared i.4 i.6)
            ∙ at_own design sound s given rho (path ++ c.declaration.name ∷ []) i.0 i.1 i.2 i.3 (port_target i.1.declaration.sort i.4));
      }

  clock_seen : (path : List ℕ) (m : TypedModule) (c : Component) (leaf : TypeLeaf) → Stands design path m c leaf → is_clock leaf ≡ true → seen m path rho c leaf ≡ pos 0
  clock_seen path m c leaf stands clock = by_target (target_in c.declaration.sort) refl where
    by_target : (o : Option ℕ) → target_in c.declaration.sort ≡ o → seen m path rho c leaf ≡ pos 0
    by_target None own = seen_own path m c leaf stands own ∙ asked_clock design sound s given rho path m c leaf clock
    by_target (Some target) e =
        let i = inner path m c leaf target stands (target_sort c.declaration.sort target e) in
        i.is ∙ asked_clock design sound s given rho (path ++ c.declaration.name ∷ []) i.n i.p i.part (sym i.clock ∙ clock)

  input_seen : (m : TypedModule) (c : Component) (leaf : TypeLeaf) → Stands design [] m c leaf → is_port c.declaration.sort ≡ true
      → is_source (flow_of c.declaration.sort leaf.flip) ≡ true → is_clock leaf ≡ false → seen m [] rho c leaf ≡ given c.declaration.name leaf.path
  input_seen m c leaf stands port source clock =
      seen_sort [] m c leaf c.declaration.sort stands clock refl (port_target c.declaration.sort port)
      ∙ (asked_port design sound s given rho [] m c leaf c.declaration.sort port ∙ from_source design sound s given rho [] m c leaf source)

  held : (path : List ℕ) (c : Component) (leaf : TypeLeaf) (m : TypedModule) (sort : Sort) → is_register sort ≡ true
      → of_sort design s given rho sort path (m, c) leaf ≡ s.registers path c.declaration.name leaf.path
  held path c leaf m (A_register clock) e = refl
  held path c leaf m (A_reset_register clock reset init) e = refl
  held path c leaf m An_input e = absurd (true≢false (sym e))
  held path c leaf m An_output e = absurd (true≢false (sym e))
  held path c leaf m A_wire e = absurd (true≢false (sym e))
  held path c leaf m (A_memory memory) e = absurd (true≢false (sym e))
  held path c leaf m (An_instance target) e = absurd (true≢false (sym e))
  held path c leaf m (A_node expr) e = absurd (true≢false (sym e))

  register_seen : (path : List ℕ) (m : TypedModule) (c : Component) (leaf : TypeLeaf) → Stands design path m c leaf → is_register c.declaration.sort ≡ true
      → seen m path rho c leaf ≡ s.registers path c.declaration.name leaf.path
  register_seen path m c leaf stands register =
      seen_sort path m c leaf c.declaration.sort stands (sound.registers path m c leaf stands register) refl (register_target c.declaration.sort register)
      ∙ held path c leaf m c.declaration.sort register

  nodes_seen : (path : List ℕ) (m : TypedModule) (c : Component) (e : Expr) → module_at design path ≡ Some m → component_named m c.declaration.name ≡ Some c
      → c.declaration.sort ≡ A_node e → map (seen m path rho c) (leaves c.typ) ≡ map integer_of (value e (scene_of m path rho))
  nodes_seen path m c e reached declared sort = map_each (seen m path rho c) (leaves c.typ) (value e (scene_of m path rho)) counted each where
    shapes : map shape_of_value (value e (scene_of m path rho)) ≡ map leaf_shape (leaves c.typ)
    shapes = sound.nodes path m c e rho reached declared sort

    counted : length (leaves c.typ) ≡ length (value e (scene_of m path rho))
    counted = sym (length-map (leaves c.typ) leaf_shape) ∙ (sym (ap length shapes) ∙ length-map (value e (scene_of m path rho)) shape_of_value)

    each : (k : ℕ) (leaf : TypeLeaf) → slice_get (leaves c.typ) k ≡ Some leaf → seen m path rho c leaf ≡ integer_or_zero (slice_get (value e (scene_of m path rho)) k)
    each k leaf there = by_clock (is_clock leaf) refl where
      stands : Stands design path m c leaf
      stands = record { reached = reached; declared = declared; listed = in_list (leaves c.typ) k leaf there }

      by_clock : (b : Bool) → is_clock leaf ≡ b → seen m path rho c leaf ≡ integer_or_zero (slice_get (value e (scene_of m path rho)) k)
      by_clock true clock =
          let shape : option_map shape_of_value (slice_get (value e (scene_of m path rho)) k) ≡ Some (leaf_shape leaf) =
          sym (get-map shape_of_value (value e (scene_of m path rho)) k) ∙ (ap (λ l. slice_get l k) shapes ∙ (get-map leaf_shape (leaves c.typ) k ∙ ap (option_map leaf_shape) there)) in
          clock_seen path m c leaf stands clock ∙ sym (nothing (slice_get (value e (scene_of m path rho)) k) (leaf_shape leaf) shape (clock_width leaf clock))
      by_clock false clock =
          seen_sort path m c leaf (A_node e) stands clock sort refl
          ∙ beside_at (leaves c.typ) (value e (scene_of m path rho)) k leaf there (once_there design sound path m c leaf reached declared k there)

  read_seen : (path : List ℕ) (m : TypedModule) (c : Component) (leaf : TypeLeaf) (memory : Memory) (port field : ℕ) (way : List PathStep) → Stands design path m c leaf
      → c.declaration.sort ≡ A_memory memory → leaf.flip ≡ false → leaf.path ≡ step.Field port ∷ step.Field field ∷ way
      → seen m path rho c leaf ≡ by_latency (read_latency_of memory) (read_by memory ((scene_of m path rho).integers c.declaration.name) (s.contents path c.declaration.name) port way) (s.captured path c.declaration.name port way)
  read_seen path m c leaf memory port field way stands sort turned is =
      seen_sort path m c leaf (A_memory memory) stands (sound.read_data path m c leaf memory stands sort turned) sort refl
      ∙ (ap (λ b. if b then left_in_block rho path (leaf_of c leaf) (m, c) else of_read design s given rho memory path (m, c) leaf.path) turned
      ∙ ap (of_read design s given rho memory path (m, c)) is)

  later : (n : ℕ) (now before : ℤ) → n ≢ 0 → by_latency n now before ≡ before
  later zero now before differ = absurd (differ refl)
  later (suc n) now before differ = refl

  -- what statements decide

  block_asked : (path : List ℕ) (m : TypedModule) (c : Component) (leaf : TypeLeaf) (sort : Sort) → c.declaration.sort ≡ sort → is_source (flow_of c.declaration.sort leaf.flip) ≡ false
      → is_register c.declaration.sort ≡ false → target_in c.declaration.sort ≡ None → of_sort design s given rho sort path (m, c) leaf ≡ left_in_block rho path (leaf_of c leaf) (m, c)
  block_asked path m c leaf An_input e source register own = from_block design sound s given rho path m c leaf source
  block_asked path m c leaf An_output e source register own = from_block design sound s given rho path m c leaf source
  block_asked path m c leaf A_wire e source register own = refl
  block_asked path m c leaf (A_register clock) e source register own = absurd (true≢false (sym (ap is_register e) ∙ register))
  block_asked path m c leaf (A_reset_register clock reset init) e source register own = absurd (true≢false (sym (ap is_register e) ∙ register))
  block_asked path m c leaf (A_memory memory) e source register own = by_flip leaf.flip refl where
    by_flip : (b : Bool) → leaf.flip ≡ b → of_sort design s given rho (A_memory memory) path (m, c) leaf ≡ left_in_block rho path (leaf_of c leaf) (m, c)
    by_flip true turned = ap (λ b. if b then left_in_block rho path (leaf_of c leaf) (m, c) else of_read design s given rho memory path (m, c) leaf.path) turned
    by_flip false turned =
        absurd (true≢false (sym (ap (λ x. is_source (flow_of x leaf.flip)) e ∙ ap (λ b. is_source (flow_of (A_memory memory) b)) turned) ∙ source))
  block_asked path m c leaf (An_instance target) e source register own = absurd (none_some (sym own ∙ ap target_in e))
  block_asked path m c leaf (A_node expr) e source register own = absurd (true≢false (sym (ap (λ x. is_source (flow_of x leaf.flip)) e) ∙ source))

  block_seen : (path : List ℕ) (m : TypedModule) (c : Component) (leaf : TypeLeaf) → Stands design path m c leaf → is_driven c leaf ≡ true
      → seen m path rho c leaf ≡ left_in_block rho path (leaf_of c leaf) (m, c)
  block_seen path m c leaf stands d = by_target (target_in c.declaration.sort) refl where
    parts : (is_source (flow_of c.declaration.sort leaf.flip) ≡ false) × (is_register c.declaration.sort ≡ false) × (is_clock leaf ≡ false)
    parts = driven_parts (is_source (flow_of c.declaration.sort leaf.flip)) (is_register c.declaration.sort) (is_clock leaf) d

    by_target : (o : Option ℕ) → target_in c.declaration.sort ≡ o → seen m path rho c leaf ≡ left_in_block rho path (leaf_of c leaf) (m, c)
    by_target None own =
        seen_sort path m c leaf c.declaration.sort stands parts.2 refl own ∙ block_asked path m c leaf c.declaration.sort refl parts.0 parts.1 own
    by_target (Some target) e =
        let sort : c.declaration.sort ≡ An_instance target = target_sort c.declaration.sort target e in
        let i = inner path m c leaf target stands sort in
        let turned : leaf.flip ≡ true = back leaf.flip (sym (instance_flip leaf.flip target) ∙ (sym (ap (λ x. is_source (flow_of x leaf.flip)) sort) ∙ parts.0)) in
        i.is
        ∙ (asked_sort design sound s given rho (path ++ c.declaration.name ∷ []) i.n i.p i.part i.p.declaration.sort (sym i.clock ∙ parts.2) refl
        ∙ (asked_port design sound s given rho (path ++ c.declaration.name ∷ []) i.n i.p i.part i.p.declaration.sort i.port
        ∙ (from_source design sound s given rho (path ++ c.declaration.name ∷ []) i.n i.p i.part (i.source ∙ turned)
        ∙ outside_left design given rho path c.declaration.name i.p i.part m c leaf stands refl i.way)))

  -- All that is asked of a settled valuation.
  pub fixed_settles : Settled design s given rho
  fixed_settles = record {
    clocks = clock_seen;
    inputs = input_seen;
    registers = register_seen;
    nodes = nodes_seen;
    reads = λ path m c leaf memory port field way stands sort latency turned is.
        read_seen path m c leaf memory port field way stands sort turned is
        ∙ ap (λ n. by_latency n (read_by memory ((scene_of m path rho).integers c.declaration.name) (s.contents path c.declaration.name) port way) (s.captured path c.declaration.name port way)) latency;
    captured = λ path m c leaf memory port field way stands sort latency turned is.
        read_seen path m c leaf memory port field way stands sort turned is
        ∙ later (read_latency_of memory) (read_by memory ((scene_of m path rho).integers c.declaration.name) (s.contents path c.declaration.name) port way) (s.captured path c.declaration.name port way) latency;
    driven = λ path m c leaf stands d.
        some_left (drives (scene_of m path rho) (leaf_of c leaf) c.declaration.block) (sound.driven path m c leaf stands d rho)
        ∙ ap Some (sym (block_seen path m c leaf stands d));
  }
