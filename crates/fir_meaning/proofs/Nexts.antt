-- The next state, and the rows of a run, are determined: by what the leaves have in the cycle.
use Rattle.std.proofs.Common.{◌≡◌, ◌≢◌, ◌<◌, ℕ, zero, suc, ◌==◌, Bool, true, false, not, ◌&&◌, cond, List, [], ◌∷◌, map, fold, filter, Option, Some, None, option_map, option_and_then, ℤ, pos, nat_lt, unsigned_abs, refl, sym, ap, ap₂, ◌∙◌, subst, arith, if◌then◌else◌, int_eq}
use Rattle.std.specs.Prelude.{Contains}
use Rattle.fir_types.specs.declared.fir_type.FirType.{FirType}
use Rattle.fir_types.specs.declared.leaf.TypeLeaf.{TypeLeaf}
use Rattle.fir_types.specs.declared.leaf.PathStep.{PathStep}
use Rattle.fir_types.specs.declared.leaf.PathStep.TheVariants as step
use Rattle.fir_types.specs.declared.memory.Memory.{Memory}
use Rattle.fir_types.specs.declared.memory.Under.{Under}
use Rattle.fir_types.specs.declared.memory.Under.TheVariants as under
use Rattle.fir_types.specs.declared.memory.PortMode.{PortMode}
use Rattle.fir_types.specs.declared.memory.PortMode.TheVariants as mode
use Rattle.fir_types.specs.Leaves.{leaves}
use Rattle.fir_types.specs.Memories.{read_latency_of, depth_of, under_of}
use Rattle.fir_types.specs.Bundles.{en_name, wmode_name, wdata_name, wmask_name}
use Rattle.fir_tree.specs.declared.expr.Expr.{Expr}
use Rattle.fir_meaning.specs.Components.{Design, TypedModule, Component, Leaf, FlatLeaf, Sort, An_input, An_output, A_wire, A_register, A_reset_register, A_memory, An_instance, A_node, flow_of, is_clock, flat, flat_through, type_in, module_at, module_named, component_named, target_of, target_in, HasBundles}
use Rattle.fir_meaning.specs.Values.{Valuation, scene_of, scene_with, value, whole, is_one}
use Rattle.fir_meaning.specs.Drives.{drives, left_in, set_at}
use Rattle.fir_meaning.specs.MemoryPorts.{MemoryPort, Contents, Leaves, memory_ports, port_named, field, after_port, after_writes, asks_to_write, is_within, address, mask_field, written_field}
use Rattle.fir_meaning.specs.States.{State, SameState, Inputs, Stands, Trace, WatchedTrace, ended, cycle, next, next_of_register, next_of_memory, next_of_port, located, where_located, or_else, taken, row_of, main_leaf, watched_leaves, watched, watched_of, watched_of_component, leaf_of, is_port, is_source, is_register, IsLeafOf}
use Rattle.fir_meaning.specs.Elements.{IsElement}
use Rattle.fir_meaning.specs.Mentions.{joined, mentions, whole_region}
use Rattle.fir_meaning.specs.Loops.{live, driven_from, write_goes_by, IsRead, by_live_connect, by_reset, by_init, by_read, TakesLeaves, HasNoLoop, HasLeaves}
use Rattle.fir_meaning.proofs.Tracking.{tracked, all_same, whole_paired}
use Rattle.fir_meaning.proofs.Sides.{named, side_two}
use Rattle.fir_meaning.proofs.Blocks.{drives_same}
use Rattle.fir_meaning.proofs.Ports.{and_some, one_later, from_map, from_flat_map, found, same_number}
use Rattle.fir_meaning.proofs.MemoryLeaves.{write_leaf}
use Rattle.fir_meaning.proofs.MemoryWays.{element_way, shown_element, shown_same}
use Rattle.fir_meaning.proofs.Settling.{at, local, local_at, agree_at, read_same, read_contents, settled_same, port_target, flat_none}

-- Writes

five : (F : ℤ → ℤ → ℤ → ℤ → ℤ → ℤ) {a b c d e a' b' c' d' e' : ℤ} → a ≡ a' → b ≡ b' → c ≡ c' → d ≡ d' → e ≡ e' → F a b c d e ≡ F a' b' c' d' e'
five F {a} {b} {c} {d} {e} {a'} {b'} {c'} {d'} p q r s t =
    ap (λ x. F x b c d e) p ∙ (ap (λ x. F a' x c d e) q ∙ (ap (λ x. F a' b' x d e) r ∙ (ap (λ x. F a' b' c' x e) s ∙ ap (F a' b' c' d') t)))

written_same : (memory : Memory) (l r : Leaves) (before after : Contents) (port : MemoryPort) (element : ℕ) (way : List PathStep) (md : PortMode)
    → ((by : List PathStep) → Contains (write_goes_by md way) by → l (step.Field port.name ∷ by) ≡ r (step.Field port.name ∷ by)) → before element way ≡ after element way
    → (if (asks_to_write l port md && is_within memory l port) && ((address l port == element) && int_eq (field l port (mask_field md) way) (pos 1)) then field l port (written_field md) way else before element way)
    ≡ (if (asks_to_write r port md && is_within memory r port) && ((address r port == element) && int_eq (field r port (mask_field md) way) (pos 1)) then field r port (written_field md) way else after element way)
written_same memory l r before after port element way mode.Reader h old = old
written_same memory l r before after port element way mode.Writer h old =
    let F : ℤ → ℤ → ℤ → ℤ → ℤ → ℤ = λ e a d m o. if (int_eq e (pos 1) && nat_lt (unsigned_abs a) (depth_of memory)) && ((unsigned_abs a == element) && int_eq m (pos 1)) then d else o in
    five F (h _ (0, omega arith, refl)) (h _ (1, omega arith, refl)) (h _ (2, omega arith, refl)) (h _ (3, omega arith, refl)) old
written_same memory l r before after port element way mode.ReadWriter h old =
    let F : ℤ → ℤ → ℤ → ℤ → ℤ → ℤ = λ e a d m o. if ((int_eq e (pos 1) && int_eq (l (step.Field port.name ∷ step.Field wmode_name ∷ [])) (pos 1)) && nat_lt (unsigned_abs a) (depth_of memory)) && ((unsigned_abs a == element) && int_eq m (pos 1)) then d else o in
    five F (h _ (0, omega arith, refl)) (h _ (1, omega arith, refl)) (h _ (2, omega arith, refl)) (h _ (3, omega arith, refl)) old
    ∙ ap (λ w. if ((int_eq (field r port en_name []) (pos 1) && int_eq w (pos 1)) && is_within memory r port) && ((address r port == element) && int_eq (field r port wmask_name way) (pos 1)) then field r port wdata_name way else after element way) (h _ (4, omega arith, refl))

writes_same : (memory : Memory) (l r : Leaves) (element : ℕ) (way : List PathStep) (ports : List MemoryPort) (before after : Contents)
    → ((writer : MemoryPort) → Contains ports writer → (by : List PathStep) → Contains (write_goes_by writer.mode way) by → l (step.Field writer.name ∷ by) ≡ r (step.Field writer.name ∷ by))
    → before element way ≡ after element way → fold (after_port memory l) before ports element way ≡ fold (after_port memory r) after ports element way
writes_same memory l r element way [] before after h old = old
writes_same memory l r element way (port ∷ ports) before after h old =
    writes_same memory l r element way ports (after_port memory l before port) (after_port memory r after port) (λ writer c. h writer (one_later port ports writer c))
    (written_same memory l r before after port element way port.mode (h port (0, omega arith, refl)) old)

-- The next state

located_there : (design : Design) (path : List ℕ) (m : TypedModule) (c : Component) → module_at design path ≡ Some m → component_named m c.declaration.name ≡ Some c
    → located design path c.declaration.name ≡ Some (m, c)
located_there design path m c reached declared =
    ap (option_and_then (λ x. option_map (λ y. (x, y)) (component_named x c.declaration.name))) reached ∙ ap (option_map (λ y. (m, y))) declared

located_is : (design : Design) (path : List ℕ) (m : TypedModule) (c : Component) (leaf : TypeLeaf) → Stands design path m c leaf → located design path c.declaration.name ≡ Some (m, c)
located_is design path m c leaf stands = located_there design path m c stands.reached stands.declared

module _ (design : Design) (has : HasBundles design) (takes : TakesLeaves design) (s t : State) (rho other : Valuation) (kept : SameState design s t)
    (every : (x : FlatLeaf) → IsLeafOf design x → at rho x ≡ at other x) where
  register_next : (path : List ℕ) (m : TypedModule) (c : Component) (leaf : TypeLeaf) → Stands design path m c leaf → is_register c.declaration.sort ≡ true → (sort : Sort) → c.declaration.sort ≡ sort
      → (held kept_too : ℤ) → held ≡ kept_too → next_of_register (scene_of m path rho) c sort leaf.path held ≡ next_of_register (scene_of m path other) c sort leaf.path kept_too
  register_next path m c leaf stands register sort e held too same = by_sort sort e where
    driven : drives (scene_of m path rho) (leaf_of c leaf) c.declaration.block ≡ drives (scene_of m path other) (leaf_of c leaf) c.declaration.block
    driven =
        drives_same (type_in m) (leaf_of c leaf) c.declaration.block (local m path rho) (local m path other)
        (agree_at m path rho other (joined (live (type_in m) (leaf_of c leaf) c.declaration.block))
        (λ y r. every (flat m path y) (takes.closed (flat m path (leaf_of c leaf)) (flat m path y) (by_live_connect path m c leaf y stands register r))))

    with_reset : (clock reset init : Expr) → c.declaration.sort ≡ A_reset_register clock reset init
        → next_of_register (scene_of m path rho) c (A_reset_register clock reset init) leaf.path held ≡ next_of_register (scene_of m path other) c (A_reset_register clock reset init) leaf.path too
    with_reset clock reset init q =
        let f = local m path rho in
        let g = local m path other in
        let resets : value reset (scene_with (type_in m) f) ≡ value reset (scene_with (type_in m) g) =
        all_same (tracked reset (type_in m) f g) (agree_at m path rho other (joined (mentions reset (type_in m)))
        (λ y r. every (flat m path y) (takes.closed (flat m path (leaf_of c leaf)) (flat m path y) (by_reset path m c leaf clock reset init y stands q r)))) in
        let sources = joined (driven_from false (leaf_of c leaf) (mentions init (type_in m)) (Some (whole_region (type_in m) c.declaration.name))) in
        let initial : left_in (leaf_of c leaf) None (set_at false (Some (whole (scene_with (type_in m) f) c.declaration.name)) (value init (scene_with (type_in m) f)))
        ≡ left_in (leaf_of c leaf) None (set_at false (Some (whole (scene_with (type_in m) g) c.declaration.name)) (value init (scene_with (type_in m) g))) =
        (side_two (named (whole_paired (type_in m) f g c.declaration.name)) (named (whole_paired (type_in m) f f c.declaration.name)) (named (whole_paired (type_in m) g g c.declaration.name))
        false (leaf_of c leaf) (tracked init (type_in m) f g)).same
        (agree_at m path rho other sources (λ y r. every (flat m path y) (takes.closed (flat m path (leaf_of c leaf)) (flat m path y) (by_init path m c leaf clock reset init y stands q r)))) None in
        ap₂ or_else same
        (ap (λ vs. if is_one vs then left_in (leaf_of c leaf) None (set_at false (Some (whole (scene_with (type_in m) f) c.declaration.name)) (value init (scene_with (type_in m) f))) else drives (scene_with (type_in m) f) (leaf_of c leaf) c.declaration.block) resets
        ∙ ap₂ (λ x y. if is_one (value reset (scene_with (type_in m) g)) then x else y) initial driven)

    by_sort : (sort : Sort) → c.declaration.sort ≡ sort → next_of_register (scene_of m path rho) c sort leaf.path held ≡ next_of_register (scene_of m path other) c sort leaf.path too
    by_sort (A_register clock) q = ap₂ or_else same driven
    by_sort (A_reset_register clock reset init) q = with_reset clock reset init q
    by_sort An_input q = same
    by_sort An_output q = same
    by_sort A_wire q = same
    by_sort (A_memory memory) q = same
    by_sort (An_instance target) q = same
    by_sort (A_node expr) q = same

  -- what a port writes into a leaf of an element goes by leaves of its memory
  contents_next : (path : List ℕ) (m : TypedModule) (c : Component) (memory : Memory) (typ : FirType) (leaf : TypeLeaf) (element : ℕ) → module_at design path ≡ Some m
      → component_named m c.declaration.name ≡ Some c → c.declaration.sort ≡ A_memory memory → IsElement c memory typ → Contains (leaves typ) leaf → element < depth_of memory
      → after_writes memory (local m path rho c.declaration.name) (s.contents path c.declaration.name) element leaf.path
      ≡ after_writes memory (local m path other c.declaration.name) (t.contents path c.declaration.name) element leaf.path
  contents_next path m c memory typ leaf element reached declared sort of inside below =
      writes_same memory (local m path rho c.declaration.name) (local m path other c.declaration.name) element leaf.path (memory_ports memory) (s.contents path c.declaration.name) (t.contents path c.declaration.name)
      (λ writer among by goes.
      let y : Leaf = record { component = c.declaration.name; way = step.Field writer.name ∷ by } in
      let l = write_leaf memory typ writer leaf inside by among goes in
      let stands : Stands design path m c l.0 = record { reached = reached; declared = declared; listed = subst (λ ls. Contains ls l.0) (sym of.bundle) l.1 } in
      let there : IsLeafOf design (flat m path y) =
      record { path = path; m = m; c = c; leaf = l.0; stands = stands; is = ap (λ w. flat m path (record { component = c.declaration.name; way = w })) l.2 } in
      local_at m path rho y ∙ (every (flat m path y) there ∙ sym (local_at m path other y)))
      (kept.contents path m c memory typ leaf element reached declared sort of inside below)

  -- so it is with what read data show of an element
  shown_next : (path : List ℕ) (m : TypedModule) (c : Component) (leaf : TypeLeaf) (memory : Memory) (port inner : ℕ) (way : List PathStep) (element : ℕ) → Stands design path m c leaf
      → c.declaration.sort ≡ A_memory memory → leaf.flip ≡ false → leaf.path ≡ step.Field port ∷ step.Field inner ∷ way → element < depth_of memory
      → after_writes memory (local m path rho c.declaration.name) (s.contents path c.declaration.name) element way
      ≡ after_writes memory (local m path other c.declaration.name) (t.contents path c.declaration.name) element way
  shown_next path m c leaf memory port inner way element stands sort turned is below =
      let name : ℕ = c.declaration.name in
      let bundle = has.memories path m c memory stands.reached stands.declared sort in
      let part = element_way memory bundle.0 leaf port inner way (subst (λ ls. Contains ls leaf) bundle.1 stands.listed) turned is in
      subst (λ w. after_writes memory (local m path rho name) (s.contents path name) element w ≡ after_writes memory (local m path other name) (t.contents path name) element w) part.2
      (contents_next path m c memory bundle.0 part.0 element stands.reached stands.declared sort (shown_element c memory bundle.0 bundle.1 leaf stands.listed) part.1 below)

  taken_next : (path : List ℕ) (m : TypedModule) (c : Component) (leaf : TypeLeaf) (memory : Memory) (port inner : ℕ) (way : List PathStep) (u : Under) (element : ℕ) → Stands design path m c leaf
      → c.declaration.sort ≡ A_memory memory → leaf.flip ≡ false → leaf.path ≡ step.Field port ∷ step.Field inner ∷ way → element < depth_of memory
      → taken u (s.contents path c.declaration.name) (after_writes memory (local m path rho c.declaration.name) (s.contents path c.declaration.name)) element way
      ≡ taken u (t.contents path c.declaration.name) (after_writes memory (local m path other c.declaration.name) (t.contents path c.declaration.name)) element way
  taken_next path m c leaf memory port inner way under.New element stands sort turned is below = shown_next path m c leaf memory port inner way element stands sort turned is below
  taken_next path m c leaf memory port inner way under.Old element stands sort turned is below = shown_same design has s t kept path m c leaf memory port inner way element stands sort turned is below
  taken_next path m c leaf memory port inner way under.Undefined element stands sort turned is below = shown_same design has s t kept path m c leaf memory port inner way element stands sort turned is below

  captured_next : (path : List ℕ) (m : TypedModule) (c : Component) (leaf : TypeLeaf) (memory : Memory) (port inner : ℕ) (way : List PathStep) → Stands design path m c leaf
      → c.declaration.sort ≡ A_memory memory → read_latency_of memory ≢ 0 → leaf.flip ≡ false → leaf.path ≡ step.Field port ∷ step.Field inner ∷ way
      → next_of_port (scene_of m path rho) c (A_memory memory) (s.contents path c.declaration.name) port way ≡ next_of_port (scene_of m path other) c (A_memory memory) (t.contents path c.declaration.name) port way
  captured_next path m c leaf memory port inner way stands sort later turned is =
      let l : Leaves = local m path rho c.declaration.name in
      let r : Leaves = local m path other c.declaration.name in
      let before : Contents = taken (under_of memory) (s.contents path c.declaration.name) (after_writes memory l (s.contents path c.declaration.name)) in
      let after : Contents = taken (under_of memory) (t.contents path c.declaration.name) (after_writes memory r (t.contents path c.declaration.name)) in
      let read : IsRead c leaf memory port way = record { sort = sort; source = turned; field = inner; is = is } in
      read_same memory l r before port way (port_named memory port) refl
      (λ q is_named by goes.
      let name : q.name ≡ port = same_number q.name port (found (λ x. x.name == port) (memory_ports memory) q is_named).0 in
      let y : Leaf = record { component = c.declaration.name; way = step.Field port ∷ step.Field by ∷ [] } in
      let here : l (step.Field port ∷ step.Field by ∷ []) ≡ r (step.Field port ∷ step.Field by ∷ []) =
      local_at m path rho y ∙ (every (flat m path y) (takes.closed (flat m path (leaf_of c leaf)) (flat m path y) (by_read path m c leaf memory port way q by stands read later is_named goes)) ∙ sym (local_at m path other y)) in
      subst (λ z. l (step.Field z ∷ step.Field by ∷ []) ≡ r (step.Field z ∷ step.Field by ∷ [])) (sym name) here)
      ∙ read_contents memory r before after way (λ element below. taken_next path m c leaf memory port inner way (under_of memory) element stands sort turned is below) (port_named memory port)

  pub next_same : SameState design (next design s rho) (next design t other)
  next_same = record {
    registers = λ path m c leaf stands register.
        let place = located_is design path m c leaf stands in
        let name : ℕ = c.declaration.name in
        ap (where_located (s.registers path name leaf.path) (λ found. next_of_register (scene_of found.0 path rho) found.1 found.1.declaration.sort leaf.path (s.registers path name leaf.path))) place
        ∙ (register_next path m c leaf stands register c.declaration.sort refl (s.registers path name leaf.path) (t.registers path name leaf.path) (kept.registers path m c leaf stands register)
        ∙ sym (ap (where_located (t.registers path name leaf.path) (λ found. next_of_register (scene_of found.0 path other) found.1 found.1.declaration.sort leaf.path (t.registers path name leaf.path))) place));
    contents = λ path m c memory typ leaf element reached declared sort of inside below.
        let way : List PathStep = leaf.path in
        let place = located_there design path m c reached declared in
        let name : ℕ = c.declaration.name in
        ap (λ o. where_located (s.contents path name) (λ found. next_of_memory (scene_of found.0 path rho) found.1 found.1.declaration.sort (s.contents path name)) o element way) place
        ∙ (ap (λ k. next_of_memory (scene_of m path rho) c k (s.contents path name) element way) sort
        ∙ (contents_next path m c memory typ leaf element reached declared sort of inside below
        ∙ (sym (ap (λ k. next_of_memory (scene_of m path other) c k (t.contents path name) element way) sort)
        ∙ sym (ap (λ o. where_located (t.contents path name) (λ found. next_of_memory (scene_of found.0 path other) found.1 found.1.declaration.sort (t.contents path name)) o element way) place))));
    captured = λ path m c leaf memory port inner way stands sort later turned is.
        let place = located_is design path m c leaf stands in
        let name : ℕ = c.declaration.name in
        ap (λ o. where_located (s.captured path name) (λ found. next_of_port (scene_of found.0 path rho) found.1 found.1.declaration.sort (s.contents path name)) o port way) place
        ∙ (ap (λ k. next_of_port (scene_of m path rho) c k (s.contents path name) port way) sort
        ∙ (captured_next path m c leaf memory port inner way stands sort later turned is
        ∙ (sym (ap (λ k. next_of_port (scene_of m path other) c k (t.contents path name) port way) sort)
        ∙ sym (ap (λ o. where_located (t.captured path name) (λ found. next_of_port (scene_of found.0 path other) found.1 found.1.declaration.sort (t.contents path name)) o port way) place))));
  }

-- The rows

map_same : {A B : Type 0} (f g : A → B) (xs : List A) → ((x : A) → Contains xs x → f x ≡ g x) → map f xs ≡ map g xs
map_same f g [] h = refl
map_same f g (x ∷ xs) h = ap₂ (λ y ys. y ∷ ys) (h x (0, omega arith, refl)) (map_same f g xs (λ y c. h y (one_later x xs y c)))

from_filter : {A : Type 0} (p : A → Bool) (xs : List A) (y : A) → Contains (filter p xs) y → Contains xs y
from_filter p [] y c = c
from_filter {A} p (x ∷ xs) y c = by_test (p x) c (from_filter p xs y) where
  by_test : (b : Bool) → Contains (cond b (x ∷ filter p xs) (filter p xs)) y → (Contains (filter p xs) y → Contains xs y) → Contains (x ∷ xs) y
  by_test true (zero, below, is) h = (0, omega arith, is)
  by_test true (suc k, below, is) h = one_later x xs y (h (k, omega arith, is))
  by_test false c h = one_later x xs y (h c)

watched_there : (c : Component) (y : Leaf) → Contains (watched_of_component c) y → (is_port c.declaration.sort ≡ true) × (leaf : TypeLeaf) × Contains (leaves c.typ) leaf × (leaf_of c leaf ≡ y)
watched_there c y among = by_port_or_not (is_port c.declaration.sort) refl among where
  by_port_or_not : (b : Bool) → is_port c.declaration.sort ≡ b
      → Contains (if b then map (leaf_of c) (filter (λ leaf. not (is_source (flow_of c.declaration.sort leaf.flip)) && not (is_clock leaf)) (leaves c.typ)) else []) y
      → (is_port c.declaration.sort ≡ true) × (leaf : TypeLeaf) × Contains (leaves c.typ) leaf × (leaf_of c leaf ≡ y)
  by_port_or_not true e a =
      let from = from_map (leaf_of c) (filter (λ leaf. not (is_source (flow_of c.declaration.sort leaf.flip)) && not (is_clock leaf)) (leaves c.typ)) y a in
      (e, from.0, from_filter (λ leaf. not (is_source (flow_of c.declaration.sort leaf.flip)) && not (is_clock leaf)) (leaves c.typ) from.0 from.1, from.2)
  by_port_or_not false e (k, below, is) = absurd (omega arith)

watched_is_leaf : (design : Design) → HasBundles design → (o : Option TypedModule) → module_named design design.main ≡ o → (y : Leaf) → Contains (watched_of o) y
    → IsLeafOf design (record { path = []; component = y.component; way = y.way })
watched_is_leaf design has None e y (k, below, is) = absurd (omega arith)
watched_is_leaf design has (Some m) e y among =
    let from = from_flat_map watched_of_component m.components y among in
    let c : Component = from.0 in
    let there = watched_there c y from.2 in
    let reached : module_at design [] ≡ Some m = and_some (module_named design design.main) ∙ e in
    let declared : component_named m c.declaration.name ≡ Some c = has.names [] m c reached from.1 in
    let none : target_of m c.declaration.name ≡ None = ap (option_and_then (λ x. target_in x.declaration.sort)) declared ∙ port_target c.declaration.sort there.0 in
    record {
      path = [];
      m = m;
      c = c;
      leaf = there.1;
      stands = record { reached = reached; declared = declared; listed = there.2 };
      is = ap (λ o. flat_through [] c.declaration.name o there.1.path) none
          ∙ (flat_none [] c.declaration.name there.1.path ∙ ap (λ l. record { path = []; component = l.component; way = l.way }) there.3);
    }

pub watched_rows_same : (design : Design) (all : List FlatLeaf) → HasBundles design → HasNoLoop design → HasLeaves design all → TakesLeaves design → (watch : List FlatLeaf)
    → ((x : FlatLeaf) → Contains watch x → IsLeafOf design x) → {s t : State} {given : List Inputs} {rows other_rows : List (List ℤ)}
    → SameState design s t → WatchedTrace design watch s given rows → WatchedTrace design watch t given other_rows → rows ≡ other_rows
watched_rows_same design all has none leaves_of takes watch are kept ended ended = refl
watched_rows_same design all has none leaves_of takes watch are {s} {t} kept (cycle {given = g} rho one rest) (cycle other two later) =
    let every : (x : FlatLeaf) → IsLeafOf design x → at rho x ≡ at other x = settled_same design all has none leaves_of s t g rho other one two kept in
    let first : row_of watch rho ≡ row_of watch other =
    map_same (λ leaf. rho leaf.path leaf.component leaf.way) (λ leaf. other leaf.path leaf.component leaf.way) watch (λ x among. every x (are x among)) in
    ap₂ (λ x xs. x ∷ xs) first (watched_rows_same design all has none leaves_of takes watch are (next_same design has takes s t rho other kept every) rest later)

watched_are_leaves : (design : Design) → HasBundles design → (x : FlatLeaf) → Contains (watched_leaves design) x → IsLeafOf design x
watched_are_leaves design has x among =
    let from = from_map main_leaf (watched design) x among in
    subst (IsLeafOf design) from.2 (watched_is_leaf design has (module_named design design.main) refl from.0 from.1)

pub rows_same : (design : Design) (all : List FlatLeaf) → HasBundles design → HasNoLoop design → HasLeaves design all → TakesLeaves design → {s t : State} {given : List Inputs} {rows other_rows : List (List ℤ)}
    → SameState design s t → Trace design s given rows → Trace design t given other_rows → rows ≡ other_rows
rows_same design all has none leaves_of takes kept one two = watched_rows_same design all has none leaves_of takes (watched_leaves design) (watched_are_leaves design has) kept one two
