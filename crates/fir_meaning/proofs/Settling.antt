-- Two valuations that settle in one cycle agree on every leaf, where no leaf reads itself.
use Rattle.std.proofs.Common.{◌≡◌, ◌≢◌, ◌<◌, ℕ, zero, suc, ◌==◌, Bool, true, false, not, ◌&&◌, List, [], ◌∷◌, ◌++◌, map, slice_get, filter_map, Option, Some, None, option_map, option_and_then, ℤ, pos, nat_lt, unsigned_abs, refl, sym, ap, ap₂, ◌∙◌, subst, arith, true≢false, if◌then◌else◌, ⊎_elim, int_eq}
use Rattle.std.specs.Prelude.{Contains}
use Rattle.place_text.specs.declared.place.Place.{Place}
use Rattle.bit_words.specs.declared.value.Value.{Value}
use Rattle.bit_words.specs.Values.{integer_of}
use Rattle.fir_types.specs.declared.fir_type.FirType.{FirType}
use Rattle.fir_types.specs.declared.fir_type.Shape.TheVariants as shape
use Rattle.fir_types.specs.declared.fir_type.Field.{Field}
use Rattle.fir_types.specs.declared.leaf.TypeLeaf.{TypeLeaf}
use Rattle.fir_types.specs.declared.leaf.PathStep.{PathStep}
use Rattle.fir_types.specs.declared.leaf.PathStep.TheVariants as step
use Rattle.fir_types.specs.declared.memory.Memory.{Memory}
use Rattle.fir_types.specs.declared.memory.MemLine.{MemLine}
use Rattle.fir_types.specs.declared.memory.MemLine.TheVariants as line
use Rattle.fir_types.specs.declared.memory.PortMode.{PortMode}
use Rattle.fir_types.specs.declared.memory.PortMode.TheVariants as mode
use Rattle.fir_types.specs.Leaves.{leaves, under}
use Rattle.fir_types.specs.Memories.{read_latency_of, depth_of}
use Rattle.fir_types.specs.Bundles.{port_field, addr_name, en_name, wmode_name}
use Rattle.fir_tree.specs.declared.expr.Expr.{Expr}
use Rattle.fir_meaning.specs.Components.{Design, TypedModule, Component, Leaf, FlatLeaf, Sort, An_input, An_output, A_wire, A_register, A_reset_register, A_memory, An_instance, A_node, flow_of, is_clock, flat, flat_through, type_in, component_named, target_of, target_in, ports_bundle, HasBundles}
use Rattle.fir_meaning.specs.Values.{Valuation, Integers, scene_of, seen_through, value}
use Rattle.fir_meaning.specs.MemoryPorts.{MemoryPort, Contents, Leaves, memory_ports, port_named, field, asks_to_read, is_within, address, read_of}
use Rattle.fir_meaning.specs.States.{State, SameState, Inputs, Stands, Settled, seen, leaf_of, is_port, is_source, is_register, is_driven, IsLeafOf}
use Rattle.fir_meaning.specs.Mentions.{Agree, joined, mentions}
use Rattle.fir_meaning.specs.Loops.{Mentioned, live, read_goes_by, ReadsLeaf, by_connect, by_node, by_port, HasNoLoop, HasLeaves}
use Rattle.fir_meaning.proofs.Tracking.{Tracks, tracks_none, tracks_next, tracked, each_same, none_some, some_same, below_of}
use Rattle.fir_meaning.proofs.Covering.{true_or_false}
use Rattle.fir_meaning.proofs.Blocks.{drives_same}
use Rattle.fir_meaning.proofs.MemoryWays.{shown_same}
use Rattle.fir_meaning.proofs.Chains.{Ends, ends, chains_end}
use Rattle.fir_meaning.proofs.Ports.{from_flat_map, from_map, from_filter_map, bundle_leaves, last_of_path, found, same_number, target_is, instance_inside, port_outside}

abbrev pub at : Valuation → FlatLeaf → ℤ
at rho x = rho x.path x.component x.way

through_at : (rho : Valuation) (path : List ℕ) (i : ℕ) (o : Option ℕ) (way : List PathStep) → seen_through rho path i o way ≡ at rho (flat_through path i o way)
through_at rho path i (Some t) [] = refl
through_at rho path i (Some t) (step.Field x ∷ way) = refl
through_at rho path i (Some t) (step.Element n ∷ way) = refl
through_at rho path i None [] = refl
through_at rho path i None (step.Field x ∷ way) = refl
through_at rho path i None (step.Element n ∷ way) = refl

abbrev pub local : TypedModule → List ℕ → Valuation → Integers
local m path rho = λ c way. seen_through rho path c (target_of m c) way

pub local_at : (m : TypedModule) (path : List ℕ) (rho : Valuation) (y : Leaf) → local m path rho y.component y.way ≡ at rho (flat m path y)
local_at m path rho y = through_at rho path y.component (target_of m y.component) y.way

pub seen_at : (m : TypedModule) (path : List ℕ) (rho : Valuation) (c : Component) (leaf : TypeLeaf) → seen m path rho c leaf ≡ at rho (flat m path (leaf_of c leaf))
seen_at m path rho c leaf = local_at m path rho (leaf_of c leaf)

pub agree_at : (m : TypedModule) (path : List ℕ) (rho other : Valuation) (ys : List Leaf) → ((y : Leaf) → Contains ys y → at rho (flat m path y) ≡ at other (flat m path y))
    → Agree (local m path rho) (local m path other) ys
agree_at m path rho other ys h = record { agree = λ y c. local_at m path rho y ∙ (h y c ∙ sym (local_at m path other y)) }

-- Lists

pub get_there : {A : Type 0} (xs : List A) (x : A) (c : Contains xs x) → slice_get xs c.0 ≡ Some x
get_there [] x (k, below, is) = absurd (omega arith)
get_there (y ∷ ys) x (zero, below, is) = ap Some is
get_there (y ∷ ys) x (suc k, below, is) = get_there ys x (k, omega arith, is)

pub get-map : {A B : Type 0} (h : A → B) (xs : List A) (k : ℕ) → slice_get (map h xs) k ≡ option_map h (slice_get xs k)
get-map h [] zero = refl
get-map h [] (suc k) = refl
get-map h (x ∷ xs) zero = refl
get-map h (x ∷ xs) (suc k) = get-map h xs k

none_at : {f g : Integers} {ms : List (List Leaf)} {vs ws : List Value} → Tracks f g ms vs ws → (k : ℕ) → slice_get ms k ≡ None → slice_get vs k ≡ None
none_at tracks_none zero e = refl
none_at tracks_none (suc k) e = refl
none_at (tracks_next h t) zero e = absurd (none_some (sym e))
none_at (tracks_next h t) (suc k) e = none_at t k e

-- A read of latency 0

read_same_mode : (memory : Memory) (l r : Leaves) (contents : Contents) (port : MemoryPort) (way : List PathStep) (md : PortMode)
    → ((by : ℕ) → Contains (read_goes_by md) by → field l port by [] ≡ field r port by [])
    → (if asks_to_read l port md && is_within memory l port then contents (address l port) way else pos 0)
    ≡ (if asks_to_read r port md && is_within memory r port then contents (address r port) way else pos 0)
read_same_mode memory l r contents port way mode.Writer h = refl
read_same_mode memory l r contents port way mode.Reader h =
    ap₂ (λ e a. if int_eq e (pos 1) && nat_lt (unsigned_abs a) (depth_of memory) then contents (unsigned_abs a) way else pos 0) (h en_name (1, omega arith, refl)) (h addr_name (0, omega arith, refl))
read_same_mode memory l r contents port way mode.ReadWriter h =
    ap₂ (λ e a. if (int_eq e (pos 1) && not (int_eq (field l port wmode_name []) (pos 1))) && nat_lt (unsigned_abs a) (depth_of memory) then contents (unsigned_abs a) way else pos 0)
    (h en_name (1, omega arith, refl)) (h addr_name (0, omega arith, refl))
    ∙ ap (λ w. if (int_eq (field r port en_name []) (pos 1) && not (int_eq w (pos 1))) && nat_lt (address r port) (depth_of memory) then contents (address r port) way else pos 0)
    (h wmode_name (2, omega arith, refl))

-- A read looks only at elements below the depth.
pub read_contents : (memory : Memory) (l : Leaves) (before after : Contents) (way : List PathStep) → ((element : ℕ) → element < depth_of memory → before element way ≡ after element way) → (o : Option MemoryPort)
    → read_of memory l before o way ≡ read_of memory l after o way
read_contents memory l before after way h (Some port) = by (asks_to_read l port port.mode) (is_within memory l port) refl where
  by : (reads within : Bool) → is_within memory l port ≡ within
      → (if reads && within then before (address l port) way else pos 0) ≡ (if reads && within then after (address l port) way else pos 0)
  by true true e = h (address l port) (below_of (address l port) (depth_of memory) e)
  by true false e = refl
  by false true e = refl
  by false false e = refl
read_contents memory l before after way h None = refl

pub read_same : (memory : Memory) (l r : Leaves) (contents : Contents) (name : ℕ) (way : List PathStep) (o : Option MemoryPort) → port_named memory name ≡ o
    → ((port : MemoryPort) → port_named memory name ≡ Some port → (by : ℕ) → Contains (read_goes_by port.mode) by → field l port by [] ≡ field r port by [])
    → read_of memory l contents o way ≡ read_of memory r contents o way
read_same memory l r contents name way (Some port) e h = read_same_mode memory l r contents port way port.mode (h port e)
read_same memory l r contents name way None e h = refl

-- the leaf of a memory's port is behind the port and its field
port_bundle : (element : FirType) (depth : ℕ) (l : MemLine) (f : Field) → port_field element depth l ≡ Some f → (place : Place) × (fields : List Field) × (f.typ ≡ record { place = place; shape = shape.Bundle fields })
port_bundle element depth (line.MemPort at m name) f e = (_, _, ap (λ x. x.typ) (sym (some_same _ f e)))
port_bundle element depth (line.Element at t) f e = absurd (none_some e)
port_bundle element depth (line.Depth at n) f e = absurd (none_some e)
port_bundle element depth (line.ReadLatency at n) f e = absurd (none_some e)
port_bundle element depth (line.WriteLatency at n) f e = absurd (none_some e)
port_bundle element depth (line.ReadUnder at u) f e = absurd (none_some e)

pub memory_way : (memory : Memory) (element : FirType) (leaf : TypeLeaf) → Contains (leaves (ports_bundle memory element)) leaf
    → (port : ℕ) × (inner : ℕ) × (way : List PathStep) × (leaf.path ≡ step.Field port ∷ step.Field inner ∷ way)
memory_way memory element leaf c =
    let outer = from_flat_map (λ f. map (under (step.Field f.name.id ∷ []) f.flip) (leaves f.typ)) (filter_map (port_field element (depth_of memory)) memory.lines) leaf
    (subst (λ l. Contains l leaf) (bundle_leaves _ (filter_map (port_field element (depth_of memory)) memory.lines)) c) in
    let port : Field = outer.0 in
    let of_line = from_filter_map (port_field element (depth_of memory)) memory.lines port outer.1 in
    let bundle = port_bundle element (depth_of memory) of_line.0 port of_line.2 in
    let part = from_map (under (step.Field port.name.id ∷ []) port.flip) (leaves port.typ) leaf outer.2 in
    let there : Contains (leaves (record { place = bundle.0; shape = shape.Bundle bundle.1 })) part.0 = subst (λ typ. Contains (leaves typ) part.0) bundle.2 part.1 in
    let inner = from_flat_map (λ f. map (under (step.Field f.name.id ∷ []) f.flip) (leaves f.typ)) bundle.1 part.0 (subst (λ l. Contains l part.0) (bundle_leaves bundle.0 bundle.1) there) in
    let last = from_map (under (step.Field inner.0.name.id ∷ []) inner.0.flip) (leaves inner.0.typ) part.0 inner.2 in
    (port.name.id, inner.0.name.id, last.0.path, sym (ap (λ l. l.path) part.2) ∙ ap (λ p. step.Field port.name.id ∷ p) (sym (ap (λ l. l.path) last.2)))

-- One leaf, where what it reads is the same

pub port_target : (sort : Sort) → is_port sort ≡ true → target_in sort ≡ None
port_target An_input e = refl
port_target An_output e = refl
port_target A_wire e = refl
port_target (A_register clock) e = refl
port_target (A_reset_register clock reset init) e = refl
port_target (A_memory memory) e = refl
port_target (An_instance target) e = absurd (true≢false (sym e))
port_target (A_node expr) e = refl

pub flat_none : (path : List ℕ) (i : ℕ) (way : List PathStep) → flat_through path i None way ≡ record { path = path; component = i; way = way }
flat_none path i [] = refl
flat_none path i (step.Field x ∷ way) = refl
flat_none path i (step.Element n ∷ way) = refl

-- a leaf of an instance, and that of the port inside, are one leaf of the run
pub one_leaf : (path : List ℕ) (m n : TypedModule) (c p : Component) (leaf part : TypeLeaf) (target : ℕ) → component_named m c.declaration.name ≡ Some c → c.declaration.sort ≡ An_instance target
    → component_named n p.declaration.name ≡ Some p → is_port p.declaration.sort ≡ true → leaf.path ≡ step.Field p.declaration.name ∷ part.path
    → flat m path (leaf_of c leaf) ≡ flat n (path ++ c.declaration.name ∷ []) (leaf_of p part)
one_leaf path m n c p leaf part target declared sort inner is way =
    let none : target_of n p.declaration.name ≡ None = ap (option_and_then (λ x. target_in x.declaration.sort)) inner ∙ port_target p.declaration.sort is in
    ap (λ o. flat_through path c.declaration.name o leaf.path) (target_is m c target declared sort)
    ∙ (ap (flat_through path c.declaration.name (Some target)) way
    ∙ sym (ap (λ o. flat_through (path ++ c.declaration.name ∷ []) p.declaration.name o part.path) none ∙ flat_none (path ++ c.declaration.name ∷ []) p.declaration.name part.path))

driven_by : (c : Component) (leaf : TypeLeaf) → is_source (flow_of c.declaration.sort leaf.flip) ≡ false → is_register c.declaration.sort ≡ false → is_clock leaf ≡ false → is_driven c leaf ≡ true
driven_by c leaf s r k =
    ap (λ b. not b && (not (is_register c.declaration.sort) && not (is_clock leaf))) s ∙ (ap (λ b. not b && not (is_clock leaf)) r ∙ ap not k)

port_register : (sort : Sort) → is_port sort ≡ true → is_register sort ≡ false
port_register An_input e = refl
port_register An_output e = refl
port_register A_wire e = refl
port_register (A_register clock) e = absurd (true≢false (sym e))
port_register (A_reset_register clock reset init) e = absurd (true≢false (sym e))
port_register (A_memory memory) e = refl
port_register (An_instance target) e = refl
port_register (A_node expr) e = refl

pub instance_flip : (flip : Bool) (target : ℕ) → is_source (flow_of (An_instance target) flip) ≡ not flip
instance_flip true target = refl
instance_flip false target = refl

memory_flip : (flip : Bool) (memory : Memory) → is_source (flow_of (A_memory memory) flip) ≡ not flip
memory_flip true memory = refl
memory_flip false memory = refl

not_turned : (b : Bool) → not b ≡ true → b ≡ false
not_turned true e = absurd (true≢false (sym e))
not_turned false e = refl

module _ (design : Design) (has : HasBundles design) (s t : State) (given : Inputs) (rho other : Valuation) (one : Settled design s given rho) (two : Settled design t given other) (kept : SameState design s t) where
  abbrev Below : FlatLeaf → Type 0
  Below x = (y : FlatLeaf) → ReadsLeaf design x y → at rho y ≡ at other y

  by_seen : (path : List ℕ) (m : TypedModule) (c : Component) (leaf : TypeLeaf) → seen m path rho c leaf ≡ seen m path other c leaf
      → at rho (flat m path (leaf_of c leaf)) ≡ at other (flat m path (leaf_of c leaf))
  by_seen path m c leaf e = sym (seen_at m path rho c leaf) ∙ (e ∙ seen_at m path other c leaf)

  driven_same : (path : List ℕ) (m : TypedModule) (c : Component) (leaf : TypeLeaf) → Stands design path m c leaf → is_driven c leaf ≡ true → Below (flat m path (leaf_of c leaf))
      → at rho (flat m path (leaf_of c leaf)) ≡ at other (flat m path (leaf_of c leaf))
  driven_same path m c leaf stands d below =
      let agree : Agree (local m path rho) (local m path other) (joined (live (type_in m) (leaf_of c leaf) c.declaration.block)) =
      agree_at m path rho other (joined (live (type_in m) (leaf_of c leaf) c.declaration.block)) (λ y r. below (flat m path y) (by_connect path m c leaf y stands d r)) in
      let same = drives_same (type_in m) (leaf_of c leaf) c.declaration.block (local m path rho) (local m path other) agree in
      by_seen path m c leaf (some_same _ _ (sym (one.driven path m c leaf stands d) ∙ (same ∙ two.driven path m c leaf stands d)))

  by_mention : (path : List ℕ) (m : TypedModule) (c : Component) (leaf : TypeLeaf) (e : Expr) → Stands design path m c leaf → c.declaration.sort ≡ A_node e → is_clock leaf ≡ false
      → Below (flat m path (leaf_of c leaf)) → (k : ℕ) → slice_get (leaves c.typ) k ≡ Some leaf → (vs ws : List Value)
      → Tracks (local m path rho) (local m path other) (mentions e (type_in m)) vs ws → {x y : ℤ} → slice_get (map integer_of vs) k ≡ Some x → slice_get (map integer_of ws) k ≡ Some y
      → (o : Option Mentioned) → slice_get (mentions e (type_in m)) k ≡ o → x ≡ y
  by_mention path m c leaf e stands sort clock below k there vs ws tracks {x} {y} a b (Some mentioned) q =
      let agree : Agree (local m path rho) (local m path other) mentioned =
      agree_at m path rho other mentioned (λ z r. below (flat m path z) (by_node path m c leaf e k mentioned z stands sort clock there q r)) in
      some_same x y (sym a ∙ (get-map integer_of vs k ∙ (ap (option_map integer_of) (each_same tracks k mentioned q agree) ∙ (sym (get-map integer_of ws k) ∙ b))))
  by_mention path m c leaf e stands sort clock below k there vs ws tracks {x} {y} a b None q =
      absurd (none_some (sym (ap (option_map integer_of) (none_at tracks k q)) ∙ (sym (get-map integer_of vs k) ∙ a)))

  node_same : (path : List ℕ) (m : TypedModule) (c : Component) (leaf : TypeLeaf) (e : Expr) → Stands design path m c leaf → c.declaration.sort ≡ A_node e → is_clock leaf ≡ false
      → Below (flat m path (leaf_of c leaf)) → at rho (flat m path (leaf_of c leaf)) ≡ at other (flat m path (leaf_of c leaf))
  node_same path m c leaf e stands sort clock below =
      let k : ℕ = stands.listed.0 in
      let there : slice_get (leaves c.typ) k ≡ Some leaf = get_there (leaves c.typ) leaf stands.listed in
      let values : Valuation → List Value = λ r. value e (scene_of m path r) in
      let at_rho : slice_get (map integer_of (values rho)) k ≡ Some (seen m path rho c leaf) =
      sym (ap (λ l. slice_get l k) (one.nodes path m c e stands.reached stands.declared sort)) ∙ (get-map (seen m path rho c) (leaves c.typ) k ∙ ap (option_map (seen m path rho c)) there) in
      let at_other : slice_get (map integer_of (values other)) k ≡ Some (seen m path other c leaf) =
      sym (ap (λ l. slice_get l k) (two.nodes path m c e stands.reached stands.declared sort)) ∙ (get-map (seen m path other c) (leaves c.typ) k ∙ ap (option_map (seen m path other c)) there) in
      let tracks = tracked e (type_in m) (local m path rho) (local m path other) in
      by_seen path m c leaf (by_mention path m c leaf e stands sort clock below k there (values rho) (values other) tracks at_rho at_other (slice_get (mentions e (type_in m)) k) refl)

  memory_same : (path : List ℕ) (m : TypedModule) (c : Component) (leaf : TypeLeaf) (memory : Memory) → Stands design path m c leaf → c.declaration.sort ≡ A_memory memory → leaf.flip ≡ false
      → Below (flat m path (leaf_of c leaf)) → at rho (flat m path (leaf_of c leaf)) ≡ at other (flat m path (leaf_of c leaf))
  memory_same path m c leaf memory stands sort turned below =
      let bundle = has.memories path m c memory stands.reached stands.declared sort in
      let way = memory_way memory bundle.0 leaf (subst (λ l. Contains l leaf) bundle.1 stands.listed) in
      by_seen path m c leaf (by_latency (read_latency_of memory) refl way)
    where
      by_latency : (latency : ℕ) → read_latency_of memory ≡ latency → (port : ℕ) × (inner : ℕ) × (way : List PathStep) × (leaf.path ≡ step.Field port ∷ step.Field inner ∷ way)
          → seen m path rho c leaf ≡ seen m path other c leaf
      by_latency zero e (port, inner, way, is) =
          let same = read_same memory (local m path rho c.declaration.name) (local m path other c.declaration.name) (s.contents path c.declaration.name) port way (port_named memory port) refl
          (λ q named by goes.
          let name : q.name ≡ port = same_number q.name port (found (λ x. x.name == port) (memory_ports memory) q named).0 in
          let y : Leaf = record { component = c.declaration.name; way = step.Field port ∷ step.Field by ∷ [] } in
          let here : local m path rho c.declaration.name (step.Field port ∷ step.Field by ∷ []) ≡ local m path other c.declaration.name (step.Field port ∷ step.Field by ∷ []) =
          local_at m path rho y ∙ (below (flat m path y) (by_port path m c leaf memory q port inner way stands sort e turned is named by goes) ∙ sym (local_at m path other y)) in
          subst (λ z. local m path rho c.declaration.name (step.Field z ∷ step.Field by ∷ []) ≡ local m path other c.declaration.name (step.Field z ∷ step.Field by ∷ [])) (sym name) here) in
          let held = read_contents memory (local m path other c.declaration.name) (s.contents path c.declaration.name) (t.contents path c.declaration.name) way
          (λ element below_depth. shown_same design has s t kept path m c leaf memory port inner way element stands sort turned is below_depth) (port_named memory port) in
          one.reads path m c leaf memory port inner way stands sort e turned is ∙ (same ∙ (held ∙ sym (two.reads path m c leaf memory port inner way stands sort e turned is)))
      by_latency (suc n) e (port, inner, way, is) =
          let later : read_latency_of memory ≢ 0 = λ z. let bad : suc n ≡ 0 = sym e ∙ z in absurd (omega arith) in
          one.captured path m c leaf memory port inner way stands sort later turned is ∙ (kept.captured path m c leaf memory port inner way stands sort later turned is ∙ sym (two.captured path m c leaf memory port inner way stands sort later turned is))

  -- a port's leaf that is a source inside
  port_same : (path : List ℕ) (m : TypedModule) (c : Component) (leaf : TypeLeaf) → Stands design path m c leaf → is_port c.declaration.sort ≡ true
      → is_source (flow_of c.declaration.sort leaf.flip) ≡ true → is_clock leaf ≡ false → Below (flat m path (leaf_of c leaf))
      → at rho (flat m path (leaf_of c leaf)) ≡ at other (flat m path (leaf_of c leaf))
  port_same path m c leaf stands is source clock below = ⊎_elim
      (λ e.
      let here : Stands design [] m c leaf = subst (λ p. Stands design p m c leaf) e stands in
      by_seen path m c leaf
      (subst (λ p. seen m p rho c leaf ≡ seen m p other c leaf) (sym e) (one.inputs m c leaf here is source clock ∙ sym (two.inputs m c leaf here is source clock))))
      (λ above.
      let there : Stands design (above.0 ++ above.1 ∷ []) m c leaf = subst (λ p. Stands design p m c leaf) above.2 stands in
      let out = port_outside design has above.0 above.1 m c leaf there is in
      let same : flat out.0 above.0 (leaf_of out.1 out.2) ≡ flat m path (leaf_of c leaf) =
      one_leaf above.0 out.0 m out.1 c out.2 leaf out.3 out.4.declared out.6 stands.declared is out.8
      ∙ ap (λ p. flat m p (leaf_of c leaf)) (ap (λ i. above.0 ++ i ∷ []) out.5 ∙ sym above.2) in
      let flow : is_source (flow_of out.1.declaration.sort out.2.flip) ≡ false =
      ap (λ sort. is_source (flow_of sort out.2.flip)) out.6 ∙ (instance_flip out.2.flip out.3 ∙ ap not (out.7 ∙ source)) in
      let driven : is_driven out.1 out.2 ≡ true = driven_by out.1 out.2 flow (ap is_register out.6) (out.9 ∙ clock) in
      subst (λ x. at rho x ≡ at other x) same (driven_same above.0 out.0 out.1 out.2 out.4 driven (subst Below (sym same) below)))
      (last_of_path path)

  -- an instance's leaf that is a source outside
  instance_same : (path : List ℕ) (m : TypedModule) (c : Component) (leaf : TypeLeaf) (target : ℕ) → Stands design path m c leaf → c.declaration.sort ≡ An_instance target → leaf.flip ≡ false
      → is_clock leaf ≡ false → Below (flat m path (leaf_of c leaf)) → at rho (flat m path (leaf_of c leaf)) ≡ at other (flat m path (leaf_of c leaf))
  instance_same path m c leaf target stands sort turned clock below =
      let within_it = instance_inside design has path m c leaf target stands sort in
      let same : flat m path (leaf_of c leaf) ≡ flat within_it.0 (path ++ c.declaration.name ∷ []) (leaf_of within_it.1 within_it.2) =
      one_leaf path m within_it.0 c within_it.1 leaf within_it.2 target stands.declared sort within_it.3.declared within_it.4 within_it.6 in
      let driven : is_driven within_it.1 within_it.2 ≡ true =
      driven_by within_it.1 within_it.2 (within_it.5 ∙ turned) (port_register within_it.1.declaration.sort within_it.4) (sym within_it.7 ∙ clock) in
      subst (λ x. at rho x ≡ at other x) (sym same) (driven_same (path ++ c.declaration.name ∷ []) within_it.0 within_it.1 within_it.2 within_it.3 driven (subst Below same below))

  source_same : (path : List ℕ) (m : TypedModule) (c : Component) (leaf : TypeLeaf) → Stands design path m c leaf → is_source (flow_of c.declaration.sort leaf.flip) ≡ true
      → is_clock leaf ≡ false → Below (flat m path (leaf_of c leaf)) → (sort : Sort) → c.declaration.sort ≡ sort → at rho (flat m path (leaf_of c leaf)) ≡ at other (flat m path (leaf_of c leaf))
  source_same path m c leaf stands source clock below An_input e = port_same path m c leaf stands (ap is_port e) source clock below
  source_same path m c leaf stands source clock below An_output e = port_same path m c leaf stands (ap is_port e) source clock below
  source_same path m c leaf stands source clock below A_wire e = absurd (true≢false (sym source ∙ ap (λ x. is_source (flow_of x leaf.flip)) e))
  source_same path m c leaf stands source clock below (A_register k) e = absurd (true≢false (sym source ∙ ap (λ x. is_source (flow_of x leaf.flip)) e))
  source_same path m c leaf stands source clock below (A_reset_register k reset init) e = absurd (true≢false (sym source ∙ ap (λ x. is_source (flow_of x leaf.flip)) e))
  source_same path m c leaf stands source clock below (A_memory memory) e =
      memory_same path m c leaf memory stands e (not_turned leaf.flip (sym (memory_flip leaf.flip memory) ∙ (ap (λ x. is_source (flow_of x leaf.flip)) (sym e) ∙ source))) below
  source_same path m c leaf stands source clock below (An_instance target) e =
      instance_same path m c leaf target stands e (not_turned leaf.flip (sym (instance_flip leaf.flip target) ∙ (ap (λ x. is_source (flow_of x leaf.flip)) (sym e) ∙ source))) clock below
  source_same path m c leaf stands source clock below (A_node expr) e = node_same path m c leaf expr stands e clock below

  leaf_same : (path : List ℕ) (m : TypedModule) (c : Component) (leaf : TypeLeaf) → Stands design path m c leaf → Below (flat m path (leaf_of c leaf))
      → at rho (flat m path (leaf_of c leaf)) ≡ at other (flat m path (leaf_of c leaf))
  leaf_same path m c leaf stands below = ⊎_elim
      (λ clock. by_seen path m c leaf (one.clocks path m c leaf stands clock ∙ sym (two.clocks path m c leaf stands clock)))
      (λ clock. ⊎_elim
      (λ source. source_same path m c leaf stands source clock below c.declaration.sort refl)
      (λ flow. ⊎_elim
      (λ register. by_seen path m c leaf (one.registers path m c leaf stands register ∙ (kept.registers path m c leaf stands register ∙ sym (two.registers path m c leaf stands register))))
      (λ register. driven_same path m c leaf stands (driven_by c leaf flow register clock) below)
      (true_or_false (is_register c.declaration.sort)))
      (true_or_false (is_source (flow_of c.declaration.sort leaf.flip))))
      (true_or_false (is_clock leaf))

  all_same_from : (all : List FlatLeaf) → HasLeaves design all → (x : FlatLeaf) → Ends design x → IsLeafOf design x → at rho x ≡ at other x
  all_same_from all leaves_of x (ends h) l =
      subst (λ z. at rho z ≡ at other z) l.is
      (leaf_same l.path l.m l.c l.leaf l.stands
      (λ y r. let read : ReadsLeaf design x y = subst (λ z. ReadsLeaf design z y) l.is r in all_same_from all leaves_of y (h y read) (leaves_of.closed x y read)))

-- Any two valuations agree on every leaf that are settled in cycles that begin with the same state.
pub settled_same : (design : Design) (all : List FlatLeaf) → HasBundles design → HasNoLoop design → HasLeaves design all → (s t : State) (given : Inputs) (rho other : Valuation)
    → Settled design s given rho → Settled design t given other → SameState design s t → (x : FlatLeaf) → IsLeafOf design x → at rho x ≡ at other x
settled_same design all has none leaves_of s t given rho other one two kept x l =
    all_same_from design has s t given rho other one two kept all leaves_of x (chains_end design all none leaves_of x l) l

pub state_itself : (design : Design) (s : State) → SameState design s s
state_itself design s = record {
  registers = λ path m c leaf stands register. refl;
  contents = λ path m c memory typ leaf element reached declared sort is inside below. refl;
  captured = λ path m c leaf memory port inner way stands sort latency turned is. refl;
}

pub settled_agree : (design : Design) (all : List FlatLeaf) → HasBundles design → HasNoLoop design → HasLeaves design all → (s : State) (given : Inputs) (rho other : Valuation)
    → Settled design s given rho → Settled design s given other → (x : FlatLeaf) → IsLeafOf design x → at rho x ≡ at other x
settled_agree design all has none leaves_of s given rho other one two x l =
    settled_same design all has none leaves_of s s given rho other one two (state_itself design s) x l
