-- The ways of a memory's read data are those of its elements.
use Rattle.std.proofs.Common.{◌≡◌, ◌≢◌, ◌<◌, ℕ, zero, suc, Bool, true, false, not, List, [], ◌∷◌, map, filter_map, Some, refl, sym, ap, ◌∙◌, subst, arith, true≢false, if◌then◌else◌}
use Rattle.std.specs.Prelude.{Contains}
use Rattle.std.proofs.lemmas.Grind.{common_steps}
use Rattle.place_text.specs.declared.place.Place.{Place}
use Rattle.fir_types.specs.declared.fir_type.FirType.{FirType, the_lemmas}
use Rattle.fir_types.specs.declared.fir_type.Field.{Field}
use Rattle.fir_types.specs.declared.leaf.TypeLeaf.{TypeLeaf}
use Rattle.fir_types.specs.declared.leaf.PathStep.{PathStep}
use Rattle.fir_types.specs.declared.leaf.PathStep.TheVariants as step
use Rattle.fir_types.specs.declared.memory.Memory.{Memory}
use Rattle.fir_types.specs.declared.memory.MemLine.{MemLine}
use Rattle.fir_types.specs.declared.memory.MemLine.TheVariants as line
use Rattle.fir_types.specs.declared.memory.PortMode.{PortMode}
use Rattle.fir_types.specs.declared.memory.PortMode.TheVariants as mode
use Rattle.fir_types.specs.Leaves.{leaves, under, way_of}
use Rattle.fir_types.specs.Memories.{depth_of}
use Rattle.fir_types.specs.Bundles.{nowhere, addr_name, en_name, clk_name, wmode_name, plain_field, uint_at, clock_at, address_bits, fields_of_mode, port_type, port_field, mask_of}
use Rattle.fir_types.proofs.Masks.{masked}
use Rattle.fir_meaning.specs.Components.{Design, TypedModule, Component, A_memory, ports_bundle, HasBundles}
use Rattle.fir_meaning.specs.MemoryPorts.{MemoryPort, port_in, memory_ports}
use Rattle.fir_meaning.specs.Elements.{IsElement}
use Rattle.fir_meaning.specs.States.{State, SameState, Stands}
use Rattle.fir_meaning.proofs.Ports.{from_map, from_flat_map, from_filter_map, bundle_leaves}
use Rattle.fir_meaning.proofs.Tracking.{none_some, some_same, Contains-map}
use Rattle.fir_meaning.proofs.MemoryLeaves.{uint_leaves, in_field, fields_of, in_filter_map}

-- no leaf is flipped
abbrev IsStraight : FirType → Type 0
IsStraight typ = (l : TypeLeaf) → Contains (leaves typ) l → l.flip ≡ false

alone : (ls : List TypeLeaf) (x l : TypeLeaf) → ls ≡ x ∷ [] → Contains ls l → x ≡ l
alone ls x l e c = by (subst (λ z. Contains z l) e c) where
  by : Contains (x ∷ []) l → x ≡ l
  by (zero, below, is) = is
  by (suc k, below, is) = absurd (omega arith)

uint_straight : (place : Place) (width : ℕ) → IsStraight (uint_at place width)
uint_straight place width l c =
    ap (λ (z : TypeLeaf). z.flip) (sym (alone (leaves (uint_at place width)) (record { path = []; flip = false; typ = uint_at place width }) l (uint_leaves place width) c))

clock_straight : (place : Place) → IsStraight (clock_at place)
clock_straight place l c =
    let one : leaves (clock_at place) ≡ record { path = []; flip = false; typ = clock_at place } ∷ [] = grind (arith, common_steps, the_lemmas) in
    ap (λ (z : TypeLeaf). z.flip) (sym (alone (leaves (clock_at place)) (record { path = []; flip = false; typ = clock_at place }) l one c))

module _ (element : FirType) (part : TypeLeaf) (turned : part.flip ≡ true) (depth : ℕ) (place : Place) where
  -- it is a leaf of the element behind a field
  abbrev IsBehind : Type 0
  IsBehind = (n : ℕ) × (l : TypeLeaf) × Contains (leaves element) l × (part.path ≡ step.Field n ∷ l.path)

  plain : (f : Field) → IsStraight f.typ → f.flip ≡ false → Contains (in_field f) part → IsBehind
  plain f of_typ unflipped h =
      let l = from_map (under (step.Field f.name.id ∷ []) f.flip) (leaves f.typ) part h in
      absurd (true≢false (sym turned ∙ (sym (ap (λ (z : TypeLeaf). z.flip) l.2) ∙ (ap (λ b. if b then not l.0.flip else l.0.flip) unflipped ∙ of_typ l.0 l.1))))

  of_data : (f : Field) → f.typ ≡ element → Contains (in_field f) part → IsBehind
  of_data f e h =
      let l = from_map (under (step.Field f.name.id ∷ []) f.flip) (leaves f.typ) part h in
      (f.name.id, l.0, subst (λ t. Contains (leaves t) l.0) e l.1, sym (ap (λ (z : TypeLeaf). z.path) l.2))

  of_mask : (f : Field) → f.typ ≡ mask_of element → Contains (in_field f) part → IsBehind
  of_mask f e h =
      let l = from_map (under (step.Field f.name.id ∷ []) f.flip) (leaves f.typ) part h in
      let there : Contains (map way_of (leaves element)) (way_of l.0) =
      subst (λ ws. Contains ws (way_of l.0)) (masked element).same (Contains-map way_of (leaves (mask_of element)) l.0 (subst (λ t. Contains (leaves t) l.0) e l.1)) in
      let of = from_map way_of (leaves element) (way_of l.0) there in
      (f.name.id, of.0, of.1, sym (ap (λ (z : TypeLeaf). z.path) l.2) ∙ ap (λ w. step.Field f.name.id ∷ w.0) (sym of.2))

  of_mode : (md : PortMode) (f : Field) → Contains (fields_of_mode place element md) f → Contains (in_field f) part → IsBehind
  of_mode mode.Reader f (zero, below, is) h = of_data f (sym (ap (λ (g : Field). g.typ) is)) h
  of_mode mode.Reader f (suc k, below, is) h = absurd (omega arith)
  of_mode mode.Writer f (zero, below, is) h = of_data f (sym (ap (λ (g : Field). g.typ) is)) h
  of_mode mode.Writer f (suc zero, below, is) h = of_mask f (sym (ap (λ (g : Field). g.typ) is)) h
  of_mode mode.Writer f (suc (suc k), below, is) h = absurd (omega arith)
  of_mode mode.ReadWriter f (zero, below, is) h = of_data f (sym (ap (λ (g : Field). g.typ) is)) h
  of_mode mode.ReadWriter f (suc zero, below, is) h = plain (plain_field place wmode_name (uint_at place 1)) (uint_straight place 1) refl (subst (λ g. Contains (in_field g) part) (sym is) h)
  of_mode mode.ReadWriter f (suc (suc zero), below, is) h = of_data f (sym (ap (λ (g : Field). g.typ) is)) h
  of_mode mode.ReadWriter f (suc (suc (suc zero)), below, is) h = of_mask f (sym (ap (λ (g : Field). g.typ) is)) h
  of_mode mode.ReadWriter f (suc (suc (suc (suc k))), below, is) h = absurd (omega arith)

  of_port : (md : PortMode) (f : Field) → Contains (fields_of element depth md place) f → Contains (in_field f) part → IsBehind
  of_port md f (zero, below, is) h = plain (plain_field place addr_name (uint_at place (address_bits depth))) (uint_straight place (address_bits depth)) refl (subst (λ g. Contains (in_field g) part) (sym is) h)
  of_port md f (suc zero, below, is) h = plain (plain_field place en_name (uint_at place 1)) (uint_straight place 1) refl (subst (λ g. Contains (in_field g) part) (sym is) h)
  of_port md f (suc (suc zero), below, is) h = plain (plain_field place clk_name (clock_at place)) (clock_straight place) refl (subst (λ g. Contains (in_field g) part) (sym is) h)
  of_port md f (suc (suc (suc k)), below, is) h = of_mode md f (k, omega arith, is) h

  behind : (md : PortMode) → Contains (leaves (port_type element depth md place)) part → IsBehind
  behind md c =
      let f = from_flat_map in_field (fields_of element depth md place) part (subst (λ l. Contains l part) (bundle_leaves place (fields_of element depth md place)) c) in
      of_port md f.0 f.1 f.2

line_of_field : (element : FirType) (depth : ℕ) (l : MemLine) (f : Field) → port_field element depth l ≡ Some f → (md : PortMode) × (place : Place) × (f.flip ≡ true) × (f.typ ≡ port_type element depth md place)
line_of_field element depth (line.MemPort at m name) f e = let same = some_same _ f e in (m, name.place, ap (λ (g : Field). g.flip) (sym same), ap (λ (g : Field). g.typ) (sym same))
line_of_field element depth (line.Element at t) f e = absurd (none_some e)
line_of_field element depth (line.Depth at n) f e = absurd (none_some e)
line_of_field element depth (line.ReadLatency at n) f e = absurd (none_some e)
line_of_field element depth (line.WriteLatency at n) f e = absurd (none_some e)
line_of_field element depth (line.ReadUnder at u) f e = absurd (none_some e)

not_false : (b : Bool) → not b ≡ false → b ≡ true
not_false true e = refl
not_false false e = absurd (true≢false e)

behind_steps : {a b c d : ℕ} {v w : List PathStep} → step.Field a ∷ step.Field b ∷ v ≡ step.Field c ∷ step.Field d ∷ w → v ≡ w
behind_steps e = cc

-- The way of a leaf that isn't flipped, behind its port and its field, is that of a leaf of the element.
pub element_way : (memory : Memory) (element : FirType) (leaf : TypeLeaf) (port field : ℕ) (way : List PathStep) → Contains (leaves (ports_bundle memory element)) leaf → leaf.flip ≡ false → leaf.path ≡ step.Field port ∷ step.Field field ∷ way
    → (l : TypeLeaf) × Contains (leaves element) l × (l.path ≡ way)
element_way memory element leaf port field way c unflipped is =
    let fields : List Field = filter_map (port_field element (depth_of memory)) memory.lines in
    let outer = from_flat_map in_field fields leaf (subst (λ l. Contains l leaf) (bundle_leaves nowhere fields) c) in
    let from = from_filter_map (port_field element (depth_of memory)) memory.lines outer.0 outer.1 in
    let of = line_of_field element (depth_of memory) from.0 outer.0 from.2 in
    let part = from_map (under (step.Field outer.0.name.id ∷ []) outer.0.flip) (leaves outer.0.typ) leaf outer.2 in
    let turned : part.0.flip ≡ true = not_false part.0.flip (ap (λ b. if b then not part.0.flip else part.0.flip) (sym of.2) ∙ (ap (λ (z : TypeLeaf). z.flip) part.2 ∙ unflipped)) in
    let inner = behind element part.0 turned (depth_of memory) of.1 of.0 (subst (λ t. Contains (leaves t) part.0) of.3 part.1) in
    (inner.1, inner.2, behind_steps (ap (λ w. step.Field outer.0.name.id ∷ w) (sym inner.3) ∙ (ap (λ (z : TypeLeaf). z.path) part.2 ∙ is)))

port_of_line : (element : FirType) (depth : ℕ) (l : MemLine) (f : Field) → port_field element depth l ≡ Some f → (port : MemoryPort) × (port_in l ≡ Some port)
port_of_line element depth (line.MemPort at m name) f e = (_, refl)
port_of_line element depth (line.Element at t) f e = absurd (none_some e)
port_of_line element depth (line.Depth at n) f e = absurd (none_some e)
port_of_line element depth (line.ReadLatency at n) f e = absurd (none_some e)
port_of_line element depth (line.WriteLatency at n) f e = absurd (none_some e)
port_of_line element depth (line.ReadUnder at u) f e = absurd (none_some e)

in_none : {A : Type 0} (xs : List A) (x : A) → xs ≡ [] → ¬ (Contains xs x)
in_none [] x e (k, below, is) = omega (arith, below)
in_none (y ∷ ys) x e c = cc

-- A memory with a leaf has a port.
pub leaf_ported : (memory : Memory) (element : FirType) (leaf : TypeLeaf) → Contains (leaves (ports_bundle memory element)) leaf → memory_ports memory ≢ []
leaf_ported memory element leaf c none =
    let fields : List Field = filter_map (port_field element (depth_of memory)) memory.lines in
    let outer = from_flat_map in_field fields leaf (subst (λ l. Contains l leaf) (bundle_leaves nowhere fields) c) in
    let from = from_filter_map (port_field element (depth_of memory)) memory.lines outer.0 outer.1 in
    let port = port_of_line element (depth_of memory) from.0 outer.0 from.2 in
    in_none (memory_ports memory) port.0 none (in_filter_map port_in memory.lines from.0 port.0 from.1 port.1)

-- The type by which a memory has leaves is that of its elements.
pub shown_element : (c : Component) (memory : Memory) (element : FirType) → leaves c.typ ≡ leaves (ports_bundle memory element) → (leaf : TypeLeaf) → Contains (leaves c.typ) leaf
    → IsElement c memory element
shown_element c memory element bundle leaf listed = record {
  bundle = bundle;
  unported = λ none. absurd (leaf_ported memory element leaf (subst (λ ls. Contains ls leaf) bundle listed) none);
}

-- In states that are the same the elements have the same in what read data show of them.
pub shown_same : (design : Design) → HasBundles design → (s t : State) → SameState design s t → (path : List ℕ) (m : TypedModule) (c : Component) (leaf : TypeLeaf) (memory : Memory) (port inner : ℕ)
    (way : List PathStep) (element : ℕ) → Stands design path m c leaf → c.declaration.sort ≡ A_memory memory → leaf.flip ≡ false → leaf.path ≡ step.Field port ∷ step.Field inner ∷ way
    → element < depth_of memory → s.contents path c.declaration.name element way ≡ t.contents path c.declaration.name element way
shown_same design has s t kept path m c leaf memory port inner way element stands sort turned is below =
    let bundle = has.memories path m c memory stands.reached stands.declared sort in
    let listed : Contains (leaves (ports_bundle memory bundle.0)) leaf = subst (λ ls. Contains ls leaf) bundle.1 stands.listed in
    let part = element_way memory bundle.0 leaf port inner way listed turned is in
    subst (λ w. s.contents path c.declaration.name element w ≡ t.contents path c.declaration.name element w) part.2
    (kept.contents path m c memory bundle.0 part.0 element stands.reached stands.declared sort (shown_element c memory bundle.0 bundle.1 leaf stands.listed) part.1 below)
