-- Drivers of the flat circuit have the kinds and widths of their leaves.
use Rattle.std.proofs.Common.{◌≡◌, ℕ, ◌<◌, false, List, [], Option, Some, None, option_map, refl, sym, ap, ap₂, ◌∙◌, subst, slice_index}
use Rattle.std.specs.List.{slice_get}
use Rattle.fir_types.specs.declared.fir_type.FirType.{FirType}
use Rattle.fir_types.specs.declared.leaf.TypeLeaf.{TypeLeaf}
use Rattle.fir_meaning.specs.Components.{TypedModule, kind_of_leaf, width_of_leaf}
use Rattle.fir_meaning.specs.WellTyped.{leaf_shape}
use Rattle.prim_ops.specs.Values.{lone}
use Rattle.ground_net.specs.declared.ground.Ground.{Ground}
use Rattle.ground_net.specs.declared.circuit.DrivenModule.{DrivenModule}
use Rattle.ground_net.specs.declared.circuit.GroundLeaf.{GroundLeaf}
use Rattle.ground_net.specs.Grounds.{Instant}
use Rattle.ground_net.specs.Reads.{lone_driver}
use Rattle.ground_net.specs.Renumbering.{with_numbers}
use Rattle.ground_net.specs.Shapes.{Shape, shaped, shape}
use Rattle.expand_whens.specs.Expanding.{IsDriver, Drives}
use Rattle.net_of_circuit.specs.FlatOrder.{Standing}
use Rattle.net_of_circuit.specs.Numbers.{module_leaves, table_of}
use Rattle.flatten_instances.specs.Numbers.{AreNumbers, driver_in}
use Rattle.memory_ports.specs.Sound.{flat_table, ground_shape}
use Rattle.net_laws.proofs.Lists.{below_length}
use Rattle.lowering_laws.proofs.Heights.{some_same, none_some}
use Rattle.lowering_laws.proofs.Parts.{item}
use Rattle.lowering_laws.proofs.Seeing.{number_at}
use Rattle.lowering_laws.proofs.Whole.{Setting, spots, placed, Way, match, lists, leaves_counted, leaf_at}
use Rattle.lowering_laws.proofs.Drivers.{all, known_of, flat_driver}
use Rattle.assembly_laws.proofs.Tables.{shape_moves}
use Rattle.assembly_laws.proofs.Origins.{Origin, number_same, origin}

no_instant : Instant
no_instant = record { leaf = λ x. lone []; load = λ m k a. lone [] }

mapped : {A B : Type 0} (f : A → B) (o : Option A) (b : B) → option_map f o ≡ Some b → (a : A) × (o ≡ Some a) × (f a ≡ b)
mapped f None b e = none_some e
mapped f (Some a) b e = (a, refl, some_same e)

abbrev leaf_of_type : FirType → TypeLeaf
leaf_of_type t = record { path = []; flip = false; typ = t }

-- A leaf's shape is a matter of its type alone.
same_leaf_shape : (a b : TypeLeaf) → a.typ ≡ b.typ → leaf_shape a ≡ leaf_shape b
same_leaf_shape a b e = ap (λ t. shaped (kind_of_leaf (leaf_of_type t)) (width_of_leaf (leaf_of_type t))) e

module _ (z : Setting) where
  -- an entry of the circuit in the flat table
  pub table_at : (x : ℕ) (y : Standing) → slice_get (all z) x ≡ Some y → (flat_table z.flat).leaf x ≡ Some (leaf_shape y.1)
  table_at x y e =
      let at = leaf_at z x y e in
      ap (option_map ground_shape) at.leaf_there ∙ ap₂ (λ k w. Some (shaped k w)) at.kind at.width

  -- the entry of a flat leaf
  pub entry_at : (x : ℕ) (leaf : GroundLeaf) → slice_get z.flat.leaves x ≡ Some leaf → (y : Standing) × (slice_get (all z) x ≡ Some y)
  entry_at x leaf e = item (all z) x (subst (λ n. x < n) (leaves_counted z) (below_length z.flat.leaves x leaf e))

  -- leaves of a module under their flat numbers
  pub table_moves : {path : List ℕ} {n : ℕ} {m : TypedModule} {d : DrivenModule} {names : List ℕ} (leads : Way z path n m d names) (numbers : List ℕ) → AreNumbers z.driven (spots z) path n numbers
      → (y : ℕ) (s : Shape) → (table_of (known_of z leads).g.leaves).leaf y ≡ Some s → (flat_table z.flat).leaf (slice_index numbers y) ≡ Some s
  table_moves {m = m} leads numbers are y s e =
      let known = known_of z leads in
      let gl = mapped ground_shape (slice_get known.g.leaves y) s e in
      let l = item (module_leaves m) y (subst (λ k. y < k) known.ground_is.counted (below_length known.g.leaves y gl.0 gl.1)) in
      let x = number_at z.fitted z.well z.lowered z.is z.driven z.expanded (spots z) (placed z) (match z) (lists z) leads numbers are no_instant y l.0 l.1 in
      let is_leaf = known.ground_is.leaves_are y l.0 gl.0 l.1 gl.1 in
      ap (flat_table z.flat).leaf x.2
      ∙ (table_at x.0 x.3.e x.3.there ∙ ap Some (same_leaf_shape x.3.e.1 l.0.1 x.3.typ ∙ (ap₂ shaped (sym is_leaf.kind) (sym is_leaf.width) ∙ gl.2)))

  -- an expression of a module under flat numbers
  pub moved_shape : {path : List ℕ} {n : ℕ} {m : TypedModule} {d : DrivenModule} {names : List ℕ} (leads : Way z path n m d names) (numbers : List ℕ) → AreNumbers z.driven (spots z) path n numbers
      → (g : Ground) (s : Shape) → shape g (table_of (known_of z leads).g.leaves) ≡ Some s → shape (with_numbers (slice_index numbers) g) (flat_table z.flat) ≡ Some s
  moved_shape leads numbers are = shape_moves (slice_index numbers) (table_of (known_of z leads).g.leaves) (flat_table z.flat) (table_moves leads numbers are) (λ m k. refl)

  -- the driver of a leaf of a module
  pub record OwnDriver (x : ℕ) (y : Standing) (o : Origin z x y) (driver : Ground) : Type 0 where
    pub g : Ground
    pub there : driver_in o.of.d o.of.y ≡ Some g
    pub moved : with_numbers (slice_index o.of.numbers) g ≡ driver
    pub leaf : GroundLeaf
    pub leaf_there : slice_get (known_of z o.of.leads).g.leaves o.of.y ≡ Some leaf
    pub is : IsDriver leaf o.of.y (known_of z o.of.leads).g.body g

  -- what a module has for a leaf
  pub drives_at : (x : ℕ) (y : Standing) (o : Origin z x y) → (leaf : GroundLeaf) × (slice_get (known_of z o.of.leads).g.leaves o.of.y ≡ Some leaf) × Drives leaf o.of.y (known_of z o.of.leads).g.body (driver_in o.of.d o.of.y)
  drives_at x y o =
      let known = known_of z o.of.leads in
      let gl = item known.g.leaves o.of.y (subst (λ k. o.of.y < k) (sym known.ground_is.counted) (below_length (module_leaves o.m) o.of.y (o.c, o.leaf) o.of.at)) in
      let g = item o.of.d.drivers o.of.y (subst (λ k. o.of.y < k) (sym known.driven_is.drivers.counted) (below_length known.g.leaves o.of.y gl.0 gl.1)) in
      (gl.0, gl.1, subst (λ w. Drives gl.0 o.of.y known.g.body w) (sym (ap lone_driver g.1)) (known.driven_is.drivers.each o.of.y gl.0 g.0 gl.1 g.1))

  pub own_driver_of : (x : ℕ) (y : Standing) (o : Origin z x y) (driver : Ground) → flat_driver z x ≡ Some driver → OwnDriver x y o driver
  own_driver_of x y o driver has =
      let g = mapped (with_numbers (slice_index o.of.numbers)) (driver_in o.of.d o.of.y) driver (sym o.of.has ∙ has) in
      let d = drives_at x y o in
      record { g = g.0; there = g.1; moved = g.2; leaf = d.0; leaf_there = d.1; is = subst (λ w. Drives d.0 o.of.y (known_of z o.of.leads).g.body w) g.1 d.2 }

  driver_shape : (x : ℕ) (y : Standing) → slice_get (all z) x ≡ Some y → (o : Origin z x y) (driver : Ground) → flat_driver z x ≡ Some driver → shape driver (flat_table z.flat) ≡ (flat_table z.flat).leaf x
  driver_shape x y e o driver has =
      let own = own_driver_of x y o driver has in
      let known = known_of z o.of.leads in
      let s : Shape = ground_shape own.leaf in
      let there : (table_of known.g.leaves).leaf o.of.y ≡ Some s = ap (option_map ground_shape) own.leaf_there in
      let inner : shape own.g (table_of known.g.leaves) ≡ Some s = own.is.shape (table_of known.g.leaves) known.ground_is.shaped there in
      ap (λ g. shape g (flat_table z.flat)) (sym own.moved)
      ∙ (moved_shape o.of.leads o.of.numbers o.of.are own.g s inner
      ∙ sym (ap (flat_table z.flat).leaf (sym (number_same z x y e o)) ∙ table_moves o.of.leads o.of.numbers o.of.are o.of.y s there))

  -- A driver has the kind and the width of its leaf.
  pub drivers_shaped : (x : ℕ) (leaf : GroundLeaf) (driver : Ground) → slice_get z.flat.leaves x ≡ Some leaf → flat_driver z x ≡ Some driver → shape driver (flat_table z.flat) ≡ Some (ground_shape leaf)
  drivers_shaped x leaf driver e has =
      let y = entry_at x leaf e in
      driver_shape x y.0 y.1 (origin z x y.0 y.1 driver has) driver has ∙ ap (option_map ground_shape) e
