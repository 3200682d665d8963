-- The driver of a flat leaf as that of a leaf of a module, and what it mentions.
use Rattle.std.proofs.Common.{◌≡◌, ℕ, zero, suc, ◌+◌, ◌<◌, ◌&&◌, Bool, true, false, not, List, [], ◌∷◌, ◌++◌, map, length, Option, Some, None, option_map, option_and_then, refl, sym, ap, ap₂, ◌∙◌, subst, arith, if◌then◌else◌, slice_index, true≢false, ⊎_elim, inl, inr}
use Rattle.std.specs.Prelude.{Contains, ◌⊎◌}
use Rattle.std.specs.List.{slice_get, flat_map, sum_by}
use Rattle.std.proofs.lemmas.Grind.{flat_map-append}
use Rattle.std.proofs.lemmas.List.Concat.{flat_map-cons}
use Rattle.fir_types.specs.declared.leaf.TypeLeaf.{TypeLeaf}
use Rattle.fir_types.specs.declared.leaf.PathStep.TheVariants as step
use Rattle.fir_types.specs.Leaves.{leaves}
use Rattle.fir_types.specs.Bundles.{instance_of}
use Rattle.fir_meaning.specs.Components.{TypedModule, Component, Leaf, Sort, An_input, An_output, A_wire, A_register, A_reset_register, A_memory, An_instance, A_node, component_named, module_at, target_in, typed_ports, flat, flat_through, is_clock, flow_of}
use Rattle.fir_meaning.specs.States.{Stands, is_port, is_register, is_source, is_driven, leaf_of}
use Rattle.fir_meaning.proofs.Settling.{flat_none, port_target, one_leaf}
use Rattle.fir_meaning.proofs.Ports.{component_found, instance_inside, target_sort, from_map}
use Rattle.fir_meaning.proofs.Tracking.{Contains-map}
use Rattle.circuit_laws.proofs.Reached.{known_module}
use Rattle.ground_net.specs.declared.ground.Ground.{Ground}
use Rattle.ground_net.specs.declared.circuit.DrivenModule.{DrivenModule}
use Rattle.ground_net.specs.declared.circuit.GroundInstance.{GroundInstance}
use Rattle.ground_net.specs.declared.circuit.GroundLeaf.{GroundLeaf}
use Rattle.ground_net.specs.declared.circuit.GroundRole.{GroundRole}
use Rattle.ground_net.specs.declared.circuit.GroundRole.TheVariants.{Input, Clock, Register, Plain}
use Rattle.ground_net.specs.Grounds.{mentions, joined}
use Rattle.ground_net.specs.Statements.{live}
use Rattle.ground_net.specs.Renumbering.{with_numbers}
use Rattle.ground_net.specs.Reads.{lone_driver}
use Rattle.ground_net.proofs.Layers.{renumbered_mentions}
use Rattle.expand_whens.specs.Expanding.{IsDriver, IsUndriven, Drives}
use Rattle.net_of_circuit.specs.FlatOrder.{Standing, all_leaves, flat_of}
use Rattle.net_of_circuit.specs.Numbers.{ModuleLeaf, module_leaves, leaves_of, leaves_before, number_of, role_of, SameReads}
use Rattle.flatten_instances.specs.FlatOrder.{Spot}
use Rattle.flatten_instances.specs.Numbers.{AreNumbers, driver_in, driver_with}
use Rattle.flatten_instances.specs.Instances as paths
use Rattle.flatten_instances.specs.Flat.{IsFlatDriver, IsLeafAt, is_input, by_its_module, by_its_holder, given}
use Rattle.net_laws.specs.Typed.{HasPortsFirst}
use Rattle.net_laws.proofs.Lists.{in_list, place_of, later, below_length, from_map_at, in_append}
use Rattle.net_laws.proofs.Accepted.{ports_first}
use Rattle.lowering_laws.proofs.Heights.{some_same, none_some}
use Rattle.lowering_laws.proofs.Parts.{item, instance_place, leaf_behind}
use Rattle.lowering_laws.proofs.Matching.{two_back, Known, at_main, behind, leads_at, leads_known, port_size}
use Rattle.lowering_laws.proofs.Seeing.{inner_leaf, ports_sum, found_leaf, entry_of}
use Rattle.lowering_laws.proofs.Driving.{leads_number}
use Rattle.lowering_laws.proofs.Whole.{Setting, design, spots, placed, Way, match, lists, driver_at}

-- Roles

abbrev role_by : Bool → Bool → Bool → GroundRole
role_by clock register input = if clock then Clock else if register then Register else if input then Input else Plain

both_true : (a b : Bool) → (a && b) ≡ true → (a ≡ true) × (b ≡ true)
both_true true b e = (refl, e)
both_true false b e = absurd (true≢false (sym e))

and_false : (p s : Bool) → s ≡ false → (p && s) ≡ false
and_false true s e = e
and_false false s e = refl

not_true : (b : Bool) → not b ≡ true → b ≡ false
not_true true e = absurd (true≢false (sym e))
not_true false e = refl

-- what a leaf is by its parts
pub role_is : (c : Component) (leaf : TypeLeaf) (clock register input : Bool) → is_clock leaf ≡ clock → is_register c.declaration.sort ≡ register
    → (is_port c.declaration.sort && is_source (flow_of c.declaration.sort leaf.flip)) ≡ input → role_of (c, leaf) ≡ role_by clock register input
role_is c leaf clock register input e f g =
    ap (λ x. if x then Clock else if is_register c.declaration.sort then Register else if is_port c.declaration.sort && is_source (flow_of c.declaration.sort leaf.flip) then Input else Plain) e
    ∙ (ap (λ x. if clock then Clock else if x then Register else if is_port c.declaration.sort && is_source (flow_of c.declaration.sort leaf.flip) then Input else Plain) f
    ∙ ap (λ x. if clock then Clock else if register then Register else if x then Input else Plain) g)

no_input : (clock register : Bool) → is_input (role_by clock register false) ≡ false
no_input true register = refl
no_input false true = refl
no_input false false = refl

-- what statements may set is no input
pub set_not_input : (c : Component) (leaf : TypeLeaf) → is_source (flow_of c.declaration.sort leaf.flip) ≡ false → is_input (role_of (c, leaf)) ≡ false
set_not_input c leaf s =
    ap is_input (role_is c leaf (is_clock leaf) (is_register c.declaration.sort) false refl refl (and_false (is_port c.declaration.sort) _ s)) ∙ no_input (is_clock leaf) (is_register c.declaration.sort)

pub no_port_not_input : (c : Component) (leaf : TypeLeaf) → is_port c.declaration.sort ≡ false → is_input (role_of (c, leaf)) ≡ false
no_port_not_input c leaf p =
    ap is_input (role_is c leaf (is_clock leaf) (is_register c.declaration.sort) false refl refl (ap (λ x. x && is_source (flow_of c.declaration.sort leaf.flip)) p)) ∙ no_input (is_clock leaf) (is_register c.declaration.sort)

pub port_held : (sort : Sort) → is_port sort ≡ true → is_register sort ≡ false
port_held An_input e = refl
port_held An_output e = refl
port_held A_wire e = refl
port_held (A_register clock) e = absurd (true≢false (sym e))
port_held (A_reset_register clock reset init) e = absurd (true≢false (sym e))
port_held (A_memory memory) e = refl
port_held (An_instance target) e = refl
port_held (A_node expr) e = refl

pub port_input : (p : Component) (part : TypeLeaf) → is_port p.declaration.sort ≡ true → is_source (flow_of p.declaration.sort part.flip) ≡ true → is_clock part ≡ false → role_of (p, part) ≡ Input
port_input p part port source clock = role_is p part false false true clock (port_held p.declaration.sort port) (ap₂ (λ a b. a && b) port source)

pub driven_source : (c : Component) (leaf : TypeLeaf) → is_driven c leaf ≡ true → is_source (flow_of c.declaration.sort leaf.flip) ≡ false
driven_source c leaf d = not_true _ (both_true _ _ d).0

pub driven_register : (c : Component) (leaf : TypeLeaf) → is_driven c leaf ≡ true → is_register c.declaration.sort ≡ false
driven_register c leaf d = not_true _ (both_true _ _ (both_true _ _ d).1).0

pub driven_clock : (c : Component) (leaf : TypeLeaf) → is_driven c leaf ≡ true → is_clock leaf ≡ false
driven_clock c leaf d = not_true _ (both_true _ _ (both_true _ _ d).1).1

-- Lists

mapped : {A B : Type 0} (f : A → B) (o : Option A) (b : B) → option_map f o ≡ Some b → (a : A) × (o ≡ Some a) × (f a ≡ b)
mapped f None b e = none_some e
mapped f (Some a) b e = (a, refl, some_same e)

pub index_is : (xs : List ℕ) (y x : ℕ) → slice_get xs y ≡ Some x → slice_index xs y ≡ x
index_is [] y x e = none_some e
index_is (a ∷ xs) zero x e = some_same e
index_is (a ∷ xs) (suc y) x e = index_is xs y x e

snoc_same : (xs ys : List ℕ) (a b : ℕ) → xs ++ a ∷ [] ≡ ys ++ b ∷ [] → (xs ≡ ys) × (a ≡ b)
snoc_same [] [] a b e = (refl, head e) where
  head : a ∷ [] ≡ b ∷ [] → a ≡ b
  head e = cc
snoc_same [] (y ∷ []) a b e = absurd cc
snoc_same [] (y ∷ w ∷ ys) a b e = absurd cc
snoc_same (x ∷ []) [] a b e = absurd cc
snoc_same (x ∷ w ∷ xs) [] a b e = absurd cc
snoc_same (x ∷ xs) (y ∷ ys) a b e =
    let r = snoc_same xs ys a b (tails e) in
    (ap₂ (λ u v. u ∷ v) (heads e) r.0, r.1)
  where
    heads : x ∷ (xs ++ a ∷ []) ≡ y ∷ (ys ++ b ∷ []) → x ≡ y
    heads e = cc

    tails : x ∷ (xs ++ a ∷ []) ≡ y ∷ (ys ++ b ∷ []) → xs ++ a ∷ [] ≡ ys ++ b ∷ []
    tails e = cc

from_leaves : (p : Component) (l : TypeLeaf) (cs : List Component) (k : ℕ) → slice_get (flat_map leaves_of cs) k ≡ Some (p, l) → Contains cs p
from_leaves p l [] k e = none_some e
from_leaves p l (b ∷ cs) k e = ⊎_elim
    (λ here. let q = from_map_at (λ x. (b, x)) (leaves b.typ) k (p, l) here in (0, omega arith, ap (λ (x : ModuleLeaf). x.0) q.2))
    (λ there. later b cs p (from_leaves p l cs there.0 there.2))
    (in_append (leaves_of b) (flat_map leaves_of cs) k (p, l) (subst (λ x. slice_get x k ≡ Some (p, l)) (flat_map-cons leaves_of b cs) e))

-- A leaf of a port stands among the ports' leaves.
port_below : (m : TypedModule) (first : HasPortsFirst m) (j : ℕ) (p : Component) (l : TypeLeaf) → slice_get (module_leaves m) j ≡ Some (p, l) → is_port p.declaration.sort ≡ true → j < sum_by port_size m.components
port_below m first j p l e port =
    ⊎_elim
    (λ here.
    let below = below_length (flat_map leaves_of first.ports) j (p, l) here in
    let size = ports_sum m first in
    subst (λ n. j < n) (sym size) below)
    (λ there.
    let c = from_leaves p l first.others there.0 there.2 in
    absurd (true≢false (sym port ∙ first.none p c)))
    (in_append (flat_map leaves_of first.ports) (flat_map leaves_of first.others) j (p, l) (subst (λ x. slice_get x j ≡ Some (p, l)) (ap (flat_map leaves_of) first.are ∙ flat_map-append leaves_of first.ports first.others) e))

no_snoc : {B : Type 0} (xs : List ℕ) (a : ℕ) → [] ≡ xs ++ a ∷ [] → B
no_snoc [] a e = absurd cc
no_snoc (x ∷ xs) a e = absurd cc

head_same : {a b : ℕ} {p q : List ℕ} → a ∷ p ≡ b ∷ q → a ≡ b
head_same e = cc

tail_same : {a b : ℕ} {p q : List ℕ} → a ∷ p ≡ b ∷ q → p ≡ q
tail_same e = cc

module _ (z : Setting) where
  abbrev pub all : List Standing
  all = all_leaves (placed z)

  abbrev pub known_of : {path : List ℕ} {n : ℕ} {m : TypedModule} {d : DrivenModule} {names : List ℕ} → Way z path n m d names → Known z.fitted z.well z.lowered z.is z.driven z.expanded n m d
  known_of leads = leads_known z.fitted z.well z.lowered z.is z.driven z.expanded leads

  -- the driver of a flat leaf, where it has one
  abbrev pub flat_driver : ℕ → Option Ground
  flat_driver x = lone_driver (slice_get z.flat.drivers x)

  -- Numbers of a module's leaves

  module _ {path : List ℕ} {n : ℕ} {m : TypedModule} {d : DrivenModule} {names : List ℕ} (leads : Way z path n m d names) (numbers : List ℕ) (are : AreNumbers z.driven (spots z) path n numbers) where
    numbers_counted : length numbers ≡ length (module_leaves m)
    numbers_counted =
        let K = known_of leads in
        are.counted ∙ (ap (λ (w : DrivenModule). length w.leaves) (some_same (sym are.there ∙ K.driven_there)) ∙ (ap length K.driven_is.leaves ∙ K.ground_is.counted))

    -- a leaf of the module under its flat number
    pub numbered_at : (y : ℕ) (l : ModuleLeaf) → slice_get (module_leaves m) y ≡ Some l → (e : Standing) × (slice_get all (slice_index numbers y) ≡ Some e) × (flat_of e ≡ flat m names (leaf_of l.0 l.1))
    numbered_at y l e =
        let x = item numbers y (subst (λ k. y < k) (sym numbers_counted) (below_length (module_leaves m) y l e)) in
        let entry = entry_of z.fitted z.well z.lowered z.is z.driven z.expanded (spots z) (placed z) (match z) (lists z) leads l.0 l.1 numbers are y x.0 x.1 e in
        (entry.e, ap (slice_get all) (index_is numbers y x.0 x.1) ∙ entry.there, entry.is_flat)

    -- what is mentioned of the module's leaves, both ways
    pub only_named : (us : List Leaf) (ns : List ℕ) → SameReads m us ns → (x : ℕ) (w : Standing) → Contains (map (slice_index numbers) ns) x → slice_get all x ≡ Some w → (u : Leaf) × Contains us u × (flat m names u ≡ flat_of w)
    only_named us ns same x w c e =
        let at = from_map (slice_index numbers) ns x c in
        let u = same.only at.0 at.1 in
        let l = found_leaf m u.0 at.0 u.2 in
        let entry = numbered_at at.0 l.0 l.1 in
        let there : entry.0 ≡ w = some_same (sym entry.1 ∙ (ap (slice_get all) at.2 ∙ e)) in
        (u.0, u.1, ap (flat m names) (sym l.2) ∙ (sym entry.2 ∙ ap flat_of there))

    pub all_named : (us : List Leaf) (ns : List ℕ) → SameReads m us ns → (u : Leaf) → Contains us u
        → (x : ℕ) × (w : Standing) × (slice_get all x ≡ Some w) × (flat_of w ≡ flat m names u) × Contains (map (slice_index numbers) ns) x
    all_named us ns same u c =
        let at = same.all u c in
        let l = found_leaf m u at.0 at.1 in
        let entry = numbered_at at.0 l.0 l.1 in
        (slice_index numbers at.0, entry.0, entry.1, entry.2 ∙ ap (flat m names) l.2, Contains-map (slice_index numbers) ns at.0 at.2)

  -- Drivers

  -- The driver of a flat leaf is that of the leaf of a component of the module at a path, where it has one.
  pub record DriverOf (m : TypedModule) (names : List ℕ) (c : Component) (leaf : TypeLeaf) (o : Option Ground) : Type 0 where
    pub path : List ℕ
    pub n : ℕ
    pub d : DrivenModule
    pub leads : Way z path n m d names
    pub numbers : List ℕ
    pub are : AreNumbers z.driven (spots z) path n numbers
    pub y : ℕ
    pub at : slice_get (module_leaves m) y ≡ Some (c, leaf)
    pub has : o ≡ driver_with numbers (driver_in d y)

  -- the role of a leaf of a module
  input_is : (s : Spot) (m : TypedModule) (d : DrivenModule) (names : List ℕ) (leads : Way z s.path s.within m d names) (c : Component) (leaf : TypeLeaf) → slice_get (module_leaves m) s.number ≡ Some (c, leaf)
      → (gl : GroundLeaf) → IsLeafAt z.driven s gl → is_input gl.role ≡ is_input (role_of (c, leaf))
  input_is s m d names leads c leaf at gl there =
      let K = known_of leads in
      let same : there.m ≡ d = some_same (sym there.found ∙ K.driven_there) in
      let here : slice_get K.g.leaves s.number ≡ Some gl = ap (λ l. slice_get l s.number) (sym (ap (λ (w : DrivenModule). w.leaves) same ∙ K.driven_is.leaves)) ∙ there.there in
      ap is_input (K.ground_is.leaves_are s.number (c, leaf) gl at here).role

  -- The driver of a flat leaf that is no input is its module's.
  pub own_driver : (x : ℕ) (y : Standing) → slice_get all x ≡ Some y → is_input (role_of (y.0.c, y.1)) ≡ false → DriverOf y.0.m y.0.path y.0.c y.1 (flat_driver x)
  own_driver x y e plain =
      let o = driver_at z x y e in
      let back = two_back (match z) x y e in
      by back.0 back.2.d back.2.leads back.2.number o.0 (o.2 back.0 back.1) (ap lone_driver o.1)
    where
      by : (s : Spot) (d : DrivenModule) (leads : Way z s.path s.within y.0.m d y.0.path) → slice_get (module_leaves y.0.m) s.number ≡ Some (y.0.c, y.1) → (o : Option Ground) → IsFlatDriver z.driven (spots z) s o → flat_driver x ≡ o
          → DriverOf y.0.m y.0.path y.0.c y.1 (flat_driver x)
      by s d leads at o (by_its_module gl there numbers plainly are) q =
          let same : there.m ≡ d = some_same (sym there.found ∙ (known_of leads).driven_there) in
          record { path = s.path; n = s.within; d = d; leads = leads; numbers = numbers; are = are; y = s.number; at = at; has = q ∙ ap (λ (w : DrivenModule). driver_with numbers (driver_in w s.number)) same }
      by s d leads at o (by_its_holder gl path numbers i n holder gi there input way at' found inst are) q =
          absurd (true≢false (sym input ∙ (input_is s y.0.m d y.0.path leads y.0.c y.1 at gl there ∙ plain)))
      by s d leads at o (given gl there input way) q = absurd (true≢false (sym input ∙ (input_is s y.0.m d y.0.path leads y.0.c y.1 at gl there ∙ plain)))

  -- The driver of an input of an instance is its holder's.
  holders : (s : Spot) (m : TypedModule) (d : DrivenModule) (names : List ℕ) (leads : Way z s.path s.within m d names) (p : Component) (part : TypeLeaf) → slice_get (module_leaves m) s.number ≡ Some (p, part) → is_input (role_of (p, part)) ≡ true
      → {front outer : List ℕ} {k : ℕ} {m' : TypedModule} {holder : DrivenModule} (i : ℕ) (gi : GroundInstance) → Way z front k m' holder outer → s.path ≡ i ∷ front → slice_get holder.instances i ≡ Some gi
      → (o : Option Ground) → IsFlatDriver z.driven (spots z) s o → (numbers : List ℕ) × AreNumbers z.driven (spots z) front k numbers × (o ≡ driver_with numbers (driver_in holder (gi.first + s.number)))
  holders s m d names leads p part at is_in i gi leads' way inst o (by_its_module gl there numbers plainly are) =
      absurd (true≢false (sym is_in ∙ (sym (input_is s m d names leads p part at gl there) ∙ plainly)))
  holders s m d names leads p part at is_in {front} {outer} {k} {m'} {holder} i gi leads' way inst o (by_its_holder gl path' numbers i' k' holder' gi' there input way' number' found' inst' are) =
      let heads : i' ≡ i = head_same (sym way' ∙ way) in
      let tails : path' ≡ front = tail_same (sym way' ∙ way) in
      let number : k' ≡ k = some_same (sym number' ∙ (ap (paths.module_at z.driven) tails ∙ leads_number z.fitted z.well z.lowered z.is z.driven z.expanded leads')) in
      let holder_same : holder' ≡ holder = some_same (sym found' ∙ (ap (slice_get z.driven.modules) number ∙ (known_of leads').driven_there)) in
      let gi_same : gi' ≡ gi = some_same (sym inst' ∙ (ap₂ (λ (w : DrivenModule) v. slice_get w.instances v) holder_same heads ∙ inst)) in (
        numbers,
        subst (λ w. AreNumbers z.driven (spots z) front w numbers) number (subst (λ w. AreNumbers z.driven (spots z) w k' numbers) tails are),
        ap₂ (λ (w : DrivenModule) (v : GroundInstance). driver_with numbers (driver_in w (v.first + s.number))) holder_same gi_same,
      )
  holders s m d names leads p part at is_in i gi leads' way inst o (given gl there input way') = absurd (empty_cons (sym way' ∙ way)) where
    empty_cons : {a : ℕ} {q : List ℕ} → [] ≡ a ∷ q → ⊥
    empty_cons e = cc

  -- the leaf of the run that an own leaf is
  pub own_flat : (path : List ℕ) (m : TypedModule) (c : Component) (leaf : TypeLeaf) → component_named m c.declaration.name ≡ Some c → target_in c.declaration.sort ≡ None
      → flat m path (leaf_of c leaf) ≡ record { path = path; component = c.declaration.name; way = leaf.path }
  own_flat path m c leaf declared none =
      ap (λ o. flat_through path c.declaration.name o leaf.path) (ap (option_and_then (λ x. target_in x.declaration.sort)) declared ∙ none)
      ∙ flat_none path c.declaration.name leaf.path

  -- the entry of a leaf, where it is told of by another
  pub entry_here : (path : List ℕ) (m : TypedModule) (c : Component) (leaf : TypeLeaf) → Stands (design z) path m c leaf → target_in c.declaration.sort ≡ None → (x : ℕ) (y : Standing) → slice_get all x ≡ Some y
      → flat m path (leaf_of c leaf) ≡ flat_of y → y ≡ (record { path = path; m = m; c = c }, leaf)
  entry_here path m c leaf stands none x y e same =
      let L = lists z in
      let entry = L.own path m c leaf stands none in
      let x_same = L.once entry.0 x (record { path = path; m = m; c = c }, leaf) y entry.1 e (sym (own_flat path m c leaf stands.declared none) ∙ same) in
      some_same (sym e ∙ (ap (slice_get all) (sym x_same) ∙ entry.1))

  module _ (path : List ℕ) (m : TypedModule) (c : Component) (leaf : TypeLeaf) (stands : Stands (design z) path m c leaf) (target : ℕ) (sort : c.declaration.sort ≡ An_instance target) (x : ℕ) where
    from_behind : (s : Spot) (o : Option Ground) → IsFlatDriver z.driven (spots z) s o → flat_driver x ≡ o → (n : TypedModule) (p : Component) (part : TypeLeaf) → slice_get (module_leaves n) s.number ≡ Some (p, part)
        → is_port p.declaration.sort ≡ true → is_input (role_of (p, part)) ≡ true → leaf.path ≡ step.Field p.declaration.name ∷ part.path
        → (sp : List ℕ) (w : ℕ) (dd : DrivenModule) (nn : List ℕ) → Way z sp w n dd nn → sp ≡ s.path → w ≡ s.within → nn ≡ path ++ c.declaration.name ∷ [] → DriverOf m path c leaf (flat_driver x)
    from_behind s o flat_is driver_is n p part number port input way sp w dd nn (at_main main d at known) same_path same_within same_names = no_snoc path (c.declaration.name) same_names
    from_behind s o flat_is driver_is n p part number port input way sp w dd nn (behind {path = front} {n = k} {m = m'} {d = holder} {names = outer} i at target' ci gi _ child leads' part' there' placed' named' at' known') same_path same_within same_names =
        let outer_at = leads_at z.fitted z.well z.lowered z.is z.driven z.expanded leads' in
        let split = snoc_same outer path ci.declaration.name c.declaration.name same_names in
        let m_same : m' ≡ m = some_same (sym outer_at ∙ (ap (module_at (design z)) split.0 ∙ stands.reached)) in
        let component = instance_place m'.components i at ci target' part' in
        let declared' : component_named m' ci.declaration.name ≡ Some ci = z.well.bundles.names outer m' ci outer_at (in_list m'.components at ci component.0) in
        let c_same : ci ≡ c = some_same (sym declared' ∙ (ap₂ component_named m_same split.1 ∙ stands.declared)) in
        let bundle = z.well.bundles.instances outer m' ci target' outer_at declared' (target_sort ci.declaration.sort target' component.1) in
        let n_same : bundle.0 ≡ n = some_same (sym bundle.1 ∙ named') in
        let first = ports_first z.fitted z.well (outer ++ ci.declaration.name ∷ []) n at' in
        let inner = inner_leaf n first s.number p part number (port_below n first s.number p part number port) in
        let there_leaf : slice_get (leaves c.typ) s.number ≡ Some inner.leaf =
        ap (λ (w : Component). slice_get (leaves w.typ) s.number) (sym c_same) ∙ (ap (λ l. slice_get l s.number) (bundle.2 ∙ ap (λ (w : TypedModule). leaves (instance_of (typed_ports w))) n_same) ∙ inner.there) in
        let listed = place_of (leaves c.typ) leaf stands.listed in
        let place_same : s.number ≡ listed.0 =
        (known_module z.fitted z.well path m stands.reached).typed.ways c s.number listed.0 inner.leaf leaf (component_found m c.declaration.name c stands.declared).1 there_leaf listed.1 (inner.way ∙ sym way) in
        let leaf_at : slice_get (leaves ci.typ) s.number ≡ Some leaf = ap₂ (λ (w : Component) v. slice_get (leaves w.typ) v) c_same place_same ∙ listed.1 in
        let leaf_there : slice_get (module_leaves m') (leaves_before m' at + s.number) ≡ Some (ci, leaf) = leaf_behind m'.components at ci s.number leaf component.0 leaf_at in
        let leads_s : Way z s.path s.within n child (outer ++ ci.declaration.name ∷ []) =
        subst (λ w. Way z w s.within n child (outer ++ ci.declaration.name ∷ [])) same_path (subst (λ w. Way z (i ∷ front) w n child (outer ++ ci.declaration.name ∷ [])) same_within
        (behind i at target' ci gi n child leads' part' there' placed' named' at' known')) in
        let r = holders s n child (outer ++ ci.declaration.name ∷ []) leads_s p part number input i gi leads' (sym same_path) there' o flat_is in
        let number_there : slice_get (module_leaves m') (gi.first + s.number) ≡ Some (ci, leaf) = ap (λ w. slice_get (module_leaves m') (w + s.number)) placed'.first ∙ leaf_there in
        record {
          path = front;
          n = k;
          d = holder;
          leads = subst (λ w. Way z front k w holder path) m_same (subst (λ w. Way z front k m' holder w) split.0 leads');
          numbers = r.0;
          are = r.1;
          y = gi.first + s.number;
          at = ap (λ (w : TypedModule). slice_get (module_leaves w) (gi.first + s.number)) (sym m_same) ∙ (number_there ∙ ap (λ (w : Component). Some (w, leaf)) c_same);
          has = driver_is ∙ r.2;
        }

    turned_of : (flip : Bool) → is_source (flow_of (An_instance target) flip) ≡ false → flip ≡ true
    turned_of true e = refl
    turned_of false e = absurd (true≢false e)

    pub behind_driver : is_source (flow_of c.declaration.sort leaf.flip) ≡ false → is_clock leaf ≡ false → (y : Standing) → slice_get all x ≡ Some y → flat m path (leaf_of c leaf) ≡ flat_of y → DriverOf m path c leaf (flat_driver x)
    behind_driver source clock y e same =
        let in_ = instance_inside (design z) z.well.bundles path m c leaf target stands sort in
        let n : TypedModule = in_.0 in
        let p : Component = in_.1 in
        let part : TypeLeaf = in_.2 in
        let inner = in_.3 in
        let port : is_port p.declaration.sort ≡ true = in_.4 in
        let turned : leaf.flip ≡ true = turned_of leaf.flip (ap (λ w. is_source (flow_of w leaf.flip)) (sym sort) ∙ source) in
        let names : List ℕ = path ++ c.declaration.name ∷ [] in
        let is : y ≡ (record { path = names; m = n; c = p }, part) =
        entry_here names n p part inner (port_target p.declaration.sort port) x y e (sym (one_leaf path m n c p leaf part target stands.declared sort inner.declared port in_.6) ∙ same) in
        let here : slice_get all x ≡ Some (record { path = names; m = n; c = p }, part) = e ∙ ap Some is in
        let o = driver_at z x (record { path = names; m = n; c = p }, part) here in
        let back = two_back (match z) x (record { path = names; m = n; c = p }, part) here in
        let s : Spot = back.0 in
        let it = back.2 in
        let input : is_input (role_of (p, part)) ≡ true = ap is_input (port_input p part port (in_.5 ∙ turned) (sym in_.7 ∙ clock)) in
        from_behind s o.0 (o.2 s back.1) (ap lone_driver o.1) n p part it.number port input in_.6 s.path s.within it.d names it.leads refl refl refl

  -- The driver of a leaf that statements may set.
  pub set_driver : (path : List ℕ) (m : TypedModule) (c : Component) (leaf : TypeLeaf) → Stands (design z) path m c leaf → is_source (flow_of c.declaration.sort leaf.flip) ≡ false → is_clock leaf ≡ false
      → (x : ℕ) (y : Standing) → slice_get all x ≡ Some y → flat m path (leaf_of c leaf) ≡ flat_of y → DriverOf m path c leaf (flat_driver x)
  set_driver path m c leaf stands source clock x y e same = by (target_in c.declaration.sort) refl where
    by : (t : Option ℕ) → target_in c.declaration.sort ≡ t → DriverOf m path c leaf (flat_driver x)
    by None q = own_driver x (record { path = path; m = m; c = c }, leaf) (e ∙ ap Some (entry_here path m c leaf stands q x y e same)) (set_not_input c leaf source)
    by (Some target) q = behind_driver path m c leaf stands target (target_sort c.declaration.sort target q) x source clock y e same

  -- What a driver mentions

  module _ (m : TypedModule) (names : List ℕ) (c : Component) (leaf : TypeLeaf) (o : Option Ground) (D : DriverOf m names c leaf o) where
    abbrev pub K : Known z.fitted z.well z.lowered z.is z.driven z.expanded D.n m D.d
    K = known_of D.leads

    -- what the module has for the leaf and its driver
    pub own_drives : (gl : GroundLeaf) × (gl.role ≡ role_of (c, leaf)) × Drives gl D.y K.g.body (driver_in D.d D.y)
    own_drives =
        let gl = item K.g.leaves D.y (subst (λ k. D.y < k) (sym K.ground_is.counted) (below_length (module_leaves m) D.y (c, leaf) D.at)) in
        let g = item D.d.drivers D.y (subst (λ k. D.y < k) (sym K.driven_is.drivers.counted) (below_length K.g.leaves D.y gl.0 gl.1)) in
        (gl.0, (K.ground_is.leaves_are D.y (c, leaf) gl.0 D.at gl.1).role, subst (λ w. Drives gl.0 D.y K.g.body w) (sym (ap lone_driver g.1)) (K.driven_is.drivers.each D.y gl.0 g.0 gl.1 g.1))

    is_driver : (g : Ground) → driver_in D.d D.y ≡ Some g → IsDriver own_drives.0 D.y K.g.body g
    is_driver g e = subst (λ w. Drives own_drives.0 D.y K.g.body w) e own_drives.2

    -- What a driver mentions is what the leaf reads, and of a register the leaf itself besides.
    pub only_read : (us : List Leaf) → SameReads m us (joined (live D.y K.g.body)) → (driver : Ground) → o ≡ Some driver → (x : ℕ) (w : Standing) → Contains (mentions driver) x → slice_get all x ≡ Some w
        → ((u : Leaf) × Contains us u × (flat m names u ≡ flat_of w)) ⊎ ((role_of (c, leaf) ≡ Register) × (flat m names (leaf_of c leaf) ≡ flat_of w))
    only_read us same driver e x w h there =
        let g = mapped (with_numbers (slice_index D.numbers)) (driver_in D.d D.y) driver (sym D.has ∙ e) in
        let told : mentions driver ≡ map (slice_index D.numbers) (mentions g.0) = sym (ap mentions g.2) ∙ renumbered_mentions (slice_index D.numbers) g.0 in
        let at = from_map (slice_index D.numbers) (mentions g.0) x (subst (λ l. Contains l x) told h) in
        ⊎_elim
        (λ l. inl (only_named D.leads D.numbers D.are us (joined (live D.y K.g.body)) same x w (subst (Contains (map (slice_index D.numbers) (joined (live D.y K.g.body)))) at.2 (Contains-map (slice_index D.numbers) (joined (live D.y K.g.body)) at.0 l)) there))
        (λ r.
        let entry = numbered_at D.leads D.numbers D.are D.y (c, leaf) D.at in
        let here : entry.0 ≡ w = some_same (sym entry.1 ∙ (ap (λ k. slice_get all (slice_index D.numbers k)) (sym r.1) ∙ (ap (slice_get all) at.2 ∙ there))) in
        inr (sym own_drives.1 ∙ r.0, sym entry.2 ∙ ap flat_of here))
        ((is_driver g.0 g.1).reads at.0 at.1)

    -- What a leaf reads has an entry, and is mentioned.
    pub all_read : (us : List Leaf) → SameReads m us (joined (live D.y K.g.body)) → (u : Leaf) → Contains us u
        → (driver : Ground) × (o ≡ Some driver) × (x : ℕ) × (w : Standing) × (slice_get all x ≡ Some w) × (flat_of w ≡ flat m names u) × Contains (mentions driver) x
    all_read us same u h = by (driver_in D.d D.y) refl where
      at : (y : ℕ) × (number_of m u ≡ Some y) × Contains (joined (live D.y K.g.body)) y
      at = same.all u h

      by : (g : Option Ground) → driver_in D.d D.y ≡ g → (driver : Ground) × (o ≡ Some driver) × (x : ℕ) × (w : Standing) × (slice_get all x ≡ Some w) × (flat_of w ≡ flat m names u) × Contains (mentions driver) x
      by None q = absurd ((undriven q).all at.0 at.2) where
        undriven : driver_in D.d D.y ≡ None → IsUndriven D.y K.g.body
        undriven q = subst (λ w. Drives own_drives.0 D.y K.g.body w) q own_drives.2
      by (Some g) q =
          let l = found_leaf m u at.0 at.1 in
          let entry = numbered_at D.leads D.numbers D.are at.0 l.0 l.1 in (
            with_numbers (slice_index D.numbers) g,
            D.has ∙ ap (driver_with D.numbers) q,
            slice_index D.numbers at.0,
            entry.0,
            entry.1,
            entry.2 ∙ ap (flat m names) l.2,
            subst (λ l. Contains l (slice_index D.numbers at.0)) (sym (renumbered_mentions (slice_index D.numbers) g)) (Contains-map (slice_index D.numbers) (mentions g) at.0 ((is_driver g q).all at.0 at.2)),
          )
