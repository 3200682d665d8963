-- What a module sees of the run: the leaves by their numbers, and the circuit's valuation, are the same.
use Rattle.std.proofs.Common.{◌≡◌, ℕ, zero, suc, ◌+◌, ◌==◌, ◌<◌, ◌&&◌, Bool, true, false, List, [], ◌∷◌, ◌++◌, map, length, Option, Some, None, option_map, option_and_then, refl, sym, ap, ap₂, ◌∙◌, subst, arith, if◌then◌else◌, slice_index, true≢false, ⊎_elim}
use Rattle.std.specs.Prelude.{Contains, get_or}
use Rattle.std.specs.List.{slice_get, flat_map, cons_option, sum_by, position}
use Rattle.std.proofs.lemmas.Grind.{common_steps, flat_map-append}
use Rattle.std.proofs.lemmas.List.Concat.{flat_map-cons}
use Rattle.std.proofs.lemmas.List.Sums.{sum_by-cons, sum_by-append}
use Rattle.std.proofs.lemmas.List.Quantifiers.{position-Some}
use Rattle.bit_words.specs.Values.{integer_of}
use Rattle.fir_types.specs.declared.fir_type.FirType.{FirType}
use Rattle.fir_types.specs.declared.leaf.TypeLeaf.{TypeLeaf}
use Rattle.fir_types.specs.declared.leaf.PathStep.{PathStep}
use Rattle.fir_types.specs.declared.leaf.PathStep.TheVariants as step
use Rattle.fir_types.specs.Leaves.{leaves, under}
use Rattle.fir_types.specs.declared.port.Port.{Port}
use Rattle.fir_types.specs.Bundles.{instance_of, instance_field}
use Rattle.fir_tree.specs.declared.scope.Fitted.{Fitted}
use Rattle.fir_meaning.specs.Components.{Design, TypedModule, Component, Leaf, FlatLeaf, design_of, module_named, component_named, target_of, target_in, typed_ports, kind_of_leaf, width_of_leaf, flat, flat_through}
use Rattle.fir_meaning.specs.Values.{Valuation}
use Rattle.fir_meaning.specs.Drives.{same_leaf}
use Rattle.fir_meaning.specs.Mentions.{Agree}
use Rattle.fir_meaning.specs.States.{is_port, leaf_of}
use Rattle.fir_meaning.specs.WellTyped.{leaf_shape}
use Rattle.fir_meaning.proofs.Settling.{at, local, local_at, flat_none}
use Rattle.fir_meaning.proofs.Ports.{target_is, target_sort}
use Rattle.circuit_laws.specs.WellFormed.{IsWellFormed}
use Rattle.prim_ops.specs.Shapes.{shape_of_value}
use Rattle.ground_net.specs.declared.circuit.GroundCircuit.{GroundCircuit}
use Rattle.ground_net.specs.declared.circuit.DrivenCircuit.{DrivenCircuit}
use Rattle.ground_net.specs.declared.circuit.DrivenModule.{DrivenModule}
use Rattle.ground_net.specs.declared.circuit.GroundInstance.{GroundInstance}
use Rattle.ground_net.specs.declared.circuit.GroundLeaf.{GroundLeaf}
use Rattle.ground_net.specs.Grounds.{Instant}
use Rattle.ground_net.specs.Renumbering.{seen_by}
use Rattle.ground_net.specs.Shapes.{HasShapes, shaped}
use Rattle.ground_net.specs.Cycles.{integer_at}
use Rattle.expand_whens.specs.Expanding.{IsExpanded}
use Rattle.net_of_circuit.specs.FlatOrder.{Placed, Standing, all_leaves, flat_of, ListsLeaves}
use Rattle.net_of_circuit.specs.NetOf.{valuation_of}
use Rattle.net_of_circuit.specs.Numbers.{ModuleLeaf, module_leaves, leaves_of, leaves_before, number_of, scene_at, table_of, ground_shape, instance_parts}
use Rattle.net_of_circuit.specs.Lowering.{IsGroundOf}
use Rattle.flatten_instances.specs.FlatOrder.{Spot, spot}
use Rattle.flatten_instances.specs.Numbers.{StandsAt, its_own, of_instance, AreNumbers}
use Rattle.net_laws.specs.Typed.{HasPortsFirst}
use Rattle.net_laws.proofs.Numbers.{valuation_at, way_is}
use Rattle.net_laws.proofs.Lists.{in_list, later, below_length, map_at, from_map_at, in_append, first_of, second_of}
use Rattle.net_laws.proofs.Accepted.{ports_first}
use Rattle.lowering_laws.proofs.Heights.{some_same, none_some}
use Rattle.lowering_laws.proofs.Inside.{port_there, port_sort, instance_leaves}
use Rattle.lowering_laws.proofs.Parts.{leaves_counted_of, item, instance_place, leaf_behind}
use Rattle.lowering_laws.proofs.Matching.{Two, two_at, Known, Leads, at_main, behind, leads_at, leads_known, IsAt, field_leaves_of, ports_of_list, port_size, flat_map_map, map_counted, length_append}

abbrev leaf_of_type : FirType → TypeLeaf
leaf_of_type t = record { path = []; flip = false; typ = t }

-- A leaf's shape is a matter of its type alone.
same_leaf_shape : (a b : TypeLeaf) → a.typ ≡ b.typ → leaf_shape a ≡ leaf_shape b
same_leaf_shape a b e = ap (λ t. shaped (kind_of_leaf (leaf_of_type t)) (width_of_leaf (leaf_of_type t))) e

-- The leaf of a number among those of a module.

got : {A : Type 0} (xs : List A) (k : ℕ) (o x : A) → slice_get xs k ≡ Some x → get_or xs k o ≡ x
got [] k o x e = none_some e
got (a ∷ xs) zero o x e = some_same e
got (a ∷ xs) (suc k) o x e = got xs k o x e

both_true : (a b : Bool) → (a && b) ≡ true → (a ≡ true) × (b ≡ true)
both_true true b e = (refl, e)
both_true false b e = absurd (true≢false (sym e))

same_number : (a b : ℕ) → (a == b) ≡ true → a ≡ b
same_number a b e = grind (arith, common_steps)

abbrev make_flat : List ℕ → ℕ → List PathStep → FlatLeaf
make_flat path c way = record { path = path; component = c; way = way }

abbrev make_leaf : ℕ → List PathStep → Leaf
make_leaf c way = record { component = c; way = way }

leaf_is : (a b : Leaf) → same_leaf a b ≡ true → a ≡ b
leaf_is a b e = let t = both_true _ _ e in ap₂ make_leaf (same_number a.component b.component t.0) (way_is a.way b.way t.1)

position_item : {A : Type 0} (p : A → Bool) (xs : List A) (y : ℕ) → position p xs ≡ Some y → (l : A) × (slice_get xs y ≡ Some l) × (p l ≡ true)
position_item p [] y e = absurd cc
position_item p (d ∷ xs) y e =
    let q = position-Some p (d ∷ xs) y d e in
    let l = item (d ∷ xs) y q.0 in
    (l.0, l.1, ap p (sym (got (d ∷ xs) y d l.0 l.1)) ∙ q.1)

pub found_leaf : (m : TypedModule) (z : Leaf) (y : ℕ) → number_of m z ≡ Some y → (l : ModuleLeaf) × (slice_get (module_leaves m) y ≡ Some l) × (leaf_of l.0 l.1 ≡ z)
found_leaf m z y e =
    let r = position_item (λ l. same_leaf (leaf_of l.0 l.1) z) (module_leaves m) y e in
    (r.0, r.1, leaf_is (leaf_of r.0.0 r.0.1) z r.2)

-- Ports of an instance

port_flip : Port → Bool
port_flip port = (instance_field port).flip

instance_fields : (m : TypedModule) → leaves (instance_of (typed_ports m)) ≡ flat_map field_leaves_of (ports_of_list m.components)
instance_fields m = instance_leaves (typed_ports m) ∙ flat_map_map (λ f. map (under (step.Field f.name.id ∷ []) f.flip) (leaves f.typ)) instance_field (typed_ports m)

-- leaf j of the ports of some components is that of the instance
pub record PortLeaf (fields : List TypeLeaf) (j : ℕ) (p : Component) (l : TypeLeaf) : Type 0 where
  pub leaf : TypeLeaf
  pub there : slice_get fields j ≡ Some leaf
  pub way : leaf.path ≡ step.Field p.declaration.name ∷ l.path
  pub typ : leaf.typ ≡ l.typ
  pub port : is_port p.declaration.sort ≡ true

fields_of_port : (p : Component) (port : Port) → port.name.id ≡ p.declaration.name → port.typ ≡ p.typ → is_port p.declaration.sort ≡ true → (j : ℕ) (l : TypeLeaf) → slice_get (leaves p.typ) j ≡ Some l → PortLeaf (field_leaves_of port) j p l
fields_of_port p port name typ is j l e =
    let f = instance_field port in
    record {
      leaf = under (step.Field f.name.id ∷ []) f.flip l;
      there = map_at (under (step.Field f.name.id ∷ []) f.flip) (leaves f.typ) j l (ap (λ t. slice_get (leaves t) j) typ ∙ e);
      way = ap (λ id. step.Field id ∷ l.path) name;
      typ = refl;
      port = is;
    }

port_leaf_at : (ports : List Component) → ((c : Component) → Contains ports c → is_port c.declaration.sort ≡ true) → (rest : List Component) (j : ℕ) (p : Component) (l : TypeLeaf) → slice_get (flat_map leaves_of ports) j ≡ Some (p, l)
    → PortLeaf (flat_map field_leaves_of (ports_of_list (ports ++ rest))) j p l
port_leaf_at [] all rest j p l e = none_some e
port_leaf_at (c ∷ ports) all rest j p l e =
    let is : is_port c.declaration.sort ≡ true = all c (0, omega arith, refl) in
    let port = port_there c c.declaration.sort is in
    let known = port_sort c c.declaration.sort port.0 port.1 in
    let fields = field_leaves_of port.0 in
    let more = flat_map field_leaves_of (ports_of_list (ports ++ rest)) in
    let split : flat_map field_leaves_of (ports_of_list (c ∷ (ports ++ rest))) ≡ fields ++ more =
    ap (λ o. flat_map field_leaves_of (cons_option o (ports_of_list (ports ++ rest)))) port.1 ∙ flat_map-cons field_leaves_of port.0 (ports_of_list (ports ++ rest)) in
    let counted : length fields ≡ length (leaves_of c) = map_counted _ (leaves port.0.typ) ∙ (ap (λ t. length (leaves t)) known.2 ∙ sym (leaves_counted_of c)) in
    ⊎_elim
    (λ here.
    let q = from_map_at (λ x. (c, x)) (leaves c.typ) j (p, l) here in
    let same : c ≡ p = ap (λ (x : ModuleLeaf). x.0) q.2 in
    let leaf : slice_get (leaves p.typ) j ≡ Some l = ap (λ (x : Component). slice_get (leaves x.typ) j) (sym same) ∙ (q.1 ∙ ap Some (ap (λ (x : ModuleLeaf). x.1) q.2)) in
    let r = fields_of_port p port.0 (known.1 ∙ ap (λ (x : Component). x.declaration.name) same) (known.2 ∙ ap (λ (x : Component). x.typ) same) (ap (λ (x : Component). is_port x.declaration.sort) (sym same) ∙ is) j l leaf in
    record { leaf = r.leaf; there = ap (λ x. slice_get x j) split ∙ first_of fields more j r.leaf r.there; way = r.way; typ = r.typ; port = r.port })
    (λ there.
    let r = port_leaf_at ports (λ d h. all d (later c ports d h)) rest there.0 p l there.2 in
    let n : j ≡ length fields + there.0 = there.1 ∙ ap (λ z. z + there.0) (sym counted) in
    record { leaf = r.leaf; there = ap₂ slice_get split n ∙ second_of fields more there.0 r.leaf r.there; way = r.way; typ = r.typ; port = r.port })
    (in_append (leaves_of c) (flat_map leaves_of ports) j (p, l) (subst (λ x. slice_get x j ≡ Some (p, l)) (flat_map-cons leaves_of c ports) e))

front_part : {A : Type 0} (xs ys : List A) (k : ℕ) (x : A) → slice_get (xs ++ ys) k ≡ Some x → k < length xs → slice_get xs k ≡ Some x
front_part [] ys k x e h = absurd (omega arith)
front_part (a ∷ xs) ys zero x e h = e
front_part (a ∷ xs) ys (suc k) x e h = front_part xs ys k x e (omega arith)

ports_only : (ports : List Component) → ((c : Component) → Contains ports c → is_port c.declaration.sort ≡ true) → sum_by port_size ports ≡ length (flat_map leaves_of ports)
ports_only [] all = grind (arith, common_steps)
ports_only (c ∷ ports) all =
    let r = ports_only ports (λ d h. all d (later c ports d h)) in
    let own : port_size c ≡ length (leaves c.typ) = ap (λ b. if b then length (leaves c.typ) else 0) (all c (0, omega arith, refl)) in
    let n = sum_by-cons port_size c ports in
    let k : length (flat_map leaves_of (c ∷ ports)) ≡ length (leaves_of c) + length (flat_map leaves_of ports) = ap length (flat_map-cons leaves_of c ports) ∙ length_append (leaves_of c) (flat_map leaves_of ports) in
    let q = leaves_counted_of c in
    grind (arith, common_steps, r, own, n, k, q)

others_none : (others : List Component) → ((c : Component) → Contains others c → is_port c.declaration.sort ≡ false) → sum_by port_size others ≡ 0
others_none [] none = grind (arith, common_steps)
others_none (c ∷ others) none =
    let r = others_none others (λ d h. none d (later c others d h)) in
    let own : port_size c ≡ 0 = ap (λ b. if b then length (leaves c.typ) else 0) (none c (0, omega arith, refl)) in
    let n = sum_by-cons port_size c others in
    grind (arith, common_steps, r, own, n)

-- How many leaves the ports of a module have.
pub ports_sum : (m : TypedModule) (first : HasPortsFirst m) → sum_by port_size m.components ≡ length (flat_map leaves_of first.ports)
ports_sum m first =
    ap (sum_by port_size) first.are ∙ (sum_by-append port_size first.ports first.others ∙ (ap₂ (λ a b. a + b) (ports_only first.ports first.all) (others_none first.others first.none) ∙ plus_zero (length (flat_map leaves_of first.ports))))
  where
    plus_zero : (n : ℕ) → n + 0 ≡ n
    plus_zero n = omega arith

-- A leaf of a port of a module is one of the instance's.
pub inner_leaf : (m : TypedModule) (first : HasPortsFirst m) (j : ℕ) (p : Component) (l : TypeLeaf) → slice_get (module_leaves m) j ≡ Some (p, l) → j < sum_by port_size m.components → PortLeaf (leaves (instance_of (typed_ports m))) j p l
inner_leaf m first j p l e h =
    let size = ports_sum m first in
    let here : slice_get (flat_map leaves_of first.ports) j ≡ Some (p, l) =
    front_part (flat_map leaves_of first.ports) (flat_map leaves_of first.others) j (p, l)
    (subst (λ x. slice_get x j ≡ Some (p, l)) (ap (flat_map leaves_of) first.are ∙ flat_map-append leaves_of first.ports first.others) e) (subst (λ n. j < n) size h) in
    let r = port_leaf_at first.ports first.all first.others j p l here in
    record { leaf = r.leaf; there = ap (λ x. slice_get x j) (instance_fields m ∙ ap (λ cs. flat_map field_leaves_of (ports_of_list cs)) first.are) ∙ r.there; way = r.way; typ = r.typ; port = r.port }

module _ (fitted : Fitted) (well : IsWellFormed fitted) (lowered : GroundCircuit) (is : IsGroundOf fitted lowered) (driven : DrivenCircuit) (expanded : IsExpanded lowered driven) where
  abbrev design : Design
  design = design_of fitted

  abbrev Way : List ℕ → ℕ → TypedModule → DrivenModule → List ℕ → Type 0
  Way = Leads fitted well lowered is driven expanded

  -- A path leads to one module, at one path of names.
  pub record One (n n' : ℕ) (m m' : TypedModule) (d d' : DrivenModule) (names names' : List ℕ) : Type 0 where
    pub number : n ≡ n'
    pub typed : m ≡ m'
    pub driven_same : d ≡ d'
    pub named : names ≡ names'

  pub leads_one : {path : List ℕ} {n n' : ℕ} {m m' : TypedModule} {d d' : DrivenModule} {names names' : List ℕ} → Way path n m d names → Way path n' m' d' names' → One n n' m m' d d' names names'
  leads_one (at_main m d at known) (at_main m' d' at' known') = record {
    number = refl;
    typed = some_same (sym at ∙ at');
    driven_same = some_same (sym known.driven_there ∙ known'.driven_there);
    named = refl;
  }
  leads_one (behind i a target c gi inner child leads part there placed named at known) (behind _ a' target' c' gi' inner' child' leads' part' there' placed' named' at' known') =
      let o = leads_one leads leads' in
      let parts : (a, c, target) ≡ (a', c', target') = some_same {A = ℕ × Component × ℕ} (sym part ∙ (ap (λ (m : TypedModule). slice_get (instance_parts m.components) i) o.typed ∙ part')) in
      let same : gi ≡ gi' = some_same (sym there ∙ (ap (λ (d : DrivenModule). slice_get d.instances i) o.driven_same ∙ there')) in
      record {
        number = ap (λ (g : GroundInstance). g.module) same;
        typed = some_same (sym named ∙ (ap (module_named design) (ap (λ p. p.2) parts) ∙ named'));
        driven_same = some_same (sym known.driven_there ∙ (ap (λ (g : GroundInstance). slice_get driven.modules g.module) same ∙ known'.driven_there));
        named = ap₂ (λ p (x : Component). p ++ x.declaration.name ∷ []) o.named (ap (λ p. p.1) parts);
      }

  module _ (spots : List Spot) (placed : List Placed) (match : Two (IsAt fitted well lowered is driven expanded) spots (all_leaves placed)) (lists : ListsLeaves design placed) where
    -- A leaf of a module under its flat number is an entry of the circuit.
    pub record Entry (m : TypedModule) (names : List ℕ) (c : Component) (leaf : TypeLeaf) (x : ℕ) : Type 0 where
      pub e : Standing
      pub there : slice_get (all_leaves placed) x ≡ Some e
      pub is_flat : flat_of e ≡ flat m names (leaf_of c leaf)
      pub typ : e.1.typ ≡ leaf.typ

    module _ {path : List ℕ} {n : ℕ} {m : TypedModule} {d : DrivenModule} {names : List ℕ} (leads : Way path n m d names) (c : Component) (leaf : TypeLeaf) where
      among : (y : ℕ) → slice_get (module_leaves m) y ≡ Some (c, leaf) → Contains m.components c
      among y e = from_leaves m.components y e where
        from_leaves : (cs : List Component) (y : ℕ) → slice_get (flat_map leaves_of cs) y ≡ Some (c, leaf) → Contains cs c
        from_leaves [] y e = none_some e
        from_leaves (b ∷ cs) y e = ⊎_elim
            (λ here. let q = from_map_at (λ x. (b, x)) (leaves b.typ) y (c, leaf) here in (0, omega arith, ap (λ (x : ModuleLeaf). x.0) q.2))
            (λ there. later b cs c (from_leaves cs there.0 there.2))
            (in_append (leaves_of b) (flat_map leaves_of cs) y (c, leaf) (subst (λ l. slice_get l y ≡ Some (c, leaf)) (flat_map-cons leaves_of b cs) e))

      declared : (y : ℕ) → slice_get (module_leaves m) y ≡ Some (c, leaf) → component_named m c.declaration.name ≡ Some c
      declared y e = well.bundles.names names m c (leads_at fitted well lowered is driven expanded leads) (among y e)

      own_entry : (x y : ℕ) (s : Spot) → s ≡ spot path n y → slice_get spots x ≡ Some s → slice_get (module_leaves m) y ≡ Some (c, leaf) → Entry m names c leaf x
      own_entry x y s same e l =
          let t = two_at match x s e in
          let it = t.2 in
          let o = leads_one (subst (λ (z : Spot). Way z.path z.within t.0.0.m it.d t.0.0.path) same it.leads) leads in
          let leaf_same : (t.0.0.c, t.0.1) ≡ (c, leaf) =
          some_same {A = ModuleLeaf} (sym it.number ∙ (ap (λ (z : Spot). slice_get (module_leaves t.0.0.m) z.number) same ∙ (ap (λ (z : TypedModule). slice_get (module_leaves z) y) o.typed ∙ l))) in
          let none : target_of m c.declaration.name ≡ None =
          ap (option_and_then (λ x. target_in x.declaration.sort)) (declared y l) ∙ (ap (λ (z : ModuleLeaf). target_in z.0.declaration.sort) (sym leaf_same) ∙ it.own) in
          record {
            e = t.0;
            there = t.1;
            is_flat = ap₂ (λ p (z : ModuleLeaf). make_flat p z.0.declaration.name z.1.path) o.named leaf_same
                ∙ sym (ap (λ q. flat_through names c.declaration.name q leaf.path) none ∙ flat_none names c.declaration.name leaf.path);
            typ = ap (λ (z : ModuleLeaf). z.1.typ) leaf_same;
          }

      -- a leaf of an instance stands inside
      from_behind : (x y i j : ℕ) (gi : GroundInstance) (child dd : DrivenModule) (e : Standing) (inner : List ℕ) (k : ℕ) (im : TypedModule) (names' : List ℕ) → Way inner k im dd names' → inner ≡ i ∷ path → im ≡ e.0.m → names' ≡ e.0.path
          → slice_get (all_leaves placed) x ≡ Some e → slice_get (module_leaves e.0.m) j ≡ Some (e.0.c, e.1)
          → slice_get d.instances i ≡ Some gi → slice_get driven.modules gi.module ≡ Some child → j < child.ports → y ≡ gi.first + j → slice_get (module_leaves m) y ≡ Some (c, leaf) → Entry m names c leaf x
      from_behind x y i j gi child dd e inner k im names' (at_main m' d' at known) q same_m same_names here number there found below at_y l = absurd cc
      from_behind x y i j gi child dd e inner k im names' (behind {path = front} {n = n'} {m = m'} {d = d'} {names = outer} i' place target ci gi' im' child' leads' part there' placed' named' at' known') q same_m same_names here number there found below at_y l =
          let i_same : i' ≡ i = head_same q in
          let o = leads_one (subst (λ p. Way p n' m' d' outer) (tail_same q) leads') leads in
          let gi_same : gi' ≡ gi = some_same (sym there' ∙ (ap₂ (λ (z : DrivenModule) w. slice_get z.instances w) o.driven_same i_same ∙ there)) in
          let child_same : child' ≡ child = some_same (sym known'.driven_there ∙ (ap (λ (g : GroundInstance). slice_get driven.modules g.module) gi_same ∙ found)) in
          let component = instance_place m'.components i' place ci target part in
          let place_m : slice_get m.components place ≡ Some ci = ap (λ (z : TypedModule). slice_get z.components place) (sym o.typed) ∙ component.0 in
          let declared_m : component_named m ci.declaration.name ≡ Some ci = well.bundles.names names m ci (leads_at fitted well lowered is driven expanded leads) (in_list m.components place ci place_m) in
          let bundle = well.bundles.instances names m ci target (leads_at fitted well lowered is driven expanded leads) declared_m (target_sort ci.declaration.sort target component.1) in
          let im_is : bundle.0 ≡ im' = some_same (sym bundle.1 ∙ named') in
          let ports : child.ports ≡ sum_by port_size im'.components =
          ap (λ (z : DrivenModule). z.ports) (sym child_same) ∙ (known'.driven_is.ports ∙ known'.ground_is.ports) in
          let number_in : slice_get (module_leaves im') j ≡ Some (e.0.c, e.1) = ap (λ (z : TypedModule). slice_get (module_leaves z) j) same_m ∙ number in
          let port = inner_leaf im' (ports_first fitted well (outer ++ ci.declaration.name ∷ []) im' at') j e.0.c e.1 number_in (subst (λ z. j < z) ports below) in
          let bundle_leaf : slice_get (leaves ci.typ) j ≡ Some port.leaf =
          ap (λ z. slice_get z j) (bundle.2 ∙ ap (λ (z : TypedModule). leaves (instance_of (typed_ports z))) im_is) ∙ port.there in
          let behind_is : slice_get (module_leaves m) (leaves_before m place + j) ≡ Some (ci, port.leaf) = leaf_behind m.components place ci j port.leaf place_m bundle_leaf in
          let first : gi.first ≡ leaves_before m place =
          ap (λ (g : GroundInstance). g.first) (sym gi_same) ∙ (placed'.first ∙ ap (λ (z : TypedModule). leaves_before z place) o.typed) in
          let same : (ci, port.leaf) ≡ (c, leaf) = some_same {A = ModuleLeaf} (sym behind_is ∙ (ap (slice_get (module_leaves m)) (sym (at_y ∙ ap (λ z. z + j) first)) ∙ l)) in
          let to : target_of m c.declaration.name ≡ Some target =
          ap (λ (z : ModuleLeaf). target_of m z.0.declaration.name) (sym same) ∙ target_is m ci target declared_m (target_sort ci.declaration.sort target component.1) in
          record {
            e = e;
            there = here;
            is_flat = ap₂ (λ p w. make_flat p w e.1.path) (sym same_names ∙ ap (λ z. z ++ ci.declaration.name ∷ []) o.named) refl
                ∙ (sym (ap (λ w. flat_through names ci.declaration.name (Some target) w) port.way)
                ∙ (ap (λ (z : ModuleLeaf). flat_through names z.0.declaration.name (Some target) z.1.path) same ∙ sym (ap (λ q. flat_through names c.declaration.name q leaf.path) to)));
            typ = sym port.typ ∙ ap (λ (z : ModuleLeaf). z.1.typ) same;
          }
        where
          head_same : {a b : ℕ} {p q : List ℕ} → a ∷ p ≡ b ∷ q → a ≡ b
          head_same e = cc

          tail_same : {a b : ℕ} {p q : List ℕ} → a ∷ p ≡ b ∷ q → p ≡ q
          tail_same e = cc

      inside_entry : (x y i j : ℕ) (gi : GroundInstance) (child : DrivenModule) → slice_get d.instances i ≡ Some gi → slice_get driven.modules gi.module ≡ Some child → j < child.ports → y ≡ gi.first + j
          → slice_get spots x ≡ Some (spot (i ∷ path) gi.module j) → slice_get (module_leaves m) y ≡ Some (c, leaf) → Entry m names c leaf x
      inside_entry x y i j gi child there found below at e l =
          let t = two_at match x (spot (i ∷ path) gi.module j) e in
          from_behind x y i j gi child t.2.d t.0 (i ∷ path) gi.module t.0.0.m t.0.0.path t.2.leads refl refl refl t.1 t.2.number there found below at l

      -- a leaf under its flat number
      pub entry_of : (numbers : List ℕ) → AreNumbers driven spots path n numbers → (y x : ℕ) → slice_get numbers y ≡ Some x → slice_get (module_leaves m) y ≡ Some (c, leaf) → Entry m names c leaf x
      entry_of numbers are y x e l =
          let at = are.each y x e in
          let same : are.m ≡ d = some_same (sym are.there ∙ (leads_known fitted well lowered is driven expanded leads).driven_there) in
          by y at.0 (subst (λ (z : DrivenModule). StandsAt driven path n z y at.0) same at.1) at.2 l
        where
          by : (y : ℕ) (s : Spot) → StandsAt driven path n d y s → slice_get spots x ≡ Some s → slice_get (module_leaves m) y ≡ Some (c, leaf) → Entry m names c leaf x
          by y s its_own at l = own_entry x y s refl at l
          by y s (of_instance {i = i} j gi child there found below) at l = inside_entry x y i j gi child there found below refl at l

    -- Values

    -- Each leaf of the circuit is seen as a value of its kind and width.
    abbrev pub Fits : Instant → Type 0
    Fits instant = (x : ℕ) (e : Standing) → slice_get (all_leaves placed) x ≡ Some e → shape_of_value (instant.leaf x) ≡ leaf_shape e.1

    module _ {path : List ℕ} {n : ℕ} {m : TypedModule} {d : DrivenModule} {names : List ℕ} (leads : Way path n m d names) (numbers : List ℕ) (are : AreNumbers driven spots path n numbers) (instant : Instant) where
      abbrev pub inner_instant : Instant
      inner_instant = seen_by (slice_index numbers) instant

      abbrev pub run_seen : Valuation
      run_seen = valuation_of (all_leaves placed) instant

      abbrev pub known : Known fitted well lowered is driven expanded n m d
      known = leads_known fitted well lowered is driven expanded leads

      numbers_counted : length numbers ≡ length (module_leaves m)
      numbers_counted =
          are.counted ∙ (ap (λ (z : DrivenModule). length z.leaves) (some_same (sym are.there ∙ known.driven_there)) ∙ (ap length known.driven_is.leaves ∙ known.ground_is.counted))

      index_is : (xs : List ℕ) (y x : ℕ) → slice_get xs y ≡ Some x → slice_index xs y ≡ x
      index_is [] y x e = none_some e
      index_is (a ∷ xs) zero x e = some_same e
      index_is (a ∷ xs) (suc y) x e = index_is xs y x e

      pub number_at : (y : ℕ) (l : ModuleLeaf) → slice_get (module_leaves m) y ≡ Some l → (x : ℕ) × (slice_get numbers y ≡ Some x) × (slice_index numbers y ≡ x) × Entry m names l.0 l.1 x
      number_at y l e =
          let x = item numbers y (subst (λ k. y < k) (sym numbers_counted) (below_length (module_leaves m) y l e)) in
          (x.0, x.1, index_is numbers y x.0 x.1, entry_of leads l.0 l.1 numbers are y x.0 x.1 e)

      -- what is seen of a leaf of the module
      pub seen_same : (z : Leaf) (y : ℕ) → number_of m z ≡ Some y → (scene_at m inner_instant).integers z.component z.way ≡ local m names run_seen z.component z.way
      seen_same z y e =
          let l = found_leaf m z y e in
          let x = number_at y l.0 l.1 in
          let entry = x.3 in
          ap (integer_at inner_instant) e
          ∙ (ap (λ k. integer_of (instant.leaf k)) x.2
          ∙ (sym (valuation_at design placed lists instant x.0 entry.e entry.there)
          ∙ (ap (at run_seen) (entry.is_flat ∙ ap (flat m names) l.2) ∙ sym (local_at m names run_seen z))))

      -- leaves that have numbers
      pub seen_agree : (ys : List Leaf) → ((z : Leaf) → Contains ys z → (y : ℕ) × (number_of m z ≡ Some y)) → Agree (scene_at m inner_instant).integers (local m names run_seen) ys
      seen_agree ys all = record { agree = λ z h. let y = all z h in seen_same z y.0 y.1 }

      -- the module's leaves are seen in range
      pub inner_fits : Fits instant → HasShapes (table_of known.g.leaves) inner_instant
      inner_fits fits = record { leaf = leaf_fits; load = λ k j s a e. none_some e } where
        leaf_fits : (y : ℕ) (s : _) → (table_of known.g.leaves).leaf y ≡ Some s → shape_of_value (inner_instant.leaf y) ≡ s
        leaf_fits y s e = by (slice_get known.g.leaves y) refl e where
          by : (o : Option GroundLeaf) → slice_get known.g.leaves y ≡ o → option_map ground_shape o ≡ Some s → shape_of_value (inner_instant.leaf y) ≡ s
          by None q h = none_some h
          by (Some gl) q h =
              let l = item (module_leaves m) y (subst (λ k. y < k) known.ground_is.counted (below_length known.g.leaves y gl q)) in
              let x = number_at y l.0 l.1 in
              let entry = x.3 in
              let is_leaf = known.ground_is.leaves_are y l.0 gl l.1 q in
              ap (λ k. shape_of_value (instant.leaf k)) x.2
              ∙ (fits x.0 entry.e entry.there
              ∙ (same_leaf_shape entry.e.1 l.0.1 entry.typ ∙ (ap₂ shaped (sym is_leaf.kind) (sym is_leaf.width) ∙ some_same h)))
