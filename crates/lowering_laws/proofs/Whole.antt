-- A circuit with what the passes make of it, and its leaves one by one.
use Rattle.std.proofs.Common.{◌≡◌, ℕ, ◌<◌, List, [], ◌∷◌, ◌++◌, length, Option, Some, option_and_then, refl, sym, ap, ap₂, ◌∙◌, subst}
use Rattle.std.specs.Prelude.{codes}
use Rattle.std.specs.List.{slice_get}
use Rattle.std.proofs.lemmas.Grind.{flat_map-append}
use Rattle.std.proofs.lemmas.List.Concat.{flat_map-cons}
use Rattle.fir_tree.specs.declared.scope.Fitted.{Fitted}
use Rattle.fir_tree.specs.LeafNames.{Texts, text_of}
use Rattle.fir_meaning.specs.Components.{Design, TypedModule, modules_of, design_of, module_at, module_named, module_within, kind_of_leaf, width_of_leaf}
use Rattle.circuit_laws.specs.WellFormed.{IsWellFormed}
use Rattle.circuit_laws.proofs.Reached.{module_meant, names_with}
use Rattle.ground_net.specs.declared.circuit.GroundCircuit.{GroundCircuit}
use Rattle.ground_net.specs.declared.circuit.DrivenCircuit.{DrivenCircuit}
use Rattle.ground_net.specs.declared.circuit.DrivenModule.{DrivenModule}
use Rattle.ground_net.specs.declared.circuit.FlatCircuit.{FlatCircuit}
use Rattle.ground_net.specs.declared.circuit.GroundLeaf.{GroundLeaf}
use Rattle.ground_net.specs.declared.ground.Ground.{Ground}
use Rattle.expand_whens.specs.Expanding.{IsExpanded}
use Rattle.net_of_circuit.specs.FlatOrder.{Placed, Standing, all_leaves, flat_of, ListsLeaves}
use Rattle.net_of_circuit.specs.NetOf.{path_text, flat_text}
use Rattle.net_of_circuit.specs.Numbers.{role_of}
use Rattle.net_of_circuit.specs.Lowering.{IsGroundOf}
use Rattle.flatten_instances.specs.FlatOrder.{Spot, leaf_spots}
use Rattle.flatten_instances.specs.Instances as paths
use Rattle.flatten_instances.specs.Flat.{IsFlat, IsFlatDriver, role_at}
use Rattle.net_laws.proofs.Lists.{below_length, append_nil}
use Rattle.net_laws.proofs.Accepted.{lists_leaves}
use Rattle.lowering_laws.proofs.Heights.{some_same}
use Rattle.lowering_laws.proofs.Parts.{item}
use Rattle.lowering_laws.proofs.Matching.{Two, two_back, two_counted, known_at, Leads, at_main, behind, leads_known, IsAt, Matched, matched, map_counted}
use Rattle.lowering_laws.proofs.Driving.{leads_number}

-- The circuit, its ground statements, its drivers, its flat circuit, and its components in flat order.
pub record Setting : Type 0 where
  pub fitted : Fitted
  pub well : IsWellFormed fitted
  pub lowered : GroundCircuit
  pub is : IsGroundOf fitted lowered
  pub driven : DrivenCircuit
  pub expanded : IsExpanded lowered driven
  pub flat : FlatCircuit
  pub is_flat : IsFlat driven flat
  pub main : TypedModule
  pub found : module_named (design_of fitted) (design_of fitted).main ≡ Some main
  pub leads : Leads fitted well lowered is driven expanded [] driven.main main is_flat.main []
  pub matched : Matched fitted well lowered is driven expanded [] main main.components is_flat.items

-- There is such a setting wherever the passes have done their work.
pub main_module : (fitted : Fitted) (well : IsWellFormed fitted) (lowered : GroundCircuit) (is : IsGroundOf fitted lowered) (driven : DrivenCircuit) (expanded : IsExpanded lowered driven) (d : DrivenModule) → slice_get driven.modules driven.main ≡ Some d
    → (m : TypedModule) × (module_named (design_of fitted) (design_of fitted).main ≡ Some m) × Leads fitted well lowered is driven expanded [] driven.main m d []
main_module fitted well lowered is driven expanded d found =
    let counted : length (modules_of fitted) ≡ length fitted.checked.resolved.modules =
    sym (map_counted (λ (m : TypedModule). m.name) (modules_of fitted)) ∙ (ap length (names_with fitted.checked.resolved.modules fitted.declared) ∙ (map_counted _ _ ∙ map_counted _ _)) in
    let below : driven.main < length (modules_of fitted) = subst (λ n. driven.main < n) (expanded.counted ∙ (is.counted ∙ sym counted)) (below_length driven.modules driven.main d found) in
    let m = item (modules_of fitted) driven.main below in
    let named : module_named (design_of fitted) (design_of fitted).main ≡ Some m.0 = module_meant fitted (design_of fitted).main lowered.main m.0 is.main (ap (slice_get (modules_of fitted)) (sym expanded.main) ∙ m.1) in
    let at : module_at (design_of fitted) [] ≡ Some m.0 = ap (option_and_then (λ x. module_within (design_of fitted) x [])) named in
    (m.0, named, at_main m.0 d at (known_at fitted well lowered is driven expanded [] driven.main m.0 d at m.1 found))

abbrev pub setting : (fitted : Fitted) (well : IsWellFormed fitted) (lowered : GroundCircuit) (is : IsGroundOf fitted lowered) (driven : DrivenCircuit) (expanded : IsExpanded lowered driven) (flat : FlatCircuit) → IsFlat driven flat → Setting
setting fitted well lowered is driven expanded flat is_flat =
    let m = main_module fitted well lowered is driven expanded is_flat.main is_flat.found in
    record {
      fitted = fitted;
      well = well;
      lowered = lowered;
      is = is;
      driven = driven;
      expanded = expanded;
      flat = flat;
      is_flat = is_flat;
      main = m.0;
      found = m.1;
      leads = m.2;
      matched = matched fitted well lowered is driven expanded m.0 is_flat.main m.2 is_flat.items is_flat.order;
    }

module _ (z : Setting) where
  abbrev pub design : Design
  design = design_of z.fitted

  abbrev pub texts : Texts
  texts = z.fitted.checked.resolved.names

  abbrev pub spots : List Spot
  spots = leaf_spots z.is_flat.items

  abbrev pub placed : List Placed
  placed = z.matched.placed

  abbrev pub Way : List ℕ → ℕ → TypedModule → DrivenModule → List ℕ → Type 0
  Way = Leads z.fitted z.well z.lowered z.is z.driven z.expanded

  abbrev pub At : Spot → Standing → Type 0
  At = IsAt z.fitted z.well z.lowered z.is z.driven z.expanded

  abbrev pub match : Two At spots (all_leaves placed)
  match = z.matched.leaves_match

  pub lists : ListsLeaves design placed
  lists = lists_leaves z.fitted z.well z.main z.found placed z.matched.order

  pub leaves_counted : length z.flat.leaves ≡ length (all_leaves placed)
  leaves_counted = z.is_flat.is.leaves.counted ∙ two_counted match

  -- the names of the instances on a path
  pub prefix_is : {path : List ℕ} {n : ℕ} {m : TypedModule} {d : DrivenModule} {names : List ℕ} → Way path n m d names → paths.prefix_of z.driven path ≡ path_text texts names
  prefix_is (at_main m d at known) = refl
  prefix_is (behind {path = front} {n = n} {d = d} {names = names} i at target c gi inner child leads part there placed named at' known) =
      let found : slice_get z.driven.modules n ≡ Some d = (leads_known z.fitted z.well z.lowered z.is z.driven z.expanded leads).driven_there in
      let instance : paths.instance_in z.driven (paths.module_at z.driven front) i ≡ Some gi =
      ap (λ o. paths.instance_in z.driven o i) (leads_number z.fitted z.well z.lowered z.is z.driven z.expanded leads)
      ∙ (ap (λ o. option_and_then (λ (m : DrivenModule). slice_get m.instances i) o) found ∙ there) in
      ap₂ (λ a o. a ++ paths.dotted o) (prefix_is leads) instance
      ∙ (ap (λ t. path_text texts names ++ (t ++ codes ".")) placed.name
      ∙ sym (flat_map-append (λ i. text_of texts i ++ codes ".") names (c.declaration.name ∷ [])
      ∙ ap (λ l. path_text texts names ++ l) (flat_map-cons (λ i. text_of texts i ++ codes ".") c.declaration.name [] ∙ append_nil (text_of texts c.declaration.name ++ codes "."))))

  -- A leaf of the flat circuit is one of the circuit.
  pub record LeafAt (x : ℕ) (y : Standing) : Type 0 where
    pub s : Spot
    pub there : slice_get spots x ≡ Some s
    pub at : At s y
    pub leaf : GroundLeaf
    pub leaf_there : slice_get z.flat.leaves x ≡ Some leaf
    pub name : leaf.name ≡ flat_text texts (flat_of y)
    pub kind : leaf.kind ≡ kind_of_leaf y.1
    pub width : leaf.width ≡ width_of_leaf y.1
    pub place : leaf.place ≡ y.0.c.declaration.place
    pub role : leaf.role ≡ role_at s.path (role_of (y.0.c, y.1))

  pub leaf_at : (x : ℕ) (y : Standing) → slice_get (all_leaves placed) x ≡ Some y → LeafAt x y
  leaf_at x y e =
      let back = two_back match x y e in
      let s : Spot = back.0 in
      let it = back.2 in
      let K = leads_known z.fitted z.well z.lowered z.is z.driven z.expanded it.leads in
      let leaf = item z.flat.leaves x (subst (λ n. x < n) (sym leaves_counted) (below_length (all_leaves placed) x y e)) in
      let of = z.is_flat.is.leaves.each x s leaf.0 back.1 leaf.1 in
      let same : of.is.m ≡ it.d = some_same (sym of.is.found ∙ K.driven_there) in
      let here : slice_get K.g.leaves s.number ≡ Some of.leaf = ap (λ l. slice_get l s.number) (sym (ap (λ (m : DrivenModule). m.leaves) same ∙ K.driven_is.leaves)) ∙ of.is.there in
      let own = K.ground_is.leaves_are s.number (y.0.c, y.1) of.leaf it.number here in
      record {
        s = s;
        there = back.1;
        at = it;
        leaf = leaf.0;
        leaf_there = leaf.1;
        name = of.name ∙ ap₂ (λ a b. a ++ b) (prefix_is it.leads) own.name;
        kind = of.kind ∙ own.kind;
        width = of.width ∙ own.width;
        place = of.place ∙ own.place;
        role = of.role ∙ ap (role_at s.path) own.role;
      }

  -- what the flat circuit has for a driver
  pub drivers_counted : length z.flat.drivers ≡ length (all_leaves placed)
  drivers_counted = z.is_flat.is.drivers.counted ∙ two_counted match

  pub driver_at : (x : ℕ) (y : Standing) → slice_get (all_leaves placed) x ≡ Some y → (o : Option Ground) × (slice_get z.flat.drivers x ≡ Some o) × ((s : Spot) → slice_get spots x ≡ Some s → IsFlatDriver z.driven spots s o)
  driver_at x y e =
      let o = item z.flat.drivers x (subst (λ n. x < n) (sym drivers_counted) (below_length (all_leaves placed) x y e)) in
      (o.0, o.1, λ s there. z.is_flat.is.drivers.each x s o.0 there o.1)
