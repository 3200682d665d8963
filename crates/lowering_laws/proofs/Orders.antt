-- A circuit has one flat order, so what holds of a setting holds of it.
use Rattle.std.proofs.Common.{◌≡◌, ℕ, List, [], ◌∷◌, ◌++◌, length, ◌<◌, Some, option_and_then, refl, sym, ap, ap₂, ◌∙◌, subst}
use Rattle.std.specs.Prelude.{Contains}
use Rattle.std.specs.List.{slice_get}
use Rattle.bit_words.specs.Values.{integer_of}
use Rattle.fir_types.specs.declared.fir_type.FirType.{FirType}
use Rattle.fir_tree.specs.declared.scope.Fitted.{Fitted}
use Rattle.fir_meaning.specs.Components.{Design, TypedModule, Component, FlatLeaf, design_of, modules_of, module_at, module_within, module_named}
use Rattle.fir_meaning.specs.Values.{scene_of}
use Rattle.fir_meaning.specs.Loops.{TakesFrom}
use Rattle.fir_meaning.specs.States.{State}
use Rattle.fir_meaning.specs.States as tree_states
use Rattle.circuit_laws.specs.WellFormed.{IsWellFormed}
use Rattle.circuit_laws.proofs.Reached.{module_meant, names_with}
use Rattle.ground_net.specs.declared.circuit.GroundCircuit.{GroundCircuit}
use Rattle.ground_net.specs.declared.circuit.DrivenCircuit.{DrivenCircuit}
use Rattle.ground_net.specs.declared.circuit.FlatCircuit.{FlatCircuit}
use Rattle.ground_net.specs.declared.net.Net.{Net}
use Rattle.ground_net.specs.declared.net.NetRegister.{NetRegister}
use Rattle.ground_net.specs.Cones.{register_needs}
use Rattle.ground_net.specs.Cycles.{NetState, instant_of}
use Rattle.ground_net.specs.Cycles as cycle
use Rattle.expand_whens.specs.Expanding.{IsExpanded}
use Rattle.net_of_circuit.specs.FlatOrder.{Placed, InFlatOrder, no_more, one_more, an_instance, Standing, all_leaves, flat_of}
use Rattle.net_of_circuit.specs.NetOf.{Driven, part_of, IsSeen, seen_valuation}
use Rattle.net_of_circuit.specs.Lowering.{IsGroundOf}
use Rattle.flatten_instances.specs.Flat.{IsFlat}
use Rattle.memory_ports.specs.Placing.{IsPlaced}
use Rattle.net_laws.proofs.Lists.{below_length}
use Rattle.lowering_laws.proofs.Heights.{some_same, none_some}
use Rattle.lowering_laws.proofs.Parts.{item}
use Rattle.lowering_laws.proofs.Matching.{Leads, at_main, known_at, matched, map_counted}
use Rattle.lowering_laws.proofs.Whole.{Setting, placed}
use Rattle.lowering_laws.proofs.Nets as nets

pub one_order : {design : Design} {path : List ℕ} {m : TypedModule} {cs : List Component} {a b : List Placed} → InFlatOrder design path m cs a → InFlatOrder design path m cs b → a ≡ b
one_order no_more no_more = refl
one_order {path = path} {m = m} (one_more {c = c} none r) (one_more none' s) = ap (λ l. record { path = path; m = m; c = c } ∷ l) (one_order r s)
one_order (one_more none r) (an_instance target n t found own s) = none_some (sym none ∙ t)
one_order (an_instance target n t found own s) (one_more none r) = none_some (sym none ∙ t)
one_order {design} {path} (an_instance {c = c} {own = inner} target n t found own r) (an_instance {own = inner'} target' n' t' found' own' s) =
    let same : n' ≡ n = some_same (sym found' ∙ (ap (module_named design) (some_same (sym t' ∙ t)) ∙ found)) in
    ap₂ (λ x y. x ++ y) (one_order own (subst (λ w. InFlatOrder design (path ++ c.declaration.name ∷ []) w w.components inner') same own')) (one_order r s)

module _ (fitted : Fitted) (well : IsWellFormed fitted) (lowered : GroundCircuit) (is : IsGroundOf fitted lowered) (driven : DrivenCircuit) (expanded : IsExpanded lowered driven) (flat : FlatCircuit) (is_flat : IsFlat driven flat) (main : TypedModule)
    (found : module_named (design_of fitted) (design_of fitted).main ≡ Some main) (all : List Placed) (order : InFlatOrder (design_of fitted) [] main main.components all) where
  -- main has the number that the passes give it
  main_there : slice_get (modules_of fitted) driven.main ≡ Some main
  main_there =
      let counted : length (modules_of fitted) ≡ length fitted.checked.resolved.modules =
      sym (map_counted (λ (m : TypedModule). m.name) (modules_of fitted)) ∙ (ap length (names_with fitted.checked.resolved.modules fitted.declared) ∙ (map_counted _ _ ∙ map_counted _ _)) in
      let below : driven.main < length (modules_of fitted) = subst (λ n. driven.main < n) (expanded.counted ∙ (is.counted ∙ sym counted)) (below_length driven.modules driven.main is_flat.main is_flat.found) in
      let m = item (modules_of fitted) driven.main below in
      let named : module_named (design_of fitted) (design_of fitted).main ≡ Some m.0 = module_meant fitted (design_of fitted).main lowered.main m.0 is.main (ap (slice_get (modules_of fitted)) (sym expanded.main) ∙ m.1) in
      m.1 ∙ (sym named ∙ found)

  pub leads_there : Leads fitted well lowered is driven expanded [] driven.main main is_flat.main []
  leads_there =
      let at : module_at (design_of fitted) [] ≡ Some main = ap (option_and_then (λ x. module_within (design_of fitted) x [])) found in
      at_main main is_flat.main at (known_at fitted well lowered is driven expanded [] driven.main main is_flat.main at main_there is_flat.found)

  -- The circuit with what the passes make of it.
  abbrev pub passed : Setting
  passed = record {
    fitted = fitted;
    well = well;
    lowered = lowered;
    is = is;
    driven = driven;
    expanded = expanded;
    flat = flat;
    is_flat = is_flat;
    main = main;
    found = found;
    leads = leads_there;
    matched = matched fitted well lowered is driven expanded main is_flat.main leads_there is_flat.items is_flat.order;
  }

  -- the components of the setting are those of the circuit
  pub placed_are : placed passed ≡ all
  placed_are = one_order (matched fitted well lowered is driven expanded main is_flat.main leads_there is_flat.items is_flat.order).order order

-- The clauses of registers hold in any flat order of the circuit.

abbrev Next : Fitted → Net → List Placed → Type 0
Next fitted net placed = (elements : List FirType) (n : ℕ) (register : NetRegister) (y : Standing) (s : State) (t : NetState) (rho : cycle.Valuation) → slice_get net.registers n ≡ Some register
    → slice_get (all_leaves placed) register.leaf ≡ Some y → IsSeen placed elements net s t rho
    → tree_states.next_of_register (scene_of y.0.m y.0.path (seen_valuation placed net t rho)) y.0.c y.0.c.declaration.sort y.1.path (integer_of (rho register.leaf))
    ≡ cycle.next_of_register net (instant_of net t rho) (Some register) (integer_of (rho register.leaf))

abbrev Takes : Fitted → Net → List Placed → Type 0
Takes fitted net placed = (n z : ℕ) (register : NetRegister) (y w : Standing) → slice_get net.registers n ≡ Some register → slice_get (all_leaves placed) register.leaf ≡ Some y → slice_get (all_leaves placed) z ≡ Some w
    → part_of w ≡ Driven → Contains (register_needs net register) z → TakesFrom (design_of fitted) (flat_of y) (flat_of w)

abbrev AllTakes : Fitted → Net → List Placed → Type 0
AllTakes fitted net placed = (n : ℕ) (register : NetRegister) (y : Standing) (f : FlatLeaf) → slice_get net.registers n ≡ Some register → slice_get (all_leaves placed) register.leaf ≡ Some y → TakesFrom (design_of fitted) (flat_of y) f
    → (z : ℕ) × (w : Standing) × (slice_get (all_leaves placed) z ≡ Some w) × (flat_of w ≡ f) × Contains (register_needs net register) z

pub registers_are : (fitted : Fitted) (well : IsWellFormed fitted) (lowered : GroundCircuit) (is : IsGroundOf fitted lowered) (driven : DrivenCircuit) (expanded : IsExpanded lowered driven) (flat : FlatCircuit) (is_flat : IsFlat driven flat) (net : Net) (is_placed : IsPlaced flat net) (main : TypedModule)
    (found : module_named (design_of fitted) (design_of fitted).main ≡ Some main) (placed : List Placed) (order : InFlatOrder (design_of fitted) [] main main.components placed) → Next fitted net placed
registers_are fitted well lowered is driven expanded flat is_flat net is_placed main found placed order =
    subst (Next fitted net) (placed_are fitted well lowered is driven expanded flat is_flat main found placed order) (nets.registers (passed fitted well lowered is driven expanded flat is_flat main found placed order) net is_placed)

pub takes_are : (fitted : Fitted) (well : IsWellFormed fitted) (lowered : GroundCircuit) (is : IsGroundOf fitted lowered) (driven : DrivenCircuit) (expanded : IsExpanded lowered driven) (flat : FlatCircuit) (is_flat : IsFlat driven flat) (net : Net) (is_placed : IsPlaced flat net) (main : TypedModule)
    (found : module_named (design_of fitted) (design_of fitted).main ≡ Some main) (placed : List Placed) (order : InFlatOrder (design_of fitted) [] main main.components placed) → Takes fitted net placed
takes_are fitted well lowered is driven expanded flat is_flat net is_placed main found placed order =
    subst (Takes fitted net) (placed_are fitted well lowered is driven expanded flat is_flat main found placed order) (nets.takes (passed fitted well lowered is driven expanded flat is_flat main found placed order) net is_placed)

pub all_takes_are : (fitted : Fitted) (well : IsWellFormed fitted) (lowered : GroundCircuit) (is : IsGroundOf fitted lowered) (driven : DrivenCircuit) (expanded : IsExpanded lowered driven) (flat : FlatCircuit) (is_flat : IsFlat driven flat) (net : Net) (is_placed : IsPlaced flat net) (main : TypedModule)
    (found : module_named (design_of fitted) (design_of fitted).main ≡ Some main) (placed : List Placed) (order : InFlatOrder (design_of fitted) [] main main.components placed) → AllTakes fitted net placed
all_takes_are fitted well lowered is driven expanded flat is_flat net is_placed main found placed order =
    subst (AllTakes fitted net) (placed_are fitted well lowered is driven expanded flat is_flat main found placed order) (nets.all_takes (passed fitted well lowered is driven expanded flat is_flat main found placed order) net is_placed)
