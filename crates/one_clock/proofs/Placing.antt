-- What stands at the places that are listed are the modules at paths.
use Rattle.std.proofs.Common.{◌≡◌, ℕ, zero, suc, Bool, true, false, cond, List, [], ◌∷◌, ◌++◌, map, Option, Some, None, slice_get, ◌==◌, refl, sym, ap, ap₂, ◌∙◌, subst, append-nil, append_assoc}
use Rattle.std.specs.Prelude.{Contains, nat_eq, option_and_then}
use Rattle.std.specs.List.{flat_map}
use Rattle.std.specs.Map.{lookup}
use Rattle.std.proofs.lemmas.Bool.{eqb-true}
use Rattle.fir_tree.specs.declared.circuit.Module.{Module}
use Rattle.fir_tree.specs.declared.scope.Fitted.{Fitted}
use Rattle.fir_meaning.specs.Components.{Design, Component, TypedModule, design_of, modules_of, module_named, module_within, module_at, component_named, type_in, target_in, target_of}
use Rattle.fir_meaning.proofs.Ports.{inside, at_snoc, and_then, found, same_number, component_found, target_sort, one_later, from_map, from_flat_map}
use Rattle.fir_meaning.proofs.Tracking.{Contains-flat_map, none_some}
use Rattle.fir_names.specs.Scopes.{texts, Means}
use Rattle.fir_names.proofs.Graphs.{some_same}
use Rattle.circuit_laws.specs.WellFormed.{IsWellFormed, IsKnownModule}
use Rattle.circuit_laws.proofs.Reached.{has_number}
use Rattle.drive_check.proofs.Deciding.{AreKnown}
use Rattle.drive_check.proofs.Telling.{get_contains, none_in}
use Rattle.clock_check.specs.Makes.{Makes, makes_of, module_makes}
use Rattle.clock_check.specs.declared.instances.Instance.{Instance}
use Rattle.one_clock.proofs.Lists.{one_in}
use Rattle.one_clock.specs.Tables.{Table, Holds, IsTable}
use Rattle.one_clock.specs.Stands.{Stand, stand_behind, instance_stands, stands_in, next_stands, ComesFrom, itself, behind}

-- What the laws say

abbrev pub AreTargets : Fitted → Type 0
AreTargets fitted = (m : TypedModule) (its : IsKnownModule fitted m) (name : ℕ) → lookup (nat_eq name) (module_makes its.holder) ≡ target_of m name

abbrev pub AreMeant : Fitted → Type 0
AreMeant fitted = (name k : ℕ) (m : TypedModule) → Means fitted.checked.resolved name k → slice_get (modules_of fitted) k ≡ Some m → module_named (design_of fitted) name ≡ Some m

-- a module of this name stands there
abbrev pub IsPlace : Design → Stand → Type 0
IsPlace design x = (m : TypedModule) × (module_at design x.0 ≡ Some m) × (m.name ≡ x.1)

holder_at : (modules : List Module) (k id : ℕ) → slice_get (texts (map (λ (m : Module). m.name) modules)) k ≡ Some id → (holder : Module) × (slice_get modules k ≡ Some holder)
holder_at [] k id e = absurd (none_some e)
holder_at (x ∷ modules) zero id e = (x, refl)
holder_at (x ∷ modules) (suc k) id e = holder_at modules k id e

name_is : (design : Design) (name : ℕ) (m : TypedModule) → module_named design name ≡ Some m → m.name ≡ name
name_is design name m e = same_number m.name name (found (λ (x : TypedModule). x.name == name) design.modules m e).0

lookup_in : (es : List Makes) (name t : ℕ) → lookup (nat_eq name) es ≡ Some t → Contains es (name, t)
lookup_in [] name t e = absurd (none_some e)
lookup_in (x ∷ es) name t e = by (nat_eq name x.0) refl (lookup_in es name t) e
  where
    by : (b : Bool) → nat_eq name x.0 ≡ b → (lookup (nat_eq name) es ≡ Some t → Contains es (name, t)) → cond b (Some x.1) (lookup (nat_eq name) es) ≡ Some t → Contains (x ∷ es) (name, t)
    by true same rest f = get_contains (x ∷ es) 0 (name, t) (ap₂ (λ a b. Some (a, b)) (sym (eqb-true name x.0 same)) (some_same f))
    by false other rest f = one_later x es (name, t) (rest f)

module _ (fitted : Fitted) (well : IsWellFormed fitted) (table : Table) (holds : IsTable fitted table) (known : AreKnown fitted) (targets : AreTargets fitted) where
  abbrev design : Design
  design = design_of fitted

  abbrev start : Stand
  start = ([], fitted.checked.resolved.main.id)

  -- main

  pub main_there : AreMeant fitted → (m : TypedModule) × (module_named design design.main ≡ Some m)
  main_there meant =
      let h = holder_at fitted.checked.resolved.modules well.scope.main fitted.checked.resolved.main.id well.scope.is_main.has in
      let m = has_number fitted.checked.resolved.modules fitted.declared well.scope.main h.0 h.1 in
      (m.0, meant fitted.checked.resolved.main.id well.scope.main m.0 well.scope.is_main m.1)

  pub start_place : AreMeant fitted → IsPlace design start
  start_place meant =
      let m = main_there meant in
      (m.0, ap (option_and_then (λ n. Some n)) m.1, name_is design design.main m.0 m.1)

  -- one instance further

  entered : (path : List ℕ) (m : TypedModule) (i t : ℕ) → module_at design path ≡ Some m → target_of m i ≡ Some t → IsPlace design (path ++ i ∷ [], t)
  entered path m i t at to =
      let c = and_then (λ (x : Component). target_in x.declaration.sort) (component_named m i) t to in
      let its = component_found m i c.0 c.1 in
      let n = well.bundles.instances path m c.0 t at (ap (component_named m) its.0 ∙ c.1) (target_sort c.0.declaration.sort t c.2) in (
        n.0,
        at_snoc design path i ∙ ap (option_and_then (λ x. inside design x i)) at ∙ ap (option_and_then (module_named design)) to ∙ n.1,
        name_is design t n.0 n.1,
      )

  next_place : (x y : Stand) → IsPlace design x → Contains (next_stands table x) y → IsPlace design y
  next_place x y (m, at, name) c =
      let its = known x.0 m at in
      let h : Holds table (type_in m) its.holder m.name = holds m its in
      let c' : Contains (flat_map (instance_stands h.clocks.targets.entries x.0) h.clocks.instances.items) y =
      subst (λ o. Contains (stands_in x.0 o) y) (ap (λ n. lookup (nat_eq n) table) (sym name) ∙ h.at) c in
      let from = from_flat_map (instance_stands h.clocks.targets.entries x.0) h.clocks.instances.items y c' in
      by (from.0.name) (lookup (nat_eq from.0.name) h.clocks.targets.entries) (sym (targets m its from.0.name) ∙ sym (h.has.targets from.0.name)) from.2
    where
      by : (i : ℕ) (o : Option ℕ) → target_of m i ≡ o → Contains (stand_behind x.0 i o) y → IsPlace design y
      by i None e z = absurd (none_in y z)
      by i (Some t) e z = subst (IsPlace design) (sym (one_in (x.0 ++ i ∷ [], t) y z)) (entered x.0 m i t at e)

  pub is_place : AreMeant fitted → {x : Stand} → ComesFrom table start x → IsPlace design x
  is_place meant itself = start_place meant
  is_place meant (behind x y from c) = next_place x y (is_place meant from) c

  -- all modules at paths

  next_there : (front : List ℕ) (m : TypedModule) (i t : ℕ) → module_at design front ≡ Some m → target_of m i ≡ Some t → Contains (next_stands table (front, m.name)) (front ++ i ∷ [], t)
  next_there front m i t at to =
      let its = known front m at in
      let h : Holds table (type_in m) its.holder m.name = holds m its in
      let makes : Contains (makes_of h.clocks.instances.items) (i, t) = subst (λ l. Contains l (i, t)) (sym h.has.instances) (lookup_in (module_makes its.holder) i t (targets m its i ∙ to)) in
      let from = from_map (λ (x : Instance). (x.name, x.target)) h.clocks.instances.items (i, t) makes in
      let name : from.0.name ≡ i = ap (λ (p : Makes). p.0) from.2 in
      let found' : lookup (nat_eq from.0.name) h.clocks.targets.entries ≡ Some t = h.has.targets from.0.name ∙ targets m its from.0.name ∙ ap (target_of m) name ∙ to in
      let one : Contains (instance_stands h.clocks.targets.entries front from.0) (front ++ i ∷ [], t) =
      subst (λ o. Contains (stand_behind front from.0.name o) (front ++ i ∷ [], t)) (sym found')
      (get_contains ((front ++ from.0.name ∷ [], t) ∷ []) 0 (front ++ i ∷ [], t) (ap (λ (n : ℕ). Some (front ++ n ∷ [], t)) name)) in
      subst (λ o. Contains (stands_in front o) (front ++ i ∷ [], t)) (sym h.at)
      (Contains-flat_map (instance_stands h.clocks.targets.entries front) h.clocks.instances.items from.0 (front ++ i ∷ [], t) from.1 one)

  comes : (front : List ℕ) (m : TypedModule) → module_at design front ≡ Some m → ComesFrom table start (front, m.name) → (rest : List ℕ) (n : TypedModule) → module_within design m rest ≡ Some n
      → ComesFrom table start (front ++ rest, n.name)
  comes front m at from [] n e = subst (λ p. ComesFrom table start (p, n.name)) (sym (append-nil front)) (subst (λ (x : TypedModule). ComesFrom table start (front, x.name)) (some_same e) from)
  comes front m at from (i ∷ rest) n e =
      let next = and_then (λ x. module_within design x rest) (inside design m i) n e in
      let to = and_then (module_named design) (target_of m i) next.0 next.1 in
      let at' : module_at design (front ++ i ∷ []) ≡ Some next.0 = at_snoc design front i ∙ ap (option_and_then (λ x. inside design x i)) at ∙ next.1 in
      let there' : Contains (next_stands table (front, m.name)) (front ++ i ∷ [], next.0.name) =
      subst (λ (t : ℕ). Contains (next_stands table (front, m.name)) (front ++ i ∷ [], t)) (sym (name_is design to.0 next.0 to.2)) (next_there front m i to.0 at to.1) in
      subst (λ p. ComesFrom table start (p, n.name)) (append_assoc front (i ∷ []) rest)
      (comes (front ++ i ∷ []) next.0 at' (behind (front, m.name) (front ++ i ∷ [], next.0.name) from there') rest n next.2)

  pub place_listed : AreMeant fitted → (x : Stand) → IsPlace design x → ComesFrom table start x
  place_listed meant x (n, at, name) =
      let main = and_then (λ m. module_within design m x.0) (module_named design design.main) n at in
      let own : module_at design [] ≡ Some main.0 = ap (option_and_then (λ n. Some n)) main.1 in
      subst (λ (t : ℕ). ComesFrom table start (x.0, t)) name
      (comes [] main.0 own (subst (λ (t : ℕ). ComesFrom table start ([], t)) (sym (name_is design design.main main.0 main.1)) itself) x.0 n main.2)
