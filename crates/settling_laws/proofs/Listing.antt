-- The leaves of a well formed circuit's run are finitely many: no module stands behind more instances than the circuit has modules.
use Rattle.std.proofs.Common.{◌≡◌, ℕ, zero, suc, ◌≤◌, ◌<◌, List, [], ◌∷◌, ◌++◌, map, length, Option, Some, None, slice_get, sym, subst, arith, append-nil, append_assoc}
use Rattle.std.specs.Prelude.{Contains}
use Rattle.std.specs.List.{flat_map}
use Rattle.std.proofs.lemmas.Option.{slice_get_within}
use Rattle.std.proofs.lemmas.List.Elements.{Contains-append_left, Contains-append_right}
use Rattle.fir_types.specs.Leaves.{leaves}
use Rattle.fir_tree.specs.declared.circuit.Circuit.{Circuit}
use Rattle.fir_tree.specs.declared.scope.Fitted.{Fitted}
use Rattle.fir_meaning.specs.Components.{Design, TypedModule, Component, FlatLeaf, modules_of, design_of, module_named, component_named, target_in, target_of, module_within, flat}
use Rattle.fir_meaning.specs.States.{IsLeafOf, leaf_of}
use Rattle.fir_meaning.specs.Loops.{HasLeaves}
use Rattle.fir_meaning.proofs.Ports.{and_then, component_found, inside}
use Rattle.fir_meaning.proofs.Tracking.{some_same, Contains-map, Contains-flat_map}
use Rattle.fir_names.specs.Scopes.{Means}
use Rattle.circuit_laws.specs.WellFormed.{IsWellFormed}
use Rattle.circuit_laws.proofs.Instances.{declared_instance}
use Rattle.circuit_laws.proofs.Ranks.{ranked}
use Rattle.circuit_laws.proofs.Reached.{numbered, meant_module}
use Rattle.circuit_laws.proofs.Typed.{component_declared}
use Rattle.settling_laws.proofs.Reading.{reads_leaf}

abbrev or_none : {A B : Type 0} → (A → List B) → Option A → List B
or_none f (Some x) = f x
or_none f None = []

module _ (design : Design) where
  -- the leaves of a component, and those of a module's components
  abbrev of_component : List ℕ → TypedModule → Component → List FlatLeaf
  of_component path m c = map (λ leaf. flat m path (leaf_of c leaf)) (leaves c.typ)

  abbrev of_module : List ℕ → TypedModule → List FlatLeaf
  of_module path m = flat_map (of_component path m) m.components

  -- these, and those behind at most so many instances
  abbrev within : ℕ → List ℕ → TypedModule → List FlatLeaf
  within zero path m = of_module path m
  within (suc n) path m = of_module path m ++ flat_map (λ (c : Component). or_none (within n (path ++ c.declaration.name ∷ [])) (inside design m c.declaration.name)) m.components

  first : (n : ℕ) (path : List ℕ) (m : TypedModule) (x : FlatLeaf) → Contains (of_module path m) x → Contains (within n path m) x
  first zero path m x c = c
  first (suc n) path m x c = Contains-append_left (of_module path m) _ x c

  behind : (n : ℕ) (path : List ℕ) (m k : TypedModule) (rest : List ℕ) → module_within design m rest ≡ Some k → length rest ≤ n → (x : FlatLeaf) → Contains (of_module (path ++ rest) k) x → Contains (within n path m) x
  behind n path m k [] e le x c = first n path m x (subst (λ p. Contains (of_module p m) x) (append-nil path) (subst (λ j. Contains (of_module (path ++ []) j) x) (sym (some_same m k e)) c))
  behind zero path m k (i ∷ rest) e le x c = absurd (omega (arith, le))
  behind (suc n) path m k (i ∷ rest) e le x c =
      let next = and_then (λ j. module_within design j rest) (inside design m i) k e in
      let target = and_then (module_named design) (target_of m i) next.0 next.1 in
      let made = and_then (λ (d : Component). target_in d.declaration.sort) (component_named m i) target.0 target.1 in
      let there = component_found m i made.0 made.1 in
      let more : Contains (within n (path ++ i ∷ []) next.0) x =
      behind n (path ++ i ∷ []) next.0 k rest next.2 (omega (arith, le)) x (subst (λ p. Contains (of_module p k) x) (sym (append_assoc path (i ∷ []) rest)) c) in
      let own : Contains (or_none (within n (path ++ i ∷ [])) (inside design m i)) x = subst (λ o. Contains (or_none (within n (path ++ i ∷ [])) o) x) (sym next.1) more in
      Contains-append_right (of_module path m) _ x
      (Contains-flat_map (λ (d : Component). or_none (within n (path ++ d.declaration.name ∷ [])) (inside design m d.declaration.name)) m.components made.0 x there.1
      (subst (λ j. Contains (or_none (within n (path ++ j ∷ [])) (inside design m j)) x) (sym there.0) own))

module _ (fitted : Fitted) (well : IsWellFormed fitted) where
  abbrev circuit : Circuit
  circuit = fitted.checked.resolved

  abbrev its_design : Design
  its_design = design_of fitted

  abbrev rank : ℕ → ℕ
  rank = (ranked circuit well.names).0

  -- the number of the module behind an instance, whose rank is lower
  one_lower : (j i target : ℕ) (m n : TypedModule) (c : Component) → slice_get (modules_of fitted) j ≡ Some m → component_named m i ≡ Some c → target_in c.declaration.sort ≡ Some target
      → module_named its_design target ≡ Some n → (k : ℕ) × (slice_get (modules_of fitted) k ≡ Some n) × (rank k < rank j)
  one_lower j i target m n c e named makes found =
      let at = numbered circuit.modules fitted.declared j m e in
      let declared = component_declared m at.holder at.of c (component_found m i c named).1 in
      let name = declared_instance at.holder declared.0 target c.declaration declared.1 makes in
      let means = meant_module fitted target n found in (
        means.0,
        means.2,
        (ranked circuit well.names).2 j means.0 name.0 (record { holder = at.holder; here = at.here; stands = name.1; means = subst (λ t. Means circuit t means.0) (sym name.2) means.1 }),
      )

  short : (p : List ℕ) (j : ℕ) (m k : TypedModule) → slice_get (modules_of fitted) j ≡ Some m → module_within its_design m p ≡ Some k → length p ≤ rank j
  short [] j m k e w = omega arith
  short (i ∷ p) j m k e w =
      let next = and_then (λ x. module_within its_design x p) (inside its_design m i) k w in
      let target = and_then (module_named its_design) (target_of m i) next.0 next.1 in
      let c = and_then (λ (d : Component). target_in d.declaration.sort) (component_named m i) target.0 target.1 in
      let lower = one_lower j i target.0 m next.0 c.0 e c.1 c.2 target.2 in
      let falls : rank lower.0 < rank j = lower.2 in
      let rest : length p ≤ rank lower.0 = short p lower.0 next.0 k lower.1 next.2 in
      omega (arith, falls, rest)

  short_path : (main m : TypedModule) (path : List ℕ) → module_named its_design its_design.main ≡ Some main → module_within its_design main path ≡ Some m → length path ≤ length circuit.modules
  short_path main m path e w =
      let means = meant_module fitted its_design.main main e in
      let at = numbered circuit.modules fitted.declared means.0 main means.2 in
      let below : rank means.0 < length circuit.modules = (ranked circuit well.names).1 means.0 (slice_get_within circuit.modules means.0 at.holder at.here) in
      let rest : length path ≤ rank means.0 = short path means.0 main m means.2 w in
      omega (arith, below, rest)

  abbrev all_leaves : List FlatLeaf
  all_leaves = or_none (within its_design (length circuit.modules) []) (module_named its_design its_design.main)

  all_listed : (x : FlatLeaf) → IsLeafOf its_design x → Contains all_leaves x
  all_listed x l =
      let stands = l.stands in
      let main = and_then (λ j. module_within its_design j l.path) (module_named its_design its_design.main) l.m stands.reached in
      let own : Contains (of_component its_design l.path l.m l.c) x =
      subst (λ y. Contains (of_component its_design l.path l.m l.c) y) l.is (Contains-map (λ leaf. flat l.m l.path (leaf_of l.c leaf)) (leaves l.c.typ) l.leaf stands.listed) in
      let there : Contains (of_module its_design l.path l.m) x = Contains-flat_map (of_component its_design l.path l.m) l.m.components l.c x (component_found l.m l.c.declaration.name l.c stands.declared).1 own in
      subst (λ o. Contains (or_none (within its_design (length circuit.modules) []) o) x) (sym main.1)
      (behind its_design (length circuit.modules) [] main.0 l.m l.path main.2 (short_path main.0 l.m l.path main.1 main.2) x there)

  -- The circuit has these leaves.
  pub has_leaves : (all : List FlatLeaf) × HasLeaves its_design all
  has_leaves = (all_leaves, record { listed = all_listed; closed = reads_leaf fitted well })
