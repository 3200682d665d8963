-- The design of a well formed circuit.
use Rattle.std.proofs.Common.{◌≡◌, ℕ, zero, suc, Bool, true, false, List, [], ◌∷◌, ◌++◌, map, take, drop, length, Some, None, option_and_then, refl, sym, ap, ◌∙◌, subst, arith, if◌then◌else◌}
use Rattle.std.specs.Prelude.{Contains}
use Rattle.std.specs.List.{slice_get}
use Rattle.std.proofs.lemmas.Grind.{common_steps}
use Rattle.fir_types.specs.declared.port.Port.{Port}
use Rattle.fir_types.specs.Leaves.{leaves}
use Rattle.fir_tree.specs.declared.scope.Fitted.{Fitted}
use Rattle.fir_tree.specs.declared.stmt.Stmt.{Stmt}
use Rattle.fir_meaning.specs.Components.{Design, TypedModule, Component, Declaration, An_input, An_output, component_named, target_of, target_in, module_at, module_within, module_named, told, declared_in_block, declared_by_port, declarations_of, design_of}
use Rattle.fir_meaning.specs.Values.{seen_through}
use Rattle.fir_meaning.specs.States.{is_port}
use Rattle.fir_meaning.proofs.Ports.{component_found}
use Rattle.circuit_laws.specs.WellFormed.{IsWellFormed, IsKnownModule}
use Rattle.circuit_laws.proofs.Reached.{known_module}
use Rattle.circuit_laws.proofs.Scoping.{declared_once}
use Rattle.circuit_laws.proofs.TypedModules.{module_values}
use Rattle.net_of_circuit.specs.FlatOrder.{Placed, InFlatOrder, ListsLeaves}
use Rattle.net_laws.specs.Typed.{IsTyped, HasPortsFirst}
use Rattle.net_laws.proofs.Lists.{in_list, place_of, map_at}
use Rattle.net_laws.proofs.Standing.{within, leaf_there, entry_stands, own_there, placed_at}
use Rattle.net_laws.proofs.Once.{Apart, entries_once, leaves_once}
use Rattle.net_laws.proofs.Declared.{body_makes}
use Rattle.fir_names.proofs.Members.{Contains-get}

take_drop : {A : Type 0} (n : ℕ) (xs : List A) → xs ≡ take n xs ++ drop n xs
take_drop zero xs = refl
take_drop (suc n) [] = refl
take_drop (suc n) (x ∷ xs) = ap (λ l. x ∷ l) (take_drop n xs)

map_take : {A B : Type 0} (h : A → B) (n : ℕ) (xs : List A) → map h (take n xs) ≡ take n (map h xs)
map_take h zero xs = refl
map_take h (suc n) [] = refl
map_take h (suc n) (x ∷ xs) = ap (λ l. h x ∷ l) (map_take h n xs)

map_drop : {A B : Type 0} (h : A → B) (n : ℕ) (xs : List A) → map h (drop n xs) ≡ drop n (map h xs)
map_drop h zero xs = refl
map_drop h (suc n) [] = refl
map_drop h (suc n) (x ∷ xs) = map_drop h n xs

take_front : {A : Type 0} (xs ys : List A) → take (length xs) (xs ++ ys) ≡ xs
take_front [] ys = refl
take_front (x ∷ xs) ys = grind (arith, common_steps)

drop_front : {A : Type 0} (xs ys : List A) → drop (length xs) (xs ++ ys) ≡ ys
drop_front [] ys = refl
drop_front (x ∷ xs) ys = grind (arith, common_steps)

contains_map : {A B : Type 0} (h : A → B) (xs : List A) (x : A) → Contains xs x → Contains (map h xs) (h x)
contains_map h xs x c = let at = place_of xs x c in in_list (map h xs) at.0 (h x) (map_at h xs at.0 x at.1)

-- a port makes a port
port_declares : (body : List Stmt) (ports : List Port) (d : Declaration) → Contains (map (declared_by_port body) ports) d → is_port d.sort ≡ true
port_declares body [] d (k, below, is) = absurd (omega arith)
port_declares body (p ∷ ports) d (zero, below, is) = ap (λ (e : Declaration). is_port e.sort) (sym is) ∙ either p.output where
  either : (b : Bool) → is_port (if b then An_output else An_input) ≡ true
  either true = refl
  either false = refl
port_declares body (p ∷ ports) d (suc k, below, is) = port_declares body ports d (k, omega arith, is)

module _ (fitted : Fitted) (well : IsWellFormed fitted) where
  abbrev design : Design
  design = design_of fitted

  known : (path : List ℕ) (m : TypedModule) → module_at design path ≡ Some m → IsKnownModule fitted m
  known path m e = known_module fitted well path m e

  at_main : (main : TypedModule) → module_named design design.main ≡ Some main → module_at design [] ≡ Some main
  at_main main found = ap (option_and_then (λ m. module_within design m [])) found

  among : (m : TypedModule) (c : Component) → component_named m c.declaration.name ≡ Some c → Contains m.components c
  among m c e = (component_found m c.declaration.name c e).1

  modules_apart : (path : List ℕ) (m : TypedModule) → module_at design path ≡ Some m → Apart m.components
  modules_apart path m e j k c d f g name =
      let it = known path m e in
      let at : (i : ℕ) (x : Component) → slice_get m.components i ≡ Some x → slice_get (declarations_of it.holder) i ≡ Some x.declaration = λ i x h.
      ap (λ l. slice_get l i) (sym it.typed.components) ∙ map_at (λ y. y.declaration) m.components i x h in
      declared_once fitted.checked.resolved well.names it.holder (Contains-get fitted.checked.resolved.modules it.k it.holder it.here) j k c.declaration d.declaration (at j c f) (at k d g) name

  -- The flat order lists each leaf of the run once.
  pub lists_leaves : (main : TypedModule) → module_named design design.main ≡ Some main → (placed : List Placed) → InFlatOrder design [] main main.components placed → ListsLeaves design placed
  lists_leaves main found placed order = record {
    components = λ k p e. let s = stands k p e in (s.0, s.1);
    stands = λ x y e.
        let w = within placed x y e in
        let s = stands w.j y.0 w.there in
        (record { reached = s.0; declared = s.1; listed = in_list (leaves y.0.c.typ) w.i y.1 w.leaf }, s.2);
    own = λ path m c leaf s none.
        let at = own_there design path [] main m c order (ap (option_and_then (λ x. module_within design x path)) (sym found) ∙ s.reached) s.declared none in
        let l = place_of (leaves c.typ) leaf s.listed in
        leaf_there placed at.0 (placed_at path m c) l.0 leaf at.1 l.1;
    once = leaves_once placed
        (entries_once design well.bundles modules_apart [] main main.components order (at_main main found) (λ c h. h) (modules_apart [] main (at_main main found)))
        (λ j i k p a b e f g same.
        let s = stands j p e in
        (known p.path p.m s.0).typed.ways p.c i k a b (among p.m p.c s.1) f g same);
  } where
    stands : (k : ℕ) (p : Placed) → slice_get placed k ≡ Some p → (module_at design p.path ≡ Some p.m) × (component_named p.m p.c.declaration.name ≡ Some p.c) × (target_in p.c.declaration.sort ≡ None)
    stands k p e = entry_stands design well.bundles [] main main.components order (at_main main found) (λ c h. h) k p e

  -- The ports of a module stand first among its components.
  pub ports_first : (path : List ℕ) (m : TypedModule) → module_at design path ≡ Some m → HasPortsFirst m
  ports_first path m at =
      let it = known path m at in
      let n : ℕ = length it.holder.ports in
      let front : List Declaration = map (declared_by_port it.holder.body) it.holder.ports in
      let inner : List Declaration = declared_in_block (map told it.holder.body) in
      let counted : n ≡ length front = grind (arith, common_steps) in
      let ports_are : map (λ c. c.declaration) (take n m.components) ≡ front =
      map_take (λ c. c.declaration) n m.components ∙ (ap (take n) it.typed.components ∙ (ap (λ i. take i (front ++ inner)) counted ∙ take_front front inner)) in
      let others_are : map (λ c. c.declaration) (drop n m.components) ≡ inner =
      map_drop (λ c. c.declaration) n m.components ∙ (ap (drop n) it.typed.components ∙ (ap (λ i. drop i (front ++ inner)) counted ∙ drop_front front inner)) in
      record {
        ports = take n m.components;
        others = drop n m.components;
        are = take_drop n m.components;
        all = λ c h. port_declares it.holder.body it.holder.ports c.declaration (subst (λ l. Contains l c.declaration) ports_are (contains_map (λ x. x.declaration) (take n m.components) c h));
        none = λ c h. body_makes it.holder.body c.declaration (subst (λ l. Contains l c.declaration) others_are (contains_map (λ x. x.declaration) (drop n m.components) c h));
      }

  -- Its types are sound.
  pub is_typed : IsTyped design
  is_typed = record {
    registers = λ path m c leaf s held. (known path m s.reached).typed.held c leaf (among m c s.declared) held s.listed;
    read_data = λ path m c leaf memory s sort turned. (known path m s.reached).typed.read_data c memory leaf (among m c s.declared) sort s.listed turned;
    nodes = λ path m c e rho reached declared sort.
        let it = known path m reached in
        module_values it.holder m it.typed e _ (it.typed.nodes c e (among m c declared) sort) (λ x way. seen_through rho path x (target_of m x) way);
    ports = λ path m c memory port reached declared sort h. (known path m reached).typed.port_names c memory port (among m c declared) sort h;
    main = λ m found. ports_first [] m (at_main m found);
  }
