-- The flat order of the modules of drivers is that of the circuit.
use Rattle.std.proofs.Common.{◌≡◌, ℕ, zero, suc, ◌+◌, ◌==◌, ◌<◌, ◌≤◌, ◌&&◌, Bool, true, false, List, [], ◌∷◌, ◌++◌, map, filter_map, length, Option, Some, None, option_and_then, refl, sym, ap, ◌∙◌, subst, arith, append_assoc, if◌then◌else◌}
use Rattle.std.specs.Prelude.{Contains}
use Rattle.std.specs.List.{slice_get, flat_map, cons_option, sum_by}
use Rattle.std.proofs.lemmas.Grind.{common_steps, flat_map-append}
use Rattle.std.proofs.lemmas.List.Concat.{flat_map-cons}
use Rattle.std.proofs.lemmas.List.Sums.{sum_by-cons}
use Rattle.fir_types.specs.declared.leaf.TypeLeaf.{TypeLeaf}
use Rattle.fir_types.specs.declared.leaf.PathStep.TheVariants as step
use Rattle.fir_types.specs.declared.memory.Memory.{Memory}
use Rattle.fir_types.specs.declared.port.Port.{Port}
use Rattle.fir_types.specs.Leaves.{leaves, under}
use Rattle.fir_types.specs.Bundles.{nowhere, instance_field, instance_of}
use Rattle.fir_tree.specs.declared.circuit.Circuit.{Circuit}
use Rattle.fir_tree.specs.declared.scope.Fitted.{Fitted}
use Rattle.fir_names.specs.Scopes.{FirstOf}
use Rattle.fir_tree.specs.LeafNames.{Texts}
use Rattle.fir_meaning.specs.Components.{Design, TypedModule, Component, Sort, An_input, An_output, A_wire, A_register, A_reset_register, A_memory, An_instance, A_node, design_of, modules_of, module_at, module_named, component_named, target_in, typed_ports, port_of}
use Rattle.fir_meaning.specs.States.{is_port}
use Rattle.fir_meaning.proofs.Ports.{at_snoc, inside, target_is, target_sort}
use Rattle.circuit_laws.specs.WellFormed.{IsWellFormed}
use Rattle.circuit_laws.proofs.Reached.{reached_is_standing, meant_module}
use Rattle.ground_net.specs.declared.circuit.GroundCircuit.{GroundCircuit}
use Rattle.ground_net.specs.declared.circuit.DrivenCircuit.{DrivenCircuit}
use Rattle.ground_net.specs.declared.circuit.GroundModule.{GroundModule}
use Rattle.ground_net.specs.declared.circuit.DrivenModule.{DrivenModule}
use Rattle.ground_net.specs.declared.circuit.GroundInstance.{GroundInstance}
use Rattle.ground_net.specs.declared.circuit.GroundMemory.{GroundMemory}
use Rattle.expand_whens.specs.Expanding.{IsExpanded, IsExpandedModule}
use Rattle.net_of_circuit.specs.FlatOrder.{Placed, InFlatOrder, no_more, one_more, an_instance, Standing, all_leaves}
use Rattle.net_of_circuit.specs.Numbers.{module_leaves, leaves_of, as_memory, memory_parts, instance_parts}
use Rattle.net_of_circuit.specs.Lowering.{IsGroundOf, IsGroundModule, IsGroundInstance}
use Rattle.flatten_instances.specs.FlatOrder.{Spot, spot, Item, A_leaf, instance_here, memory_here, leaf_spots, leaf_in, memories_from}
use Rattle.flatten_instances.specs.FlatOrder as items
use Rattle.net_laws.proofs.Rows.{all_of_append, leaves_of as entries_of}
use Rattle.net_laws.proofs.Lists.{in_list, below_length, map_at, first_of, second_of, append_nil}
use Rattle.net_laws.proofs.Standing.{placed_at}
use Rattle.lowering_laws.proofs.Heights.{some_same, none_some, height, takes_instance, takes_memory, takes_leaf, takes_nothing}
use Rattle.lowering_laws.proofs.Inside.{instance_leaves}
use Rattle.lowering_laws.proofs.Parts.{StandsFrom, no_component, instance_next, memory_next, other_next, instance_behind, memory_behind, item, stands_from, leaves_counted_of}

-- Lists, two by two

pub data Two {A B : Type 0} (R : A → B → Type 0) : List A → List B → Type 0 where
  none : Two R [] []
  both : {a : A} {b : B} {as' : List A} {bs : List B} → R a b → Two R as' bs → Two R (a ∷ as') (b ∷ bs)

pub two_append : {A B : Type 0} {R : A → B → Type 0} {xs xs' : List A} {ys ys' : List B} → Two R xs ys → Two R xs' ys' → Two R (xs ++ xs') (ys ++ ys')
two_append none t = t
two_append (both r s) t = both r (two_append s t)

pub two_counted : {A B : Type 0} {R : A → B → Type 0} {xs : List A} {ys : List B} → Two R xs ys → length xs ≡ length ys
two_counted none = refl
two_counted (both r s) = let n = two_counted s in omega arith

pub two_at : {A B : Type 0} {R : A → B → Type 0} {xs : List A} {ys : List B} → Two R xs ys → (k : ℕ) (x : A) → slice_get xs k ≡ Some x → (y : B) × (slice_get ys k ≡ Some y) × R x y
two_at none k x e = none_some e
two_at {R = R} (both {b = b} r s) zero x e = (b, refl, subst (λ z. R z b) (some_same e) r)
two_at (both r s) (suc k) x e = two_at s k x e

pub two_back : {A B : Type 0} {R : A → B → Type 0} {xs : List A} {ys : List B} → Two R xs ys → (k : ℕ) (y : B) → slice_get ys k ≡ Some y → (x : A) × (slice_get xs k ≡ Some x) × R x y
two_back none k y e = none_some e
two_back {R = R} (both {a = a} r s) zero y e = (a, refl, subst (λ z. R a z) (some_same e) r)
two_back (both r s) (suc k) y e = two_back s k y e

-- Ports of a module and the leaves of its instances

abbrev pub field_leaves_of : Port → List TypeLeaf
field_leaves_of port = map (under (step.Field (instance_field port).name.id ∷ []) (instance_field port).flip) (leaves (instance_field port).typ)

abbrev pub port_size : Component → ℕ
port_size c = if is_port c.declaration.sort then length (leaves c.typ) else 0

abbrev pub ports_of_list : List Component → List Port
ports_of_list cs = filter_map (λ c. port_of c c.declaration.sort) cs

pub length_append : {A : Type 0} (xs ys : List A) → length (xs ++ ys) ≡ length xs + length ys
length_append [] ys = omega arith
length_append (x ∷ xs) ys = let r = length_append xs ys in omega arith

pub map_counted : {A B : Type 0} (f : A → B) (xs : List A) → length (map f xs) ≡ length xs
map_counted f [] = refl
map_counted f (x ∷ xs) = let r = map_counted f xs in omega arith

-- one component's port, where it is one
own_size : (c : Component) (sort : Sort) → c.declaration.sort ≡ sort → (rest : List Port)
    → length (flat_map field_leaves_of (cons_option (port_of c sort) rest)) ≡ (if is_port sort then length (leaves c.typ) else 0) + length (flat_map field_leaves_of rest)
own_size c An_input s rest =
    let port : Port = record { output = false; name = record { id = c.declaration.name; place = nowhere }; typ = c.typ } in
    ap length (flat_map-cons field_leaves_of port rest) ∙ (length_append (field_leaves_of port) (flat_map field_leaves_of rest)
    ∙ ap (λ n. n + length (flat_map field_leaves_of rest)) (map_counted (under (step.Field (instance_field port).name.id ∷ []) (instance_field port).flip) (leaves c.typ)))
own_size c An_output s rest =
    let port : Port = record { output = true; name = record { id = c.declaration.name; place = nowhere }; typ = c.typ } in
    ap length (flat_map-cons field_leaves_of port rest) ∙ (length_append (field_leaves_of port) (flat_map field_leaves_of rest)
    ∙ ap (λ n. n + length (flat_map field_leaves_of rest)) (map_counted (under (step.Field (instance_field port).name.id ∷ []) (instance_field port).flip) (leaves c.typ)))
own_size c A_wire s rest = omega arith
own_size c (A_register clock) s rest = omega arith
own_size c (A_reset_register clock reset init) s rest = omega arith
own_size c (A_memory memory) s rest = omega arith
own_size c (An_instance target) s rest = omega arith
own_size c (A_node expr) s rest = omega arith

ports_length : (cs : List Component) → length (flat_map field_leaves_of (ports_of_list cs)) ≡ sum_by port_size cs
ports_length [] = grind (arith, common_steps)
ports_length (c ∷ cs) = own_size c c.declaration.sort refl (ports_of_list cs) ∙ (ap (λ n. port_size c + n) (ports_length cs) ∙ sym (sum_by-cons port_size c cs))

pub flat_map_map : {A B C : Type 0} (f : B → List C) (g : A → B) (xs : List A) → flat_map f (map g xs) ≡ flat_map (λ x. f (g x)) xs
flat_map_map f g [] = refl
flat_map_map f g (x ∷ xs) = flat_map-cons f (g x) (map g xs) ∙ (ap (λ l. f (g x) ++ l) (flat_map_map f g xs) ∙ sym (flat_map-cons (λ x. f (g x)) x xs))

pub instance_size : (m : TypedModule) → length (leaves (instance_of (typed_ports m))) ≡ sum_by port_size m.components
instance_size m =
    ap length (instance_leaves (typed_ports m) ∙ flat_map_map (λ f. map (under (step.Field f.name.id ∷ []) f.flip) (leaves f.typ)) instance_field (typed_ports m)) ∙ ports_length m.components

-- Names of modules

first_unique : (xs : List ℕ) (x j k : ℕ) → FirstOf xs x j → FirstOf xs x k → j ≡ k
first_unique xs x j k f g = grind_less j k (λ h. f.first k h g.has) (λ h. g.first j h f.has) where
  grind_less : (j k : ℕ) → (k < j → ⊥) → (j < k → ⊥) → j ≡ k
  grind_less zero zero a b = refl
  grind_less zero (suc k) a b = absurd (b (omega arith))
  grind_less (suc j) zero a b = absurd (a (omega arith))
  grind_less (suc j) (suc k) a b = ap suc (grind_less j k (λ h. a (omega arith)) (λ h. b (omega arith)))

-- The memories of entries, each with the number of leaves before it.

abbrev pub memory_entry : ℕ → Placed → Sort → Option (ℕ × Placed × Memory)
memory_entry b p (A_memory memory) = Some (b, p, memory)
memory_entry b p _ = None

abbrev pub memory_entries : ℕ → List Placed → List (ℕ × Placed × Memory)
memory_entries b [] = []
memory_entries b (p ∷ ps) = cons_option (memory_entry b p p.c.declaration.sort) (memory_entries (b + length (leaves p.c.typ)) ps)

entries_counted : (p : Placed) → length (entries_of p) ≡ length (leaves p.c.typ)
entries_counted p = map_counted (λ leaf. (p, leaf)) (leaves p.c.typ)

cons_append : {B : Type 0} (o : Option B) (xs ys : List B) → cons_option o (xs ++ ys) ≡ cons_option o xs ++ ys
cons_append None xs ys = refl
cons_append (Some x) xs ys = refl

pub memory_entries_append : (b : ℕ) (ps qs : List Placed) → memory_entries b (ps ++ qs) ≡ memory_entries b ps ++ memory_entries (b + length (all_leaves ps)) qs
memory_entries_append b [] qs = let n : b ≡ b + 0 = omega arith in ap (λ z. memory_entries z qs) n
memory_entries_append b (p ∷ ps) qs =
    let n : b + length (leaves p.c.typ) + length (all_leaves ps) ≡ b + length (all_leaves (p ∷ ps)) =
    (let m : b + length (leaves p.c.typ) + length (all_leaves ps) ≡ b + (length (leaves p.c.typ) + length (all_leaves ps)) = omega arith in
    m ∙ ap (λ z. b + z) (sym (ap length (flat_map-cons entries_of p ps) ∙ (length_append (entries_of p) (all_leaves ps) ∙ ap (λ z. z + length (all_leaves ps)) (entries_counted p))))) in
    ap (cons_option (memory_entry b p p.c.declaration.sort)) (memory_entries_append (b + length (leaves p.c.typ)) ps qs ∙ ap (λ z. memory_entries (b + length (leaves p.c.typ)) ps ++ memory_entries z qs) n)
    ∙ cons_append (memory_entry b p p.c.declaration.sort) (memory_entries (b + length (leaves p.c.typ)) ps) (memory_entries (b + length (all_leaves (p ∷ ps))) qs)

-- Items

pub spots_append : (xs ys : List Item) → leaf_spots (xs ++ ys) ≡ leaf_spots xs ++ leaf_spots ys
spots_append [] ys = refl
spots_append (x ∷ xs) ys = ap (cons_option (leaf_in x)) (spots_append xs ys) ∙ cons_append (leaf_in x) (leaf_spots xs) (leaf_spots ys)

pub memories_append : (b : ℕ) (xs ys : List Item) → memories_from b (xs ++ ys) ≡ memories_from b xs ++ memories_from (b + length (leaf_spots xs)) ys
memories_append b [] ys = let n : b ≡ b + 0 = omega arith in ap (λ z. memories_from z ys) n
memories_append b (items.A_leaf s ∷ xs) ys =
    let n : b + 1 + length (leaf_spots xs) ≡ b + length (leaf_spots (items.A_leaf s ∷ xs)) = omega arith in
    memories_append (b + 1) xs ys ∙ ap (λ z. memories_from (b + 1) xs ++ memories_from z ys) n
memories_append b (items.A_memory s ∷ xs) ys = ap (λ l. (b, s) ∷ l) (memories_append b xs ys)

spots_of_leaves : (ss : List Spot) → leaf_spots (map A_leaf ss) ≡ ss
spots_of_leaves [] = refl
spots_of_leaves (s ∷ ss) = ap (λ l. s ∷ l) (spots_of_leaves ss)

memories_of_leaves : (b : ℕ) (ss : List Spot) → memories_from b (map A_leaf ss) ≡ []
memories_of_leaves b [] = refl
memories_of_leaves b (s ∷ ss) = memories_of_leaves (b + 1) ss

module _ (fitted : Fitted) (well : IsWellFormed fitted) (lowered : GroundCircuit) (is : IsGroundOf fitted lowered) (driven : DrivenCircuit) (expanded : IsExpanded lowered driven) where
  abbrev design : Design
  design = design_of fitted

  abbrev texts : Texts
  texts = fitted.checked.resolved.names

  abbrev circuit : Circuit
  circuit = fitted.checked.resolved

  -- The module with a number, in each of its forms.
  pub record Known (n : ℕ) (m : TypedModule) (d : DrivenModule) : Type 0 where
    pub there : slice_get (modules_of fitted) n ≡ Some m
    pub driven_there : slice_get driven.modules n ≡ Some d
    pub g : GroundModule
    pub ground_is : IsGroundModule texts circuit m g
    pub driven_is : IsExpandedModule g d

  pub known_at : (names : List ℕ) (n : ℕ) (m : TypedModule) (d : DrivenModule) → module_at design names ≡ Some m → slice_get (modules_of fitted) n ≡ Some m → slice_get driven.modules n ≡ Some d → Known n m d
  known_at names n m d at there found =
      let reached = (reached_is_standing fitted well n m there).1 (names, at) in
      let g = item lowered.modules n (subst (λ k. n < k) expanded.counted (below_length driven.modules n d found)) in
      record { there = there; driven_there = found; g = g.0; ground_is = is.modules n m g.0 there reached g.1; driven_is = expanded.each n g.0 d g.1 found }

  -- A path of instances by their numbers, the innermost first, leads to a module of a number, at the path of these names.
  pub data Leads : List ℕ → ℕ → TypedModule → DrivenModule → List ℕ → Type 0 where
    at_main : (m : TypedModule) (d : DrivenModule) → module_at design [] ≡ Some m → Known driven.main m d → Leads [] driven.main m d []
    behind : {path : List ℕ} {n : ℕ} {m : TypedModule} {d : DrivenModule} {names : List ℕ} (i at target : ℕ) (c : Component) (gi : GroundInstance) (inner : TypedModule) (child : DrivenModule) → Leads path n m d names
        → slice_get (instance_parts m.components) i ≡ Some (at, c, target) → slice_get d.instances i ≡ Some gi → IsGroundInstance texts circuit m at c target gi → module_named design target ≡ Some inner
        → module_at design (names ++ c.declaration.name ∷ []) ≡ Some inner → Known gi.module inner child → Leads (i ∷ path) gi.module inner child (names ++ c.declaration.name ∷ [])

  pub leads_at : {path : List ℕ} {n : ℕ} {m : TypedModule} {d : DrivenModule} {names : List ℕ} → Leads path n m d names → module_at design names ≡ Some m
  leads_at (at_main m d at known) = at
  leads_at (behind i a target c gi inner child leads part there placed named at known) = at

  pub leads_known : {path : List ℕ} {n : ℕ} {m : TypedModule} {d : DrivenModule} {names : List ℕ} → Leads path n m d names → Known n m d
  leads_known (at_main m d at known) = known
  leads_known (behind i a target c gi inner child leads part there placed named at known) = known

  -- A spot of a leaf is an entry of the circuit.
  pub record IsAt (s : Spot) (y : Standing) : Type 0 where
    pub d : DrivenModule
    pub leads : Leads s.path s.within y.0.m d y.0.path
    pub number : slice_get (module_leaves y.0.m) s.number ≡ Some (y.0.c, y.1)
    pub own : target_in y.0.c.declaration.sort ≡ None

  -- A spot of a memory, with so many leaves before it, is a memory of the circuit.
  pub record IsMemoryAt (a : ℕ × Spot) (b : ℕ × Placed × Memory) : Type 0 where
    pub before : a.0 ≡ b.0
    pub d : DrivenModule
    pub leads : Leads a.1.path a.1.within b.1.m d b.1.path
    pub sort : b.1.c.declaration.sort ≡ A_memory b.2
    pub at : ℕ
    pub part : slice_get (memory_parts b.1.m.components) a.1.number ≡ Some (at, b.1.c, b.2)

  pub record Matched (names : List ℕ) (m : TypedModule) (cs : List Component) (all : List Item) : Type 0 where
    pub placed : List Placed
    pub order : InFlatOrder design names m cs placed
    pub leaves_match : Two IsAt (leaf_spots all) (all_leaves placed)
    pub memories_match : (b : ℕ) → Two IsMemoryAt (memories_from b all) (memory_entries b placed)

  -- One module

  moved_to : {path : List ℕ} {n y z k i : ℕ} {d : DrivenModule} {all : List Item} → y ≡ z → (o : items.InFlatOrder driven path n d y k i all) → (p : items.InFlatOrder driven path n d z k i all) × (height p ≡ height o)
  moved_to {path} {n} {y} {z} {k} {i} {d} {all} e o = subst (λ x. (p : items.InFlatOrder driven path n d x k i all) × (height p ≡ height o)) e (o, refl)

  no_instance_here : (d : DrivenModule) (y k i : ℕ) → ((gi : GroundInstance) → slice_get d.instances i ≡ Some gi → ((gi.first == y) && (gi.memories == k)) ≡ false) → instance_here d y k i ≡ None
  no_instance_here d y k i h = by (slice_get d.instances i) refl where
    by : (o : Option GroundInstance) → slice_get d.instances i ≡ o → instance_here d y k i ≡ None
    by None e = ap (option_and_then (λ gi. if (gi.first == y) && (gi.memories == k) then Some gi else None)) e
    by (Some gi) e = ap (option_and_then (λ gi. if (gi.first == y) && (gi.memories == k) then Some gi else None)) e ∙ ap (λ b. if b then Some gi else None) (h gi e)

  no_memory_here : (d : DrivenModule) (y k : ℕ) → ((gm : GroundMemory) → slice_get d.memories k ≡ Some gm → (gm.first == y) ≡ false) → memory_here d y k ≡ None
  no_memory_here d y k h = by (slice_get d.memories k) refl where
    by : (o : Option GroundMemory) → slice_get d.memories k ≡ o → memory_here d y k ≡ None
    by None e = ap (option_and_then (λ gm. if gm.first == y then Some gm else None)) e
    by (Some gm) e = ap (option_and_then (λ gm. if gm.first == y then Some gm else None)) e ∙ ap (λ b. if b then Some gm else None) (h gm e)

  later_first : (a y : ℕ) → y < a → (a == y) ≡ false
  later_first a y h = grind (arith, common_steps, h)

  and_false_left : (a b : Bool) → a ≡ false → (a && b) ≡ false
  and_false_left a b e = ap (λ x. x && b) e

  and_false_right : (a b : Bool) → b ≡ false → (a && b) ≡ false
  and_false_right true b e = e
  and_false_right false b e = refl

  module _ (path names : List ℕ) (n : ℕ) (m : TypedModule) (d : DrivenModule) (leads : Leads path n m d names) where
    abbrev here : Component → Placed
    here c = placed_at names m c

    record Peeled (c : Component) (ls : List TypeLeaf) (z k i : ℕ) (all : List Item) (high : ℕ) : Type 0 where
      spots : List Spot
      rest : List Item
      are : all ≡ map A_leaf spots ++ rest
      match : Two IsAt spots (map (λ leaf. (here c, leaf)) ls)
      onward : items.InFlatOrder driven path n d z k i rest
      high_is : height onward ≤ high

    -- the leaves of a component that is no instance, one after the other
    peel : (c : Component) → target_in c.declaration.sort ≡ None → (ls : List TypeLeaf) (y z k i : ℕ) → y + length ls ≡ z
        → ((j : ℕ) (leaf : TypeLeaf) → slice_get ls j ≡ Some leaf → slice_get (module_leaves m) (y + j) ≡ Some (c, leaf))
        → ((gi : GroundInstance) → slice_get d.instances i ≡ Some gi → z ≤ gi.first) → ((gm : GroundMemory) → slice_get d.memories k ≡ Some gm → z ≤ gm.first)
        → {all : List Item} → (o : items.InFlatOrder driven path n d y k i all) → Peeled c ls z k i all (height o)
    peel c own [] y z k i e at late_instance late_memory {all} o =
        let zero : y ≡ z = (let f : y ≡ y + 0 = omega arith in f ∙ e) in
        let p = moved_to zero o in
        let h = p.1 in
        record { spots = []; rest = all; are = refl; match = none; onward = p.0; high_is = grind (arith, common_steps, h) }
    peel c own (l ∷ ls) y z k i e at late_instance late_memory {all} o =
        let below : y < z = grind (arith, common_steps, e) in
        let known = leads_known leads in
        let zero : y + 0 ≡ y = omega arith in
        let leaf_there : slice_get (module_leaves m) y ≡ Some (c, l) = ap (slice_get (module_leaves m)) (sym zero) ∙ at 0 l refl in
        let counted : length d.leaves ≡ length (module_leaves m) = ap length known.driven_is.leaves ∙ known.ground_is.counted in
        let leaf = item d.leaves y (subst (λ x. y < x) (sym counted) (below_length (module_leaves m) y (c, l) leaf_there)) in
        let absent = no_instance_here d y k i (λ gi h. and_false_left (gi.first == y) (gi.memories == k) (let late = late_instance gi h in later_first gi.first y (omega arith))) in
        let absent2 = no_memory_here d y k (λ gm h. let late = late_memory gm h in later_first gm.first y (omega arith)) in
        let t = takes_leaf leaf.0 absent absent2 leaf.1 o in
        let r = peel c own ls (y + 1) z k i (omega arith) (λ j x h. let n : y + suc j ≡ y + 1 + j = omega arith in subst (λ q. slice_get (module_leaves m) q ≡ Some (c, x)) n (at (suc j) x h)) late_instance late_memory t.onward in
        let h = r.high_is in
        let g = t.onward_high in
        record {
          spots = spot path n y ∷ r.spots;
          rest = r.rest;
          are = t.are ∙ ap (λ l. A_leaf (spot path n y) ∷ l) r.are;
          match = both (record { d = d; leads = leads; number = leaf_there; own = own }) r.match;
          onward = r.onward;
          high_is = omega arith;
        }

  -- What an entry of a component gives, put before the rest.
  put_first : (names : List ℕ) (m : TypedModule) (c : Component) (cs : List Component) (spots : List Spot) (rest all : List Item) → target_in c.declaration.sort ≡ None → as_memory 0 c c.declaration.sort ≡ None → all ≡ map A_leaf spots ++ rest
      → Two IsAt spots (map (λ leaf. (placed_at names m c, leaf)) (leaves c.typ)) → Matched names m cs rest → Matched names m (c ∷ cs) all
  put_first names m c cs spots rest all own plain are match r =
      let p : Placed = placed_at names m c in
      let counted : length spots ≡ length (leaves c.typ) = two_counted match ∙ map_counted (λ leaf. (p, leaf)) (leaves c.typ) in
      record {
        placed = p ∷ r.placed;
        order = one_more own r.order;
        leaves_match = subst (λ xs. Two IsAt xs (all_leaves (p ∷ r.placed))) (sym (ap leaf_spots are ∙ (spots_append (map A_leaf spots) rest ∙ ap (λ l. l ++ leaf_spots rest) (spots_of_leaves spots))))
            (subst (λ ys. Two IsAt (spots ++ leaf_spots rest) ys) (sym (flat_map-cons entries_of p r.placed)) (two_append match r.leaves_match));
        memories_match = λ b.
            let items_are : memories_from b all ≡ memories_from (b + length (leaves c.typ)) rest =
            ap (memories_from b) are ∙ (memories_append b (map A_leaf spots) rest ∙ (ap (λ l. l ++ memories_from (b + length (leaf_spots (map A_leaf spots))) rest) (memories_of_leaves b spots)
            ∙ ap (λ k. memories_from (b + k) rest) (ap length (spots_of_leaves spots) ∙ counted))) in
            subst (λ xs. Two IsMemoryAt xs (memory_entries b (p ∷ r.placed))) (sym items_are)
            (subst (λ o. Two IsMemoryAt (memories_from (b + length (leaves c.typ)) rest) (cons_option o (memory_entries (b + length (leaves c.typ)) r.placed))) (sym (no_entry c.declaration.sort plain b)) (r.memories_match (b + length (leaves c.typ))));
      }
    where
      no_entry : (sort : Sort) → as_memory 0 c sort ≡ None → (b : ℕ) → memory_entry b (placed_at names m c) sort ≡ None
      no_entry (A_memory memory) e b = none_some (sym e)
      no_entry An_input e b = refl
      no_entry An_output e b = refl
      no_entry A_wire e b = refl
      no_entry (A_register clock) e b = refl
      no_entry (A_reset_register clock reset init) e b = refl
      no_entry (An_instance target) e b = refl
      no_entry (A_node expr) e b = refl

  put_memory : (names : List ℕ) (m : TypedModule) (c : Component) (cs : List Component) (s : Spot) (spots : List Spot) (rest all : List Item) (memory : Memory) → c.declaration.sort ≡ A_memory memory → all ≡ items.A_memory s ∷ (map A_leaf spots ++ rest)
      → ((b : ℕ) → IsMemoryAt (b, s) (b, placed_at names m c, memory)) → Two IsAt spots (map (λ leaf. (placed_at names m c, leaf)) (leaves c.typ)) → Matched names m cs rest → Matched names m (c ∷ cs) all
  put_memory names m c cs s spots rest all memory sort are at match r =
      let p : Placed = placed_at names m c in
      let counted : length spots ≡ length (leaves c.typ) = two_counted match ∙ map_counted (λ leaf. (p, leaf)) (leaves c.typ) in
      record {
        placed = p ∷ r.placed;
        order = one_more (ap target_in sort) r.order;
        leaves_match = subst (λ xs. Two IsAt xs (all_leaves (p ∷ r.placed))) (sym (ap leaf_spots are ∙ (spots_append (map A_leaf spots) rest ∙ ap (λ l. l ++ leaf_spots rest) (spots_of_leaves spots))))
            (subst (λ ys. Two IsAt (spots ++ leaf_spots rest) ys) (sym (flat_map-cons entries_of p r.placed)) (two_append match r.leaves_match));
        memories_match = λ b.
            let items_are : memories_from b all ≡ (b, s) ∷ memories_from (b + length (leaves c.typ)) rest =
            ap (memories_from b) are ∙ ap (λ l. (b, s) ∷ l) (memories_append b (map A_leaf spots) rest ∙ (ap (λ l. l ++ memories_from (b + length (leaf_spots (map A_leaf spots))) rest) (memories_of_leaves b spots)
            ∙ ap (λ k. memories_from (b + k) rest) (ap length (spots_of_leaves spots) ∙ counted))) in
            subst (λ xs. Two IsMemoryAt xs (memory_entries b (p ∷ r.placed))) (sym items_are)
            (subst (λ o. Two IsMemoryAt ((b, s) ∷ memories_from (b + length (leaves c.typ)) rest) (cons_option o (memory_entries (b + length (leaves c.typ)) r.placed))) (sym (ap (memory_entry b p) sort))
            (both (at b) (r.memories_match (b + length (leaves c.typ)))));
      }

  put_instance : (names : List ℕ) (m n : TypedModule) (c : Component) (cs : List Component) (target : ℕ) (own rest all : List Item) → target_in c.declaration.sort ≡ Some target → module_named design target ≡ Some n → all ≡ own ++ rest
      → Matched (names ++ c.declaration.name ∷ []) n n.components own → Matched names m cs rest → Matched names m (c ∷ cs) all
  put_instance names m n c cs target own rest all t found are inner r =
      let counted : length (leaf_spots own) ≡ length (all_leaves inner.placed) = two_counted inner.leaves_match in
      record {
        placed = inner.placed ++ r.placed;
        order = an_instance target n t found inner.order r.order;
        leaves_match = subst (λ xs. Two IsAt xs (all_leaves (inner.placed ++ r.placed))) (sym (ap leaf_spots are ∙ spots_append own rest))
            (subst (λ ys. Two IsAt (leaf_spots own ++ leaf_spots rest) ys) (sym (all_of_append inner.placed r.placed)) (two_append inner.leaves_match r.leaves_match));
        memories_match = λ b.
            subst (λ xs. Two IsMemoryAt xs (memory_entries b (inner.placed ++ r.placed))) (sym (ap (memories_from b) are ∙ memories_append b own rest))
            (subst (λ ys. Two IsMemoryAt (memories_from b own ++ memories_from (b + length (leaf_spots own)) rest) ys) (sym (memory_entries_append b inner.placed r.placed))
            (two_append (inner.memories_match b)
            (subst (λ k. Two IsMemoryAt (memories_from (b + length (leaf_spots own)) rest) (memory_entries (b + k) r.placed)) counted (r.memories_match (b + length (leaf_spots own))))));
      }

  abbrev Inner : ℕ → Type 0
  Inner high = (path names : List ℕ) (n : ℕ) (m : TypedModule) (d : DrivenModule) → Leads path n m d names → (all : List Item) → (o : items.InFlatOrder driven path n d 0 0 0 all) → height o < high → Matched names m m.components all

  module _ (high : ℕ) (inner : Inner high) (path names : List ℕ) (n : ℕ) (m : TypedModule) (d : DrivenModule) (leads : Leads path n m d names) where
    -- the leaves of a component among those of the module
    leaves_at : (front : List Component) (c : Component) (cs : List Component) → front ++ c ∷ cs ≡ m.components → (j : ℕ) (leaf : TypeLeaf) → slice_get (leaves c.typ) j ≡ Some leaf
        → slice_get (module_leaves m) (length (flat_map leaves_of front) + j) ≡ Some (c, leaf)
    leaves_at front c cs e j leaf h =
        ap (λ l. slice_get (flat_map leaves_of l) (length (flat_map leaves_of front) + j)) (sym e)
        ∙ (ap (λ l. slice_get l (length (flat_map leaves_of front) + j)) (flat_map-append leaves_of front (c ∷ cs) ∙ ap (λ l. flat_map leaves_of front ++ l) (flat_map-cons leaves_of c cs))
        ∙ second_of (flat_map leaves_of front) (leaves_of c ++ flat_map leaves_of cs) j (c, leaf) (first_of (leaves_of c) (flat_map leaves_of cs) j (c, leaf) (map_at (λ l. (c, l)) (leaves c.typ) j leaf h)))

    front_more : (front : List Component) (c : Component) → length (flat_map leaves_of (front ++ c ∷ [])) ≡ length (flat_map leaves_of front) + length (leaves c.typ)
    front_more front c =
        ap length (flat_map-append leaves_of front (c ∷ []) ∙ ap (λ l. flat_map leaves_of front ++ l) (flat_map-cons leaves_of c [] ∙ append_nil (leaves_of c)))
        ∙ (length_append (flat_map leaves_of front) (leaves_of c) ∙ ap (λ k. length (flat_map leaves_of front) + k) (leaves_counted_of c))

    walk : (cs front : List Component) → front ++ cs ≡ m.components → (y k i : ℕ) → y ≡ length (flat_map leaves_of front) → StandsFrom texts circuit m d y k i cs → {all : List Item}
        → (o : items.InFlatOrder driven path n d y k i all) → height o ≤ high → Matched names m cs all
    walk [] front e y k i at (no_component no_leaf no_memory no_instance) {all} o h =
        let nothing : all ≡ [] = takes_nothing no_instance no_memory no_leaf o in
        subst (Matched names m []) (sym nothing) (record { placed = []; order = no_more; leaves_match = none; memories_match = λ b. none })
    walk (c ∷ cs) front e y k i at (other_next _ own absent rest) {all} o h =
        let z : ℕ = y + length (leaves c.typ) in
        let p = peel path names n m d leads c own (leaves c.typ) y z k i refl
        (λ j leaf l. ap (λ q. slice_get (module_leaves m) (q + j)) at ∙ leaves_at front c cs e j leaf l) (λ gi q. (instance_behind rest gi q).0) (λ gm q. memory_behind rest gm q) o in
        let ph = p.high_is in
        put_first names m c cs p.spots p.rest all own (absent 0) p.are p.match
        (walk cs (front ++ c ∷ []) (append_assoc front (c ∷ []) cs ∙ e) z k i (ap (λ q. q + length (leaves c.typ)) at ∙ sym (front_more front c)) rest p.onward (omega arith))
    walk (c ∷ cs) front e y k i at (memory_next _ place memory gm sort there first part placed rest) {all} o h =
        let z : ℕ = y + length (leaves c.typ) in
        let own : target_in c.declaration.sort ≡ None = ap target_in sort in
        let absent = no_instance_here d y k i (λ gi q. let behind = (instance_behind rest gi q).1 in and_false_right (gi.first == y) (gi.memories == k) (later_first gi.memories k (omega arith))) in
        let tested : (gm.first == y) ≡ true = grind (arith, common_steps, first) in
        let here_is : memory_here d y k ≡ Some gm =
        ap (option_and_then (λ g. if g.first == y then Some g else None)) there ∙ ap (λ b. if b then Some gm else None) tested in
        let t = takes_memory gm absent here_is o in
        let th = t.onward_high in
        let p = peel path names n m d leads c own (leaves c.typ) y z (k + 1) i refl
        (λ j leaf l. ap (λ q. slice_get (module_leaves m) (q + j)) at ∙ leaves_at front c cs e j leaf l) (λ gi q. (instance_behind rest gi q).0) (λ gm q. memory_behind rest gm q) t.onward in
        let ph = p.high_is in
        put_memory names m c cs (spot path n k) p.spots p.rest all memory sort (t.are ∙ ap (λ l. items.A_memory (spot path n k) ∷ l) p.are)
        (λ b. record { before = refl; d = d; leads = leads; sort = sort; at = place; part = part }) p.match
        (walk cs (front ++ c ∷ []) (append_assoc front (c ∷ []) cs ∙ e) z (k + 1) i (ap (λ q. q + length (leaves c.typ)) at ∙ sym (front_more front c)) rest p.onward (omega arith))
    walk (c ∷ cs) front e y k i at (instance_next _ place target gi t there first memories part placed rest) {all} o h =
        let names_here : module_at design names ≡ Some m = leads_at leads in
        let among : Contains m.components c = subst (λ l. Contains l c) e (in_list (front ++ c ∷ cs) (length front + 0) c (second_of front (c ∷ cs) 0 c refl)) in
        let declared : component_named m c.declaration.name ≡ Some c = well.bundles.names names m c names_here among in
        let bundle = well.bundles.instances names m c target names_here declared (target_sort c.declaration.sort target t) in
        let child_is : TypedModule = bundle.0 in
        let number = meant_module fitted target child_is bundle.1 in
        let same : number.0 ≡ gi.module = first_unique _ target number.0 gi.module number.1 placed.makes in
        let number_there : slice_get (modules_of fitted) gi.module ≡ Some child_is = ap (slice_get (modules_of fitted)) (sym same) ∙ number.2 in
        let tested : ((gi.first == y) && (gi.memories == k)) ≡ true = grind (arith, common_steps, first, memories) in
        let here_is : instance_here d y k i ≡ Some gi =
        ap (option_and_then (λ g. if (g.first == y) && (g.memories == k) then Some g else None)) there ∙ ap (λ b. if b then Some gi else None) tested in
        let taken = takes_instance gi here_is o in
        let ih = taken.inner_high in
        let oh = taken.onward_high in
        let at_child : module_at design (names ++ c.declaration.name ∷ []) ≡ Some child_is =
        at_snoc design names c.declaration.name
        ∙ (ap (option_and_then (λ x. inside design x c.declaration.name)) names_here
        ∙ (ap (option_and_then (module_named design)) (target_is m c target declared (target_sort c.declaration.sort target t)) ∙ bundle.1)) in
        let known = known_at (names ++ c.declaration.name ∷ []) gi.module child_is taken.child at_child number_there taken.found in
        let inner_leads = behind i place target c gi child_is taken.child leads part there placed bundle.1 at_child known in
        let ports : taken.child.ports ≡ length (leaves c.typ) =
        known.driven_is.ports ∙ (known.ground_is.ports ∙ (sym (instance_size child_is) ∙ ap length (sym bundle.2))) in
        let onward = moved_to (ap (λ q. y + q) ports) taken.onward in
        let same_height = onward.1 in
        put_instance names m child_is c cs target taken.own taken.rest all t bundle.1 taken.are
        (inner (i ∷ path) (names ++ c.declaration.name ∷ []) gi.module child_is taken.child inner_leads taken.own taken.inner (omega arith))
        (walk cs (front ++ c ∷ []) (append_assoc front (c ∷ []) cs ∙ e) (y + length (leaves c.typ)) k (i + 1) (ap (λ q. q + length (leaves c.typ)) at ∙ sym (front_more front c)) rest onward.0 (grind (arith, common_steps, same_height, oh, h)))

    whole : {all : List Item} → (o : items.InFlatOrder driven path n d 0 0 0 all) → height o ≤ high → Matched names m m.components all
    whole o h = let known = leads_known leads in walk m.components [] refl 0 0 0 refl (stands_from texts circuit m known.g d known.ground_is known.driven_is m.components [] refl) o h

  matched_below : (high : ℕ) → Inner high
  matched_below zero path names n m d leads all o h = absurd (omega arith)
  matched_below (suc high) path names n m d leads all o h = whole high (matched_below high) path names n m d leads o (omega arith)

  -- The flat order of the modules of drivers is that of the circuit.
  pub matched : (m : TypedModule) (d : DrivenModule) → Leads [] driven.main m d [] → (all : List Item) → items.InFlatOrder driven [] driven.main d 0 0 0 all → Matched [] m m.components all
  matched m d leads all o = matched_below (suc (height o)) [] [] driven.main m d leads all o (omega arith)
