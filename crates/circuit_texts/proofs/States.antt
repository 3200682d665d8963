-- Each state of the net of a circuit is one of the circuit.
use Rattle.std.proofs.Common.{◌≡◌, ℕ, zero, suc, ◌==◌, ◌<◌, ◌&&◌, Bool, true, List, [], ◌∷◌, length, Option, Some, None, option_map, option_and_then, ℤ, pos, refl, sym, ap, ap₂, ◌∙◌, subst, arith, slice_get}
use Rattle.std.specs.Prelude.{position}
use Rattle.std.specs.List.{cons_option}
use Rattle.std.proofs.lemmas.Grind.{common_steps}
use Rattle.fir_types.specs.declared.fir_type.FirType.{FirType}
use Rattle.fir_types.specs.declared.leaf.TypeLeaf.{TypeLeaf}
use Rattle.fir_types.specs.declared.leaf.PathStep.{PathStep}
use Rattle.fir_types.specs.declared.leaf.PathStep.TheVariants as step
use Rattle.fir_types.specs.declared.memory.Memory.{Memory}
use Rattle.fir_types.specs.Leaves.{leaves}
use Rattle.fir_tree.specs.LeafNames.{Texts}
use Rattle.fir_meaning.specs.Components.{Design, TypedModule, Component, FlatLeaf, Sort, An_input, An_output, A_wire, A_register, A_reset_register, A_memory, An_instance, A_node, module_at, module_within, component_named}
use Rattle.fir_meaning.specs.Drives.{same_way}
use Rattle.fir_meaning.specs.MemoryPorts.{MemoryPort, port_named}
use Rattle.fir_meaning.specs.States.{State, located}
use Rattle.ground_net.specs.declared.net.Leaf.{Leaf}
use Rattle.ground_net.specs.declared.net.Net.{Net}
use Rattle.ground_net.specs.declared.net.Role.{Role}
use Rattle.ground_net.specs.declared.net.Role.TheVariants as role
use Rattle.ground_net.specs.Cycles.{NetState}
use Rattle.ground_net.specs.Nets.{HasRole}
use Rattle.net_of_circuit.specs.FlatOrder.{Placed, Standing, all_leaves, all_memories, memory_in, flat_of, number_in, same_path}
use Rattle.net_of_circuit.specs.NetOf.{read_field}
use Rattle.net_laws.specs.Serves.{Serves, Matches}
use Rattle.net_laws.proofs.Numbers.{some_same, none_some, below_length, number_is, position_at, way_is, flat_is, flat_itself}
use Rattle.net_laws.proofs.Once.{entries_once}
use Rattle.circuit_run.proofs.Lists.{get_item, filter_map_from}
use Rattle.circuit_texts.specs.Apart.{KeepsApart}
use Rattle.circuit_texts.proofs.Captures.{shown_by}

-- Lists

both_true : (a b : Bool) → (a && b) ≡ true → (a ≡ true) × (b ≡ true)
both_true a b e = grind (arith, common_steps)

number_itself : (a : ℕ) → (a == a) ≡ true
number_itself a = grind (arith, common_steps)

same_number : (a b : ℕ) → (a == b) ≡ true → a ≡ b
same_number a b e = grind (arith, common_steps)

-- the test of a path and a name, as part of that of a leaf
abbrev plain : List ℕ → ℕ → List PathStep → FlatLeaf
plain path name way = record { path = path; component = name; way = way }

-- Memories

pub memory_is : (q : Placed) (sort : Sort) (p : Placed) (memory : Memory) → memory_in q sort ≡ Some (p, memory) → (q ≡ p) × (sort ≡ A_memory memory)
memory_is q (A_memory held) p memory e = (ap (λ b. b.0) (some_same e), ap (λ b. A_memory b.1) (some_same e))
memory_is q An_input p memory e = none_some e
memory_is q An_output p memory e = none_some e
memory_is q A_wire p memory e = none_some e
memory_is q (A_register clock) p memory e = none_some e
memory_is q (A_reset_register clock reset init) p memory e = none_some e
memory_is q (An_instance target) p memory e = none_some e
memory_is q (A_node expr) p memory e = none_some e

abbrev OfMemory : Type 0
OfMemory = Placed × Memory

abbrev Once : List Placed → Type 0
Once placed = (j k : ℕ) (p q : Placed) → slice_get placed j ≡ Some p → slice_get placed k ≡ Some q → p.path ≡ q.path → p.c.declaration.name ≡ q.c.declaration.name → j ≡ k

rest_once : (p : Placed) (ps : List Placed) → Once (p ∷ ps) → Once ps
rest_once p ps once j k a b e f at name = let s : suc j ≡ suc k = once (suc j) (suc k) a b e f at name in omega arith

-- where a memory stands
pub memory_at : (placed : List Placed) (z : ℕ) (v : OfMemory) → slice_get (all_memories placed) z ≡ Some v → (j : ℕ) × (slice_get placed j ≡ Some v.0) × (v.0.c.declaration.sort ≡ A_memory v.1)
memory_at placed z v e =
    let r = filter_map_from (λ (q : Placed). memory_in q q.c.declaration.sort) placed z v e in
    let m = memory_is r.1 r.1.c.declaration.sort v.0 v.1 r.3 in
    (r.0, r.2 ∙ ap Some m.0, ap (λ (q : Placed). q.c.declaration.sort) (sym m.0) ∙ m.1)

memories_once : (placed : List Placed) → Once placed → (z m : ℕ) (v w : OfMemory) → slice_get (all_memories placed) z ≡ Some v → slice_get (all_memories placed) m ≡ Some w
    → v.0.path ≡ w.0.path → v.0.c.declaration.name ≡ w.0.c.declaration.name → z ≡ m
memories_once [] once z m v w e f at name = none_some e
memories_once (p ∷ ps) once z m v w e f at name =
    by (memory_in p p.c.declaration.sort) refl z m e f (λ z m e f. memories_once ps (rest_once p ps once) z m v w e f at name)
  where
    by : (o : Option OfMemory) → memory_in p p.c.declaration.sort ≡ o → (z m : ℕ) → slice_get (cons_option o (all_memories ps)) z ≡ Some v → slice_get (cons_option o (all_memories ps)) m ≡ Some w
        → ((z m : ℕ) → slice_get (all_memories ps) z ≡ Some v → slice_get (all_memories ps) m ≡ Some w → z ≡ m) → z ≡ m
    by None q z m e f later = later z m e f
    by (Some u) q zero zero e f later = refl
    by (Some u) q zero (suc m) e f later =
        let first = (memory_is p p.c.declaration.sort v.0 v.1 (q ∙ e)).0 in
        let other = memory_at ps m w f in
        let s : 0 ≡ suc other.0 = once 0 (suc other.0) p w.0 refl other.1 (ap (λ (x : Placed). x.path) first ∙ at) (ap (λ (x : Placed). x.c.declaration.name) first ∙ name) in
        absurd (omega arith)
    by (Some u) q (suc z) zero e f later =
        let first = (memory_is p p.c.declaration.sort w.0 w.1 (q ∙ f)).0 in
        let other = memory_at ps z v e in
        let s : suc other.0 ≡ 0 = once (suc other.0) 0 v.0 p other.1 refl (at ∙ ap (λ (x : Placed). x.path) (sym first)) (name ∙ ap (λ (x : Placed). x.c.declaration.name) (sym first)) in
        absurd (omega arith)
    by (Some u) q (suc z) (suc m) e f later = ap suc (later z m e f)

-- What is held of a leaf, by its role

abbrev held_register : NetState → Role → ℤ
held_register t (role.Register n) = t.registers n
held_register t _ = pos 0

abbrev held_read : NetState → Role → ℤ
held_read t (role.Captured n) = t.captured n
held_read t _ = pos 0

abbrev where_leaf : (Role → ℤ) → Option Leaf → ℤ
where_leaf held (Some leaf) = held leaf.role
where_leaf held None = pos 0

-- what an element holds at a number
abbrev at_number : (ℕ → ℤ) → Option ℕ → ℤ
at_number held (Some k) = held k
at_number held None = pos 0

-- the number of a way
abbrev number_of_way : List PathStep → Option FirType → Option ℕ
number_of_way way (Some typ) = position (λ (l : TypeLeaf). same_way l.path way) (leaves typ)
number_of_way way None = None

abbrev in_memory : NetState → List FirType → ℕ → List PathStep → Option ℕ → ℤ
in_memory t elements element way (Some m) = at_number (t.contents m element) (number_of_way way (slice_get elements m))
in_memory t elements element way None = pos 0

-- the field that shows what a port reads
abbrev field_in : Sort → ℕ → Option ℕ
field_in (A_memory memory) port = option_map (λ (q : MemoryPort). read_field q.mode) (port_named memory port)
field_in _ port = None

abbrev field_at : Option (TypedModule × Component) → ℕ → Option ℕ
field_at (Some found) port = field_in found.1.declaration.sort port
field_at None port = None

abbrev read_at : (FlatLeaf → ℤ) → List ℕ → ℕ → ℕ → List PathStep → Option ℕ → ℤ
read_at held path name port way (Some field) = held (plain path name (step.Field port ∷ step.Field field ∷ way))
read_at held path name port way None = pos 0

module _ (texts : Texts) (design : Design) (net : Net) (serves : Serves texts design net) (apart : KeepsApart design) where
  abbrev placed : List Placed
  placed = serves.of.placed

  reached : module_at design [] ≡ Some serves.of.main
  reached = ap (option_and_then (λ m. module_within design m [])) serves.of.found

  placed_once : Once placed
  placed_once = entries_once design serves.has (λ path m e j k c d f g name. apart.components path m j k c d e f g name) [] serves.of.main serves.of.main.components serves.of.order reached (λ c h. h)
      (λ j k c d f g name. apart.components [] serves.of.main j k c d reached f g name)

  -- The memory of a path and a name.
  memory_number : List ℕ → ℕ → Option ℕ
  memory_number path name = position (λ (v : OfMemory). same_path v.0.path path && (v.0.c.declaration.name == name)) (all_memories placed)

  test_is : (a b : List ℕ) (i j : ℕ) → (same_path a b && (i == j)) ≡ true → (a ≡ b) × (i ≡ j)
  test_is a b i j e =
      let parts = both_true (same_path a b) (i == j) e in
      let flat : plain a i [] ≡ plain b j [] = flat_is (plain a i []) (plain b j []) (ap₂ (λ u v. u && v) parts.0 (ap₂ (λ u v. u && v) parts.1 refl)) in
      (ap (λ (x : FlatLeaf). x.path) flat, ap (λ (x : FlatLeaf). x.component) flat)

  test_itself : (a : List ℕ) (i : ℕ) → (same_path a a && (i == i)) ≡ true
  test_itself a i = let parts = both_true (same_path a a) ((i == i) && true) (flat_itself (plain a i [])) in ap₂ (λ u v. u && v) parts.0 (number_itself i)

  memory_number_is : (m : ℕ) (p : Placed) (memory : Memory) → slice_get (all_memories placed) m ≡ Some (p, memory) → memory_number p.path p.c.declaration.name ≡ Some m
  unfolding memory_number
  memory_number_is m p memory e =
      position_at (λ (v : OfMemory). same_path v.0.path p.path && (v.0.c.declaration.name == p.c.declaration.name)) (all_memories placed) m (p, memory) e (test_itself p.path p.c.declaration.name)
      (λ z w f g. let same = test_is w.0.path p.path w.0.c.declaration.name p.c.declaration.name g in memories_once placed placed_once z m w (p, memory) f e same.0 same.1)

  module _ (t : NetState) where
    -- what is held of a leaf of the run
    held_at : (Role → ℤ) → FlatLeaf → ℤ
    held_at held x = where_leaf held (option_and_then (slice_get net.leaves) (number_in (all_leaves placed) x))

    held_is : (held : Role → ℤ) (r : Role) (x : ℕ) (y : Standing) → slice_get (all_leaves placed) x ≡ Some y → HasRole net x r → held_at held (flat_of y) ≡ held r
    unfolding held_at
    held_is held r x y there h =
        ap (λ o. where_leaf held (option_and_then (slice_get net.leaves) o)) (number_is design placed serves.lists x y there)
        ∙ (ap (where_leaf held) h.there ∙ ap held h.is)

    state_of : State
    state_of = record {
      registers = λ path name way. held_at (held_register t) (plain path name way);
      contents = λ path name element way. in_memory t serves.of.elements element way (memory_number path name);
      captured = λ path name port way. read_at (held_at (held_read t)) path name port way (field_at (located design path name) port);
    }

    contents_match : (m element k : ℕ) (p : Placed) (memory : Memory) (typ : FirType) (leaf : TypeLeaf) → slice_get (all_memories placed) m ≡ Some (p, memory)
        → slice_get serves.of.elements m ≡ Some typ → slice_get (leaves typ) k ≡ Some leaf → state_of.contents p.path p.c.declaration.name element leaf.path ≡ t.contents m element k
    unfolding state_of
    contents_match m element k p memory typ leaf there of_type at =
        let is = serves.of.is in
        let stands = memory_at placed m (p, memory) there in
        let located_at = serves.lists.components stands.0 p stands.1 in
        let below : m < length net.memories = subst (λ n. m < n) (sym is.all_memories_there) (below_length (all_memories placed) m (p, memory) there) in
        let nm = get_item net.memories m below in
        let of = is.memories m p memory typ nm.0 there of_type nm.1 in
        let number : position (λ (l : TypeLeaf). same_way l.path leaf.path) (leaves typ) ≡ Some k =
        position_at (λ (l : TypeLeaf). same_way l.path leaf.path) (leaves typ) k leaf at (way_itself leaf.path)
        (λ z w f g. apart.elements p.path p.m p.c memory typ z k w leaf located_at.0 located_at.1 stands.2 of.is_element f at (way_is w.path leaf.path g)) in
        ap (in_memory t serves.of.elements element leaf.path) (memory_number_is m p memory there)
        ∙ (ap (λ o. at_number (t.contents m element) (number_of_way leaf.path o)) of_type ∙ ap (at_number (t.contents m element)) number)
      where
        way_itself : (way : List PathStep) → same_way way way ≡ true
        way_itself way = let parts = both_true (same_path [] []) _ (flat_itself (plain [] 0 way)) in (both_true (0 == 0) (same_way way way) parts.1).1

    captured_match : (x n : ℕ) (y : Standing) (port field : ℕ) (way : List PathStep) → slice_get (all_leaves placed) x ≡ Some y → HasRole net x (role.Captured n)
        → y.1.path ≡ step.Field port ∷ step.Field field ∷ way → state_of.captured y.0.path y.0.c.declaration.name port way ≡ t.captured n
    unfolding state_of
    captured_match x n y port field way there held path =
        let s = shown_by texts design placed serves.of.elements net serves.of.is serves.of.well_formed x n y there held in
        let stands = memory_at placed s.number (s.p, s.memory) s.there in
        let at = serves.lists.components stands.0 s.p stands.1 in
        let port_is : port_named s.memory s.port.name ≡ Some s.port = serves.typed.ports s.p.path s.p.m s.p.c s.memory s.port at.0 at.1 stands.2 s.among in
        let steps : step.Field s.port.name ∷ step.Field (read_field s.port.mode) ∷ s.way ≡ step.Field port ∷ step.Field field ∷ way = sym s.path ∙ path in
        let located_is : located design s.p.path s.p.c.declaration.name ≡ Some (s.p.m, s.p.c) =
        ap (option_and_then (λ m. option_map (λ c. (m, c)) (component_named m s.p.c.declaration.name))) at.0 ∙ ap (option_map (λ c. (s.p.m, c))) at.1 in
        let field_is : field_at (located design s.p.path s.p.c.declaration.name) port ≡ Some (read_field s.port.mode) =
        ap (λ o. field_at o port) located_is
        ∙ (ap (λ sort. field_in sort port) stands.2
        ∙ (ap (λ i. option_map (λ (q : MemoryPort). read_field q.mode) (port_named s.memory i)) (sym (first_step steps)) ∙ ap (option_map (λ (q : MemoryPort). read_field q.mode)) port_is)) in
        let own : field_at (located design y.0.path y.0.c.declaration.name) port ≡ Some field =
        ap (λ (q : Placed). field_at (located design q.path q.c.declaration.name) port) (sym s.of) ∙ (field_is ∙ ap Some (second_step steps)) in
        ap (read_at (held_at (held_read t)) y.0.path y.0.c.declaration.name port way) own
        ∙ (ap (λ w. held_at (held_read t) (plain y.0.path y.0.c.declaration.name w)) (sym path) ∙ held_is (held_read t) (role.Captured n) x y there held)
      where
        first_step : {a b c d : ℕ} {v w : List PathStep} → step.Field a ∷ step.Field b ∷ v ≡ step.Field c ∷ step.Field d ∷ w → a ≡ c
        first_step e = cc

        second_step : {a b c d : ℕ} {v w : List PathStep} → step.Field a ∷ step.Field b ∷ v ≡ step.Field c ∷ step.Field d ∷ w → b ≡ d
        second_step e = cc

    pub state_matches : (s : State) × Matches serves s t
    unfolding state_of
    state_matches = (
      state_of,
      record {
        registers = λ x n y there held. held_is (held_register t) (role.Register n) x y there held;
        contents = contents_match;
        captured = captured_match;
      },
    )
