-- Instances and their modules: each leaf of an instance is a leaf of a port, and the other way round.
use Rattle.std.proofs.Common.{◌≡◌, ℕ, zero, suc, ◌==◌, Bool, true, false, not, cond, List, [], ◌∷◌, ◌++◌, map, find, filter_map, Option, Some, None, option_and_then, refl, sym, ap, ◌∙◌, subst, arith, true≢false, if◌then◌else◌, ◌⊎◌, inl, inr, ⊎_elim}
use Rattle.std.specs.Prelude.{Contains}
use Rattle.std.specs.List.{flat_map, cons_option}
use Rattle.std.proofs.lemmas.Grind.{common_steps}
use Rattle.std.proofs.lemmas.List.Elements.{Contains-append_cases}
use Rattle.std.proofs.lemmas.List.Concat.{flat_map-cons}
use Rattle.std.proofs.lemmas.List.Folds.{flat_map-map}
use Rattle.place_text.specs.declared.place.Place.{Place}
use Rattle.fir_types.specs.declared.fir_type.FirType.{the_lemmas as type_lemmas}
use Rattle.fir_types.specs.declared.fir_type.Shape.TheVariants as shape
use Rattle.fir_types.specs.declared.fir_type.Field.{Field}
use Rattle.fir_types.specs.declared.leaf.TypeLeaf.{TypeLeaf}
use Rattle.fir_types.specs.declared.leaf.PathStep.TheVariants as step
use Rattle.fir_types.specs.declared.port.Port.{Port}
use Rattle.fir_types.specs.Leaves.{leaves, under}
use Rattle.fir_types.specs.Bundles.{nowhere, instance_field, instance_of}
use Rattle.fir_meaning.specs.Components.{Design, TypedModule, Component, Sort, An_input, An_output, A_wire, A_register, A_reset_register, A_memory, An_instance, A_node, flow_of, is_clock, module_at, module_within, module_named, component_named, target_of, target_in, port_of, typed_ports, HasBundles}
use Rattle.fir_meaning.specs.States.{Stands, is_port, is_source}
use Rattle.fir_meaning.proofs.Tracking.{Contains-map, Contains-flat_map, none_some, some_same}

-- Lists

pub one_later : {A : Type 0} (z : A) (xs : List A) (x : A) → Contains xs x → Contains (z ∷ xs) x
one_later z xs x (k, below, is) = (suc k, omega arith, is)

pub from_map : {A B : Type 0} (h : A → B) (xs : List A) (y : B) → Contains (map h xs) y → (x : A) × Contains xs x × (h x ≡ y)
from_map h [] y (k, below, is) = absurd (omega arith)
from_map h (x ∷ xs) y (zero, below, is) = (x, (0, omega arith, refl), is)
from_map h (x ∷ xs) y (suc k, below, is) =
    let rest = from_map h xs y (k, omega arith, is) in
    (rest.0, one_later x xs rest.0 rest.1, rest.2)

pub from_flat_map : {A B : Type 0} (h : A → List B) (xs : List A) (y : B) → Contains (flat_map h xs) y → (x : A) × Contains xs x × Contains (h x) y
from_flat_map h [] y (k, below, is) = absurd (omega arith)
from_flat_map h (x ∷ xs) y c = ⊎_elim
    (λ here. (x, (0, omega arith, refl), here))
    (λ later. let rest = from_flat_map h xs y later in (rest.0, one_later x xs rest.0 rest.1, rest.2))
    (Contains-append_cases (h x) (flat_map h xs) y (subst (λ l. Contains l y) (flat_map-cons h x xs) c))

from_cons_option : {B : Type 0} (o : Option B) (ys : List B) (y : B) → Contains (cons_option o ys) y → (o ≡ Some y) ⊎ Contains ys y
from_cons_option None ys y c = inr c
from_cons_option (Some z) ys y (zero, below, is) = inl (ap Some is)
from_cons_option (Some z) ys y (suc k, below, is) = inr (k, omega arith, is)

pub from_filter_map : {A B : Type 0} (h : A → Option B) (xs : List A) (y : B) → Contains (filter_map h xs) y → (x : A) × Contains xs x × (h x ≡ Some y)
from_filter_map h [] y (k, below, is) = absurd (omega arith)
from_filter_map h (x ∷ xs) y c = ⊎_elim
    (λ e. (x, (0, omega arith, refl), e))
    (λ later. let rest = from_filter_map h xs y later in (rest.0, one_later x xs rest.0 rest.1, rest.2))
    (from_cons_option (h x) (filter_map h xs) y c)

in_cons_option : {B : Type 0} (o : Option B) (ys : List B) (y : B) → Contains ys y → Contains (cons_option o ys) y
in_cons_option None ys y c = c
in_cons_option (Some z) ys y c = one_later z ys y c

Contains-filter_map : {A B : Type 0} (h : A → Option B) (xs : List A) (x : A) (y : B) → Contains xs x → h x ≡ Some y → Contains (filter_map h xs) y
Contains-filter_map h [] x y (k, below, is) e = absurd (omega arith)
Contains-filter_map h (z ∷ zs) x y (zero, below, is) e =
    subst (λ o. Contains (cons_option o (filter_map h zs)) y) (sym (ap h is ∙ e)) (0, omega arith, refl)
Contains-filter_map h (z ∷ zs) x y (suc k, below, is) e = in_cons_option (h z) (filter_map h zs) y (Contains-filter_map h zs x y (k, omega arith, is) e)

-- Options

pub and_then : {A B : Type 0} (h : A → Option B) (o : Option A) (y : B) → option_and_then h o ≡ Some y → (x : A) × (o ≡ Some x) × (h x ≡ Some y)
and_then h (Some x) y e = (x, refl, e)
and_then h None y e = absurd (none_some e)

-- Types

pub bundle_leaves : (place : Place) (fields : List Field) → leaves (record { place = place; shape = shape.Bundle fields }) ≡ flat_map (λ f. map (under (step.Field f.name.id ∷ []) f.flip) (leaves f.typ)) fields
bundle_leaves place fields = grind (arith, common_steps, type_lemmas, flat_map-map)

-- The module behind one more instance

abbrev pub inside : Design → TypedModule → ℕ → Option TypedModule
inside design m i = option_and_then (module_named design) (target_of m i)

pub and_some : {A : Type 0} (o : Option A) → option_and_then (λ n. Some n) o ≡ o
and_some None = refl
and_some (Some x) = refl

and_within : {A B C : Type 0} (f : A → Option B) (g : B → Option C) (h : A → Option C) → ((x : A) → h x ≡ option_and_then g (f x)) → (o : Option A) → option_and_then h o ≡ option_and_then g (option_and_then f o)
and_within f g h e None = refl
and_within f g h e (Some x) = e x

within_snoc : (design : Design) (m : TypedModule) (path : List ℕ) (i : ℕ)
    → module_within design m (path ++ i ∷ []) ≡ option_and_then (λ n. inside design n i) (module_within design m path)
within_snoc design m [] i = and_some (inside design m i)
within_snoc design m (j ∷ path) i =
    and_within (λ n. module_within design n path) (λ n. inside design n i) (λ n. module_within design n (path ++ i ∷ [])) (λ n. within_snoc design n path i) (inside design m j)

pub at_snoc : (design : Design) (path : List ℕ) (i : ℕ) → module_at design (path ++ i ∷ []) ≡ option_and_then (λ n. inside design n i) (module_at design path)
at_snoc design path i =
    and_within (λ n. module_within design n path) (λ n. inside design n i) (λ n. module_within design n (path ++ i ∷ [])) (λ n. within_snoc design n path i) (module_named design design.main)

pub last_of_path : (path : List ℕ) → (path ≡ []) ⊎ ((front : List ℕ) × (i : ℕ) × (path ≡ front ++ i ∷ []))
last_of_path [] = inl refl
last_of_path (j ∷ path) = inr (⊎_elim
    (λ e. ([], j, ap (λ p. j ∷ p) e))
    (λ rest. (j ∷ rest.0, rest.1, ap (λ p. j ∷ p) rest.2))
    (last_of_path path))

-- Components

pub found : {A : Type 0} (test : A → Bool) (xs : List A) (x : A) → find test xs ≡ Some x → (test x ≡ true) × Contains xs x
found test [] x e = absurd (none_some e)
found {A} test (y ∷ ys) x e = by_test (test y) refl e (λ f. found test ys x f) where
  by_test : (b : Bool) → test y ≡ b → cond b (Some y) (find test ys) ≡ Some x → (find test ys ≡ Some x → (test x ≡ true) × Contains ys x) → (test x ≡ true) × Contains (y ∷ ys) x
  by_test true q e h = (ap test (sym (some_same y x e)) ∙ q, (0, omega arith, some_same y x e))
  by_test false q e h = let rest = h e in (rest.0, one_later y ys x rest.1)

pub same_number : (a b : ℕ) → (a == b) ≡ true → a ≡ b
same_number a b e = grind (arith, common_steps)

pub component_found : (m : TypedModule) (name : ℕ) (c : Component) → component_named m name ≡ Some c → (c.declaration.name ≡ name) × Contains m.components c
component_found m name c e =
    let f = found (λ c. c.declaration.name == name) m.components c e in
    (same_number c.declaration.name name f.0, f.1)

pub target_is : (m : TypedModule) (c : Component) (target : ℕ) → component_named m c.declaration.name ≡ Some c → c.declaration.sort ≡ An_instance target → target_of m c.declaration.name ≡ Some target
target_is m c target e s = ap (option_and_then (λ x. target_in x.declaration.sort)) e ∙ ap target_in s

pub target_sort : (sort : Sort) (target : ℕ) → target_in sort ≡ Some target → sort ≡ An_instance target
target_sort (An_instance t) target e = ap An_instance (some_same t target e)
target_sort An_input target e = absurd (none_some e)
target_sort An_output target e = absurd (none_some e)
target_sort A_wire target e = absurd (none_some e)
target_sort (A_register clock) target e = absurd (none_some e)
target_sort (A_reset_register clock reset init) target e = absurd (none_some e)
target_sort (A_memory memory) target e = absurd (none_some e)
target_sort (A_node expr) target e = absurd (none_some e)

input_source : (flip : Bool) → is_source (flow_of An_input flip) ≡ not flip
input_source true = refl
input_source false = refl

output_source : (flip : Bool) → is_source (flow_of An_output flip) ≡ flip
output_source true = refl
output_source false = refl

-- what a port of a module is as a component of it: inside it is a source where outside it is none
port_sort : (p : Component) (sort : Sort) (port : Port) → port_of p sort ≡ Some port
    → (is_port sort ≡ true) × (port.name.id ≡ p.declaration.name) × (port.typ ≡ p.typ) × ((flip : Bool) → is_source (flow_of sort flip) ≡ (if not port.output then not flip else flip))
port_sort p An_input port e =
    let same = some_same _ port e in
    (refl, ap (λ q. q.name.id) (sym same), ap (λ q. q.typ) (sym same), λ flip. input_source flip ∙ ap (λ q. (if not q.output then not flip else flip)) same)
port_sort p An_output port e =
    let same = some_same _ port e in
    (refl, ap (λ q. q.name.id) (sym same), ap (λ q. q.typ) (sym same), λ flip. output_source flip ∙ ap (λ q. (if not q.output then not flip else flip)) same)
port_sort p A_wire port e = absurd (none_some e)
port_sort p (A_register clock) port e = absurd (none_some e)
port_sort p (A_reset_register clock reset init) port e = absurd (none_some e)
port_sort p (A_memory memory) port e = absurd (none_some e)
port_sort p (An_instance target) port e = absurd (none_some e)
port_sort p (A_node expr) port e = absurd (none_some e)

port_there : (p : Component) (sort : Sort) → is_port sort ≡ true → (port : Port) × (port_of p sort ≡ Some port)
port_there p An_input e = (_, refl)
port_there p An_output e = (_, refl)
port_there p A_wire e = absurd (true≢false (sym e))
port_there p (A_register clock) e = absurd (true≢false (sym e))
port_there p (A_reset_register clock reset init) e = absurd (true≢false (sym e))
port_there p (A_memory memory) e = absurd (true≢false (sym e))
port_there p (An_instance target) e = absurd (true≢false (sym e))
port_there p (A_node expr) e = absurd (true≢false (sym e))

abbrev port_leaf : Port → TypeLeaf → TypeLeaf
port_leaf port part = under (step.Field port.name.id ∷ []) (not port.output) part

instance_leaves : (ports : List Port) → leaves (instance_of ports) ≡ flat_map (λ f. map (under (step.Field f.name.id ∷ []) f.flip) (leaves f.typ)) (map instance_field ports)
instance_leaves ports = bundle_leaves nowhere (map instance_field ports)

-- A leaf of an instance is the leaf of a port inside; it is a source there where it is flipped here.
pub instance_inside : (design : Design) → HasBundles design → (path : List ℕ) (m : TypedModule) (c : Component) (leaf : TypeLeaf) (target : ℕ) → Stands design path m c leaf
    → c.declaration.sort ≡ An_instance target
    → (n : TypedModule) × (p : Component) × (part : TypeLeaf) × Stands design (path ++ c.declaration.name ∷ []) n p part × (is_port p.declaration.sort ≡ true)
    × (is_source (flow_of p.declaration.sort part.flip) ≡ leaf.flip) × (leaf.path ≡ step.Field p.declaration.name ∷ part.path) × (is_clock leaf ≡ is_clock part)
instance_inside design has path m c leaf target stands s =
    let bundle = has.instances path m c target stands.reached stands.declared s in
    let n : TypedModule = bundle.0 in
    let reached : module_at design (path ++ c.declaration.name ∷ []) ≡ Some n =
    at_snoc design path c.declaration.name
    ∙ (ap (option_and_then (λ x. inside design x c.declaration.name)) stands.reached
    ∙ (ap (option_and_then (module_named design)) (target_is m c target stands.declared s) ∙ bundle.1)) in
    let there : Contains (flat_map (λ f. map (under (step.Field f.name.id ∷ []) f.flip) (leaves f.typ)) (map instance_field (typed_ports n))) leaf =
    subst (λ l. Contains l leaf) (bundle.2 ∙ instance_leaves (typed_ports n)) stands.listed in
    let field = from_flat_map (λ f. map (under (step.Field f.name.id ∷ []) f.flip) (leaves f.typ)) (map instance_field (typed_ports n)) leaf there in
    let of_port = from_map instance_field (typed_ports n) field.0 field.1 in
    let port : Port = of_port.0 in
    let inner : Contains (map (under (step.Field port.name.id ∷ []) (not port.output)) (leaves port.typ)) leaf =
    subst (λ f. Contains (map (under (step.Field f.name.id ∷ []) f.flip) (leaves f.typ)) leaf) (sym of_port.2) field.2 in
    let of_part = from_map (under (step.Field port.name.id ∷ []) (not port.output)) (leaves port.typ) leaf inner in
    let part : TypeLeaf = of_part.0 in
    let of_component = from_filter_map (λ x. port_of x x.declaration.sort) n.components port of_port.1 in
    let p : Component = of_component.0 in
    let known = port_sort p p.declaration.sort port of_component.2 in
    let is : port_leaf port part ≡ leaf = of_part.2 in (
      n,
      p,
      part,
      record { reached = reached; declared = has.names (path ++ c.declaration.name ∷ []) n p reached of_component.1; listed = subst (λ typ. Contains (leaves typ) part) known.2 of_part.1 },
      known.0,
      known.3 part.flip ∙ ap (λ l. l.flip) is,
      sym (ap (λ l. l.path) is) ∙ ap (λ id. step.Field id ∷ part.path) known.1,
      sym (ap is_clock is),
    )

-- A leaf of a port inside is a leaf of the instance.
pub port_outside : (design : Design) → HasBundles design → (front : List ℕ) (i : ℕ) (n : TypedModule) (p : Component) (part : TypeLeaf) → Stands design (front ++ i ∷ []) n p part
    → is_port p.declaration.sort ≡ true
    → (m : TypedModule) × (c : Component) × (leaf : TypeLeaf) × (target : ℕ) × Stands design front m c leaf × (c.declaration.name ≡ i) × (c.declaration.sort ≡ An_instance target)
    × (leaf.flip ≡ is_source (flow_of p.declaration.sort part.flip)) × (leaf.path ≡ step.Field p.declaration.name ∷ part.path) × (is_clock leaf ≡ is_clock part)
port_outside design has front i n p part stands is =
    let above = and_then (λ x. inside design x i) (module_at design front) n (sym (at_snoc design front i) ∙ stands.reached) in
    let m : TypedModule = above.0 in
    let to = and_then (module_named design) (target_of m i) n above.2 in
    let target : ℕ = to.0 in
    let at = and_then (λ x. target_in x.declaration.sort) (component_named m i) target to.1 in
    let c : Component = at.0 in
    let name : c.declaration.name ≡ i = (component_found m i c at.1).0 in
    let declared : component_named m c.declaration.name ≡ Some c = ap (component_named m) name ∙ at.1 in
    let sort : c.declaration.sort ≡ An_instance target = target_sort c.declaration.sort target at.2 in
    let bundle = has.instances front m c target above.1 declared sort in
    let same : bundle.0 ≡ n = some_same _ _ (sym bundle.1 ∙ to.2) in
    let of_port = port_there p p.declaration.sort is in
    let port : Port = of_port.0 in
    let known = port_sort p p.declaration.sort port of_port.1 in
    let in_ports : Contains (typed_ports n) port = Contains-filter_map (λ x. port_of x x.declaration.sort) n.components p port (component_found n p.declaration.name p stands.declared).1 of_port.1 in
    let in_field : Contains (map (under (step.Field port.name.id ∷ []) (not port.output)) (leaves port.typ)) (port_leaf port part) =
    Contains-map (under (step.Field port.name.id ∷ []) (not port.output)) (leaves port.typ) part (subst (λ typ. Contains (leaves typ) part) (sym known.2) stands.listed) in
    let there : Contains (leaves (instance_of (typed_ports n))) (port_leaf port part) =
    subst (λ l. Contains l (port_leaf port part)) (sym (instance_leaves (typed_ports n)))
    (Contains-flat_map (λ f. map (under (step.Field f.name.id ∷ []) f.flip) (leaves f.typ)) (map instance_field (typed_ports n)) (instance_field port) (port_leaf port part)
    (Contains-map instance_field (typed_ports n) port in_ports) in_field) in
    let listed : Contains (leaves c.typ) (port_leaf port part) =
    subst (λ l. Contains l (port_leaf port part)) (sym (bundle.2 ∙ ap (λ x. leaves (instance_of (typed_ports x))) same)) there in (
      m,
      c,
      port_leaf port part,
      target,
      record { reached = above.1; declared = declared; listed = listed },
      name,
      sort,
      sym (known.3 part.flip),
      ap (λ id. step.Field id ∷ part.path) known.1,
      refl,
    )
