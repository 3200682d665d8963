-- The registers and instances of a module are those of its ground module.
use Rattle.std.proofs.Common.{◌≡◌, ℕ, zero, suc, ◌+◌, ◌&&◌, Bool, true, false, List, [], ◌∷◌, ◌++◌, map, take, length, Option, Some, None, refl, sym, ap, ◌∙◌, subst, arith, true≢false}
use Rattle.std.specs.Prelude.{Contains, nat_eq}
use Rattle.std.specs.Map.{lookup}
use Rattle.std.specs.List.{slice_get, flat_map, sum_by, list_all}
use Rattle.std.proofs.lemmas.Grind.{common_steps}
use Rattle.std.proofs.lemmas.List.{length-map}
use Rattle.std.proofs.lemmas.List.Concat.{flat_map-cons}
use Rattle.std.proofs.lemmas.List.Sums.{sum_by-cons}
use Rattle.fir_types.specs.declared.leaf.TypeLeaf.{TypeLeaf}
use Rattle.fir_types.specs.Leaves.{leaves}
use Rattle.fir_tree.specs.declared.circuit.Circuit.{Circuit}
use Rattle.fir_tree.specs.declared.circuit.Module.{Module}
use Rattle.fir_tree.specs.LeafNames.{Texts}
use Rattle.fir_names.specs.Scopes.{Means}
use Rattle.fir_meaning.specs.Components.{TypedModule, Component, Sort, An_input, An_output, A_wire, A_register, A_reset_register, A_memory, An_instance, A_node, type_in}
use Rattle.fir_meaning.specs.States.{is_register}
use Rattle.fir_meaning.specs.WellTyped.{HasTypes, are_typed, is_condition, is_typed}
use Rattle.ground_net.specs.declared.circuit.GroundInstance.{GroundInstance}
use Rattle.ground_net.specs.declared.net.NetRegister.{NetRegister}
use Rattle.ground_net.specs.Shapes.{Table}
use Rattle.net_of_circuit.specs.Numbers.{ModuleLeaf, module_leaves, leaves_of, number_of, leaves_before, instance_parts, memory_parts}
use Rattle.net_of_circuit.specs.Lowering.{HasReset, IsGroundInstance}
use Rattle.ground_exprs.specs.Sources.{Entries, Knows, known_of}
use Rattle.lower_aggregates.specs.Headings.{Heading, heading_of, headings_of}
use Rattle.lower_aggregates.specs.Parts.{parts_of}
use Rattle.lower_aggregates.proofs.Listing.{headings_are}
use Rattle.lower_aggregates.specs.Registers.{AreRegisters, HasResetBy, is_typed_sort}
use Rattle.lower_aggregates.specs.Instances.{Numbers, instance_row, instances_from}
use Rattle.lower_aggregates.proofs.RegisterLists.{register_at}
use Rattle.lower_aggregates.proofs.Resetting.{reset_is}
use Rattle.lower_aggregates.proofs.TypedSorts.{sorts_typed}
use Rattle.lower_aggregates.proofs.PartLists.{instance_there}

some_same : {A : Type 0} {x y : A} → Some x ≡ Some y → x ≡ y
some_same {A} {x} e = ap (or_first x) e
  where
    or_first : A → Option A → A
    or_first d (Some z) = z
    or_first d None = d

none_some : {A : Type 0} {B : Type 0} {x : A} → None ≡ Some x → B
none_some e = absurd cc

map_at : {A B : Type 0} (h : A → B) (xs : List A) (k : ℕ) (x : A) → slice_get xs k ≡ Some x → slice_get (map h xs) k ≡ Some (h x)
map_at h [] k x e = none_some e
map_at h (a ∷ xs) zero x e = ap Some (ap h (some_same e))
map_at h (a ∷ xs) (suc k) x e = map_at h xs k x e

in_list : {A : Type 0} (xs : List A) (k : ℕ) (x : A) → slice_get xs k ≡ Some x → Contains xs x
in_list [] k x e = none_some e
in_list (a ∷ xs) zero x e = (0, omega arith, some_same e)
in_list (a ∷ xs) (suc k) x e = let rest = in_list xs k x e in (suc rest.0, omega arith, rest.2)

first_of : {A : Type 0} (xs ys : List A) (k : ℕ) (x : A) → slice_get xs k ≡ Some x → slice_get (xs ++ ys) k ≡ Some x
first_of [] ys k x e = none_some e
first_of (z ∷ xs) ys zero x e = e
first_of (z ∷ xs) ys (suc k) x e = first_of xs ys k x e

second_of : {A : Type 0} (xs ys : List A) (k : ℕ) (x : A) → slice_get ys k ≡ Some x → slice_get (xs ++ ys) (length xs + k) ≡ Some x
second_of [] ys k x e = let n : k ≡ 0 + k = omega arith in subst (λ i. slice_get ys i ≡ Some x) n e
second_of (z ∷ xs) ys k x e =
    let n : suc (length xs + k) ≡ length (z ∷ xs) + k = omega arith in
    subst (λ i. slice_get (z ∷ (xs ++ ys)) i ≡ Some x) n (second_of xs ys k x e)

abbrev size : Component → ℕ
size d = length (leaves d.typ)

-- a leaf of a component stands behind those of the components before it
pub leaf_behind : (cs : List Component) (at : ℕ) (c : Component) (j : ℕ) (leaf : TypeLeaf) → slice_get cs at ≡ Some c → slice_get (leaves c.typ) j ≡ Some leaf
    → slice_get (flat_map leaves_of cs) (sum_by size (take at cs) + j) ≡ Some (c, leaf)
leaf_behind [] at c j leaf e f = none_some e
leaf_behind (d ∷ cs) zero c j leaf e f =
    let n : sum_by size [] + j ≡ j = grind (arith, common_steps) in
    let same = some_same e in
    ap (slice_get (flat_map leaves_of (d ∷ cs))) n
    ∙ (ap (λ l. slice_get l j) (flat_map-cons leaves_of d cs) ∙ first_of (leaves_of d) (flat_map leaves_of cs) j (c, leaf)
    (ap (λ (x : Component). slice_get (leaves_of x) j) same ∙ map_at (λ l. (c, l)) (leaves c.typ) j leaf f))
leaf_behind (d ∷ cs) (suc at) c j leaf e f =
    let r = leaf_behind cs at c j leaf e f in
    let n : sum_by size (take (suc at) (d ∷ cs)) ≡ length (leaves d.typ) + sum_by size (take at cs) = sum_by-cons size d (take at cs) in
    let q : length (leaves_of d) ≡ length (leaves d.typ) = length-map (leaves d.typ) (λ l. (d, l)) in
    let k : sum_by size (take (suc at) (d ∷ cs)) + j ≡ length (leaves_of d) + (sum_by size (take at cs) + j) = omega (arith, n, q) in
    ap (slice_get (flat_map leaves_of (d ∷ cs))) k ∙ (ap (λ l. slice_get l (length (leaves_of d) + (sum_by size (take at cs) + j))) (flat_map-cons leaves_of d cs)
    ∙ second_of (leaves_of d) (flat_map leaves_of cs) (sum_by size (take at cs) + j) (c, leaf) r)

both_true : (p q : Bool) → (p && q) ≡ true → (p ≡ true) × (q ≡ true)
both_true true q e = (refl, e)
both_true false q e = absurd (true≢false (sym e))

all_at : {A : Type 0} (f : A → Bool) (xs : List A) (k : ℕ) (x : A) → list_all f xs ≡ true → slice_get xs k ≡ Some x → f x ≡ true
all_at f [] k x h e = none_some e
all_at f (a ∷ xs) zero x h e = ap f (sym (some_same e)) ∙ (both_true (f a) (list_all f xs) h).0
all_at f (a ∷ xs) (suc k) x h e = all_at f xs k x (both_true (f a) (list_all f xs) h).1 e

module _ (holder : Module) (m : TypedModule) (table : Table) (has : HasTypes holder m) (entries : Entries)
    (knows : Knows (record { number = number_of m; table = table }) (type_in m) entries) (typed : are_typed (known_of entries) holder.body ≡ true)
    (types : (k : ℕ) (c : Component) → slice_get m.components k ≡ Some c → type_in m c.declaration.name ≡ c.typ) where
  sort_typed : (k : ℕ) (c : Component) → slice_get m.components k ≡ Some c → is_typed_sort (known_of entries) c.declaration.sort ≡ true
  sort_typed k c e =
      let at : slice_get (headings_of holder) k ≡ Some (heading_of c.declaration) =
      ap (λ l. slice_get l k) (sym (ap (map heading_of) has.components ∙ headings_are holder)) ∙ map_at heading_of (map (λ (x : Component). x.declaration) m.components) k c.declaration (map_at (λ (x : Component). x.declaration) m.components k c e) in
      all_at (λ (h : Heading). is_typed_sort (known_of entries) h.sort) (headings_of holder) k (heading_of c.declaration) (sorts_typed (known_of entries) holder typed) at

  by_sort : (k j : ℕ) (c : Component) (leaf : TypeLeaf) (r : NetRegister) → slice_get m.components k ≡ Some c → slice_get (leaves c.typ) j ≡ Some leaf → (sort : Sort) → c.declaration.sort ≡ sort
      → HasResetBy entries sort j leaf r.reset → HasReset m table (c, leaf) sort r.reset
  by_sort k j c leaf r e f (A_register clock) s h = h
  by_sort k j c leaf r e f (A_reset_register clock reset init) s (source, inits, low, ini, (n, is, reset_eq, set)) =
      let t = both_true (is_condition (known_of entries) reset) (is_typed (known_of entries) init) (sym (ap (is_typed_sort (known_of entries)) s) ∙ sort_typed k c e) in
      (n, is, reset_is holder m table has entries knows c (in_list m.components k c e) (types k c e) (ap is_register s) j leaf f reset init t.0 source inits low ini n reset_eq set)
  by_sort k j c leaf r e f An_input s h = elim h [ ]
  by_sort k j c leaf r e f An_output s h = elim h [ ]
  by_sort k j c leaf r e f A_wire s h = elim h [ ]
  by_sort k j c leaf r e f (A_memory memory) s h = elim h [ ]
  by_sort k j c leaf r e f (An_instance target) s h = elim h [ ]
  by_sort k j c leaf r e f (A_node expr) s h = elim h [ ]

  -- Each register has the reset of its leaf.
  pub resets_are : (registers : List NetRegister) → AreRegisters entries (parts_of m) registers → (i : ℕ) (r : NetRegister) (y : ModuleLeaf) → slice_get registers i ≡ Some r
      → slice_get (module_leaves m) r.leaf ≡ Some y → HasReset m table y y.0.declaration.sort r.reset
  resets_are registers are i r y e f =
      let a = register_at entries 0 m.components registers are i r e in
      let n : sum_by size (take a.k m.components) + a.j ≡ r.leaf = (let q = a.number in omega (arith, q)) in
      let same : (a.c, a.leaf) ≡ y = some_same (sym (leaf_behind m.components a.k a.c a.j a.leaf a.stands a.listed) ∙ ap (slice_get (module_leaves m)) n ∙ f) in
      subst (λ (z : ModuleLeaf). HasReset m table z z.0.declaration.sort r.reset) same (by_sort a.k a.j a.c a.leaf r a.stands a.listed a.c.declaration.sort refl a.has)

zero_plus : (n : ℕ) → 0 + n ≡ n
zero_plus n = omega arith

-- Each instance is one of the module's, where names have the numbers of their modules.
pub instances_are : (texts : Texts) (circuit : Circuit) (numbers : Numbers) (m : TypedModule) (made : List GroundInstance) → ((name number : ℕ) → lookup (nat_eq name) numbers ≡ Some number → Means circuit name number)
    → map instance_row made ≡ instances_from texts numbers 0 (parts_of m) → (i : ℕ) (part : ℕ × Component × ℕ) (gi : GroundInstance) → slice_get (instance_parts m.components) i ≡ Some part → slice_get made i ≡ Some gi
    → IsGroundInstance texts circuit m part.0 part.1 part.2 gi
instances_are texts circuit numbers m made means e i part gi f g =
    let row : slice_get (instances_from texts numbers 0 (parts_of m)) i ≡ Some (instance_row gi) = ap (λ l. slice_get l i) (sym e) ∙ map_at instance_row made i gi g in
    let t = instance_there texts numbers 0 0 0 m.components i part (instance_row gi) f row in
    let p : t.j ≡ part.0 = (let q = t.place in omega (arith, q)) in
    record {
      name = t.name;
      first = t.first ∙ (zero_plus (leaves_before m t.j) ∙ ap (leaves_before m) p);
      memories = t.memories ∙ (zero_plus (length (memory_parts (take t.j m.components))) ∙ ap (λ k. length (memory_parts (take k m.components))) p);
      makes = means part.2 gi.module (sym t.makes);
    }
