-- The components of a module beside the instances and memories of its ground statements, one after the other.
use Rattle.std.proofs.Common.{◌≡◌, ℕ, zero, suc, ◌+◌, ◌<◌, ◌≤◌, List, [], ◌∷◌, ◌++◌, map, take, zip, filter_map, length, Option, Some, None, option_map, refl, sym, ap, ◌∙◌, subst, arith, append_assoc}
use Rattle.std.specs.List.{slice_get, flat_map, range_with_len, cons_option, sum_by}
use Rattle.std.proofs.lemmas.Grind.{common_steps, flat_map-append}
use Rattle.std.proofs.lemmas.List.Concat.{flat_map-cons}
use Rattle.std.proofs.lemmas.List.Sums.{sum_by-cons}
use Rattle.fir_types.specs.declared.leaf.TypeLeaf.{TypeLeaf}
use Rattle.fir_types.specs.declared.memory.Memory.{Memory}
use Rattle.fir_types.specs.Leaves.{leaves}
use Rattle.fir_tree.specs.declared.circuit.Circuit.{Circuit}
use Rattle.fir_tree.specs.LeafNames.{Texts}
use Rattle.fir_meaning.specs.Components.{TypedModule, Component, Sort, An_input, An_output, A_wire, A_register, A_reset_register, A_memory, An_instance, A_node, target_in}
use Rattle.ground_net.specs.declared.circuit.GroundModule.{GroundModule}
use Rattle.ground_net.specs.declared.circuit.DrivenModule.{DrivenModule}
use Rattle.ground_net.specs.declared.circuit.GroundInstance.{GroundInstance}
use Rattle.ground_net.specs.declared.circuit.GroundMemory.{GroundMemory}
use Rattle.expand_whens.specs.Expanding.{IsExpandedModule}
use Rattle.net_of_circuit.specs.Numbers.{module_leaves, leaves_of, leaves_before, as_memory, memory_parts, instance_parts}
use Rattle.net_of_circuit.specs.Lowering.{IsGroundModule, IsGroundInstance, IsGroundMemory}
use Rattle.net_laws.proofs.Lists.{first_of, second_of, below_length, append_nil, map_at}
use Rattle.lowering_laws.proofs.Heights.{some_same, none_some}

-- what some components are, with their places from a on
abbrev pub parts_from : {B : Type 0} → (ℕ → Component → Option B) → ℕ → List Component → List B
parts_from F a [] = []
parts_from F a (c ∷ cs) = cons_option (F a c) (parts_from F (a + 1) cs)

parts_are : {B : Type 0} (F : ℕ → Component → Option B) (a : ℕ) (cs : List Component) → filter_map (λ both. F both.0 both.1) (zip (range_with_len a (length cs)) cs) ≡ parts_from F a cs
parts_are F a [] = refl
parts_are F a (c ∷ cs) = ap (cons_option (F a c)) (parts_are F (a + 1) cs)

cons_append : {B : Type 0} (o : Option B) (xs ys : List B) → cons_option o (xs ++ ys) ≡ cons_option o xs ++ ys
cons_append None xs ys = refl
cons_append (Some x) xs ys = refl

parts_append : {B : Type 0} (F : ℕ → Component → Option B) (a : ℕ) (front cs : List Component) → parts_from F a (front ++ cs) ≡ parts_from F a front ++ parts_from F (a + length front) cs
parts_append F a [] cs = let n : a ≡ a + 0 = omega arith in ap (λ b. parts_from F b cs) n
parts_append F a (c ∷ front) cs =
    let n : a + 1 + length front ≡ a + length (c ∷ front) = omega arith in
    ap (cons_option (F a c)) (parts_append F (a + 1) front cs ∙ ap (λ b. parts_from F (a + 1) front ++ parts_from F b cs) n)
    ∙ cons_append (F a c) (parts_from F (a + 1) front) (parts_from F (a + length (c ∷ front)) cs)

abbrev pub memory_part : ℕ → Component → Option (ℕ × Component × Memory)
memory_part at c = as_memory at c c.declaration.sort

abbrev pub instance_part : ℕ → Component → Option (ℕ × Component × ℕ)
instance_part at c = option_map (λ target. (at, c, target)) (target_in c.declaration.sort)

pub memories_are : (cs : List Component) → memory_parts cs ≡ parts_from memory_part 0 cs
memories_are cs = parts_are memory_part 0 cs

pub instances_are : (cs : List Component) → instance_parts cs ≡ parts_from instance_part 0 cs
instances_are cs = parts_are instance_part 0 cs

head_at : {B : Type 0} (xs : List B) (y : B) (ys : List B) → slice_get (xs ++ y ∷ ys) (length xs) ≡ Some y
head_at [] y ys = refl
head_at (x ∷ xs) y ys = head_at xs y ys

end_at : {B : Type 0} (xs : List B) → slice_get xs (length xs) ≡ None
end_at [] = refl
end_at (x ∷ xs) = end_at xs

-- the part of a component behind others
part_at : {B : Type 0} (F : ℕ → Component → Option B) (front : List Component) (c : Component) (cs : List Component) (b : B) → F (length front) c ≡ Some b
    → slice_get (parts_from F 0 (front ++ c ∷ cs)) (length (parts_from F 0 front)) ≡ Some b
part_at F front c cs b e =
    let n : 0 + length front ≡ length front = omega arith in
    ap (λ l. slice_get l (length (parts_from F 0 front))) (parts_append F 0 front (c ∷ cs) ∙ ap (λ o. parts_from F 0 front ++ cons_option o (parts_from F (0 + length front + 1) cs)) (ap (λ i. F i c) n ∙ e))
    ∙ head_at (parts_from F 0 front) b (parts_from F (0 + length front + 1) cs)

length_append : {A : Type 0} (xs ys : List A) → length (xs ++ ys) ≡ length xs + length ys
length_append [] ys = omega arith
length_append (x ∷ xs) ys = let r = length_append xs ys in omega arith

-- one component more
parts_more : {B : Type 0} (F : ℕ → Component → Option B) (front : List Component) (c : Component) → length (parts_from F 0 (front ++ c ∷ [])) ≡ length (parts_from F 0 front) + length (cons_option (F (length front) c) [])
parts_more F front c =
    let n : 0 + length front ≡ length front = omega arith in
    ap length (parts_append F 0 front (c ∷ [])) ∙ (length_append (parts_from F 0 front) (cons_option (F (0 + length front) c) [])
    ∙ ap (λ i. length (parts_from F 0 front) + length (cons_option (F i c) [])) n)

map_counted : {A B : Type 0} (f : A → B) (xs : List A) → length (map f xs) ≡ length xs
map_counted f [] = refl
map_counted f (x ∷ xs) = let r = map_counted f xs in omega arith

pub leaves_counted_of : (c : Component) → length (leaves_of c) ≡ length (leaves c.typ)
leaves_counted_of c = map_counted _ (leaves c.typ)

leaves_more : (front : List Component) (c : Component) → length (flat_map leaves_of (front ++ c ∷ [])) ≡ length (flat_map leaves_of front) + length (leaves c.typ)
leaves_more front c =
    ap length (flat_map-append leaves_of front (c ∷ []) ∙ ap (λ l. flat_map leaves_of front ++ l) (flat_map-cons leaves_of c [] ∙ append_nil (leaves_of c)))
    ∙ (length_append (flat_map leaves_of front) (leaves_of c) ∙ ap (λ n. length (flat_map leaves_of front) + n) (leaves_counted_of c))

take_all : {A : Type 0} (front cs : List A) → take (length front) (front ++ cs) ≡ front
take_all [] cs = refl
take_all (x ∷ front) cs = let r = take_all front cs in grind (arith, common_steps, r)

-- how many leaves stand before a component
counted_before : (cs : List Component) → sum_by (λ c. length (leaves c.typ)) cs ≡ length (flat_map leaves_of cs)
counted_before [] = grind (arith, common_steps)
counted_before (c ∷ cs) =
    let r = counted_before cs in
    let n : length (flat_map leaves_of (c ∷ cs)) ≡ length (leaves_of c) + length (flat_map leaves_of cs) = ap length (flat_map-cons leaves_of c cs) ∙ length_append (leaves_of c) (flat_map leaves_of cs) in
    let own : length (leaves_of c) ≡ length (leaves c.typ) = leaves_counted_of c in
    grind (arith, common_steps, r, n, own)

-- where a part comes from
from_part : {B : Type 0} (F : ℕ → Component → Option B) (a : ℕ) (cs : List Component) (i : ℕ) (b : B) → slice_get (parts_from F a cs) i ≡ Some b → (j : ℕ) × (c : Component) × (slice_get cs j ≡ Some c) × (F (a + j) c ≡ Some b)
from_part F a [] i b e = none_some e
from_part {B} F a (c ∷ cs) i b e = by (F a c) refl i e (λ k h. from_part F (a + 1) cs k b h) where
  by : (o : Option B) → F a c ≡ o → (i : ℕ) → slice_get (cons_option o (parts_from F (a + 1) cs)) i ≡ Some b
      → ((k : ℕ) → slice_get (parts_from F (a + 1) cs) k ≡ Some b → (j : ℕ) × (d : Component) × (slice_get cs j ≡ Some d) × (F (a + 1 + j) d ≡ Some b))
      → (j : ℕ) × (d : Component) × (slice_get (c ∷ cs) j ≡ Some d) × (F (a + j) d ≡ Some b)
  by None q i e onward = let r = onward i e in let n : a + 1 + r.0 ≡ a + suc r.0 = omega arith in (suc r.0, r.1, r.2, ap (λ z. F z r.1) (sym n) ∙ r.3)
  by (Some x) q zero e onward = let n : a + 0 ≡ a = omega arith in (0, c, refl, ap (λ z. F z c) n ∙ (q ∙ e))
  by (Some x) q (suc i) e onward = let r = onward i e in let n : a + 1 + r.0 ≡ a + suc r.0 = omega arith in (suc r.0, r.1, r.2, ap (λ z. F z r.1) (sym n) ∙ r.3)

pub instance_place : (cs : List Component) (i at : ℕ) (c : Component) (target : ℕ) → slice_get (instance_parts cs) i ≡ Some (at, c, target) → (slice_get cs at ≡ Some c) × (target_in c.declaration.sort ≡ Some target)
instance_place cs i at c target e =
    let r = from_part instance_part 0 cs i (at, c, target) (ap (λ l. slice_get l i) (sym (instances_are cs)) ∙ e) in
    let n : 0 + r.0 ≡ r.0 = omega arith in
    by r.0 r.1 r.2 (target_in r.1.declaration.sort) refl (ap (λ z. instance_part z r.1) (sym n) ∙ r.3)
  where
    by : (j : ℕ) (d : Component) → slice_get cs j ≡ Some d → (o : Option ℕ) → target_in d.declaration.sort ≡ o → instance_part j d ≡ Some (at, c, target) → (slice_get cs at ≡ Some c) × (target_in c.declaration.sort ≡ Some target)
    by j d there None q h = none_some (sym (ap (option_map (λ t. (j, d, t))) q) ∙ h)
    by j d there (Some t) q h =
        let same : (j, d, t) ≡ (at, c, target) = some_same {A = ℕ × Component × ℕ} (sym (ap (option_map (λ t. (j, d, t))) q) ∙ h) in (
          ap (slice_get cs) (sym (ap (λ x. x.0) same)) ∙ (there ∙ ap Some (ap (λ x. x.1) same)),
          ap (λ (x : Component). target_in x.declaration.sort) (sym (ap (λ x. x.1) same)) ∙ (q ∙ ap Some (ap (λ x. x.2) same)),
        )

pub memory_place : (cs : List Component) (k at : ℕ) (c : Component) (memory : Memory) → slice_get (memory_parts cs) k ≡ Some (at, c, memory) → (slice_get cs at ≡ Some c) × (c.declaration.sort ≡ A_memory memory)
memory_place cs k at c memory e =
    let r = from_part memory_part 0 cs k (at, c, memory) (ap (λ l. slice_get l k) (sym (memories_are cs)) ∙ e) in
    let n : 0 + r.0 ≡ r.0 = omega arith in
    by r.0 r.1 r.2 r.1.declaration.sort refl (ap (λ z. memory_part z r.1) (sym n) ∙ r.3)
  where
    by : (j : ℕ) (d : Component) → slice_get cs j ≡ Some d → (sort : Sort) → d.declaration.sort ≡ sort → as_memory j d d.declaration.sort ≡ Some (at, c, memory) → (slice_get cs at ≡ Some c) × (c.declaration.sort ≡ A_memory memory)
    by j d there (A_memory held) q h =
        let same : (j, d, held) ≡ (at, c, memory) = some_same {A = ℕ × Component × Memory} (sym (ap (as_memory j d) q) ∙ h) in (
          ap (slice_get cs) (sym (ap (λ x. x.0) same)) ∙ (there ∙ ap Some (ap (λ x. x.1) same)),
          ap (λ (x : Component). x.declaration.sort) (sym (ap (λ x. x.1) same)) ∙ (q ∙ ap A_memory (ap (λ x. x.2) same)),
        )
    by j d there An_input q h = none_some (sym (ap (as_memory j d) q) ∙ h)
    by j d there An_output q h = none_some (sym (ap (as_memory j d) q) ∙ h)
    by j d there A_wire q h = none_some (sym (ap (as_memory j d) q) ∙ h)
    by j d there (A_register clock) q h = none_some (sym (ap (as_memory j d) q) ∙ h)
    by j d there (A_reset_register clock reset init) q h = none_some (sym (ap (as_memory j d) q) ∙ h)
    by j d there (An_instance target) q h = none_some (sym (ap (as_memory j d) q) ∙ h)
    by j d there (A_node expr) q h = none_some (sym (ap (as_memory j d) q) ∙ h)

-- The leaves of a component stand behind those of the components before it.
pub leaf_behind : (cs : List Component) (at : ℕ) (c : Component) (j : ℕ) (leaf : TypeLeaf) → slice_get cs at ≡ Some c → slice_get (leaves c.typ) j ≡ Some leaf
    → slice_get (flat_map leaves_of cs) (sum_by (λ x. length (leaves x.typ)) (take at cs) + j) ≡ Some (c, leaf)
leaf_behind [] at c j leaf e f = none_some e
leaf_behind (d ∷ cs) zero c j leaf e f =
    let n : sum_by (λ (x : Component). length (leaves x.typ)) [] + j ≡ j = grind (arith, common_steps) in
    let same = some_same e in
    ap (slice_get (flat_map leaves_of (d ∷ cs))) n
    ∙ (ap (λ l. slice_get l j) (flat_map-cons leaves_of d cs) ∙ first_of (leaves_of d) (flat_map leaves_of cs) j (c, leaf)
    (ap (λ x. slice_get (leaves_of x) j) same ∙ map_at (λ l. (c, l)) (leaves c.typ) j leaf f))
leaf_behind (d ∷ cs) (suc at) c j leaf e f =
    let r = leaf_behind cs at c j leaf e f in
    let S : List Component → ℕ = sum_by (λ (x : Component). length (leaves x.typ)) in
    let n : S (take (suc at) (d ∷ cs)) ≡ length (leaves d.typ) + S (take at cs) = sum_by-cons (λ (x : Component). length (leaves x.typ)) d (take at cs) in
    let k : S (take (suc at) (d ∷ cs)) + j ≡ length (leaves_of d) + (S (take at cs) + j) = (let q = leaves_counted_of d in grind (arith, common_steps, n, q)) in
    ap (slice_get (flat_map leaves_of (d ∷ cs))) k ∙ (ap (λ l. slice_get l (length (leaves_of d) + (S (take at cs) + j))) (flat_map-cons leaves_of d cs)
    ∙ second_of (leaves_of d) (flat_map leaves_of cs) (S (take at cs) + j) (c, leaf) r)

-- The components from one on stand behind so many leaves, memories and instances.
pub data StandsFrom (texts : Texts) (circuit : Circuit) (m : TypedModule) (d : DrivenModule) : ℕ → ℕ → ℕ → List Component → Type 0 where
  no_component : {y k i : ℕ} → slice_get d.leaves y ≡ None → slice_get d.memories k ≡ None → slice_get d.instances i ≡ None → StandsFrom texts circuit m d y k i []
  instance_next : {y k i : ℕ} {cs : List Component} (c : Component) (at target : ℕ) (gi : GroundInstance) → target_in c.declaration.sort ≡ Some target → slice_get d.instances i ≡ Some gi → gi.first ≡ y → gi.memories ≡ k
      → slice_get (instance_parts m.components) i ≡ Some (at, c, target) → IsGroundInstance texts circuit m at c target gi
      → StandsFrom texts circuit m d (y + length (leaves c.typ)) k (i + 1) cs → StandsFrom texts circuit m d y k i (c ∷ cs)
  memory_next : {y k i : ℕ} {cs : List Component} (c : Component) (at : ℕ) (memory : Memory) (gm : GroundMemory) → c.declaration.sort ≡ A_memory memory → slice_get d.memories k ≡ Some gm → gm.first ≡ y
      → slice_get (memory_parts m.components) k ≡ Some (at, c, memory) → IsGroundMemory texts m at c memory gm
      → StandsFrom texts circuit m d (y + length (leaves c.typ)) (k + 1) i cs → StandsFrom texts circuit m d y k i (c ∷ cs)
  other_next : {y k i : ℕ} {cs : List Component} (c : Component) → target_in c.declaration.sort ≡ None → ((at : ℕ) → memory_part at c ≡ None)
      → StandsFrom texts circuit m d (y + length (leaves c.typ)) k i cs → StandsFrom texts circuit m d y k i (c ∷ cs)

-- what comes next stands behind
pub instance_behind : {texts : Texts} {circuit : Circuit} {m : TypedModule} {d : DrivenModule} {y k i : ℕ} {cs : List Component} → StandsFrom texts circuit m d y k i cs → (gi : GroundInstance) → slice_get d.instances i ≡ Some gi
    → (y ≤ gi.first) × (k ≤ gi.memories)
instance_behind (no_component a b c) gi e = none_some (sym c ∙ e)
instance_behind (instance_next c at target other t there first memories part is rest) gi e =
    let same = some_same (sym there ∙ e) in
    let f = ap (λ (g : GroundInstance). g.first) same in
    let n = ap (λ (g : GroundInstance). g.memories) same in
    (grind (arith, common_steps, f, first), grind (arith, common_steps, n, memories))
instance_behind (memory_next c at memory gm sort there first part is rest) gi e = let r = instance_behind rest gi e in (omega arith, omega arith)
instance_behind (other_next c none absent rest) gi e = let r = instance_behind rest gi e in (omega arith, r.1)

pub memory_behind : {texts : Texts} {circuit : Circuit} {m : TypedModule} {d : DrivenModule} {y k i : ℕ} {cs : List Component} → StandsFrom texts circuit m d y k i cs → (gm : GroundMemory) → slice_get d.memories k ≡ Some gm → y ≤ gm.first
memory_behind (no_component a b c) gm e = none_some (sym b ∙ e)
memory_behind (instance_next c at target other t there first memories part is rest) gm e = let r = memory_behind rest gm e in omega arith
memory_behind (memory_next c at memory other sort there first part is rest) gm e =
    let f = ap (λ (g : GroundMemory). g.first) (some_same (sym there ∙ e)) in grind (arith, common_steps, f, first)
memory_behind (other_next c none absent rest) gm e = let r = memory_behind rest gm e in omega arith

pub item : {A : Type 0} (xs : List A) (k : ℕ) → k < length xs → (x : A) × (slice_get xs k ≡ Some x)
item [] k h = absurd (omega arith)
item (x ∷ xs) zero h = (x, refl)
item (x ∷ xs) (suc k) h = item xs k (omega arith)

pub past : {A : Type 0} (xs : List A) (k : ℕ) → length xs ≡ k → slice_get xs k ≡ None
past xs k e = ap (slice_get xs) (sym e) ∙ end_at xs

module _ (texts : Texts) (circuit : Circuit) (m : TypedModule) (g : GroundModule) (d : DrivenModule) (is : IsGroundModule texts circuit m g) (ex : IsExpandedModule g d) where
  leaves_counted : length d.leaves ≡ length (module_leaves m)
  leaves_counted = ap length ex.leaves ∙ is.counted

  memories_counted : length d.memories ≡ length (parts_from memory_part 0 m.components)
  memories_counted = ap length ex.memories ∙ (is.all_memories ∙ ap length (memories_are m.components))

  instances_counted : length d.instances ≡ length (parts_from instance_part 0 m.components)
  instances_counted = ap length ex.instances ∙ (is.all_instances ∙ ap length (instances_are m.components))

  -- All components of the module stand so.
  pub stands_from : (cs front : List Component) → front ++ cs ≡ m.components
      → StandsFrom texts circuit m d (length (flat_map leaves_of front)) (length (parts_from memory_part 0 front)) (length (parts_from instance_part 0 front)) cs
  stands_from [] front e =
      let same : front ≡ m.components = sym (append_nil front) ∙ e in
      no_component
      (past d.leaves (length (flat_map leaves_of front)) (leaves_counted ∙ ap (λ l. length (flat_map leaves_of l)) (sym same)))
      (past d.memories (length (parts_from memory_part 0 front)) (memories_counted ∙ ap (λ l. length (parts_from memory_part 0 l)) (sym same)))
      (past d.instances (length (parts_from instance_part 0 front)) (instances_counted ∙ ap (λ l. length (parts_from instance_part 0 l)) (sym same)))
  stands_from (c ∷ cs) front e = by c.declaration.sort refl (stands_from cs (front ++ c ∷ []) (append_assoc front (c ∷ []) cs ∙ e)) where
    y : ℕ
    y = length (flat_map leaves_of front)

    k : ℕ
    k = length (parts_from memory_part 0 front)

    i : ℕ
    i = length (parts_from instance_part 0 front)

    before : leaves_before m (length front) ≡ y
    before = ap (λ l. sum_by (λ (x : Component). length (leaves x.typ)) (take (length front) l)) (sym e) ∙ (ap (sum_by (λ (x : Component). length (leaves x.typ))) (take_all front (c ∷ cs)) ∙ counted_before front)

    Onward : Type 0
    Onward = StandsFrom texts circuit m d (length (flat_map leaves_of (front ++ c ∷ []))) (length (parts_from memory_part 0 (front ++ c ∷ []))) (length (parts_from instance_part 0 (front ++ c ∷ []))) cs

    moved : (a b : ℕ) → length (cons_option (memory_part (length front) c) []) ≡ a → length (cons_option (instance_part (length front) c) []) ≡ b → Onward → StandsFrom texts circuit m d (y + length (leaves c.typ)) (k + a) (i + b) cs
    moved a b p q rest =
        subst (λ z. StandsFrom texts circuit m d (y + length (leaves c.typ)) (k + a) z cs) (parts_more instance_part front c ∙ ap (λ z. i + z) q)
        (subst (λ z. StandsFrom texts circuit m d (y + length (leaves c.typ)) z (length (parts_from instance_part 0 (front ++ c ∷ []))) cs) (parts_more memory_part front c ∙ ap (λ z. k + z) p)
        (subst (λ z. StandsFrom texts circuit m d z (length (parts_from memory_part 0 (front ++ c ∷ []))) (length (parts_from instance_part 0 (front ++ c ∷ []))) cs) (leaves_more front c) rest))

    plain : (sort : Sort) → c.declaration.sort ≡ sort → target_in sort ≡ None → ((at : ℕ) → as_memory at c sort ≡ None) → Onward → StandsFrom texts circuit m d y k i (c ∷ cs)
    plain sort s none absent rest =
        let none' : target_in c.declaration.sort ≡ None = ap target_in s ∙ none in
        let absent' : (at : ℕ) → memory_part at c ≡ None = λ at. ap (as_memory at c) s ∙ absent at in
        let zk : k + 0 ≡ k = omega arith in
        let zi : i + 0 ≡ i = omega arith in
        let r = moved 0 0 (ap (λ o. length (cons_option o [])) (absent' (length front))) (ap (λ o. length {A = ℕ × Component × ℕ} (cons_option (option_map (λ target. (length front, c, target)) o) [])) none') rest in
        other_next c none' absent' (subst (λ z. StandsFrom texts circuit m d (y + length (leaves c.typ)) k z cs) zi (subst (λ z. StandsFrom texts circuit m d (y + length (leaves c.typ)) z (i + 0) cs) zk r))

    by : (sort : Sort) → c.declaration.sort ≡ sort → Onward → StandsFrom texts circuit m d y k i (c ∷ cs)
    by (An_instance target) s rest =
        let t : target_in c.declaration.sort ≡ Some target = ap target_in s in
        let part : instance_part (length front) c ≡ Some (length front, c, target) = ap (option_map (λ target. (length front, c, target))) t in
        let at : slice_get (instance_parts m.components) i ≡ Some (length front, c, target) =
        ap (λ l. slice_get (instance_parts l) i) (sym e) ∙ (ap (λ l. slice_get l i) (instances_are (front ++ c ∷ cs)) ∙ part_at instance_part front c cs (length front, c, target) part) in
        let gi = item d.instances i (subst (λ n. i < n) (sym (ap length ex.instances ∙ is.all_instances)) (below_length (instance_parts m.components) i (length front, c, target) at)) in
        let same : slice_get g.instances i ≡ Some gi.0 = ap (λ l. slice_get l i) (sym ex.instances) ∙ gi.1 in
        let placed = is.instances i (length front, c, target) gi.0 at same in
        let memories : gi.0.memories ≡ k = placed.memories ∙ (ap (λ l. length (memory_parts (take (length front) l))) (sym e) ∙ (ap (λ l. length (memory_parts l)) (take_all front (c ∷ cs)) ∙ ap length (memories_are front))) in
        let zk : k + 0 ≡ k = omega arith in
        let none : memory_part (length front) c ≡ None = ap (as_memory (length front) c) s in
        let r = moved 0 1 (ap (λ o. length (cons_option o [])) none) (ap (λ o. length (cons_option o [])) part) rest in
        instance_next c (length front) target gi.0 t gi.1 (placed.first ∙ before) memories at placed (subst (λ z. StandsFrom texts circuit m d (y + length (leaves c.typ)) z (i + 1) cs) zk r)
    by (A_memory memory) s rest =
        let none : target_in c.declaration.sort ≡ None = ap target_in s in
        let part : memory_part (length front) c ≡ Some (length front, c, memory) = ap (as_memory (length front) c) s in
        let at : slice_get (memory_parts m.components) k ≡ Some (length front, c, memory) =
        ap (λ l. slice_get (memory_parts l) k) (sym e) ∙ (ap (λ l. slice_get l k) (memories_are (front ++ c ∷ cs)) ∙ part_at memory_part front c cs (length front, c, memory) part) in
        let gm = item d.memories k (subst (λ n. k < n) (sym (ap length ex.memories ∙ is.all_memories)) (below_length (memory_parts m.components) k (length front, c, memory) at)) in
        let same : slice_get g.memories k ≡ Some gm.0 = ap (λ l. slice_get l k) (sym ex.memories) ∙ gm.1 in
        let placed = is.memories k (length front, c, memory) gm.0 at same in
        let zi : i + 0 ≡ i = omega arith in
        let r = moved 1 0 (ap (λ o. length (cons_option o [])) part) (ap (λ o. length {A = ℕ × Component × ℕ} (cons_option (option_map (λ target. (length front, c, target)) o) [])) none) rest in
        memory_next c (length front) memory gm.0 s gm.1 (placed.first ∙ before) at placed (subst (λ z. StandsFrom texts circuit m d (y + length (leaves c.typ)) (k + 1) z cs) zi r)
    by An_input s rest = plain An_input s refl (λ at. refl) rest
    by An_output s rest = plain An_output s refl (λ at. refl) rest
    by A_wire s rest = plain A_wire s refl (λ at. refl) rest
    by (A_register clock) s rest = plain (A_register clock) s refl (λ at. refl) rest
    by (A_reset_register clock reset init) s rest = plain (A_reset_register clock reset init) s refl (λ at. refl) rest
    by (A_node expr) s rest = plain (A_node expr) s refl (λ at. refl) rest
