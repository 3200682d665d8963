-- The memories and the instances of a module, one after the other.
use Rattle.std.proofs.Common.{◌≡◌, ℕ, zero, suc, ◌+◌, List, [], ◌∷◌, take, length, Option, Some, None, option_map, refl, sym, ap, ◌∙◌, subst, arith}
use Rattle.std.specs.List.{slice_get, cons_option, sum_by}
use Rattle.std.proofs.lemmas.Grind.{common_steps}
use Rattle.std.proofs.lemmas.List.Sums.{sum_by-cons}
use Rattle.fir_types.specs.declared.memory.Memory.{Memory}
use Rattle.fir_types.specs.Leaves.{leaves}
use Rattle.fir_tree.specs.LeafNames.{Texts}
use Rattle.fir_meaning.specs.Components.{Component, Sort, An_input, An_output, A_wire, A_register, A_reset_register, A_memory, An_instance, A_node, target_in}
use Rattle.net_of_circuit.specs.Numbers.{as_memory}
use Rattle.lower_aggregates.specs.Parts.{component_part, component_parts}
use Rattle.lower_aggregates.specs.Memories.{MemoryRow, memory_by, memory_where, memories_in}
use Rattle.lower_aggregates.specs.Instances.{InstanceRow, Numbers, instance_where, instances_from, memories_by}
use Rattle.lower_aggregates.specs.Standing.{memory_parts_from, instance_parts_from, MemoryThere, InstanceThere}

some_same : {A : Type 0} {x y : A} → Some x ≡ Some y → x ≡ y
some_same {A} {x} e = ap (or_first x) e
  where
    or_first : A → Option A → A
    or_first d (Some z) = z
    or_first d None = d

none_some : {A : Type 0} {B : Type 0} {x : A} → None ≡ Some x → B
none_some e = absurd cc

abbrev size : Component → ℕ
size d = length (leaves d.typ)

memory_further : (texts : Texts) (a b : ℕ) (c : Component) (cs : List Component) (part : ℕ × Component × Memory) (row : MemoryRow) → MemoryThere texts (a + 1) (b + length (leaves c.typ)) cs part row → MemoryThere texts a b (c ∷ cs) part row
memory_further texts a b c cs part row t =
    let s : sum_by size (take (suc t.j) (c ∷ cs)) ≡ length (leaves c.typ) + sum_by size (take t.j cs) = sum_by-cons size c (take t.j cs) in
    let n : b + length (leaves c.typ) + sum_by size (take t.j cs) ≡ b + sum_by size (take (suc t.j) (c ∷ cs)) = omega (arith, s) in
    let p : a + 1 + t.j ≡ a + suc t.j = omega arith in
    record {
      j = suc t.j;
      place = t.place ∙ p;
      stands = t.stands;
      sort = t.sort;
      row_is = t.row_is ∙ ap (λ f. memory_by texts (component_part f part.1) part.2) n;
    }

pub memory_there : (texts : Texts) (a b : ℕ) (cs : List Component) (k : ℕ) (part : ℕ × Component × Memory) (row : MemoryRow) → slice_get (memory_parts_from a cs) k ≡ Some part
    → slice_get (memories_in texts (component_parts b cs)) k ≡ Some row → MemoryThere texts a b cs part row
memory_there texts a b [] k part row e f = none_some e
memory_there texts a b (c ∷ cs) k part row e f =
    by (λ k e f. memory_further texts a b c cs part row (memory_there texts (a + 1) (b + length (leaves c.typ)) cs k part row e f)) c.declaration.sort refl k e f
  where
    by : ((k : ℕ) → slice_get (memory_parts_from (a + 1) cs) k ≡ Some part → slice_get (memories_in texts (component_parts (b + length (leaves c.typ)) cs)) k ≡ Some row → MemoryThere texts a b (c ∷ cs) part row) → (sort : Sort) → c.declaration.sort ≡ sort → (k : ℕ) → slice_get (cons_option (as_memory a c sort) (memory_parts_from (a + 1) cs)) k ≡ Some part
        → slice_get (cons_option (memory_where texts (component_part b c) sort) (memories_in texts (component_parts (b + length (leaves c.typ)) cs))) k ≡ Some row → MemoryThere texts a b (c ∷ cs) part row
    by plain (A_memory memory) s zero e f =
        let same : (a, c, memory) ≡ part = some_same {A = ℕ × Component × Memory} e in
        let z : b ≡ b + sum_by size [] = grind (arith, common_steps) in
        let p : a ≡ a + 0 = omega arith in
        subst (λ q. MemoryThere texts a b (c ∷ cs) q row) same (record {
          j = 0;
          place = p;
          stands = refl;
          sort = s;
          row_is = sym (some_same f) ∙ ap (λ n. memory_by texts (component_part n c) memory) z;
        })
    by plain (A_memory memory) s (suc k) e f = plain k e f
    by plain An_input s k e f = plain k e f
    by plain An_output s k e f = plain k e f
    by plain A_wire s k e f = plain k e f
    by plain (A_register clock) s k e f = plain k e f
    by plain (A_reset_register clock reset init) s k e f = plain k e f
    by plain (An_instance target) s k e f = plain k e f
    by plain (A_node expr) s k e f = plain k e f

pub memories_counted : (texts : Texts) (a b : ℕ) (cs : List Component) → length (memories_in texts (component_parts b cs)) ≡ length (memory_parts_from a cs)
memories_counted texts a b [] = refl
memories_counted texts a b (c ∷ cs) = by c.declaration.sort (memories_counted texts (a + 1) (b + length (leaves c.typ)) cs)
  where
    by : (sort : Sort) → length (memories_in texts (component_parts (b + length (leaves c.typ)) cs)) ≡ length (memory_parts_from (a + 1) cs)
        → length (cons_option (memory_where texts (component_part b c) sort) (memories_in texts (component_parts (b + length (leaves c.typ)) cs))) ≡ length (cons_option (as_memory a c sort) (memory_parts_from (a + 1) cs))
    by (A_memory memory) h = ap suc h
    by An_input h = h
    by An_output h = h
    by A_wire h = h
    by (A_register clock) h = h
    by (A_reset_register clock reset init) h = h
    by (An_instance target) h = h
    by (A_node expr) h = h

-- Instances

one_memory : (a : ℕ) (c : Component) (sort : Sort) (rest : List (ℕ × Component × Memory)) → length (cons_option (as_memory a c sort) rest) ≡ memories_by sort + length rest
one_memory a c (A_memory memory) rest = omega arith
one_memory a c An_input rest = omega arith
one_memory a c An_output rest = omega arith
one_memory a c A_wire rest = omega arith
one_memory a c (A_register clock) rest = omega arith
one_memory a c (A_reset_register clock reset init) rest = omega arith
one_memory a c (An_instance target) rest = omega arith
one_memory a c (A_node expr) rest = omega arith

instance_further : (texts : Texts) (numbers : Numbers) (n a b : ℕ) (c : Component) (cs : List Component) (part : ℕ × Component × ℕ) (row : InstanceRow)
    → InstanceThere texts numbers (n + memories_by c.declaration.sort) (a + 1) (b + length (leaves c.typ)) cs part row → InstanceThere texts numbers n a b (c ∷ cs) part row
instance_further texts numbers n a b c cs part row t =
    let s : sum_by size (take (suc t.j) (c ∷ cs)) ≡ length (leaves c.typ) + sum_by size (take t.j cs) = sum_by-cons size c (take t.j cs) in
    let f : b + length (leaves c.typ) + sum_by size (take t.j cs) ≡ b + sum_by size (take (suc t.j) (c ∷ cs)) = omega (arith, s) in
    let p : a + 1 + t.j ≡ a + suc t.j = omega arith in
    let one : length (memory_parts_from a (take (suc t.j) (c ∷ cs))) ≡ memories_by c.declaration.sort + length (memory_parts_from (a + 1) (take t.j cs)) = one_memory a c c.declaration.sort (memory_parts_from (a + 1) (take t.j cs)) in
    let k : n + memories_by c.declaration.sort + length (memory_parts_from (a + 1) (take t.j cs)) ≡ n + length (memory_parts_from a (take (suc t.j) (c ∷ cs))) = omega (arith, one) in
    record {
      j = suc t.j;
      place = t.place ∙ p;
      stands = t.stands;
      name = t.name;
      first = t.first ∙ f;
      memories = t.memories ∙ k;
      makes = t.makes;
    }

pub instance_there : (texts : Texts) (numbers : Numbers) (n a b : ℕ) (cs : List Component) (i : ℕ) (part : ℕ × Component × ℕ) (row : InstanceRow) → slice_get (instance_parts_from a cs) i ≡ Some part
    → slice_get (instances_from texts numbers n (component_parts b cs)) i ≡ Some row → InstanceThere texts numbers n a b cs part row
instance_there texts numbers n a b [] i part row e f = none_some e
instance_there texts numbers n a b (c ∷ cs) i part row e f =
    by (λ i e f. instance_further texts numbers n a b c cs part row (instance_there texts numbers (n + memories_by c.declaration.sort) (a + 1) (b + length (leaves c.typ)) cs i part row e f)) c.declaration.sort refl i e f
  where
    by : ((i : ℕ) → slice_get (instance_parts_from (a + 1) cs) i ≡ Some part → slice_get (instances_from texts numbers (n + memories_by c.declaration.sort) (component_parts (b + length (leaves c.typ)) cs)) i ≡ Some row → InstanceThere texts numbers n a b (c ∷ cs) part row) → (sort : Sort) → c.declaration.sort ≡ sort → (i : ℕ) → slice_get (cons_option (option_map (λ target. (a, c, target)) (target_in sort)) (instance_parts_from (a + 1) cs)) i ≡ Some part
        → slice_get (cons_option (instance_where texts numbers n (component_part b c) sort) (instances_from texts numbers (n + memories_by c.declaration.sort) (component_parts (b + length (leaves c.typ)) cs))) i ≡ Some row
        → InstanceThere texts numbers n a b (c ∷ cs) part row
    by plain (An_instance target) s zero e f =
        let same : (a, c, target) ≡ part = some_same {A = ℕ × Component × ℕ} e in
        let row_is = some_same f in
        let z : b ≡ b + sum_by size [] = grind (arith, common_steps) in
        let p : a ≡ a + 0 = omega arith in
        let k : n ≡ n + 0 = omega arith in
        subst (λ q. InstanceThere texts numbers n a b (c ∷ cs) q row) same (record {
          j = 0;
          place = p;
          stands = refl;
          name = sym (ap (λ (r : InstanceRow). r.name) row_is);
          first = sym (ap (λ (r : InstanceRow). r.first) row_is) ∙ z;
          memories = sym (ap (λ (r : InstanceRow). r.memories) row_is) ∙ k;
          makes = sym (ap (λ (r : InstanceRow). r.makes) row_is);
        })
    by plain (An_instance target) s (suc i) e f = plain i e f
    by plain An_input s i e f = plain i e f
    by plain An_output s i e f = plain i e f
    by plain A_wire s i e f = plain i e f
    by plain (A_register clock) s i e f = plain i e f
    by plain (A_reset_register clock reset init) s i e f = plain i e f
    by plain (A_memory memory) s i e f = plain i e f
    by plain (A_node expr) s i e f = plain i e f

pub instances_counted : (texts : Texts) (numbers : Numbers) (n a b : ℕ) (cs : List Component) → length (instances_from texts numbers n (component_parts b cs)) ≡ length (instance_parts_from a cs)
instances_counted texts numbers n a b [] = refl
instances_counted texts numbers n a b (c ∷ cs) = by c.declaration.sort (instances_counted texts numbers (n + memories_by c.declaration.sort) (a + 1) (b + length (leaves c.typ)) cs)
  where
    by : (sort : Sort) → length (instances_from texts numbers (n + memories_by c.declaration.sort) (component_parts (b + length (leaves c.typ)) cs)) ≡ length (instance_parts_from (a + 1) cs)
        → length (cons_option (instance_where texts numbers n (component_part b c) sort) (instances_from texts numbers (n + memories_by c.declaration.sort) (component_parts (b + length (leaves c.typ)) cs)))
        ≡ length (cons_option (option_map (λ target. (a, c, target)) (target_in sort)) (instance_parts_from (a + 1) cs))
    by (An_instance target) h = ap suc h
    by An_input h = h
    by An_output h = h
    by A_wire h = h
    by (A_register clock) h = h
    by (A_reset_register clock reset init) h = h
    by (A_memory memory) h = h
    by (A_node expr) h = h
