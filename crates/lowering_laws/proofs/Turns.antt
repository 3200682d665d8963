-- Where the instances and the memories of a module stand: one after the other, behind its ports.
use Rattle.std.proofs.Common.{◌≡◌, ℕ, zero, suc, ◌+◌, ◌<◌, ◌≤◌, Bool, true, false, List, [], ◌∷◌, ◌++◌, take, length, Some, None, refl, sym, ap, ◌∙◌, subst, arith, true≢false, if◌then◌else◌}
use Rattle.std.specs.Prelude.{Contains}
use Rattle.std.specs.List.{slice_get, flat_map, sum_by}
use Rattle.std.proofs.lemmas.Grind.{common_steps}
use Rattle.std.proofs.lemmas.List.Concat.{flat_map-cons}
use Rattle.std.proofs.lemmas.List.Sums.{sum_by-cons}
use Rattle.fir_types.specs.Leaves.{leaves}
use Rattle.fir_tree.specs.declared.circuit.Circuit.{Circuit}
use Rattle.fir_tree.specs.LeafNames.{Texts}
use Rattle.fir_meaning.specs.Components.{TypedModule, Component, target_in}
use Rattle.fir_meaning.specs.States.{is_port}
use Rattle.ground_net.specs.declared.circuit.DrivenModule.{DrivenModule}
use Rattle.ground_net.specs.declared.circuit.GroundInstance.{GroundInstance}
use Rattle.ground_net.specs.declared.circuit.GroundMemory.{GroundMemory}
use Rattle.net_of_circuit.specs.Numbers.{leaves_of, instance_parts}
use Rattle.net_of_circuit.specs.Lowering.{IsGroundInstance}
use Rattle.net_laws.proofs.Lists.{later, below_length}
use Rattle.lowering_laws.proofs.Heights.{some_same, none_some}
use Rattle.lowering_laws.proofs.Parts.{StandsFrom, no_component, instance_next, memory_next, other_next, leaves_counted_of}
use Rattle.lowering_laws.proofs.Matching.{port_size, length_append}

none_later : {A : Type 0} (xs : List A) (k j : ℕ) → k ≤ j → slice_get xs k ≡ None → slice_get xs j ≡ None
none_later [] k j le h = refl
none_later (x ∷ xs) zero j le h = none_some (sym h)
none_later (x ∷ xs) (suc k) zero le h = absurd (omega (arith, le))
none_later (x ∷ xs) (suc k) (suc j) le h = none_later xs k j (omega (arith, le)) h

-- how many leaves components have
abbrev pub total : List Component → ℕ
total [] = 0
total (c ∷ cs) = length (leaves c.typ) + total cs

pub total_is : (cs : List Component) → total cs ≡ length (flat_map leaves_of cs)
total_is [] = refl
total_is (c ∷ cs) =
    ap (λ n. length (leaves c.typ) + n) (total_is cs)
    ∙ (ap (λ n. n + length (flat_map leaves_of cs)) (sym (leaves_counted_of c))
    ∙ (sym (length_append (leaves_of c) (flat_map leaves_of cs)) ∙ ap length (sym (flat_map-cons leaves_of c cs))))

-- Ports

abbrev size : Component → ℕ
size c = length (leaves c.typ)

size_of_none : (c : Component) → is_port c.declaration.sort ≡ false → port_size c ≡ 0
size_of_none c e = ap (λ b. if b then length (leaves c.typ) else 0) e

none_sized : (cs : List Component) → ((c : Component) → Contains cs c → is_port c.declaration.sort ≡ false) → sum_by port_size cs ≡ 0
none_sized [] none = grind (arith, common_steps)
none_sized (c ∷ cs) none =
    let own = size_of_none c (none c (0, omega arith, refl)) in
    let rest = none_sized cs (λ x h. none x (later c cs x h)) in
    let step = sum_by-cons port_size c cs in
    omega (arith, own, rest, step)

port_within : (c : Component) → port_size c ≤ size c
port_within c = by (is_port c.declaration.sort) where
  by : (b : Bool) → (if b then length (leaves c.typ) else 0) ≤ length (leaves c.typ)
  by true = omega arith
  by false = omega arith

pub ports_within : (cs : List Component) → sum_by port_size cs ≤ total cs
ports_within [] = (let n : sum_by port_size [] ≡ 0 = grind (arith, common_steps) in omega (arith, n))
ports_within (c ∷ cs) =
    let own = port_within c in
    let rest = ports_within cs in
    let step = sum_by-cons port_size c cs in
    let is : total (c ∷ cs) ≡ size c + total cs = refl in
    omega (arith, own, rest, step, is)

-- What is no port stands behind the ports.
pub ports_before : (ports others : List Component) → ((c : Component) → Contains ports c → is_port c.declaration.sort ≡ true) → ((c : Component) → Contains others c → is_port c.declaration.sort ≡ false)
    → (at : ℕ) (c : Component) → slice_get (ports ++ others) at ≡ Some c → is_port c.declaration.sort ≡ false
    → sum_by port_size (ports ++ others) ≤ sum_by (λ c. length (leaves c.typ)) (take at (ports ++ others))
ports_before [] others all none at c e other = let n = none_sized others none in omega (arith, n)
ports_before (p ∷ ports) others all none zero c e other =
    absurd (true≢false (sym (all p (0, omega arith, refl)) ∙ (ap (λ (x : Component). is_port x.declaration.sort) (some_same e) ∙ other)))
ports_before (p ∷ ports) others all none (suc at) c e other =
    let own = port_within p in
    let rest = ports_before ports others (λ x h. all x (later p ports x h)) none at c e other in
    let left = sum_by-cons port_size p (ports ++ others) in
    let right : sum_by (λ (x : Component). length (leaves x.typ)) (take (suc at) (p ∷ (ports ++ others))) ≡ size p + sum_by (λ (x : Component). length (leaves x.typ)) (take at (ports ++ others)) =
    sum_by-cons (λ (x : Component). length (leaves x.typ)) p (take at (ports ++ others)) in
    omega (arith, own, rest, left, right)

-- Instances and memories in turn

module _ (texts : Texts) (circuit : Circuit) (m : TypedModule) (d : DrivenModule) where
  -- An instance of a module, behind so many leaves and within so many: the component that it is, and what stands behind it.
  pub record InstanceAt (low all j : ℕ) (gi : GroundInstance) : Type 0 where
    pub at : ℕ
    pub target : ℕ
    pub c : Component
    pub cs : List Component
    pub makes : target_in c.declaration.sort ≡ Some target
    pub part : slice_get (instance_parts m.components) j ≡ Some (at, c, target)
    pub placed : IsGroundInstance texts circuit m at c target gi
    pub behind : low ≤ gi.first
    pub within : gi.first + length (leaves c.typ) ≤ all
    pub memories : gi.memories ≤ length d.memories
    pub rest : StandsFrom texts circuit m d (gi.first + length (leaves c.typ)) gi.memories (j + 1) cs

  widen_instance : (low all low' all' j : ℕ) (gi : GroundInstance) → low' ≤ low → all ≤ all' → InstanceAt low all j gi → InstanceAt low' all' j gi
  widen_instance low all low' all' j gi a c r =
      let x = r.behind in
      let z = r.within in
      record {
        at = r.at;
        target = r.target;
        c = r.c;
        cs = r.cs;
        makes = r.makes;
        part = r.part;
        placed = r.placed;
        behind = omega (arith, a, x);
        within = omega (arith, c, z);
        memories = r.memories;
        rest = r.rest;
      }

  pub instance_at : (cs : List Component) (y k i : ℕ) → StandsFrom texts circuit m d y k i cs → k ≤ length d.memories → (j e : ℕ) → j ≡ i + e → (gi : GroundInstance) → slice_get d.instances j ≡ Some gi → InstanceAt y (y + total cs) j gi
  instance_at [] y k i (no_component a b none) counted j e q gi h = none_some (sym (none_later d.instances i j (omega (arith, q)) none) ∙ h)
  instance_at (c ∷ cs) y k i (instance_next _ at target other makes there first memories part placed rest) counted j zero q gi h =
      let number : i ≡ j = omega (arith, q) in
      let same : other ≡ gi = some_same (sym there ∙ (ap (slice_get d.instances) number ∙ h)) in
      let all : total (c ∷ cs) ≡ length (leaves c.typ) + total cs = refl in
      subst (λ z. InstanceAt y (y + total (c ∷ cs)) z gi) number (subst (λ g. InstanceAt y (y + total (c ∷ cs)) i g) same (record {
        at = at;
        target = target;
        c = c;
        cs = cs;
        makes = makes;
        part = part;
        placed = placed;
        behind = omega (arith, first);
        within = omega (arith, first, all);
        memories = omega (arith, memories, counted);
        rest = subst (λ z. StandsFrom texts circuit m d (z + length (leaves c.typ)) other.memories (i + 1) cs) (sym first)
            (subst (λ z. StandsFrom texts circuit m d (y + length (leaves c.typ)) z (i + 1) cs) (sym memories) rest);
      }))
  instance_at (c ∷ cs) y k i (instance_next _ at target other makes there first memories part placed rest) counted j (suc e) q gi h =
      let all : total (c ∷ cs) ≡ length (leaves c.typ) + total cs = refl in
      widen_instance (y + length (leaves c.typ)) (y + length (leaves c.typ) + total cs) y (y + total (c ∷ cs)) j gi (omega arith) (omega (arith, all))
      (instance_at cs (y + length (leaves c.typ)) k (i + 1) rest counted j e (omega (arith, q)) gi h)
  instance_at (c ∷ cs) y k i (memory_next _ at memory gm sort there first part placed rest) counted j e q gi h =
      let all : total (c ∷ cs) ≡ length (leaves c.typ) + total cs = refl in
      let below = below_length d.memories k gm there in
      widen_instance (y + length (leaves c.typ)) (y + length (leaves c.typ) + total cs) y (y + total (c ∷ cs)) j gi (omega arith) (omega (arith, all))
      (instance_at cs (y + length (leaves c.typ)) (k + 1) i rest (omega (arith, below)) j e q gi h)
  instance_at (c ∷ cs) y k i (other_next _ own absent rest) counted j e q gi h =
      let all : total (c ∷ cs) ≡ length (leaves c.typ) + total cs = refl in
      widen_instance (y + length (leaves c.typ)) (y + length (leaves c.typ) + total cs) y (y + total (c ∷ cs)) j gi (omega arith) (omega (arith, all))
      (instance_at cs (y + length (leaves c.typ)) k i rest counted j e q gi h)

  -- A memory likewise.
  pub record MemoryAt (low all l : ℕ) (gm : GroundMemory) : Type 0 where
    pub y : ℕ
    pub i : ℕ
    pub cs : List Component
    pub behind : low ≤ gm.first
    pub within : gm.first ≤ all
    pub next : gm.first ≤ y
    pub rest : StandsFrom texts circuit m d y (l + 1) i cs

  widen_memory : (low all low' all' l : ℕ) (gm : GroundMemory) → low' ≤ low → all ≤ all' → MemoryAt low all l gm → MemoryAt low' all' l gm
  widen_memory low all low' all' l gm a c r =
      let x = r.behind in
      let z = r.within in
      record { y = r.y; i = r.i; cs = r.cs; behind = omega (arith, a, x); within = omega (arith, c, z); next = r.next; rest = r.rest }

  pub memory_at : (cs : List Component) (y k i : ℕ) → StandsFrom texts circuit m d y k i cs → (l e : ℕ) → l ≡ k + e → (gm : GroundMemory) → slice_get d.memories l ≡ Some gm → MemoryAt y (y + total cs) l gm
  memory_at [] y k i (no_component a none b) l e q gm h = none_some (sym (none_later d.memories k l (omega (arith, q)) none) ∙ h)
  memory_at (c ∷ cs) y k i (instance_next _ at target gi makes there first memories part placed rest) l e q gm h =
      let all : total (c ∷ cs) ≡ length (leaves c.typ) + total cs = refl in
      widen_memory (y + length (leaves c.typ)) (y + length (leaves c.typ) + total cs) y (y + total (c ∷ cs)) l gm (omega arith) (omega (arith, all))
      (memory_at cs (y + length (leaves c.typ)) k (i + 1) rest l e q gm h)
  memory_at (c ∷ cs) y k i (memory_next _ at memory other sort there first part placed rest) l zero q gm h =
      let number : k ≡ l = omega (arith, q) in
      let same : other ≡ gm = some_same (sym there ∙ (ap (slice_get d.memories) number ∙ h)) in
      let all : total (c ∷ cs) ≡ length (leaves c.typ) + total cs = refl in
      subst (λ z. MemoryAt y (y + total (c ∷ cs)) z gm) number (subst (λ g. MemoryAt y (y + total (c ∷ cs)) k g) same (record {
        y = y + length (leaves c.typ);
        i = i;
        cs = cs;
        behind = omega (arith, first);
        within = omega (arith, first);
        next = omega (arith, first);
        rest = rest;
      }))
  memory_at (c ∷ cs) y k i (memory_next _ at memory other sort there first part placed rest) l (suc e) q gm h =
      let all : total (c ∷ cs) ≡ length (leaves c.typ) + total cs = refl in
      widen_memory (y + length (leaves c.typ)) (y + length (leaves c.typ) + total cs) y (y + total (c ∷ cs)) l gm (omega arith) (omega (arith, all))
      (memory_at cs (y + length (leaves c.typ)) (k + 1) i rest l e (omega (arith, q)) gm h)
  memory_at (c ∷ cs) y k i (other_next _ own absent rest) l e q gm h =
      let all : total (c ∷ cs) ≡ length (leaves c.typ) + total cs = refl in
      widen_memory (y + length (leaves c.typ)) (y + length (leaves c.typ) + total cs) y (y + total (c ∷ cs)) l gm (omega arith) (omega (arith, all))
      (memory_at cs (y + length (leaves c.typ)) k i rest l e q gm h)

  -- A memory that an instance stands behind begins no later than it.
  pub memory_before : (cs : List Component) (y k i : ℕ) → StandsFrom texts circuit m d y k i cs → k ≤ length d.memories → (j e : ℕ) → j ≡ i + e → (l f : ℕ) → l ≡ k + f → (gi : GroundInstance) (gm : GroundMemory)
      → slice_get d.instances j ≡ Some gi → slice_get d.memories l ≡ Some gm → l < gi.memories → gm.first ≤ gi.first
  memory_before [] y k i (no_component a b none) counted j e q l f p gi gm h g lt = none_some (sym (none_later d.instances i j (omega (arith, q)) none) ∙ h)
  memory_before (c ∷ cs) y k i (instance_next _ at target other makes there first memories part placed rest) counted j zero q l f p gi gm h g lt =
      let number : i ≡ j = omega (arith, q) in
      let same : other.memories ≡ gi.memories = ap (λ (x : GroundInstance). x.memories) (some_same (sym there ∙ (ap (slice_get d.instances) number ∙ h))) in
      absurd (omega (arith, same, memories, p, lt))
  memory_before (c ∷ cs) y k i (instance_next _ at target other makes there first memories part placed rest) counted j (suc e) q l f p gi gm h g lt =
      memory_before cs (y + length (leaves c.typ)) k (i + 1) rest counted j e (omega (arith, q)) l f p gi gm h g lt
  memory_before (c ∷ cs) y k i (memory_next _ at memory other sort there first part placed rest) counted j e q l zero p gi gm h g lt =
      let number : k ≡ l = omega (arith, p) in
      let same : other.first ≡ gm.first = ap (λ (x : GroundMemory). x.first) (some_same (sym there ∙ (ap (slice_get d.memories) number ∙ g))) in
      let below = below_length d.memories k other there in
      let r = (instance_at cs (y + length (leaves c.typ)) (k + 1) i rest (omega (arith, below)) j e q gi h).behind in
      omega (arith, same, first, r)
  memory_before (c ∷ cs) y k i (memory_next _ at memory other sort there first part placed rest) counted j e q l (suc f) p gi gm h g lt =
      let below = below_length d.memories k other there in
      memory_before cs (y + length (leaves c.typ)) (k + 1) i rest (omega (arith, below)) j e q l f (omega (arith, p)) gi gm h g lt
  memory_before (c ∷ cs) y k i (other_next _ own absent rest) counted j e q l f p gi gm h g lt =
      memory_before cs (y + length (leaves c.typ)) k i rest counted j e q l f p gi gm h g lt
