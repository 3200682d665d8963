-- The modules that main reaches: each stands at a path of the circuit, and has its instances and memories in turn.
use Rattle.std.proofs.Common.{◌≡◌, ℕ, zero, suc, ◌+◌, ◌<◌, ◌≤◌, false, List, [], ◌∷◌, ◌++◌, length, Some, option_and_then, refl, sym, ap, ◌∙◌, subst, arith, take}
use Rattle.std.specs.List.{slice_get, sum_by}
use Rattle.fir_types.specs.Leaves.{leaves}
use Rattle.fir_types.specs.Bundles.{instance_of}
use Rattle.fir_types.specs.declared.name.Name.{Name}
use Rattle.fir_tree.specs.declared.circuit.Circuit.{Circuit}
use Rattle.fir_tree.specs.declared.circuit.Module.{Module}
use Rattle.fir_tree.specs.declared.scope.Fitted.{Fitted}
use Rattle.fir_names.specs.Scopes.{Means, Instance, module_names}
use Rattle.fir_tree.specs.LeafNames.{Texts}
use Rattle.fir_meaning.specs.Components.{Design, TypedModule, Component, Sort, An_instance, design_of, modules_of, module_at, module_named, component_named, target_in, typed_ports}
use Rattle.fir_meaning.specs.States.{is_port}
use Rattle.fir_meaning.specs.WellTyped.{HasTypes}
use Rattle.fir_meaning.proofs.Ports.{at_snoc, inside, target_is, target_sort}
use Rattle.circuit_laws.specs.WellFormed.{IsWellFormed}
use Rattle.circuit_laws.proofs.Reached.{reached_is_standing, module_meant, has_number}
use Rattle.circuit_laws.proofs.Instances.{declared_instance}
use Rattle.circuit_laws.proofs.Ranks.{ranked}
use Rattle.ground_net.specs.declared.circuit.GroundCircuit.{GroundCircuit}
use Rattle.ground_net.specs.declared.circuit.DrivenCircuit.{DrivenCircuit}
use Rattle.ground_net.specs.declared.circuit.DrivenModule.{DrivenModule}
use Rattle.ground_net.specs.declared.circuit.GroundInstance.{GroundInstance}
use Rattle.ground_net.specs.declared.circuit.GroundMemory.{GroundMemory}
use Rattle.expand_whens.specs.Expanding.{IsExpanded}
use Rattle.net_of_circuit.specs.Numbers.{leaves_before, instance_parts}
use Rattle.net_of_circuit.specs.Lowering.{IsGroundOf, IsGroundInstance}
use Rattle.flatten_instances.specs.Instances.{Reaches, itself, along, IsInTurn, HasInstances}
use Rattle.net_laws.proofs.Lists.{in_list, below_length, map_at, from_map_at}
use Rattle.net_laws.proofs.Accepted.{ports_first}
use Rattle.lowering_laws.proofs.Heights.{some_same}
use Rattle.lowering_laws.proofs.Parts.{StandsFrom, item, stands_from, instance_place, instance_behind, memory_behind}
use Rattle.lowering_laws.proofs.Matching.{Known, known_at, instance_size, port_size}
use Rattle.lowering_laws.proofs.Turns.{total, total_is, ports_within, ports_before, InstanceAt, instance_at, MemoryAt, memory_at, memory_before}

instance_no_port : (sort : Sort) (target : ℕ) → sort ≡ An_instance target → is_port sort ≡ false
instance_no_port sort target e = ap is_port e

difference : (a b : ℕ) → a ≤ b → (e : ℕ) × (b ≡ a + e)
difference zero b le = (b, omega arith)
difference (suc a) zero le = absurd (omega (arith, le))
difference (suc a) (suc b) le = let r = difference a b (omega (arith, le)) in let q : b ≡ a + r.0 = r.1 in (r.0, omega (arith, q))

module _ (fitted : Fitted) (well : IsWellFormed fitted) (lowered : GroundCircuit) (is : IsGroundOf fitted lowered) (driven : DrivenCircuit) (expanded : IsExpanded lowered driven) where
  abbrev design : Design
  design = design_of fitted

  abbrev circuit : Circuit
  circuit = fitted.checked.resolved

  abbrev texts : Texts
  texts = circuit.names

  -- A module of a number stands at a path.
  record Standing (n : ℕ) : Type 0 where
    names : List ℕ
    holder : Module
    here : slice_get circuit.modules n ≡ Some holder
    m : TypedModule
    d : DrivenModule
    at : module_at design names ≡ Some m
    known : Known fitted well lowered is driven expanded n m d

  modules_counted : length driven.modules ≡ length circuit.modules
  modules_counted = expanded.counted ∙ is.counted

  stand : (names : List ℕ) (name n : ℕ) → Means circuit name n → ((m : TypedModule) → slice_get (modules_of fitted) n ≡ Some m → module_at design names ≡ Some m) → Standing n
  stand names name n means there =
      let called = from_map_at (λ name. name.id) (module_names circuit) n name means.has in
      let holder = from_map_at (λ m. m.name) circuit.modules n called.0 called.1 in
      let m = has_number circuit.modules fitted.declared n holder.0 holder.1 in
      let d = item driven.modules n (subst (λ k. n < k) (sym modules_counted) (below_length circuit.modules n holder.0 holder.1)) in
      record {
        names = names;
        holder = holder.0;
        here = holder.1;
        m = m.0;
        d = d.0;
        at = there m.0 m.1;
        known = known_at fitted well lowered is driven expanded names n m.0 d.0 (there m.0 m.1) m.1 d.1;
      }

  main_stands : Standing driven.main
  main_stands = subst Standing (sym expanded.main)
      (stand [] circuit.main.id lowered.main is.main (λ m e. ap (option_and_then (λ n. Some n)) (module_meant fitted circuit.main.id lowered.main m is.main e)))

  -- What an instance of a standing module makes stands too.
  record Makes (n i : ℕ) (before : Standing n) (gi : GroundInstance) : Type 0 where
    place : ℕ
    c : Component
    target : ℕ
    part : slice_get (instance_parts before.m.components) i ≡ Some (place, c, target)
    there : slice_get before.m.components place ≡ Some c
    sort : c.declaration.sort ≡ An_instance target
    placed : IsGroundInstance texts circuit before.m place c target gi
    child : Standing gi.module
    sized : child.d.ports ≡ length (leaves c.typ)

  part_makes : (n i : ℕ) (before : Standing n) (gi : GroundInstance) → slice_get before.d.instances i ≡ Some gi → (part : ℕ × Component × ℕ) → slice_get (instance_parts before.m.components) i ≡ Some part → Makes n i before gi
  part_makes n i before gi at (place, c, target) part =
      let known = before.known in
      let at_ground : slice_get known.g.instances i ≡ Some gi = ap (λ l. slice_get l i) (sym known.driven_is.instances) ∙ at in
      let placed = known.ground_is.instances i (place, c, target) gi part at_ground in
      let there = instance_place before.m.components i place c target part in
      let sort = target_sort c.declaration.sort target there.1 in
      let declared : component_named before.m c.declaration.name ≡ Some c = well.bundles.names before.names before.m c before.at (in_list before.m.components place c there.0) in
      let child : Standing gi.module = stand (before.names ++ c.declaration.name ∷ []) target gi.module placed.makes (λ x e.
      at_snoc design before.names c.declaration.name
      ∙ (ap (option_and_then (λ y. inside design y c.declaration.name)) before.at
      ∙ (ap (option_and_then (module_named design)) (target_is before.m c target declared sort) ∙ module_meant fitted target gi.module x placed.makes e))) in
      let bundle = well.bundles.instances before.names before.m c target before.at declared sort in
      let same : bundle.0 ≡ child.m = some_same (sym bundle.1 ∙ module_meant fitted target gi.module child.m placed.makes child.known.there) in
      record {
        place = place;
        c = c;
        target = target;
        part = part;
        there = there.0;
        sort = sort;
        placed = placed;
        child = child;
        sized = child.known.driven_is.ports ∙ (child.known.ground_is.ports ∙ (sym (instance_size child.m) ∙ (ap (λ x. length (leaves (instance_of (typed_ports x)))) (sym same) ∙ ap length (sym bundle.2))));
      }

  makes : (n i : ℕ) (before : Standing n) (gi : GroundInstance) → slice_get before.d.instances i ≡ Some gi → Makes n i before gi
  makes n i before gi at =
      let known = before.known in
      let counted : length before.d.instances ≡ length (instance_parts before.m.components) = ap length known.driven_is.instances ∙ known.ground_is.all_instances in
      let part = item (instance_parts before.m.components) i (subst (λ k. i < k) counted (below_length before.d.instances i gi at)) in
      part_makes n i before gi at part.0 part.1

  same_module : (n : ℕ) (s : Standing n) (d : DrivenModule) → slice_get driven.modules n ≡ Some d → s.d ≡ d
  same_module n s d found = some_same (sym s.known.driven_there ∙ found)

  at_same : (n i : ℕ) (s : Standing n) (d : DrivenModule) (gi : GroundInstance) → slice_get driven.modules n ≡ Some d → slice_get d.instances i ≡ Some gi → slice_get s.d.instances i ≡ Some gi
  at_same n i s d gi found at = ap (λ (x : DrivenModule). slice_get x.instances i) (same_module n s d found) ∙ at

  stands : (n : ℕ) → Reaches driven n → Standing n
  stands _ itself = main_stands
  stands _ (along {n} i d gi reached found at) = let before = stands n reached in (makes n i before gi (at_same n i before d gi found at)).child

  -- Ranks

  abbrev ranks : (rank : ℕ → ℕ) × ((k : ℕ) → k < length circuit.modules → rank k < length circuit.modules) × ((from to : ℕ) (target : Name) → Instance circuit from target to → rank to < rank from)
  ranks = ranked circuit well.names

  rank_within : (n : ℕ) → Standing n → ranks.0 n < length driven.modules
  rank_within n s = subst (λ k. ranks.0 n < k) (sym modules_counted) (ranks.1 n (below_length circuit.modules n s.holder s.here))

  rank_falls : (n i : ℕ) (s : Standing n) (gi : GroundInstance) → slice_get s.d.instances i ≡ Some gi → ranks.0 gi.module < ranks.0 n
  rank_falls n i s gi at =
      let made = makes n i s gi at in
      let typed : HasTypes s.holder s.m = well.types n s.holder s.m s.here s.known.there ((reached_is_standing fitted well n s.m s.known.there).1 (s.names, s.at)) in
      let name = declared_instance s.holder made.place made.target made.c.declaration
      (ap (λ l. slice_get l made.place) (sym typed.components) ∙ map_at (λ x. x.declaration) s.m.components made.place made.c made.there) (ap target_in made.sort) in
      ranks.2 n gi.module name.0
      (record { holder = s.holder; here = s.here; stands = name.1; means = subst (λ t. Means circuit t gi.module) (sym name.2) made.placed.makes })

  -- In turn

  module _ (n : ℕ) (s : Standing n) where
    abbrev m : TypedModule
    m = s.m

    abbrev d : DrivenModule
    d = s.d

    whole : StandsFrom texts circuit m d 0 0 0 m.components
    whole = stands_from texts circuit m s.known.g d s.known.ground_is s.known.driven_is m.components [] refl

    leaves_are : length d.leaves ≡ 0 + total m.components
    leaves_are =
        let all : length d.leaves ≡ total m.components = ap length s.known.driven_is.leaves ∙ (s.known.ground_is.counted ∙ sym (total_is m.components)) in
        omega (arith, all)

    ports_are : d.ports ≡ sum_by port_size m.components
    ports_are = s.known.driven_is.ports ∙ s.known.ground_is.ports

    instance : (i : ℕ) (gi : GroundInstance) → slice_get d.instances i ≡ Some gi → InstanceAt texts circuit m d 0 (0 + total m.components) i gi
    instance i gi at = instance_at texts circuit m d m.components 0 0 0 whole (omega arith) i i (omega arith) gi at

    memory : (k : ℕ) (gm : GroundMemory) → slice_get d.memories k ≡ Some gm → MemoryAt texts circuit m d 0 (0 + total m.components) k gm
    memory k gm at = memory_at texts circuit m d m.components 0 0 0 whole k k (omega arith) gm at

    behind_ports : (i : ℕ) (gi : GroundInstance) → slice_get d.instances i ≡ Some gi → d.ports ≤ gi.first
    behind_ports i gi at =
        let made = makes n i s gi at in
        let first = ports_first fitted well s.names m s.at in
        let there : slice_get (first.ports ++ first.others) made.place ≡ Some made.c = ap (λ l. slice_get l made.place) (sym first.are) ∙ made.there in
        let le = ports_before first.ports first.others first.all first.none made.place made.c there (instance_no_port made.c.declaration.sort made.target made.sort) in
        let all : sum_by port_size m.components ≤ leaves_before m made.place = subst (λ l. sum_by port_size l ≤ sum_by (λ c. length (leaves c.typ)) (take made.place l)) (sym first.are) le in
        let ports = ports_are in
        let is_first = made.placed.first in
        omega (arith, all, ports, is_first)

    -- the leaves of an instance are its component's
    sized : (i : ℕ) (gi : GroundInstance) (at : slice_get d.instances i ≡ Some gi) → (makes n i s gi at).child.d.ports ≡ length (leaves (instance i gi at).c.typ)
    sized i gi at =
        let made = makes n i s gi at in
        let same : (made.place, made.c, made.target) ≡ ((instance i gi at).at, (instance i gi at).c, (instance i gi at).target) =
        some_same {A = ℕ × Component × ℕ} (sym made.part ∙ (instance i gi at).part) in
        made.sized ∙ ap (λ x. length (leaves x.1.typ)) same

    child_sized : (i : ℕ) (gi : GroundInstance) (child : DrivenModule) (at : slice_get d.instances i ≡ Some gi) → slice_get driven.modules gi.module ≡ Some child → child.ports ≡ length (leaves (instance i gi at).c.typ)
    child_sized i gi child at found = ap (λ (x : DrivenModule). x.ports) (sym (same_module gi.module (makes n i s gi at).child child found)) ∙ sized i gi at

    in_turn : IsInTurn driven d
    in_turn = record {
      ports = (let a = ports_are in let b = ports_within m.components in let c = leaves_are in omega (arith, a, b, c));
      instances = λ i gi at.
          let a = sized i gi at in
          let b = (instance i gi at).within in
          let c = leaves_are in
          record {
            child = (makes n i s gi at).child.d;
            there = (makes n i s gi at).child.known.driven_there;
            behind = behind_ports i gi at;
            within = omega (arith, a, b, c);
            memories = (instance i gi at).memories;
          };
      next_instances = λ i gi next child at at_next found.
          let a = child_sized i gi child at found in
          let r = instance_behind (instance i gi at).rest next at_next in
          let b = r.0 in
          (omega (arith, a, b), r.1);
      memories = λ k gm at. let a = (memory k gm at).within in let b = leaves_are in omega (arith, a, b);
      next_memories = λ k gm next at at_next. let r = memory k gm at in let a = r.next in let b = memory_behind r.rest next at_next in omega (arith, a, b);
      memories_before = λ i k gi gm at at_memory lt. memory_before texts circuit m d m.components 0 0 0 whole (omega arith) i i (omega arith) k k (omega arith) gi gm at at_memory lt;
      memories_behind = λ i k gi child gm at found at_memory le.
          let a = child_sized i gi child at found in
          let r = instance i gi at in
          let b = (behind_memory gi gm k (gi.first + length (leaves r.c.typ)) (i + 1) r.cs r.rest le at_memory) in
          omega (arith, a, b);
    } where
      behind_memory : (gi : GroundInstance) (gm : GroundMemory) (k y i : ℕ) (cs : List Component) → StandsFrom texts circuit m d y gi.memories i cs → gi.memories ≤ k → slice_get d.memories k ≡ Some gm → y ≤ gm.first
      behind_memory gi gm k y i cs rest le at =
          let e = difference gi.memories k le in
          (memory_at texts circuit m d cs y gi.memories i rest k e.0 e.1 gm at).behind

  pub has_instances : HasInstances driven
  has_instances = record {
    main = main_stands.d;
    found = main_stands.known.driven_there;
    rank = ranks.0;
    ranked = λ n reached. rank_within n (stands n reached);
    falls = λ n i d gi reached found at. rank_falls n i (stands n reached) gi (at_same n i (stands n reached) d gi found at);
    in_turn = λ n d reached found. subst (IsInTurn driven) (same_module n (stands n reached) d found) (in_turn n (stands n reached));
  }
