-- The steps of a walk through a module.
use Rattle.std.proofs.Common.{◌≡◌, ℕ, ◌+◌, ◌-◌, ◌<◌, ◌≤◌, ◌≢◌, Bool, true, false, length, refl, sym, ◌∙◌, subst, arith, nat_lt, Some, None, slice_get}
use Rattle.std.proofs.lemmas.Bool.Decides.{nat_tests}
use Rattle.ground_net.specs.declared.circuit.DrivenCircuit.{DrivenCircuit}
use Rattle.ground_net.specs.declared.circuit.DrivenModule.{DrivenModule}
use Rattle.ground_net.specs.declared.circuit.GroundInstance.{GroundInstance}
use Rattle.ground_net.specs.declared.circuit.GroundMemory.{GroundMemory}
use Rattle.flatten_instances.specs.Instances.{IsInTurn}
use Rattle.flatten_instances.specs.FlatOrder.{instance_here, memory_here}
use Rattle.flatten_instances.specs.Plans.{IsFair}
use Rattle.flatten_instances.proofs.Lists.{some_same, get_there}
use Rattle.flatten_instances.proofs.Orders.{is_here, not_here, is_memory_here, no_memory_here}

-- Nothing is left out

pub fair_first : (driven : DrivenCircuit) (m : DrivenModule) → IsFair m 0 0 0
fair_first driven m = record { within = omega arith; memory = λ memory e. omega arith; instance = λ gi e. (omega arith, omega arith) }

module _ (driven : DrivenCircuit) (m : DrivenModule) (turn : IsInTurn driven m) where
  -- an instance that doesn't stand next stands behind
  pub passed : (y k i : ℕ) (gi : GroundInstance) → IsFair m y k i → slice_get m.instances i ≡ Some gi → instance_here m y k i ≡ None → memory_here m y k ≡ None → y ≢ gi.first
  passed y k i gi fair there none none' e =
      let h = fair.instance gi there in
      let memories : gi.memories ≤ length m.memories = (turn.instances i gi there).memories in
      let other : k ≢ gi.memories = λ f. not_here m y k i gi none there (sym e) (sym f) in
      let less : k < gi.memories = omega (arith, h.1, other) in
      let mine = get_there m.memories k (omega (arith, less, memories)) in
      let before : mine.0.first ≤ gi.first = turn.memories_before i k gi mine.0 there mine.1 less in
      no_memory_here m y k mine.0 none' mine.1 (omega (arith, before, e, fair.memory mine.0 mine.1))

  -- a leaf stands next, where something is left and nothing else stands next
  pub leaf_is_there : (y k i : ℕ) → IsFair m y k i → instance_here m y k i ≡ None → memory_here m y k ≡ None
      → 0 < (length m.leaves - y) + ((length m.memories - k) + (length m.instances - i)) → y < length m.leaves
  leaf_is_there y k i fair none none' more = by (nat_lt y (length m.leaves)) refl
    where
      above : (a b : ℕ) → nat_lt a b ≡ false → b ≤ a
      above a b e = grind (arith, nat_tests)

      below : (a b : ℕ) → nat_lt a b ≡ true → a < b
      below a b e = grind (arith, nat_tests)

      no_memory : length m.leaves ≤ y → k < length m.memories → ⊥
      no_memory end lt =
          let mine = get_there m.memories k lt in
          no_memory_here m y k mine.0 none' mine.1 (omega (arith, end, fair.memory mine.0 mine.1, turn.memories k mine.0 mine.1))

      no_instance : length m.leaves ≤ y → i < length m.instances → ⊥
      no_instance end lt =
          let mine = get_there m.instances i lt in
          passed y k i mine.0 fair mine.1 none none' (omega (arith, end, (fair.instance mine.0 mine.1).0, (turn.instances i mine.0 mine.1).within))

      by : (b : Bool) → nat_lt y (length m.leaves) ≡ b → y < length m.leaves
      by true e = below y (length m.leaves) e
      by false e =
          let end : length m.leaves ≤ y = above y (length m.leaves) e in
          let no_more_memories : length m.memories ≤ k = not_below (length m.memories) k (no_memory end) in
          let no_more_instances : length m.instances ≤ i = not_below (length m.instances) i (no_instance end) in
          absurd (omega (arith, end, no_more_memories, no_more_instances, more))
        where
          not_below : (a b : ℕ) → (b < a → ⊥) → a ≤ b
          not_below a b f = omega (arith, f)

  pub fair_leaf : (y k i : ℕ) → IsFair m y k i → instance_here m y k i ≡ None → memory_here m y k ≡ None → y < length m.leaves → IsFair m (y + 1) k i
  fair_leaf y k i fair none none' lt = record {
    within = omega (arith, lt);
    memory = λ memory e. let other : y ≢ memory.first = λ f. no_memory_here m y k memory none' e (sym f) in omega (arith, fair.memory memory e, other);
    instance = λ gi e. let other : y ≢ gi.first = passed y k i gi fair e none none' in (omega (arith, (fair.instance gi e).0, other), (fair.instance gi e).1);
  }

  pub fair_memory : (y k i : ℕ) (memory : GroundMemory) → IsFair m y k i → instance_here m y k i ≡ None → memory_here m y k ≡ Some memory → IsFair m y (k + 1) i
  fair_memory y k i memory fair none here =
      let mine = is_memory_here m y k memory here in
      record {
        within = fair.within;
        memory = λ next e. omega (arith, mine.1, turn.next_memories k memory next mine.0 e);
        instance = λ gi e. ((fair.instance gi e).0, more gi e mine.0 mine.1);
      }
    where
      more : (gi : GroundInstance) → slice_get m.instances i ≡ Some gi → slice_get m.memories k ≡ Some memory → memory.first ≡ y → k + 1 ≤ gi.memories
      more gi e there first =
          let h = fair.instance gi e in
          let place = turn.instances i gi e in
          let other : k ≢ gi.memories = λ f.
          let behind : gi.first + place.child.ports ≤ memory.first = turn.memories_behind i k gi place.child memory e place.there there (omega (arith, f)) in
          not_here m y k i gi none e (omega (arith, behind, first, h.0)) (sym f) in
          omega (arith, h.1, other)

  pub fair_instance : (y k i : ℕ) (gi : GroundInstance) (child : DrivenModule) → IsFair m y k i → instance_here m y k i ≡ Some gi → slice_get driven.modules gi.module ≡ Some child → IsFair m (y + child.ports) k (i + 1)
  fair_instance y k i gi child fair here found =
      let mine = is_here m y k i gi here in
      let place = turn.instances i gi mine.there in
      let same : place.child ≡ child = some_same (sym place.there ∙ found) in
      let within : gi.first + child.ports ≤ length m.leaves = subst (λ (c : DrivenModule). gi.first + c.ports ≤ length m.leaves) same place.within in
      record {
        within = omega (arith, within, mine.first);
        memory = λ memory e. let behind : gi.first + child.ports ≤ memory.first = turn.memories_behind i k gi child memory mine.there found e (omega (arith, mine.memories)) in omega (arith, behind, mine.first);
        instance = λ next e. let h = turn.next_instances i gi next child mine.there e found in (omega (arith, h.0, mine.first), omega (arith, h.1, mine.memories));
      }
