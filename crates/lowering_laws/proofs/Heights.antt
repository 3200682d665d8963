-- The steps of a flat order, and how high an order is.
use Rattle.std.proofs.Common.{◌≡◌, ℕ, suc, ◌+◌, ◌<◌, ◌≤◌, max, List, [], ◌∷◌, ◌++◌, Some, None, option_and_then, refl, sym, ap, ◌∙◌, subst, arith}
use Rattle.std.specs.List.{slice_get}
use Rattle.std.proofs.lemmas.Grind.{common_steps}
use Rattle.ground_net.specs.declared.circuit.DrivenCircuit.{DrivenCircuit}
use Rattle.ground_net.specs.declared.circuit.DrivenModule.{DrivenModule}
use Rattle.ground_net.specs.declared.circuit.GroundInstance.{GroundInstance}
use Rattle.ground_net.specs.declared.circuit.GroundMemory.{GroundMemory}
use Rattle.ground_net.specs.declared.circuit.GroundLeaf.{GroundLeaf}
use Rattle.flatten_instances.specs.FlatOrder.{Item, A_leaf, A_memory, spot, instance_here, memory_here, InFlatOrder, no_more, an_instance, a_memory, a_leaf}

pub some_same : {A : Type 0} {x y : A} → Some x ≡ Some y → x ≡ y
some_same e = cc

pub none_some : {A B : Type 0} {x : A} → None ≡ Some x → B
none_some e = absurd cc

abbrev pub height : {driven : DrivenCircuit} {path : List ℕ} {n y k i : ℕ} {m : DrivenModule} {items : List Item} → InFlatOrder driven path n m y k i items → ℕ
height (no_more e f g) = 0
height (an_instance gi child here found own rest) = suc (max (height own) (height rest))
height (a_memory memory absent here rest) = suc (height rest)
height (a_leaf leaf absent none there rest) = suc (height rest)

pub record TakesInstance (driven : DrivenCircuit) (path : List ℕ) (n : ℕ) (m : DrivenModule) (y k i : ℕ) (gi : GroundInstance) (items : List Item) (high : ℕ) : Type 0 where
  pub child : DrivenModule
  pub found : slice_get driven.modules gi.module ≡ Some child
  pub own : List Item
  pub rest : List Item
  pub are : items ≡ own ++ rest
  pub inner : InFlatOrder driven (i ∷ path) gi.module child 0 0 0 own
  pub onward : InFlatOrder driven path n m (y + child.ports) k (i + 1) rest
  pub inner_high : height inner < high
  pub onward_high : height onward ≤ high

no_instance : {B : Type 0} (m : DrivenModule) (y k i : ℕ) {gi : GroundInstance} → slice_get m.instances i ≡ None → instance_here m y k i ≡ Some gi → B
no_instance m y k i e here = none_some (sym (ap (option_and_then _) e) ∙ here)

no_memory : {B : Type 0} (m : DrivenModule) (y k : ℕ) {memory : GroundMemory} → slice_get m.memories k ≡ None → memory_here m y k ≡ Some memory → B
no_memory m y k e here = none_some (sym (ap (option_and_then _) e) ∙ here)

pub takes_instance : {driven : DrivenCircuit} {path : List ℕ} {n y k i : ℕ} {m : DrivenModule} {items : List Item} (gi : GroundInstance) → instance_here m y k i ≡ Some gi → (o : InFlatOrder driven path n m y k i items)
    → TakesInstance driven path n m y k i gi items (height o)
takes_instance {y = y} {k = k} {i = i} {m = m} gi here (no_more e f g) = no_instance m y k i g here
takes_instance {driven} {path} {i = i} {m = m} gi here (an_instance {own = own} {rest = rest} other child at found inner onward) =
    let same : other ≡ gi = some_same (sym at ∙ here) in
    let moved : (inner' : InFlatOrder driven (i ∷ path) gi.module child 0 0 0 own) × (height inner' ≡ height inner) = move other gi same inner in
    record {
      child = child;
      found = ap (λ g. slice_get driven.modules g.module) (sym same) ∙ found;
      own = own;
      rest = rest;
      are = refl;
      inner = moved.0;
      onward = onward;
      inner_high = let h : height moved.0 ≡ height inner = moved.1 in grind (arith, common_steps, h);
      onward_high = grind (arith, common_steps);
    }
  where
    move : (a b : GroundInstance) → a ≡ b → (o : InFlatOrder driven (i ∷ path) a.module child 0 0 0 own) → (p : InFlatOrder driven (i ∷ path) b.module child 0 0 0 own) × (height p ≡ height o)
    move a b e o = subst (λ (g : GroundInstance). (p : InFlatOrder driven (i ∷ path) g.module child 0 0 0 own) × (height p ≡ height o)) e (o, refl)
takes_instance gi here (a_memory memory absent at rest) = none_some (sym absent ∙ here)
takes_instance gi here (a_leaf leaf absent none there rest) = none_some (sym absent ∙ here)

pub record TakesMemory (driven : DrivenCircuit) (path : List ℕ) (n : ℕ) (m : DrivenModule) (y k i : ℕ) (items : List Item) (high : ℕ) : Type 0 where
  pub rest : List Item
  pub are : items ≡ A_memory (spot path n k) ∷ rest
  pub onward : InFlatOrder driven path n m y (k + 1) i rest
  pub onward_high : height onward ≤ high

pub takes_memory : {driven : DrivenCircuit} {path : List ℕ} {n y k i : ℕ} {m : DrivenModule} {items : List Item} (memory : GroundMemory) → instance_here m y k i ≡ None → memory_here m y k ≡ Some memory
    → (o : InFlatOrder driven path n m y k i items) → TakesMemory driven path n m y k i items (height o)
takes_memory {y = y} {k = k} {m = m} memory absent here (no_more e f g) = no_memory m y k f here
takes_memory memory absent here (an_instance gi child at found inner onward) = none_some (sym absent ∙ at)
takes_memory memory absent here (a_memory {rest = items} other absent2 at rest) = record { rest = items; are = refl; onward = rest; onward_high = grind (arith, common_steps) }
takes_memory memory absent here (a_leaf leaf absent2 none there rest) = none_some (sym none ∙ here)

pub record TakesLeaf (driven : DrivenCircuit) (path : List ℕ) (n : ℕ) (m : DrivenModule) (y k i : ℕ) (items : List Item) (high : ℕ) : Type 0 where
  pub rest : List Item
  pub are : items ≡ A_leaf (spot path n y) ∷ rest
  pub onward : InFlatOrder driven path n m (y + 1) k i rest
  pub onward_high : height onward ≤ high

pub takes_leaf : {driven : DrivenCircuit} {path : List ℕ} {n y k i : ℕ} {m : DrivenModule} {items : List Item} (leaf : GroundLeaf) → instance_here m y k i ≡ None → memory_here m y k ≡ None
    → slice_get m.leaves y ≡ Some leaf → (o : InFlatOrder driven path n m y k i items) → TakesLeaf driven path n m y k i items (height o)
takes_leaf leaf absent none there (no_more e f g) = none_some (sym e ∙ there)
takes_leaf leaf absent none there (an_instance gi child at found inner onward) = none_some (sym absent ∙ at)
takes_leaf leaf absent none there (a_memory other absent2 at rest) = none_some (sym none ∙ at)
takes_leaf leaf absent none there (a_leaf {rest = items} other absent2 none2 there2 rest) = record { rest = items; are = refl; onward = rest; onward_high = grind (arith, common_steps) }

-- Behind all of it nothing is left.
pub takes_nothing : {driven : DrivenCircuit} {path : List ℕ} {n y k i : ℕ} {m : DrivenModule} {items : List Item} → slice_get m.instances i ≡ None → slice_get m.memories k ≡ None → slice_get m.leaves y ≡ None
    → InFlatOrder driven path n m y k i items → items ≡ []
takes_nothing a b c (no_more e f g) = refl
takes_nothing {y = y} {k = k} {i = i} {m = m} a b c (an_instance gi child at found inner onward) = no_instance m y k i a at
takes_nothing {y = y} {k = k} {m = m} a b c (a_memory other absent at rest) = no_memory m y k b at
takes_nothing a b c (a_leaf other absent none there rest) = none_some (sym c ∙ there)
