-- Flat orders.
use Rattle.std.proofs.Common.{◌≡◌, ℕ, zero, suc, ◌+◌, ◌<◌, ◌&&◌, Bool, true, false, List, [], ◌∷◌, ◌++◌, length, refl, sym, ap, ◌∙◌, subst, arith, Option, Some, None, slice_get, cond}
use Rattle.std.specs.Prelude.{nat_eq, option_and_then}
use Rattle.std.proofs.lemmas.Bool.Decides.{nat_tests}
use Rattle.std.proofs.lemmas.List.Elements.{filter_map-append}
use Rattle.ground_net.specs.declared.circuit.DrivenCircuit.{DrivenCircuit}
use Rattle.ground_net.specs.declared.circuit.DrivenModule.{DrivenModule}
use Rattle.ground_net.specs.declared.circuit.GroundInstance.{GroundInstance}
use Rattle.ground_net.specs.declared.circuit.GroundMemory.{GroundMemory}
use Rattle.flatten_instances.specs.Instances.{IsInTurn}
use Rattle.flatten_instances.specs.FlatOrder.{spot, Item, A_leaf, A_memory, instance_here, memory_here, InFlatOrder, no_more, an_instance, a_memory, a_leaf, leaf_in, leaf_spots, memories_from}
use Rattle.flatten_instances.proofs.Lists.{some_same, get_none}

-- tests

both_hold : (y a k b : ℕ) → nat_eq a y && nat_eq b k ≡ true → (a ≡ y) × (b ≡ k)
both_hold y a k b e = (grind (arith, nat_tests), grind (arith, nat_tests))

not_both : (y a k b : ℕ) → nat_eq a y && nat_eq b k ≡ false → a ≡ y → b ≡ k → ⊥
not_both y a k b e f g = grind (arith, nat_tests)

chosen_at : {A : Type 0} (b : Bool) (x y : A) → cond b (Some x) None ≡ Some y → (b ≡ true) × (x ≡ y)
chosen_at true x y e = (refl, some_same e)
chosen_at false x y e = cc

refused_at : {A : Type 0} (b : Bool) (x : A) → cond b (Some x) None ≡ None → b ≡ false
refused_at true x e = cc
refused_at false x e = refl

-- an instance that stands next is there, at this place
pub record Here (m : DrivenModule) (y k i : ℕ) (gi : GroundInstance) : Type 0 where
  pub there : slice_get m.instances i ≡ Some gi
  pub first : gi.first ≡ y
  pub memories : gi.memories ≡ k

pub is_here : (m : DrivenModule) (y k i : ℕ) (gi : GroundInstance) → instance_here m y k i ≡ Some gi → Here m y k i gi
is_here m y k i gi e = by (slice_get m.instances i) refl e
  where
    by : (o : Option GroundInstance) → slice_get m.instances i ≡ o → option_and_then (λ (g : GroundInstance). cond (nat_eq g.first y && nat_eq g.memories k) (Some g) None) o ≡ Some gi → Here m y k i gi
    by None h f = cc
    by (Some g) h f =
        let c = chosen_at (nat_eq g.first y && nat_eq g.memories k) g gi f in
        let p = both_hold y g.first k g.memories c.0 in
        record { there = h ∙ ap (λ z. Some z) c.1; first = ap (λ (z : GroundInstance). z.first) (sym c.1) ∙ p.0; memories = ap (λ (z : GroundInstance). z.memories) (sym c.1) ∙ p.1 }

pub not_here : (m : DrivenModule) (y k i : ℕ) (gi : GroundInstance) → instance_here m y k i ≡ None → slice_get m.instances i ≡ Some gi → gi.first ≡ y → gi.memories ≡ k → ⊥
not_here m y k i gi e there f g =
    let h : cond (nat_eq gi.first y && nat_eq gi.memories k) (Some gi) None ≡ None = subst (λ o. option_and_then (λ (g : GroundInstance). cond (nat_eq g.first y && nat_eq g.memories k) (Some g) None) o ≡ None) there e in
    not_both y gi.first k gi.memories (refused_at (nat_eq gi.first y && nat_eq gi.memories k) gi h) f g

pub is_memory_here : (m : DrivenModule) (y k : ℕ) (memory : GroundMemory) → memory_here m y k ≡ Some memory → (slice_get m.memories k ≡ Some memory) × (memory.first ≡ y)
is_memory_here m y k memory e = by (slice_get m.memories k) refl e
  where
    same : (a b : ℕ) → nat_eq a b ≡ true → a ≡ b
    same a b h = grind (arith, nat_tests)

    by : (o : Option GroundMemory) → slice_get m.memories k ≡ o → option_and_then (λ (g : GroundMemory). cond (nat_eq g.first y) (Some g) None) o ≡ Some memory → (slice_get m.memories k ≡ Some memory) × (memory.first ≡ y)
    by None h f = cc
    by (Some g) h f =
        let c = chosen_at (nat_eq g.first y) g memory f in
        (h ∙ ap (λ z. Some z) c.1, ap (λ (z : GroundMemory). z.first) (sym c.1) ∙ same g.first y c.0)

pub no_memory_here : (m : DrivenModule) (y k : ℕ) (memory : GroundMemory) → memory_here m y k ≡ None → slice_get m.memories k ≡ Some memory → memory.first ≡ y → ⊥
no_memory_here m y k memory e there f =
    let h : cond (nat_eq memory.first y) (Some memory) None ≡ None = subst (λ o. option_and_then (λ (g : GroundMemory). cond (nat_eq g.first y) (Some g) None) o ≡ None) there e in
    differs memory.first y (refused_at (nat_eq memory.first y) memory h) f
  where
    differs : (a b : ℕ) → nat_eq a b ≡ false → a ≡ b → ⊥
    differs a b h g = grind (arith, nat_tests)

-- lists of items

pub leaf_spots-append : (xs ys : List Item) → leaf_spots (xs ++ ys) ≡ leaf_spots xs ++ leaf_spots ys
leaf_spots-append xs ys = filter_map-append leaf_in xs ys

pub memories_from-append : (n : ℕ) (xs ys : List Item) → memories_from n (xs ++ ys) ≡ memories_from n xs ++ memories_from (n + length (leaf_spots xs)) ys
memories_from-append n [] ys = let e : n ≡ n + 0 = omega arith in ap (λ k. memories_from k ys) e
memories_from-append n (A_leaf s ∷ xs) ys =
    let e : n + 1 + length (leaf_spots xs) ≡ n + suc (length (leaf_spots xs)) = omega arith in
    memories_from-append (n + 1) xs ys ∙ ap (λ k. memories_from (n + 1) xs ++ memories_from k ys) e
memories_from-append n (A_memory s ∷ xs) ys = ap (λ l. (n, s) ∷ l) (memories_from-append n xs ys)

-- the leaves of a module's ports come first
pub ports_come_first : {driven : DrivenCircuit} {path : List ℕ} {n y k i : ℕ} {m : DrivenModule} {items : List Item} → IsInTurn driven m → InFlatOrder driven path n m y k i items
    → (j : ℕ) → y + j < m.ports → slice_get (leaf_spots items) j ≡ Some (spot path n (y + j))
ports_come_first {y = y} {m = m} turn (no_more e f g) j below = absurd (omega (arith, get_none m.leaves y e, turn.ports))
ports_come_first {y = y} {k = k} {i = i} {m = m} turn (an_instance gi child here found own rest) j below =
    let h = is_here m y k i gi here in
    absurd (omega (arith, (turn.instances i gi h.there).behind, h.first))
ports_come_first turn (a_memory memory f here rest) j below = ports_come_first turn rest j below
ports_come_first {path = path} {n = n} {y = y} turn (a_leaf leaf f g there rest) zero below = let e : y ≡ y + 0 = omega arith in ap (λ z. Some (spot path n z)) e
ports_come_first {path = path} {n = n} {y = y} turn (a_leaf leaf f g there rest) (suc j) below =
    let e : y + 1 + j ≡ y + suc j = omega arith in
    ports_come_first turn rest j (omega arith) ∙ ap (λ z. Some (spot path n z)) e
