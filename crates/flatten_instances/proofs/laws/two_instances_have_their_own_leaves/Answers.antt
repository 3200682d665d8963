use Rattle.std.proofs.Common.{◌≡◌, ℕ, zero, suc, [], ◌∷◌, Some, refl, subst, slice_get, lit<}
use Rattle.ground_net.specs.declared.circuit.GroundLeaf.{GroundLeaf}
use Rattle.flatten_instances.specs.FlatOrder.{Spot, no_more, an_instance, a_leaf, leaf_spots, spot}
use Rattle.flatten_instances.specs.Numbers.{StandsAt, its_own, of_instance}
use Rattle.flatten_instances.specs.Examples.{two_instances, inner, outer, four_items}
use Rattle.flatten_instances.proofs.Lists.{some_same}
use Rattle.flatten_instances.proofs.laws.two_instances_have_their_own_leaves.Goals as goal

pub returns-clause-order : goal.returns-clause-order
returns-clause-order c = λ port of_i own of_j inside.
    a_leaf port refl refl refl (an_instance _ (inner inside) refl refl (a_leaf inside refl refl refl (no_more refl refl refl))
    (a_leaf own refl refl refl (an_instance _ (inner inside) refl refl (a_leaf inside refl refl refl (no_more refl refl refl)) (no_more refl refl refl))))

module _ (port of_i own of_j inside : GroundLeaf) where
  abbrev Places : ℕ → ℕ → Type 0
  Places y x = (s : Spot) × StandsAt (two_instances port of_i own of_j inside) [] 0 (outer port of_i own of_j) y s × (slice_get (leaf_spots four_items) x ≡ Some s)

  -- where each leaf of main stands
  stands : (y x : ℕ) → slice_get (0 ∷ 1 ∷ 2 ∷ 3 ∷ []) y ≡ Some x → Places y x
  stands zero x e = subst (Places 0) (some_same e) (spot [] 0 0, its_own, refl)
  stands (suc zero) x e = subst (Places 1) (some_same e) (spot (0 ∷ []) 1 0, of_instance {i = 0} 0 _ (inner inside) refl refl (lit< tt), refl)
  stands (suc (suc zero)) x e = subst (Places 2) (some_same e) (spot [] 0 2, its_own, refl)
  stands (suc (suc (suc zero))) x e = subst (Places 3) (some_same e) (spot (1 ∷ []) 1 0, of_instance {i = 1} 0 _ (inner inside) refl refl (lit< tt), refl)
  stands (suc (suc (suc (suc y)))) x e = cc

pub returns-clause-numbers : goal.returns-clause-numbers
returns-clause-numbers c = λ port of_i own of_j inside. record { m = outer port of_i own of_j; there = refl; counted = refl; each = stands port of_i own of_j inside }
