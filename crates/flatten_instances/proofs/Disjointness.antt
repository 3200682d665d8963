-- The leaves of an instance are no leaves of its holder's own.
use Rattle.std.proofs.Common.{◌≡◌, ◌≢◌, ℕ, zero, suc, ◌+◌, ◌-◌, ◌<◌, ◌≤◌, ⊎_elim, Bool, true, false, List, [], ◌∷◌, ◌++◌, length, nat_lt, refl, sym, ap, ◌∙◌, subst, arith, Some, None, slice_get}
use Rattle.std.proofs.lemmas.Bool.Decides.{nat_tests}
use Rattle.std.proofs.lemmas.Option.{slice_get_within}
use Rattle.ground_net.specs.declared.circuit.DrivenCircuit.{DrivenCircuit}
use Rattle.ground_net.specs.declared.circuit.DrivenModule.{DrivenModule}
use Rattle.ground_net.specs.declared.circuit.GroundInstance.{GroundInstance}
use Rattle.flatten_instances.specs.Instances.{IsInTurn}
use Rattle.flatten_instances.specs.FlatOrder.{Spot, spot, Item, instance_here, memory_here, InFlatOrder, no_more, an_instance, a_memory, a_leaf, leaf_spots}
use Rattle.flatten_instances.specs.Plans.{IsSound, IsFair}
use Rattle.flatten_instances.proofs.Lists.{some_same, get_split, get_there}
use Rattle.flatten_instances.proofs.Orders.{is_here, is_memory_here, leaf_spots-append}
use Rattle.flatten_instances.proofs.Walking.{fair_first, fair_leaf, fair_memory, fair_instance, passed}
use Rattle.flatten_instances.proofs.Visiting.{sound_below, sound_in_turn}

-- instances stand in their order
first_rises : (driven : DrivenCircuit) (m : DrivenModule) → IsInTurn driven m → (i d : ℕ) (gi later : GroundInstance) → slice_get m.instances i ≡ Some gi → slice_get m.instances (i + d) ≡ Some later → gi.first ≤ later.first
first_rises driven m turn i zero gi later e f =
    let z : i + 0 ≡ i = omega arith in
    let same : gi ≡ later = some_same (sym e ∙ (ap (slice_get m.instances) (sym z) ∙ f)) in
    let first : gi.first ≡ later.first = ap (λ (g : GroundInstance). g.first) same in
    omega (arith, first)
first_rises driven m turn i (suc d) gi later e f =
    let z : i + suc d ≡ (i + d) + 1 = omega arith in
    let f' : slice_get m.instances ((i + d) + 1) ≡ Some later = ap (slice_get m.instances) (sym z) ∙ f in
    let before = get_there m.instances (i + d) (omega (arith, slice_get_within m.instances ((i + d) + 1) later f')) in
    let place = turn.instances (i + d) before.0 before.1 in
    let h = turn.next_instances (i + d) before.0 later place.child before.1 f' place.there in
    omega (arith, h.0, first_rises driven m turn i d gi before.0 e before.1)

-- an instance and a later one
instances_apart : (driven : DrivenCircuit) (m : DrivenModule) → IsInTurn driven m → (i j : ℕ) (gi later : GroundInstance) (child : DrivenModule) → i < j → slice_get m.instances i ≡ Some gi
    → slice_get m.instances j ≡ Some later → slice_get driven.modules gi.module ≡ Some child → gi.first + child.ports ≤ later.first
instances_apart driven m turn i j gi later child lt e f there =
    let next = get_there m.instances (i + 1) (omega (arith, lt, slice_get_within m.instances j later f)) in
    let z : (i + 1) + (j - (i + 1)) ≡ j = omega (arith, lt) in
    let h = turn.next_instances i gi next.0 child e next.1 there in
    omega (arith, h.0, first_rises driven m turn (i + 1) (j - (i + 1)) next.0 later next.1 (ap (slice_get m.instances) z ∙ f))

-- what the instances before a place leave behind
abbrev Behind : DrivenCircuit → DrivenModule → ℕ → ℕ → Type 0
Behind driven m y i = (j : ℕ) (gi : GroundInstance) (child : DrivenModule) → j < i → slice_get m.instances j ≡ Some gi → slice_get driven.modules gi.module ≡ Some child → gi.first + child.ports ≤ y

-- a leaf is no leaf of an instance of its module
abbrev pub IsOwn : DrivenCircuit → Spot → Type 0
IsOwn driven s = (m : DrivenModule) (i j : ℕ) (gi : GroundInstance) (child : DrivenModule) → slice_get driven.modules s.within ≡ Some m → slice_get m.instances i ≡ Some gi → slice_get driven.modules gi.module ≡ Some child
    → j < child.ports → s.number ≢ gi.first + j

below : (a b : ℕ) → nat_lt a b ≡ true → a < b
below a b e = grind (arith, nat_tests)

above : (a b : ℕ) → nat_lt a b ≡ false → b ≤ a
above a b e = grind (arith, nat_tests)

module _ (driven : DrivenCircuit) where
  -- the leaf that is taken next
  own_here : (path : List ℕ) (n y k i : ℕ) (m : DrivenModule) → slice_get driven.modules n ≡ Some m → IsInTurn driven m → IsFair m y k i → Behind driven m y i → instance_here m y k i ≡ None → memory_here m y k ≡ None
      → IsOwn driven (spot path n y)
  own_here path n y k i m found turn fair behind none none' m' i' j gi child found' there child_there lt is =
      let same : m' ≡ m = some_same (sym found' ∙ found) in
      by (ap (λ (x : DrivenModule). slice_get x.instances i') (sym same) ∙ there) (nat_lt i' i) refl
    where
      by : slice_get m.instances i' ≡ Some gi → (b : Bool) → nat_lt i' i ≡ b → ⊥
      by at true e = omega (arith, behind i' gi child (below i' i e) at child_there, lt, is)
      by at false e =
          let le : i ≤ i' = above i' i e in
          let mine = get_there m.instances i (omega (arith, le, slice_get_within m.instances i' gi at)) in
          let z : i + (i' - i) ≡ i' = omega (arith, le) in
          let rises : mine.0.first ≤ gi.first = first_rises driven m turn i (i' - i) mine.0 gi mine.1 (ap (slice_get m.instances) z ∙ at) in
          let other : y ≢ mine.0.first = passed driven m turn y k i mine.0 fair mine.1 none none' in
          omega (arith, rises, other, (fair.instance mine.0 mine.1).0, is)

  behind_more : (y i : ℕ) (m : DrivenModule) (gi : GroundInstance) (child : DrivenModule) → Behind driven m y i → slice_get m.instances i ≡ Some gi → slice_get driven.modules gi.module ≡ Some child → gi.first ≡ y
      → Behind driven m (y + child.ports) (i + 1)
  behind_more y i m gi child h there found first j gj other lt at found' = by (nat_lt j i) refl
    where
      by : (b : Bool) → nat_lt j i ≡ b → gj.first + other.ports ≤ y + child.ports
      by true e = omega (arith, h j gj other (below j i e) at found')
      by false e =
          let z : j ≡ i = omega (arith, above j i e, lt) in
          let same : gj ≡ gi = some_same (sym at ∙ (ap (slice_get m.instances) z ∙ there)) in
          let ports : other.ports ≡ child.ports = ap (λ (x : DrivenModule). x.ports) (some_same (sym found' ∙ (ap (λ (g : GroundInstance). slice_get driven.modules g.module) same ∙ found))) in
          let firsts : gj.first ≡ gi.first = ap (λ (g : GroundInstance). g.first) same in
          omega (arith, ports, firsts, first)

  pub all_own : {path : List ℕ} {n y k i left : ℕ} {m : DrivenModule} {items : List Item} → IsSound driven n left → slice_get driven.modules n ≡ Some m → IsFair m y k i → Behind driven m y i → InFlatOrder driven path n m y k i items
      → (a : ℕ) (s : Spot) → slice_get (leaf_spots items) a ≡ Some s → IsOwn driven s
  all_own sound found fair behind (no_more e f g) a s at = cc
  all_own {n = n} {y = y} {k = k} {i = i} {left = left} {m = m} sound found fair behind (an_instance {own = own} {rest = rest} gi child here there inner more) a s at =
      let turn = sound_in_turn driven n left m sound found in
      let mine = is_here m y k i gi here in
      ⊎_elim
      (λ e. all_own (sound_below driven n left i m gi sound found mine.there) there (fair_first driven child) (λ j gj other lt. absurd (omega arith)) inner a s e)
      (λ r. all_own sound found (fair_instance driven m turn y k i gi child fair here there) (behind_more y i m gi child behind mine.there there mine.first) more r.0 s r.2)
      (get_split (leaf_spots own) (leaf_spots rest) a s (ap (λ l. slice_get l a) (sym (leaf_spots-append own rest)) ∙ at))
  all_own {n = n} {y = y} {k = k} {i = i} {left = left} {m = m} sound found fair behind (a_memory memory none here more) a s at =
      all_own sound found (fair_memory driven m (sound_in_turn driven n left m sound found) y k i memory fair none here) behind more a s at
  all_own {path = path} {n = n} {y = y} {k = k} {i = i} {left = left} {m = m} sound found fair behind (a_leaf leaf none none' there more) zero s at =
      subst (IsOwn driven) (some_same at) (own_here path n y k i m found (sound_in_turn driven n left m sound found) fair behind none none')
  all_own {n = n} {y = y} {k = k} {i = i} {left = left} {m = m} sound found fair behind (a_leaf leaf none none' there more) (suc a) s at =
      all_own sound found (fair_leaf driven m (sound_in_turn driven n left m sound found) y k i fair none none' (slice_get_within m.leaves y leaf there)) (λ j gi child lt e f. omega (arith, behind j gi child lt e f)) more a s at
