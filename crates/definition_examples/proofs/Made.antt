-- What the edge takes for a register's leaf is what the leaf is made of.
use Rattle.std.proofs.Common.{◌≡◌, ℕ, true, false, List, Some, None, option_and_then, refl, sym, ap, ◌∙◌, subst, true≢false}
use Rattle.std.specs.Prelude.{Contains}
use Rattle.fir_types.specs.declared.leaf.TypeLeaf.{TypeLeaf}
use Rattle.fir_types.specs.declared.leaf.PathStep.{PathStep}
use Rattle.fir_meaning.specs.Components.{Design, TypedModule, Component, Leaf, FlatLeaf, Sort, An_input, An_output, A_wire, A_register, A_reset_register, A_memory, An_instance, A_node, flat, flat_through, type_in, module_at, component_named, target_in}
use Rattle.fir_meaning.specs.Mentions.{joined, mentions, whole_region}
use Rattle.fir_meaning.specs.Loops.{live, driven_from, TakesFrom, by_live_connect, by_reset, by_init, by_write, by_read}
use Rattle.fir_meaning.specs.States.{Stands, leaf_of, is_register}
use Rattle.fir_meaning.proofs.Settling.{flat_none}
use Rattle.fir_meaning.proofs.Tracking.{some_same}
use Rattle.definition_examples.specs.Registers.{IsMadeOf, from_connect, from_reset, from_init}

no_instance : (sort : Sort) → is_register sort ≡ true → target_in sort ≡ None
no_instance (A_register clock) e = refl
no_instance (A_reset_register clock reset init) e = refl
no_instance An_input e = refl
no_instance An_output e = refl
no_instance A_wire e = refl
no_instance (A_memory memory) e = refl
no_instance (An_instance target) e = absurd (true≢false (sym e))
no_instance (A_node expr) e = refl

own_leaf : (path : List ℕ) (m : TypedModule) (c : Component) (way : List PathStep) → component_named m c.declaration.name ≡ Some c → target_in c.declaration.sort ≡ None
    → flat m path (record { component = c.declaration.name; way = way }) ≡ record { path = path; component = c.declaration.name; way = way }
own_leaf path m c way declared none =
    ap (λ o. flat_through path c.declaration.name o way) (ap (option_and_then (λ (x : Component). target_in x.declaration.sort)) declared ∙ none) ∙ flat_none path c.declaration.name way

-- what is so of the one is so of the other, where both are one leaf of the run
one_place : (design : Design) (path other : List ℕ) (m n : TypedModule) (c d : Component) (way with_ : List PathStep) → module_at design path ≡ Some m → component_named m c.declaration.name ≡ Some c
    → target_in c.declaration.sort ≡ None → module_at design other ≡ Some n → component_named n d.declaration.name ≡ Some d → target_in d.declaration.sort ≡ None
    → flat n other (record { component = d.declaration.name; way = with_ }) ≡ flat m path (record { component = c.declaration.name; way = way })
    → (P : List ℕ → TypedModule → Component → List PathStep → Type 0) → P other n d with_ → P path m c way
one_place design path other m n c d way with_ at declared none at_too declared_too none_too same P p =
    let leaf : record { path = other; component = d.declaration.name; way = with_ } ≡ record { path = path; component = c.declaration.name; way = way } =
    sym (own_leaf other n d with_ declared_too none_too) ∙ (same ∙ own_leaf path m c way declared none) in
    let paths : other ≡ path = ap (λ (x : FlatLeaf). x.path) leaf in
    let modules : n ≡ m = some_same n m (sym at_too ∙ (ap (module_at design) paths ∙ at)) in
    let components : d ≡ c =
    some_same d c (sym declared_too ∙ (ap (λ (x : TypedModule). component_named x d.declaration.name) modules ∙ (ap (λ (x : FlatLeaf). component_named m x.component) leaf ∙ declared))) in
    subst (P path m c) (ap (λ (x : FlatLeaf). x.way) leaf)
    (subst (λ k. P path m k with_) components (subst (λ x. P path x d with_) modules (subst (λ q. P q n d with_) paths p)))

module _ (design : Design) (path : List ℕ) (m : TypedModule) (c : Component) (leaf : TypeLeaf) (stands : Stands design path m c leaf) (register : is_register c.declaration.sort ≡ true) where
  abbrev Made : FlatLeaf → Type 0
  Made x = (y : Leaf) × IsMadeOf (type_in m) c leaf y × (flat m path y ≡ x)

  here : (other : List ℕ) (n : TypedModule) (d : Component) (part : TypeLeaf) → Stands design other n d part → target_in d.declaration.sort ≡ None → flat n other (leaf_of d part) ≡ flat m path (leaf_of c leaf)
      → (P : List ℕ → TypedModule → Component → List PathStep → Type 0) → P other n d part.path → P path m c leaf.path
  here other n d part there none same = one_place design path other m n c d leaf.path part.path stands.reached stands.declared (no_instance c.declaration.sort register) there.reached there.declared none same

  pub to_made : (a x : FlatLeaf) → TakesFrom design a x → a ≡ flat m path (leaf_of c leaf) → Made x
  to_made a x (by_live_connect other n d part y there is among) same =
      let h = here other n d part there (no_instance d.declaration.sort is) same
      (λ p k e w. Contains (joined (live (type_in k) (record { component = e.declaration.name; way = w }) e.declaration.block)) y × (flat k p y ≡ x)) (among, refl) in
      (y, from_connect h.0, h.1)
  to_made a x (by_reset other n d part clock reset init y there sort among) same =
      let h = here other n d part there (ap target_in sort) same
      (λ p k e w. (e.declaration.sort ≡ A_reset_register clock reset init) × Contains (joined (mentions reset (type_in k))) y × (flat k p y ≡ x)) (sort, among, refl) in
      (y, from_reset clock reset init h.0 h.1, h.2)
  to_made a x (by_init other n d part clock reset init y there sort among) same =
      let h = here other n d part there (ap target_in sort) same
      (λ p k e w. (e.declaration.sort ≡ A_reset_register clock reset init)
      × Contains (joined (driven_from false (record { component = e.declaration.name; way = w }) (mentions init (type_in k)) (Some (whole_region (type_in k) e.declaration.name)))) y × (flat k p y ≡ x))
      (sort, among, refl) in
      (y, from_init clock reset init h.0 h.1, h.2)
  to_made a x (by_write other n d part memory port way writer by there read among goes) same =
      let h = here other n d part there (ap target_in read.sort) same (λ p k e w. e.declaration.sort ≡ A_memory memory) read.sort in
      absurd (true≢false (sym register ∙ ap is_register h))
  to_made a x (by_read other n d part memory name way port by there read late named goes) same =
      let h = here other n d part there (ap target_in read.sort) same (λ p k e w. e.declaration.sort ≡ A_memory memory) read.sort in
      absurd (true≢false (sym register ∙ ap is_register h))

  pub takes : (y : Leaf) → IsMadeOf (type_in m) c leaf y → TakesFrom design (flat m path (leaf_of c leaf)) (flat m path y)
  takes y (from_connect among) = by_live_connect path m c leaf y stands register among
  takes y (from_reset clock reset init sort among) = by_reset path m c leaf clock reset init y stands sort among
  takes y (from_init clock reset init sort among) = by_init path m c leaf clock reset init y stands sort among
