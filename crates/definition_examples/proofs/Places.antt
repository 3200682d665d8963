-- Where modules stand in a design of one module, and in one with a single instance.
use Rattle.std.proofs.Common.{◌≡◌, ℕ, zero, suc, List, [], ◌∷◌, Option, Some, None, option_and_then, refl, sym, ap, ◌∙◌, subst, arith, ◌⊎◌, inl, inr, ⊎_elim}
use Rattle.std.specs.Prelude.{Contains}
use Rattle.fir_meaning.specs.Components.{Design, TypedModule, Component, module_at, module_within, module_named, component_named, target_of, target_in}
use Rattle.fir_meaning.proofs.Ports.{component_found}
use Rattle.fir_meaning.proofs.Tracking.{none_some, some_same}

-- it is so of each item
abbrev pub Each : {A : Type 0} → (A → Type 0) → List A → Type 0
Each P [] = Unit {0}
Each P (x ∷ xs) = P x × Each P xs

pub each_there : {A : Type 0} (P : A → Type 0) (xs : List A) (x : A) → Each P xs → Contains xs x → P x
each_there P [] x e (k, below, is) = absurd (omega arith)
each_there P (y ∷ xs) x e (zero, below, is) = subst P is e.0
each_there P (y ∷ xs) x e (suc k, below, is) = each_there P xs x e.1 (k, omega arith, is)

-- no component of the module is an instance
abbrev pub IsLeast : TypedModule → Type 0
IsLeast m = Each (λ (c : Component). target_in c.declaration.sort ≡ None) m.components

no_target : (m : TypedModule) → IsLeast m → (i : ℕ) → target_of m i ≡ None
no_target m least i = by (component_named m i) refl where
  by : (o : Option Component) → component_named m i ≡ o → option_and_then (λ c. target_in c.declaration.sort) o ≡ None
  by None e = refl
  by (Some c) e = each_there (λ (c : Component). target_in c.declaration.sort ≡ None) m.components c least (component_found m i c e).1

pub in_module : (m : TypedModule) (c : Component) → component_named m c.declaration.name ≡ Some c → Contains m.components c
in_module m c e = (component_found m c.declaration.name c e).1

module _ (design : Design) where
  least_within : (m : TypedModule) → IsLeast m → (path : List ℕ) (n : TypedModule) → module_within design m path ≡ Some n → (path ≡ []) × (n ≡ m)
  least_within m least [] n e = (refl, sym (some_same m n e))
  least_within m least (i ∷ path) n e =
      absurd (none_some (sym (ap (λ o. option_and_then (λ x. module_within design x path) (option_and_then (module_named design) o)) (no_target m least i)) ∙ e))

  module _ (main : TypedModule) (is : module_named design design.main ≡ Some main) where
    from_main : (path : List ℕ) (m : TypedModule) → module_at design path ≡ Some m → module_within design main path ≡ Some m
    from_main path m e = sym (ap (option_and_then (λ x. module_within design x path)) is) ∙ e

    -- A module without instances is alone.
    pub only_main : IsLeast main → (path : List ℕ) (m : TypedModule) → module_at design path ≡ Some m → (path ≡ []) × (m ≡ main)
    only_main least path m e = least_within main least path m (from_main path m e)

    -- With one instance, of a module without any, there are two.
    two_places : (i t : ℕ) (called : TypedModule) → Each (λ (c : Component). (target_in c.declaration.sort ≡ None) ⊎ ((c.declaration.name ≡ i) × (target_in c.declaration.sort ≡ Some t))) main.components
        → module_named design t ≡ Some called → IsLeast called → (path : List ℕ) (m : TypedModule) → module_at design path ≡ Some m
        → ((path ≡ []) × (m ≡ main)) ⊎ ((path ≡ i ∷ []) × (m ≡ called))
    two_places i t called parts named least [] m e = inl (refl, sym (some_same main m (from_main [] m e)))
    two_places i t called parts named least (j ∷ path) m e = inr (by (component_named main j) refl (from_main (j ∷ path) m e)) where
      behind : (o : Option ℕ) → Option TypedModule
      behind o = option_and_then (λ n. module_within design n path) (option_and_then (module_named design) o)

      of_sort : (c : Component) → c.declaration.name ≡ j → (target_in c.declaration.sort ≡ None) ⊎ ((c.declaration.name ≡ i) × (target_in c.declaration.sort ≡ Some t))
          → behind (target_in c.declaration.sort) ≡ Some m → (j ∷ path ≡ i ∷ []) × (m ≡ called)
      of_sort c name (inl none) w = absurd (none_some (sym (ap behind none) ∙ w))
      of_sort c name (inr (own, some)) w =
          let inner = least_within called least path m (sym (ap (option_and_then (λ n. module_within design n path)) named) ∙ (sym (ap behind some) ∙ w)) in
          (ap (λ k. k ∷ path) (sym name ∙ own) ∙ ap (λ p. i ∷ p) inner.0, inner.1)

      by : (o : Option Component) → component_named main j ≡ o → module_within design main (j ∷ path) ≡ Some m → (j ∷ path ≡ i ∷ []) × (m ≡ called)
      by None q w = absurd (none_some (sym (ap (λ o. behind (option_and_then (λ (c : Component). target_in c.declaration.sort) o)) q) ∙ w))
      by (Some c) q w =
          let found = component_found main j c q in
          of_sort c found.0 (each_there (λ (c : Component). (target_in c.declaration.sort ≡ None) ⊎ ((c.declaration.name ≡ i) × (target_in c.declaration.sort ≡ Some t))) main.components c parts found.1)
          (sym (ap (λ o. behind (option_and_then (λ (c : Component). target_in c.declaration.sort) o)) q) ∙ w)

    -- so what is so of each component of the two is so of every component of the run
    pub at_each : (i t : ℕ) (called : TypedModule) → Each (λ (c : Component). (target_in c.declaration.sort ≡ None) ⊎ ((c.declaration.name ≡ i) × (target_in c.declaration.sort ≡ Some t))) main.components
        → module_named design t ≡ Some called → IsLeast called → (P : List ℕ → TypedModule → Component → Type 0) → Each (P [] main) main.components → Each (P (i ∷ []) called) called.components
        → (path : List ℕ) (m : TypedModule) (c : Component) → module_at design path ≡ Some m → component_named m c.declaration.name ≡ Some c → P path m c
    at_each i t called parts named least P outer inner path m c at declared = ⊎_elim
        (λ e. subst (λ p. P p m c) (sym e.0) (subst (λ x. P [] x c) (sym e.1) (each_there (P [] main) main.components c outer (in_module main c (subst (λ x. component_named x c.declaration.name ≡ Some c) e.1 declared)))))
        (λ e. subst (λ p. P p m c) (sym e.0)
        (subst (λ x. P (i ∷ []) x c) (sym e.1) (each_there (P (i ∷ []) called) called.components c inner (in_module called c (subst (λ x. component_named x c.declaration.name ≡ Some c) e.1 declared)))))
        (two_places i t called parts named least path m at)
