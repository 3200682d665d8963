-- What leads to the root.
use Rattle.std.proofs.Common.{◌≡◌, ℕ, true, false, List, [], ◌∷◌, Some, refl, sym, ap, ◌∙◌, subst, arith, true≢false, inl, inr}
use Rattle.std.specs.Prelude.{Contains, slice_get}
use Rattle.std.proofs.lemmas.Grind.{common_steps}
use Rattle.fir_types.specs.declared.fir_type.FirType.{the_lemmas as type_lemmas}
use Rattle.fir_types.specs.declared.leaf.TypeLeaf.{TypeLeaf}
use Rattle.fir_types.specs.declared.leaf.PathStep.TheVariants as step
use Rattle.fir_types.specs.Leaves.{leaves}
use Rattle.fir_tree.specs.declared.expr.Expr.{Expr, the_lemmas as expr_lemmas}
use Rattle.fir_tree.specs.declared.stmt.Stmt.{the_lemmas as stmt_lemmas}
use Rattle.fir_meaning.specs.Components.{Design, TypedModule, Component, Leaf, flat, type_in, is_clock, module_at, component_named}
use Rattle.fir_meaning.specs.States.{Stands}
use Rattle.fir_meaning.specs.ClockRoot.{IsRooted, at_root, onward, by_connect, by_node, From, HasOneClock, clock_of, clock_root, named_leaves, driver_in}
use Rattle.fir_meaning.proofs.Tracking.{none_some, some_same}
use Rattle.definition_examples.specs.Samples.{clock_type, ref, leaf, whole_leaf}
use Rattle.definition_examples.specs.Clocks.{alone, at_main, clocked_by, ticking, through_node, through_instance, caller, called, instance}
use Rattle.definition_examples.proofs.Places.{Each, each_there, IsLeast, in_module, only_main, at_each}
use Rattle.definition_examples.proofs.Grounds.{clock_leaves, clock_is_clock, is_memory}

-- The clock of the component, where it has one, leads to the root.
abbrev Leads : Design → List ℕ → TypedModule → Component → Type 0
Leads design path m c = (clock : Expr) → clock_of c.declaration.sort ≡ Some clock → (l : Leaf) × (slice_get (named_leaves (type_in m) clock) 0 ≡ Some l) × IsRooted design (flat m path l)

abbrev Holds_none : Component → Type 0
Holds_none c = is_memory c.declaration.sort ≡ false

module _ (components : List Component) where
  abbrev pub main : TypedModule
  main = record { name = 100; components = components }

  alone_clocked : IsLeast main → Each Holds_none components → Each (Leads (alone components) [] main) components → HasOneClock (alone components)
  alone_clocked least none leads = record {
    registers = λ path m c clock at declared is.
        let place = only_main (alone components) main refl least path m at in
        let own : Contains components c = in_module main c (subst (λ x. component_named x c.declaration.name ≡ Some c) place.1 declared) in
        subst (λ p. Leads (alone components) p m c) (sym place.0) (subst (λ x. Leads (alone components) [] x c) (sym place.1) (each_there (Leads (alone components) [] main) components c leads own)) clock is;
    ports = λ path m c memory port at declared sort among.
        let place = only_main (alone components) main refl least path m at in
        let own : Contains components c = in_module main c (subst (λ x. component_named x c.declaration.name ≡ Some c) place.1 declared) in
        absurd (true≢false (sym (ap is_memory sort) ∙ each_there Holds_none components c none own));
  }

-- Each of these designs has one module more than what its instances make.

abbrev pub main_in : List TypedModule → TypedModule
main_in (m ∷ ms) = m
main_in [] = record { name = 100; components = [] }

abbrev pub main_of : Design → TypedModule
main_of design = main_in design.modules

root_direct : clock_root (clocked_by 20) ≡ Some (at_main 20)
root_direct = grind (arith, common_steps, type_lemmas)

pub root_late : clock_root (clocked_by 21) ≡ Some (at_main 20)
root_late = grind (arith, common_steps, type_lemmas)

pub root_ticking : clock_root ticking ≡ Some (at_main 20)
root_ticking = grind (arith, common_steps, type_lemmas)

-- where its clock is this one
known_clock : (design : Design) (path : List ℕ) (m : TypedModule) (known : Expr) → (l : Leaf) × (slice_get (named_leaves (type_in m) known) 0 ≡ Some l) × IsRooted design (flat m path l) → (clock : Expr)
    → Some known ≡ Some clock → (l : Leaf) × (slice_get (named_leaves (type_in m) clock) 0 ≡ Some l) × IsRooted design (flat m path l)
known_clock design path m known leads clock e =
    subst (λ k. (l : Leaf) × (slice_get (named_leaves (type_in m) k) 0 ≡ Some l) × IsRooted design (flat m path l)) (some_same known clock e) leads

-- Directly

named_direct : slice_get (named_leaves (type_in (main_of (clocked_by 20))) (ref 20)) 0 ≡ Some (leaf 20 [])
named_direct = grind (arith, common_steps, expr_lemmas, type_lemmas)

pub direct_clocked : HasOneClock (clocked_by 20)
direct_clocked = alone_clocked (main_of (clocked_by 20)).components (refl, (refl, (refl, tt))) (refl, (refl, (refl, tt))) (
  λ clock e. absurd (none_some e),
  (λ clock e. absurd (none_some e), (known_clock (clocked_by 20) [] (main_of (clocked_by 20)) (ref 20) (leaf 20 [], named_direct, at_root root_direct), tt)),
)

-- Through a node

root_node : clock_root through_node ≡ Some (at_main 20)
root_node = grind (arith, common_steps, type_lemmas)

abbrev noded : TypedModule
noded = main_of through_node

named_node : slice_get (named_leaves (type_in noded) (ref 24)) 0 ≡ Some (leaf 24 [])
named_node = grind (arith, common_steps, expr_lemmas, type_lemmas)

named_behind : slice_get (named_leaves (type_in noded) (ref 20)) 0 ≡ Some (leaf 20 [])
named_behind = grind (arith, common_steps, expr_lemmas, type_lemmas)

abbrev second_in : List Component → Component
second_in (c ∷ d ∷ cs) = d
second_in _ = instance

abbrev node : Component
node = second_in noded.components

clock_stands : (design : Design) (path : List ℕ) (m : TypedModule) (c : Component) → module_at design path ≡ Some m → component_named m c.declaration.name ≡ Some c → c.typ ≡ clock_type
    → Stands design path m c (whole_leaf clock_type)
clock_stands design path m c at declared is = record {
  reached = at;
  declared = declared;
  listed = subst (λ l. Contains l (whole_leaf clock_type)) (sym (ap leaves is ∙ clock_leaves)) (0, omega arith, refl);
}

node_leads : IsRooted through_node (flat noded [] (leaf 24 []))
node_leads =
    onward (by_node [] noded node (whole_leaf clock_type) (ref 20) 0 (leaf 20 []) (clock_stands through_node [] noded node refl refl refl) clock_is_clock refl (ap (λ l. slice_get l 0) clock_leaves) named_behind)
    (at_root root_node)

pub node_clocked : HasOneClock through_node
node_clocked = alone_clocked noded.components (refl, (refl, (refl, tt))) (refl, (refl, (refl, tt))) (
  λ clock e. absurd (none_some e),
  (λ clock e. absurd (none_some e), (known_clock through_node [] noded (ref 24) (leaf 24 [], named_node, node_leads), tt)),
)

-- Through an instance

root_instance : clock_root through_instance ≡ Some (at_main 20)
root_instance = grind (arith, common_steps, type_lemmas)

named_called : slice_get (named_leaves (type_in called) (ref 30)) 0 ≡ Some (leaf 30 [])
named_called = grind (arith, common_steps, expr_lemmas, type_lemmas)

abbrev its_clock : TypeLeaf
its_clock = record { path = step.Field 30 ∷ []; flip = true; typ = clock_type }

its_leaves : leaves instance.typ ≡ its_clock ∷ []
its_leaves = grind (arith, common_steps, type_lemmas)

its_is_clock : is_clock its_clock ≡ true
its_is_clock = grind (arith, common_steps, type_lemmas)

its_driver : driver_in (type_in caller) (leaf 26 (step.Field 30 ∷ [])) instance.declaration.block ≡ From (leaf 20 [])
its_driver = grind (arith, common_steps, stmt_lemmas, expr_lemmas, type_lemmas)

input_leads : IsRooted through_instance (flat called (26 ∷ []) (leaf 30 []))
input_leads =
    onward (by_connect [] caller instance its_clock (leaf 20 []) (record { reached = refl; declared = refl; listed = subst (λ l. Contains l its_clock) (sym its_leaves) (0, omega arith, refl) }) its_is_clock refl its_driver)
    (at_root root_instance)

caller_leads : Each (Leads through_instance [] caller) caller.components
caller_leads = (λ clock e. absurd (none_some e), (λ clock e. absurd (none_some e), tt))

called_leads : Each (Leads through_instance (26 ∷ []) called) called.components
called_leads = (λ clock e. absurd (none_some e), (known_clock through_instance (26 ∷ []) called (ref 30) (leaf 30 [], named_called, input_leads), tt))

there : (P : List ℕ → TypedModule → Component → Type 0) → Each (P [] caller) caller.components → Each (P (26 ∷ []) called) called.components → (path : List ℕ) (m : TypedModule) (c : Component)
    → module_at through_instance path ≡ Some m → component_named m c.declaration.name ≡ Some c → P path m c
there = at_each through_instance caller refl 26 101 called (inl refl, (inr (refl, refl), tt)) refl (refl, (refl, tt))

pub instance_clocked : HasOneClock through_instance
instance_clocked = record {
  registers = λ path m c clock at declared is. there (Leads through_instance) caller_leads called_leads path m c at declared clock is;
  ports = λ path m c memory port at declared sort among.
      absurd (true≢false (sym (ap is_memory sort) ∙ there (λ p n. Holds_none) (refl, (refl, tt)) (refl, (refl, tt)) path m c at declared));
}
