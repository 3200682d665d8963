-- States of a module with one memory: four elements and a writer (51) alone. What it holds is compared though no port shows it.
use Rattle.std.proofs.Common.{◌≡◌, ℕ, zero, suc, ◌==◌, ◌<◌, Bool, true, false, cond, List, [], ◌∷◌, Some, None, option_and_then, pos, unsigned_abs, if◌then◌else◌, refl, sym, ap, ◌∙◌, subst, arith}
use Rattle.std.specs.Prelude.{Contains}
use Rattle.std.proofs.lemmas.Grind.{common_steps}
use Rattle.std.proofs.lemmas.Bool.Decides.{nat_tests}
use Rattle.fir_types.specs.declared.fir_type.FirType.{the_lemmas as type_lemmas}
use Rattle.fir_types.specs.declared.leaf.TypeLeaf.{TypeLeaf}
use Rattle.fir_types.specs.declared.memory.Memory.{Memory}
use Rattle.fir_types.specs.declared.memory.MemLine.TheVariants as line
use Rattle.fir_types.specs.declared.memory.PortMode.TheVariants as mode
use Rattle.fir_types.specs.Leaves.{leaves}
use Rattle.fir_types.specs.Memories.{depth_of}
use Rattle.fir_types.specs.Bundles.{nowhere}
use Rattle.fir_meaning.specs.Components.{Design, TypedModule, Component, A_memory, module_at, module_within, module_named, component_named, target_in, ports_bundle}
use Rattle.fir_meaning.specs.Elements.{IsElement}
use Rattle.fir_meaning.specs.States.{State, SameState, first_state}
use Rattle.fir_meaning.proofs.Samples.{place, name, uint}
use Rattle.fir_meaning.proofs.Ports.{found}
use Rattle.fir_meaning.proofs.Tracking.{none_some, some_same}

abbrev memory : Memory
memory = record {
  name = name 40;
  lines = line.Element place (uint 8) ∷ line.Depth place 4 ∷ line.ReadLatency place 1 ∷ line.WriteLatency place 1 ∷ line.MemPort place mode.Writer (name 51) ∷ [];
}

abbrev component : Component
component = record { declaration = record { name = 40; place = nowhere; sort = A_memory memory; block = []; behind = [] }; typ = ports_bundle memory (uint 8) }

abbrev holder : TypedModule
holder = record { name = 1; components = component ∷ [] }

abbrev design : Design
design = record { main = 1; modules = holder ∷ [] }

-- all is 0 but for the element of this number
abbrev holding : ℕ → State
holding n = record { registers = first_state.registers; contents = λ path c element way. if element == n then pos 7 else pos 0; captured = first_state.captured }

abbrev whole : TypeLeaf
whole = record { path = []; flip = false; typ = uint 8 }

element_is : IsElement component memory (uint 8)
element_is = record { bundle = refl; unported = λ none. cc }

whole_listed : Contains (leaves (uint 8)) whole
whole_listed =
    let one : leaves (uint 8) ≡ whole ∷ [] = grind (arith, common_steps, type_lemmas) in
    subst (λ ls. Contains ls whole) (sym one) (0, omega arith, refl)

-- The element 2 is one of the memory's: states that differ in it are not the same.
element_counts : ¬ (SameState design first_state (holding 2))
element_counts same =
    let e : pos 0 ≡ pos 7 = same.contents [] holder component memory (uint 8) whole 2 refl refl refl element_is whole_listed (omega arith) in
    let bad : 0 ≡ 7 = ap unsigned_abs e in
    omega (arith, bad)

-- There is no element 4: states that differ in it alone are the same.

module_is : (path : List ℕ) (m : TypedModule) → module_at design path ≡ Some m → m ≡ holder
module_is [] m e = sym (some_same holder m e)
module_is (i ∷ path) m e = by (40 == i) e
  where
    by : (b : Bool) → option_and_then (λ n. module_within design n path) (option_and_then (module_named design) (option_and_then (λ c. target_in c.declaration.sort) (cond b (Some component) None))) ≡ Some m → m ≡ holder
    by true q = absurd (none_some q)
    by false q = absurd (none_some q)

component_is : (m : TypedModule) (c : Component) → m ≡ holder → component_named m c.declaration.name ≡ Some c → component ≡ c
component_is m c e q = one (found (λ x. x.declaration.name == c.declaration.name) (component ∷ []) c (ap (λ x. component_named x c.declaration.name) (sym e) ∙ q)).1
  where
    one : Contains (component ∷ []) c → component ≡ c
    one (zero, below, is) = is
    one (suc k, below, is) = absurd (omega arith)

same_memory : (a b : Memory) → A_memory a ≡ A_memory b → a ≡ b
same_memory a b e = cc

no_other : (n : ℕ) → n < 4 → (if n == 4 then pos 7 else pos 0) ≡ pos 0
no_other n below = grind (arith, nat_tests)

past_the_depth : SameState design first_state (holding 4)
past_the_depth = record {
  registers = λ path m c leaf stands register. refl;
  contents = λ path m c held typ leaf element reached declared sort of inside below.
      let is : component ≡ c = component_is m c (module_is path m reached) declared in
      let its : memory ≡ held = same_memory memory held (ap (λ x. x.declaration.sort) is ∙ sort) in
      sym (no_other element (subst (λ k. element < depth_of k) (sym its) below));
  captured = λ path m c leaf memory port field way stands sort later turned is. refl;
}
