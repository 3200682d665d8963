-- Clocks that lead nowhere, and wires that nothing drives.
use Rattle.std.proofs.Common.{◌≡◌, ℕ, zero, suc, ◌==◌, true, false, Bool, List, [], ◌∷◌, Option, Some, refl, sym, ap, ◌∙◌, subst, arith, true≢false}
use Rattle.std.specs.Prelude.{Contains, slice_get}
use Rattle.std.proofs.lemmas.Grind.{common_steps}
use Rattle.fir_types.specs.declared.fir_type.FirType.{FirType, the_lemmas as type_lemmas}
use Rattle.fir_types.specs.declared.leaf.TypeLeaf.{TypeLeaf}
use Rattle.fir_types.specs.declared.leaf.PathStep.TheVariants as step
use Rattle.fir_types.specs.declared.memory.Memory.{Memory}
use Rattle.fir_types.specs.declared.memory.PortMode.TheVariants as mode
use Rattle.fir_types.specs.declared.name.Name.{Name}
use Rattle.fir_types.specs.Leaves.{leaves}
use Rattle.fir_types.specs.Bundles.{clk_name}
use Rattle.fir_tree.specs.declared.expr.Expr.{Expr, the_lemmas as expr_lemmas}
use Rattle.fir_tree.specs.declared.stmt.Stmt.{the_lemmas as stmt_lemmas}
use Rattle.fir_tree.specs.declared.stmt.Stmt.TheVariants as stmt
use Rattle.fir_meaning.specs.Components.{TypedModule, Component, Leaf, FlatLeaf, An_input, flat, flow_of, type_in, is_clock, component_named}
use Rattle.fir_meaning.specs.Mentions.{Scope}
use Rattle.fir_meaning.specs.Certain.{IsInitialized}
use Rattle.fir_meaning.specs.States.{Stands, leaf_of, is_source}
use Rattle.fir_meaning.specs.ClockRoot.{IsRooted, at_root, onward, ClockFrom, by_connect, by_node, Driver, Undriven, No_driver, From, HasOneClock, clock_root, named_leaves, driver_in}
use Rattle.fir_meaning.proofs.Tracking.{some_same}
use Rattle.definition_examples.specs.Samples.{place, clock_type, uint, ref, leaf, whole_leaf}
use Rattle.definition_examples.specs.Clocks.{alone, at_main, clocked_by, gated, gated_body, with_memory, memory, with_wire, idle_wire}
use Rattle.definition_examples.proofs.Places.{Each, each_there, IsLeast, only_main, in_module}
use Rattle.definition_examples.proofs.Leading.{main, main_of, root_late}
use Rattle.definition_examples.proofs.Grounds.{clock_leaves, uint_leaves, uint_no_clock, is_node}

abbrev is_from : Driver → Bool
is_from (From y) = true
is_from _ = false

the_one : {A : Type 0} (x y : A) → Contains (x ∷ []) y → x ≡ y
the_one x y (zero, below, is) = is
the_one x y (suc k, below, is) = absurd (omega arith)

module _ (components : List Component) where
  -- the component is no node, and none of its Clock leaves has a driver
  abbrev pub IsIdle : Component → Type 0
  IsIdle c = (is_node c.declaration.sort ≡ false)
      × ((l : TypeLeaf) → Contains (leaves c.typ) l → is_clock l ≡ true → is_source (flow_of c.declaration.sort l.flip) ≡ false → is_from (driver_in (type_in (main components)) (leaf_of c l) c.declaration.block) ≡ false)

  none_led : IsLeast (main components) → Each IsIdle components → (x y : FlatLeaf) → ClockFrom (alone components) x y → ⊥
  none_led least idle x y (by_connect path m c l z stands clock source driver) =
      let at = only_main (alone components) (main components) refl least path m stands.reached in
      let own = in_module (main components) c (subst (λ n. component_named n c.declaration.name ≡ Some c) at.1 stands.declared) in
      let driver_here = subst (λ n. driver_in (type_in n) (leaf_of c l) c.declaration.block ≡ From z) at.1 driver in
      absurd (true≢false (sym (ap is_from driver_here) ∙ (each_there IsIdle components c idle own).1 l stands.listed clock source))
  none_led least idle x y (by_node path m c l e k z stands clock sort there named) =
      let at = only_main (alone components) (main components) refl least path m stands.reached in
      let own = in_module (main components) c (subst (λ n. component_named n c.declaration.name ≡ Some c) at.1 stands.declared) in
      absurd (true≢false (sym (ap is_node sort) ∙ (each_there IsIdle components c idle own).0))

  -- then the root alone leads to it
  root_alone : IsLeast (main components) → Each IsIdle components → (x : FlatLeaf) → IsRooted (alone components) x → clock_root (alone components) ≡ Some x
  root_alone least idle x (at_root e) = e
  root_alone least idle x (onward {y = y} f r) = absurd (none_led least idle x y f)

apart : (root x : FlatLeaf) (o : Option FlatLeaf) → o ≡ Some root → o ≡ Some x → (root.component == x.component) ≡ false → ⊥
apart root x o is other differ = true≢false (sym (same root.component) ∙ (ap (λ (l : FlatLeaf). root.component == l.component) (some_same root x (sym is ∙ other)) ∙ differ)) where
  same : (n : ℕ) → (n == n) ≡ true
  same n = grind (arith, common_steps)

-- The second Clock input

reg_drives_none : (types : Scope) (l : Leaf) (name : Name) (t : FirType) (clock : Expr) → driver_in types l (stmt.Reg name t clock ∷ []) ≡ Undriven
reg_drives_none types l name t clock = grind (arith, common_steps, stmt_lemmas)

named_late : slice_get (named_leaves (type_in (main_of (clocked_by 21))) (ref 21)) 0 ≡ Some (leaf 21 [])
named_late = grind (arith, common_steps, expr_lemmas, type_lemmas)

late_idle : Each (IsIdle (main_of (clocked_by 21)).components) (main_of (clocked_by 21)).components
late_idle = (
  (refl, λ l among clock source. ap is_from (reg_drives_none _ _ _ _ _)),
  ((refl, λ l among clock source. ap is_from (reg_drives_none _ _ _ _ _)), ((refl, λ l among clock source. ap is_from (reg_drives_none _ _ _ _ _)), tt)),
)

pub late_refused : HasOneClock (clocked_by 21) → ⊥
late_refused h =
    let late : TypedModule = main_of (clocked_by 21) in
    let led = h.registers [] late (third_in late.components) (ref 21) refl refl refl in
    let same : led.0 ≡ leaf 21 [] = some_same led.0 (leaf 21 []) (sym led.1 ∙ named_late) in
    apart (at_main 20) (at_main 21) (clock_root (clocked_by 21)) root_late
    (root_alone late.components (refl, (refl, (refl, tt))) late_idle (at_main 21) (subst (λ l. IsRooted (clocked_by 21) (flat late [] l)) same led.2)) refl
  where
    third_in : List Component → Component
    third_in (b ∷ c ∷ d ∷ cs) = d
    third_in _ = idle_wire clock_type

-- A condition

no_clock : (width : ℕ) (l : TypeLeaf) → Contains (leaves (uint width)) l → is_clock l ≡ true → ⊥
no_clock width l among clock =
    true≢false (sym clock ∙ (ap is_clock (sym (the_one (whole_leaf (uint width)) l (subst (λ ls. Contains ls l) (uint_leaves width) among))) ∙ uint_no_clock width))

its_leaf : (l : TypeLeaf) → Contains (leaves clock_type) l → whole_leaf clock_type ≡ l
its_leaf l among = the_one (whole_leaf clock_type) l (subst (λ ls. Contains ls l) clock_leaves among)

abbrev gated_main : TypedModule
gated_main = main_of gated

wire_driver : driver_in (type_in gated_main) (leaf 25 []) gated_body ≡ No_driver
wire_driver = grind (arith, common_steps, stmt_lemmas, expr_lemmas, type_lemmas)

gated_idle : Each (IsIdle gated_main.components) gated_main.components
gated_idle = (
  (refl, λ l among clock source. absurd (true≢false (ap (λ (x : TypeLeaf). is_source (flow_of An_input x.flip)) (its_leaf l among) ∙ source))),
  (
    (refl, λ l among clock source. absurd (no_clock 1 l among clock)),
    (
      (refl, λ l among clock source. ap (λ (x : TypeLeaf). is_from (driver_in (type_in gated_main) (leaf 25 x.path) gated_body)) (sym (its_leaf l among)) ∙ ap is_from wire_driver),
      ((refl, λ l among clock source. absurd (no_clock 4 l among clock)), tt),
    ),
  ),
)

root_gated : clock_root gated ≡ Some (at_main 20)
root_gated = grind (arith, common_steps, type_lemmas)

named_gated : slice_get (named_leaves (type_in gated_main) (ref 25)) 0 ≡ Some (leaf 25 [])
named_gated = grind (arith, common_steps, expr_lemmas, type_lemmas)

abbrev fourth_in : List Component → Component
fourth_in (b ∷ c ∷ d ∷ e ∷ cs) = e
fourth_in _ = idle_wire clock_type

pub gated_refused : HasOneClock gated → ⊥
gated_refused h =
    let led = h.registers [] gated_main (fourth_in gated_main.components) (ref 25) refl refl refl in
    let same : led.0 ≡ leaf 25 [] = some_same led.0 (leaf 25 []) (sym led.1 ∙ named_gated) in
    apart (at_main 20) (at_main 25) (clock_root gated) root_gated
    (root_alone gated_main.components (refl, (refl, (refl, (refl, tt)))) gated_idle (at_main 25) (subst (λ l. IsRooted gated (flat gated_main [] l)) same led.2)) refl

-- A memory's port

mem_drives_none : (types : Scope) (l : Leaf) (m : Memory) → driver_in types l (stmt.Mem m ∷ []) ≡ Undriven
mem_drives_none types l m = grind (arith, common_steps, stmt_lemmas)

abbrev holder : TypedModule
holder = main_of with_memory

memory_idle : Each (IsIdle holder.components) holder.components
memory_idle = ((refl, λ l among clock source. ap is_from (mem_drives_none _ _ _)), ((refl, λ l among clock source. ap is_from (mem_drives_none _ _ _)), tt))

root_memory : clock_root with_memory ≡ Some (at_main 20)
root_memory = grind (arith, common_steps, type_lemmas)

abbrev its_clock : FlatLeaf
its_clock = record { path = []; component = 27; way = step.Field 29 ∷ step.Field clk_name ∷ [] }

abbrev second_in : List Component → Component
second_in (b ∷ c ∷ cs) = c
second_in _ = idle_wire clock_type

pub port_refused : HasOneClock with_memory → ⊥
port_refused h =
    let led : IsRooted with_memory its_clock = h.ports [] holder (second_in holder.components) memory (record { name = 29; place = place; mode = mode.Writer }) refl refl refl (0, omega arith, refl) in
    apart (at_main 20) its_clock (clock_root with_memory) root_memory (root_alone holder.components (refl, (refl, tt)) memory_idle its_clock led) refl

-- Wires

pub wire_refused : (t : FirType) → leaves t ≡ whole_leaf t ∷ [] → IsInitialized (with_wire t) → ⊥
wire_refused t one h =
    let stands : Stands (with_wire t) [] (main_of (with_wire t)) (idle_wire t) (whole_leaf t) =
    record { reached = refl; declared = refl; listed = subst (λ ls. Contains ls (whole_leaf t)) (sym one) (0, omega arith, refl) } in
    true≢false (sym (h.covered [] (main_of (with_wire t)) (idle_wire t) (whole_leaf t) stands refl))

pub number_refused : IsInitialized (with_wire (uint 4)) → ⊥
number_refused h = wire_refused (uint 4) (uint_leaves 4) h

pub clock_refused : IsInitialized (with_wire clock_type) → ⊥
clock_refused h = wire_refused clock_type clock_leaves h
