-- What leaves ask for, sort by sort.
use Rattle.std.proofs.Common.{◌≡◌, ℕ, zero, suc, ◌+◌, Bool, true, false, List, [], ◌∷◌, map, length, take, get_or, ℤ, pos, Option, Some, None, if◌then◌else◌, refl, sym, ap, ap₂, ◌∙◌, arith}
use Rattle.fir_types.specs.declared.leaf.TypeLeaf.{TypeLeaf}
use Rattle.fir_types.specs.declared.memory.Memory.{Memory}
use Rattle.fir_types.specs.declared.leaf.PathStep.{PathStep}
use Rattle.fir_types.specs.declared.leaf.PathStep.TheVariants as step
use Rattle.fir_types.specs.Memories.{read_latency_of}
use Rattle.fir_meaning.specs.Components.{Design, Leaf, TypedModule, Component, flow_of, is_clock}
use Rattle.fir_meaning.specs.Components as tree
use Rattle.fir_meaning.specs.Values.{Valuation, scene_of}
use Rattle.fir_meaning.specs.MemoryPorts.{read_by}
use Rattle.fir_meaning.specs.States.{State, Inputs, is_source, leaf_of, located, where_located}
use Rattle.drive_check.specs.declared.leaf_set.LeafKey.{LeafKey}
use Rattle.drive_check.specs.Keys.{step_of, leaf_of_key}
use Rattle.settling_laws.specs.Sweeps.{asked, of_sort, of_port, of_read, by_latency, from_outside, left_above, left_in_block, last_instance}
use Rattle.plain_cycle.specs.declared.declarations.Sort.{Sort}
use Rattle.plain_cycle.specs.Held.{held_sort}
use Rattle.plain_cycle.specs.Layouts.{Located}
use Rattle.plain_cycle.specs.declared.run.Part.{Part}
use Rattle.plain_cycle.specs.Runs.{IsPart, shown_of}
use Rattle.plain_cycle.proofs.Views.{path_is, name_is, sort_is}

-- the last of the instances on a path
last_is : (i : ℕ) (path : List ℕ) (n : ℕ) (other : ℕ) → length path ≡ n → last_instance i path ≡ (take n (i ∷ path), get_or (i ∷ path) n other)
last_is i [] zero other e = refl
last_is i [] (suc n) other e = absurd (omega (arith, e))
last_is i (j ∷ path) zero other e = absurd (omega (arith, e))
last_is i (j ∷ path) (suc n) other e = ap (λ p. (i ∷ p.0, p.1)) (last_is j path n other (omega (arith, e)))

module _ (design : Design) (s : State) (given : Inputs) (rho : Valuation) where
  -- what comes from outside into a module below main
  pub outside_is : (path : List ℕ) (n i : ℕ) (leaf : Leaf) → length path ≡ n + 1 → i ≡ get_or path n 0 → from_outside design given rho path leaf ≡ left_above design rho (take n path, i) leaf
  outside_is [] n i leaf e is = absurd (omega (arith, e))
  outside_is (j ∷ path) n i leaf e is = ap (λ above. left_above design rho above leaf) (last_is j path n 0 (omega (arith, e)) ∙ ap (λ k. (take n (j ∷ path), k)) (sym is))

  pub given_is : (path : List ℕ) (leaf : Leaf) → length path ≡ 0 → from_outside design given rho path leaf ≡ given leaf.component leaf.way
  given_is [] leaf e = refl
  given_is (j ∷ path) leaf e = absurd (omega (arith, e))

  pub above_is : (path : List ℕ) (i : ℕ) (leaf : Leaf) (m : TypedModule) (c : Component) → located design path i ≡ Some (m, c)
      → left_above design rho (path, i) leaf ≡ left_in_block rho path (record { component = i; way = step.Field leaf.component ∷ leaf.way }) (m, c)
  above_is path i leaf m c e = ap (where_located (pos 0) (left_in_block rho path (record { component = i; way = step.Field leaf.component ∷ leaf.way }))) e

  pub above_none : (path : List ℕ) (i : ℕ) (leaf : Leaf) → located design path i ≡ None → left_above design rho (path, i) leaf ≡ pos 0
  above_none path i leaf e = ap (where_located (pos 0) (left_in_block rho path (record { component = i; way = step.Field leaf.component ∷ leaf.way }))) e

  module _ (x : Located) (part : Part) (is : IsPart design x part) (leaf : TypeLeaf) where
    pub clock_asked : is_clock leaf ≡ true → pos 0 ≡ asked design s given rho x.path (x.m, x.c) leaf
    clock_asked e = sym (ap (λ b. if b then pos 0 else of_sort design s given rho x.c.declaration.sort x.path (x.m, x.c) leaf) e)

    pub sort_here : (t : Sort) → part.declaration.sort ≡ t → held_sort t ≡ x.c.declaration.sort
    sort_here t e = sym (ap held_sort e) ∙ sort_is design x part is

    pub asked_by : (t : Sort) → part.declaration.sort ≡ t → is_clock leaf ≡ false → of_sort design s given rho (held_sort t) x.path (x.m, x.c) leaf ≡ asked design s given rho x.path (x.m, x.c) leaf
    asked_by t e n =
        ap (λ o. of_sort design s given rho o x.path (x.m, x.c) leaf) (sort_here t e)
        ∙ sym (ap (λ b. if b then pos 0 else of_sort design s given rho x.c.declaration.sort x.path (x.m, x.c) leaf) n)

    pub port_by : (b : Bool) → b ≡ is_source (flow_of (held_sort part.declaration.sort) leaf.flip)
        → (if b then from_outside design given rho x.path (leaf_of x.c leaf) else left_in_block rho x.path (leaf_of x.c leaf) (x.m, x.c)) ≡ of_port design s given rho x.path (x.m, x.c) leaf
    port_by b e = ap (λ t. if t then from_outside design given rho x.path (leaf_of x.c leaf) else left_in_block rho x.path (leaf_of x.c leaf) (x.m, x.c))
        (e ∙ ap (λ o. is_source (flow_of o leaf.flip)) (sort_is design x part is))

    pub memory_by : (b : Bool) → leaf.flip ≡ b → (memory : Memory)
        → (if b then left_in_block rho x.path (leaf_of x.c leaf) (x.m, x.c) else of_read design s given rho memory x.path (x.m, x.c) leaf.path) ≡ of_sort design s given rho (tree.A_memory memory) x.path (x.m, x.c) leaf
    memory_by b e memory = ap (λ t. if t then left_in_block rho x.path (leaf_of x.c leaf) (x.m, x.c) else of_read design s given rho memory x.path (x.m, x.c) leaf.path) (sym e)

    pub held_by : (key : LeafKey) → map step_of key.way.items ≡ leaf.path → s.registers part.site.now.path part.site.now.name (leaf_of_key key).way ≡ s.registers x.path x.c.declaration.name leaf.path
    held_by key w = ap₂ (λ p n. s.registers p n (leaf_of_key key).way) (path_is design x part is) (name_is design x part is) ∙ ap (s.registers x.path x.c.declaration.name) w

    from_path : (path : List ℕ) → path ≡ part.site.now.path → (leaf : Leaf) → from_outside design given rho x.path leaf ≡ from_outside design given rho path leaf
    from_path path e leaf = ap (λ p. from_outside design given rho p leaf) (sym (e ∙ path_is design x part is))

    pub outside_none : (path : List ℕ) (n i : ℕ) → path ≡ part.site.now.path → length path ≡ n + 1 → i ≡ get_or path n 0 → located design (take n path) i ≡ None
        → from_outside design given rho x.path (leaf_of x.c leaf) ≡ pos 0
    outside_none path n i e many at none =
        from_path path e (leaf_of x.c leaf) ∙ (outside_is path n i (leaf_of x.c leaf) many at ∙ above_none (take n path) i (leaf_of x.c leaf) none)

    pub outside_left : (path : List ℕ) (n i : ℕ) (y : Located) (key : LeafKey) (v : ℤ) → path ≡ part.site.now.path → length path ≡ n + 1 → i ≡ get_or path n 0
        → y.path ≡ take n path → located design (take n path) i ≡ Some (y.m, y.c) → key.component ≡ i → map step_of key.way.items ≡ step.Field part.site.now.name ∷ leaf.path
        → v ≡ left_in_block rho y.path (leaf_of_key key) (y.m, y.c) → v ≡ from_outside design given rho x.path (leaf_of x.c leaf)
    outside_left path n i y key v e many at there found c w is_left =
        is_left ∙ (ap (λ p. left_in_block rho p (leaf_of_key key) (y.m, y.c)) there
        ∙ (ap₂ (λ (k : ℕ) (way : List PathStep). left_in_block rho (take n path) (record { component = k; way = way }) (y.m, y.c)) c (w ∙ ap (λ k. step.Field k ∷ leaf.path) (name_is design x part is))
        ∙ sym (from_path path e (leaf_of x.c leaf) ∙ (outside_is path n i (leaf_of x.c leaf) many at ∙ above_is (take n path) i (leaf_of x.c leaf) y.m y.c found))))

    pub outside_given : (path : List ℕ) (key : LeafKey) → path ≡ part.site.now.path → length path ≡ 0 → key.component ≡ part.site.now.name → map step_of key.way.items ≡ leaf.path
        → given key.component (map step_of key.way.items) ≡ from_outside design given rho x.path (leaf_of x.c leaf)
    outside_given path key e none c w = ap₂ given (c ∙ name_is design x part is) w ∙ sym (from_path path e (leaf_of x.c leaf) ∙ given_is path (leaf_of x.c leaf) none)

    -- what is read now, and what was captured

    abbrev read_or : Memory → Option (ℕ × List PathStep) → ℤ
    read_or memory (Some read) =
        by_latency (read_latency_of memory) (read_by memory ((scene_of x.m x.path rho).integers x.c.declaration.name) (s.contents x.path x.c.declaration.name) read.0 read.1) (s.captured x.path x.c.declaration.name read.0 read.1)
    read_or memory None = pos 0

    read_is : (memory : Memory) (path : List PathStep) → read_or memory (shown_of path) ≡ of_read design s given rho memory x.path (x.m, x.c) path
    read_is memory [] = refl
    read_is memory (step.Element n ∷ path) = refl
    read_is memory (step.Field p ∷ []) = refl
    read_is memory (step.Field p ∷ (step.Element n ∷ path)) = refl
    read_is memory (step.Field p ∷ (step.Field f ∷ way)) = refl

    pub read_shown : (memory : Memory) (path : List PathStep) (port : ℕ) (way : List PathStep) → Some (port, way) ≡ shown_of path → read_latency_of memory ≡ 0
        → read_by memory ((scene_of x.m x.path rho).integers x.c.declaration.name) (s.contents x.path x.c.declaration.name) port way ≡ of_read design s given rho memory x.path (x.m, x.c) path
    read_shown memory path port way e z =
        sym (ap (λ n. by_latency n (read_by memory ((scene_of x.m x.path rho).integers x.c.declaration.name) (s.contents x.path x.c.declaration.name) port way) (s.captured x.path x.c.declaration.name port way)) z)
        ∙ (ap (read_or memory) e ∙ read_is memory path)

    later : (n : ℕ) (a b : ℤ) → (n ≡ 0 → ⊥) → b ≡ by_latency n a b
    later zero a b h = absurd (h refl)
    later (suc n) a b h = refl

    pub captured_shown : (memory : Memory) (path : List PathStep) (port : ℕ) (way : List PathStep) → Some (port, way) ≡ shown_of path → (read_latency_of memory ≡ 0 → ⊥)
        → s.captured x.path x.c.declaration.name port way ≡ of_read design s given rho memory x.path (x.m, x.c) path
    captured_shown memory path port way e h =
        later (read_latency_of memory) (read_by memory ((scene_of x.m x.path rho).integers x.c.declaration.name) (s.contents x.path x.c.declaration.name) port way) (s.captured x.path x.c.declaration.name port way) h
        ∙ (ap (read_or memory) e ∙ read_is memory path)

    pub nothing_shown : (memory : Memory) (path : List PathStep) → None ≡ shown_of path → pos 0 ≡ of_read design s given rho memory x.path (x.m, x.c) path
    nothing_shown memory path e = ap (read_or memory) e ∙ read_is memory path
