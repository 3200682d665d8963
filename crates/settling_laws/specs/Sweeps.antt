-- Sweeps over the leaves of a run (FIRRTL specification 3.0, "Registers", "Memories" and "Last Connect Semantics"): each leaf gets what its
-- sort asks for, all at once, from the valuation before.
use Rattle.std.specs.Prelude.{ℕ, zero, suc, List, [], ◌∷◌, find, ℤ, pos, Option, option_map, if◌then◌else◌}
use Rattle.bit_words.specs.declared.value.Value.{Value}
use Rattle.bit_words.specs.Values.{integer_of}
use Rattle.fir_types.specs.declared.leaf.TypeLeaf.{TypeLeaf}
use Rattle.fir_types.specs.declared.leaf.PathStep.{PathStep}
use Rattle.fir_types.specs.declared.leaf.PathStep.TheVariants as step
use Rattle.fir_types.specs.declared.memory.Memory.{Memory}
use Rattle.fir_types.specs.Leaves.{leaves}
use Rattle.fir_types.specs.Memories.{read_latency_of}
use Rattle.fir_meaning.specs.Components.{Design, TypedModule, Component, Leaf, Sort, An_input, An_output, A_wire, A_register, A_reset_register, A_memory, An_instance, A_node, flow_of, is_clock}
use Rattle.fir_meaning.specs.Values.{Valuation, scene_of, value}
use Rattle.fir_meaning.specs.Drives.{drives, same_way}
use Rattle.fir_meaning.specs.MemoryPorts.{read_by}
use Rattle.fir_meaning.specs.States.{State, Inputs, leaf_of, is_source, or_else, located, where_located}

-- What the statements of the component's block leave in the leaf of the module at this path, and 0 where they leave nothing.
abbrev pub left_in_block : Valuation → List ℕ → Leaf → TypedModule × Component → ℤ
left_in_block rho path leaf found = or_else (pos 0) (drives (scene_of found.0 path rho) leaf found.1.declaration.block)

-- The instances on a path, this one first: those before the last, and the last.
abbrev pub last_instance : ℕ → List ℕ → List ℕ × ℕ
last_instance i [] = ([], i)
last_instance i (j ∷ path) = let rest = last_instance j path in (i ∷ rest.0, rest.1)

-- A leaf of a port is, where the instance stands, one of the instance.
abbrev pub left_above : Design → Valuation → List ℕ × ℕ → Leaf → ℤ
left_above design rho above leaf =
    where_located (pos 0) (left_in_block rho above.0 (record { component = above.1; way = step.Field leaf.component ∷ leaf.way })) (located design above.0 above.1)

-- What comes into a module from outside: what is given to main, or what statements leave in the leaf of the instance.
abbrev pub from_outside : Design → Inputs → Valuation → List ℕ → Leaf → ℤ
from_outside design given rho [] leaf = given leaf.component leaf.way
from_outside design given rho (i ∷ path) leaf = left_above design rho (last_instance i path) leaf

-- the integer that stands beside the leaf at this way
abbrev pub integer_beside : List PathStep → List TypeLeaf → List Value → ℤ
integer_beside way (leaf ∷ rest) (v ∷ vs) = if same_way leaf.path way then integer_of v else integer_beside way rest vs
integer_beside way _ _ = pos 0

-- what is read now for latency 0, and else what was captured
abbrev pub by_latency : ℕ → ℤ → ℤ → ℤ
by_latency zero now before = now
by_latency (suc n) now before = before

-- the leaf of a component at this way
abbrev pub leaf_at : Component → List PathStep → Option TypeLeaf
leaf_at c way = find (λ leaf. same_way leaf.path way) (leaves c.typ)

module _ (design : Design) (s : State) (given : Inputs) (rho : Valuation) where
  -- A port's leaf that is a source in its module comes from outside.
  abbrev pub of_port : List ℕ → TypedModule × Component → TypeLeaf → ℤ
  of_port path found leaf =
      if is_source (flow_of found.1.declaration.sort leaf.flip) then from_outside design given rho path (leaf_of found.1 leaf) else left_in_block rho path (leaf_of found.1 leaf) found

  -- A read of latency 0 shows the contents at the beginning of the cycle, and one of latency 1 what was captured.
  abbrev pub of_read : Memory → List ℕ → TypedModule × Component → List PathStep → ℤ
  of_read memory path found (step.Field port ∷ (step.Field field ∷ way)) =
      by_latency (read_latency_of memory)
      (read_by memory ((scene_of found.0 path rho).integers found.1.declaration.name) (s.contents path found.1.declaration.name) port way)
      (s.captured path found.1.declaration.name port way)
  of_read memory path found _ = pos 0

  -- What each sort asks for. A leaf of an instance is one of a port in the instance's module, and nothing is asked here.
  abbrev pub of_sort : Sort → List ℕ → TypedModule × Component → TypeLeaf → ℤ
  of_sort An_input path found leaf = of_port path found leaf
  of_sort An_output path found leaf = of_port path found leaf
  of_sort A_wire path found leaf = left_in_block rho path (leaf_of found.1 leaf) found
  of_sort (A_register clock) path found leaf = s.registers path found.1.declaration.name leaf.path
  of_sort (A_reset_register clock reset init) path found leaf = s.registers path found.1.declaration.name leaf.path
  of_sort (A_memory memory) path found leaf = if leaf.flip then left_in_block rho path (leaf_of found.1 leaf) found else of_read memory path found leaf.path
  of_sort (An_instance target) path found leaf = pos 0
  of_sort (A_node e) path found leaf = integer_beside leaf.path (leaves found.1.typ) (value e (scene_of found.0 path rho))

  -- What a leaf of the component of a module at this path has after the sweep: a Clock 0, and else what the sort asks for.
  abbrev pub asked : List ℕ → TypedModule × Component → TypeLeaf → ℤ
  asked path found leaf = if is_clock leaf then pos 0 else of_sort found.1.declaration.sort path found leaf

  -- One sweep over all leaves of the run; 0 where there is no leaf.
  abbrev pub sweep : Valuation
  sweep path name way = where_located (pos 0) (λ found. or_else (pos 0) (option_map (asked path found) (leaf_at found.1 way))) (located design path name)

-- So many sweeps, from the valuation that is 0 everywhere.
abbrev pub swept : Design → State → Inputs → ℕ → Valuation
swept design s given zero = λ path name way. pos 0
swept design s given (suc n) = sweep design s given (swept design s given n)
