-- A memory of four elements with a writer w (51) and a reader r (50). Each element is { x : UInt<8>, y : UInt<8> }, with x 30 and y 31.
use Rattle.std.specs.Prelude.{ℕ, ◌==◌, [], ◌∷◌, pos, if◌then◌else◌}
use Rattle.fir_types.specs.declared.leaf.PathStep.TheVariants as step
use Rattle.fir_types.specs.declared.memory.Memory.{Memory}
use Rattle.fir_types.specs.declared.memory.MemLine.TheVariants as line
use Rattle.fir_types.specs.declared.memory.PortMode.TheVariants as mode
use Rattle.fir_types.specs.Bundles.{addr_name, mask_name}
use Rattle.fir_meaning.specs.MemoryPorts.{Contents, Leaves}
use Rattle.definition_examples.specs.Samples.{place, name, uint, bundle, plain}

abbrev pub of_pairs : Memory
of_pairs = record {
  name = name 40;
  lines =
      line.Element place (bundle (plain 30 (uint 8) ∷ plain 31 (uint 8) ∷ [])) ∷ line.Depth place 4 ∷ line.ReadLatency place 0 ∷ line.WriteLatency place 1
      ∷ line.MemPort place mode.Reader (name 50) ∷ line.MemPort place mode.Writer (name 51) ∷ [];
}

-- Both ports are set, at the element 2. The writer's masks of x and of y are these, and its data 9 each.
abbrev pub masked : ℕ → ℕ → Leaves
masked of_x of_y (step.Field port ∷ step.Field field ∷ []) = if field == addr_name then pos 2 else pos 1
masked of_x of_y (step.Field port ∷ step.Field field ∷ step.Field part ∷ []) = if field == mask_name then (if part == 30 then pos of_x else pos of_y) else pos 9
masked of_x of_y _ = pos 0

-- every leaf of every element holds 4
abbrev pub fours : Contents
fours element way = pos 4
