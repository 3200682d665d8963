-- A memory of four elements, with a reader r (50) and two writers w (51) and z (52) that write the element 2.
use Rattle.std.proofs.Common.{◌≡◌, ℕ, [], ◌∷◌, arith, ℤ, pos, ◌==◌, if◌then◌else◌}
use Rattle.std.proofs.lemmas.Grind.{common_steps}
use Rattle.fir_types.specs.declared.leaf.PathStep.TheVariants as step
use Rattle.fir_types.specs.declared.memory.Memory.{Memory}
use Rattle.fir_types.specs.declared.memory.MemLine.TheVariants as line
use Rattle.fir_types.specs.declared.memory.PortMode.TheVariants as mode
use Rattle.fir_types.specs.declared.memory.Under.{Under}
use Rattle.fir_types.specs.declared.memory.Under.TheVariants as under
use Rattle.fir_types.specs.Bundles.{nowhere, addr_name, en_name, mask_name, wmode_name, wdata_name}
use Rattle.fir_meaning.specs.Components.{Component, A_memory}
use Rattle.fir_meaning.specs.Values.{Scene}
use Rattle.fir_meaning.specs.MemoryPorts.{Contents, Leaves, after_writes, read_by}
use Rattle.fir_meaning.specs.States.{next_of_memory, next_of_port}
use Rattle.fir_meaning.proofs.Samples.{place, name, uint}

abbrev memory : ℕ → Under → Memory
memory latency under = record {
  name = name 40;
  lines =
      line.Element place (uint 8) ∷ line.Depth place 4 ∷ line.ReadLatency place latency ∷ line.WriteLatency place 1
      ∷ line.MemPort place mode.Reader (name 50) ∷ line.MemPort place mode.Writer (name 51) ∷ line.MemPort place mode.Writer (name 52)
      ∷ line.ReadUnder place under ∷ [];
}

-- r reads the element 2; w writes `d` into the element 2 in every cycle, and z writes 77 into it where `both` is 1.
abbrev field_of : ℕ → ℕ → ℕ → ℕ → ℤ
field_of d both port field =
    if field == addr_name then pos 2
    else if field == en_name then (if port == 52 then pos both else pos 1)
    else if field == mask_name then pos 1
    else if port == 51 then pos d else pos 77

abbrev lines : ℕ → ℕ → Leaves
lines d both (step.Field port ∷ step.Field field ∷ []) = field_of d both port field
lines d both _ = pos 0

-- the element 2 holds this, and the others 0
abbrev holding : ℕ → Contents
holding n element way = if element == 2 then pos n else pos 0

-- With d = 5 both writers write one leaf of one element: the later port's 77 stays.
later_port_wins : after_writes (memory 1 under.Old) (lines 5 1) (holding 4) 2 [] ≡ pos 77
later_port_wins = grind (arith, common_steps)

-- With d = 6 the writer z is off.
one_port_writes : after_writes (memory 1 under.Old) (lines 6 0) (holding 77) 2 [] ≡ pos 6
one_port_writes = grind (arith, common_steps)

others_stay : after_writes (memory 1 under.Old) (lines 5 1) (holding 4) 3 [] ≡ pos 0
others_stay = grind (arith, common_steps)

abbrev component : ℕ → Under → Component
component latency under = record { declaration = record { name = 40; place = nowhere; sort = A_memory (memory latency under); block = []; behind = [] }; typ = uint 1 }

abbrev scene : ℕ → ℕ → Scene
scene d both = record { types = λ c. uint 1; integers = λ c way. lines d both way }

-- `old` takes what the element held before the writes, as `undefined` does, and `new` what it holds after them.
takes_old : next_of_port (scene 5 1) (component 1 under.Old) (A_memory (memory 1 under.Old)) (holding 4) 50 [] ≡ pos 4
takes_old = grind (arith, common_steps)

takes_undefined : next_of_port (scene 5 1) (component 1 under.Undefined) (A_memory (memory 1 under.Undefined)) (holding 4) 50 [] ≡ pos 4
takes_undefined = grind (arith, common_steps)

takes_new : next_of_port (scene 5 1) (component 1 under.New) (A_memory (memory 1 under.New)) (holding 4) 50 [] ≡ pos 77
takes_new = grind (arith, common_steps)

holds_next : next_of_memory (scene 5 1) (component 1 under.Old) (A_memory (memory 1 under.Old)) (holding 4) 2 [] ≡ pos 77
holds_next = grind (arith, common_steps)

-- A read of latency 0 shows the contents before the writes, whatever the line `read-under-write` says.
shows_before : read_by (memory 0 under.New) (lines 5 1) (holding 4) 50 [] ≡ pos 4
shows_before = grind (arith, common_steps)

-- A reader whose `en` is 0 reads 0, and so does one whose address is past the depth; a write there does nothing.
abbrev off : Leaves
off (step.Field port ∷ step.Field field ∷ []) = if field == en_name then pos 0 else pos 2
off _ = pos 0

off_reads_0 : read_by (memory 0 under.Old) off (holding 4) 50 [] ≡ pos 0
off_reads_0 = grind (arith, common_steps)

abbrev past : Leaves
past (step.Field port ∷ step.Field field ∷ []) = if field == addr_name then pos 4 else pos 1
past _ = pos 0

abbrev ones : Contents
ones element way = pos 1

past_reads_0 : read_by (memory 0 under.Old) past ones 50 [] ≡ pos 0
past_reads_0 = grind (arith, common_steps)

past_writes_nothing : after_writes (memory 1 under.Old) past (holding 4) 4 [] ≡ pos 0
past_writes_nothing = grind (arith, common_steps)

-- A readwriter (53) reads where `wmode` is 0, and writes where it is 1.
abbrev single : Memory
single = record { name = name 40; lines = line.Depth place 4 ∷ line.MemPort place mode.ReadWriter (name 53) ∷ [] }

abbrev two_modes : ℕ → Leaves
two_modes wmode (step.Field port ∷ step.Field field ∷ []) = if field == addr_name then pos 2 else if field == wmode_name then pos wmode else if field == wdata_name then pos 9 else pos 1
two_modes wmode _ = pos 0

mode_0_reads : read_by single (two_modes 0) (holding 4) 53 [] ≡ pos 4
mode_0_reads = grind (arith, common_steps)

mode_0_writes_nothing : after_writes single (two_modes 0) (holding 4) 2 [] ≡ pos 4
mode_0_writes_nothing = grind (arith, common_steps)

mode_1_writes : after_writes single (two_modes 1) (holding 4) 2 [] ≡ pos 9
mode_1_writes = grind (arith, common_steps)

mode_1_reads_0 : read_by single (two_modes 1) (holding 4) 53 [] ≡ pos 0
mode_1_reads_0 = grind (arith, common_steps)
