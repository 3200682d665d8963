-- Code that grows: each instruction writes slots that no earlier one writes, and reads what was written before.
use Rattle.std.specs.Prelude.{◌≡◌, ℕ, ◌+◌, ◌*◌, ◌/◌, ◌%◌, ◌^◌, ◌<◌, ◌≤◌, Bool, true, false, List, [], ◌∷◌, ◌++◌, length, slice_index, pos, All}
use Rattle.bit_words.specs.declared.value.Kind.{Kind}
use Rattle.bit_words.specs.declared.value.Value.{Value}
use Rattle.phase_core.specs.declared.model.Publication.{Publication}
use Rattle.prim_ops.specs.Values.{fitted}
use Rattle.ground_net.specs.Shapes.{Shape, shaped, shape_of_value}
use Rattle.ground_net.specs.Words.{value_at}
use Rattle.flat_code.specs.declared.instr.Op.{Op}
use Rattle.flat_code.specs.declared.instr.Op.TheVariants as op
use Rattle.flat_code.specs.declared.instr.Instr.{Instr}
use Rattle.flat_code.specs.declared.instr.Location.{Location}
use Rattle.flat_code.specs.declared.instr.Wide.{Wide}
use Rattle.flat_code.specs.declared.instr.Form.{Form}
use Rattle.flat_code.specs.Meaning.{location_shape, location_values, form_value, word_on, input_word, input_high}
use Rattle.flat_code.specs.Fine.{AreFine, IsLocation, IsWide, IsPort, Known, nothing, written, AreKnown, reads_on, location_slots, further_words}
use Rattle.flat_code.specs.Orders.{Single, Solves, pushed_all}
use Rattle.code_draft.specs.declared.draft.Draft.{Draft}

-- the slots that the instructions write
abbrev pub written_in : Draft → Known
written_in d = written nothing d.wides d.instrs

-- what the instructions publish at a frame
abbrev pub pushed_in : Draft → List ℕ → List Publication
pushed_in d F = pushed_all d.ports d.instrs F

-- Code in order: every number is that of a slot, a shared word or an entry of its table; each slot is written once, and before it is read.
pub record IsDraft (d : Draft) : Type 0 where
  pub fine : AreFine d.slots d.words (length d.ports) (length d.wides) d.instrs
  pub single : Single nothing d.ports d.wides d.instrs
  pub below : (k : ℕ) → written_in d k ≡ true → k < d.slots
  pub ports : All (IsPort d.slots d.words) d.ports
  pub wides : All (IsWide d.slots d.words) d.wides

-- The frame stays as it is under each instruction, where the shared words are words.
pub record Solved (d : Draft) (words : List ℕ) (inputs : List Value) (F : List ℕ) : Type 0 where
  pub long : d.slots ≤ length F
  pub plain : (k : ℕ) → slice_index words k < 2 ^ 64
  pub each : All (Solves d.wides words inputs F) d.instrs

-- Code that goes on from other code, and publishes what that publishes and no more.
pub record Grows (old new : Draft) : Type 0 where
  pub is : IsDraft new
  pub words : new.words ≡ old.words
  pub slots : old.slots ≤ new.slots
  pub stays : (k : ℕ) → written_in old k ≡ true → written_in new k ≡ true
  pub back : (words : List ℕ) (inputs : List Value) (F : List ℕ) → Solved new words inputs F → Solved old words inputs F
  pub quiet : (F : List ℕ) → pushed_in new F ≡ pushed_in old F

-- The words of a value stand at a location of its kind and width.
pub record Holds (F : List ℕ) (s : Location) (v : Value) : Type 0 where
  pub shape : shape_of_value v ≡ location_shape s
  pub low : slice_index F s.low ≡ v.bits % 2 ^ 64
  pub high : 64 < s.width → slice_index F s.high ≡ v.bits / 2 ^ 64

-- A location whose slots are written.
pub record Stands (d : Draft) (s : Location) : Type 0 where
  pub within : IsLocation d.slots s
  pub written : AreKnown (written_in d) (location_slots s)

-- What is wanted at a location, of the shared words, the inputs and the frame.
abbrev pub Wanted : Type 1
Wanted = List ℕ → List Value → List ℕ → Value → Type 0

-- Code that goes on, with a location where the wanted value stands.
pub record Makes (old new : Draft) (s : Location) (V : Wanted) : Type 0 where
  pub grows : Grows old new
  pub stands : Stands new s
  pub holds : (words : List ℕ) (inputs : List Value) (F : List ℕ) (v : Value) → Solved new words inputs F → V words inputs F v → Holds F s v

-- The code with one thing more

abbrev pub with_instr : Draft → Instr → Draft
with_instr d i = record { instrs = d.instrs ++ i ∷ []; ports = d.ports; wides = d.wides; slots = d.slots; words = d.words }

abbrev pub with_wide : Draft → Wide → Draft
with_wide d w = record { instrs = d.instrs; ports = d.ports; wides = d.wides ++ w ∷ []; slots = d.slots; words = d.words }

abbrev pub with_slots : Draft → ℕ → Draft
with_slots d n = record { instrs = d.instrs; ports = d.ports; wides = d.wides; slots = d.slots + n; words = d.words }

-- the location of a kind and a width from a slot on
abbrev pub location_from : ℕ → Kind → ℕ → Location → Type 0
location_from slot kind width s = (location_shape s ≡ shaped kind width) × (s.low ≡ slot) × (s.high ≡ slot + further_words width)

-- What can be fetched

-- the value of the input of this number, fitted to a kind and width, 0 where there is none
abbrev pub input_value : Shape → List Value → ℕ → Value
input_value s inputs n = fitted s.kind s.width (pos (input_word inputs n + input_high inputs n * 2 ^ 64))

abbrev pub IsConstant : Value → Wanted
IsConstant c words inputs F v = v ≡ c

abbrev pub IsWord : Shape → ℕ → Wanted
IsWord s at words inputs F v = v ≡ value_at s words at

abbrev pub IsInput : Shape → ℕ → Wanted
IsInput s n words inputs F v = v ≡ input_value s inputs n

-- the value of a form on what stands at locations, where it has this shape
abbrev pub IsForm : Form → Location → List Location → Shape → Wanted
IsForm form t operands s words inputs F v = (v ≡ form_value form t words (location_values F operands)) × (shape_of_value v ≡ s)

-- What can be computed

-- the operations that give a word of the words in their slots and of nothing else
abbrev pub computes : Op → Bool
computes op.Constant = true
computes op.Keep = true
computes op.Add = true
computes op.Sub = true
computes op.Mul = true
computes op.Quotient = true
computes op.Remainder = true
computes op.LeftBy = true
computes op.RightBy = true
computes op.RightSigned = true
computes op.Below = true
computes op.And = true
computes op.Or = true
computes op.Xor = true
computes op.Not = true
computes op.IsMask = true
computes op.Parity = true
computes op.Equal = true
computes op.Less = true
computes op.Mux = true
computes op.Right = true
computes op.Left = true
computes op.Join = true
computes op.Extend = true
computes _ = false

-- An instruction that computes from slots that are written.
pub record Computes (d : Draft) (i : Instr) : Type 0 where
  pub plain : computes i.op ≡ true
  pub known : AreKnown (written_in d) (reads_on i.op d.ports d.wides i)
  pub shift : i.shift < 64

-- the word that it computes at a frame
abbrev pub word_in : Instr → List ℕ → List Value → List ℕ → ℕ
word_in i words inputs F = word_on i.op i words inputs (slice_index F i.first) (slice_index F i.second) (slice_index F i.third)

-- Code that goes on, with a slot where the word stands that an instruction computes.
pub record Works (old new : Draft) (i : Instr) (slot : ℕ) : Type 0 where
  pub grows : Grows old new
  pub within : slot < new.slots
  pub written : written_in new slot ≡ true
  pub holds : (words : List ℕ) (inputs : List Value) (F : List ℕ) → Solved new words inputs F → slice_index F slot ≡ word_in i words inputs F

-- the instruction with another target
abbrev pub at_slot : ℕ → Instr → Instr
at_slot slot i = record { op = i.op; shift = i.shift; first = i.first; second = i.second; third = i.third; target = slot; mask = i.mask }
