-- Words that are made of words, and the values that they are.
use Rattle.std.specs.Prelude.{◌≡◌, ℕ, ◌-◌, ◌/◌, ◌%◌, ◌^◌, ◌<◌, ◌≤◌, ◌⊎◌, Bool, true, if◌then◌else◌, List, [], ◌∷◌, length, slice_index, Some, All, bit_and}
use Rattle.bit_words.specs.declared.value.Kind.{Kind}
use Rattle.bit_words.specs.declared.value.Kind.TheVariants.{Unsigned}
use Rattle.bit_words.specs.declared.value.Value.{Value}
use Rattle.bit_words.specs.Values.{integer_of, bits_of}
use Rattle.prim_ops.specs.declared.operation.PrimOp.{PrimOp}
use Rattle.prim_ops.specs.Results.{integer_result}
use Rattle.prim_ops.specs.Values.{fitted, lone, operation}
use Rattle.ground_net.specs.Shapes.{Shape, shaped, shape_of_value, shape_of_row}
use Rattle.flat_code.specs.declared.instr.Op.{Op}
use Rattle.flat_code.specs.declared.instr.Instr.{Instr}
use Rattle.flat_code.specs.declared.instr.Location.{Location}
use Rattle.flat_code.specs.Meaning.{location_value, location_values}
use Rattle.flat_code.specs.Fine.{location_shapes, location_slots, slots_of}
use Rattle.code_draft.specs.declared.draft.Draft.{Draft}
use Rattle.code_draft.specs.Segments.{Segment, Step}
use Rattle.code_draft.specs.Drafts.{Stands, Wanted, written_in, Computes, word_in}
use Rattle.code_emit.specs.declared.ways.Way.{Way}
use Rattle.code_emit.specs.declared.ways.Way.TheVariants as way
use Rattle.code_emit.specs.declared.pairs.Pair.{Pair}
use Rattle.code_emit.specs.Working.{working, from_slot, from_slots}

-- The low word of a location is below 2 to the power of its width, as that of a value is.
abbrev pub Cut : List ℕ → Location → Type 0
Cut F s = slice_index F s.low < 2 ^ s.width

-- what is made of values
abbrev pub Given : Type 0
Given = List Value → Value

-- the value of a row of the table
abbrev pub row_value : PrimOp → List ℕ → Given
row_value prim params values = operation prim values params

-- one value, fitted to a kind and a width
abbrev pub fit_of_one : Kind → ℕ → Given
fit_of_one kind width values = fitted kind width (integer_of (lone values))

-- The value that is made of what stands at locations, where it has this shape and the locations' words are cut.
abbrev pub IsMade : Given → List Location → Shape → Wanted
IsMade R locations s words inputs F v = (v ≡ R (location_values F locations)) × (shape_of_value v ≡ s) × All (Cut F) locations

-- A slot where the word of what is made of the locations' values stands already.
pub record Rests (slot : ℕ) (locations : List Location) (R : Given) : Type 0 where
  pub written : (d : Draft) → All (Stands d) locations → written_in d slot ≡ true
  pub gives : (F : List ℕ) → All (Cut F) locations → slice_index F slot ≡ (R (location_values F locations)).bits

-- An instruction that computes it.
pub record Operates (i : Instr) (locations : List Location) (R : Given) : Type 0 where
  pub computes : (d : Draft) → All (Stands d) locations → Computes d i
  pub gives : (words : List ℕ) (inputs : List Value) (F : List ℕ) → All (Cut F) locations → word_in i words inputs F ≡ (R (location_values F locations)).bits

-- Two instructions, of which the second computes it from the word that the first gives.
pub record Follow (i next : Instr) (locations : List Location) (R : Given) : Type 0 where
  pub computes : (d : Draft) → All (Stands d) locations → Computes d i
  pub then_computes : (d : Draft) (k : ℕ) → written_in d k ≡ true → Computes d (from_slot k next)
  pub gives : (words : List ℕ) (inputs : List Value) (F : List ℕ) (k : ℕ) → All (Cut F) locations → slice_index F k ≡ word_in i words inputs F
      → word_in (from_slot k next) words inputs F ≡ (R (location_values F locations)).bits

abbrev pub IsWay : Way → List Location → Given → Type 0
IsWay (way.Same slot) locations R = Rests slot locations R
IsWay (way.Word i) locations R = Operates i locations R
IsWay (way.Twice i next) locations R = Follow i next locations R

-- An instruction that computes the word of a location's value: the lowest 64 bits of its integer.
pub record GivesWord (i : Instr) (x : Location) : Type 0 where
  pub computes : (d : Draft) → Stands d x → Computes d i
  pub gives : (words : List ℕ) (inputs : List Value) (F : List ℕ) → Cut F x → word_in i words inputs F ≡ bits_of 64 (integer_of (location_value F x))

-- A pair whose first two instructions give the words of two locations' values, and whose last one is this operation.
pub record IsBoth (p : Pair) (x y : Location) (o : Op) (mask : ℕ) (turned : Bool) : Type 0 where
  pub first : GivesWord p.first x
  pub second : GivesWord p.second y
  pub last : p.last ≡ working o 0 0 0 0 mask
  pub is_turned : p.turned ≡ turned

-- the other bit, where it is turned round
abbrev pub turned_if : Bool → ℕ → ℕ
turned_if turned word = if turned then bit_and (2 ^ 64 - 1 - word) 1 else word

-- Two instructions, and a last one that computes it from the words that they give.
pub record IsPair (p : Pair) (locations : List Location) (R : Given) : Type 0 where
  pub first_computes : (d : Draft) → All (Stands d) locations → Computes d p.first
  pub second_computes : (d : Draft) → All (Stands d) locations → Computes d p.second
  pub last_computes : (d : Draft) (k l : ℕ) → written_in d k ≡ true → written_in d l ≡ true → Computes d (from_slots k l p.last)
  pub gives : (words : List ℕ) (inputs : List Value) (F : List ℕ) (k l : ℕ) → All (Cut F) locations → slice_index F k ≡ word_in p.first words inputs F → slice_index F l ≡ word_in p.second words inputs F
      → turned_if p.turned (word_in (from_slots k l p.last) words inputs F) ≡ (R (location_values F locations)).bits

-- It is a pair of an operation, where that has a row of this width.
abbrev pub PairsRow : Pair → PrimOp → List ℕ → List Location → ℕ → Type 0
PairsRow p prim params locations width = (kind : Kind) → shape_of_row prim params (location_shapes locations) ≡ Some (shaped kind width) → IsPair p locations (row_value prim params)

-- Two operands, of one slot each.
pub record AreTwo (locations : List Location) : Type 0 where
  pub two : length locations ≡ 2
  pub one_each : length (slots_of locations) ≡ 2

-- What is computed of operands is a step, or a segment of two operands of one slot each: so at most two slots for each operand are live at once.
abbrev pub Reckons : List Location → Draft → Draft → Location → Type 0
Reckons locations old new s = Step old new (slots_of locations) (location_slots s) 2 ⊎ (AreTwo locations × Segment old new (slots_of locations) (location_slots s) 2)

-- It is a way of an operation, where that has a row of this width.
abbrev pub GivesRow : Way → PrimOp → List ℕ → List Location → ℕ → Type 0
GivesRow w prim params locations width = (kind : Kind) → shape_of_row prim params (location_shapes locations) ≡ Some (shaped kind width) → IsWay w locations (row_value prim params)

-- a UInt of at most 64 bits
pub record IsPlain (s : Location) : Type 0 where
  pub kind : s.kind ≡ Unsigned
  pub few : s.width ≤ 64

-- What is made of a location's value has the bits of its integer, cut to a width.
abbrev pub Refits : Location → ℕ → Given → Type 0
Refits x width R = (F : List ℕ) → (R (location_value F x ∷ [])).bits ≡ bits_of width (integer_of (location_value F x))

-- It has the bits from this one on, cut to a width.
abbrev pub Shifts : Location → ℕ → ℕ → Given → Type 0
Shifts x low width R = (F : List ℕ) → (R (location_value F x ∷ [])).bits ≡ (location_value F x).bits / 2 ^ low % 2 ^ width

-- It has the lowest bits of the integer that an operation gives, so many of them.
abbrev pub IsLowest : PrimOp → List ℕ → ℕ → List Location → Given → Type 0
IsLowest prim params width locations R = (F : List ℕ) → (R (location_values F locations)).bits ≡ bits_of width (integer_result prim (location_values F locations) params)

-- A location of at most 64 bits whose word has the lowest bits of its value's integer, so many of them: that of a UInt is the integer, and
-- that of an SInt has no bits above its width.
pub record KeepsLowest (s : Location) (width : ℕ) : Type 0 where
  pub few : s.width ≤ 64
  pub low : (s.kind ≡ Unsigned) ⊎ (width ≤ s.width)
