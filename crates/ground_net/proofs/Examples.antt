-- Small nets: what is settled, and the next state.
use Rattle.std.proofs.Common.{◌≡◌, ℕ, min, [], ◌∷◌, Option, Some, None, arith, pos, ◌==◌, if◌then◌else◌, Bool, true, false, refl, ◌+◌, ◌*◌, ◌^◌}
use Rattle.std.proofs.Math.Nat.{min-le_right}
use Rattle.std.proofs.lemmas.Grind.{common_steps}
use Rattle.bit_words.specs.declared.value.Kind.TheVariants.{Unsigned}
use Rattle.bit_words.specs.declared.value.Value.{Value}
use Rattle.prim_ops.specs.declared.operation.PrimOp.TheVariants.{Add, Tail}
use Rattle.prim_ops.specs.Values.{fitted}
use Rattle.ground_net.specs.declared.ground.Ground.{Ground, the_lemmas}
use Rattle.ground_net.specs.declared.ground.Ground.TheVariants as ground
use Rattle.ground_net.specs.declared.net.Leaf.{Leaf}
use Rattle.ground_net.specs.declared.net.Role.{Role}
use Rattle.ground_net.specs.declared.net.Role.TheVariants as role
use Rattle.ground_net.specs.declared.net.Net.{Net}
use Rattle.ground_net.specs.declared.net.NetMemory.{NetMemory}
use Rattle.ground_net.specs.declared.net.NetPort.{NetPort}
use Rattle.ground_net.specs.declared.net.NetWrite.{NetWrite}
use Rattle.ground_net.specs.declared.net.NetRead.{NetRead}
use Rattle.ground_net.specs.Grounds.{Instant, value}
use Rattle.ground_net.specs.Cycles.{NetState, Valuation, instant_of, next}
use Rattle.ground_net.specs.Shapes.{shaped}
use Rattle.ground_net.specs.Words.{words_of_value, all_word_widths, AreStateWords}

abbrev pub v : ℕ → ℕ → Value
v width n = fitted Unsigned width (pos n)

abbrev pub leaf : ℕ → Role → Leaf
leaf width r = record { name = []; kind = Unsigned; width = min width 128; place = record { line = 1; column = 1 }; role = r; narrow = min-le_right width 128 }

abbrev pub constant : ℕ → ℕ → Ground
constant width n = ground.Const (v width n)

-- the state in which the first two registers hold these, and the element 2 of each memory holds the third
abbrev holding : ℕ → ℕ → ℕ → NetState
holding a b c = record {
  registers = λ k. if k == 0 then pos a else pos b;
  contents = λ m element k. if element == 2 then pos c else pos 0;
  captured = λ n. pos 0;
}

-- A counter of four bits: the leaves are a reset (0), an output (1) and the register (2).
abbrev counter : Net
counter = record {
  ports = 2;
  leaves = leaf 1 (role.Input 0) ∷ leaf 4 role.Assigned ∷ leaf 4 (role.Register 0) ∷ [];
  drivers = None ∷ Some (ground.Leaf 2) ∷ Some (ground.Op Tail (ground.Op Add (ground.Leaf 2 ∷ constant 4 1 ∷ []) [] ∷ []) (1 ∷ [])) ∷ [];
  registers = record { leaf = 2; reset = Some (record { reset = ground.Leaf 0; init = constant 4 0 }) } ∷ [];
  memories = [];
}

-- what is settled where the reset is given and the register holds n
abbrev counting : ℕ → ℕ → Valuation
counting reset n x = if x == 0 then v 1 reset else v 4 n

abbrev counted : ℕ → ℕ → NetState
counted reset n = next counter (holding n 0 0) (instant_of counter (holding n 0 0) (counting reset n))

counter_shows : value (ground.Leaf 2) (instant_of counter (holding 7 0 0) (counting 0 7)) ≡ v 4 7
counter_shows = grind (arith, common_steps, the_lemmas)

counter_counts : (counted 0 7).registers 0 ≡ pos 8
counter_counts = grind (arith, common_steps, the_lemmas)

counter_wraps : (counted 0 15).registers 0 ≡ pos 0
counter_wraps = grind (arith, common_steps, the_lemmas)

counter_resets : (counted 1 7).registers 0 ≡ pos 0
counter_resets = grind (arith, common_steps, the_lemmas)

-- Two registers, each driven by the other.
abbrev swapping : Net
swapping = record {
  ports = 0;
  leaves = leaf 4 (role.Register 0) ∷ leaf 4 (role.Register 1) ∷ [];
  drivers = Some (ground.Leaf 1) ∷ Some (ground.Leaf 0) ∷ [];
  registers = record { leaf = 0; reset = None } ∷ record { leaf = 1; reset = None } ∷ [];
  memories = [];
}

abbrev swapped : NetState
swapped = next swapping (holding 3 5 0) (instant_of swapping (holding 3 5 0) (λ x. if x == 0 then v 4 3 else v 4 5))

first_takes_second : swapped.registers 0 ≡ pos 5
first_takes_second = grind (arith, common_steps, the_lemmas)

second_takes_first : swapped.registers 1 ≡ pos 3
second_takes_first = grind (arith, common_steps, the_lemmas)

-- A memory of four elements of eight bits: a reader (leaves 0 to 2), and writers with the leaves 3 to 6 and 7 to 10.
abbrev port : ℕ → Option NetWrite → Option NetRead → NetPort
port addr write read = record { addr = addr; en = addr + 1; mode = None; write = write; read = read }

abbrev memory : Bool → Bool → NetMemory
memory captured after = record {
  name = [];
  before = 0;
  depth = 4;
  word = 0;
  elements = record { path = []; kind = Unsigned; width = 8; narrow = min-le_right 8 128 } ∷ [];
  ports = port 0 None (Some (record { leaves = 2 ∷ []; captured = captured; after = after }))
      ∷ port 3 (Some (record { leaves = 5 ∷ []; masks = 6 ∷ [] })) None
      ∷ port 7 (Some (record { leaves = 9 ∷ []; masks = 10 ∷ [] })) None ∷ [];
}

abbrev with_memory : Bool → Bool → Net
with_memory captured after = record { ports = 0; leaves = []; drivers = []; registers = []; memories = memory captured after ∷ [] }

-- All ports speak of the element 2; the first writer writes `d` where its mask is 1, the second 77 where it is on.
abbrev lines : ℕ → ℕ → ℕ → Valuation
lines d mask on x =
    if x == 0 then v 2 2 else if x == 3 then v 2 2 else if x == 7 then v 2 2
    else if x == 5 then v 8 d else if x == 6 then v 1 mask else if x == 9 then v 8 77 else if x == 8 then v 1 on else v 1 1

abbrev written : ℕ → ℕ → ℕ → Bool → NetState
written d mask on after = next (with_memory true after) (holding 0 0 4) (instant_of (with_memory true after) (holding 0 0 4) (lines d mask on))

one_writes : (written 6 1 0 false).contents 0 2 0 ≡ pos 6
one_writes = grind (arith, common_steps, the_lemmas)

later_port_wins : (written 6 1 1 false).contents 0 2 0 ≡ pos 77
later_port_wins = grind (arith, common_steps, the_lemmas)

masked_write_drops : (written 6 0 0 false).contents 0 2 0 ≡ pos 4
masked_write_drops = grind (arith, common_steps, the_lemmas)

other_elements_stay : (written 6 1 1 false).contents 0 3 0 ≡ pos 0
other_elements_stay = grind (arith, common_steps, the_lemmas)

captured_old : (written 6 1 0 false).captured 0 ≡ pos 4
captured_old = grind (arith, common_steps, the_lemmas)

captured_new : (written 6 1 0 true).captured 0 ≡ pos 6
captured_new = grind (arith, common_steps, the_lemmas)

-- A load at the address 2 gives what the element holds, and 0 where the condition is 0.
abbrev load : ℕ → Ground
load on = ground.Load 0 0 (constant 2 2 ∷ constant 1 on ∷ [])

abbrev loading : Instant
loading = instant_of (with_memory false false) (holding 0 0 9) (λ x. v 1 0)

loads : value (load 1) loading ≡ v 8 9
loads = grind (arith, common_steps, the_lemmas)

loads_nothing : value (load 0) loading ≡ v 8 0
loads_nothing = grind (arith, common_steps, the_lemmas)

-- A choice of four values by three conditions takes the value behind the first condition that is 1.
abbrev choice : ℕ → ℕ → ℕ → Ground
choice a b c = ground.Mux (constant 1 a ∷ constant 8 10 ∷ constant 1 b ∷ constant 8 20 ∷ constant 1 c ∷ constant 8 30 ∷ constant 8 40 ∷ [])

chooses_second : value (choice 0 1 1) loading ≡ v 8 20
chooses_second = grind (arith, common_steps, the_lemmas)

chooses_last : value (choice 0 0 0) loading ≡ v 8 40
chooses_last = grind (arith, common_steps, the_lemmas)

-- A selection gives 0 past its last item.
abbrev selection : ℕ → Ground
selection i = ground.Select (constant 2 i ∷ []) (constant 8 10 ∷ constant 8 20 ∷ constant 8 30 ∷ [])

selects : value (selection 2) loading ≡ v 8 30
selects = grind (arith, common_steps, the_lemmas)

selects_nothing : value (selection 3) loading ≡ v 8 0
selects_nothing = grind (arith, common_steps, the_lemmas)

-- A value of 128 bits has two words, the low one first.
two_words : words_of_value (v 128 (2 ^ 64 * 5 + 7)) ≡ 7 ∷ 5 ∷ []
two_words = refl

one_word : words_of_value (v 64 7) ≡ 7 ∷ []
one_word = refl

-- A register of 70 bits has a low word of 64 bits and a high one of 6, and one of no bits has a word of none.
widths_of_words : all_word_widths (shaped Unsigned 70 ∷ shaped Unsigned 0 ∷ []) ≡ 64 ∷ 6 ∷ 0 ∷ []
widths_of_words = refl

-- The counter's state has one word of four bits.
counter_words : AreStateWords counter (15 ∷ [])
counter_words = grind (arith, common_steps, the_lemmas)

counter_words_within : AreStateWords counter (16 ∷ []) → ⊥
counter_words_within h = grind (arith, common_steps, the_lemmas)
