-- A net whose state has words of each sort.
use Rattle.std.specs.Prelude.{ℕ, ◌+◌, ◌-◌, ◌*◌, ◌^◌, ◌==◌, min, true, false, [], ◌∷◌, Some, None, ℤ, pos, negsuc, if◌then◌else◌}
use Rattle.std.proofs.Math.Nat.{min-le_right}
use Rattle.bit_words.specs.declared.value.Kind.TheVariants.{Unsigned, Signed}
use Rattle.ground_net.specs.declared.net.Role.{Role}
use Rattle.ground_net.specs.declared.net.Role.TheVariants as role
use Rattle.ground_net.specs.declared.net.Leaf.{Leaf}
use Rattle.ground_net.specs.declared.net.Net.{Net}
use Rattle.ground_net.specs.declared.net.NetMemory.{NetMemory}
use Rattle.ground_net.specs.declared.net.NetPort.{NetPort}
use Rattle.ground_net.specs.declared.net.ElementLeaf.{ElementLeaf}
use Rattle.ground_net.specs.Cycles.{NetState}
use Rattle.definition_examples.specs.Circuits.{leaf}

-- an unsigned leaf of an element
abbrev pub part : ℕ → ElementLeaf
part width = record { path = []; kind = Unsigned; width = min width 128; narrow = min-le_right width 128 }

-- a reader whose data come a cycle later, of two leaves
abbrev pub pair_reader : NetPort
pair_reader = record { addr = 0; en = 1; mode = None; write = None; read = Some (record { leaves = 5 ∷ 6 ∷ []; captured = true; after = false }) }

-- two elements of a leaf of 8 bits and one of 80
abbrev pub pairs : NetMemory
pairs = record { name = []; before = 5; depth = 2; word = 5; elements = part 8 ∷ part 80 ∷ []; ports = pair_reader ∷ [] }

-- three elements of 4 bits, and no ports
abbrev pub marks : NetMemory
marks = record { name = []; before = 7; depth = 3; word = 11; elements = part 4 ∷ []; ports = [] }

-- a signed leaf
abbrev pub signed_leaf : ℕ → Role → Leaf
signed_leaf width r = record (leaf width r) { kind = Signed }

-- An address (leaf 0) and `en` (1); registers of 100 bits (2), of 64 (3), and of 65 with a sign (4); and the data of a reader (5 and 6).
abbrev pub keeping : Net
keeping = record {
  ports = 2;
  leaves = leaf 1 (role.Input 0) ∷ leaf 1 (role.Input 1)
      ∷ leaf 100 (role.Register 0) ∷ leaf 64 (role.Register 1) ∷ signed_leaf 65 (role.Register 2)
      ∷ leaf 8 (role.Captured 0) ∷ leaf 80 (role.Captured 1) ∷ [];
  drivers = None ∷ None ∷ None ∷ None ∷ None ∷ None ∷ None ∷ [];
  registers = record { leaf = 2; reset = None } ∷ record { leaf = 3; reset = None } ∷ record { leaf = 4; reset = None } ∷ [];
  memories = pairs ∷ marks ∷ [];
}

-- an integer that has these two words
abbrev pub two_words : ℕ → ℕ → ℤ
two_words low high = pos (high * 2 ^ 64 + low)

-- The first register has the words 11 and 12, the second is the largest of 64 bits, and the third is -1. Element e of the pairs holds
-- 21 + 10 e, and an integer of the words 22 + 10 e and 23 + 10 e; element e of the marks holds e + 1. 51, and an integer of the words 52
-- and 53, were read.
abbrev pub kept_state : NetState
kept_state = record {
  registers = λ k. if k == 0 then two_words 11 12 else if k == 1 then pos (2 ^ 64 - 1) else negsuc 0;
  contents = λ m e k. if m == 1 then pos (e + 1) else if k == 0 then pos (21 + 10 * e) else two_words (22 + 10 * e) (23 + 10 * e);
  captured = λ n. if n == 0 then pos 51 else two_words 52 53;
}
