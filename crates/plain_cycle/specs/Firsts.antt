-- What stands beside the items of a list.
use Rattle.std.specs.Prelude.{Bool, List, ◌∷◌, ℤ, pos, Option, Some, None, if◌then◌else◌}
use Rattle.bit_words.specs.declared.value.Value.{Value}
use Rattle.bit_words.specs.Values.{integer_of}

-- The first item that meets a test, with what stands beside it.
abbrev pub first_beside : {A B : Type 0} → (A → Bool) → List A → List B → Option (A × B)
first_beside test (x ∷ xs) (y ∷ ys) = if test x then Some (x, y) else first_beside test xs ys
first_beside test _ _ = None

-- the integer of the value that stands there, and 0 where nothing does
abbrev pub integer_beside_it : {A : Type 0} → Option (A × Value) → ℤ
integer_beside_it (Some both) = integer_of both.1
integer_beside_it None = pos 0
