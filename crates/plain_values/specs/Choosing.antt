-- The arm of a `when` that is taken (FIRRTL specification 3.0, "Conditionals").
use Rattle.std.specs.Prelude.{◌≡◌, ℕ, Bool, true, false, List, take, slice_get, Option, Some, None}
use Rattle.std.specs.List.{list_all, list_any}
use Rattle.fir_tree.specs.declared.stmt.Arm.{Arm}
use Rattle.fir_meaning.specs.Values.{Scene, value, is_one}
use Rattle.fir_meaning.specs.WellTyped.{Known, is_condition}

-- the condition of an arm is 1
abbrev pub is_taken : Scene → Arm → Bool
is_taken scene arm = is_one (value arm.condition scene)

-- conditions are UInts
abbrev pub are_conditions : Known → List Arm → Bool
are_conditions known = list_all (λ arm. is_condition known arm.condition)

-- The condition of the arm of this number is 1, and none before it; or none is.
abbrev pub IsFirstHolding : Scene → List Arm → Option ℕ → Type 0
IsFirstHolding scene arms (Some n) = (arm : Arm) × (slice_get arms n ≡ Some arm) × (is_taken scene arm ≡ true) × (list_any (is_taken scene) (take n arms) ≡ false)
IsFirstHolding scene arms None = list_any (is_taken scene) arms ≡ false
