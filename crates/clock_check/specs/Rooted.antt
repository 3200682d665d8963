-- Sets of leaves of the run, as a search from main's first Clock input builds them up against the links of chains of clocks.
use Rattle.std.specs.Prelude.{◌≡◌, ℕ, Bool, true, List, Some}
use Rattle.fir_meaning.specs.Components.{Design, TypedModule, Leaf, FlatLeaf, flat, module_at}
use Rattle.fir_meaning.specs.ClockRoot.{IsRooted, clock_root}
use Rattle.clock_check.specs.Gets.{Gets}

-- main's first Clock input is in the set
abbrev pub HasRoot : Design → (FlatLeaf → Bool) → Type 0
HasRoot design set = (x : FlatLeaf) → clock_root design ≡ Some x → set x ≡ true

-- with a leaf the set has those that have their value from it
abbrev pub IsClosed : Design → (FlatLeaf → Bool) → Type 0
IsClosed design set = (path : List ℕ) (m : TypedModule) (x y : Leaf) → module_at design path ≡ Some m → Gets m x y → set (flat m path y) ≡ true → set (flat m path x) ≡ true

-- what is in the set leads to main's first Clock input
abbrev pub IsSound : Design → (FlatLeaf → Bool) → Type 0
IsSound design set = (x : FlatLeaf) → set x ≡ true → IsRooted design x
