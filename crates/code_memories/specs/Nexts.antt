-- The next value of a register as an expression (FIRRTL specification 3.0, "Registers").
use Rattle.std.specs.Prelude.{ℕ, List, [], ◌∷◌, Option, Some, None}
use Rattle.ground_net.specs.declared.ground.Ground.{Ground}
use Rattle.ground_net.specs.declared.ground.Ground.TheVariants.{Leaf, Mux}
use Rattle.ground_net.specs.declared.net.NetReset.{NetReset}
use Rattle.ground_net.specs.declared.net.NetRegister.{NetRegister}

-- what the driver leaves, and the leaf itself where it has none
abbrev pub driven_ground : ℕ → Option Ground → Ground
driven_ground x (Some g) = g
driven_ground x None = Leaf x

-- a reset that is 1 takes its `init`
abbrev pub reset_ground : Option NetReset → Ground → Ground
reset_ground (Some r) g = Mux (r.reset ∷ r.init ∷ g ∷ [])
reset_ground None g = g

abbrev pub next_ground : NetRegister → Option Ground → Ground
next_ground register driver = reset_ground register.reset (driven_ground register.leaf driver)
