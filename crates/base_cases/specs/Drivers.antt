-- Drivers of a net of so many leaves.
use Rattle.std.specs.Prelude.{ℕ, ◌<◌, Option, Contains}
use Rattle.ground_net.specs.declared.ground.Ground.{Ground}
use Rattle.ground_net.specs.declared.net.Role.TheVariants as role
use Rattle.ground_net.specs.Reads.{read_by}

-- the driver mentions only leaves below this number
abbrev pub ReadsBelow : ℕ → Option Ground → Type 0
ReadsBelow count driver = (b : ℕ) → Contains (read_by role.Assigned driver) b → b < count
