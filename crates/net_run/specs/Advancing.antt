-- What is kept after a cycle.
use Rattle.std.specs.Prelude.{◌≡◌, ℕ, ◌<◌, List, length, slice_get, Option, Some, None, if◌then◌else◌}
use Rattle.bit_words.specs.declared.value.Value.{Value}
use Rattle.prim_ops.specs.Values.{is_one}
use Rattle.ground_net.specs.declared.ground.Ground.{Ground}
use Rattle.ground_net.specs.declared.net.Net.{Net}
use Rattle.ground_net.specs.declared.net.Leaf.{Leaf}
use Rattle.ground_net.specs.declared.net.NetRegister.{NetRegister}
use Rattle.ground_net.specs.declared.net.NetReset.{NetReset}
use Rattle.ground_net.specs.Grounds.{Instant, value}
use Rattle.ground_net.specs.Reads.{driver_of}
use Rattle.ground_net.specs.Cycles.{NetState, fitted_to}
use Rattle.net_run.specs.Seeing.{value_at}

-- the value of a register's driver, and what the register holds where it has none
abbrev pub driven_value : Value → Instant → Option Ground → Value
driven_value held instant (Some driver) = value driver instant
driven_value held instant None = held

-- the value of `init` where the reset is 1
abbrev pub reset_value : Value → Instant → Option NetReset → Value
reset_value driven instant (Some r) = if is_one (value r.reset instant) then value r.init instant else driven
reset_value driven instant None = driven

-- What a register holds after the cycle.
abbrev pub next_value : Net → Instant → NetRegister → Value → Value
next_value net instant register held = reset_value (driven_value held instant (driver_of net register.leaf)) instant register.reset

-- The first registers hold what they hold after the cycle.
pub record AreNext (net : Net) (instant : Instant) (held : List Value) (count : ℕ) (values : List Value) : Type 0 where
  pub counted : length values ≡ count
  pub each : (n : ℕ) (register : NetRegister) → n < count → slice_get net.registers n ≡ Some register → slice_get values n ≡ Some (next_value net instant register (value_at held n))

-- The values of the registers stand for those of a state.
abbrev pub AreRegisters : Net → NetState → List Value → Type 0
AreRegisters net s values = (n : ℕ) (register : NetRegister) (leaf : Leaf) → slice_get net.registers n ≡ Some register → slice_get net.leaves register.leaf ≡ Some leaf
    → slice_get values n ≡ Some (fitted_to leaf (s.registers n))
