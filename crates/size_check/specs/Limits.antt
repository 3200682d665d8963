-- The limits of a circuit's size.
use Rattle.std.specs.Prelude.{◌≡◌, ℕ, nat_lt, Bool, true, false, ◌||◌, sum, map, Option, Some, None}
use Rattle.fir_types.specs.Leaves.{count}
use Rattle.fir_tree.specs.declared.circuit.Circuit.{Circuit}
use Rattle.fir_tree.specs.declared.circuit.Module.{Module}
use Rattle.size_check.specs.declared.sums.Total.{Total}
use Rattle.size_check.specs.declared.measure.Measure.{Measure}
use Rattle.size_check.specs.declared.fault.SizeFault.{SizeFault}
use Rattle.size_check.specs.declared.fault.SizeFault.TheVariants.{TooLarge}
use Rattle.size_check.specs.Typings.{named}
use Rattle.size_check.specs.Standings.{measured}

-- the leaves of a module's ports
abbrev pub ports_of : Option Module → ℕ
ports_of (Some m) = sum (map (λ port. count port.typ) m.ports)
ports_of None = 0

abbrev pub main_ports : Circuit → ℕ
main_ports circuit = ports_of (named circuit.modules circuit.main.id)

-- the greatest numbers of names in an instance path, bytes of all flat names, flat leaves, leaves of main's ports, flat size and
-- state words
abbrev pub passes : Total → ℕ → Bool
passes total ports =
    nat_lt 32 total.depth || (nat_lt 67108864 total.sums.bytes || (nat_lt 65536 total.sums.leaves || (nat_lt 4096 ports
    || (nat_lt 1000000 total.sums.size || nat_lt 262144 total.sums.words))))

abbrev pub is_too_large : Circuit → Bool
is_too_large circuit = passes (measured circuit) (main_ports circuit)

-- a circuit that passes a limit is told at its name
pub data IsFault (circuit : Circuit) : SizeFault → Type 0 where
  too_large : is_too_large circuit ≡ true → IsFault circuit (TooLarge circuit.main.place)

-- these numbers as a measure
pub record Holds (total : Total) (measure : Measure) : Type 0 where
  pub leaves : measure.leaves ≡ total.sums.leaves
  pub names : measure.names ≡ total.sums.bytes
  pub size : measure.size ≡ total.sums.size
  pub state_words : measure.state_words ≡ total.sums.words
  pub depth : measure.depth ≡ total.depth

-- where no limit is passed
abbrev pub IsWithin : Total → ℕ → Option Measure → Type 0
IsWithin total ports (Some measure) = (passes total ports ≡ false) × Holds total measure
IsWithin total ports None = passes total ports ≡ true

-- The measure of a circuit: the flat leaves, the bytes of the flat names, the flat size, the state words, and the greatest number of
-- names in an instance path.
abbrev pub IsMeasure : Circuit → Measure → Type 0
IsMeasure circuit measure = Holds (measured circuit) measure
