-- The faults of a circuit's widths, and which is the first (FIRRTL specification 3.0, "Width Inference").
use Rattle.std.specs.Prelude.{ℕ, List, Option, Some, None, Contains, codes}
use Rattle.place_text.specs.declared.place.Place.{Place}
use Rattle.place_text.specs.First.{IsFirst as IsFirstOf}
use Rattle.prim_ops.specs.declared.widths.Width.{Width}
use Rattle.fir_tree.specs.declared.scope.Checked.{Checked}
use Rattle.width_fit.specs.declared.fault.WidthFault.{WidthFault}
use Rattle.width_fit.specs.declared.fault.WidthFault.TheVariants.{WidthUnknown, WidthOver, ParameterRange, ConditionWidth, NoMemory}
use Rattle.width_fit.specs.Judging.{told_of}

-- the circuit has this fault, where its variables have these widths
abbrev pub IsFault : Checked → List Width → WidthFault → Type 0
IsFault checked widths fault = Contains (told_of checked widths).faults fault

-- where a fault stands; want of memory stands nowhere
abbrev pub place_of : WidthFault → Option Place
place_of (WidthUnknown place) = Some place
place_of (WidthOver place) = Some place
place_of (ParameterRange place) = Some place
place_of (ConditionWidth place) = Some place
place_of NoMemory = None

-- the order of faults at one place
abbrev pub rank_of : WidthFault → ℕ
rank_of (WidthUnknown place) = 0
rank_of (WidthOver place) = 1
rank_of (ParameterRange place) = 2
rank_of (ConditionWidth place) = 3
rank_of NoMemory = 4

-- the name of a fault's kind
abbrev pub kind_of : WidthFault → List ℕ
kind_of (WidthUnknown place) = codes "WidthUnknown"
kind_of (WidthOver place) = codes "WidthOver"
kind_of (ParameterRange place) = codes "ParameterRange"
kind_of (ConditionWidth place) = codes "ConditionWidth"
kind_of NoMemory = codes "NoMemory"

-- the fault that is told: no other one comes before it
abbrev pub IsFirst : Checked → List Width → WidthFault → Type 0
IsFirst checked widths = IsFirstOf place_of rank_of (IsFault checked widths)
