-- What a fault of clocks tells (FIRRTL specification 3.0, "Clock" under "Ground Types").
use Rattle.std.specs.Prelude.{ℕ, List, Option, Some, None, codes}
use Rattle.place_text.specs.declared.place.Place.{Place}
use Rattle.clock_check.specs.declared.fault.ClockFault.{ClockFault}
use Rattle.clock_check.specs.declared.fault.ClockFault.TheVariants.{ClockOther, NoMemory}

-- where a fault stands; want of memory stands nowhere
abbrev pub place_of : ClockFault → Option Place
place_of (ClockOther place) = Some place
place_of NoMemory = None

-- a number for each kind
abbrev pub rank_of : ClockFault → ℕ
rank_of (ClockOther place) = 0
rank_of NoMemory = 1

-- the name of a fault's kind
abbrev pub kind_of : ClockFault → List ℕ
kind_of (ClockOther place) = codes "ClockOther"
kind_of NoMemory = codes "NoMemory"
