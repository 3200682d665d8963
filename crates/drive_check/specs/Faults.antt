-- What a fault of driven leaves tells (FIRRTL specification 3.0, "Initialization" under "Conditionals").
use Rattle.std.specs.Prelude.{ℕ, List, Option, Some, None, codes}
use Rattle.place_text.specs.declared.place.Place.{Place}
use Rattle.drive_check.specs.declared.fault.DriveFault.{DriveFault}
use Rattle.drive_check.specs.declared.fault.DriveFault.TheVariants.{NotInitialized, NoMemory}

-- where a fault stands; want of memory stands nowhere
abbrev pub place_of : DriveFault → Option Place
place_of (NotInitialized place) = Some place
place_of NoMemory = None

-- a number for each kind
abbrev pub rank_of : DriveFault → ℕ
rank_of (NotInitialized place) = 0
rank_of NoMemory = 1

-- the name of a fault's kind
abbrev pub kind_of : DriveFault → List ℕ
kind_of (NotInitialized place) = codes "NotInitialized"
kind_of NoMemory = codes "NoMemory"
