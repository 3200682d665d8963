-- What a fault of the size tells.
use Rattle.std.specs.Prelude.{ℕ, List, Option, Some, None, codes}
use Rattle.place_text.specs.declared.place.Place.{Place}
use Rattle.size_check.specs.declared.fault.SizeFault.{SizeFault}
use Rattle.size_check.specs.declared.fault.SizeFault.TheVariants.{TooLarge, NoMemory}

-- where a fault stands; want of memory stands nowhere
abbrev pub place_of : SizeFault → Option Place
place_of (TooLarge place) = Some place
place_of NoMemory = None

-- a number for each kind
abbrev pub rank_of : SizeFault → ℕ
rank_of (TooLarge place) = 0
rank_of NoMemory = 1

-- the name of a fault's kind
abbrev pub kind_of : SizeFault → List ℕ
kind_of (TooLarge place) = codes "TooLarge"
kind_of NoMemory = codes "NoMemory"
