-- What a fault of the grammar tells.
use Rattle.std.specs.Prelude.{ℕ, List, Option, Some, None, codes}
use Rattle.place_text.specs.declared.place.Place.{Place}
use Rattle.fir_tree.specs.declared.fault.ParseFault.{ParseFault}
use Rattle.fir_tree.specs.declared.fault.ParseFault.TheVariants.{BadSyntax, BadVersion, Unsupported, TooDeep, NoMemory}

-- where a fault stands; want of memory stands nowhere
abbrev pub place_of : ParseFault → Option Place
place_of (BadSyntax place) = Some place
place_of (BadVersion place) = Some place
place_of (Unsupported place) = Some place
place_of (TooDeep place) = Some place
place_of NoMemory = None

-- a number for each kind; at one place a text has one fault
abbrev pub rank_of : ParseFault → ℕ
rank_of (BadSyntax place) = 0
rank_of (BadVersion place) = 1
rank_of (Unsupported place) = 2
rank_of (TooDeep place) = 3
rank_of NoMemory = 4

-- the name of a fault's kind
abbrev pub kind_of : ParseFault → List ℕ
kind_of (BadSyntax place) = codes "BadSyntax"
kind_of (BadVersion place) = codes "BadVersion"
kind_of (Unsupported place) = codes "Unsupported"
kind_of (TooDeep place) = codes "TooDeep"
kind_of NoMemory = codes "NoMemory"
