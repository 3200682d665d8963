-- What a fault of the layout tells.
use Rattle.std.specs.Prelude.{ℕ, List, Option, Some, None, codes}
use Rattle.place_text.specs.declared.place.Place.{Place}
use Rattle.fir_layout.specs.declared.fault.LayoutFault.{LayoutFault}
use Rattle.fir_layout.specs.declared.fault.LayoutFault.TheVariants.{BadIndent, NoMemory}

-- where a fault stands; want of memory stands nowhere
abbrev pub place_of : LayoutFault → Option Place
place_of (BadIndent place) = Some place
place_of NoMemory = None

-- there is one kind
abbrev pub rank_of : LayoutFault → ℕ
rank_of (BadIndent place) = 0
rank_of NoMemory = 1

-- the name of a fault's kind
abbrev pub kind_of : LayoutFault → List ℕ
kind_of (BadIndent place) = codes "BadIndent"
kind_of NoMemory = codes "NoMemory"
