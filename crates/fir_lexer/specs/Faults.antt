-- What a fault of the tokens tells.
use Rattle.std.specs.Prelude.{ℕ, List, Option, Some, None, codes}
use Rattle.place_text.specs.declared.place.Place.{Place}
use Rattle.fir_lexer.specs.declared.fault.LexFault.{LexFault}
use Rattle.fir_lexer.specs.declared.fault.LexFault.TheVariants.{BadByte, BadToken, NumberRange, NoMemory}

-- where a fault stands; want of memory stands nowhere
abbrev pub place_of : LexFault → Option Place
place_of (BadByte place) = Some place
place_of (BadToken place) = Some place
place_of (NumberRange place) = Some place
place_of NoMemory = None

-- a number for each kind; at one place a text has one fault
abbrev pub rank_of : LexFault → ℕ
rank_of (BadByte place) = 0
rank_of (BadToken place) = 1
rank_of (NumberRange place) = 2
rank_of NoMemory = 3

-- the name of a fault's kind
abbrev pub kind_of : LexFault → List ℕ
kind_of (BadByte place) = codes "BadByte"
kind_of (BadToken place) = codes "BadToken"
kind_of (NumberRange place) = codes "NumberRange"
kind_of NoMemory = codes "NoMemory"
