-- The faults of a state's text. A line ends at a line feed; its words stand between single spaces.
use Rattle.std.specs.Prelude.{◌≡◌, ◌≢◌, ℕ, ◌+◌, ◌<◌, ◌==◌, Bool, true, false, List, [], ◌∷◌, length, Option, Some, None, ◌⊎◌, if◌then◌else◌, codes}
use Rattle.place_text.specs.declared.place.Place.{Place}
use Rattle.place_text.specs.Places.{place}
use Rattle.bit_words.specs.declared.number.Base.TheVariants.{Decimal}
use Rattle.bit_words.specs.declared.number.Number.{Number}
use Rattle.bit_words.specs.Numbers.{WritesDigits, IsNumber, integer_of_number}
use Rattle.bit_words.specs.Values.{InRange}
use Rattle.snapshot_text.specs.Cells.{Cell}
use Rattle.snapshot_text.specs.Texts.{most_cycles}
use Rattle.snapshot_text.specs.declared.fault.StateFault.{StateFault}
use Rattle.snapshot_text.specs.declared.fault.StateFault.TheVariants.{BadLine, NameOrder, CyclesRange, ValueRange, NoMemory}

-- bytes and the offset of the first one; of a line also whether a line feed stands behind it
pub record Word : Type 0 where
  pub at : ℕ
  pub bytes : List ℕ

pub record Line : Type 0 where
  pub at : ℕ
  pub bytes : List ℕ
  pub is_ended : Bool

abbrev pub in_line : ℕ → ℕ → List Line → List Line
in_line at b [] = record { at = at; bytes = b ∷ []; is_ended = false } ∷ []
in_line at b (line ∷ lines) = record { at = at; bytes = b ∷ line.bytes; is_ended = line.is_ended } ∷ lines

-- The lines of bytes from an offset on. Behind the last line feed stands no line.
abbrev pub lines_from : ℕ → List ℕ → List Line
lines_from at [] = []
lines_from at (b ∷ bs) = if b == 10 then record { at = at; bytes = []; is_ended = true } ∷ lines_from (at + 1) bs else in_line at b (lines_from (at + 1) bs)

abbrev pub in_word : ℕ → ℕ → List Word → List Word
in_word at b [] = record { at = at; bytes = b ∷ [] } ∷ []
in_word at b (word ∷ words) = record { at = at; bytes = b ∷ word.bytes } ∷ words

-- the words of bytes from an offset on; two spaces have an empty one between them
abbrev pub words_from : ℕ → List ℕ → List Word
words_from at [] = record { at = at; bytes = [] } ∷ []
words_from at (b ∷ bs) = if b == 32 then record { at = at; bytes = [] } ∷ words_from (at + 1) bs else in_word at b (words_from (at + 1) bs)

abbrev pub words_of : Line → List Word
words_of line = words_from line.at line.bytes

-- the first line as it is written: two words, the second one decimal digits
pub record Heads (line : Line) : Type 0 where
  pub word : Word
  pub number : Word
  pub cycles : ℕ
  pub words : words_of line ≡ word ∷ number ∷ []
  pub some : word.bytes ≢ []
  pub counted : WritesDigits Decimal number.bytes cycles
  pub feed : line.is_ended ≡ true

-- any other line: three words, the third one a number word; the second one is empty only where the expected name is
pub record Says (cell : Cell) (line : Line) : Type 0 where
  pub word : Word
  pub name : Word
  pub value : Word
  pub number : Number
  pub words : words_of line ≡ word ∷ name ∷ value ∷ []
  pub some : word.bytes ≢ []
  pub some_name : name.bytes ≡ [] → cell.name ≡ []
  pub written : IsNumber value.bytes number.negative number.magnitude
  pub feed : line.is_ended ≡ true

-- The faults of the first line. A line that lacks its form has no fault but that.
pub data IsHeadFault (text : List ℕ) (line : Line) : StateFault → Type 0 where
  bad_head : ¬ (Heads line) → IsHeadFault text line (BadLine (place text line.at))
  no_state : (heads : Heads line) → heads.word.bytes ≢ codes "state" → IsHeadFault text line (NameOrder (place text heads.word.at))
  many_cycles : (heads : Heads line) → most_cycles < heads.cycles → IsHeadFault text line (CyclesRange (place text heads.number.at))

-- The faults of a line that stands where this one is expected.
pub data IsLineFault (text : List ℕ) (cell : Cell) (line : Line) : StateFault → Type 0 where
  bad_line : ¬ (Says cell line) → IsLineFault text cell line (BadLine (place text line.at))
  other_word : (says : Says cell line) → says.word.bytes ≢ cell.word → IsLineFault text cell line (NameOrder (place text says.word.at))
  other_name : (says : Says cell line) → says.name.bytes ≢ cell.name → IsLineFault text cell line (NameOrder (place text says.name.at))
  no_fit : (says : Says cell line) → ¬ (InRange cell.kind cell.width (integer_of_number says.number)) → IsLineFault text cell line (ValueRange (place text says.value.at))

-- The faults of lines where these are expected: those of each line, one that is missing at the end of the text, and the first one that is
-- too many.
abbrev pub AreFaults : List ℕ → List Cell → List Line → StateFault → Type 0
AreFaults text [] [] fault = ⊥
AreFaults text [] (line ∷ lines) fault = fault ≡ BadLine (place text line.at)
AreFaults text (cell ∷ cells) [] fault = fault ≡ BadLine (place text (length text))
AreFaults text (cell ∷ cells) (line ∷ lines) fault = IsLineFault text cell line fault ⊎ AreFaults text cells lines fault

abbrev pub AreAllFaults : List ℕ → List Cell → List Line → StateFault → Type 0
AreAllFaults text cells [] fault = fault ≡ BadLine (place text (length text))
AreAllFaults text cells (line ∷ lines) fault = IsHeadFault text line fault ⊎ AreFaults text cells lines fault

-- The faults of the text of a state with these lines behind its first one.
abbrev pub IsFault : List Cell → List ℕ → StateFault → Type 0
IsFault cells text fault = AreAllFaults text cells (lines_from 0 text) fault

-- where a fault stands, and the order of faults at one place
abbrev pub place_of : StateFault → Option Place
place_of (BadLine place) = Some place
place_of (NameOrder place) = Some place
place_of (CyclesRange place) = Some place
place_of (ValueRange place) = Some place
place_of NoMemory = None

abbrev pub rank_of : StateFault → ℕ
rank_of (BadLine place) = 0
rank_of (NameOrder place) = 1
rank_of (CyclesRange place) = 2
rank_of (ValueRange place) = 3
rank_of NoMemory = 4

-- the name of a fault's kind
abbrev pub kind_of : StateFault → List ℕ
kind_of (BadLine place) = codes "BadLine"
kind_of (NameOrder place) = codes "NameOrder"
kind_of (CyclesRange place) = codes "CyclesRange"
kind_of (ValueRange place) = codes "ValueRange"
kind_of NoMemory = codes "NoMemory"
