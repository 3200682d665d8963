-- How far the lines of a text were read.
use Rattle.std.specs.Prelude.{◌≡◌, ◌≢◌, ℕ, ◌<◌, ◌≤◌, ◌^◌, List, [], ◌∷◌, ◌++◌, length, drop, ℤ, Option, Some, None, codes}
use Rattle.std.specs.List.{AllZip}
use Rattle.bit_words.specs.declared.number.Number.{Number}
use Rattle.bit_words.specs.declared.number.Base.TheVariants.{Decimal}
use Rattle.bit_words.specs.Numbers.{IsNumber, WritesDigits}
use Rattle.place_text.specs.First.{IsFirst}
use Rattle.snapshot_text.specs.declared.fault.StateFault.{StateFault}
use Rattle.snapshot_text.specs.declared.lines.Parsed.{Parsed}
use Rattle.snapshot_text.specs.Cells.{Cell}
use Rattle.snapshot_text.specs.Texts.{IsLine, AreLines, Holds, most_cycles}
use Rattle.snapshot_text.specs.Faults.{Line, lines_from, Heads, Says, IsHeadFault, IsLineFault, AreFaults, place_of, rank_of}
use Rattle.snapshot_text.specs.Steps.{Lacks, words_of_cells}

-- what stands for the number of a number word: itself, or nothing where its magnitude is over 2^128 - 1
abbrev pub Stands : Option Number → Number → Type 0
Stands (Some n) number = n ≡ number
Stands None number = 2 ^ 128 ≤ number.magnitude

-- three words and a line feed come first in a text, the first word isn't empty, and the third one is a number word
pub record AreLineWords (text word name value : List ℕ) : Type 0 where
  pub rest : List ℕ
  pub is : text ≡ (word ++ (32 ∷ (name ++ (32 ∷ value)))) ++ 10 ∷ rest
  pub in_line : Lacks 10 (word ++ (32 ∷ (name ++ (32 ∷ value))))
  pub of_word : Lacks 32 word
  pub of_name : Lacks 32 name
  pub some : word ≢ []
  pub number : Number
  pub written : IsNumber value number.negative number.magnitude

-- so a text was cut
pub record IsParsed (text : List ℕ) (parsed : Parsed) : Type 0 where
  pub words : AreLineWords text parsed.word.now parsed.name.now parsed.value.now
  pub stands : Stands parsed.number words.number

-- the first line of a text lacks the form, if there is one
abbrev pub SaysNothing : List ℕ → Type 0
SaysNothing text = (cell : Cell) (at : ℕ) (line : Line) (lines : List Line) → lines_from at text ≡ line ∷ lines → ¬ (Says cell line)

-- a line was read, up to an offset: it says a value, and has no fault
pub record IsTold (text : List ℕ) (cell : Cell) (at : ℕ) (v : ℤ) (behind : ℕ) : Type 0 where
  pub line : IsLine cell (drop at text) v (drop behind text)
  pub first : Line
  pub lines : lines_from at (drop at text) ≡ first ∷ lines_from behind (drop behind text)
  pub none : (fault : StateFault) → ¬ (IsLineFault text cell first fault)
  pub onward : at < behind
  pub within : behind ≤ length text

-- the first fault of lines from an offset on
abbrev pub IsFirstFrom : List ℕ → List Cell → ℕ → StateFault → Type 0
IsFirstFrom text cells at fault = IsFirst place_of rank_of (AreFaults text cells (lines_from at (drop at text))) fault

-- Lines from an offset on were read up to another one: they said these values, others are ahead, and the faults of all are the faults of
-- those.
pub record IsReadTo (text : List ℕ) (cells : List Cell) (start : ℕ) (ahead : List Cell) (at : ℕ) (done : List ℤ) : Type 0 where
  pub to : (fault : StateFault) → AreFaults text cells (lines_from start (drop start text)) fault → AreFaults text ahead (lines_from at (drop at text)) fault
  pub from : (fault : StateFault) → AreFaults text ahead (lines_from at (drop at text)) fault → AreFaults text cells (lines_from start (drop start text)) fault
  pub lines : (vs : List ℤ) → AreLines ahead (drop at text) vs → AreLines cells (drop start text) (done ++ vs)
  pub fits : (vs : List ℤ) → AllZip Holds ahead vs → AllZip Holds cells (done ++ vs)

-- the two parts of the first line of a text, which is ended by a line feed
pub record AreHeadWords (text word cycles : List ℕ) : Type 0 where
  pub rest : List ℕ
  pub is : text ≡ (word ++ (32 ∷ cycles)) ++ 10 ∷ rest
  pub in_line : Lacks 10 (word ++ (32 ∷ cycles))
  pub of_word : Lacks 32 word
  pub some : word ≢ []

-- the first line of a text lacks the form, if there is one
abbrev pub HasNoHead : List ℕ → Type 0
HasNoHead text = (line : Line) (lines : List Line) → lines_from 0 text ≡ line ∷ lines → ¬ (Heads line)

-- the first line was read, up to an offset: it says the number of cycles, and has no fault
pub record IsHead (text : List ℕ) (cycle behind : ℕ) : Type 0 where
  pub digits : List ℕ
  pub is : text ≡ codes "state " ++ (digits ++ (10 ∷ drop behind text))
  pub counted : WritesDigits Decimal digits cycle
  pub few : cycle ≤ most_cycles
  pub first : Line
  pub lines : lines_from 0 text ≡ first ∷ lines_from behind (drop behind text)
  pub none : (fault : StateFault) → ¬ (IsHeadFault text first fault)
  pub within : behind ≤ length text

-- Lines were read whole: they said these values.
abbrev pub AreRead : List ℕ → List Cell → ℕ → List ℤ → ℕ → Type 0
AreRead text cells at done behind = (more : List Cell) → IsReadTo text (cells ++ more) at more behind done

-- Lines were read whole, and these are the words of what they said.
pub record AreHeld (text : List ℕ) (cells : List Cell) (at : ℕ) (words : List ℕ) (behind : ℕ) : Type 0 where
  pub values : List ℤ
  pub read : IsReadTo text cells at [] behind values
  pub are : words ≡ words_of_cells cells values
