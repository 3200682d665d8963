-- The text of a state, and what it is read as. Each line is ended by a line feed, and its words are separated by one space.
use Rattle.std.specs.Prelude.{◌≡◌, ℕ, ◌≤◌, List, [], ◌∷◌, ◌++◌, ℤ, codes, decimal}
use Rattle.bit_words.specs.declared.number.Base.TheVariants.{Decimal}
use Rattle.bit_words.specs.declared.number.Number.{Number}
use Rattle.bit_words.specs.Numbers.{WritesDigits, IsNumber, integer_of_number}
use Rattle.bit_words.specs.Values.{InRange}
use Rattle.bit_words.specs.Decimals.{decimal_text}
use Rattle.snapshot_text.specs.Cells.{Cell}

-- the most cycles that a state is read with
abbrev pub most_cycles : ℕ
most_cycles = 999999000000

-- the line of a value: `WORD NAME VALUE`
abbrev pub line_text : Cell → ℤ → List ℕ
line_text cell v = cell.word ++ (32 ∷ (cell.name ++ (32 ∷ (decimal_text v ++ 10 ∷ []))))

abbrev pub lines_text : List Cell → List ℤ → List ℕ
lines_text [] values = []
lines_text (cell ∷ cells) [] = []
lines_text (cell ∷ cells) (v ∷ vs) = line_text cell v ++ lines_text cells vs

-- The text of a state after so many cycles: `state CYCLES`, and a line for each value.
abbrev pub state_text : List Cell → ℕ → List ℤ → List ℕ
state_text cells cycle values = codes "state " ++ (decimal cycle ++ (10 ∷ lines_text cells values))

-- a line's two words and a number word, each behind one space, and a line feed; the number fits the line's kind and width
pub record IsLine (cell : Cell) (text : List ℕ) (v : ℤ) (rest : List ℕ) : Type 0 where
  pub number : Number
  pub bytes : List ℕ
  pub is : text ≡ cell.word ++ (32 ∷ (cell.name ++ (32 ∷ (bytes ++ (10 ∷ rest)))))
  pub written : IsNumber bytes number.negative number.magnitude
  pub value : integer_of_number number ≡ v
  pub fits : InRange cell.kind cell.width v

-- exactly these lines in this order
abbrev pub AreLines : List Cell → List ℕ → List ℤ → Type 0
AreLines [] text [] = text ≡ []
AreLines [] text (v ∷ vs) = ⊥
AreLines (cell ∷ cells) text [] = ⊥
AreLines (cell ∷ cells) text (v ∷ vs) = (rest : List ℕ) × IsLine cell text v rest × AreLines cells rest vs

-- The text is read as a state after so many cycles, with these values.
pub record IsState (cells : List Cell) (text : List ℕ) (cycle : ℕ) (values : List ℤ) : Type 0 where
  pub digits : List ℕ
  pub rest : List ℕ
  pub is : text ≡ codes "state " ++ (digits ++ (10 ∷ rest))
  pub counted : WritesDigits Decimal digits cycle
  pub few : cycle ≤ most_cycles
  pub lines : AreLines cells rest values

-- A value is in its line's range, and the line's width is one that leaves have.
pub record Holds (cell : Cell) (v : ℤ) : Type 0 where
  pub narrow : cell.width ≤ 128
  pub fits : InRange cell.kind cell.width v
