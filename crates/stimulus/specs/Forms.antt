-- What a line of a stimulus says: the first one `cycles N`, each other one `CYCLE LEAF VALUE`.
use Rattle.std.specs.Prelude.{◌≡◌, ◌⊎◌, ℕ, Bool, List, [], ◌∷◌, codes, ⊤}
use Rattle.bit_words.specs.declared.number.Base.TheVariants.{Decimal}
use Rattle.bit_words.specs.declared.number.Number.{Number}
use Rattle.bit_words.specs.Numbers.{WritesDigits, IsNumber}
use Rattle.stimulus.specs.Words.{Word, behind, told_lines}

-- the forms that a word may have to have
pub data Form : Type 0 where
  The_cycles : Form
  Digits : Form
  A_leaf : Form
  A_number : Form

-- Bytes have a form: the word `cycles`; decimal digits; whatever stands for a leaf; a number word.
abbrev pub HasForm : Form → List ℕ → Type 0
HasForm The_cycles bytes = bytes ≡ codes "cycles"
HasForm Digits bytes = (n : ℕ) × WritesDigits Decimal bytes n
HasForm A_leaf bytes = ⊤
HasForm A_number bytes = (negative : Bool) × (magnitude : ℕ) × IsNumber bytes negative magnitude

abbrev pub heading_forms : List Form
heading_forms = The_cycles ∷ Digits ∷ []

abbrev pub setting_forms : List Form
setting_forms = Digits ∷ A_leaf ∷ A_number ∷ []

-- The words of a line, which stand behind an offset, break its forms at an offset: at the first word that lacks its form or is one too many,
-- or directly behind the last word where words are missing.
abbrev pub Breaks : List Form → ℕ → List Word → ℕ → Type 0
Breaks [] end [] at = ⊥
Breaks [] end (w ∷ ws) at = at ≡ w.at
Breaks (form ∷ forms) end [] at = at ≡ end
Breaks (form ∷ forms) end (w ∷ ws) at = (¬ (HasForm form w.bytes) × (at ≡ w.at)) ⊎ (HasForm form w.bytes × Breaks forms (behind w) ws at)

-- The first line of a text says how many cycles there are, in its second word, and these lines follow it.
pub record Heads (text : List ℕ) (number : Word) (cycles : ℕ) (lines : List (List Word)) : Type 0 where
  pub word : Word
  pub first : told_lines text ≡ (word ∷ number ∷ []) ∷ lines
  pub spelled : word.bytes ≡ codes "cycles"
  pub counted : WritesDigits Decimal number.bytes cycles

-- what the line of a setting says, and its words
pub record Said : Type 0 where
  pub cycle_word : Word
  pub leaf : Word
  pub value_word : Word
  pub cycle : ℕ
  pub number : Number

pub record Says (line : List Word) (said : Said) : Type 0 where
  pub words : line ≡ said.cycle_word ∷ said.leaf ∷ said.value_word ∷ []
  pub cycle : WritesDigits Decimal said.cycle_word.bytes said.cycle
  pub number : IsNumber said.value_word.bytes said.number.negative said.number.magnitude
