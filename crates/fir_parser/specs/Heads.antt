-- How texts and modules begin, and what is read of a whole text.
use Rattle.std.specs.Prelude.{◌≡◌, ◌⊎◌, ℕ, Bool, true, false, List, codes, [], ◌∷◌}
use Rattle.place_text.specs.Places.{place}
use Rattle.fir_types.specs.declared.name.Name.{Name}
use Rattle.fir_tree.specs.declared.fault.ParseFault.{ParseFault}
use Rattle.fir_tree.specs.declared.fault.ParseFault.TheVariants.{BadVersion}
use Rattle.item_lines.specs.declared.line.LineModule.{LineModule}
use Rattle.fir_grammar.specs.Grammar.{A, Is, Its_magnitude, The_word, A_number, A_major, Text, start_of}
use Rattle.fir_grammar.specs.Reading.{HasRead, IsRefused}
use Rattle.fir_expr.specs.declared.reader.Reader.{Reader}
use Rattle.fir_parser.specs.Expected.{Meets, MeetsNext}

-- `input` or `output` stands at the reader's place
abbrev pub BeginsPort : Reader → Type 0
BeginsPort reader = Meets (The_word (codes "input")) reader ⊎ Meets (The_word (codes "output")) reader

-- the word of an output or an input
abbrev pub side_of : Bool → List ℕ
side_of true = codes "output"
side_of false = codes "input"

-- the version's first number was refused: no number stands there, or another one than 3 and 4
pub data VersionRefused (reader : Reader) : ParseFault → Type 0 where
  no_number : (fault : ParseFault) → ¬ (Meets A_number reader) → IsRefused (Is Its_magnitude A_major ∷ []) reader.bytes.now reader.laid.now reader.at fault → VersionRefused reader fault
  other_number : (m : Meets A_number reader) → ¬ (Meets A_major reader) → VersionRefused reader (BadVersion (place reader.bytes.now (start_of m.laid)))

-- the words that begin a text stand there
pub record WordsStand (reader : Reader) : Type 0 where
  pub one : Meets (The_word (codes "FIRRTL")) reader
  pub two : MeetsNext (The_word (codes "version")) reader

-- A text was read in the version with this first number, from one place to another: its main module's name, and its modules.
pub record IsTextRead (major : ℕ) (old new : Reader) (of : Name × List LineModule) : Type 0 where
  pub bytes : new.bytes.now ≡ old.bytes.now
  pub laid : new.laid.now ≡ old.laid.now
  pub read : HasRead major (A Text ∷ []) old.bytes.now old.laid.now old.at old.names ((major, of), tt) new.at new.names
