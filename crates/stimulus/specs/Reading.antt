-- What the functions say that go over a text, and what is known between two lines.
use Rattle.std.specs.Prelude.{◌≡◌, ◌≢◌, ◌⊎◌, ℕ, ◌+◌, ◌-◌, ◌^◌, ◌<◌, ◌≤◌, Bool, true, false, ◌&&◌, not, List, [], ◌∷◌, ◌++◌, length, take, drop, filter, slice_get, slice_index, All, AllPairs, Contains, Option, Some, None, codes}
use Rattle.std.specs.List.{AllZip}
use Rattle.place_text.specs.Places.{is_feed, place}
use Rattle.place_text.specs.First.{IsFirst}
use Rattle.bit_words.specs.declared.number.Base.TheVariants.{Decimal}
use Rattle.bit_words.specs.declared.number.Number.{Number}
use Rattle.bit_words.specs.Numbers.{WritesDigits, IsNumber, Holds, integer_of_number}
use Rattle.ground_net.specs.declared.net.Ports.{Ports}
use Rattle.ground_net.specs.declared.net.PortLeaf.{PortLeaf}
use Rattle.stimulus.specs.declared.fault.StimFault.{StimFault}
use Rattle.stimulus.specs.declared.fault.StimFault.TheVariants.{BadLine}
use Rattle.stimulus.specs.declared.stimulus.Setting.{Setting}
use Rattle.stimulus.specs.declared.words.Word.{Word as Lent}
use Rattle.stimulus.specs.declared.forms.Heading.{Heading}
use Rattle.stimulus.specs.declared.forms.SettingLine.{SettingLine}
use Rattle.stimulus.specs.Words.{Word, behind, is_blank, lines_from, is_told}
use Rattle.stimulus.specs.Forms.{Breaks, setting_forms, Said, Says}
use Rattle.bit_words.specs.Values.{InRange, integer_of}
use Rattle.stimulus.specs.Faults.{IsLineFault, is_leaf, input_of, place_of, rank_of}
use Rattle.stimulus.specs.Stimuli.{IsOf, Sets, StandsBefore}

-- the lines from an offset on
unfoldable pub ahead : List ℕ → ℕ → List (List Word)
ahead text at = lines_from at (drop at text)

abbrev pub first_line : List (List Word) → List Word
first_line [] = []
first_line (line ∷ lines) = line

abbrev pub told_behind : List (List Word) → List (List Word)
told_behind [] = []
told_behind (line ∷ lines) = filter is_told lines

-- the words of a line from an offset on, and the told lines behind that line
unfoldable pub line_at : List ℕ → ℕ → List Word
line_at text at = first_line (lines_from at (drop at text))

unfoldable pub lines_after : List ℕ → ℕ → List (List Word)
lines_after text at = told_behind (lines_from at (drop at text))

-- the told lines from an offset on
unfoldable pub told_at : List ℕ → ℕ → List (List Word)
told_at text at = filter is_told (lines_from at (drop at text))

-- whether the byte at an offset is one of a word
abbrev pub is_ink_at : List ℕ → ℕ → Bool
is_ink_at text at = not (is_feed (slice_index text at)) && not (is_blank (slice_index text at) (drop (at + 1) text))

-- a lent word, as texts have it
abbrev pub shown : Lent → Word
shown word = record { at = word.at; bytes = word.bytes.now }

-- bytes of words stand from an offset up to another one, and no further
pub record EndsAt (text : List ℕ) (from to : ℕ) : Type 0 where
  pub onward : from ≤ to
  pub within : to ≤ length text
  pub inked : (k : ℕ) → from ≤ k → k < to → is_ink_at text k ≡ true
  pub stops : to < length text → is_ink_at text to ≡ false

-- a word comes first from an offset on
pub record IsNextWord (text : List ℕ) (from : ℕ) (word : Word) : Type 0 where
  pub words : line_at text from ≡ word ∷ line_at text (behind word)
  pub after : lines_after text from ≡ lines_after text (behind word)
  pub begins : from ≤ word.at
  pub some : word.at < behind word
  pub within : behind word ≤ length text

-- a word is the first one of the next told line from an offset on
pub record IsNextLine (text : List ℕ) (from : ℕ) (word : Word) : Type 0 where
  pub lines : told_at text from ≡ (word ∷ line_at text (behind word)) ∷ lines_after text (behind word)
  pub begins : from ≤ word.at
  pub some : word.at < behind word
  pub within : behind word ≤ length text

-- what stands for the number of a number word: itself, or nothing where its magnitude is over 2^128 - 1
abbrev pub Stands : Option Number → Number → Type 0
Stands (Some n) number = n ≡ number
Stands None number = 2 ^ 128 ≤ number.magnitude

abbrev pub HoldsNumber : List ℕ → Option Number → Type 0
HoldsNumber bytes held = (number : Number) × IsNumber bytes number.negative number.magnitude × Stands held number

-- what the first line says, whose first word this is
pub record IsHeading (text : List ℕ) (first : Word) (heading : Heading) : Type 0 where
  pub cycles : ℕ
  pub spelled : first.bytes ≡ codes "cycles"
  pub words : line_at text (behind first) ≡ shown heading.number ∷ []
  pub counted : WritesDigits Decimal heading.number.bytes.now cycles
  pub holds : Holds heading.cycles cycles
  pub rest : line_at text (behind (shown heading.number)) ≡ []
  pub after : lines_after text (behind first) ≡ lines_after text (behind (shown heading.number))
  pub within : behind (shown heading.number) ≤ length text

-- what a line says, as it was read
pub record IsSaid (line : SettingLine) (said : Said) : Type 0 where
  pub cycle_word : shown line.cycle_word ≡ said.cycle_word
  pub leaf : shown line.leaf ≡ said.leaf
  pub value_word : shown line.value_word ≡ said.value_word
  pub cycle : Holds line.cycle said.cycle
  pub number : Stands line.number said.number

-- its words stand in the text, one behind the other
pub record IsInside (text : List ℕ) (line : SettingLine) : Type 0 where
  pub cycle_word : line.cycle_word.at < line.leaf.at
  pub leaf : line.leaf.at < line.value_word.at
  pub value_word : line.value_word.at < behind (shown line.value_word)
  pub within : behind (shown line.value_word) ≤ length text

-- what is known of the settings so far: the cycle of the last one, and for each input the cycle that set it last
pub record Knows (ports : Ports) (cycles last : ℕ) (set_in : List (Option ℕ)) (settings : List Setting) : Type 0 where
  pub as_many : length set_in ≡ length ports.inputs
  pub below : All (λ s. s.cycle < cycles) settings
  pub of_inputs : All (IsOf ports) settings
  pub pairs : AllPairs StandsBefore settings
  pub latest : 0 < last → (s : Setting) × (slice_get settings (length settings - 1) ≡ Some s) × (s.cycle ≡ last)
  pub set : (input cycle : ℕ) → slice_get set_in input ≡ Some (Some cycle) → (s : Setting) × Contains settings s × (s.cycle ≡ cycle) × (s.input ≡ input)
  pub noted : (s : Setting) → Contains settings s → (c : ℕ) × (slice_get set_in s.input ≡ Some (Some c)) × (s.cycle ≤ c) × (c ≤ last)

-- a setting without a fault, that a line says, behind the settings of which this is known
pub record IsSound (ports : Ports) (cycles last : ℕ) (set_in : List (Option ℕ)) (said : Said) (setting : Setting) : Type 0 where
  pub cycle : setting.cycle ≡ said.cycle
  pub in_order : last ≤ setting.cycle
  pub below : setting.cycle < cycles
  pub named : is_leaf ports said.leaf.bytes ≡ true
  pub input : input_of ports said.leaf.bytes ≡ Some setting.input
  pub of_input : IsOf ports setting
  pub fresh : slice_get set_in setting.input ≢ Some (Some setting.cycle)
  pub held : (leaf : PortLeaf) × (slice_get ports.inputs setting.input ≡ Some leaf) × InRange leaf.kind leaf.width (integer_of_number said.number)
  pub value : integer_of setting.value ≡ integer_of_number said.number

-- the lines have no fault, for so many cycles
abbrev pub HaveNoFault : List ℕ → Ports → ℕ → List (List Word) → Type 0
HaveNoFault text ports cycles lines = (k : ℕ) (line : List Word) → slice_get lines k ≡ Some line
    → (said : Said) × Says line said × ((fault : StimFault) → ¬ (IsLineFault text ports cycles (take k lines) said fault))

-- a line's fault: it breaks its form, or it is the first of what it says
abbrev pub IsFirstOfLine : List ℕ → Ports → ℕ → List (List Word) → List Word → StimFault → Type 0
IsFirstOfLine text ports cycles before line fault =
    ((at : ℕ) × Breaks setting_forms 0 line at × (fault ≡ BadLine (place text at)))
    ⊎ ((said : Said) × Says line said × IsFirst place_of rank_of (IsLineFault text ports cycles before said) fault)

-- the first fault of lines
pub record IsFirstOfLines (text : List ℕ) (ports : Ports) (cycles : ℕ) (lines : List (List Word)) (fault : StimFault) : Type 0 where
  pub number : ℕ
  pub line : List Word
  pub there' : slice_get lines number ≡ Some line
  pub before : HaveNoFault text ports cycles (take number lines)
  pub is : IsFirstOfLine text ports cycles (take number lines) line fault

-- From an offset on the rest of the lines is to be read; the others gave these settings, of which this is known.
pub record IsReadTo (text : List ℕ) (ports : Ports) (cycles : ℕ) (lines : List (List Word)) (at last : ℕ) (set_in : List (Option ℕ)) (settings : List Setting) : Type 0 where
  pub done : List (List Word)
  pub split : lines ≡ done ++ told_at text at
  pub no_fault : HaveNoFault text ports cycles done
  pub sets : AllZip (Sets ports) done settings
  pub knows : Knows ports cycles last set_in settings

-- lines without a fault give these settings
pub record AreRead (text : List ℕ) (ports : Ports) (cycles : ℕ) (lines : List (List Word)) (settings : List Setting) : Type 0 where
  pub no_fault : HaveNoFault text ports cycles lines
  pub sets : AllZip (Sets ports) lines settings
  pub below : All (λ s. s.cycle < cycles) settings
  pub of_inputs : All (IsOf ports) settings
  pub pairs : AllPairs StandsBefore settings
