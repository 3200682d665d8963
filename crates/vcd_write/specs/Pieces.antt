-- The text of a dump piece by piece: a front, what each cycle adds, and an end.
use Rattle.std.specs.Prelude.{false, ◌≡◌, ℕ, ◌+◌, List, [], ◌∷◌, ◌++◌, map, flat_map, Option, Some, None, option_map, decimal}
use Rattle.std.specs.List.{AllZip}
use Rattle.bit_words.specs.declared.value.Value.{Value}
use Rattle.ground_net.specs.declared.net.PortLeaf.{PortLeaf}
use Rattle.row_texts.specs.Tellings.{Telling}
use Rattle.vcd_write.specs.Changes.{Entry, Time, all_bits, changes, stamped}
use Rattle.vcd_write.specs.Texts.{entry_line, header_lines, ended, bits_of_row}

-- another value has the kind and the width of a value
pub record HasShapeOf (v other : Value) : Type 0 where
  pub kind : other.kind ≡ v.kind
  pub width : other.width ≡ v.width

abbrev pub HaveShapesOf : List Value → List Value → Type 0
HaveShapesOf row others = AllZip HasShapeOf row others

-- what a cycle tells: all variables where no row stands before, and else those that change
abbrev pub told_of_cycle : ℕ → Option (List ℕ) → List ℕ → List Entry
told_of_cycle c None now = Time c ∷ all_bits 0 now
told_of_cycle c (Some before) now = stamped c (changes 0 before now)

abbrev pub widths_of_row : List Value → List ℕ
widths_of_row row = map (λ v. v.width) row

-- lines of entries
abbrev pub entries_text : List ℕ → List Entry → List ℕ
entries_text widths told = flat_map ended (map (entry_line widths) told)

-- The front: all that stands before the first cycle.
abbrev pub header_text : List ℕ → List PortLeaf → List ℕ
header_text top vars = flat_map ended (header_lines top vars)

-- What a cycle adds, behind the row of the cycle before, if there is one.
abbrev pub cycle_text : ℕ → Option (List Value) → List Value → List ℕ
cycle_text c before row = entries_text (widths_of_row row) (told_of_cycle c (option_map bits_of_row before) (bits_of_row row))

-- What the cycles of rows add, one behind the other, from a cycle on.
abbrev pub cycles_text : ℕ → Option (List Value) → List (List Value) → List ℕ
cycles_text c before [] = []
cycles_text c before (row ∷ rows) = cycle_text c before row ++ cycles_text (c + 1) (Some row) rows

-- The end: the number of cycles.
abbrev pub end_text : ℕ → List ℕ
end_text cycles = ended (35 ∷ decimal cycles)

-- The same as a text of rows, none of which ends the run.
abbrev pub dump_telling : List ℕ → List PortLeaf → Telling
dump_telling top vars = record { head = header_text top vars; row = cycle_text; ends = λ row. false; foot = λ cycle before byte. end_text cycle }
