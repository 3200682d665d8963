-- Places of a text, and the line that names a fault.
use Rattle.std.specs.Prelude.{ℕ, ◌+◌, Bool, ◌==◌, not, List, ◌++◌, take, count_by, codes, decimal}
use Rattle.std.specs.List.{suffix_len}
use Rattle.place_text.specs.declared.place.Place.{Place}
use Rattle.place_text.specs.declared.place.TextPart.{TextPart}
use Rattle.place_text.specs.declared.place.TextPart.TheVariants.{Circuit, Stimulus, State}

-- whether a byte ends a line
abbrev pub is_feed : ℕ → Bool
is_feed byte = byte == 10

-- The place of an offset: one more than the line feeds before it, and one more than the bytes since the last of them.
unfoldable pub place : List ℕ → ℕ → Place
place text offset = let before = take offset text in record {
  line = 1 + count_by is_feed before;
  column = 1 + suffix_len (λ byte. not (is_feed byte)) before;
}

-- the place where each text begins
abbrev pub first_place : Place
first_place = record { line = 1; column = 1 }

-- the word for a part
abbrev pub part_word : TextPart → List ℕ
part_word Circuit = codes "circuit"
part_word Stimulus = codes "stimulus"
part_word State = codes "state"

-- `circuit KIND L:C`, `stimulus KIND L:C` or `state KIND L:C` and a line feed, the numbers in decimal
unfoldable pub fault_line_bytes : TextPart → List ℕ → Place → List ℕ
fault_line_bytes part kind place =
    part_word part ++ codes " " ++ kind ++ codes " " ++ decimal place.line ++ codes ":" ++ decimal place.column ++ codes "\n"
