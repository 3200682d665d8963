-- What a log tells of the rows of a run. In a row stand, for each item in order, the value of its wire and then those of its arguments.
use Rattle.std.specs.Prelude.{◌≡◌, ℕ, ◌+◌, ◌-◌, ◌==◌, Bool, List, [], ◌∷◌, ◌++◌, length, take, drop, sum, map, Option, Some, None, option_and_then, is_some, if◌then◌else◌}
use Rattle.bit_words.specs.declared.value.Value.{Value}
use Rattle.fir_tree.specs.declared.print.PrintItem.{PrintItem}
use Rattle.item_lines.specs.Formats.{shows}
use Rattle.row_texts.specs.Tellings.{Telling}
use Rattle.print_stop.specs.Printed.{printed, stopped_line, ended_line}

-- how many values of a row are an item's
abbrev pub places : PrintItem → ℕ
places item = shows item.pieces + 1

-- The values of an item: it is enabled where its wire is 1.
abbrev pub own_text : PrintItem → List Value → List ℕ
own_text item [] = []
own_text item (wire ∷ values) = if wire.bits == 1 then printed item.pieces values else []

abbrev pub own_code : PrintItem → List Value → Option ℕ
own_code item [] = None
own_code item (wire ∷ values) = if wire.bits == 1 then item.stop else None

-- what all items print
abbrev pub items_text : List PrintItem → List Value → List ℕ
items_text [] row = []
items_text (item ∷ items) row = own_text item (take (places item) row) ++ items_text items (drop (places item) row)

-- the first code
abbrev pub first_of : Option ℕ → Option ℕ → Option ℕ
first_of (Some code) later = Some code
first_of None later = later

-- the code of the first `stop` that is enabled
abbrev pub items_code : List PrintItem → List Value → Option ℕ
items_code [] row = None
items_code (item ∷ items) row = first_of (own_code item (take (places item) row)) (items_code items (drop (places item) row))

-- a line feed behind another byte
abbrev pub feed : Option ℕ → List ℕ
feed None = []
feed (Some byte) = if byte == 10 then [] else 10 ∷ []

-- the last line, where this is the number of the cycle that would come
abbrev pub last_line : ℕ → Option ℕ → List ℕ
last_line cycle (Some code) = stopped_line (cycle - 1) code
last_line cycle None = ended_line cycle

-- The text of a log: a row in which a `stop` is enabled ends it.
abbrev pub log_telling : List PrintItem → Telling
log_telling items = record {
  head = [];
  row = λ cycle before row. items_text items row;
  ends = λ row. is_some (items_code items row);
  foot = λ cycle before byte. feed byte ++ last_line cycle (option_and_then (items_code items) before);
}

-- a row that has the values of these items
abbrev pub IsLogRow : List PrintItem → List Value → Type 0
IsLogRow items row = length row ≡ sum (map places items)
