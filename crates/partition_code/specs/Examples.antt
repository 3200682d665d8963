-- A small net, a part of it, and spans.
use Rattle.std.specs.Prelude.{ℕ, List, [], ◌∷◌, None}
use Rattle.ground_net.specs.declared.net.Net.{Net}
use Rattle.ground_net.specs.declared.net.CutPart.{CutPart}
use Rattle.phase_core.specs.declared.model.Publication.{Publication}
use Rattle.flat_code.specs.declared.code.Span.{Span}

-- a net whose one register has the first leaf
abbrev pub counter : Net
counter = record { ports = 0; leaves = []; drivers = []; registers = record { leaf = 0; reset = None } ∷ []; memories = [] }

-- the leaves that are watched
abbrev pub watching : List ℕ
watching = 5 ∷ 7 ∷ []

-- the second watched leaf, and the sink behind the watched ones
abbrev pub second_and_register : CutPart
second_and_register = record { sinks = 1 ∷ 2 ∷ []; assignments = [] }

-- so many words from a first one on
abbrev pub span : ℕ → ℕ → Span
span first count = record { first = first; count = count }

-- a word's number, and what is published of it
abbrev pub publication : ℕ → ℕ → Publication
publication word value = record { word = word; value = value }

-- words of which the first two are a register's, and publications of which the first and the last leave their words as they are
abbrev pub held : List ℕ
held = 5 ∷ 6 ∷ 7 ∷ []

abbrev pub leaving : List Publication
leaving = publication 0 5 ∷ publication 1 9 ∷ publication 2 8 ∷ publication 2 7 ∷ []
