-- Where components stand, by their names.
use Rattle.std.specs.Prelude.{◌≡◌, ℕ, ◌++◌, List, [], ◌∷◌, map, nat_eq, is_some, slice_get, Some, if◌then◌else◌}
use Rattle.std.specs.Map.{lookup}
use Rattle.fir_meaning.specs.Components.{Component as Declared}
use Rattle.ground_exprs.specs.declared.component.Component.{Component}
use Rattle.ground_exprs.specs.Sources.{Entries}
use Rattle.lower_aggregates.specs.declared.pieces.Piece.{Piece}

abbrev pub component_of : Piece → Component
component_of p = record { typ = p.typ.now; first = p.first }

abbrev pub entry_of : Piece → ℕ × Component
entry_of p = (p.name.id, component_of p)

-- Each name has the first of these pieces that has it.
abbrev pub KnowsPieces : List Piece → Entries → Type 0
KnowsPieces pieces entries = (name : ℕ) → lookup (nat_eq name) entries ≡ lookup (nat_eq name) (map entry_of pieces)

-- one more, unless its name is known
abbrev pub with_new : Entries → Piece → Entries
with_new entries p = if is_some (lookup (nat_eq p.name.id) entries) then entries else entries ++ entry_of p ∷ []

-- no two components have one name
abbrev pub AreNamedOnce : List Declared → Type 0
AreNamedOnce cs = (j k : ℕ) (c d : Declared) → slice_get cs j ≡ Some c → slice_get cs k ≡ Some d → c.declaration.name ≡ d.declaration.name → j ≡ k
