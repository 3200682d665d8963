-- Declarations with their types.
use Rattle.std.specs.Prelude.{List, map, zip}
use Rattle.fir_types.specs.declared.fir_type.FirType.{FirType}
use Rattle.fir_meaning.specs.Components.{Component, TypedModule}
use Rattle.plain_cycle.specs.declared.places.Parts.{Parts}
use Rattle.plain_cycle.specs.Held.{Kept, kept_of, held}

-- what is kept of a component
abbrev pub bare : Component → Kept × FirType
bare c = (kept_of c.declaration, c.typ)

abbrev pub bares : TypedModule → List (Kept × FirType)
bares m = map bare m.components

-- the same of what is held
abbrev pub bares_held : Parts → List (Kept × FirType)
bares_held parts = zip (map held parts.declared.items) parts.types.now
