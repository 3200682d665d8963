-- What references without a dynamic index name.
use Rattle.std.specs.Prelude.{◌≡◌, true, false, [], ◌∷◌, map, Option, Some, None}
use Rattle.fir_meaning.specs.Mentions.{Region}
use Rattle.fir_meaning.specs.Certain.{is_static}
use Rattle.drive_check.specs.declared.spot.Spot.{Spot}
use Rattle.drive_check.specs.Keys.{step_of}

abbrev pub region_at : Spot → Region
region_at spot = record { component = spot.component; typ = spot.part.typ.now; ways = map step_of spot.way.items ∷ []; dynamic = false; indices = [] }

-- it is this part, and where there is none it has a dynamic index
abbrev pub Leads : Region → Option Spot → Type 0
Leads region (Some spot) = region ≡ region_at spot
Leads region None = region.dynamic ≡ true

-- the same of an expression, which may be no reference
abbrev pub Names : Option Region → Option Spot → Type 0
Names region (Some spot) = region ≡ Some (region_at spot)
Names region None = is_static region ≡ false
