-- Which leaves of the run have their value from which, and what leads to one of them.
use Rattle.std.specs.Prelude.{◌≡◌, true, List, [], ◌∷◌, ◌++◌, Option, Some, None, if◌then◌else◌}
use Rattle.std.specs.Global.{Vec}
use Rattle.fir_meaning.specs.Components.{FlatLeaf}
use Rattle.clock_check.specs.declared.flat_set.FlatKey.{FlatKey}
use Rattle.clock_check.specs.Flats.{leaf_of_flat, same_flat, is_within}

abbrev pub Sinks : Type 0
Sinks = List (FlatKey × Vec FlatKey)

-- the leaves that have their value from this one
abbrev pub sinks_at : Sinks → FlatLeaf → List FlatKey
sinks_at [] y = []
sinks_at (e ∷ entries) y = if same_flat (leaf_of_flat e.0) y then e.1.items else sinks_at entries y

-- the first leaf has its value from the second one
abbrev pub IsSink : Sinks → FlatLeaf → FlatLeaf → Type 0
IsSink sinks x y = is_within (sinks_at sinks y) x ≡ true

-- the leaf leads to this one
pub data LeadsTo (sinks : Sinks) (root : FlatLeaf) : FlatLeaf → Type 0 where
  there : LeadsTo sinks root root
  onward : (x y : FlatLeaf) → IsSink sinks x y → LeadsTo sinks root y → LeadsTo sinks root x

-- the keys, and maybe more behind them
abbrev pub Grows : List FlatKey → List FlatKey → Type 0
Grows old new = (more : List FlatKey) × (new ≡ old ++ more)

-- none where there is no list
abbrev pub listed_in : Option (Vec FlatKey) → List FlatKey
listed_in (Some keys) = keys.items
listed_in None = []
