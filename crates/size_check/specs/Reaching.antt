-- What the walks through expressions keep.
use Rattle.size_check.specs.declared.known.Known.{Known}
use Rattle.size_check.specs.declared.reached.Reached.{Reached}
use Rattle.fir_tree.specs.LeafNames.{Texts}
use Rattle.type_index.specs.declared.known.Known.{Known as Part}
use Rattle.type_index.specs.Knowing.{HasWays}
use Rattle.size_check.specs.Caps.{cap}
use Rattle.size_check.specs.Kept.{types_of}
use Rattle.size_check.specs.Weights.{Typing, Weight}
use Rattle.size_check.specs.Typings.{typing}

-- the types of the components that are known
abbrev pub types_in : Known → Typing
types_in known = typing (types_of known.types.entries)

abbrev pub weight_of : Reached → Weight
weight_of reached = record { typ = reached.part.typ.now; most = reached.most }

abbrev pub capped_weight : Weight → Weight
capped_weight w = record { typ = w.typ; most = cap w.most }

-- the bytes of the ways to the leaves of a type and of its parts are right
abbrev pub HasPart : Texts → Part → Type 0
HasPart texts part = ∥ HasWays texts part.typ.now part.index.now ∥₁
