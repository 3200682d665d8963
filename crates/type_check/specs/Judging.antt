-- What the walk through an expression has in hand and adds, in the words of the definitions.
use Rattle.std.specs.Prelude.{◌≡◌, ℕ, List, ◌∷◌, ◌++◌, flat_map, slice_set, Option, Some, None, option_map, IfSome}
use Rattle.place_text.specs.declared.place.Place.{Place}
use Rattle.fir_types.specs.declared.fir_type.FirType.{FirType}
use Rattle.type_check.specs.declared.found.Findings.{Findings}
use Rattle.fir_tree.specs.declared.part.Part.{Part}
use Rattle.type_check.specs.declared.rules.Operand.{Operand as Held}
use Rattle.type_check.specs.declared.reached.Reached.{Reached}
use Rattle.fir_tree.specs.Parts.{part_of}
use Rattle.type_check.specs.Parts.{Known}
use Rattle.type_check.specs.Expressions.{Judgement, Operand, type_or_none, found_of}

-- what a reference has come to, as a part
abbrev pub part_at : Reached → Part
part_at reached = part_of reached.known.typ.now reached.flow

abbrev pub part_reached : Option Reached → Option Part
part_reached reached = option_map part_at reached

-- an operand that is held
abbrev pub operand_of : Held → Operand
operand_of held = record { place = held.expr.now.place; typ = held.part.typ }

-- its part is what is found of its expression
abbrev pub IsFound : Known → Held → Type 0
IsFound known held = (found_of known held.expr.now).part ≡ Some held.part

-- what is found of several expressions
abbrev pub together : List Judgement → Judgement
together js = record { part = None; nodes = flat_map (λ j. j.nodes) js; faults = flat_map (λ j. j.faults) js }

-- the type of a node at this place, or what stands for it
abbrev pub own_type : Place → Judgement → FirType
own_type place judgement = type_or_none place (option_map (λ part. part.typ) judgement.part)

-- the nodes below a node at this place were added, and all faults
pub record AddsBelow (place : Place) (judgement : Judgement) (old new : Findings) : Type 0 where
  pub below : List FirType
  pub nodes : judgement.nodes ≡ own_type place judgement ∷ below
  pub types : new.types.items ≡ old.types.items ++ below
  pub faults : new.faults.items ≡ old.faults.items ++ judgement.faults

-- the type of a part, where there is one, in the place of the type with this number
abbrev pub filled : List FirType → ℕ → Option Part → List FirType
filled types at (Some part) = slice_set types at part.typ
filled types at None = types

-- this is the type of the part, where there is one
abbrev pub Agrees : FirType → Option Part → Type 0
Agrees typ part = IfSome part (λ part. part.typ ≡ typ)
