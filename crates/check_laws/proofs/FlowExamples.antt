-- The references among two nodes, and the flow of one of them.
use Rattle.std.proofs.Common.{◌≡◌, [], ◌∷◌, Some, refl, arith}
use Rattle.std.specs.List.{AllZip}
use Rattle.std.proofs.lemmas.Grind.{common_steps}
use Rattle.place_text.specs.declared.place.Place.{Place}
use Rattle.fir_types.specs.declared.fir_type.Shape.TheVariants as shape
use Rattle.fir_types.specs.declared.name.Name.{Name}
use Rattle.fir_tree.specs.declared.expr.Expr.{Expr, the_lemmas}
use Rattle.fir_tree.specs.declared.expr.Form.TheVariants as form
use Rattle.fir_tree.specs.declared.part.Part.{Part}
use Rattle.fir_tree.specs.declared.part.Flow.TheVariants.{Duplex}
use Rattle.fir_tree.specs.Parts.{part_of}
use Rattle.type_check.specs.Parts.{Known}
use Rattle.check_laws.specs.Typing.{reference, nowhere_else}
use Rattle.check_laws.specs.CircuitNodes.{at}
use Rattle.check_laws.specs.References.{references_in, IsJudged}

abbrev place : Place
place = record { line = 1; column = 1 }

abbrev name : Name
name = record { id = 0; place = place }

abbrev wire : Part
wire = part_of (record { place = place; shape = shape.Unsigned (Some 1) }) Duplex

-- a wire is known
abbrev known : Known
known = (0, wire) ∷ []

abbrev a : Expr
a = record { place = place; form = form.Ref name [] }

abbrev choice : Expr
choice = record { place = place; form = form.Mux (a ∷ a ∷ a ∷ []) }

-- the reference, and not the choice
references_found : references_in (at known choice ∷ at known a ∷ []) ≡ at known a ∷ []
references_found = grind (arith, common_steps, the_lemmas)

-- it is judged to be duplex
wire_judged : AllZip IsJudged (at known a ∷ []) (Duplex ∷ [])
wire_judged = (record { part = wire; is = reference name [] wire refl refl nowhere_else; has = refl }, tt)
