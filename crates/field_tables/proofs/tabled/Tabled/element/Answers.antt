use Rattle.std.proofs.Common.{subst, sym}
use Rattle.field_tables.specs.Fits.{Fits}
use Rattle.field_tables.proofs.Parts.{known_element}
use Rattle.field_tables.proofs.tabled.Tabled.element.Goals as goal

pub invariant_of-result : goal.invariant_of-result
invariant_of-result c = record {
  fits = λ x e. subst (λ t. ∥ Fits t x.now ∥₁) (sym c.get.ensures) (known_element c.args.self.typ.now x.now c.in-Vector.element c.in-Vector.field-1 c.in-Vector.is (c.args.self.fits x e));
}
