use Rattle.std.proofs.Common.{◌≡◌, Some, None, sym, subst}
use Rattle.std.specs.Prelude.{IfSome, slice_get}
use Rattle.field_tables.specs.declared.table.Inner.TheVariants as inner
use Rattle.field_tables.proofs.Parts.{found_at, found_nowhere, known_inner}
use Rattle.field_tables.proofs.tabled.Tabled.field.Goals as goal

pub returns-in_err-place : goal.returns-in_err-place
returns-in_err-place c =
    rw c.from_residual-in_err-place.ensures
    (found_nowhere c.args.self.typ.now c.in-Some.table.now c.in-Bundle.fields c.args.id c.place.result c.in-Bundle.is (c.args.self.fits c.in-Some.table c.in-Some.is) c.place.ensures
    c.in_err-place.was)

pub returns-in_err-field-2 : goal.returns-in_err-field-2
returns-in_err-field-2 c =
    rw c.from_residual-in_err-field-2.ensures
    (found_at c.args.self.typ.now c.in-Some.table.now c.in-Bundle.fields c.args.id c.place.result c.in_ok-place.place None c.in-Bundle.is
    (c.args.self.fits c.in-Some.table c.in-Some.is) c.place.ensures c.in_ok-place.was (rw c.get.ensures at c.in_err-field-2.ensures.value))

pub invariant_of-result : goal.invariant_of-result
invariant_of-result c = record {
  fits = λ x e. known_inner c.args.self.typ.now c.in-Some.table.now c.in-Bundle.fields c.in-Bundle.is (c.args.self.fits c.in-Some.table c.in-Some.is) c.in_ok-place.place.position
      c.in_ok-field-2.field.now x.now (sym (rw c.get.ensures at c.in_ok-field-2.ensures.value))
      (subst (λ r. IfSome r (λ it. slice_get c.in-Some.table.now.inner c.in_ok-place.place.position ≡ Some (inner.Table it.now))) e c.inner_at.ensures);
}

pub returns : goal.returns
returns c =
    found_at c.args.self.typ.now c.in-Some.table.now c.in-Bundle.fields c.args.id c.place.result c.in_ok-place.place (Some c.in_ok-field-2.field.now) c.in-Bundle.is
    (c.args.self.fits c.in-Some.table c.in-Some.is) c.place.ensures c.in_ok-place.was (rw c.get.ensures at c.in_ok-field-2.ensures.value)
