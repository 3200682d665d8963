use Rattle.std.proofs.Common.{◌∙◌, sym, ap, subst}
use Rattle.std.specs.Prelude.{Some, None, option_map, IfSome}
use Rattle.type_index.specs.Knowing.{IsPlaceIn, fields_in, position_of}
use Rattle.type_index.proofs.Parts.{knows_among, knows_weights, knows_field, no_part, part_is, parts_of, nothing_found, field_found_at, bundle_out}
use Rattle.type_index.proofs.known.Known.field.Goals as goal

pub place_in-requires-clause-among : goal.place_in-requires-clause-among
place_in-requires-clause-among c =
    rw (c.as_ref.ensures.value, c.as_slice.ensures)
    (knows_among c.args.self.typ.now c.in-Bundle.fields c.args.self.index.now c.in-Bundle-inside.among c.in-Bundle-inside.parts c.args.self.knows c.in-Bundle.is
    c.in-Bundle-inside.is)

pub place_in-requires-clause-parts : goal.place_in-requires-clause-parts
place_in-requires-clause-parts c =
    rw (c.as_slice.ensures, c.as_slice-2.ensures)
    (knows_weights c.args.self.typ.now c.in-Bundle.fields c.args.self.index.now c.in-Bundle-inside.among c.in-Bundle-inside.parts c.args.self.knows c.in-Bundle.is
    c.in-Bundle-inside.is)

pub returns-in_err-place-clause-field : goal.returns-in_err-place-clause-field
returns-in_err-place-clause-field c =
    rw c.from_residual.ensures
    (nothing_found c.args.self.typ.now c.in-Bundle.fields c.args.id (option_map position_of c.place_in.result) c.in-Bundle.is (ap (option_map position_of) c.in_err-place.was)
    (rw c.as_slice.ensures at c.place_in.ensures.position))

pub returns-in_err-field-clause-field : goal.returns-in_err-field-clause-field
returns-in_err-field-clause-field c =
    rw c.from_residual-in_err-field.ensures
    (field_found_at c.args.self.typ.now c.in-Bundle.fields c.args.id c.in_ok-place.place.position (option_map position_of c.place_in.result) None c.in-Bundle.is
    (ap (option_map position_of) c.in_ok-place.was) (rw c.as_slice.ensures at c.place_in.ensures.position) (rw c.get.ensures at c.in_err-field.ensures.value))

pub unreachable-requires-in_default-get : goal.unreachable-requires-in_default-get
unreachable-requires-in_default-get c =
    no_part c.args.self.typ.now c.in-Bundle.fields c.args.self.index.now c.in-Bundle-inside.among c.in-Bundle-inside.parts c.in_ok-place.place.position c.in_ok-field.field.now
    c.args.self.knows c.in-Bundle.is c.in-Bundle-inside.is (sym (rw c.get.ensures at c.in_ok-field.ensures.value)) (sym (rw c.get-3.ensures at c.in_default-get.ensures.value))

pub invariant_of-result : goal.invariant_of-result
invariant_of-result c = record {
  knows = knows_field c.args.self.typ.now c.in-Bundle.fields c.args.self.index.now c.in-Bundle-inside.among c.in-Bundle-inside.parts c.in_ok-place.place.position
      c.in_ok-field.field.now c.in-Some.index.now c.args.self.knows c.in-Bundle.is c.in-Bundle-inside.is (sym (rw c.get.ensures at c.in_ok-field.ensures.value))
      (sym (rw c.get-3.ensures at c.in-Some.ensures.value));
}

pub returns-clause-field : goal.returns-clause-field
returns-clause-field c =
    field_found_at c.args.self.typ.now c.in-Bundle.fields c.args.id c.in_ok-place.place.position (option_map position_of c.place_in.result) (Some c.in_ok-field.field.now)
    c.in-Bundle.is (ap (option_map position_of) c.in_ok-place.was) (rw c.as_slice.ensures at c.place_in.ensures.position) (rw c.get.ensures at c.in_ok-field.ensures.value)

pub returns-clause-ways : goal.returns-clause-ways
returns-clause-ways c = λ texts m.
    part_is c.in-Bundle.fields c.in-Bundle-inside.parts c.in_ok-place.place.position c.in_ok-field.field.now c.in-Some.index.now
    (parts_of c.args.self.typ.now c.in-Bundle.fields c.args.self.index.now c.in-Bundle-inside.among c.in-Bundle-inside.parts m c.in-Bundle.is c.in-Bundle-inside.is)
    (sym (rw c.get.ensures at c.in_ok-field.ensures.value)) (sym (rw c.get-3.ensures at c.in-Some.ensures.value))

pub returns-clause-place : goal.returns-clause-place
returns-clause-place c =
    let here : IsPlaceIn c.as_slice.result.now c.args.id c.in_ok-place.place = subst (λ r. IfSome r (IsPlaceIn c.as_slice.result.now c.args.id)) c.in_ok-place.was c.place_in.ensures.before in
    subst (λ fs. IsPlaceIn fs c.args.id c.in_ok-place.place) (c.as_slice.ensures ∙ sym (ap fields_in (bundle_out c.args.self.typ.now c.in-Bundle.fields c.in-Bundle.is))) here
