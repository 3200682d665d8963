use Rattle.std.proofs.Common.{◌≡◌, ◌∙◌, sym, ap}
use Rattle.std.specs.Prelude.{slice_get}
use Rattle.std.specs.List.{HoldsAt}
use Rattle.std.specs.Option.{option_copied}
use Rattle.fir_types.proofs.Places.{at_place, field_found, got_at}
use Rattle.fir_types.proofs.index.FieldIndex.field.Goals as goal

pub returns-in-Some : goal.returns-in-Some
returns-in-Some c =
    let got : option_copied c.get.result ≡ slice_get c.args.fields.now c.in-Some.place.position = got_at (λ x. x.now) (λ x. HoldsAt (λ y. x.now ≡ y) c.args.fields.now c.in-Some.place.position) c.args.fields.now c.in-Some.place.position c.get.result c.get.ensures.lookup.1 c.get.ensures.lookup.3 in
    got ∙ ap (at_place c.args.fields.now) (sym c.in-Some.is)
    ∙ field_found c.args.fields.now c.requires.0 c.args.id c.place.result (c.place.ensures c.args.fields.now c.requires.0 c.requires.1)

pub returns-in-None : goal.returns-in-None
returns-in-None c =
    ap (at_place c.args.fields.now) (sym c.in-None.is)
    ∙ field_found c.args.fields.now c.requires.0 c.args.id c.place.result (c.place.ensures c.args.fields.now c.requires.0 c.requires.1)
