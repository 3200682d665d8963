use Rattle.std.proofs.Common.{rules, arith}
use Rattle.std.proofs.lemmas.Option.{IfSome_then}
use Rattle.type_filling.proofs.Behind.{leads_inside, leads_shape, leads_field, leads_all, same_flip, same_place, same_name, none_left}
use Rattle.fir_types.proofs.Runs.{element_falls}
use Rattle.type_filling.proofs.sharing.+behind.Goals as goal

pub behind_fields-loop-field-init : goal.behind_fields-loop-field-init
behind_fields-loop-field-init t c = λ r e. e

pub behind_fields-loop-field-preserved : goal.behind_fields-loop-field-preserved
behind_fields-loop-field-preserved t c =
    let field = c.field-item.result in
    let first = c.in_ok-first.first.now in
    leads_field c.args.fields.now c.args.fitted.now c.loop-field.left.now c.in_ok-first.others.now c.loop-field.field-index field first c.args.widths.now c.loop-field.rest.now c.in_ok-rest.rest.now
    (search rules) (search rules) c.in_ok-first.ensures (same_flip first.flip field.flip c.if-first-field.false)
    (same_name first.name field.name (search rules) (same_place first.name.place field.name.place c.if-ne.ensures)) c.in_ok-rest.ensures c.loop-field.invariant

pub behind_fields-returns-then-is_empty : goal.behind_fields-returns-then-is_empty
behind_fields-returns-then-is_empty t c =
    leads_all c.args.fields.now c.args.fitted.now c.loop-field.left.now c.loop-field.field-index c.args.widths.now c.loop-field.rest.now c.loop-field-test.false
    (none_left c.loop-field.left.now c.if-is_empty.ensures) c.loop-field.invariant

pub behind_type-loop-inside-init : goal.behind_type-loop-inside-init
behind_type-loop-inside-init t c = (λ r e. e, omega arith)

pub behind_type-loop-inside-preserved : goal.behind_type-loop-inside-preserved
behind_type-loop-inside-preserved t c =
    let inside = c.loop-inside.inside.now in
    let other = c.loop-inside.other.now in
    rw (c.get-inside.ensures, c.get-other.ensures) (
      leads_inside c.args.typ.now c.args.fitted.now inside other _ _ _ _ c.args.widths.now c.in-Vector.is c.in-Vector-shape.is
          (same_place inside.place other.place c.if-ne.ensures) c.if-length-other_length.false c.loop-inside.invariant.0,
      element_falls inside _ _ _ c.in-Vector.is c.loop-inside.invariant.1,
    )

pub behind_type-returns : goal.behind_type-returns
behind_type-returns t c =
    let inside = c.loop-inside.inside.now in
    let other = c.loop-inside.other.now in
    IfSome_then c.behind_shape.result c.behind_shape.ensures
    (λ rest e. leads_shape c.args.typ.now c.args.fitted.now inside other c.args.widths.now rest.now c.loop-inside.invariant.0 (same_place inside.place other.place c.if-ne-2.ensures) e)
