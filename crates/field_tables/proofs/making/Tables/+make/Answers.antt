use Rattle.std.proofs.Common.{◌≡◌, ◌∙◌, ap, subst, refl, sym, rules, Some, length}
use Rattle.std.specs.Prelude.{slice_get}
use Rattle.std.proofs.lemmas.Option.{slice_get_read}
use Rattle.std.proofs.Math.Logic.{∥∥₁_map}
use Rattle.fir_types.specs.declared.fir_type.Shape.TheVariants as shape
use Rattle.fir_types.proofs.Runs.{element_falls}
use Rattle.field_tables.specs.Fits.{Fits, vector}
use Rattle.field_tables.proofs.Fitting.{gathers_more, all_gathered, told, weaker}
use Rattle.field_tables.proofs.making.Tables.+make.Goals as goal

pub table_of-loop-inside-preserved : goal.table_of-loop-inside-preserved
table_of-loop-inside-preserved t c =
    let inside = c.loop-inside.inside.now in
    let at = c.in-Vector.is in
    rw c.get-inside.ensures
    (λ table fits. c.loop-inside.invariant.0 table (vector c.in-Vector.element c.in-Vector.field-1 at fits), element_falls inside _ _ _ at c.loop-inside.invariant.1)

pub table_of-returns-in-Some-get : goal.table_of-returns-in-Some-get
table_of-returns-in-Some-get t c = ∥∥₁_map c.in_ok-table.ensures (weaker c.in_ok-table.table c.loop-inside.invariant.0)

pub table_of-keep-requires : goal.table_of-keep-requires
table_of-keep-requires t c =
    ∥∥₁_map c.in_ok-table-2.ensures
    (λ h. told _ c.in_ok-table-2.field-0 c.in-Some-2.table c.in-Some-2.is h c.loop-inside.inside.now (c.in-Bundle.is ∙ ap shape.Bundle (sym c.as_slice-2.ensures)))

pub table_of-returns : goal.table_of-returns
table_of-returns t c =
    ∥∥₁_map c.in_ok-table-2.ensures
    (λ h. c.loop-inside.invariant.0 c.in_ok-table-3.table (subst (Fits c.loop-inside.inside.now) (sym c.in_ok-table-3.ensures)
    (told _ c.in_ok-table-2.field-0 c.in-Some-2.table c.in-Some-2.is h c.loop-inside.inside.now (c.in-Bundle.is ∙ ap shape.Bundle (sym c.as_slice-2.ensures)))))

pub new_table-loop-field-preserved : goal.new_table-loop-field-preserved
new_table-loop-field-preserved t c =
    let fields = c.args.fields.now in
    let i = c.loop-field.field-index in
    let at : slice_get fields i ≡ Some c.field-item.result = slice_get_read fields (length fields) i c.field-item.result refl c.loop-field-test.true c.field-item.is in
    gathers_more fields i c.field-item.result c.loop-field.counts.items c.push.new.self.items c.in-Some.count c.loop-field.inner c.push-in-loop-field.new.self c.inner_of.result
    c.loop-field-test.true c.field-item.is at c.in-Some.ensures
    (∥∥₁_map c.in_ok-table.ensures (λ h table e. told _ c.in_ok-table.table table (c.inner_of.ensures table e) h)) c.in_ok-push.ensures.items c.in_ok-push-2.ensures.ok
    c.loop-field.invariant

pub new_table-returns : goal.new_table-returns
new_table-returns t c =
    all_gathered c.args.fields.now c.loop-field.field-index c.loop-field.counts.items c.loop-field.inner _ c.loop-field-test.false c.loop-field.invariant
    (search rules) (search rules) (search rules)
