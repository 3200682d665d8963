use Rattle.std.proofs.Common.{refl, ◌∙◌}
use Rattle.fir_types.proofs.Runs.{further_in, element_falls}
use Rattle.type_index.specs.Sights.{table_of}
use Rattle.type_index.specs.Parts.{no_parts}
use Rattle.type_index.proofs.Made.{unsigned_shape, signed_number, clock_number, async_number, vector_shape, bundle_shape, parts_more}
use Rattle.type_index.proofs.numbering.+number.Goals as goal

pub number_shape-returns-in-Signed : goal.number_shape-returns-in-Signed
number_shape-returns-in-Signed t c = λ typ is.
    signed_number (table_of c.args.classes.now) c.args.mask typ _ c.unless_mask.result (is ∙ c.in-Signed.is) c.unless_mask.ensures.masks c.unless_mask.ensures.plain

pub number_shape-returns-in-Clock : goal.number_shape-returns-in-Clock
number_shape-returns-in-Clock t c = λ typ is.
    clock_number (table_of c.args.classes.now) c.args.mask typ c.unless_mask-in-Clock.result (is ∙ c.in-Clock.is) c.unless_mask-in-Clock.ensures.masks
    c.unless_mask-in-Clock.ensures.plain

pub number_shape-returns-in-AsyncReset : goal.number_shape-returns-in-AsyncReset
number_shape-returns-in-AsyncReset t c = λ typ is.
    async_number (table_of c.args.classes.now) c.args.mask typ c.unless_mask-in-AsyncReset.result (is ∙ c.in-AsyncReset.is) c.unless_mask-in-AsyncReset.ensures.masks
    c.unless_mask-in-AsyncReset.ensures.plain

pub number_shape-returns-in-Some : goal.number_shape-returns-in-Some
number_shape-returns-in-Some t c =
    bundle_shape (table_of c.args.classes.now) c.args.mask c.args.shape.now c.in-Bundle.fields c.in-Some.parts.items c.number_parts.result c.in-Bundle.is
    (rw c.as_slice.ensures at (rw c.in-Some.is at c.in_ok-parts-in-Bundle.ensures)) (rw c.deref.ensures.value at c.number_parts.ensures)

pub number_shape-returns-in-Some-2 : goal.number_shape-returns-in-Some-2
number_shape-returns-in-Some-2 t c =
    vector_shape (table_of c.args.classes.now) c.args.mask c.args.shape.now c.in-Vector.element c.in-Vector.length c.in-Some-2.inner c.vector.result c.in-Vector.is
    (rw c.get.ensures at (rw c.in-Some-2.is at c.in_ok-inner-in-Vector.ensures)) c.vector.ensures

pub number_shape-returns-in-Unsigned : goal.number_shape-returns-in-Unsigned
number_shape-returns-in-Unsigned t c = unsigned_shape (table_of c.args.classes.now) c.args.mask c.args.shape.now c.in-Unsigned.is

pub number_shape-returns-in-Unsigned-2 : goal.number_shape-returns-in-Unsigned-2
number_shape-returns-in-Unsigned-2 t c = unsigned_shape (table_of c.args.classes.now) c.args.mask c.args.shape.now c.in-Unsigned.is

pub number_type-loop-inside-preserved : goal.number_type-loop-inside-preserved
number_type-loop-inside-preserved t c =
    let lengths = c.loop-inside.lengths.items in
    let inside = c.loop-inside.inside.now in
    let at = c.in-Vector.is in
    rw (c.in_ok-push.ensures.items, c.get-inside.ensures)
    (further_in lengths inside _ _ _ at c.loop-inside.invariant.0, element_falls inside _ _ _ at c.loop-inside.invariant.1)

pub parts_of-loop-field-init : goal.parts_of-loop-field-init
parts_of-loop-field-init t c = rw c.new-parts.ensures.items no_parts

pub parts_of-loop-field-preserved : goal.parts_of-loop-field-preserved
parts_of-loop-field-preserved t c =
    parts_more (table_of c.args.classes.now) c.args.mask c.args.fields.now c.loop-field.field-index c.field-item.result c.loop-field.parts.items c.push.new.self.items
    (record { name = c.field-item.result.name.id; flip = c.field-item.result.flip; class = c.in-Some.class }) c.loop-field-test.true c.field-item.is c.loop-field.invariant
    refl refl (rw c.in-Some.is at c.in_ok-class.ensures) c.in_ok-push.ensures.items
