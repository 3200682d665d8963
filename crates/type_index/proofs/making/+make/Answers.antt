use Rattle.std.proofs.Common.{◌∙◌, refl, subst, take}
use Rattle.std.proofs.lemmas.Result.{IfOk-weaker}
use Rattle.fir_types.proofs.Runs.{further_in, element_falls}
use Rattle.type_index.specs.Knowing.{Matches, IsRight}
use Rattle.type_index.proofs.Built.{gathers_taken, all_sized, clock_matches, async_matches}
use Rattle.type_index.proofs.making.+make.Goals as goal

pub make-loop-inside-preserved : goal.make-loop-inside-preserved
make-loop-inside-preserved t c =
    let lengths = c.loop-inside.lengths.items in
    let inside = c.loop-inside.inside.now in
    let at = c.in-Vector.is in
    rw (c.in_ok-push.ensures.items, c.get-inside.ensures)
    (further_in lengths inside _ _ _ at c.loop-inside.invariant.0, element_falls inside _ _ _ at c.loop-inside.invariant.1)

pub make-returns : goal.make-returns
make-returns t c =
    IfOk-weaker c.put_around.result _ _
    (λ index around. subst (λ typ. Matches (IsRight c.args.names.now) typ index) c.loop-inside.invariant.0
    (around c.args.names.now c.loop-inside.inside.now (c.in_ok-innermost.ensures c.loop-inside.inside.now refl))) c.put_around.ensures

pub make_fields-loop-field-preserved : goal.make_fields-loop-field-preserved
make_fields-loop-field-preserved t c =
    gathers_taken c.args.names.now c.args.fields.now c.loop-field.field-index c.field-item.result c.push.new.self c.loop-field-test.true c.field-item.is
    (c.in_ok-push.ensures (take c.loop-field.field-index c.args.fields.now) c.loop-field.invariant c.in_ok-part.ensures)

pub make_fields-loop-field-init : goal.make_fields-loop-field-init
make_fields-loop-field-init t c = c.new-gathered.ensures c.args.names.now

pub make_shape-returns-in-Unsigned : goal.make_shape-returns-in-Unsigned
make_shape-returns-in-Unsigned t c = rw c.of_ground-in-Unsigned.ensures (λ typ is. all_sized c.args.names.now c.args.shape.now typ c.in-Unsigned.is is)

pub make_shape-returns-in-Clock : goal.make_shape-returns-in-Clock
make_shape-returns-in-Clock t c = rw c.of_ground.ensures (λ typ is. clock_matches c.args.names.now typ (is ∙ c.in-Clock.is))

pub make_shape-returns-in-AsyncReset : goal.make_shape-returns-in-AsyncReset
make_shape-returns-in-AsyncReset t c = rw c.of_ground-in-AsyncReset.ensures (λ typ is. async_matches c.args.names.now typ (is ∙ c.in-AsyncReset.is))
