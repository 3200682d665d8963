use Rattle.type_index.proofs.Parts.{none_more, first_here, before_more, placed_first}
use Rattle.type_index.proofs.known.first_place.Goals as goal

pub returns-then-fields-position-clause-position : goal.returns-then-fields-position-clause-position
returns-then-fields-position-clause-position c =
    first_here c.args.fields.now c.loop-position.position c.index-fields-position.result c.args.id c.loop-position-test.true c.loop-position.invariant.0 c.if-fields-position.true

pub returns-then-fields-position-clause-before : goal.returns-then-fields-position-clause-before
returns-then-fields-position-clause-before c =
    placed_first c.args.fields.now c.args.id c.loop-position.position c.loop-position.before
    (first_here c.args.fields.now c.loop-position.position c.index-fields-position.result c.args.id c.loop-position-test.true c.loop-position.invariant.0 c.if-fields-position.true)
    c.loop-position.invariant.1

pub loop-position-preserved : goal.loop-position-preserved
loop-position-preserved c = (
  none_more c.args.fields.now c.loop-position.position c.index-fields-position.result c.args.id c.loop-position-test.true c.loop-position.invariant.0 c.if-fields-position.false,
  before_more c.args.fields.now c.args.parts.now c.loop-position.position c.loop-position.before c.places_at.result c.saturating_add-before.result c.requires c.loop-position.invariant.1
      c.places_at.ensures c.saturating_add-before.ensures,
)
