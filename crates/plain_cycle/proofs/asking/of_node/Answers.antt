use Rattle.std.proofs.Common.{map, ap, ◌∙◌}
use Rattle.bit_words.specs.Values.{integer_of}
use Rattle.fir_types.specs.Leaves.{leaves}
use Rattle.drive_check.specs.Keys.{step_of}
use Rattle.plain_values.specs.Sites.{integer_or_zero}
use Rattle.plain_cycle.specs.Runs.{design_in}
use Rattle.plain_cycle.proofs.Views.{or_nothing, node_is, node_typed, leaves_are, scene_there, narrow_there}
use Rattle.plain_cycle.proofs.asking.of_node.Goals as goal

pub evaluate-requires-clause-narrow : goal.evaluate-requires-clause-narrow
evaluate-requires-clause-narrow c = narrow_there c.args.run.now c.requires.run

pub evaluate-requires-clause-typed : goal.evaluate-requires-clause-typed
evaluate-requires-clause-typed c = node_typed c.args.run.now c.requires.run c.requires.part.0 c.args.part.now c.requires.part.1 c.as_slice.result.now c.as_slice.ensures c.args.node.0.now c.requires.part.2

pub returns : goal.returns
returns c = λ x is.
    let run = c.args.run.now in
    ap integer_of c.unwrap_or.ensures
    ∙ (or_nothing c.value_beside-value.result c.nothing.result c.nothing.ensures
    ∙ (ap integer_or_zero c.value_beside-value.ensures
    ∙ node_is c.args.node.0.now c.args.node.1.now.path (leaves x.c.typ) _ _ _ _ _ (ap (map step_of) c.as_slice-5.ensures.value ∙ (c.in_ok-key.ensures.way ∙ c.as_slice-2.ensures)) (c.as_slice-3.ensures ∙ leaves_are (design_in run) x c.args.part.now is) (c.as_slice-4.ensures ∙ c.in_ok-values.ensures)
    (scene_there run c.requires.run x c.args.part.now is c.as_slice.result.now c.as_slice.ensures c.args.moment.now.values.now)))
