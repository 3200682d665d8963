use Rattle.std.proofs.Common.{ap, ap₂, ◌∙◌, pos}
use Rattle.bit_words.specs.Values.{integer_of}
use Rattle.fir_meaning.specs.Drives.{drives}
use Rattle.fir_meaning.specs.States.{or_else}
use Rattle.drive_check.specs.Keys.{leaf_of_key}
use Rattle.plain_cycle.specs.Runs.{design_in}
use Rattle.plain_cycle.proofs.Views.{or_else_nothing, block_is, scene_there, block_typed, narrow_there}
use Rattle.plain_cycle.proofs.asking.left_at.Goals as goal

pub left_in_leaf-requires-clause-narrow : goal.left_in_leaf-requires-clause-narrow
left_in_leaf-requires-clause-narrow c = narrow_there c.args.run.now c.requires.run

pub left_in_leaf-requires-clause-typed : goal.left_in_leaf-requires-clause-typed
left_in_leaf-requires-clause-typed c = block_typed c.args.run.now c.requires.run c.requires.part.0 c.args.part.now c.requires.part.1 c.as_slice.result.now c.as_slice.ensures

pub returns : goal.returns
returns c = λ x is.
    let run = c.args.run.now in
    ap integer_of c.unwrap_or.ensures
    ∙ (or_else_nothing c.in_ok-left.left c.nothing.result c.nothing.ensures
    ∙ (ap (or_else (pos 0)) c.in_ok-left.ensures
    ∙ ap₂ (λ scene block. or_else (pos 0) (drives scene (leaf_of_key c.args.key.now) block)) (scene_there run c.requires.run x c.args.part.now is c.as_slice.result.now c.as_slice.ensures c.args.moment.now.values.now)
    (block_is (design_in run) x c.args.part.now is)))
