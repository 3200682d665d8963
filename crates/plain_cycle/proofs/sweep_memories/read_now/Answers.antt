use Rattle.std.proofs.Common.{ap, ◌∙◌}
use Rattle.std.proofs.lemmas.Result.{IfOk-weaker}
use Rattle.plain_values.specs.Contents.{stored_leaves}
use Rattle.plain_cycle.specs.Runs.{design_in, values_at, contents_on}
use Rattle.plain_cycle.proofs.Views.{sort_is, scene_there}
use Rattle.plain_cycle.proofs.Holding.{held_memory, contents_there, read_is}
use Rattle.plain_cycle.proofs.sweep_memories.read_now.Goals as goal

pub returns-in_default : goal.returns-in_default
returns-in_default c = λ x is memory e. absurd (held_memory c.args.part.now.declaration.sort memory (sort_is (design_in c.args.run.now) x c.args.part.now is ∙ e) c.in_default.not-Memory)

pub returns : goal.returns
returns c =
    let run = c.args.run.now in
    let moment = c.args.moment.now in
    let part = c.args.part.now in
    IfOk-weaker c.read_by.result _ _
    (λ v h x is memory e. h ∙ read_is run c.requires.run x part is c.in-Memory.memory c.in-Memory.is memory e (values_at run moment) _ _ c.elements_on-elements.result.now (contents_on run.sites.now moment.held.now.contents x.path x.c.declaration.name)
    c.args.read.0 c.args.read.1.now (scene_there run c.requires.run x part is c.as_slice-path.result.now c.as_slice-path.ensures moment.values.now)
    (contents_there run c.requires.run x part is moment.held.now.contents c.as_slice-contents.result.now c.as_slice-path.result.now c.elements_on-elements.result.now c.as_slice-path.ensures c.as_slice-contents.ensures c.elements_on-elements.ensures)
    (c.as_slice-2.ensures ∙ (c.in_ok-leaves.ensures ∙ ap stored_leaves c.as_slice.ensures)))
    c.read_by.ensures
