use Rattle.std.proofs.Common.{sym, ap, ◌∙◌, subst}
use Rattle.plain_values.specs.Contents.{stored_leaves}
use Rattle.plain_cycle.specs.Layouts.{Located}
use Rattle.plain_cycle.specs.Runs.{IsPart, design_in, state_at, values_at}
use Rattle.plain_cycle.specs.Edges.{AreWritten}
use Rattle.plain_cycle.proofs.Views.{sort_is, scene_there}
use Rattle.plain_cycle.proofs.Holding.{held_memory, contents_there}
use Rattle.plain_cycle.proofs.OfMemories.{written_is, reads_are}
use Rattle.plain_cycle.proofs.edge_memories.next_of_memory.Goals as goal

pub returns-in_default-clause-written : goal.returns-in_default-clause-written
returns-in_default-clause-written c = λ x is memory typ e of. absurd (held_memory c.args.part.now.declaration.sort memory (sort_is (design_in c.args.run.now) x c.args.part.now is ∙ e) c.in_default.not-Memory)

pub returns-in_default-clause-read : goal.returns-in_default-clause-read
returns-in_default-clause-read c = λ x is memory e. absurd (held_memory c.args.part.now.declaration.sort memory (sort_is (design_in c.args.run.now) x c.args.part.now is ∙ e) c.in_default.not-Memory)

pub returns : goal.returns
returns c =
    let run = c.args.run.now in
    let moment = c.args.moment.now in
    let part = c.args.part.now in
    let s = state_at run moment in
    let rho = values_at run moment in
    let stored = c.as_slice-2.ensures ∙ (c.in_ok-leaves.ensures ∙ ap stored_leaves c.as_slice.ensures) in
    let scene = λ (x : Located) (is : IsPart (design_in run) x part). scene_there run c.requires.run x part is c.as_slice-path.result.now c.as_slice-path.ensures moment.values.now in
    let held = λ (x : Located) (is : IsPart (design_in run) x part).
    contents_there run c.requires.run x part is moment.held.now.contents c.as_slice-contents.result.now c.as_slice-path.result.now c.elements_on-before.result.now c.as_slice-path.ensures c.as_slice-contents.ensures c.elements_on-before.ensures in
    let written : (x : Located) → IsPart (design_in run) x part → AreWritten s rho x c.write.new.elements =
    λ x is. written_is run c.requires.run x part is c.in-Memory.memory c.in-Memory.is s rho c.leaves_of_elements_are_stored.ensures _ c.as_slice-2.result.now c.elements_on-before.result.now c.in_ok-elements.elements c.write.new.elements (scene x is) (held x is) stored
    c.in_ok-elements.ensures c.in_ok-write.ensures in
    record {
      written = written;
      read = λ x is. reads_are run c.requires.run x part is c.in-Memory.memory c.in-Memory.is s rho _ c.as_slice-2.result.now c.as_slice-5.result.now c.elements_on-before.result.now c.as_slice-4.result.now c.taken-from.result.now
          c.as_slice-3.result.now c.in_ok-read.read (scene x is) (held x is) stored c.as_slice-5.ensures c.as_slice-3.ensures (subst (AreWritten s rho x) (sym c.as_slice-4.ensures) (written x is)) c.taken-from.ensures c.in_ok-read.ensures;
    }
