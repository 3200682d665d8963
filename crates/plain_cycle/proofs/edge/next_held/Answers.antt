use Rattle.std.proofs.Common.{get_or, ap, arith}
use Rattle.plain_cycle.specs.Runs.{design_in}
use Rattle.plain_cycle.proofs.Parts.{part_there}
use Rattle.plain_cycle.proofs.Nexts.{held_more, held_all, same_next}
use Rattle.plain_cycle.proofs.edge.next_held.Goals as goal

pub next_of_leaves-requires-clause-part : goal.next_of_leaves-requires-clause-part
next_of_leaves-requires-clause-part c =
    let run = c.args.run.now in
    let y = part_there (design_in run) run.sites.now run.declared.now c.requires.layout c.loop-at.at _ (omega arith) (ap (get_or run.sites.now c.loop-at.at) c.index-run-at.is) (ap (get_or run.declared.now c.loop-at.at) c.index-run-at-in-loop-at.is) in
    (y.0, y.1.is)

pub next_of_memory-requires-clause-part : goal.next_of_memory-requires-clause-part
next_of_memory-requires-clause-part c =
    let run = c.args.run.now in
    let y = part_there (design_in run) run.sites.now run.declared.now c.requires.layout c.loop-at.at _ (omega arith) (ap (get_or run.sites.now c.loop-at.at) c.index-run-at.is) (ap (get_or run.declared.now c.loop-at.at) c.index-run-at-in-loop-at.is) in
    (y.0, y.1.is)

pub loop-at-preserved : goal.loop-at-preserved
loop-at-preserved c = λ layout.
    let run = c.args.run.now in
    held_more (design_in run) run.sites.now run.declared.now layout _ _ c.loop-at.at c.loop-at.registers c.push.new.self c.loop-at.contents c.push-in-loop-at.new.self c.loop-at.captured c.push-in-loop-at-2.new.self
    c.in_ok-next_of_leaves.field-0 c.in_ok-next.next.elements c.in_ok-next.next.read (omega arith) (ap (get_or run.sites.now c.loop-at.at) c.index-run-at.is) (ap (get_or run.declared.now c.loop-at.at) c.index-run-at-in-loop-at.is)
    c.in_ok-push.ensures.ok c.in_ok-push-2.ensures.ok c.in_ok-push-3.ensures.ok c.in_ok-next_of_leaves.ensures c.in_ok-next.ensures.written c.in_ok-next.ensures.read (c.loop-at.invariant layout)

pub returns : goal.returns
returns c =
    let run = c.args.run.now in
    same_next (design_in run) run.sites.now run.declared.now c.requires.layout _ _ _ (held_all (design_in run) run.sites.now run.declared.now c.requires.layout _ _ c.loop-at.at c.loop-at.registers c.loop-at.contents c.loop-at.captured (omega arith) (c.loop-at.invariant c.requires.layout))
