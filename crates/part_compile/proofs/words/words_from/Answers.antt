use Rattle.std.proofs.Common.{arith}
use Rattle.part_compile.proofs.Rowed.{words_within, starts_more}
use Rattle.part_compile.proofs.words.words_from.Goals as goal

pub overflow_add-next : goal.overflow_add-next
overflow_add-next c =
    let h = words_within c.args.net.now c.args.leaves.now c.loop-leaf.leaf-index c.loop-leaf-test.true in
    let few = c.requires.few in
    let next = c.loop-leaf.invariant.next in
    let more = c.words_of-next.ensures in
    omega (arith, h, few, next, more)

pub loop-leaf-preserved : goal.loop-leaf-preserved
loop-leaf-preserved c =
    starts_more c.args.net.now c.args.leaves.now c.args.first c.loop-leaf.leaf-index c.loop-leaf.next c.loop-leaf.words c.words_of-next.result c.push-in-loop-leaf.new.self c.loop-leaf-test.true
    c.loop-leaf.invariant c.words_of-next.ensures c.in_ok-push-2.ensures.ok
