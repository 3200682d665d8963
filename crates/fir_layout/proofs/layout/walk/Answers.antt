use Rattle.std.proofs.Common.{arith, ◌≡◌, length}
use Rattle.std.proofs.lemmas.Grind.{common_steps}
use Rattle.fir_layout.proofs.Layouts.{none_laid, line_laid, all_laid}
use Rattle.fir_layout.proofs.layout.walk.Goals as goal

pub loop-start-init : goal.loop-start-init
loop-start-init c = rw (c.new-laid.ensures.items, c.new-blocks.ensures.items) (none_laid c.requires.lexed)

pub loop-start-preserved : goal.loop-start-preserved
loop-start-preserved c =
    let passes = c.line_end-behind.ensures c.loop-start.invariant.left c.loop-start.invariant.ahead in
    let one = c.in_ok-lay_line.ensures.ok in
    rw one.2 (line_laid _ _ c.loop-start.invariant passes one.1)

pub returns-clause-ok : goal.returns-clause-ok
returns-clause-ok c =
    let count : c.len.result ≡ length c.loop-start.blocks.items = grind (arith, common_steps) in
    rw (c.in_ok-end.ensures, count) (all_laid c.loop-start.invariant c.loop-start-test.false)
