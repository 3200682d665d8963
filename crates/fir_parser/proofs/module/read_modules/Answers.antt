use Rattle.std.proofs.lemmas.Result.{err_from_is_err_and}
use Rattle.std.proofs.Common.{◌∙◌}
use Rattle.fir_parser.proofs.Joins.{ends_block}
use Rattle.fir_parser.proofs.Steps.{refuses_memory}
use Rattle.fir_parser.proofs.Loops.{smaller}
use Rattle.fir_parser.proofs.Modules.{module_moves, module_refused, modules_close_refused, modules_closed, more_modules}
use Rattle.fir_parser.proofs.module.read_modules.Goals as goal

pub returns-in_err-module : goal.returns-in_err-module
returns-in_err-module c =
    let p = err_from_is_err_and c.from_residual.result c.from_residual.ensures.1 in
    rw (p.1, p.2) (module_refused c.args.reader.now _ _ _ c.loop-alloc.invariant.2 c.loop-alloc-test.ensures c.in_err-module.ensures)

pub loop-alloc-smaller : goal.loop-alloc-smaller
loop-alloc-smaller c = smaller c.loop-alloc.reader c.read_module.new.reader c.in_ok-module.ensures.taken.laid (module_moves _ _ _ c.in_ok-module.ensures.taken) c.in_ok-module.ensures.at.within

pub loop-alloc-preserved : goal.loop-alloc-preserved
loop-alloc-preserved c =
    (c.in_ok-module.ensures.at, c.in_ok-module.ensures.blocks ∙ c.loop-alloc.invariant.1, rw c.in_ok-push.ensures.ok (more_modules c.args.reader.now _ _ _ _ c.loop-alloc.invariant.2 c.loop-alloc-test.ensures c.in_ok-module.ensures.taken))

pub returns-in_err-push : goal.returns-in_err-push
returns-in_err-push c =
    let p = err_from_is_err_and c.from_residual-in_err-push.result c.from_residual-in_err-push.ensures.1 in
    rw p.1 (refuses_memory _ _ _ p.2)

pub returns-in_err-take_close : goal.returns-in_err-take_close
returns-in_err-take_close c =
    let p = err_from_is_err_and c.from_residual-in_err-take_close.result c.from_residual-in_err-take_close.ensures.1 in
    rw (p.1, p.2) (modules_close_refused c.args.reader.now _ _ _ c.loop-alloc.invariant.2 c.loop-alloc-test.ensures c.in_err-take_close.ensures)

pub returns : goal.returns
returns c = ends_block (modules_closed c.args.reader.now _ _ _ c.loop-alloc.invariant.2 c.loop-alloc-test.ensures c.in_ok-take_close.ensures.taken) c.in_ok-take_close.ensures c.loop-alloc.invariant.1

pub read_module-requires : goal.read_module-requires
read_module-requires c = (c.loop-alloc.invariant.0, c.loop-alloc.invariant.1 ∙ c.requires.1)
