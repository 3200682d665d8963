use Rattle.std.proofs.lemmas.Result.{err_from_is_err_and}
use Rattle.std.proofs.Common.{refl, ◌∙◌, [], ◌∷◌}
use Rattle.fir_parser.proofs.Joins.{joins_on, first, later_on, ends_block}
use Rattle.fir_parser.proofs.Steps.{refuses_memory}
use Rattle.fir_parser.proofs.Loops.{line_refused, lines_close_refused, lines_closed, more_lines, moves, smaller}
use Rattle.fir_grammar.specs.Grammar.{A, Memory_line, line_end}
use Rattle.fir_parser.proofs.memory.read_lines.Goals as goal

pub returns-in_err-line : goal.returns-in_err-line
returns-in_err-line c =
    let p = err_from_is_err_and c.from_residual.result c.from_residual.ensures.1 in
    rw (p.1, p.2) (line_refused c.args.reader.now _ _ _ c.loop-alloc.invariant.2 c.loop-alloc-test.ensures (first _ c.in_err-line.ensures))

pub returns-in_err-take : goal.returns-in_err-take
returns-in_err-take c =
    let p = err_from_is_err_and c.from_residual-in_err-take.result c.from_residual-in_err-take.ensures.1 in
    rw (p.1, p.2) (line_refused c.args.reader.now _ _ _ c.loop-alloc.invariant.2 c.loop-alloc-test.ensures (later_on c.in_ok-line.ensures c.in_err-take.ensures.reads))

pub loop-alloc-smaller : goal.loop-alloc-smaller
loop-alloc-smaller c =
    let line = joins_on c.in_ok-line.ensures c.in_ok-take.ensures.reads in
    smaller c.loop-alloc.reader c.take.new.reader line.taken.laid (moves _ _ (A Memory_line ∷ line_end ∷ []) _ refl line.taken) line.at.within

pub loop-alloc-preserved : goal.loop-alloc-preserved
loop-alloc-preserved c =
    let line = joins_on c.in_ok-line.ensures c.in_ok-take.ensures.reads in
    (line.at, line.blocks ∙ c.loop-alloc.invariant.1, rw c.in_ok-push.ensures.ok (more_lines c.args.reader.now _ _ _ _ c.loop-alloc.invariant.2 c.loop-alloc-test.ensures line.taken))

pub returns-in_err-push : goal.returns-in_err-push
returns-in_err-push c =
    let p = err_from_is_err_and c.from_residual-in_err-push.result c.from_residual-in_err-push.ensures.1 in
    rw p.1 (refuses_memory _ _ _ p.2)

pub returns-in_err-take_close : goal.returns-in_err-take_close
returns-in_err-take_close c =
    let p = err_from_is_err_and c.from_residual-in_err-take_close.result c.from_residual-in_err-take_close.ensures.1 in
    rw (p.1, p.2) (lines_close_refused c.args.reader.now _ _ _ c.loop-alloc.invariant.2 c.loop-alloc-test.ensures c.in_err-take_close.ensures)

pub returns : goal.returns
returns c = ends_block (lines_closed c.args.reader.now _ _ _ c.loop-alloc.invariant.2 c.loop-alloc-test.ensures c.in_ok-take_close.ensures.taken) c.in_ok-take_close.ensures c.loop-alloc.invariant.1
