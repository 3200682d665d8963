use Rattle.std.proofs.lemmas.Result.{err_from_is_err_and}
use Rattle.std.proofs.Common.{refl, ◌∙◌, [], ◌∷◌}
use Rattle.fir_grammar.specs.Grammar.{A, Port, line_end}
use Rattle.fir_parser.proofs.Joins.{ends_block}
use Rattle.fir_parser.proofs.Steps.{refuses_memory}
use Rattle.fir_parser.proofs.Loops.{smaller, moves}
use Rattle.fir_parser.proofs.Modules.{more_ports, port_refused, ports_end, body_refused}
use Rattle.fir_parser.proofs.module.read_ports.Goals as goal

pub returns-in_err-port : goal.returns-in_err-port
returns-in_err-port c =
    let p = err_from_is_err_and c.from_residual.result c.from_residual.ensures.1 in
    rw (p.1, p.2) (port_refused c.args.reader.now _ _ _ c.loop-reader.invariant.2 c.loop-reader-test.ensures c.in_err-port.ensures)

pub loop-reader-smaller : goal.loop-reader-smaller
loop-reader-smaller c = smaller c.loop-reader.reader c.read_port.new.reader c.in_ok-port.ensures.taken.laid (moves _ _ (A Port ∷ line_end ∷ []) _ refl c.in_ok-port.ensures.taken) c.in_ok-port.ensures.at.within

pub loop-reader-preserved : goal.loop-reader-preserved
loop-reader-preserved c =
    (c.in_ok-port.ensures.at, c.in_ok-port.ensures.blocks ∙ c.loop-reader.invariant.1, rw c.in_ok-push.ensures.ok (more_ports c.args.reader.now _ _ _ _ c.loop-reader.invariant.2 c.loop-reader-test.ensures c.in_ok-port.ensures.taken))

pub returns-in_err-push : goal.returns-in_err-push
returns-in_err-push c =
    let p = err_from_is_err_and c.from_residual-in_err-push.result c.from_residual-in_err-push.ensures.1 in
    rw p.1 (refuses_memory _ _ _ p.2)

pub returns-in_err-statements : goal.returns-in_err-statements
returns-in_err-statements c =
    let p = err_from_is_err_and c.from_residual-in_err-statements.result c.from_residual-in_err-statements.ensures.1 in
    rw (p.1, p.2) (body_refused c.args.reader.now _ _ _ c.loop-reader.invariant.2 c.loop-reader-test.ensures c.in_err-statements.ensures)

pub returns : goal.returns
returns c = ends_block (ports_end c.args.reader.now _ _ _ _ c.loop-reader.invariant.2 c.loop-reader-test.ensures c.in_ok-statements.ensures.taken) c.in_ok-statements.ensures c.loop-reader.invariant.1

pub read_statements-requires-clause-inside : goal.read_statements-requires-clause-inside
read_statements-requires-clause-inside c = (c.loop-reader.invariant.0, c.loop-reader.invariant.1 ∙ c.requires.1)
