use Rattle.std.proofs.Common.{rules}
use Rattle.fir_grammar.specs.Grammar.{Expression}
use Rattle.fir_grammar.proofs.Longest.{answered_longest, reads_longest}
use Rattle.fir_expr.proofs.reader.read_expr.Goals as goal

pub returns-clause-whole : goal.returns-clause-whole
returns-clause-whole c = rw c.new-text.ensures at c.in_ok-read.ensures.whole

pub returns-clause-read : goal.returns-clause-read
returns-clause-read c = search rules

pub returns-in_err-read-clause-read : goal.returns-in_err-read-clause-read
returns-in_err-read-clause-read c = search rules

pub returns-clause-longest : goal.returns-clause-longest
returns-clause-longest c = answered_longest Expression (returns-clause-read c)

pub returns-in_err-read-clause-longest : goal.returns-in_err-read-clause-longest
returns-in_err-read-clause-longest c = reads_longest c.args.reader.now.major Expression c.args.reader.now.bytes.now c.args.reader.now.laid.now c.args.reader.now.at c.args.reader.now.names c.from_residual.result c.args.reader.now.at c.expr.new.names (returns-in_err-read-clause-read c)
