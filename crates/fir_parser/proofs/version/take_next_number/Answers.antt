use Rattle.std.proofs.lemmas.Result.{err_from_is_err_and}
use Rattle.fir_parser.proofs.Joins.{first, later}
use Rattle.fir_parser.proofs.Dotted.{next_number, stands_next_number, blocks_next_number, suffixes_next_number, dot_taken}
use Rattle.fir_parser.proofs.version.take_next_number.Goals as goal

pub returns-in_err-step_dot-clause-reads : goal.returns-in_err-step_dot-clause-reads
returns-in_err-step_dot-clause-reads c =
    let p = err_from_is_err_and c.from_residual.result c.from_residual.ensures.1 in
    rw (p.1, p.2) (first _ c.in_err-step_dot.ensures.refused)

pub returns-in_err-step_number-clause-reads : goal.returns-in_err-step_number-clause-reads
returns-in_err-step_number-clause-reads c =
    let p = err_from_is_err_and c.from_residual-in_err-step_number.result c.from_residual-in_err-step_number.ensures.1 in
    rw (p.1, p.2) (later (dot_taken c.args.reader.now c.step_dot.new.reader c.requires.suffixes c.in_ok-step_dot.ensures.meets c.in_ok-step_dot.ensures.steps) c.in_err-step_number.ensures.refused)

pub returns-clause-reads : goal.returns-clause-reads
returns-clause-reads c = record { taken = next_number c.args.reader.now c.step_dot.new.reader c.step_number.new.reader c.requires.at c.requires.suffixes c.in_ok-step_dot.ensures.meets c.in_ok-step_dot.ensures.steps c.in_ok-step_number.ensures.meets c.in_ok-step_number.ensures.steps; at = stands_next_number c.args.reader.now c.step_dot.new.reader c.step_number.new.reader c.requires.at c.in_ok-step_dot.ensures.meets c.in_ok-step_dot.ensures.steps c.in_ok-step_number.ensures.meets c.in_ok-step_number.ensures.steps; blocks = blocks_next_number c.args.reader.now c.step_dot.new.reader c.step_number.new.reader c.in_ok-step_dot.ensures.meets c.in_ok-step_dot.ensures.steps c.in_ok-step_number.ensures.meets c.in_ok-step_number.ensures.steps }

pub returns-clause-suffixes : goal.returns-clause-suffixes
returns-clause-suffixes c = suffixes_next_number c.args.reader.now c.step_dot.new.reader c.step_number.new.reader c.requires.at c.in_ok-step_dot.ensures.meets c.in_ok-step_dot.ensures.steps c.in_ok-step_number.ensures.meets c.in_ok-step_number.ensures.steps
