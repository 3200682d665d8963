use Rattle.std.proofs.lemmas.Result.{err_from_is_err_and}
use Rattle.std.proofs.Common.{refl, ◌∙◌, [], ◌∷◌}
use Rattle.fir_grammar.specs.Grammar.{a_when, a_block, no_block, A, Expression, Block, word, colon, line_end}
use Rattle.fir_parser.proofs.Steps.{refuses_memory}
use Rattle.fir_parser.proofs.Joins.{joins_on, first, later_on, makes_on, breaks, nothing_passed, closes_again, ends_block}
use Rattle.fir_parser.proofs.Entering.{enters_word, enters_open, enters_else, enters_else_when, into_no_block}
use Rattle.fir_parser.proofs.Loops.{more_statements, statement_refused, statements_closed, close_refused, statement_moves, smaller, when_taken, more_branches, branch_refused, else_refused, else_taken, branches_end, moves}
use Rattle.fir_parser.proofs.block.+block.Goals as goal

pub read_statements-returns-in_err-statement : goal.read_statements-returns-in_err-statement
read_statements-returns-in_err-statement t c =
    let p = err_from_is_err_and c.from_residual.result c.from_residual.ensures.1 in
    rw (p.1, p.2) (statement_refused c.args.reader.now _ _ _ c.loop-alloc.invariant.2 c.loop-alloc-test.ensures c.in_err-statement.ensures)

pub read_statements-loop-alloc-smaller : goal.read_statements-loop-alloc-smaller
read_statements-loop-alloc-smaller t c = smaller c.loop-alloc.reader c.read_statement.new.reader c.in_ok-statement.ensures.taken.laid (statement_moves _ _ _ c.in_ok-statement.ensures.taken) c.in_ok-statement.ensures.at.within

pub read_statements-loop-alloc-preserved : goal.read_statements-loop-alloc-preserved
read_statements-loop-alloc-preserved t c =
    (c.in_ok-statement.ensures.at, c.in_ok-statement.ensures.blocks ∙ c.loop-alloc.invariant.1, rw c.in_ok-push.ensures.ok (more_statements c.args.reader.now _ _ _ _ c.loop-alloc.invariant.2 c.loop-alloc-test.ensures c.in_ok-statement.ensures.taken))

pub read_statements-returns-in_err-push : goal.read_statements-returns-in_err-push
read_statements-returns-in_err-push t c =
    let p = err_from_is_err_and c.from_residual-in_err-push.result c.from_residual-in_err-push.ensures.1 in
    rw p.1 (refuses_memory _ _ _ p.2)

pub read_statements-returns-in_err-take_close : goal.read_statements-returns-in_err-take_close
read_statements-returns-in_err-take_close t c =
    let p = err_from_is_err_and c.from_residual-in_err-take_close.result c.from_residual-in_err-take_close.ensures.1 in
    rw (p.1, p.2) (close_refused c.args.reader.now _ _ _ c.loop-alloc.invariant.2 c.loop-alloc-test.ensures c.in_err-take_close.ensures)

pub read_statements-returns : goal.read_statements-returns
read_statements-returns t c = ends_block (statements_closed c.args.reader.now _ _ _ c.loop-alloc.invariant.2 c.loop-alloc-test.ensures c.in_ok-take_close.ensures.taken) c.in_ok-take_close.ensures c.loop-alloc.invariant.1

pub read_when-returns-in_err-take : goal.read_when-returns-in_err-take
read_when-returns-in_err-take t c =
    let p = err_from_is_err_and c.from_residual.result c.from_residual.ensures.1 in
    rw (p.1, p.2) (breaks a_when (enters_word a_when "when" (λ ps. refl) c.args.reader.now c.requires.word) (first _ c.in_err-take.ensures.reads))

pub read_when-returns-in_err-arm : goal.read_when-returns-in_err-arm
read_when-returns-in_err-arm t c =
    let p = err_from_is_err_and c.from_residual-in_err-arm.result c.from_residual-in_err-arm.ensures.1 in
    rw (p.1, p.2) (breaks a_when (enters_word a_when "when" (λ ps. refl) c.args.reader.now c.requires.word) (later_on c.in_ok-take.ensures.reads (first _ c.in_err-arm.ensures)))

pub read_when-returns-in_err-arms : goal.read_when-returns-in_err-arms
read_when-returns-in_err-arms t c =
    let p = err_from_is_err_and c.from_residual-in_err-arms.result c.from_residual-in_err-arms.ensures.1 in
    rw (p.1, p.2) (refuses_memory _ _ _ c.in_err-arms.ensures.err)

pub read_when-returns-in_err-branches : goal.read_when-returns-in_err-branches
read_when-returns-in_err-branches t c =
    let p = err_from_is_err_and c.from_residual-in_err-branches.result c.from_residual-in_err-branches.ensures.1 in
    rw (p.1, p.2) (breaks a_when (enters_word a_when "when" (λ ps. refl) c.args.reader.now c.requires.word) (later_on (joins_on c.in_ok-take.ensures.reads c.in_ok-arm.ensures) c.in_err-branches.ensures.refused))

pub read_when-returns : goal.read_when-returns
read_when-returns t c = record {
  taken = when_taken _ _ _ _ _ _ _ _ (enters_word a_when "when" (λ ps. refl) c.args.reader.now c.requires.word) c.in_ok-take.ensures.reads.taken c.in_ok-arm.ensures.taken c.in_ok-arms.ensures.ok c.in_ok-branches.ensures.ok;
  at = c.in_ok-branches.ensures.at;
  blocks = c.in_ok-branches.ensures.blocks ∙ (c.in_ok-arm.ensures.blocks ∙ c.in_ok-take.ensures.reads.blocks);
}

pub read_arm-returns-in_err-condition : goal.read_arm-returns-in_err-condition
read_arm-returns-in_err-condition t c =
    let p = err_from_is_err_and c.from_residual.result c.from_residual.ensures.1 in
    rw (p.1, p.2) (first _ c.in_err-condition.ensures)

pub read_arm-returns-in_err-take : goal.read_arm-returns-in_err-take
read_arm-returns-in_err-take t c =
    let p = err_from_is_err_and c.from_residual-in_err-take.result c.from_residual-in_err-take.ensures.1 in
    rw (p.1, p.2) (later_on c.in_ok-condition.ensures (first _ c.in_err-take.ensures.reads))

pub read_arm-returns-in_err-take-2 : goal.read_arm-returns-in_err-take-2
read_arm-returns-in_err-take-2 t c =
    let p = err_from_is_err_and c.from_residual-in_err-take-2.result c.from_residual-in_err-take-2.ensures.1 in
    rw (p.1, p.2) (later_on (joins_on c.in_ok-condition.ensures c.in_ok-take.ensures.reads) (first _ c.in_err-take-2.ensures.reads))

pub read_arm-returns-in_err-body : goal.read_arm-returns-in_err-body
read_arm-returns-in_err-body t c =
    let p = err_from_is_err_and c.from_residual-in_err-body.result c.from_residual-in_err-body.ensures.1 in
    rw (p.1, p.2) (later_on (joins_on (joins_on c.in_ok-condition.ensures c.in_ok-take.ensures.reads) c.in_ok-take-2.ensures.reads) c.in_err-body.ensures)

pub read_arm-returns : goal.read_arm-returns
read_arm-returns t c = (joins_on (joins_on (joins_on c.in_ok-condition.ensures c.in_ok-take.ensures.reads) c.in_ok-take-2.ensures.reads) c.in_ok-body.ensures)

pub read_else_when-returns-in_err-take : goal.read_else_when-returns-in_err-take
read_else_when-returns-in_err-take t c =
    let p = err_from_is_err_and c.from_residual.result c.from_residual.ensures.1 in
    rw (p.1, p.2) (first _ c.in_err-take.ensures.reads)

pub read_else_when-returns-in_err-take-2 : goal.read_else_when-returns-in_err-take-2
read_else_when-returns-in_err-take-2 t c =
    let p = err_from_is_err_and c.from_residual-in_err-take-2.result c.from_residual-in_err-take-2.ensures.1 in
    rw (p.1, p.2) (later_on c.in_ok-take.ensures.reads (first _ c.in_err-take-2.ensures.reads))

pub read_else_when-returns-in_err-arm : goal.read_else_when-returns-in_err-arm
read_else_when-returns-in_err-arm t c =
    let p = err_from_is_err_and c.from_residual-in_err-arm.result c.from_residual-in_err-arm.ensures.1 in
    rw (p.1, p.2) (later_on (joins_on c.in_ok-take.ensures.reads c.in_ok-take-2.ensures.reads) c.in_err-arm.ensures)

pub read_else_when-returns : goal.read_else_when-returns
read_else_when-returns t c = (joins_on (joins_on c.in_ok-take.ensures.reads c.in_ok-take-2.ensures.reads) c.in_ok-arm.ensures)

pub read_else-returns-in_err-take : goal.read_else-returns-in_err-take
read_else-returns-in_err-take t c =
    let p = err_from_is_err_and c.from_residual.result c.from_residual.ensures.1 in
    rw (p.1, p.2) (first _ c.in_err-take.ensures.reads)

pub read_else-returns-in_err-take-2 : goal.read_else-returns-in_err-take-2
read_else-returns-in_err-take-2 t c =
    let p = err_from_is_err_and c.from_residual-in_err-take-2.result c.from_residual-in_err-take-2.ensures.1 in
    rw (p.1, p.2) (later_on c.in_ok-take.ensures.reads (first _ c.in_err-take-2.ensures.reads))

pub read_else-returns-in_err-take-3 : goal.read_else-returns-in_err-take-3
read_else-returns-in_err-take-3 t c =
    let p = err_from_is_err_and c.from_residual-in_err-take-3.result c.from_residual-in_err-take-3.ensures.1 in
    rw (p.1, p.2) (later_on (joins_on c.in_ok-take.ensures.reads c.in_ok-take-2.ensures.reads) (first _ c.in_err-take-3.ensures.reads))

pub read_else-returns-in_err-body : goal.read_else-returns-in_err-body
read_else-returns-in_err-body t c =
    let p = err_from_is_err_and c.from_residual-in_err-body.result c.from_residual-in_err-body.ensures.1 in
    rw (p.1, p.2) (later_on (joins_on (joins_on c.in_ok-take.ensures.reads c.in_ok-take-2.ensures.reads) c.in_ok-take-3.ensures.reads) c.in_err-body.ensures)

pub read_else-returns : goal.read_else-returns
read_else-returns t c = (joins_on (joins_on (joins_on c.in_ok-take.ensures.reads c.in_ok-take-2.ensures.reads) c.in_ok-take-3.ensures.reads) c.in_ok-body.ensures)

pub read_block-returns-in_err-take_open : goal.read_block-returns-in_err-take_open
read_block-returns-in_err-take_open t c =
    let p = err_from_is_err_and c.from_residual.result c.from_residual.ensures.1 in
    rw (p.1, p.2) (breaks a_block (enters_open a_block (λ ps. refl) c.args.reader.now c.if-not-meets.ensures) (first _ c.in_err-take_open.ensures.reads))

pub read_block-returns-in_err-statements : goal.read_block-returns-in_err-statements
read_block-returns-in_err-statements t c =
    let p = err_from_is_err_and c.from_residual-in_err-statements.result c.from_residual-in_err-statements.ensures.1 in
    rw (p.1, p.2) (breaks a_block (enters_open a_block (λ ps. refl) c.args.reader.now c.if-not-meets.ensures) (later_on c.in_ok-take_open.ensures.reads c.in_err-statements.ensures))

pub read_block-returns : goal.read_block-returns
read_block-returns t c = (makes_on a_block (enters_open a_block (λ ps. refl) c.args.reader.now c.if-not-meets.ensures) (closes_again c.requires.inside.1 c.in_ok-take_open.ensures.reads c.in_ok-statements.ensures))

pub read_block-returns-then-not-meets : goal.read_block-returns-then-not-meets
read_block-returns-then-not-meets t c = rw c.new.ensures (makes_on no_block (into_no_block c.args.reader.now c.if-not-meets.ensures) (nothing_passed c.args.reader.now c.requires.inside.0))

pub read_branches-returns-in_err-other-clause-refused : goal.read_branches-returns-in_err-other-clause-refused
read_branches-returns-in_err-other-clause-refused t c =
    let p = err_from_is_err_and c.from_residual.result c.from_residual.ensures.1 in
    rw (p.1, p.2) (else_refused c.args.reader.now _ c.loop-reader.reader _ _ c.loop-reader.invariant.2 (enters_else c.loop-reader.reader c.loop-reader-test.ensures c.if-meets_next.ensures) c.in_err-other.ensures)

pub read_branches-returns-then-meets_next-clause-ok : goal.read_branches-returns-then-meets_next-clause-ok
read_branches-returns-then-meets_next-clause-ok t c = else_taken c.args.reader.now _ c.loop-reader.reader _ _ _ c.loop-reader.invariant.2 (enters_else c.loop-reader.reader c.loop-reader-test.ensures c.if-meets_next.ensures) c.in_ok-other.ensures.taken

pub read_branches-returns-in_err-arm-clause-refused : goal.read_branches-returns-in_err-arm-clause-refused
read_branches-returns-in_err-arm-clause-refused t c =
    let p = err_from_is_err_and c.from_residual-in_err-arm.result c.from_residual-in_err-arm.ensures.1 in
    rw (p.1, p.2) (branch_refused c.args.reader.now _ c.loop-reader.reader _ _ c.loop-reader.invariant.2 (enters_else_when c.loop-reader.reader c.loop-reader-test.ensures c.if-meets_next.ensures) c.in_err-arm.ensures)

pub read_branches-loop-reader-smaller : goal.read_branches-loop-reader-smaller
read_branches-loop-reader-smaller t c = smaller c.loop-reader.reader c.read_else_when.new.reader c.in_ok-arm.ensures.taken.laid
    (moves _ _ (word "else" ∷ word "when" ∷ A Expression ∷ colon ∷ line_end ∷ A Block ∷ []) _ refl c.in_ok-arm.ensures.taken) c.in_ok-arm.ensures.at.within

pub read_branches-loop-reader-preserved : goal.read_branches-loop-reader-preserved
read_branches-loop-reader-preserved t c =
    (c.in_ok-arm.ensures.at, c.in_ok-arm.ensures.blocks ∙ c.loop-reader.invariant.1, rw c.in_ok-push.ensures.ok (more_branches c.args.reader.now _ c.loop-reader.reader _ _ _ c.loop-reader.invariant.2 (enters_else_when c.loop-reader.reader c.loop-reader-test.ensures c.if-meets_next.ensures) c.in_ok-arm.ensures.taken))

pub read_branches-returns-in_err-push-clause-refused : goal.read_branches-returns-in_err-push-clause-refused
read_branches-returns-in_err-push-clause-refused t c =
    let p = err_from_is_err_and c.from_residual-in_err-push.result c.from_residual-in_err-push.ensures.1 in
    rw p.1 (refuses_memory _ _ _ p.2)

pub read_branches-returns-clause-ok : goal.read_branches-returns-clause-ok
read_branches-returns-clause-ok t c = rw c.new.ensures (branches_end c.args.reader.now _ c.loop-reader.reader _ c.loop-reader.invariant.2 c.loop-reader-test.ensures c.loop-reader.invariant.0.within)
