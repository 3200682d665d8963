use Rattle.std.proofs.lemmas.Result.{err_from_is_err_and}
use Rattle.std.proofs.Common.{refl}
use Rattle.fir_parser.proofs.Joins.{makes_on, breaks}
use Rattle.fir_grammar.specs.Grammar.{under_old, under_new, under_undefined}
use Rattle.fir_parser.proofs.Entering.{enters_word, into_undefined}
use Rattle.fir_parser.proofs.memory.read_under.Goals as goal

pub returns-then-meets : goal.returns-then-meets
returns-then-meets c = makes_on under_old (enters_word under_old "old" (λ ps. refl) c.args.reader.now c.if-meets.ensures) c.in_ok-take.ensures.reads

pub returns-then-meets-2 : goal.returns-then-meets-2
returns-then-meets-2 c = makes_on under_new (enters_word under_new "new" (λ ps. refl) c.args.reader.now c.if-meets-2.ensures) c.in_ok-take-2.ensures.reads

pub returns-in_err-take-3 : goal.returns-in_err-take-3
returns-in_err-take-3 c =
    let p = err_from_is_err_and c.from_residual-in_err-take-3.result c.from_residual-in_err-take-3.ensures.1 in
    rw (p.1, p.2) (breaks under_undefined (into_undefined c.args.reader.now c.if-meets.ensures c.if-meets-2.ensures) c.in_err-take-3.ensures.reads)

pub returns : goal.returns
returns c = makes_on under_undefined (into_undefined c.args.reader.now c.if-meets.ensures c.if-meets-2.ensures) c.in_ok-take-3.ensures.reads
