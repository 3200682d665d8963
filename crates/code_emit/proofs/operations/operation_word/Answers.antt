use Rattle.code_emit.specs.Ways.{row_value}
use Rattle.code_emit.proofs.operations.operation_word.Goals as goal

pub returns-in_ok-paired-in-Some-operation_pair-clause-makes : goal.returns-in_ok-paired-in-Some-operation_pair-clause-makes
returns-in_ok-paired-in-Some-operation_pair-clause-makes c = λ is there.
    let ps = c.args.params.now in
    c.in_ok-paired-in-Some-operation_pair.ensures.makes c.args.operands.now (row_value c.args.prim ps) (c.in-Some-operation_pair.ensures.pair ps c.args.measure.kind c.requires) is there
