use Rattle.std.proofs.Common.{inr}
use Rattle.std.proofs.lemmas.Result.{err_from_is_err_and}
use Rattle.snapshot_text.proofs.Held.{input_values, input_read, input_fault}
use Rattle.snapshot_text.proofs.reading.read_inputs.Goals as goal

pub loop-leaf-preserved : goal.loop-leaf-preserved
loop-leaf-preserved c =
    let inputs = c.args.inputs.now in
    let told = c.in_ok-told.ensures.told in
    record {
      values = rw c.in_ok-push.ensures.ok (input_values inputs c.loop-leaf.leaf-index c.loop-leaf.row c.input_line.result c.leaf-item.result c.in_ok-told.told.value c.loop-leaf-test.true c.leaf-item.is c.input_line.ensures c.in_ok-told.ensures.kind c.in_ok-told.ensures.width c.loop-leaf.invariant.values);
      read = rw c.in_ok-push.ensures.ok (input_read c.args.bytes.now inputs c.args.at c.loop-leaf.leaf-index c.loop-leaf.behind c.in_ok-told.told.behind c.loop-leaf.row c.input_line.result c.leaf-item.result c.in_ok-told.told.value c.loop-leaf-test.true c.leaf-item.is c.input_line.ensures c.loop-leaf.invariant.read told);
      within = told.within;
    }

pub returns-in_err-told-clause-err : goal.returns-in_err-told-clause-err
returns-in_err-told-clause-err c =
    let q = err_from_is_err_and c.from_residual.result c.from_residual.ensures.1 in
    rw (q.1, q.2)
    (inr (input_fault c.args.bytes.now c.args.inputs.now c.args.at c.loop-leaf.leaf-index c.loop-leaf.behind c.loop-leaf.row c.input_line.result c.leaf-item.result c.in_err-told.field-0.0 c.loop-leaf-test.true c.leaf-item.is c.input_line.ensures c.loop-leaf.invariant.read c.in_err-told.ensures.err))
