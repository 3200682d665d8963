use Rattle.std.proofs.Common.{◌<◌, ◌++◌, length, map, take, sym, ap, ap₂, ◌∙◌, append_assoc, arith}
use Rattle.bit_words.specs.Values.{integer_of}
use Rattle.snapshot_text.specs.Cells.{input_cell}
use Rattle.snapshot_text.specs.Texts.{line_text, lines_text}
use Rattle.snapshot_text.proofs.Printed.{inputs_more}
use Rattle.snapshot_text.proofs.printing.push_inputs.Goals as goal

pub loop-number-preserved : goal.loop-number-preserved
loop-number-preserved c =
    let inputs = c.args.inputs.now in
    let row = c.args.row.now in
    let n = c.loop-number.number in
    let leaf = c.index-inputs-number.result in
    let v = c.index-row-number.result in
    let before = c.args.text.now.items in
    let lt : n < length inputs = omega arith in
    let below : n < length row = omega (arith, c.requires) in
    c.in_ok-push_line.ensures
    ∙ (ap₂ (λ t cell. t ++ line_text cell (integer_of v)) c.loop-number.invariant c.input_line.ensures
    ∙ (append_assoc before (lines_text (map input_cell (take n inputs)) (map integer_of row)) (line_text (input_cell leaf) (integer_of v))
    ∙ ap (λ l. before ++ l) (sym (inputs_more inputs row n leaf v lt c.index-inputs-number.is below c.index-row-number.is))))
