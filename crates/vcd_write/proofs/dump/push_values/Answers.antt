use Rattle.std.proofs.Common.{◌++◌, ◌∷◌, refl, take}
use Rattle.vcd_write.specs.Changes.{Time, all_bits}
use Rattle.vcd_write.specs.Texts.{ended, change_line, bits_of_row}
use Rattle.vcd_write.specs.Pieces.{widths_of_row, entries_text}
use Rattle.vcd_write.proofs.Steps.{behind, value_more}
use Rattle.vcd_write.proofs.dump.push_values.Goals as goal

pub loop-number-preserved : goal.loop-number-preserved
loop-number-preserved c =
    let row = c.args.row.now in
    let v = c.index-row-number.result in
    let told = entries_text (widths_of_row row) (Time c.args.cycle ∷ all_bits 0 (bits_of_row (take c.loop-number.number row))) in
    let line = ended (change_line v.width c.loop-number.number v.bits) in
    behind c.args.text.now.items told line _ c.loop-number.text.items _ c.loop-number.invariant c.in_ok-push_change.ensures
    (value_more row c.loop-number.number v c.loop-number-test.true c.index-row-number.is c.args.cycle told (told ++ line) refl refl)
