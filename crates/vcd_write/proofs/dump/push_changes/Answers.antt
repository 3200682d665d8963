use Rattle.std.proofs.Common.{◌≡◌, ℕ, ◌++◌, length, take, arith, sym, ap, ◌∙◌, refl}
use Rattle.bit_words.specs.declared.value.Value.{Value}
use Rattle.vcd_write.specs.Changes.{Time, changes, stamped}
use Rattle.vcd_write.specs.Texts.{ended, change_line, entry_line, bits_of_row}
use Rattle.vcd_write.specs.Pieces.{widths_of_row, entries_text}
use Rattle.vcd_write.proofs.Steps.{behind, none_behind, some_behind, none_more, first_more, later_more}
use Rattle.vcd_write.proofs.dump.push_changes.Goals as goal
use Rattle.vcd_write.proofs.dump.push_changes.Goals.{then-before-number+in_ok-push_change, then-len-start+in_ok-push_time, else-len-start, else-before-number}

pub loop-number-preserved : goal.loop-number-preserved
loop-number-preserved c =
    let row = c.args.row.now in
    let i = c.loop-number.number in
    let v = c.index-row-number.result in
    let o = c.index-before-number.result in
    let old = c.args.text.now.items in
    let text = c.loop-number.text.items in
    let told = entries_text (widths_of_row row) (stamped c.args.cycle (changes 0 (bits_of_row (take i c.args.before.now)) (bits_of_row (take i row)))) in
    let time = ended (entry_line (widths_of_row row) (Time c.args.cycle)) in
    let line = ended (change_line v.width i v.bits) in
    let was = c.loop-number.invariant in
    let old_is = ap (λ (w : Value). w.bits) c.index-before-number.is in
    elim c.if-before-number.branch [
      | then-before-number+in_ok-push_change w ↦ elim w.if-len-start.branch [
        | then-len-start+in_ok-push_time u ↦
            let even : length text ≡ length old = omega (arith, w.len.ensures, c.len-start.ensures, u.if-len-start.true, c.loop-number.text.ok.0, c.args.text.now.ok.0) in
            let none = none_behind old told text was even in
            ap (λ t. t.items) w.text-is
            ∙ behind old (told ++ time) line _ (w.if-len-start.text.items) _ (ap (λ t. t.items) u.text-is ∙ behind old told time (told ++ time) text _ was u.in_ok-push_time.ensures refl) w.in_ok-push_change.ensures
            (first_more row i v c.loop-number-test.true c.index-row-number.is c.args.before.now o c.requires c.index-before-number.is c.args.cycle told (told ++ time) ((told ++ time) ++ line)
            (λ e. w.if-before-number.true (sym old_is ∙ e)) refl none refl refl)
        | else-len-start u ↦
            let some = some_behind old told text was (λ e. u.if-len-start.false (omega (arith, w.len.ensures, c.len-start.ensures, e, c.loop-number.text.ok.0, c.args.text.now.ok.0))) in
            ap (λ t. t.items) w.text-is
            ∙ behind old told line _ (w.if-len-start.text.items) _ (ap (λ t. t.items) u.text-is ∙ was) w.in_ok-push_change.ensures
            (later_more row i v c.loop-number-test.true c.index-row-number.is c.args.before.now o c.requires c.index-before-number.is c.args.cycle told (told ++ line)
            (λ e. w.if-before-number.true (sym old_is ∙ e)) refl some refl)
      ]
      | else-before-number w ↦ ap (λ t. t.items) w.text-is ∙ (was ∙ ap (λ l. old ++ l)
          (none_more row i v c.loop-number-test.true c.index-row-number.is c.args.before.now o c.requires c.index-before-number.is c.args.cycle told (old_is ∙ w.if-before-number.false) refl))
    ]
