use Rattle.std.proofs.Common.{arith, sym, ◌∙◌, length-drop}
use Rattle.std.proofs.lemmas.List.{take_rest}
use Rattle.fir_lexer.proofs.Readings.{longest_some}
use Rattle.fir_layout.proofs.Walks.{going_start, going_more, going_feed, going_end, going_none}
use Rattle.fir_layout.proofs.lines.line_end.Goals as goal

pub loop-at-init : goal.loop-at-init
loop-at-init c = record { within = omega arith; going = λ pieces a. going_start _ _ _ _ pieces c.requires.within a }

pub returns-in_default : goal.returns-in_default
returns-in_default c pieces a = absurd (going_none (c.loop-at.invariant.going pieces a) c.loop-at-test.true (rw (take_rest c.args.bytes.now c.loop-at.at) at c.in_default.ensures.none))

pub returns-then-ends_line : goal.returns-then-ends_line
returns-then-ends_line c pieces a =
    let one = rw (take_rest c.args.bytes.now c.loop-at.at) at c.in-Some.ensures.some in
    going_feed (c.loop-at.invariant.going pieces a) one (longest_some _ _ _ one) (sym c.ends_line.ensures ∙ c.if-ends_line.true)

pub loop-at-preserved : goal.loop-at-preserved
loop-at-preserved c =
    let one = rw (take_rest c.args.bytes.now c.loop-at.at) at c.in-Some.ensures.some in
    record {
      within = omega (arith, one.within, length-drop c.loop-at.at c.args.bytes.now);
      going = λ pieces a. rw c.token_count-after.ensures (going_more (c.loop-at.invariant.going pieces a) one (sym c.ends_line.ensures ∙ c.if-ends_line.false));
    }

pub returns : goal.returns
returns c pieces a = going_end (c.loop-at.invariant.going pieces a) c.loop-at-test.false c.requires.within
