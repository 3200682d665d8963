use Rattle.std.proofs.Common.{◌≡◌, false, ◌∙◌, sym, arith, get_or}
use Rattle.place_text.specs.Places.{is_feed}
use Rattle.stimulus.proofs.Walking.{feed_step, other_step, told_at_end, lines_after_end}
use Rattle.stimulus.proofs.words.behind_line.Goals as goal

pub returns-then-bytes-at-eq10-clause-told : goal.returns-then-bytes-at-eq10-clause-told
returns-then-bytes-at-eq10-clause-told c = feed_step c.args.bytes.now c.loop-at.at c.loop-at-test.true c.if-bytes-at-eq10.true ∙ c.loop-at.invariant.same

pub loop-at-preserved : goal.loop-at-preserved
loop-at-preserved c =
    let no : is_feed (get_or c.args.bytes.now c.loop-at.at 0) ≡ false = grind (arith, c.if-bytes-at-eq10.false) in
    record {
      same = other_step c.args.bytes.now c.loop-at.at c.loop-at-test.true no ∙ c.loop-at.invariant.same;
      onward = omega arith;
      within = omega arith;
    }

pub returns-clause-told : goal.returns-clause-told
returns-clause-told c =
    let past = c.loop-at-test.false in
    told_at_end c.args.bytes.now c.loop-at.at past ∙ sym (lines_after_end c.args.bytes.now c.loop-at.at past) ∙ c.loop-at.invariant.same
