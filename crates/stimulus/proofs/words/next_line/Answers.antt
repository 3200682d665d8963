use Rattle.std.proofs.Common.{◌≡◌, true, false, not, sym, ap, ap₂, ◌∙◌, ◌∷◌, arith}
use Rattle.stimulus.specs.Words.{is_told}
use Rattle.stimulus.specs.Reading.{line_at}
use Rattle.stimulus.proofs.Walking.{told_some, told_none, told_at_end}
use Rattle.stimulus.proofs.words.next_line.Goals as goal
use Rattle.stimulus.proofs.words.next_line.Goals.{in-Some+else-not-is_comment, in_default}

pub returns-then-not-is_comment-clause-some : goal.returns-then-not-is_comment-clause-some
returns-then-not-is_comment-clause-some c =
    let next = c.in-Some.ensures.some in
    let told : is_told (line_at c.args.bytes.now c.lines.at) ≡ true = ap is_told next.words ∙ ap not (sym c.is_comment.ensures ∙ c.if-not-is_comment.true) in
    record {
      lines = sym c.lines.invariant.same ∙ told_some c.args.bytes.now c.lines.at told ∙ ap₂ (λ line lines. line ∷ lines) next.words next.after;
      begins = omega (arith, next.begins);
      some = next.some;
      within = next.within;
    }

pub lines-preserved : goal.lines-preserved
lines-preserved c =
    let skipped : is_told (line_at c.args.bytes.now c.lines.at) ≡ false =
    elim c.match-next_word.branch [
      | in-Some+else-not-is_comment w ↦ ap is_told w.in-Some.ensures.some.words ∙ ap not (sym w.is_comment.ensures ∙ w.if-not-is_comment.false)
      | in_default w ↦ ap is_told w.in_default.ensures.none
    ] in
    record {
      same = c.behind_line-at.ensures.told ∙ sym (told_none c.args.bytes.now c.lines.at skipped) ∙ c.lines.invariant.same;
      onward = omega arith;
      within = c.behind_line-at.ensures.within;
    }

pub returns-clause-none : goal.returns-clause-none
returns-clause-none c = sym c.lines.invariant.same ∙ told_at_end c.args.bytes.now c.lines.at c.lines-test.false
