use Rattle.std.proofs.Common.{◌+◌, ◌*◌, arith, get_or, refl, subst, ap₂}
use Rattle.code_draft.specs.Rows.{IsWordAt}
use Rattle.code_draft.proofs.Standing.{all_stand, stand_more}
use Rattle.code_draft.proofs.rows.stand_in_row.Goals as goal

pub loop-place-preserved : goal.loop-place-preserved
loop-place-preserved c =
    stand_more c.args.sources.now c.args.leaves.now c.args.row c.loop-place.place _ c.loop-place.invariant refl
    (subst (λ n. IsWordAt c.args.sources.now c.args.row (get_or c.args.leaves.now c.loop-place.place 0) n) (ap₂ (λ b s. b + c.loop-place.place * s) c.from.ensures c.from-in-loop-place.ensures)
    (c.is_word_at.ensures c.if-not-is_word_at.false))

pub returns : goal.returns
returns c = λ e. record {
  several = omega arith;
  counted = omega arith;
  each = λ place leaf at. all_stand c.args.sources.now c.args.leaves.now c.args.row c.loop-place.place place leaf (omega arith) c.loop-place.invariant at;
}
