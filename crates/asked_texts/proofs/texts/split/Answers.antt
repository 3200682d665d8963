use Rattle.std.proofs.Common.{◌≢◌, ℕ, List, subst, arith}
use Rattle.std.specs.Prelude.{Some, slice_get}
use Rattle.asked_texts.specs.Texts.{IsStimulusLine, EndsFirst}
use Rattle.asked_texts.proofs.Searching.{searched_on, searched_all, searched_to_end, from_start}
use Rattle.asked_texts.proofs.texts.split.Goals as goal

pub lines-preserved : goal.lines-preserved
lines-preserved c =
    searched_on _ _ _ c.lines.invariant (subst (λ l. (after : List ℕ) → IsStimulusLine l after → ⊥) (from_start c.args.text.now c.lines.start) c.in_default.ensures.none)
    (subst (λ l. EndsFirst l c.in-Some-first_line.length) (from_start c.args.text.now c.lines.start) c.in-Some-first_line.ensures.some)

pub returns-in-None-clause-none : goal.returns-in-None-clause-none
returns-in-None-clause-none c =
    searched_all _ _ c.lines.invariant (subst (λ l. (after : List ℕ) → IsStimulusLine l after → ⊥) (from_start c.args.text.now c.lines.start) c.in_default.ensures.none)
    (subst (λ l. (k : ℕ) → slice_get l k ≢ Some 10) (from_start c.args.text.now c.lines.start) c.in-None.ensures.none)

pub returns-clause-none : goal.returns-clause-none
returns-clause-none c = searched_to_end _ _ c.lines.invariant (omega (arith, c.lines-test.false))
