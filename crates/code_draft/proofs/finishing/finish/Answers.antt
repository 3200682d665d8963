use Rattle.std.proofs.Common.{◌≡◌, refl, ap, ◌∙◌, sym, subst, arith}
use Rattle.flat_code.specs.Meaning.{pushes}
use Rattle.flat_code.specs.Fine.{nothing}
use Rattle.flat_code.specs.Runs.{AreRuns}
use Rattle.flat_code.proofs.Solving.{ready_if_single}
use Rattle.code_draft.proofs.Effects.{has_effects}
use Rattle.code_draft.proofs.finishing.finish.Goals as goal

pub invariant_of-result : goal.invariant_of-result
invariant_of-result c =
    let d = c.args.draft in
    let most : c.in_ok-most.most ≡ pushes d.instrs = c.in_ok-most.ensures ∙ ap pushes c.as_slice.ensures in
    record {
      fine = c.requires.draft.fine;
      in_order = ready_if_single nothing d.ports d.wides d.instrs c.requires.draft.single;
      ports_fine = c.requires.draft.ports;
      wides_fine = c.requires.draft.wides;
      shown_fine = λ k s lt. (c.requires.shown k s lt).within;
      shown_last = λ k s lt. (c.requires.shown k s lt).written;
      each_shown = c.requires.positions;
      at_most = omega (arith, most);
      once_there = omega arith;
      runs_right = subst (AreRuns d.instrs) (sym c.new.ensures) (λ k r lt. absurd (omega arith));
    }

pub returns-clause-effects : goal.returns-clause-effects
returns-clause-effects c = has_effects _ c.args.draft c.args.shown c.requires.draft refl refl refl refl refl refl

pub returns-clause-single : goal.returns-clause-single
returns-clause-single c = c.requires.draft.single
