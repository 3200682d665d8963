use Rattle.std.proofs.Common.{ap, ◌∙◌, inr, arith}
use Rattle.place_text.specs.Places.{place}
use Rattle.stimulus.specs.Words.{Word}
use Rattle.stimulus.specs.declared.fault.StimFault.TheVariants.{CycleRange}
use Rattle.stimulus.proofs.Holding.{holds_some, holds_none}
use Rattle.stimulus.proofs.judging.judge_cycle.Goals as goal
use Rattle.stimulus.proofs.judging.judge_cycle.Goals.{in_default-via-in-Some-2+else-cycle-into-2, in_default-via-in_default}

pub returns-in_default : goal.returns-in_default
returns-in_default c = λ said is.
    let here = ap CycleRange (c.place_of-in_default.ensures ∙ ap (λ (w : Word). place c.args.bytes.now w.at) is.cycle_word) in
    elim c.in_default.branch [
      | in_default-via-in-Some-2+else-cycle-into-2 w ↦
          let first = holds_some _ _ _ w.in-Some.is is.cycle in
          let second = holds_some _ _ _ w.in-Some-2.is is.cycle in
          inr (here, omega (arith, first, w.if-cycle-into.false, w.into.ensures), omega (arith, second, w.if-cycle-into-2.false))
      | in_default-via-in_default w ↦
          let over = holds_none _ _ w.in_default.is is.cycle in
          inr (here, omega (arith, over, c.ranges.last), omega (arith, over))
    ]
