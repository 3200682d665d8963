use Rattle.std.proofs.Common.{ap, subst}
use Rattle.std.proofs.lemmas.Result.{IfOk-weaker}
use Rattle.asked_texts.specs.Commands.{AreInRange, job}
use Rattle.asked_texts.specs.Texts.{reads_all}
use Rattle.sim_top.proofs.Judging.{gives_here}
use Rattle.sim_top.proofs.judge.judge_built.Goals as goal

pub returns-in-Run-clause-judges : goal.returns-in-Run-clause-judges
returns-in-Run-clause-judges c = rw c.in-Run.is c.run.ensures.judges

pub returns-in-Run-clause-fits : goal.returns-in-Run-clause-fits
returns-in-Run-clause-fits c = rw c.in-Run.is c.run.ensures.fits

pub returns-in-Vcd-clause-judges : goal.returns-in-Vcd-clause-judges
returns-in-Vcd-clause-judges c = rw c.in-Vcd.is c.dump.ensures.judges

pub returns-in-Vcd-clause-fits : goal.returns-in-Vcd-clause-fits
returns-in-Vcd-clause-fits c = rw c.in-Vcd.is c.dump.ensures.fits

pub answer-requires-clause-unrun : goal.answer-requires-clause-unrun
answer-requires-clause-unrun c = ap (λ k. reads_all (job k)) c.in-Check.is

pub answer-requires-in-Widths-clause-unrun : goal.answer-requires-in-Widths-clause-unrun
answer-requires-in-Widths-clause-unrun c = ap (λ k. reads_all (job k)) c.in-Widths.is

pub answer-requires-in-Cut-clause-unrun : goal.answer-requires-in-Cut-clause-unrun
answer-requires-in-Cut-clause-unrun c = ap (λ k. reads_all (job k)) c.in-Cut.is

pub answer-requires-in-Refine-clause-unrun : goal.answer-requires-in-Refine-clause-unrun
answer-requires-in-Refine-clause-unrun c = ap (λ k. reads_all (job k)) c.in-Refine.is

pub returns-in-Check-clause-judges : goal.returns-in-Check-clause-judges
returns-in-Check-clause-judges c = IfOk-weaker _ _ _ (gives_here (job c.args.command) c.args.built c.args.stimulus.now) c.answer.ensures.judges

pub returns-in-Widths-clause-judges : goal.returns-in-Widths-clause-judges
returns-in-Widths-clause-judges c = IfOk-weaker _ _ _ (gives_here (job c.args.command) c.args.built c.args.stimulus.now) c.answer-in-Widths.ensures.judges

pub returns-in-Cut-clause-judges : goal.returns-in-Cut-clause-judges
returns-in-Cut-clause-judges c = IfOk-weaker _ _ _ (gives_here (job c.args.command) c.args.built c.args.stimulus.now) c.answer-in-Cut.ensures.judges

pub returns-in-Refine-clause-judges : goal.returns-in-Refine-clause-judges
returns-in-Refine-clause-judges c = IfOk-weaker _ _ _ (gives_here (job c.args.command) c.args.built c.args.stimulus.now) c.answer-in-Refine.ensures.judges

pub save-requires-clause-short : goal.save-requires-clause-short
save-requires-clause-short c = subst (λ k. AreInRange (job k)) c.in-Save.is c.requires.in_range

pub returns-in-Save-clause-judges : goal.returns-in-Save-clause-judges
returns-in-Save-clause-judges c = rw c.in-Save.is c.save.ensures.judges

pub returns-in-Save-clause-fits : goal.returns-in-Save-clause-fits
returns-in-Save-clause-fits c = rw c.in-Save.is c.save.ensures.fits

pub resume-requires-clause-short : goal.resume-requires-clause-short
resume-requires-clause-short c = subst (λ k. AreInRange (job k)) c.in-Resume.is c.requires.in_range

pub returns-in-Resume-clause-judges : goal.returns-in-Resume-clause-judges
returns-in-Resume-clause-judges c = rw c.in-Resume.is c.resume.ensures.judges

pub returns-in-Resume-clause-fits : goal.returns-in-Resume-clause-fits
returns-in-Resume-clause-fits c = rw c.in-Resume.is c.resume.ensures.fits

pub returns-in-Log-clause-judges : goal.returns-in-Log-clause-judges
returns-in-Log-clause-judges c = rw c.in-Log.is c.log.ensures.judges

pub returns-in-Log-clause-fits : goal.returns-in-Log-clause-fits
returns-in-Log-clause-fits c = rw c.in-Log.is c.log.ensures.fits
