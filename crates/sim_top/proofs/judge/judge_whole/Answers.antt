use Rattle.std.proofs.Common.{ap, refl}
use Rattle.std.proofs.lemmas.Result.{IfOk-weaker}
use Rattle.asked_texts.specs.declared.words.Command.TheVariants.{Run, Vcd, Save, Resume, Log}
use Rattle.asked_texts.specs.Commands.{job}
use Rattle.asked_texts.specs.Texts.{all_of_it, reads_all}
use Rattle.sim_top.proofs.Judging.{lacks_line, unstimulated_fits}
use Rattle.sim_top.proofs.judge.judge_whole.Goals as goal

pub returns-in-Run-clause-judges : goal.returns-in-Run-clause-judges
returns-in-Run-clause-judges c = IfOk-weaker _ _ _ (lacks_line c.args.command Run _ c.in-Run.is refl c.requires.within c.requires.none) c.refuse_unstimulated.ensures

pub returns-in-Run-clause-fits : goal.returns-in-Run-clause-fits
returns-in-Run-clause-fits c = IfOk-weaker _ _ _ (unstimulated_fits (job c.args.command)) c.refuse_unstimulated.ensures

pub returns-in-Vcd-clause-judges : goal.returns-in-Vcd-clause-judges
returns-in-Vcd-clause-judges c = IfOk-weaker _ _ _ (lacks_line c.args.command (Vcd _) _ c.in-Vcd.is refl c.requires.within c.requires.none) c.refuse_unstimulated-in-Vcd.ensures

pub returns-in-Vcd-clause-fits : goal.returns-in-Vcd-clause-fits
returns-in-Vcd-clause-fits c = IfOk-weaker _ _ _ (unstimulated_fits (job c.args.command)) c.refuse_unstimulated-in-Vcd.ensures

pub returns-in_ok-judge_part-in-Check-clause-judges : goal.returns-in_ok-judge_part-in-Check-clause-judges
returns-in_ok-judge_part-in-Check-clause-judges c =
    c.in_ok-judge_part-in-Check.ensures.judges _ c.requires.within (all_of_it (job c.args.command) _ (ap (λ k. reads_all (job k)) c.in-Check.is) c.requires.none)

pub returns-in_ok-judge_part-in-Widths-clause-judges : goal.returns-in_ok-judge_part-in-Widths-clause-judges
returns-in_ok-judge_part-in-Widths-clause-judges c =
    c.in_ok-judge_part-in-Widths.ensures.judges _ c.requires.within (all_of_it (job c.args.command) _ (ap (λ k. reads_all (job k)) c.in-Widths.is) c.requires.none)

pub returns-in_ok-judge_part-in-Cut-clause-judges : goal.returns-in_ok-judge_part-in-Cut-clause-judges
returns-in_ok-judge_part-in-Cut-clause-judges c =
    c.in_ok-judge_part-in-Cut.ensures.judges _ c.requires.within (all_of_it (job c.args.command) _ (ap (λ k. reads_all (job k)) c.in-Cut.is) c.requires.none)

pub returns-in_ok-judge_part-in-Refine-clause-judges : goal.returns-in_ok-judge_part-in-Refine-clause-judges
returns-in_ok-judge_part-in-Refine-clause-judges c =
    c.in_ok-judge_part-in-Refine.ensures.judges _ c.requires.within (all_of_it (job c.args.command) _ (ap (λ k. reads_all (job k)) c.in-Refine.is) c.requires.none)

pub returns-in-Save-clause-judges : goal.returns-in-Save-clause-judges
returns-in-Save-clause-judges c = IfOk-weaker _ _ _ (lacks_line c.args.command (Save _) _ c.in-Save.is refl c.requires.within c.requires.none) c.refuse_unstimulated-in-Save.ensures

pub returns-in-Save-clause-fits : goal.returns-in-Save-clause-fits
returns-in-Save-clause-fits c = IfOk-weaker _ _ _ (unstimulated_fits (job c.args.command)) c.refuse_unstimulated-in-Save.ensures

pub returns-in-Resume-clause-judges : goal.returns-in-Resume-clause-judges
returns-in-Resume-clause-judges c = IfOk-weaker _ _ _ (lacks_line c.args.command (Resume _) _ c.in-Resume.is refl c.requires.within c.requires.none) c.refuse_unstimulated-in-Resume.ensures

pub returns-in-Resume-clause-fits : goal.returns-in-Resume-clause-fits
returns-in-Resume-clause-fits c = IfOk-weaker _ _ _ (unstimulated_fits (job c.args.command)) c.refuse_unstimulated-in-Resume.ensures

pub returns-in-Log-clause-judges : goal.returns-in-Log-clause-judges
returns-in-Log-clause-judges c = IfOk-weaker _ _ _ (lacks_line c.args.command Log _ c.in-Log.is refl c.requires.within c.requires.none) c.refuse_unstimulated-in-Log.ensures

pub returns-in-Log-clause-fits : goal.returns-in-Log-clause-fits
returns-in-Log-clause-fits c = IfOk-weaker _ _ _ (unstimulated_fits (job c.args.command)) c.refuse_unstimulated-in-Log.ensures
