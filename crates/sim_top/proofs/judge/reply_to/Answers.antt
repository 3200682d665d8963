use Rattle.std.proofs.Common.{◌∙◌, ap, subst, sym, true≢false}
use Rattle.std.proofs.lemmas.Result.{IfOk-weaker}
use Rattle.asked_texts.specs.Commands.{AreInRange, job}
use Rattle.asked_texts.specs.Texts.{reads_all}
use Rattle.sim_top.proofs.Judging.{replies_check, replies_widths, replies_cut, replies_refine}
use Rattle.sim_top.proofs.judge.reply_to.Goals as goal

pub returns-in-Check : goal.returns-in-Check
returns-in-Check c = IfOk-weaker _ _ _ (replies_check c.args.command c.args.built.now c.in-Check.is) c.accept.ensures

pub returns-in-Widths : goal.returns-in-Widths
returns-in-Widths c = IfOk-weaker _ _ _ (replies_widths c.args.command c.args.built.now c.in-Widths.is) c.list.ensures

pub divide-requires-clause-some : goal.divide-requires-clause-some
divide-requires-clause-some c = (subst (λ k. AreInRange (job k)) c.in-Cut.is c.requires.in_range).0

pub divide-requires-clause-most : goal.divide-requires-clause-most
divide-requires-clause-most c = (subst (λ k. AreInRange (job k)) c.in-Cut.is c.requires.in_range).1

pub returns-in-Cut : goal.returns-in-Cut
returns-in-Cut c = IfOk-weaker _ _ _ (replies_cut c.args.command _ c.args.built.now c.in-Cut.is) c.divide.ensures

pub divide_refined-requires-clause-some : goal.divide_refined-requires-clause-some
divide_refined-requires-clause-some c = (subst (λ k. AreInRange (job k)) c.in-Refine.is c.requires.in_range).0

pub divide_refined-requires-clause-most : goal.divide_refined-requires-clause-most
divide_refined-requires-clause-most c = (subst (λ k. AreInRange (job k)) c.in-Refine.is c.requires.in_range).1

pub returns-in-Refine : goal.returns-in-Refine
returns-in-Refine c = IfOk-weaker _ _ _ (replies_refine c.args.command _ c.args.built.now c.in-Refine.is) c.divide_refined.ensures

pub unreachable-requires : goal.unreachable-requires
unreachable-requires c = true≢false (sym c.requires.unrun ∙ ap (λ k. reads_all (job k)) c.in-Run.is)

pub unreachable-requires-in-Vcd : goal.unreachable-requires-in-Vcd
unreachable-requires-in-Vcd c = true≢false (sym c.requires.unrun ∙ ap (λ k. reads_all (job k)) c.in-Vcd.is)

pub unreachable-requires-in-Save : goal.unreachable-requires-in-Save
unreachable-requires-in-Save c = true≢false (sym c.requires.unrun ∙ ap (λ k. reads_all (job k)) c.in-Save.is)

pub unreachable-requires-in-Resume : goal.unreachable-requires-in-Resume
unreachable-requires-in-Resume c = true≢false (sym c.requires.unrun ∙ ap (λ k. reads_all (job k)) c.in-Resume.is)

pub unreachable-requires-in-Log : goal.unreachable-requires-in-Log
unreachable-requires-in-Log c = true≢false (sym c.requires.unrun ∙ ap (λ k. reads_all (job k)) c.in-Log.is)
