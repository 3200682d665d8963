use Rattle.std.proofs.Common.{◌∙◌, sym}
use Rattle.ground_statements.proofs.Walks.{nowhere_none}
use Rattle.ground_statements.proofs.targets.targets_of.Goals as goal

pub returns-then-lead_nowhere : goal.returns-then-lead_nowhere
returns-then-lead_nowhere c = c.new.ensures ∙ sym (nowhere_none c.args.picks.now c.args.leaf (sym c.lead_nowhere.ensures ∙ c.if-lead_nowhere.true))
