use Rattle.std.proofs.Common.{sym, ◌∙◌, ap}
use Rattle.ground_net.specs.Numbers.{listed}
use Rattle.ground_exprs.proofs.Selections.{listed_choices, no_choices}
use Rattle.ground_exprs.proofs.reading.numbers_of.Goals as goal

pub returns-then-lead_nowhere : goal.returns-then-lead_nowhere
returns-then-lead_nowhere c = c.of_list.ensures ∙ c.new.ensures ∙ sym (no_choices c.args.picks.now c.args.leaf (sym c.lead_nowhere.ensures ∙ c.if-lead_nowhere.true))

pub returns : goal.returns
returns c = c.in_ok-numbers.ensures ∙ ap (λ ss. listed ss c.args.leaf) c.in_ok-spans.ensures ∙ listed_choices c.args.picks.now c.args.leaf
