use Rattle.std.proofs.Common.{sym, ◌∙◌, arith}
use Rattle.net_run.proofs.Places.{listed_past}
use Rattle.net_run.proofs.evaluating.listed_value.Goals as goal

pub returns-else-number-values : goal.returns-else-number-values
returns-else-number-values c =
    listed_past c.args.values.now c.args.numbers.now c.args.place c.in-Some.number c.zero.result (sym c.get.ensures ∙ c.in-Some.is) (omega (arith, c.if-number-values.false)) c.zero.ensures
