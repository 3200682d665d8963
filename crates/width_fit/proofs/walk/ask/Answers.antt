use Rattle.std.proofs.Common.{refl}
use Rattle.std.proofs.lemmas.Result.{on_ok_weaker}
use Rattle.width_fit.proofs.Declaring.{asks_walks}
use Rattle.width_fit.proofs.walk.ask.Goals as goal

pub returns-clause-walks : goal.returns-clause-walks
returns-clause-walks c =
    on_ok_weaker c.push_condition.result
    (asks_walks c.args.given.now.widths.now c.args.expr.now c.in_ok-surveyed.surveyed c.as_slice.result.now c.survey_expr.new.found c.args.walk.now _
    c.in_ok-surveyed.ensures.is c.in_ok-surveyed.ensures.found refl refl refl refl c.as_slice.ensures)
    c.push_condition.ensures
