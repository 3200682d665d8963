use Rattle.std.proofs.Common.{rules, arith}
use Rattle.std.proofs.lemmas.Grind.{common_steps}
use Rattle.width_fit.proofs.Surveys.{literal_is, literal_adds}
use Rattle.width_fit.proofs.survey.survey_literal.Goals as goal

pub returns-clause-is : goal.returns-clause-is
returns-clause-is c ws =
    let e = literal_is ws c.args.kind c.args.width c.args.number c.args.place c.width_of.result c.bounded.result c.width_of.ensures c.bounded.ensures in
    grind (arith, common_steps, e)

pub returns-clause-faults : goal.returns-clause-faults
returns-clause-faults c ws =
    literal_adds ws c.args.kind c.args.width c.args.number c.args.place c.width_of.result c.bounded.result c.args.faults.now.items c.push_over.new.faults.items c.width_of.ensures c.bounded.ensures (search rules)
