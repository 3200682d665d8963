use Rattle.std.proofs.Common.{◌∙◌, subst}
use Rattle.std.proofs.lemmas.Result.{IfOk-weaker}
use Rattle.field_tables.proofs.Parts.{Finds, before_place, before_end}
use Rattle.field_tables.proofs.tabled.before_by.Goals as goal

pub returns-in-Some : goal.returns-in-Some
returns-in-Some c =
    IfOk-weaker c.as_number.result _ _
    (λ n e fields counts. e ∙ before_place c.args.table.now fields c.args.id c.in-Some.place (subst (Finds c.args.table.now c.args.id) c.in-Some.is c.place.ensures) counts) c.as_number.ensures

pub returns-in-None : goal.returns-in-None
returns-in-None c =
    IfOk-weaker c.as_number-in-None.result _ _
    (λ n e fields counts. e ∙ before_end c.args.table.now fields c.args.id (subst (Finds c.args.table.now c.args.id) c.in-None.is c.place.ensures) counts) c.as_number-in-None.ensures
