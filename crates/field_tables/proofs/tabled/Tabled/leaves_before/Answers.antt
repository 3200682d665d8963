use Rattle.std.proofs.lemmas.Result.{IfOk-weaker}
use Rattle.field_tables.proofs.Parts.{known_before}
use Rattle.field_tables.proofs.tabled.Tabled.leaves_before.Goals as goal

pub returns-in-Some : goal.returns-in-Some
returns-in-Some c =
    IfOk-weaker c.before_by.result _ _
    (λ n h. known_before c.args.self.typ.now c.in-Some.table.now c.in-Bundle.fields c.args.id n c.in-Bundle.is (c.args.self.fits c.in-Some.table c.in-Some.is) h) c.before_by.ensures
