use Rattle.std.proofs.Common.{ap, ◌∙◌, sym, subst}
use Rattle.std.proofs.lemmas.Result.{on_ok_weaker}
use Rattle.size_check.specs.Kept.{types_of, AreMeasured}
use Rattle.size_check.proofs.Kept.{kept_new, measured_new}
use Rattle.size_check.proofs.known.Known.note.Goals as goal

pub returns-clause-types : goal.returns-clause-types
returns-clause-types c = on_ok_weaker c.insert_new.result (λ h. ap types_of h ∙ kept_new c.args.self.now.types.entries c.args.name.id c.args.component) c.insert_new.ensures.entries

pub returns-clause-measured : goal.returns-clause-measured
returns-clause-measured c =
    on_ok_weaker c.insert_new.result
    (λ h texts one all. subst (AreMeasured texts) (sym h) (measured_new texts c.args.self.now.types.entries c.args.name.id c.args.component one all))
    c.insert_new.ensures.entries
