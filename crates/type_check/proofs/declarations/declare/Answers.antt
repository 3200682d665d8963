use Rattle.std.proofs.Common.{refl}
use Rattle.std.specs.Prelude.{Some}
use Rattle.std.proofs.lemmas.Result.{on_ok_weaker}
use Rattle.fir_tree.specs.Parts.{part_of}
use Rattle.type_check.proofs.Kept.{walks_declared}
use Rattle.type_check.proofs.declarations.declare.Goals as goal

pub returns : goal.returns
returns c =
    on_ok_weaker c.note_declared.result (λ h. walks_declared c.args.name.id (Some (part_of c.args.typ.now c.args.flow)) h refl refl) c.note_declared.ensures
