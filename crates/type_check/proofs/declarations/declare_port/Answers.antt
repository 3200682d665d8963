use Rattle.std.proofs.Common.{refl}
use Rattle.std.proofs.lemmas.Result.{on_ok_weaker}
use Rattle.type_check.specs.Texts.{twice_in}
use Rattle.type_check.proofs.Walking.{walks_noted}
use Rattle.type_check.proofs.declarations.declare_port.Goals as goal

pub returns : goal.returns
returns c = on_ok_weaker c.declare.result (λ h. walks_noted (twice_in c.args.port.now.typ) refl refl c.in_ok-push_twice.ensures h) (rw c.port_flow.ensures at c.declare.ensures)
