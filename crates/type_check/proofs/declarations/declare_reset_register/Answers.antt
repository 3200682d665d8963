use Rattle.std.proofs.Common.{refl}
use Rattle.std.proofs.lemmas.Result.{on_ok_weaker}
use Rattle.type_check.specs.Texts.{stored_faults}
use Rattle.type_check.proofs.Walking.{walks_noted, walks_then}
use Rattle.type_check.proofs.declarations.declare_reset_register.Goals as goal

pub returns : goal.returns
returns c = on_ok_weaker c.declare.result (λ h. walks_noted (stored_faults c.args.typ.now) refl refl c.in_ok-push_stored.ensures
    (walks_then c.in_ok-expect_clock.ensures (walks_then c.in_ok-expect_reset.ensures (walks_then c.in_ok-expect_init.ensures h)))) c.declare.ensures
