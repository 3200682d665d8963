use Rattle.std.proofs.Common.{ap}
use Rattle.lower_aggregates.specs.Held.{held_sort, held_part}
use Rattle.lower_aggregates.proofs.Registering.{own_reset}
use Rattle.lower_aggregates.proofs.registers.own_registers.Goals as goal

pub returns-in_ok-own-in-ResetRegister : goal.returns-in_ok-own-in-ResetRegister
returns-in_ok-own-in-ResetRegister c =
    own_reset c.args.known.now.entries (held_part c.args.piece.now) c.in-ResetRegister.field-0.now c.in-ResetRegister.reset.now c.in-ResetRegister.init.now c.in_ok-own-in-ResetRegister.own
    c.in_ok-lower_expr-in-ResetRegister.field-0 c.lone-source.result c.in_ok-inits-in-ResetRegister.inits (ap held_sort c.in-ResetRegister.is) c.in_ok-lower_expr-in-ResetRegister.ensures c.lone-source.ensures
    c.in_ok-inits-in-ResetRegister.ensures c.in_ok-own-in-ResetRegister.ensures
