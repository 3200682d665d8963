use Rattle.std.proofs.Common.{refl, ap}
use Rattle.plain_cycle.specs.Held.{held_sort}
use Rattle.plain_cycle.proofs.registers.register_of.Goals as goal

pub returns-in-Register-clause-some : goal.returns-in-Register-clause-some
returns-in-Register-clause-some c = record { block = refl; clock = _; sort = ap held_sort c.in-Register.is }

pub returns-in-ResetRegister-clause-some : goal.returns-in-ResetRegister-clause-some
returns-in-ResetRegister-clause-some c = record { block = refl; clock = _; sort = ap held_sort c.in-ResetRegister.is }
