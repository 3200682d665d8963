use Rattle.std.proofs.Common.{arith}
use Rattle.std.proofs.lemmas.Grind.{common_steps}
use Rattle.fir_types.specs.declared.fir_type.FirType.{the_lemmas as type_lemmas}
use Rattle.definition_examples.proofs.registers.resets_have_one_bit.Goals as goal

pub returns-clause-width : goal.returns-clause-width
returns-clause-width c = grind (arith, common_steps, type_lemmas)

pub returns-clause-kind : goal.returns-clause-kind
returns-clause-kind c = grind (arith, common_steps, type_lemmas)

pub returns-clause-async_width : goal.returns-clause-async_width
returns-clause-async_width c = grind (arith, common_steps, type_lemmas)

pub returns-clause-async_kind : goal.returns-clause-async_kind
returns-clause-async_kind c = grind (arith, common_steps, type_lemmas)
