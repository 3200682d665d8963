use Rattle.memory_ports.proofs.WellFormed.{late_role, late_undriven}
use Rattle.memory_ports.proofs.laws.late_data_are_captured.Goals as goal

pub returns-clause-captured : goal.returns-clause-captured
returns-clause-captured c = λ flat net is sound m p k x memory port read r late. late_role flat net is sound m p k x memory port read r late

pub returns-clause-undriven : goal.returns-clause-undriven
returns-clause-undriven c = λ flat net is sound m p k x memory port read r late. late_undriven flat net is sound m p k x memory port read r late
