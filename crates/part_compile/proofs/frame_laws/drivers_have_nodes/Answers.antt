use Rattle.part_compile.proofs.Driving.{assignment_some, register_some}
use Rattle.part_compile.proofs.frame_laws.drivers_have_nodes.Goals as goal

pub returns-clause-assignment : goal.returns-clause-assignment
returns-clause-assignment c = assignment_some

pub returns-clause-register : goal.returns-clause-register
returns-clause-register c = register_some
