use Rattle.partition_code.proofs.Cycles.{cycle_of}
use Rattle.partition_code.proofs.code_cuts.codes_that_may_run_have_cycles.Goals as goal

pub returns : goal.returns
returns c = λ codes words rows may k row e now plain counted. cycle_of codes words rows may k row e now plain counted
