use Rattle.flatten_instances.specs.Plans.{RegistersOf}
use Rattle.flatten_instances.proofs.registers.registers_of.Given as goal

abbrev pub invariant-loop-site : goal.invariant-loop-site
invariant-loop-site l = RegistersOf l.driven l.plan l.site-index l.registers
