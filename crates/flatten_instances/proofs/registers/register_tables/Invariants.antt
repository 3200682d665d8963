use Rattle.std.proofs.Common.{take}
use Rattle.flatten_instances.specs.Flat.{OneByOne}
use Rattle.flatten_instances.specs.Plans.{HasRegisters}
use Rattle.flatten_instances.proofs.registers.register_tables.Given as goal

abbrev pub invariant-loop-owner : goal.invariant-loop-owner
invariant-loop-owner l = OneByOne HasRegisters (take l.owner-index l.driven.modules) l.tables
