use Rattle.std.proofs.Common.{◌≡◌, length}
use Rattle.flatten_instances.specs.Plans.{IsRegisterTable}
use Rattle.flatten_instances.proofs.registers.register_table.Given as goal

abbrev pub invariant-loop-place : goal.invariant-loop-place
invariant-loop-place l = record {
  counted : length l.table ≡ length l.owner.leaves;
  is : IsRegisterTable l.owner.registers l.place l.table;
}
