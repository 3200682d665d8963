use Rattle.std.proofs.Common.{◌≡◌, map, take}
use Rattle.std.specs.Prelude.{All}
use Rattle.type_index.specs.Sights.{table_of}
use Rattle.module_table.specs.Tables.{instance_typ, bundle_of, IsInstance}
use Rattle.module_table.proofs.modules.instances_of.Given as goal

abbrev pub invariant-loop-module : goal.invariant-loop-module
invariant-loop-module l = record {
  typs : map instance_typ l.instances.items ≡ map bundle_of (take l.module-index l.modules);
  known : All (IsInstance l.names (table_of l.classes)) l.instances.items;
}
