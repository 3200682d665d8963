use Rattle.std.proofs.Common.{◌≡◌, length, take, drop}
use Rattle.code_emit.specs.Emits.{sources_table}
use Rattle.partition_code.specs.Sequences.{InTurn, Assigns, StandElsewhere, turned_table}
use Rattle.partition_code.specs.Segmented.{AreSegments}
use Rattle.partition_code.proofs.assigning.assign_all.Given as goal

abbrev pub invariant-loop-leaf : goal.invariant-loop-leaf
invariant-loop-leaf l = record {
  long : length l.sources.leaves ≡ length l.fn.sources.leaves;
  turn : InTurn (sources_table l.sources) l.drivers (drop l.leaf-index l.sequence);
  table : turned_table (sources_table l.sources) l.drivers (drop l.leaf-index l.sequence) ≡ turned_table (sources_table l.fn.sources) l.drivers l.sequence;
  others : StandElsewhere (take l.leaf-index l.sequence) l.fn.sources l.sources;
  assigns : Assigns l.drivers (take l.leaf-index l.sequence) l.fn.sources l.fn.draft l.sources l.draft;
  segments : AreSegments l.drivers (take l.leaf-index l.sequence) l.fn.sources l.fn.draft l.sources l.draft;
}
