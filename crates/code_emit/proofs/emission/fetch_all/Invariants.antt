use Rattle.std.proofs.Common.{◌≡◌, Some, take}
use Rattle.ground_net.specs.Shapes.{all_of}
use Rattle.flat_code.specs.Fine.{location_shapes}
use Rattle.code_emit.specs.Emits.{as_leaves, sources_table, shapes_in, EmitsAll}
use Rattle.code_emit.specs.Spans.{SpansAll}
use Rattle.code_emit.proofs.emission.fetch_all.Given as goal

abbrev pub invariant-loop-leaf : goal.invariant-loop-leaf
invariant-loop-leaf l = record {
  shapes : all_of (shapes_in (sources_table l.sources) (as_leaves (take l.leaf-index l.leaves))) ≡ Some (location_shapes l.locations);
  emits : EmitsAll l.sources (as_leaves (take l.leaf-index l.leaves)) l.fn.draft l.draft l.locations;
  spans : SpansAll l.sources (as_leaves (take l.leaf-index l.leaves)) l.fn.draft l.draft l.locations;
}
