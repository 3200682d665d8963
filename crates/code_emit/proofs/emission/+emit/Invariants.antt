use Rattle.std.proofs.Common.{◌≡◌, Some, take}
use Rattle.ground_net.specs.Shapes.{all_of}
use Rattle.flat_code.specs.Fine.{location_shapes}
use Rattle.code_emit.specs.Emits.{sources_table, shapes_in, EmitsAll}
use Rattle.code_emit.specs.Spans.{SpansAll}
use Rattle.code_emit.proofs.emission.+emit.Given as goal

abbrev pub invariant-emit_all-loop-ground : goal.invariant-emit_all-loop-ground
invariant-emit_all-loop-ground l = record {
  shapes : all_of (shapes_in (sources_table l.sources) (take l.ground-index l.grounds)) ≡ Some (location_shapes l.locations);
  emits : EmitsAll l.sources (take l.ground-index l.grounds) l.fn.draft l.draft l.locations;
  spans : SpansAll l.sources (take l.ground-index l.grounds) l.fn.draft l.draft l.locations;
}
