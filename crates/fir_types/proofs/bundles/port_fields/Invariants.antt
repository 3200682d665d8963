use Rattle.std.proofs.Common.{◌≡◌, filter_map, take}
use Rattle.fir_types.specs.Bundles.{port_field}
use Rattle.fir_types.proofs.bundles.port_fields.Given as goal

abbrev pub invariant-loop-line : goal.invariant-loop-line
invariant-loop-line l = l.fields ≡ filter_map (port_field l.fn.elements.typ.now l.fn.elements.depth) (take l.line-index l.lines)
