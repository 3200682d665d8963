use Rattle.std.proofs.Common.{◌≡◌, flat_map, take, length}
use Rattle.trace_print.specs.Listing.{component_lines, typed_components}
use Rattle.trace_print.proofs.listing.widths_text.Given as goal

abbrev pub invariant-loop-component : goal.invariant-loop-component
invariant-loop-component l = l.text.items ≡ flat_map (component_lines l.fitted.checked.resolved.names) (take (length l.yielded) (typed_components l.fitted))
