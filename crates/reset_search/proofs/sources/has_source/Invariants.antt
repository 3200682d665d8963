use Rattle.std.proofs.Common.{◌≡◌, false, take}
use Rattle.std.specs.List.{list_any}
use Rattle.reset_search.specs.Sources.{module_source}
use Rattle.reset_search.proofs.sources.has_source.Given as goal

abbrev pub invariant-loop-holder : goal.invariant-loop-holder
invariant-loop-holder l = list_any module_source (take l.holder-index l.circuit.modules) ≡ false
