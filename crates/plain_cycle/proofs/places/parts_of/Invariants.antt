use Rattle.std.proofs.Common.{◌≡◌, drop}
use Rattle.fir_meaning.specs.Components.{design_of, module_named}
use Rattle.plain_cycle.proofs.Modules.{named_among}
use Rattle.plain_cycle.proofs.places.parts_of.Given as goal

abbrev pub invariant-loop-holder : goal.invariant-loop-holder
invariant-loop-holder l = named_among l.name (drop l.holder-index l.holder-items) l.types ≡ module_named (design_of l.fitted) l.name
