use Rattle.std.proofs.Common.{take}
use Rattle.fir_names.specs.Finds.{Gathers}
use Rattle.fir_names.proofs.gather.gather.Given as goal

abbrev pub invariant-loop-holder : goal.invariant-loop-holder
invariant-loop-holder l = Gathers l.known.entries (take l.holder-index l.modules) l.fn.gathered l.gathered
