use Rattle.type_index.specs.Sights.{Grows}
use Rattle.type_index.proofs.memory_classes.ports_noted.Given as goal

abbrev pub invariant-loop-line : goal.invariant-loop-line
invariant-loop-line l = Grows l.fn.classes l.classes
