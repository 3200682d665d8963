use Rattle.fir_meaning.specs.Components.{modules_of}
use Rattle.one_clock.proofs.Tabling.{Tabled}
use Rattle.one_clock.proofs.table.table_of.Given as goal

abbrev pub invariant-loop-number : goal.invariant-loop-number
invariant-loop-number l = Tabled l.modules (modules_of l.fn.fitted) l.reached l.table.entries l.number l.rest
