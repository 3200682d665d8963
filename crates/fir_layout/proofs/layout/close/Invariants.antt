use Rattle.std.proofs.Common.{◌≡◌, ◌++◌}
use Rattle.std.specs.Prelude.{replicate}
use Rattle.fir_layout.specs.declared.laid.Laid.TheVariants.{Close}
use Rattle.fir_layout.proofs.layout.close.Given as goal

abbrev pub invariant-loop : goal.invariant-loop
invariant-loop l = l.laid.items ≡ l.initial.laid.items ++ replicate l.counter (Close l.at)
