use Rattle.std.proofs.Common.{take}
use Rattle.fir_meaning.specs.Components.{design_of}
use Rattle.plain_cycle.specs.Places.{stands_of}
use Rattle.plain_cycle.specs.Layouts.{Lists, all_located}
use Rattle.plain_cycle.proofs.layout.lay_out.Given as goal

abbrev pub invariant-loop-place : goal.invariant-loop-place
invariant-loop-place l = Lists (all_located (design_of l.fitted) (stands_of (take l.place-index l.listed))) l.layout.sites l.layout.declared.items
