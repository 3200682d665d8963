use Rattle.std.proofs.Common.{◌≡◌, length}
use Rattle.fir_meaning.specs.Components.{design_of}
use Rattle.plain_run.proofs.Walking.{Walks}
use Rattle.plain_run.proofs.flat_order.sites_in_order.Given as goal

-- a step leaves one component behind
abbrev pub invariant-loop-step : goal.invariant-loop-step
invariant-loop-step l = Walks (design_of l.fitted) l.behind.items l.ahead.items × (l._step ≡ length l.behind.items)
