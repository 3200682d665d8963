-- A run whose items are printed.
use Rattle.std.specs.Prelude.{◌≤◌, ◌<◌, length}
use Rattle.fir_meaning.specs.Components.{design_of}
use Rattle.ground_net.specs.Words.{SaysItsWords}
use Rattle.circuit_laws.specs.WellFormed.{IsWellFormed}
use Rattle.net_laws.specs.Serves.{Serves}
use Rattle.circuit_run.specs.NetRuns.{IsPlanned}
use Rattle.found_items.specs.Finding.{HasItems}
use Rattle.circuit_texts.specs.declared.logging.LogPlan.{LogPlan}

-- The circuit is well formed, and its items are sound; the net serves it, its assignments stand in an order, a `u32` numbers its leaves, and
-- the stimulus was read for its ports; and 1 to 64 workers run it.
pub record CanLog (plan : LogPlan) : Type 0 where
  pub formed : IsWellFormed plan.fitted.now
  pub items : HasItems plan.fitted.now.checked.resolved.names (design_of plan.fitted.now) plan.fitted.now.checked.resolved.prints
  pub serves : Serves plan.fitted.now.checked.resolved.names (design_of plan.fitted.now) plan.ordered.now.net
  pub planned : IsPlanned plan.ordered.now plan.ports.now plan.stimulus.now
  pub said : SaysItsWords plan.ordered.now.net
  pub small : length plan.ordered.now.net.leaves < 4294967296
  pub some : 1 ≤ plan.workers
  pub few : plan.workers ≤ 64
