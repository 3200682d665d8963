-- The circuits of texts that pass all stages settle in each cycle.
use Rattle.std.proofs.Common.{ℕ, List}
use Rattle.sim_engine.specs.Building.{IsBuilt}
use Rattle.sim_engine.specs.declared.compile.Built.{Built}
use Rattle.plain_run.specs.Settling.{CanSettle}

pub can_settle : (text : List ℕ) (built : Built) → IsBuilt text built → CanSettle built.fitted
can_settle text built is = record { initialized = is.accepted.clocked.driven.initialized; loopless = is.accepted.no_loop }
