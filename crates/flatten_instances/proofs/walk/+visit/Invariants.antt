use Rattle.std.proofs.Common.{ℕ, ◌+◌, ◌*◌, List}
use Rattle.flatten_instances.specs.Plans.{IsLevel, GoesOn, IsGoing, SameWalk, left_of}
use Rattle.flatten_instances.proofs.walk.+visit.Given as goal

abbrev pub decreases-visit : goal.decreases-visit
decreases-visit l = 3 * l.left + 2

abbrev pub decreases-step : goal.decreases-step
decreases-step l = 3 * l.walk.now.left + 1

abbrev pub decreases-enter : goal.decreases-enter
decreases-enter l = 3 * l.walk.now.left

abbrev pub invariant-visit-on : goal.invariant-visit-on
invariant-visit-on l = record {
  going : IsGoing l.driven l.owner l.walk l.plan;
  same : SameWalk l.initial.walk l.walk;
  goes : (path : List ℕ) → IsLevel l.driven l.initial.plan.levels l.initial.walk.level path l.initial.walk.module → GoesOn l.driven path l.owner l.initial.walk l.walk l.initial.plan l.plan;
}

abbrev pub decreases-visit-on : goal.decreases-visit-on
decreases-visit-on l = left_of l.owner l.walk
