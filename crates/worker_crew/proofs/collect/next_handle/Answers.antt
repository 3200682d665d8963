use Rattle.worker_crew.specs.Numbers.{same}
use Rattle.worker_crew.proofs.Numbers.{popped}
use Rattle.worker_crew.proofs.collect.next_handle.Goals as goal

pub returns-clause-numbers : goal.returns-clause-numbers
returns-clause-numbers g c = popped (λ k h. same k h.promise.duty.value.number) _ _ c.pop.result c.pop.ensures.items
