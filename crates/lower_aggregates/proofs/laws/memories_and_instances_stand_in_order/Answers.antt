use Rattle.lower_aggregates.proofs.PartLists.{memory_there, memories_counted, instance_there, instances_counted}
use Rattle.lower_aggregates.proofs.laws.memories_and_instances_stand_in_order.Goals as goal

pub returns-clause-memories : goal.returns-clause-memories
returns-clause-memories c = λ texts m k part row e f. memory_there texts 0 0 m.components k part row e f

pub returns-clause-all_memories : goal.returns-clause-all_memories
returns-clause-all_memories c = λ texts m. memories_counted texts 0 0 m.components

pub returns-clause-instances : goal.returns-clause-instances
returns-clause-instances c = λ texts numbers m i part row e f. instance_there texts numbers 0 0 0 m.components i part row e f

pub returns-clause-all_instances : goal.returns-clause-all_instances
returns-clause-all_instances c = λ texts numbers m. instances_counted texts numbers 0 0 0 m.components
