use Rattle.fir_types.specs.Leaves.{leaves}
use Rattle.fir_types.specs.Bundles.{instance_of, memory_of}
use Rattle.check_laws.proofs.Apart.{apart_leaves, apart_places}
use Rattle.check_laws.proofs.Ports.{apart_instances, apart_memories}
use Rattle.check_laws.proofs.type_laws.ways_differ_without_doubled_fields.Goals as goal

pub returns-clause-types : goal.returns-clause-types
returns-clause-types c = λ typ h. apart_places (leaves typ) (apart_leaves typ h)

pub returns-clause-instances : goal.returns-clause-instances
returns-clause-instances c = λ ports d h. apart_places (leaves (instance_of ports)) (apart_instances ports d h)

pub returns-clause-memories : goal.returns-clause-memories
returns-clause-memories c = λ memory d h. apart_places (leaves (memory_of memory)) (apart_memories memory d h)
