use Rattle.lower_aggregates.proofs.MemoryLists.{memories_are}
use Rattle.lower_aggregates.proofs.laws.memories_are_those_of_modules.Goals as goal

pub returns : goal.returns
returns c = λ texts holder m has bundles numbers made e k part g f h. memories_are texts holder m has bundles numbers made e k part g f h
