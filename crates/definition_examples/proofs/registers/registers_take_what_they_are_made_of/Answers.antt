use Rattle.std.proofs.Common.{refl}
use Rattle.fir_meaning.specs.Components.{flat}
use Rattle.fir_meaning.specs.States.{leaf_of}
use Rattle.definition_examples.proofs.Made.{to_made, takes}
use Rattle.definition_examples.proofs.registers.registers_take_what_they_are_made_of.Goals as goal

pub returns-clause-takes : goal.returns-clause-takes
returns-clause-takes c = λ design path m k leaf stands register x t. to_made design path m k leaf stands register (flat m path (leaf_of k leaf)) x t refl

pub returns-clause-all : goal.returns-clause-all
returns-clause-all c = λ design path m k leaf stands register y made. takes design path m k leaf stands register y made
