use Rattle.bit_words.specs.declared.value.Kind.TheVariants.{Unsigned}
use Rattle.ground_net.specs.Shapes.{shaped}
use Rattle.partition_code.proofs.PortsLeft.{leaves_words}
use Rattle.partition_code.proofs.examples.written_leaves_leave_their_words.Goals as goal

pub returns-clause-one : goal.returns-clause-one
returns-clause-one c = λ net m k memory port w b a. leaves_words net m k memory port (shaped Unsigned 8) w b a

pub returns-clause-two : goal.returns-clause-two
returns-clause-two c = λ net m k memory port w b a. leaves_words net m k memory port (shaped Unsigned 65) w b a
