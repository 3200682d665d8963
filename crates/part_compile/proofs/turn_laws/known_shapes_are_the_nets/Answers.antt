use Rattle.std.specs.Prelude.{Contains}
use Rattle.part_compile.proofs.InTurn.{known_shape}
use Rattle.part_compile.proofs.turn_laws.known_shapes_are_the_nets.Goals as goal

pub returns : goal.returns
returns c = λ net these table g s h e has. known_shape net (Contains these) table g s h e has
