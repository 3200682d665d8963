use Rattle.std.proofs.Common.{◌≡◌, ◌∙◌, sym, subst, ap}
use Rattle.bit_words.specs.Values.{integer_of}
use Rattle.ground_net.specs.Grounds.{value}
use Rattle.ground_net.specs.Shapes.{shape}
use Rattle.ground_net.specs.Nets.{table_of}
use Rattle.code_memories.proofs.NextValues.{next_value, next_shape}
use Rattle.code_memories.proofs.registers.next_ground.Goals as goal

pub returns-clause-value : goal.returns-clause-value
returns-clause-value c = λ instant held e. ap (λ g. integer_of (value g instant)) c.in_ok-next.ensures ∙ next_value c.args.net.now c.args.register.now instant held e

pub returns-clause-shape : goal.returns-clause-shape
returns-clause-shape c = λ n w e. ap (λ g. shape g (table_of c.args.net.now)) c.in_ok-next.ensures ∙ next_shape c.args.net.now c.args.register.now n w e
