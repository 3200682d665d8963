use Rattle.part_compile.proofs.InTurn.{part_turn, part_known}
use Rattle.part_compile.proofs.turn_laws.parts_stand_in_turn.Goals as goal

pub returns-clause-turn : goal.returns-clause-turn
returns-clause-turn c = λ net watch sequence part S w order union all. (part_turn net w watch sequence part S order union all).0

pub returns-clause-known : goal.returns-clause-known
returns-clause-known c = λ net watch sequence part S w order union all. part_known net w watch sequence part S order union all
