use Rattle.settling_laws.proofs.Typing.{declared_typed}
use Rattle.plain_cycle.proofs.tree_sites.declarations_are_typed.Goals as goal

pub returns : goal.returns
returns c = λ fitted well x is. declared_typed fitted well x.path x.m x.c is.reached is.declared
