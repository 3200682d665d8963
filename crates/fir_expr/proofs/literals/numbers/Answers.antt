use Rattle.fir_expr.proofs.LiteralCases.{numbers_all}
use Rattle.fir_expr.proofs.literals.numbers.Goals as goal

pub returns : goal.returns
returns c = λ major names. numbers_all c.in_ok-end.ensures.ok c.new-list.ensures names
