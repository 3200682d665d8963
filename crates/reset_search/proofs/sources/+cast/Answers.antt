use Rattle.std.proofs.Common.{arith}
use Rattle.std.proofs.lemmas.Grind.{common_steps}
use Rattle.reset_search.proofs.Holding.{cast-mux}
use Rattle.reset_search.proofs.sources.+cast.Goals as goal

pub is_a_cast-returns-in-Mux : goal.is_a_cast-returns-in-Mux
is_a_cast-returns-in-Mux t c =
    let e = cast-mux c.args.expr.now c.in-Mux.operands c.in-Mux.is in
    grind (arith, common_steps, e)
