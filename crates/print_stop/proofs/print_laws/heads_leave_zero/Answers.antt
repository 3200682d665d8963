use Rattle.print_stop.proofs.Heads.{heads_leave_zero}
use Rattle.print_stop.proofs.print_laws.heads_leave_zero.Goals as goal

pub returns : goal.returns
returns c = λ scene wire k places names bit. heads_leave_zero scene wire bit k places names
