use Rattle.print_stop.proofs.Turns.{AtCode}
use Rattle.print_stop.proofs.log.items_code.Given as goal

abbrev pub invariant-loop-item : goal.invariant-loop-item
invariant-loop-item l = AtCode l.items l.row l.item-index l.rest
