use Rattle.print_stop.proofs.Turns.{AtItem}
use Rattle.print_stop.proofs.log.push_items.Given as goal

abbrev pub invariant-loop-item : goal.invariant-loop-item
invariant-loop-item l = AtItem l.items l.row l.item-index l.rest l.fn.text.items l.text.items
