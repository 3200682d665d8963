use Rattle.std.proofs.Common.{◌≡◌, ◌∷◌, map, nat_eq}
use Rattle.std.specs.Prelude.{Some}
use Rattle.std.specs.Map.{lookup}
use Rattle.std.specs.List.{AllZip, range_with_len}
use Rattle.item_lines.specs.Items.{wire_name, argument_name, number_in}
use Rattle.found_items.proofs.walk.leaves_of.Given as goal

abbrev pub invariant-loop-argument : goal.invariant-loop-argument
invariant-loop-argument l =
    AllZip (λ text x. lookup (nat_eq (number_in l.table.fitted.now.checked.resolved.names text)) l.firsts.entries ≡ Some x) (wire_name l.print.number ∷ map (argument_name l.print.number) (range_with_len 0 l.argument)) l.leaves
