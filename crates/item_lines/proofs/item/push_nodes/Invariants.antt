use Rattle.std.proofs.Common.{◌≡◌, ◌+◌, ◌≤◌, length}
use Rattle.std.specs.Vec.Iter.{into_iter_items}
use Rattle.fir_tree.specs.Numbered.{IsDistinct}
use Rattle.item_lines.specs.Items.{argument_nodes}
use Rattle.item_lines.specs.Naming.{Keeps, IsMade}
use Rattle.item_lines.proofs.item.push_nodes.Given as goal

abbrev pub invariant-loop-argument : goal.invariant-loop-argument
invariant-loop-argument l = record {
  index : l.index ≡ length l.yielded;
  left : l.index + length (into_iter_items l.argument-iterator) ≤ length l.fn.arguments.items;
  room : length l.names ≤ length l.fn.names + l.index;
  kept : Keeps l.fn.names l.names;
  made : IsDistinct l.fn.names → IsMade l.fn.made.items l.made.items l.names (argument_nodes l.number 0 l.place l.yielded l.fn.names);
}
