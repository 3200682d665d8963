use Rattle.std.proofs.Common.{◌≡◌, ◌++◌, take}
use Rattle.fir_tree.specs.LeafNames.{way_text}
use Rattle.fir_tree.proofs.leaf_names.push_way.Given as goal

abbrev pub invariant-loop-step : goal.invariant-loop-step
invariant-loop-step l = l.text.items ≡ l.fn.text.items ++ way_text l.names (take l.step-index l.way)
