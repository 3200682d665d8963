use Rattle.std.proofs.Common.{◌≡◌, ◌++◌, flat_map, map, take}
use Rattle.std.specs.List.{enumerate_from}
use Rattle.vcd_write.specs.Texts.{var_line, ended}
use Rattle.vcd_write.proofs.dump.push_variables.Given as goal

abbrev pub invariant-loop-number : goal.invariant-loop-number
invariant-loop-number l = l.text.items ≡ l.initial.text.items ++ flat_map ended (map var_line (enumerate_from 0 (take l.number l.vars)))
