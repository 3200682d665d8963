use Rattle.std.proofs.Common.{◌≡◌, ◌==◌, find, filter_map, None, take}
use Rattle.drive_check.specs.Sites.{port_name_in}
use Rattle.drive_check.proofs.undriven.place_of_port.Given as goal

abbrev pub invariant-loop-line : goal.invariant-loop-line
invariant-loop-line l = find (λ name. name.id == l.port) (filter_map port_name_in (take l.line-index l.lines)) ≡ None
