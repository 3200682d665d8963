use Rattle.std.proofs.Common.{◌≡◌, ℕ, List, [], take}
use Rattle.stimulus.specs.Naming.{found, named_in}
use Rattle.stimulus.proofs.names.add_names.Given as goal

abbrev pub invariant-loop-name : goal.invariant-loop-name
invariant-loop-name l = (q : List ℕ) → found l.known q ≡ named_in (take l.name-index l.names) [] q
