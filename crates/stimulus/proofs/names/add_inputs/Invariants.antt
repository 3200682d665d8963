use Rattle.std.proofs.Common.{◌≡◌, ℕ, List, [], take}
use Rattle.stimulus.specs.Naming.{found, named_in}
use Rattle.stimulus.proofs.names.add_inputs.Given as goal

abbrev pub invariant-loop-number : goal.invariant-loop-number
invariant-loop-number l = (names : List (List ℕ)) → ((q : List ℕ) → found l.fn.known q ≡ named_in names [] q) → (q : List ℕ) → found l.known q ≡ named_in names (take l.number l.inputs) q
