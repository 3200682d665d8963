use Rattle.std.proofs.Common.{◌≡◌, map, drop}
use Rattle.fir_meaning.specs.Components.{Leaf}
use Rattle.fir_meaning.specs.Drives.{same_leaf}
use Rattle.drive_check.specs.Keys.{leaf_of_key}
use Rattle.plain_cycle.specs.Firsts.{first_beside}
use Rattle.plain_cycle.proofs.finding.given.Given as goal

abbrev pub invariant-loop-at : goal.invariant-loop-at
invariant-loop-at l =
    let test = λ (x : Leaf). same_leaf x (leaf_of_key l.leaf) in
    first_beside test (map leaf_of_key l.inputs) l.row ≡ first_beside test (drop l.at (map leaf_of_key l.inputs)) (drop l.at l.row)
