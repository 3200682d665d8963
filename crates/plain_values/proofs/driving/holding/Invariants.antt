use Rattle.std.proofs.Common.{◌≡◌, false, take}
use Rattle.std.specs.List.{list_any}
use Rattle.plain_values.specs.Sites.{scene_of_view}
use Rattle.plain_values.specs.Choosing.{is_taken}
use Rattle.plain_values.proofs.driving.holding.Given as goal

abbrev pub invariant-loop-number : goal.invariant-loop-number
invariant-loop-number l = list_any (is_taken (scene_of_view l.view)) (take l.number l.arms) ≡ false
