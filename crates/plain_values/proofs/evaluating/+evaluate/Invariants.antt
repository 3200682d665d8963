use Rattle.std.proofs.Common.{◌≡◌, map, take}
use Rattle.fir_meaning.specs.Values.{value, lone}
use Rattle.plain_values.specs.Sites.{scene_of_view}
use Rattle.plain_values.proofs.Following.{Leads}
use Rattle.plain_values.proofs.evaluating.+evaluate.Given as goal

abbrev pub invariant-operand_values-loop-operand : goal.invariant-operand_values-loop-operand
invariant-operand_values-loop-operand l = l.values ≡ map (λ e. lone (value e (scene_of_view l.view))) (take l.operand-index l.operands)

abbrev pub invariant-follow-loop-suffix : goal.invariant-follow-loop-suffix
invariant-follow-loop-suffix l = Leads l.view l.fn.name (take l.suffix-index l.suffixes) l.spot
