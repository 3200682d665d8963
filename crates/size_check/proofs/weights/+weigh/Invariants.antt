use Rattle.std.proofs.Common.{◌≡◌, map, take}
use Rattle.fir_tree.specs.LeafNames.{Texts}
use Rattle.size_check.specs.Caps.{cap}
use Rattle.size_check.specs.Kept.{AreMeasured}
use Rattle.size_check.specs.Reaching.{types_in, weight_of, capped_weight, HasPart}
use Rattle.size_check.specs.Weights.{weight, most_of, along, suffix_step}
use Rattle.size_check.proofs.weights.+weigh.Given as goal

abbrev pub invariant-most_in-loop-expr : goal.invariant-most_in-loop-expr
invariant-most_in-loop-expr l = l.most ≡ cap (most_of (map (λ e. weight e (types_in l.known)) (take l.expr-index l.exprs)))

abbrev pub invariant-follow-loop-suffix : goal.invariant-follow-loop-suffix
invariant-follow-loop-suffix l = record {
  weight : weight_of l.reached ≡ capped_weight (along (types_in l.known) l.name (map suffix_step (take l.suffix-index l.suffixes)));
  ways : (texts : Texts) → AreMeasured texts l.known.types.entries → HasPart texts l.reached.part;
}
