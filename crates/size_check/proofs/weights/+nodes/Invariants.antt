use Rattle.std.proofs.Common.{◌≡◌, map, sum, take}
use Rattle.size_check.specs.Weights.{nodes, suffix_nodes}
use Rattle.size_check.proofs.weights.+nodes.Given as goal

abbrev pub invariant-nodes_of_all-loop-expr : goal.invariant-nodes_of_all-loop-expr
invariant-nodes_of_all-loop-expr l = l.count ≡ sum (map nodes (take l.expr-index l.exprs))

abbrev pub invariant-nodes_of_suffixes-loop-suffix : goal.invariant-nodes_of_suffixes-loop-suffix
invariant-nodes_of_suffixes-loop-suffix l = l.count ≡ sum (map suffix_nodes (take l.suffix-index l.suffixes))
