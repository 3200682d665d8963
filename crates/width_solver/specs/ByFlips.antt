-- The walk over two lists of formulas by the flips alone.
use Rattle.std.specs.Prelude.{◌++◌, Bool, List, [], ◌∷◌}
use Rattle.fir_tree.specs.declared.part.Flow.{Flow}
use Rattle.fir_tree.specs.Parts.{flow_through}
use Rattle.width_rules.specs.declared.rule.Formula.{Formula}
use Rattle.width_rules.specs.declared.rule.Rule.{Rule}
use Rattle.width_rules.specs.Circuits.{driven, zeroed}

-- Each place is at least the source's, by the flips of the places.
abbrev pub connected_by : List Bool → List Formula → List Formula → List Rule
connected_by (flip ∷ flips) (l ∷ ls) (r ∷ rs) = driven flip l r ++ connected_by flips ls rs
connected_by _ _ _ = []

abbrev pub invalidated_by : Flow → List Bool → List Formula → List Rule
invalidated_by flow (flip ∷ flips) (f ∷ fs) = zeroed (flow_through flip flow) f ++ invalidated_by flow flips fs
invalidated_by flow _ _ = []
