-- Sets of leaves of a module, as the walk keeps them.
use Rattle.std.specs.Prelude.{Bool, List, map}
use Rattle.std.specs.List.{list_any}
use Rattle.fir_types.specs.declared.leaf.PathStep.{PathStep}
use Rattle.fir_types.specs.declared.leaf.PathStep.TheVariants as step
use Rattle.fir_meaning.specs.Components.{Leaf}
use Rattle.fir_meaning.specs.Drives.{same_leaf}
use Rattle.drive_check.specs.declared.leaf_set.Step.{Step}
use Rattle.drive_check.specs.declared.leaf_set.Step.TheVariants as own
use Rattle.drive_check.specs.declared.leaf_set.LeafKey.{LeafKey}

-- the step that is meant
abbrev pub step_of : Step → PathStep
step_of (own.Field name) = step.Field name
step_of (own.Element n) = step.Element n

-- the leaf that is meant
abbrev pub leaf_of_key : LeafKey → Leaf
leaf_of_key key = record { component = key.component; way = map step_of key.way.items }

-- the leaf is one of these
abbrev pub is_among : List LeafKey → Leaf → Bool
is_among keys leaf = list_any (λ key. same_leaf (leaf_of_key key) leaf) keys
