-- The texts of leaves: a leaf is written as in an expression, such as `io.v[2].x`, a backquoted name without its backquotes.
use Rattle.std.specs.Prelude.{ℕ, List, [], ◌++◌, flat_map, get_or, codes, decimal}
use Rattle.fir_types.specs.declared.leaf.PathStep.{PathStep}
use Rattle.fir_types.specs.declared.leaf.PathStep.TheVariants as step

-- the texts of names, by their numbers
abbrev pub Texts : Type 0
Texts = List (List ℕ)

abbrev pub text_of : Texts → ℕ → List ℕ
text_of texts id = get_or texts id []

abbrev pub step_text : Texts → PathStep → List ℕ
step_text texts (step.Field id) = codes "." ++ text_of texts id
step_text texts (step.Element n) = codes "[" ++ decimal n ++ codes "]"

-- The text of the way to a part.
abbrev pub way_text : Texts → List PathStep → List ℕ
way_text texts way = flat_map (step_text texts) way

-- The text of a component's leaf.
abbrev pub leaf_text : Texts → ℕ → List PathStep → List ℕ
leaf_text texts component way = text_of texts component ++ way_text texts way
