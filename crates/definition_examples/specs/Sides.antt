-- Bundles with a leaf of each orientation. Names: o is 20, a is 21, b is 22, v is 23, the index i is 24 and the condition c is 25; the
-- field x is 30, and the flipped field y is 31.
use Rattle.std.specs.Prelude.{ℕ, ◌==◌, [], ◌∷◌, List, false, if◌then◌else◌}
use Rattle.fir_types.specs.declared.fir_type.FirType.{FirType}
use Rattle.fir_types.specs.declared.leaf.PathStep.TheVariants as step
use Rattle.fir_types.specs.declared.leaf.TypeLeaf.{TypeLeaf}
use Rattle.fir_tree.specs.declared.expr.Expr.{Expr}
use Rattle.fir_tree.specs.declared.stmt.Stmt.{Stmt}
use Rattle.fir_meaning.specs.Components.{Leaf}
use Rattle.fir_meaning.specs.Mentions.{Scope}
use Rattle.definition_examples.specs.Samples.{uint, vector, bundle, plain, flipped, ref, part, index, mux, connect, leaf}

-- { x : UInt<1>, flip y : UInt<1> }
abbrev pub pair : FirType
pair = bundle (plain 30 (uint 1) ∷ flipped 31 (uint 1) ∷ [])

-- o, a and b are pairs, v is a vector of two of them, and i and c are UInt<1>.
abbrev pub pairs : Scope
pairs c = if c == 23 then vector pair 2 else if c == 24 then uint 1 else if c == 25 then uint 1 else pair

-- connect o, a
abbrev pub whole_connect : List Stmt
whole_connect = connect (ref 20) (ref 21) ∷ []

abbrev pub v_of_i : Expr
v_of_i = part 23 (index (ref 24) ∷ [])

-- connect o, v[i]
abbrev pub from_element : List Stmt
from_element = connect (ref 20) v_of_i ∷ []

-- connect v[i], o
abbrev pub to_element : List Stmt
to_element = connect v_of_i (ref 20) ∷ []

-- mux(c, a, b)
abbrev pub choice : Expr
choice = mux (ref 25 ∷ ref 21 ∷ ref 22 ∷ [])

-- the leaves x and y of a component, and those of the element v[0]
abbrev pub x_of : ℕ → Leaf
x_of c = leaf c (step.Field 30 ∷ [])

abbrev pub y_of : ℕ → Leaf
y_of c = leaf c (step.Field 31 ∷ [])

abbrev pub x_of_first : Leaf
x_of_first = leaf 23 (step.Element 0 ∷ step.Field 30 ∷ [])

abbrev pub y_of_first : Leaf
y_of_first = leaf 23 (step.Element 0 ∷ step.Field 31 ∷ [])

-- the leaf x of a pair
abbrev pub x_leaf : TypeLeaf
x_leaf = record { path = step.Field 30 ∷ []; flip = false; typ = uint 1 }
