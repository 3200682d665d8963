-- Leaves by their numbers.
use Rattle.std.proofs.Common.{◌≡◌, ℕ, ◌<◌, List, length, slice_get, Some, sym, ap, ◌∙◌, get_or}
use Rattle.std.proofs.lemmas.Option.{slice_get-get_or}
use Rattle.ground_net.specs.declared.net.Leaf.{Leaf}
use Rattle.ground_net.specs.declared.net.Role.TheVariants as role
use Rattle.ground_net.specs.Reads.{IsAssigned}

pub leaf_there : (leaves : List Leaf) (x : ℕ) (leaf : Leaf) → x < length leaves → leaf ≡ get_or leaves x leaf → slice_get leaves x ≡ Some leaf
leaf_there leaves x leaf lt e = slice_get-get_or leaves x leaf lt ∙ ap Some (sym e)

-- the leaf of a number is the only one there
pub role_of : (leaves : List Leaf) (x : ℕ) (leaf : Leaf) → slice_get leaves x ≡ Some leaf → IsAssigned leaves x → leaf.role ≡ role.Assigned
role_of leaves x leaf there is = ap (λ l. l.role) (one leaf is.leaf (sym there ∙ is.there)) ∙ is.is
  where
    one : (a b : Leaf) → Some a ≡ Some b → a ≡ b
    one a b e = cc
