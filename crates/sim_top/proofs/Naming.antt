-- Names by their numbers.
use Rattle.std.proofs.Common.{◌≡◌, ℕ, zero, suc, List, [], ◌∷◌, get_or, refl}
use Rattle.std.specs.Prelude.{None, slice_get}

-- a number that no name has
pub unnamed : (texts : List (List ℕ)) (id : ℕ) → slice_get texts id ≡ None → get_or texts id [] ≡ []
unnamed [] id none = refl
unnamed (text ∷ texts) zero none = cc
unnamed (text ∷ texts) (suc id) none = unnamed texts id none
