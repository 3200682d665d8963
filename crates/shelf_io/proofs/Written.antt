-- Laws of what is written.
use Rattle.std.proofs.Common.{◌≡◌, ℕ, ◌+◌, List, ◌++◌, Option, length, take, drop, refl, ap, append_assoc, take-add, ◌-◌, arith}
use Rattle.std.proofs.lemmas.Grind.{common_steps}
use Rattle.std.specs.Prelude.{Some, None}
use Rattle.shelf_io.specs.Outside.{Appends}

pub Appends-trans : (a b c : Option (List ℕ)) (xs ys : List ℕ) → Appends a b xs → Appends b c ys → Appends a c (xs ++ ys)
Appends-trans None b c xs ys p q = rw (q, p) refl
Appends-trans (Some w) b c xs ys p q = rw (q, p) (ap Some (append_assoc w xs ys))

pub Appends-more : (a b c : Option (List ℕ)) (bytes : List ℕ) (i n : ℕ) → Appends a b (take i bytes) → Appends b c (take n (drop i bytes)) → Appends a c (take (i + n) bytes)
Appends-more a b c bytes i n p q = rw take-add (Appends-trans a b c _ _ p q)

-- the slice from i on
pub take-drop-all : (bytes : List ℕ) (i : ℕ) → take (length bytes - i) (drop i bytes) ≡ drop i bytes
take-drop-all bytes i = grind (arith, common_steps)

-- of the named text, where the shelf tells its texts, this much was read and that is left
pub record Gathered (held : Option (List ℕ → Option (List ℕ))) (name text : List ℕ) (left : Option (List ℕ)) : Type 0 where
  pub tells : (texts : List ℕ → Option (List ℕ)) → held ≡ Some texts → (rest : List ℕ) × (left ≡ Some rest) × (texts name ≡ Some (text ++ rest))
