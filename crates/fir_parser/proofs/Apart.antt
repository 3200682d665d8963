-- Texts that are none of others.
use Rattle.std.proofs.Common.{◌≡◌, ℕ, zero, suc, Bool, true, false, ◌&&◌, List, [], ◌∷◌, Contains, IsTrue, arith, refl, bytes_eq}
use Rattle.std.proofs.lemmas.Slice.Eq.{bytes_eq-Decides}
use Rattle.std.specs.Prelude.{not}
use Rattle.fir_parser.specs.Reading.{is_apart}

split : (other text : List ℕ) (b c : Bool) → bytes_eq other text ≡ b → IsTrue (not b && c) → (other ≡ text → ⊥) × IsTrue c
split other text true c e h = cc
split other text false c e h = ((λ same. let equal : bytes_eq other text ≡ true = (bytes_eq-Decides other text).1 same in cc), h)

pub apart_none : (text : List ℕ) (others : List (List ℕ)) → IsTrue (is_apart text others) → ¬ (Contains others text)
apart_none text [] h (k, l, e) = absurd (omega (arith, l))
apart_none text (other ∷ others) h (zero, l, e) = (split other text (bytes_eq other text) (is_apart text others) refl h).0 e
apart_none text (other ∷ others) h (suc k, l, e) = apart_none text others (split other text (bytes_eq other text) (is_apart text others) refl h).1 (k, omega (arith, l), e)
