use Rattle.std.proofs.Common.{◌≡◌, ℕ, zero, suc, [], ◌∷◌, None, refl}
use Rattle.std.specs.List.{slice_get}
use Rattle.fir_tree.specs.LeafNames.{Texts, text_of}

-- a number without a text
pub no_text : (texts : Texts) (id : ℕ) → slice_get texts id ≡ None → text_of texts id ≡ []
no_text [] id h = refl
no_text (t ∷ ts) zero h = absurd cc
no_text (t ∷ ts) (suc id) h = no_text ts id h
