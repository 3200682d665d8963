-- Lists that stand side by side.
use Rattle.std.proofs.Common.{◌≡◌, ℕ, suc, ◌<◌, List, [], ◌∷◌, map, length, get_or, slice_get, Some, refl, sym, ap, ap₂, ◌∙◌, arith}
use Rattle.std.proofs.lemmas.Option.{slice_get-get_or}

-- two lists of one length are mapped to the same where their items are, place by place
pub maps_same : {A B C : Type 0} (f : A → C) (g : B → C) (xs : List A) (ys : List B) → length ys ≡ length xs
    → ((j : ℕ) (x : A) (y : B) → slice_get xs j ≡ Some x → slice_get ys j ≡ Some y → f x ≡ g y) → map f xs ≡ map g ys
maps_same f g [] [] l h = refl
maps_same f g [] (y ∷ ys) l h = absurd (omega (arith, l))
maps_same f g (x ∷ xs) [] l h = absurd (omega (arith, l))
maps_same f g (x ∷ xs) (y ∷ ys) l h = ap₂ (λ a more. a ∷ more) (h 0 x y refl refl) (maps_same f g xs ys (omega (arith, l)) (λ j. h (suc j)))

-- what a loop takes stands at its place
pub item_there : {A : Type 0} (xs ys : List A) (k : ℕ) (x : A) → ys ≡ xs → k < length ys → x ≡ get_or ys k x → slice_get xs k ≡ Some x
item_there xs ys k x e h is = ap (λ l. slice_get l k) (sym e) ∙ (slice_get-get_or ys k x h ∙ ap Some (sym is))
