-- One line more.
use Rattle.std.proofs.Common.{◌≡◌, ℕ, ◌+◌, List, [], ◌∷◌, ◌++◌, sym, ap, ◌∙◌}
use Rattle.std.specs.List.{flat_map, range_with_len}
use Rattle.std.proofs.lemmas.List.{map-id, append-nil, append_assoc}
use Rattle.std.proofs.lemmas.List.Concat.{flat_map-append}
use Rattle.std.proofs.lemmas.List.FromFn.{map-range_with_len_more}

range_more : (a n m : ℕ) → a + n ≡ m → range_with_len a (n + 1) ≡ range_with_len a n ++ m ∷ []
range_more a n m e =
    sym (map-id (range_with_len a (n + 1))) ∙ map-range_with_len_more (λ (x : ℕ). x) a n m e ∙ ap (λ xs. xs ++ m ∷ []) (map-id (range_with_len a n))

pub one_more : (f : ℕ → List ℕ) (out : List ℕ) (a n m : ℕ) → a + n ≡ m
    → (out ++ flat_map f (range_with_len a n)) ++ f m ≡ out ++ flat_map f (range_with_len a (n + 1))
one_more f out a n m e =
    append_assoc out (flat_map f (range_with_len a n)) (f m)
    ∙ ap (λ t. out ++ t)
    (sym
    (ap (flat_map f) (range_more a n m e)
    ∙ flat_map-append f (range_with_len a n) (m ∷ [])
    ∙ ap (λ t. flat_map f (range_with_len a n) ++ t) (append-nil (f m))))
