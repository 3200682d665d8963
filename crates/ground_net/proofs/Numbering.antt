-- Ranges of numbers, one longer.
use Rattle.std.proofs.Common.{◌≡◌, ℕ, zero, suc, ◌+◌, [], ◌∷◌, ◌++◌, Option, ap, ◌∙◌, subst, arith}
use Rattle.std.specs.Prelude.{filter_map}
use Rattle.std.specs.List.{range_with_len, cons_option}
use Rattle.std.proofs.lemmas.List.Elements.{filter_map-append}

range_suc : (a n : ℕ) → range_with_len a (suc n) ≡ range_with_len a n ++ (a + n) ∷ []
range_suc a zero = let e : a ≡ a + 0 = omega arith in ap (λ x. x ∷ []) e
range_suc a (suc n) =
    let e : a + 1 + n ≡ a + suc n = omega arith in
    ap (λ xs. a ∷ xs) (range_suc (a + 1) n ∙ ap (λ x. range_with_len (a + 1) n ++ x ∷ []) e)

pub range_more : (n : ℕ) → range_with_len 0 (n + 1) ≡ range_with_len 0 n ++ n ∷ []
range_more n =
    let e : suc n ≡ n + 1 = omega arith in
    let z : 0 + n ≡ n = omega arith in
    subst (λ m. range_with_len 0 m ≡ range_with_len 0 n ++ n ∷ []) e (range_suc 0 n ∙ ap (λ x. range_with_len 0 n ++ x ∷ []) z)

pub filter_map_more : {Y : Type 0} (h : ℕ → Option Y) (n : ℕ) → filter_map h (range_with_len 0 (n + 1)) ≡ filter_map h (range_with_len 0 n) ++ cons_option (h n) []
filter_map_more h n = ap (filter_map h) (range_more n) ∙ filter_map-append h (range_with_len 0 n) (n ∷ [])
