use Rattle.std.proofs.Common.{◌≡◌, ℕ, zero, suc, [], ◌∷◌, ◌++◌, List, length, length-append, get_or, refl, ap, ◌∙◌, arith}
use Rattle.found_items.proofs.owned.none_owned.Goals as goal

empty_more : (rows : List (List ℕ)) → ((x : ℕ) → get_or rows x [] ≡ []) → (x : ℕ) → get_or (rows ++ [] ∷ []) x [] ≡ []
empty_more [] h zero = refl
empty_more [] h (suc x) = refl
empty_more (r ∷ rows) h zero = h 0
empty_more (r ∷ rows) h (suc x) = empty_more rows (λ y. h (suc y)) x

pub loop-preserved : goal.loop-preserved
loop-preserved c =
    let own = c.loop.own.items in
    let items = c.in_ok-push.ensures.items in
    let long = ap (λ (l : List (List ℕ)). length l) items in
    let both = length-append own (c.new.result ∷ []) in
    let counted = c.loop.invariant.counted in
    record {
      counted = omega (arith, long, both, counted);
      none = λ k. ap (λ l. get_or l k []) (items ∙ ap (λ r. own ++ r ∷ []) c.new.ensures) ∙ empty_more own c.loop.invariant.none k;
    }
