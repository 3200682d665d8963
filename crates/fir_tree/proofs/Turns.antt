-- One more of walks in order.
use Rattle.std.proofs.Common.{◌≡◌, ℕ, ◌+◌, ◌<◌, List, [], ◌∷◌, ◌++◌, map, length, take, get_or, sym, ap, ◌∙◌, subst}
use Rattle.std.proofs.lemmas.List.{map-append, take_more}
use Rattle.fir_tree.specs.Turns.{in_order}

-- It doesn't matter which two of three walks are put together first, nor whether nothing stands in front or behind.
pub record Turns {W : Type 0} (before : W → W → W) (nothing : W) : Type 0 where
  pub alone : (walk : W) → before nothing walk ≡ before walk nothing
  pub either : (first second third : W) → before (before first second) third ≡ before first (before second third)

-- the last of walks in order
pub in_order-push : {W : Type 0} {before : W → W → W} {nothing : W} → Turns before nothing → (walks : List W) (last : W)
    → in_order before nothing (walks ++ last ∷ []) ≡ before (in_order before nothing walks) last
in_order-push turns [] last = sym (turns.alone last)
in_order-push {W} {before} {nothing} turns (walk ∷ walks) last =
    ap (before walk) (in_order-push turns walks last) ∙ sym (turns.either walk (in_order before nothing walks) last)

-- A step of a loop through things that are walked in order: `Walks walk old new` says that the walk was made from one state to another.
pub walks_push : {W S X : Type 0} {before : W → W → W} {nothing : W} (Walks : W → S → S → Type 0) → Turns before nothing
    → ((p q : W) (a b c : S) → Walks p a b → Walks q b c → Walks (before p q) a c)
    → (part : X → W) (xs : List X) (i : ℕ) (x : X) {a b c : S} → i < length xs → x ≡ get_or xs i x
    → Walks (in_order before nothing (map part (take i xs))) a b → Walks (part x) b c → Walks (in_order before nothing (map part (take (i + 1) xs))) a c
walks_push {W} {S} {X} {before} {nothing} Walks turns both part xs i x {a} {b} {c} lt is h k =
    let step : map part (take (i + 1) xs) ≡ map part (take i xs) ++ part x ∷ []
    = ap (map part) (take_more xs i x lt) ∙ map-append part (take i xs) (get_or xs i x ∷ []) ∙ ap (λ y. map part (take i xs) ++ part y ∷ []) (sym is) in
    subst (λ walks. Walks (in_order before nothing walks) a c) (sym step)
    (subst (λ walk. Walks walk a c) (sym (in_order-push turns (map part (take i xs)) (part x))) (both (in_order before nothing (map part (take i xs))) (part x) a b c h k))
