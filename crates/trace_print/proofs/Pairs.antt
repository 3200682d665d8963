-- A walk over two lists side by side.
use Rattle.std.proofs.Common.{◌≡◌, ℕ, ◌+◌, ◌<◌, List, [], ◌∷◌, ◌++◌, length, take, get_or, min, zip, sym, ap, ap₂, ◌∙◌, arith, append-nil}
use Rattle.std.specs.List.{flat_map}
use Rattle.std.proofs.lemmas.Grind.{flat_map-append}
use Rattle.std.proofs.lemmas.List.{take_more, length-append}
use Rattle.std.proofs.lemmas.Slice.Zip.{length-zip, get_or-zip}
use Rattle.std.proofs.Math.Seq.{take-length}

-- one pair more
pair_more : {A B Y : Type 0} (ks : List A) (vs : List B) (yielded : List Y) (y : Y) (k : A) (v : B) → length yielded < length ks → length yielded < length vs
    → ((d : A) → k ≡ get_or ks (length yielded) d) → ((d : B) → v ≡ get_or vs (length yielded) d)
    → take (length (yielded ++ y ∷ [])) (zip ks vs) ≡ take (length yielded) (zip ks vs) ++ (k, v) ∷ []
pair_more ks vs yielded y k v below_ks below_vs is_k is_v =
    let below : length yielded < length (zip ks vs) = omega (arith, length-zip ks vs) in
    let one : length (yielded ++ y ∷ []) ≡ length yielded + 1 = length-append yielded (y ∷ []) in
    ap (λ n. take n (zip ks vs)) one ∙ take_more (zip ks vs) (length yielded) (k, v) below
    ∙ ap (λ z. take (length yielded) (zip ks vs) ++ z ∷ []) (get_or-zip ks vs (length yielded) (k, v) below_ks below_vs ∙ ap₂ (λ a b. (a, b)) (sym (is_k k)) (sym (is_v v)))

-- the lines of one pair more
pub lines_more : {A B Y : Type 0} (f : A × B → List ℕ) (ks : List A) (vs : List B) (yielded : List Y) (y : Y) (k : A) (v : B) (text after : List ℕ) → length yielded < length ks
    → length yielded < length vs → ((d : A) → k ≡ get_or ks (length yielded) d) → ((d : B) → v ≡ get_or vs (length yielded) d)
    → text ≡ flat_map f (take (length yielded) (zip ks vs)) → after ≡ text ++ f (k, v) → after ≡ flat_map f (take (length (yielded ++ y ∷ [])) (zip ks vs))
lines_more f ks vs yielded y k v text after below_ks below_vs is_k is_v h a =
    let pairs = take (length yielded) (zip ks vs) in
    a ∙ ap₂ (λ s t. s ++ t) h (sym (append-nil (f (k, v)))) ∙ sym (flat_map-append f pairs ((k, v) ∷ [])) ∙ ap (flat_map f) (sym (pair_more ks vs yielded y k v below_ks below_vs is_k is_v))

-- all pairs
pub all_pairs : {A B : Type 0} (ks : List A) (vs : List B) (n : ℕ) → n ≡ min (length ks) (length vs) → take n (zip ks vs) ≡ zip ks vs
all_pairs ks vs n h = ap (λ i. take i (zip ks vs)) (h ∙ sym (length-zip ks vs)) ∙ take-length (zip ks vs)
