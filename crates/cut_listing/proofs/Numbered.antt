-- Items with their numbers, one more.
use Rattle.std.proofs.Common.{◌≡◌, ℕ, zero, suc, ◌+◌, ◌<◌, List, [], ◌∷◌, ◌++◌, length, take, get_or, refl, sym, subst, ap, ◌∙◌, arith}
use Rattle.std.specs.List.{zip, flat_map, range_with_len}
use Rattle.std.proofs.lemmas.List.{append-nil}
use Rattle.std.proofs.lemmas.Grind.{flat_map-append}
use Rattle.ground_net.specs.Cones.{numbered}

from_more : {A : Type 0} (a : ℕ) (items : List A) (i : ℕ) (d : A) → i < length items
    → take (suc i) (zip (range_with_len a (length items)) items) ≡ take i (zip (range_with_len a (length items)) items) ++ (a + i, get_or items i d) ∷ []
from_more a [] i d lt = absurd (omega arith)
from_more {A} a (x ∷ items) zero d lt =
    let z : a ≡ a + 0 = omega arith in
    let pair : ℕ → List (ℕ × A) = (λ n. (n, x) ∷ []) in
    ap pair z
from_more {A} a (x ∷ items) (suc i) d lt =
    let z : a + 1 + i ≡ a + suc i = omega arith in
    let pair : ℕ → List (ℕ × A) = (λ n. take i (zip (range_with_len (a + 1) (length items)) items) ++ (n, get_or items i d) ∷ []) in
    ap (λ l. (a, x) ∷ l) (from_more (a + 1) items i d (omega arith) ∙ ap pair z)

pub numbered_more : {A : Type 0} (items : List A) (i : ℕ) (d : A) → i < length items → take (i + 1) (numbered items) ≡ take i (numbered items) ++ (i, get_or items i d) ∷ []
numbered_more {A} items i d lt =
    let e : suc i ≡ i + 1 = omega arith in
    let z : 0 + i ≡ i = omega arith in
    let pair : ℕ → List (ℕ × A) = (λ n. take i (numbered items) ++ (n, get_or items i d) ∷ []) in
    subst (λ n. take n (numbered items) ≡ take i (numbered items) ++ (i, get_or items i d) ∷ []) e (from_more 0 items i d lt ∙ ap pair z)

all_of : {A : Type 0} (a : ℕ) (items : List A) → take (length items) (zip (range_with_len a (length items)) items) ≡ zip (range_with_len a (length items)) items
all_of a [] = refl
all_of a (x ∷ items) = ap (λ l. (a, x) ∷ l) (all_of (a + 1) items)

pub numbered_all : {A : Type 0} (items : List A) (n : ℕ) → n ≡ length items → take n (numbered items) ≡ numbered items
numbered_all items n e = ap (λ m. take m (numbered items)) e ∙ all_of 0 items

-- what is made of each, one more
pub lines_more : {A : Type 0} (f : ℕ → A → List ℕ) (items : List A) (i : ℕ) (x : A) (now before : List ℕ) → i < length items → x ≡ get_or items i x → before ≡ flat_map (λ both. f both.0 both.1) (take i (numbered items))
    → now ≡ before ++ f i x → now ≡ flat_map (λ both. f both.0 both.1) (take (i + 1) (numbered items))
lines_more {A} f items i x now before lt is h e =
    let line : ℕ × A → List ℕ = (λ both. f both.0 both.1) in
    let more = ap (flat_map line) (numbered_more items i x lt) ∙ flat_map-append line (take i (numbered items)) ((i, get_or items i x) ∷ []) in
    let last : f i x ≡ f i (get_or items i x) ++ [] = ap (f i) is ∙ sym (append-nil (f i (get_or items i x))) in
    e ∙ (ap (λ l. l ++ f i x) h ∙ (ap (λ l. flat_map line (take i (numbered items)) ++ l) last ∙ sym more))
