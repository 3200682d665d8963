-- What several lists of publications leave at a word of which one of them alone tells.
use Rattle.std.proofs.Common.{◌≡◌, ◌≢◌, ℕ, zero, suc, ◌<◌, List, [], ◌∷◌, ◌++◌, map, length, slice_get, slice_index, Option, Some, None, refl, sym, subst, ap, ap₂, ◌∙◌, arith}
use Rattle.std.specs.Prelude.{Contains}
use Rattle.std.specs.List.{flat_map, filter_map, cons_option}
use Rattle.std.proofs.lemmas.List.Concat.{flat_map-cons}
use Rattle.std.proofs.lemmas.Option.{slice_get-get_or}
use mathlib.Core.Option.{some}
use lib.ListN.{get_elem?}
use Rattle.phase_core.specs.declared.model.Publication.{Publication}
use Rattle.phase_core.specs.Script.{published, published_all}
use Rattle.phase_core.proofs.Lists.{at_below, at-get_or}
use Rattle.phase_core.proofs.Values.{length-published, published-append, published_same, published_silent}
use Rattle.partition_code.proofs.Blocks.{some_same, none_some}
use Rattle.partition_code.proofs.Lists.{Each, each_flat, among, from_filter_map, Distinct}

-- nothing is told of the word
abbrev pub Silent : ℕ → List Publication → Type 0
Silent i ps = Each (λ (p : Publication). p.word ≢ i) ps

pub silent : (ps : List Publication) (ws : List ℕ) (i : ℕ) → Silent i ps → slice_index (published ps ws) i ≡ slice_index ws i
silent ps ws i h = published_silent ps ws i (λ k p e. h k p (slice_get-get_or ps k p (at_below ps k p e) ∙ ap Some (at-get_or ps k p p e)))

module _ {A : Type 0} (f : A → List Publication) where
  pub in_two : (a : A) (xs : List A) (ws : List ℕ) → published (flat_map f (a ∷ xs)) ws ≡ published (flat_map f xs) (published (f a) ws)
  in_two a xs ws = ap (λ ps. published ps ws) (flat_map-cons f a xs) ∙ published-append (f a) (flat_map f xs) ws

  pub only_one : (i : ℕ) (xs : List A) (k : ℕ) (x : A) → slice_get xs k ≡ Some x → ((j : ℕ) (y : A) → slice_get xs j ≡ Some y → j ≢ k → Silent i (f y)) → (ws : List ℕ)
      → slice_index (published (flat_map f xs) ws) i ≡ slice_index (published (f x) ws) i
  only_one i [] k x e others ws = absurd (none_some e)
  only_one i (a ∷ xs) zero x e others ws =
      ap (λ l. slice_index l i) (in_two a xs ws)
      ∙ (silent (flat_map f xs) (published (f a) ws) i (each_flat (λ (p : Publication). p.word ≢ i) f xs (λ j y g. others (suc j) y g (λ z. omega (arith, z))))
      ∙ ap (λ y. slice_index (published (f y) ws) i) (some_same e))
  only_one i (a ∷ xs) (suc k) x e others ws =
      ap (λ l. slice_index l i) (in_two a xs ws)
      ∙ (only_one i xs k x e (λ j y g n. others (suc j) y g (λ z. n (omega (arith, z)))) (published (f a) ws)
      ∙ published_same (f x) (published (f a) ws) ws i (length-published (f a) ws) (silent (f a) ws i (others 0 a refl (λ z. omega (arith, z)))))

  pub all_as_one : (xs : List A) (ws : List ℕ) → published_all (map f xs) ws ≡ published (flat_map f xs) ws
  all_as_one [] ws = refl
  all_as_one (a ∷ xs) ws = all_as_one xs (published (f a) ws) ∙ sym (in_two a xs ws)

-- what stands once among the numbers stands once among what they name
kept_step : {A B : Type 0} (f : A → Option B) (xs : List A) (y : B) (o : Option B) → (o ≡ Some y → (k : ℕ) → slice_get (filter_map f xs) k ≡ Some y → ⊥)
    → ((j k : ℕ) → slice_get (filter_map f xs) j ≡ Some y → slice_get (filter_map f xs) k ≡ Some y → j ≡ k)
    → (j k : ℕ) → slice_get (cons_option o (filter_map f xs)) j ≡ Some y → slice_get (cons_option o (filter_map f xs)) k ≡ Some y → j ≡ k
kept_step f xs y None again rest j k e h = rest j k e h
kept_step f xs y (Some z) again rest zero zero e h = refl
kept_step f xs y (Some z) again rest zero (suc k) e h = absurd (again e k h)
kept_step f xs y (Some z) again rest (suc j) zero e h = absurd (again h j e)
kept_step f xs y (Some z) again rest (suc j) (suc k) e h = ap suc (rest j k e h)

pub once_kept : {A B : Type 0} (f : A → Option B) (xs : List A) (y : B) → Distinct xs → ((a b : A) → f a ≡ Some y → f b ≡ Some y → a ≡ b)
    → (j k : ℕ) → slice_get (filter_map f xs) j ≡ Some y → slice_get (filter_map f xs) k ≡ Some y → j ≡ k
once_kept f [] y d one j k e h = absurd (none_some e)
once_kept f (x ∷ xs) y d one j k e h = kept_step f xs y (f x)
    (λ g n at. let c = from_filter_map f xs y (among (filter_map f xs) n y at) in d.0 (subst (Contains xs) (sym (one x c.0 g c.2)) c.1))
    (once_kept f xs y d.1 one) j k e h

-- lists of numbers that are the same place by place
pub same_list : (xs ys : List ℕ) → length xs ≡ length ys → ((i : ℕ) → i < length xs → slice_index xs i ≡ slice_index ys i) → xs ≡ ys
same_list [] [] e h = refl
same_list [] (y ∷ ys) e h = absurd (omega (arith, e))
same_list (x ∷ xs) [] e h = absurd (omega (arith, e))
same_list (x ∷ xs) (y ∷ ys) e h = ap₂ (λ n ns. n ∷ ns) (h 0 (omega arith)) (same_list xs ys (omega (arith, e)) (λ i lt. h (suc i) (omega (arith, lt))))
