-- Leaves by their numbers.
use Rattle.std.proofs.Common.{◌≡◌, ℕ, zero, suc, ◌+◌, ◌-◌, ◌<◌, List, [], ◌∷◌, ◌++◌, map, length, drop, get_or, slice_get, Some, None, sym, ap, ◌∙◌, arith}
use Rattle.std.specs.Prelude.{option_map}
use Rattle.std.proofs.Math.Seq.{drop-cons}
use Rattle.std.proofs.lemmas.List.{length-map}
use Rattle.std.proofs.lemmas.List.Concat.{flat_map-cons}
use Rattle.std.proofs.lemmas.Option.{slice_get-map}
use Rattle.fir_types.specs.declared.leaf.TypeLeaf.{TypeLeaf}
use Rattle.fir_meaning.proofs.Tracking.{none_some}
use Rattle.plain_values.specs.declared.site.Site.{Site}
use Rattle.plain_run.specs.Leaves.{leaf_at, leaves_of_site, leaves_of_sites}

in_front : {A : Type 0} (xs ys : List A) (k : ℕ) (x : A) → slice_get xs k ≡ Some x → slice_get (xs ++ ys) k ≡ Some x
in_front [] ys k x e = absurd (none_some e)
in_front (z ∷ xs) ys zero x e = e
in_front (z ∷ xs) ys (suc k) x e = in_front xs ys k x e

behind : {A : Type 0} (xs ys : List A) (k : ℕ) → slice_get xs k ≡ None → slice_get (xs ++ ys) k ≡ slice_get ys (k - length xs)
behind [] ys k e = let same : k ≡ k - 0 = omega arith in ap (slice_get ys) same
behind (z ∷ xs) ys zero e = absurd (none_some (sym e))
behind (z ∷ xs) ys (suc k) e =
    let less : k - length xs ≡ suc k - suc (length xs) = omega arith in
    behind xs ys k e ∙ ap (slice_get ys) less

module _ (sites : List Site) (k : ℕ) (site : Site) (below : k < length sites) (is : site ≡ get_or sites k site) (ls : List TypeLeaf) (own : map (leaf_at site) ls ≡ leaves_of_site site) (left : ℕ) where
  opened : leaves_of_sites (drop k sites) ≡ map (leaf_at site) ls ++ leaves_of_sites (drop (k + 1) sites)
  opened =
      let more : suc k ≡ k + 1 = omega arith in
      ap leaves_of_sites (drop-cons sites k site below ∙ ap (λ s. s ∷ drop (suc k) sites) (sym is))
      ∙ (flat_map-cons leaves_of_site site (drop (suc k) sites)
      ∙ (ap (λ l. l ++ leaves_of_sites (drop (suc k) sites)) (sym own) ∙ ap (λ n. map (leaf_at site) ls ++ leaves_of_sites (drop n sites)) more))

  pub found_here : (leaf : TypeLeaf) → slice_get ls left ≡ Some leaf → slice_get (leaves_of_sites (drop k sites)) left ≡ Some (leaf_at site leaf)
  found_here leaf e =
      ap (λ l. slice_get l left) opened ∙ in_front (map (leaf_at site) ls) (leaves_of_sites (drop (k + 1) sites)) left (leaf_at site leaf) (slice_get-map (leaf_at site) ls left ∙ ap (option_map (leaf_at site)) e)

  pub found_later : slice_get ls left ≡ None → slice_get (leaves_of_sites (drop k sites)) left ≡ slice_get (leaves_of_sites (drop (k + 1) sites)) (left - length ls)
  found_later e =
      ap (λ l. slice_get l left) opened
      ∙ (behind (map (leaf_at site) ls) (leaves_of_sites (drop (k + 1) sites)) left (slice_get-map (leaf_at site) ls left ∙ ap (option_map (leaf_at site)) e)
      ∙ ap (λ n. slice_get (leaves_of_sites (drop (k + 1) sites)) (left - n)) (length-map ls (leaf_at site)))
