-- What stands behind paths, summed without the size.
use Rattle.std.proofs.Common.{◌≡◌, ℕ, suc, ◌+◌, ◌*◌, List, [], ◌∷◌, ◌++◌, map, length, sum, refl, sym, ap, ap₂, ◌∙◌, arith}
use Rattle.std.specs.List.{flat_map}
use Rattle.std.proofs.lemmas.Grind.{common_steps}
use Rattle.std.proofs.lemmas.List.{map-append}
use Rattle.std.proofs.lemmas.List.Sums.{sum_by-cons, sum_by-append}
use Rattle.fir_tree.specs.declared.circuit.Module.{Module}
use Rattle.fir_tree.specs.LeafNames.{Texts, text_of}
use Rattle.size_check.specs.declared.sums.Sums.{Sums}
use Rattle.size_check.specs.Measures.{plus}
use Rattle.size_check.specs.Owns.{module_own}
use Rattle.size_check.specs.Standings.{Standing, standings, of_call, behind, before, at_path, total_of, calls_in}
use Rattle.size_laws.proofs.Sums.{unsized, sums_same, plus_later, nothing_plus, prefixed, prefixed_nothing, prefixed_plus, prefixed_none}

abbrev pub found : Texts → List Module → List Standing → Sums
found texts modules list = unsized (total_of texts modules list).sums

abbrev pub letters : Texts → ℕ → ℕ
letters texts name = length (text_of texts name) + 1

pub found-append : (texts : Texts) (modules : List Module) (xs ys : List Standing) → found texts modules (xs ++ ys) ≡ plus (found texts modules xs) (found texts modules ys)
found-append texts modules [] ys = sym (nothing_plus (found texts modules ys))
found-append texts modules (x ∷ xs) ys =
    ap (plus (unsized (at_path texts x.path (module_own texts modules x.holder)).sums)) (found-append texts modules xs ys)
    ∙ sym (plus_later (unsized (at_path texts x.path (module_own texts modules x.holder)).sums) (found texts modules xs) (found texts modules ys))

before_more : (texts : Texts) (name : ℕ) (path : List ℕ) → before texts (name ∷ path) ≡ letters texts name + before texts path
before_more texts name path = sum_by-cons (λ (x : ℕ). x) (letters texts name) (map (letters texts) path)

pub before_last : (texts : Texts) (path : List ℕ) (name : ℕ) → before texts (path ++ name ∷ []) ≡ before texts path + letters texts name
before_last texts path name =
    ap sum (map-append (letters texts) path (name ∷ [])) ∙ sum_by-append (λ (x : ℕ). x) (map (letters texts) path) (letters texts name ∷ [])
    ∙ ap (λ n. before texts path + n) (sum_by-cons (λ (x : ℕ). x) (letters texts name) [] ∙ none (letters texts name))
  where
    none : (n : ℕ) → n + 0 ≡ n
    none n = omega arith

one_behind : (texts : Texts) (modules : List Module) (name : ℕ) (s : Standing)
    → unsized (at_path texts (name ∷ s.path) (module_own texts modules s.holder)).sums ≡ prefixed (letters texts name) (unsized (at_path texts s.path (module_own texts modules s.holder)).sums)
one_behind texts modules name s =
    let o = module_own texts modules s.holder in
    sums_same refl refl refl (ap (λ k. o.bytes + o.names * k) (before_more texts name s.path) ∙ spread o.bytes o.names (letters texts name) (before texts s.path)) refl
  where
    spread : (b n l k : ℕ) → b + n * (l + k) ≡ b + n * k + n * l
    spread b n l k = grind (arith, common_steps)

pub found_behind : (texts : Texts) (modules : List Module) (name : ℕ) (list : List Standing) → found texts modules (map (behind name) list) ≡ prefixed (letters texts name) (found texts modules list)
found_behind texts modules name [] = sym (prefixed_nothing (letters texts name))
found_behind texts modules name (s ∷ rest) =
    ap₂ plus (one_behind texts modules name s) (found_behind texts modules name rest)
    ∙ sym (prefixed_plus (letters texts name) (unsized (at_path texts s.path (module_own texts modules s.holder)).sums) (found texts modules rest))

pub found_next : (texts : Texts) (modules : List Module) (d : ℕ) (m : Module)
    → found texts modules (standings modules (suc d) m) ≡ plus (unsized (module_own texts modules m)) (found texts modules (flat_map (of_call modules (standings modules d)) (calls_in m)))
unfolding standings
found_next texts modules d m = ap (λ a. plus a (found texts modules (flat_map (of_call modules (standings modules d)) (calls_in m)))) (prefixed_none (unsized (module_own texts modules m)))
