-- How many leaves a run has.
use Rattle.std.proofs.Common.{◌≡◌, ℕ, suc, ◌+◌, ◌<◌, ◌≤◌, List, [], ◌∷◌, ◌++◌, map, length, take, get_or, refl, sym, ap, ◌∙◌, arith}
use Rattle.std.proofs.lemmas.List.{take_more, length-map}
use Rattle.std.proofs.lemmas.List.Concat.{flat_map-cons}
use Rattle.bit_words.specs.declared.value.Value.{Value}
use Rattle.fir_types.specs.Leaves.{leaves}
use Rattle.fir_types.specs.declared.leaf.TypeLeaf.{TypeLeaf}
use Rattle.fir_meaning.specs.Components.{Design}
use Rattle.fir_meaning.specs.Values.{Valuation}
use Rattle.fir_meaning.specs.States.{State, Inputs}
use Rattle.settling_laws.specs.Sweeps.{sweep, swept}
use Rattle.plain_values.specs.declared.site.Site.{Site}
use Rattle.plain_values.specs.Sites.{valuation_of}
use Rattle.plain_cycle.specs.declared.declarations.Declaration.{Declaration}
use Rattle.plain_cycle.specs.Layouts.{Located, IsLayout, site_of, flat_leaves, all_flat}
use Rattle.plain_cycle.proofs.Lists.{take_past}

abbrev pub leaf_count : List Site → ℕ
leaf_count [] = 0
leaf_count (site ∷ sites) = length site.leaves + leaf_count sites

counted : (xs ys : List Site) → leaf_count (xs ++ ys) ≡ leaf_count xs + leaf_count ys
counted [] ys = omega arith
counted (x ∷ xs) ys = let rest = counted xs ys in omega (arith, rest)

pub count_more : (sites : List Site) (k : ℕ) (site : Site) → k < length sites → site ≡ get_or sites k site → leaf_count (take (k + 1) sites) ≡ leaf_count (take k sites) + length site.leaves
count_more sites k site h is =
    ap leaf_count (take_more sites k site h ∙ ap (λ s. take k sites ++ s ∷ []) (sym is)) ∙ (counted (take k sites) (site ∷ []) ∙ omega arith)

pub site_more : (sites : List Site) (k : ℕ) (site : Site) (ls : List TypeLeaf) → k < length sites → site ≡ get_or sites k site → ls ≡ site.leaves → leaf_count (take k sites) + length ls ≡ leaf_count (take (k + 1) sites)
site_more sites k site ls h is same = ap (λ l. leaf_count (take k sites) + length l) same ∙ sym (count_more sites k site h is)

long : {A : Type 0} (xs ys : List A) → length (xs ++ ys) ≡ length xs + length ys
long [] ys = omega arith
long (x ∷ xs) ys = let rest = long xs ys in omega (arith, rest)

pub all_counted : (all : List Located) → leaf_count (map site_of all) ≡ length (all_flat all)
all_counted [] = refl
all_counted (x ∷ all) =
    let own : length (flat_leaves x) ≡ length (leaves x.c.typ) = length-map (leaves x.c.typ) _ in
    let both = long (flat_leaves x) (all_flat all) in
    let rest = all_counted all in
    omega (arith, own, both, rest) ∙ sym (ap length (flat_map-cons flat_leaves x all))

pub all_there : (design : Design) (sites : List Site) (declared : List Declaration) (layout : IsLayout design sites declared) (k : ℕ) → length sites ≤ k → leaf_count (take k sites) ≡ length (all_flat layout.all)
all_there design sites declared layout k past = ap leaf_count (take_past sites k past ∙ layout.lists.sites) ∙ all_counted layout.all

module _ (design : Design) (s : State) (given : Inputs) where
  pub none_swept : (sites : List Site) (values : List (List Value)) → values ≡ [] → valuation_of sites values ≡ swept design s given (leaf_count (take 0 sites))
  none_swept [] values e = ap (valuation_of []) e
  none_swept (site ∷ sites) values e = ap (valuation_of (site ∷ sites)) e

  pub once_more : (rho after : Valuation) (n k : ℕ) → after ≡ sweep design s given rho → rho ≡ swept design s given (n + k) → after ≡ swept design s given (n + (k + 1))
  once_more rho after n k e before =
      let next : suc (n + k) ≡ n + (k + 1) = omega arith in
      e ∙ (ap (sweep design s given) before ∙ ap (swept design s given) next)
