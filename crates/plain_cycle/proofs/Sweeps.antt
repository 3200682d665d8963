-- A sweep, component by component.
use Rattle.std.proofs.Common.{◌≡◌, ℕ, ◌+◌, ◌<◌, ◌≤◌, min, List, [], ◌∷◌, ◌++◌, map, length, take, get_or, ℤ, sym, ap, ap₂, ◌∙◌, arith}
use Rattle.std.proofs.lemmas.List.{map-append, take_more}
use Rattle.bit_words.specs.declared.value.Value.{Value}
use Rattle.bit_words.specs.Values.{integer_of}
use Rattle.fir_types.specs.declared.leaf.TypeLeaf.{TypeLeaf}
use Rattle.fir_types.specs.Leaves.{leaves}
use Rattle.fir_meaning.specs.Components.{Design}
use Rattle.fir_meaning.specs.Values.{Valuation}
use Rattle.fir_meaning.specs.States.{State, Inputs}
use Rattle.plain_values.specs.declared.site.Site.{Site}
use Rattle.plain_values.specs.Sites.{valuation_of}
use Rattle.settling_laws.specs.Sweeps.{asked, sweep}
use Rattle.plain_cycle.specs.declared.declarations.Declaration.{Declaration}
use Rattle.plain_cycle.specs.Layouts.{Located, site_of, AreAll, IsLayout}
use Rattle.plain_cycle.proofs.Lists.{take_past}
use Rattle.plain_cycle.proofs.Valuing.{values_told}
use Rattle.plain_cycle.specs.declared.run.Part.{Part}
use Rattle.plain_cycle.specs.Runs.{IsPart}
use Rattle.plain_cycle.proofs.Parts.{part_there, so_many_sites, so_many_declared}

module _ (design : Design) (s : State) (given : Inputs) (rho : Valuation) where
  -- what is asked in the leaves of a component
  abbrev pub asked_at : Located → List ℤ
  asked_at x = map (asked design s given rho x.path (x.m, x.c)) (leaves x.c.typ)

  pub sweep_told : (all : List Located) → AreAll design all → (sites : List Site) → sites ≡ map site_of all → (values : List (List Value)) → map (map integer_of) values ≡ map asked_at all
      → valuation_of sites values ≡ sweep design s given rho
  sweep_told all are sites is values e = λ i path name way. (ap (λ l. valuation_of l values path name way) is ∙ values_told design all are (asked design s given rho) values e path name way) i

  pub asked_more : (all : List Located) (k : ℕ) (x : Located) (before after : List (List Value)) (vs : List Value) → k < length all → x ≡ get_or all k x → after ≡ before ++ vs ∷ []
      → map integer_of vs ≡ asked_at x → map (map integer_of) before ≡ map asked_at (take k all) → map (map integer_of) after ≡ map asked_at (take (k + 1) all)
  asked_more all k x before after vs below is more one old =
      ap (map (map integer_of)) more ∙ (map-append (map integer_of) before (vs ∷ []) ∙ (ap₂ (λ l v. l ++ v ∷ []) old one
      ∙ sym (ap (map asked_at) (take_more all k x below ∙ ap (λ y. take k all ++ y ∷ []) (sym is)) ∙ map-append asked_at (take k all) (x ∷ []))))

  -- one component more of a layout
  pub swept_more : {part : Part} (sites : List Site) (declared : List Declaration) (layout : IsLayout design sites declared) (k : ℕ) (before after : List (List Value)) (vs : List Value) → k < length sites
      → part.site.now ≡ get_or sites k part.site.now → part.declaration ≡ get_or declared k part.declaration → after ≡ before ++ vs ∷ [] → ((x : Located) → IsPart design x part → map integer_of vs ≡ asked_at x)
      → map (map integer_of) before ≡ map asked_at (take k layout.all) → map (map integer_of) after ≡ map asked_at (take (k + 1) layout.all)
  swept_more {part = part} sites declared layout k before after vs h site declaration more one old =
      let y = part_there design sites declared layout k part h site declaration in
      asked_more layout.all k y.0 before after vs y.1.below y.1.at more (one y.0 y.1.is) old

  pub swept_all : (sites : List Site) (declared : List Declaration) (layout : IsLayout design sites declared) (k : ℕ) (values : List (List Value)) → min (length sites) (length declared) ≤ k
      → map (map integer_of) values ≡ map asked_at (take k layout.all) → valuation_of sites values ≡ sweep design s given rho
  swept_all sites declared layout k values past e =
      sweep_told layout.all layout.are sites layout.lists.sites values
      (e ∙ ap (map asked_at) (take_past layout.all k (omega (arith, past, so_many_sites design sites declared layout, so_many_declared design sites declared layout))))

-- one leaf more
pub leaf_more : (f : TypeLeaf → ℤ) (ls : List TypeLeaf) (k : ℕ) (leaf : TypeLeaf) (before after : List Value) (v : Value) → k < length ls → leaf ≡ get_or ls k leaf → after ≡ before ++ v ∷ []
    → integer_of v ≡ f leaf → map integer_of before ≡ map f (take k ls) → map integer_of after ≡ map f (take (k + 1) ls)
leaf_more f ls k leaf before after v below is more one old =
    ap (map integer_of) more ∙ (map-append integer_of before (v ∷ []) ∙ (ap₂ (λ l n. l ++ n ∷ []) old one
    ∙ sym (ap (map f) (take_more ls k leaf below ∙ ap (λ y. take k ls ++ y ∷ []) (sym is)) ∙ map-append f (take k ls) (leaf ∷ []))))

pub all_leaves : (f : TypeLeaf → ℤ) (ls all : List TypeLeaf) (k : ℕ) (values : List Value) → length ls ≤ k → ls ≡ all → map integer_of values ≡ map f (take k ls) → map integer_of values ≡ map f all
all_leaves f ls all k values past is e = e ∙ (ap (map f) (take_past ls k past) ∙ ap (map f) is)
