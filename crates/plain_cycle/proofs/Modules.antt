-- The module of a name and its declarations.
use Rattle.std.proofs.Common.{◌≡◌, ℕ, zero, suc, ◌+◌, ◌<◌, ◌≤◌, ◌==◌, min, true, false, cond, List, [], ◌∷◌, ◌++◌, map, zip, length, take, drop, get_or, Option, Some, None, refl, sym, ap, ap₂, ◌∙◌, arith, append-nil, append_assoc}
use Rattle.std.specs.Prelude.{find, option_map}
use Rattle.std.specs.List.{flat_map}
use Rattle.std.proofs.lemmas.List.{length-map, map-append}
use Rattle.std.proofs.lemmas.List.Concat.{flat_map-cons}
use Rattle.std.proofs.lemmas.List.Folds.{flat_map-map}
use Rattle.std.proofs.lemmas.Grind.{flat_map-append}
use Rattle.fir_types.specs.declared.fir_type.FirType.{FirType}
use Rattle.fir_tree.specs.declared.circuit.Module.{Module}
use Rattle.fir_meaning.specs.Components as tree
use Rattle.fir_meaning.specs.Components.{TypedModule, Component, declarations_of, with_types, target_in}
use Rattle.fir_meaning.proofs.Tracking.{none_some}
use Rattle.fir_names.proofs.Graphs.{some_same}
use Rattle.circuit_laws.specs.Designs.{component_of}
use Rattle.plain_cycle.proofs.Lists.{drop_there, drop_past, zip_mapped, zip_mapped_more}
use Rattle.plain_cycle.specs.declared.declarations.Declaration.{Declaration}
use Rattle.plain_cycle.specs.Held.{Kept, kept_of, held, held_sort}
use Rattle.plain_cycle.specs.Parts.{bare, bares}
use Rattle.plain_cycle.specs.Places.{Stand, stand_behind, stands_in}
use Rattle.plain_cycle.specs.Layouts.{site_with, site_of, kept_at, located_in}

-- the first module of a name among these
abbrev pub named_among : ℕ → List Module → List FirType → Option TypedModule
named_among name modules types = find (λ m. m.name == name) (with_types modules types)

abbrev made : Module → List FirType → TypedModule
made x types = record { name = x.name.id; components = map component_of (zip (declarations_of x) types) }

pub bares_made : (ds : List tree.Declaration) (ts : List FirType) → map bare (map component_of (zip ds ts)) ≡ zip (map kept_of ds) ts
bares_made [] ts = refl
bares_made (d ∷ ds) [] = refl
bares_made (d ∷ ds) (t ∷ ts) = ap (λ l. (kept_of d, t) ∷ l) (bares_made ds ts)

named_next : (name : ℕ) (modules : List Module) (types : List FirType) (k : ℕ) (x : Module) → k < length modules → x ≡ get_or modules k x
    → named_among name (drop k modules) types ≡ cond (x.name.id == name) (Some (made x types)) (named_among name (drop (k + 1) modules) (drop (length (declarations_of x)) types))
named_next name modules types k x below is = ap (λ l. named_among name l types) (drop_there modules k x below is)

counted : (x : Module) (ds : List Declaration) → map held ds ≡ map kept_of (declarations_of x) → length ds ≡ length (declarations_of x)
counted x ds e = sym (length-map ds held) ∙ ap length e ∙ length-map (declarations_of x) kept_of

pub named_later : (name : ℕ) (modules : List Module) (types rest : List FirType) (k : ℕ) (x : Module) (ds : List Declaration) (n : ℕ) (found : Option TypedModule) → k < length modules → x ≡ get_or modules k x
    → map held ds ≡ map kept_of (declarations_of x) → n ≡ length ds → rest ≡ drop n types → (x.name.id == name) ≡ false
    → named_among name (drop k modules) types ≡ found → named_among name (drop (k + 1) modules) rest ≡ found
named_later name modules types rest k x ds n found below is e count after other f =
    ap (named_among name (drop (k + 1) modules)) (after ∙ ap (λ j. drop j types) (count ∙ counted x ds e))
    ∙ (sym (named_next name modules types k x below is ∙ ap (λ b. cond b (Some (made x types)) (named_among name (drop (k + 1) modules) (drop (length (declarations_of x)) types))) other) ∙ f)

pub named_here : (name : ℕ) (modules : List Module) (types : List FirType) (k : ℕ) (x : Module) (ds : List Declaration) (found : Option TypedModule) → k < length modules → x ≡ get_or modules k x
    → map held ds ≡ map kept_of (declarations_of x) → (x.name.id == name) ≡ true → named_among name (drop k modules) types ≡ found → Some (zip (map held ds) types) ≡ option_map bares found
named_here name modules types k x ds found below is e same f =
    ap (λ l. Some (zip l types)) e ∙ (ap Some (sym (bares_made (declarations_of x) types))
    ∙ ap (option_map bares) (sym (named_next name modules types k x below is ∙ ap (λ b. cond b (Some (made x types)) (named_among name (drop (k + 1) modules) (drop (length (declarations_of x)) types))) same) ∙ f))

pub named_none : (name : ℕ) (modules : List Module) (types : List FirType) (k : ℕ) (found : Option TypedModule) → length modules ≤ k → named_among name (drop k modules) types ≡ found → None ≡ option_map bares found
named_none name modules types k found past f = ap (option_map bares) (sym (ap (λ l. named_among name l types) (drop_past modules k past)) ∙ f)

-- What stands behind the components of a module, and where they stand, from what is held of them

abbrev pub bare_stands : List ℕ → Kept × FirType → List Stand
bare_stands path both = stand_behind path both.0.name (target_in both.0.sort)

pub stands_known : (path : List ℕ) (found : Option TypedModule) (bs : List (Kept × FirType)) → Some bs ≡ option_map bares found → flat_map (bare_stands path) bs ≡ stands_in path found
stands_known path None bs e = absurd (none_some (sym e))
stands_known path (Some m) bs e = ap (flat_map (bare_stands path)) (some_same e) ∙ flat_map-map (bare_stands path) bare m.components

pub stands_unknown : (path : List ℕ) (found : Option TypedModule) → None ≡ option_map bares found → [] ≡ stands_in path found
stands_unknown path None e = refl
stands_unknown path (Some m) e = absurd (none_some e)

sites_at : (path : List ℕ) (m : TypedModule) (cs : List Component) → map (site_with path) (map bare cs) ≡ map site_of (map (λ c. record { path = path; m = m; c = c }) cs)
sites_at path m [] = refl
sites_at path m (c ∷ cs) = ap (λ l. site_with path (bare c) ∷ l) (sites_at path m cs)

kepts_at : (path : List ℕ) (m : TypedModule) (cs : List Component) → map (λ both. both.0) (map bare cs) ≡ map kept_at (map (λ c. record { path = path; m = m; c = c }) cs)
kepts_at path m [] = refl
kepts_at path m (c ∷ cs) = ap (λ l. kept_of c.declaration ∷ l) (kepts_at path m cs)

pub sites_known : (path : List ℕ) (found : Option TypedModule) (bs : List (Kept × FirType)) → Some bs ≡ option_map bares found → map (site_with path) bs ≡ map site_of (located_in path found)
sites_known path None bs e = absurd (none_some (sym e))
sites_known path (Some m) bs e = ap (map (site_with path)) (some_same e) ∙ sites_at path m m.components

pub kepts_known : (path : List ℕ) (found : Option TypedModule) (bs : List (Kept × FirType)) → Some bs ≡ option_map bares found → map (λ both. both.0) bs ≡ map kept_at (located_in path found)
kepts_known path None bs e = absurd (none_some (sym e))
kepts_known path (Some m) bs e = ap (map (λ both. both.0)) (some_same e) ∙ kepts_at path m m.components

pub none_located : (path : List ℕ) (found : Option TypedModule) → None ≡ option_map bares found → located_in path found ≡ []
none_located path None e = refl
none_located path (Some m) e = absurd (none_some e)

-- One more of them

there : {A : Type 0} (xs : List A) (k : ℕ) → k < length xs → (x : A) × (x ≡ get_or xs k x)
there [] k h = absurd (omega (arith, h))
there (x ∷ xs) zero h = (x, refl)
there (x ∷ xs) (suc k) h = there xs k (omega (arith, h))

abbrev pub zipped : List Declaration → List FirType → ℕ → List (Kept × FirType)
zipped ds ts k = zip (map held (take k ds)) (take k ts)

pub stands_more : (path slice : List ℕ) (ds : List Declaration) (ts : List FirType) (k : ℕ) (d : Declaration) (before after : List Stand) → k < length ds → k < length ts → d ≡ get_or ds k d → slice ≡ path
    → after ≡ before ++ stand_behind slice d.name (target_in (held_sort d.sort)) → before ≡ flat_map (bare_stands path) (zipped ds ts k) → after ≡ flat_map (bare_stands path) (zipped ds ts (k + 1))
stands_more path slice ds ts k d before after h l is same more old =
    let t = there ts k l in
    more ∙ (ap₂ (λ b p. b ++ stand_behind p d.name (target_in (held_sort d.sort))) old same
    ∙ sym (ap (flat_map (bare_stands path)) (zip_mapped_more held ds ts k d t.0 h l is t.1)
    ∙ (flat_map-append (bare_stands path) (zipped ds ts k) ((held d, t.0) ∷ [])
    ∙ ap (λ x. flat_map (bare_stands path) (zipped ds ts k) ++ x) (flat_map-cons (bare_stands path) (held d, t.0) [] ∙ append-nil (bare_stands path (held d, t.0))))))

pub stands_all : (path : List ℕ) (found : Option TypedModule) (ds items : List Declaration) (ts : List FirType) (k : ℕ) (all : List Stand) → ds ≡ items → Some (zip (map held items) ts) ≡ option_map bares found
    → min (length ds) (length ts) ≤ k → all ≡ flat_map (bare_stands path) (zipped ds ts k) → all ≡ stands_in path found
stands_all path found ds items ts k all same is past h =
    h ∙ (ap (flat_map (bare_stands path)) (zip_mapped held ds ts k past ∙ ap (λ l. zip (map held l) ts) same) ∙ stands_known path found (zip (map held items) ts) is)

pub mapped_more : {B : Type 0} (f : Kept × FirType → B) (ds : List Declaration) (ts : List FirType) (k : ℕ) (d : Declaration) (t : FirType) (base before after : List B) → k < length ds → k < length ts
    → d ≡ get_or ds k d → t ≡ get_or ts k t → after ≡ before ++ f (held d, t) ∷ [] → before ≡ base ++ map f (zipped ds ts k) → after ≡ base ++ map f (zipped ds ts (k + 1))
mapped_more f ds ts k d t base before after h l is js more old =
    more ∙ (ap (λ x. x ++ f (held d, t) ∷ []) old ∙ (append_assoc base (map f (zipped ds ts k)) (f (held d, t) ∷ [])
    ∙ ap (λ x. base ++ x) (sym (ap (map f) (zip_mapped_more held ds ts k d t h l is js) ∙ map-append f (zipped ds ts k) ((held d, t) ∷ [])))))
