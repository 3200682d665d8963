-- What the walks through all modules find are the faults of driven leaves.
use Rattle.std.proofs.Common.{◌≡◌, ℕ, zero, suc, ◌+◌, ◌==◌, Bool, true, false, ◌&&◌, not, List, [], ◌∷◌, map, zip, drop, length, get_or, Option, Some, None, cond, slice_get, refl, sym, ap, ap₂, ◌∙◌, subst, arith, if◌then◌else◌, ⊎_elim}
use Rattle.std.specs.Prelude.{Contains, find, nat_eq, option_map, option_and_then}
use Rattle.std.specs.List.{flat_map}
use Rattle.std.specs.Map.{lookup}
use Rattle.std.proofs.lemmas.Bool.{eqb-true, eqb-false}
use Rattle.std.proofs.lemmas.List.Elements.{Contains-append_cases, Contains-append_left, Contains-append_right}
use Rattle.std.proofs.lemmas.List.Concat.{flat_map-cons}
use Rattle.std.proofs.lemmas.List.{length-map}
use Rattle.place_text.specs.First.{Tells}
use Rattle.place_text.specs.declared.place.Place.{Place}
use Rattle.fir_types.specs.declared.name.Name.{Name}
use Rattle.fir_types.specs.declared.fir_type.FirType.{FirType}
use Rattle.fir_types.specs.declared.leaf.TypeLeaf.{TypeLeaf}
use Rattle.fir_types.specs.Leaves.{leaves}
use Rattle.fir_types.proofs.Layers.{leaves-bundle}
use Rattle.fir_tree.specs.declared.circuit.Module.{Module}
use Rattle.fir_tree.specs.declared.scope.Fitted.{Fitted}
use Rattle.fir_meaning.specs.Components.{Sort, Declaration, Component, TypedModule, declarations_of, with_types, modules_of, component_named, type_in, type_or_empty, flow_of}
use Rattle.fir_meaning.specs.Mentions.{Scope}
use Rattle.fir_meaning.specs.Certain.{is_certain, must_be_driven}
use Rattle.fir_meaning.proofs.Tracking.{none_some, Contains-flat_map}
use Rattle.fir_names.specs.Finds.{numbered}
use Rattle.fir_names.proofs.Graphs.{some_same}
use Rattle.circuit_laws.specs.Designs.{component_of}
use Rattle.drive_check.specs.declared.fault.DriveFault.{DriveFault}
use Rattle.drive_check.specs.declared.fault.DriveFault.TheVariants.{NotInitialized}
use Rattle.drive_check.specs.Sites.{names_of, place_of_leaf}
use Rattle.drive_check.specs.Initialized.{IsUndriven, IsFault, not_initialized}
use Rattle.drive_check.specs.Typing.{typed, type_or_none}
use Rattle.drive_check.specs.Walks.{Certain, leaf_faults}
use Rattle.drive_check.specs.Modules.{faults_in, module_faults, where_reached, modules_faults, faults_of}
use Rattle.drive_check.proofs.Linking.{sites, site_faults, names_are, module_sites}
use Rattle.fir_names.proofs.Members.{Contains-get}

-- The laws of names

abbrev pub AreNamed : Fitted → Type 0
AreNamed fitted = (m : TypedModule) → Contains (modules_of fitted) m → (c : Component) → Contains m.components c → component_named m c.declaration.name ≡ Some c

abbrev pub AreOnce : Fitted → Type 0
AreOnce fitted = (holder : Module) → Contains fitted.checked.resolved.modules holder → (j k : ℕ) (d e : Declaration)
    → slice_get (declarations_of holder) j ≡ Some d → slice_get (declarations_of holder) k ≡ Some e → d.name ≡ e.name → j ≡ k

-- Lists

pub get_contains : {X : Type 0} (xs : List X) (k : ℕ) (x : X) → slice_get xs k ≡ Some x → Contains xs x
get_contains [] k x e = absurd (none_some e)
get_contains (y ∷ xs) zero x e = (0, omega arith, some_same e)
get_contains (y ∷ xs) (suc k) x e = let rest = get_contains xs k x e in (suc rest.0, omega (arith, rest.1), rest.2)

pub contains_get : {X : Type 0} (xs : List X) (x : X) → Contains xs x → (k : ℕ) × (slice_get xs k ≡ Some x)
contains_get [] x (k, below, is) = absurd (omega arith)
contains_get (y ∷ xs) x (zero, below, is) = (0, ap Some is)
contains_get (y ∷ xs) x (suc k, below, is) = let rest = contains_get xs x (k, omega arith, is) in (suc rest.0, rest.1)

pub none_in : {X : Type 0} (x : X) → Contains [] x → ⊥
none_in x (k, below, is) = omega arith

one_in : {X : Type 0} (y x : X) → Contains (y ∷ []) x → x ≡ y
one_in y x (zero, below, is) = sym is
one_in y x (suc k, below, is) = absurd (omega arith)

from_flat : {A B : Type 0} (h : A → List B) (xs : List A) (y : B) → Contains (flat_map h xs) y → (x : A) × Contains xs x × Contains (h x) y
from_flat h [] y c = absurd (none_in y c)
from_flat h (x ∷ xs) y c = ⊎_elim
    (λ l. (x, (0, omega arith, refl), l))
    (λ r. let rest = from_flat h xs y r in
    let at = contains_get xs rest.0 rest.1 in
    (rest.0, get_contains (x ∷ xs) (suc at.0) rest.0 at.1, rest.2))
    (Contains-append_cases (h x) (flat_map h xs) y (subst (λ l. Contains l y) (flat_map-cons h x xs) c))

zip_get : {A B : Type 0} (xs : List A) (ys : List B) (j : ℕ) (x : A) (y : B) → slice_get xs j ≡ Some x → slice_get ys j ≡ Some y → slice_get (zip xs ys) j ≡ Some (x, y)
zip_get [] ys j x y e f = absurd (none_some e)
zip_get (a ∷ xs) [] j x y e f = absurd (none_some f)
zip_get (a ∷ xs) (b ∷ ys) zero x y e f = ap₂ (λ p q. Some (p, q)) (some_same e) (some_same f)
zip_get (a ∷ xs) (b ∷ ys) (suc j) x y e f = zip_get xs ys j x y e f

from_zip : {A B : Type 0} (xs : List A) (ys : List B) (j : ℕ) (both : A × B) → slice_get (zip xs ys) j ≡ Some both → (slice_get xs j ≡ Some both.0) × (slice_get ys j ≡ Some both.1)
from_zip [] ys j both e = absurd (none_some e)
from_zip (a ∷ xs) [] j both e = absurd (none_some e)
from_zip (a ∷ xs) (b ∷ ys) zero both e = (ap (λ (p : _ × _). Some p.0) (some_same e), ap (λ (p : _ × _). Some p.1) (some_same e))
from_zip (a ∷ xs) (b ∷ ys) (suc j) both e = from_zip xs ys j both e

pub same_ids : (ds : List Declaration) (ns : List Name) → map (λ d. d.name) ds ≡ map (λ n. n.id) ns → (j : ℕ) (d : Declaration) (n : Name) → slice_get ds j ≡ Some d → slice_get ns j ≡ Some n → d.name ≡ n.id
same_ids [] ns e j d n f g = absurd (none_some f)
same_ids (x ∷ ds) [] e j d n f g = absurd (none_some g)
same_ids (x ∷ ds) (y ∷ ns) e zero d n f g = ap (λ (z : Declaration). z.name) (sym (some_same f)) ∙ first (x.name) (y.id) _ _ e ∙ ap (λ (z : Name). z.id) (some_same g)
  where
    first : (p q : ℕ) (ps qs : List ℕ) → p ∷ ps ≡ q ∷ qs → p ≡ q
    first p q ps qs h = cc
same_ids (x ∷ ds) (y ∷ ns) e (suc j) d n f g = same_ids ds ns (rest (x.name) (y.id) _ _ e) j d n f g
  where
    rest : (p q : ℕ) (ps qs : List ℕ) → p ∷ ps ≡ q ∷ qs → ps ≡ qs
    rest p q ps qs h = cc

-- The types of a module's components by name

same_test : (a b : ℕ) → (a == b) ≡ nat_eq b a
same_test a b = by (a == b) (nat_eq b a) refl refl
  where
    by : (x y : Bool) → (a == b) ≡ x → nat_eq b a ≡ y → x ≡ y
    by true true e f = refl
    by true false e f = absurd (eqb-false b a f (sym (eqb-true a b e)))
    by false true e f = absurd (eqb-false a b e (sym (eqb-true b a f)))
    by false false e f = refl

shifted : (n id : ℕ) (names : List Name) → lookup (nat_eq id) (numbered (n + 1) names) ≡ option_map suc (lookup (nat_eq id) (numbered n names))
shifted n id [] = refl
shifted n id (x ∷ names) = by (nat_eq id x.id) (shifted (n + 1) id names)
  where
    by : (b : Bool) → lookup (nat_eq id) (numbered (n + 1 + 1) names) ≡ option_map suc (lookup (nat_eq id) (numbered (n + 1) names))
        → cond b (Some (n + 1)) (lookup (nat_eq id) (numbered (n + 1 + 1) names)) ≡ option_map suc (cond b (Some n) (lookup (nat_eq id) (numbered (n + 1) names)))
    by true h = ap Some (omega arith)
    by false h = h

behind_one : (t : FirType) (ts : List FirType) (o : Option ℕ) → option_and_then (slice_get (t ∷ ts)) (option_map suc o) ≡ option_and_then (slice_get ts) o
behind_one t ts None = refl
behind_one t ts (Some k) = refl

abbrev no_list : List FirType
no_list = []

no_types : (o : Option ℕ) → option_and_then (slice_get no_list) o ≡ None
no_types None = refl
no_types (Some k) = refl

typed_is : (names : List Name) (ds : List Declaration) (ts : List FirType) (id : ℕ) → map (λ d. d.name) ds ≡ map (λ n. n.id) names
    → typed names ts id ≡ type_or_empty (find (λ c. c.declaration.name == id) (map component_of (zip ds ts)))
typed_is [] [] ts id e = refl
typed_is [] (d ∷ ds) ts id e = absurd cc
typed_is (n ∷ names) [] ts id e = absurd cc
typed_is (n ∷ names) (d ∷ ds) [] id e = ap type_or_none (no_types (lookup (nat_eq id) (numbered 0 (n ∷ names))))
typed_is (n ∷ names) (d ∷ ds) (t ∷ ts) id e =
    by (nat_eq id n.id) refl (typed_is names ds ts id (rest d.name n.id _ _ e))
  where
    rest : (p q : ℕ) (ps qs : List ℕ) → p ∷ ps ≡ q ∷ qs → ps ≡ qs
    rest p q ps qs h = cc

    first : (p q : ℕ) (ps qs : List ℕ) → p ∷ ps ≡ q ∷ qs → p ≡ q
    first p q ps qs h = cc

    test : (d.name == id) ≡ nat_eq id n.id
    test = same_test d.name id ∙ ap (nat_eq id) (first d.name n.id _ _ e)

    others : Option Component
    others = find (λ c. c.declaration.name == id) (map component_of (zip ds ts))

    by : (b : Bool) → nat_eq id n.id ≡ b → typed names ts id ≡ type_or_empty others
        → type_or_none (option_and_then (slice_get (t ∷ ts)) (cond (nat_eq id n.id) (Some 0) (lookup (nat_eq id) (numbered 1 names))))
        ≡ type_or_empty (cond (d.name == id) (Some (component_of (d, t))) others)
    by true q h = ap (λ b. type_or_none (option_and_then (slice_get (t ∷ ts)) (cond b (Some 0) (lookup (nat_eq id) (numbered 1 names))))) q
        ∙ sym (ap (λ b. type_or_empty (cond b (Some (component_of (d, t))) others)) (test ∙ q))
    by false q h = ap (λ b. type_or_none (option_and_then (slice_get (t ∷ ts)) (cond b (Some 0) (lookup (nat_eq id) (numbered 1 names))))) q
        ∙ ap (λ o. type_or_none (option_and_then (slice_get (t ∷ ts)) o)) (shifted 0 id names) ∙ ap type_or_none (behind_one t ts (lookup (nat_eq id) (numbered 0 names))) ∙ h
        ∙ sym (ap (λ b. type_or_empty (cond b (Some (component_of (d, t))) others)) (test ∙ q))

pub scope_is : (holder : Module) (m : TypedModule) (ts : List FirType) → m.components ≡ map component_of (zip (declarations_of holder) ts) → typed (names_of holder) ts ≡ type_in m
scope_is holder m ts e = λ i id. at id i
  where
    at : (id : ℕ) → typed (names_of holder) ts id ≡ type_in m id
    at id = typed_is (names_of holder) (declarations_of holder) ts id (names_are holder) ∙ sym (ap (λ cs. type_or_empty (find (λ c. c.declaration.name == id) cs)) e)

-- Modules by number

pub record Placed (modules : List Module) (types : List FirType) (reached : List Bool) (k : ℕ) (holder : Module) (m : TypedModule) : Type 0 where
  pub declared : List FirType
  pub is : m.components ≡ map component_of (zip (declarations_of holder) declared)
  pub told : slice_get reached k ≡ Some true → (f : DriveFault) → Contains (module_faults holder declared) f → Contains (modules_faults modules types reached) f

first_flag : (reached : List Bool) → slice_get reached 0 ≡ Some true → get_or reached 0 false ≡ true
first_flag [] e = absurd (none_some e)
first_flag (b ∷ bs) e = some_same e

later_flag : (reached : List Bool) (k : ℕ) → slice_get (drop 1 reached) k ≡ slice_get reached (suc k)
later_flag [] k = refl
later_flag (b ∷ bs) k = refl

counted : (holder : Module) → length (names_of holder) ≡ length (declarations_of holder)
counted holder = sym (length-map (names_of holder) (λ n. n.id)) ∙ sym (ap length (names_are holder)) ∙ length-map (declarations_of holder) (λ d. d.name)

pub placed : (modules : List Module) (types : List FirType) (reached : List Bool) (k : ℕ) (holder : Module) (m : TypedModule)
    → slice_get modules k ≡ Some holder → slice_get (with_types modules types) k ≡ Some m → Placed modules types reached k holder m
placed [] types reached k holder m e f = absurd (none_some e)
placed (x ∷ modules) types reached zero holder m e f = record {
  declared = types;
  is = ap (λ (t : TypedModule). t.components) (sym (some_same f)) ∙ ap (λ (h : Module). map component_of (zip (declarations_of h) types)) (some_same e);
  told = λ flag g c. Contains-append_left _ _ g
      (subst (λ b. Contains (where_reached b (module_faults x types)) g) (sym (first_flag reached flag)) (subst (λ (h : Module). Contains (module_faults h types) g) (sym (some_same e)) c));
}
placed (x ∷ modules) types reached (suc k) holder m e f =
    let rest : List FirType = drop (length (names_of x)) types in
    let r : Placed modules rest (drop 1 reached) k holder m =
    placed modules rest (drop 1 reached) k holder m e (subst (λ n. slice_get (with_types modules (drop n types)) k ≡ Some m) (sym (counted x)) f) in
    record {
      declared = r.declared;
      is = r.is;
      told = λ flag g c. Contains-append_right (where_reached (get_or reached 0 false) (module_faults x types)) _ g (r.told (later_flag reached k ∙ flag) g c);
    }

pub record Found (modules : List Module) (types : List FirType) (reached : List Bool) (f : DriveFault) : Type 0 where
  pub number : ℕ
  pub holder : Module
  pub m : TypedModule
  pub declared : List FirType
  pub reached' : slice_get reached number ≡ Some true
  pub holds : slice_get modules number ≡ Some holder
  pub typed' : slice_get (with_types modules types) number ≡ Some m
  pub is : m.components ≡ map component_of (zip (declarations_of holder) declared)
  pub told : Contains (module_faults holder declared) f

flag_of : (reached : List Bool) (fs : List DriveFault) (f : DriveFault) → Contains (where_reached (get_or reached 0 false) fs) f → (slice_get reached 0 ≡ Some true) × Contains fs f
flag_of [] fs f c = absurd (none_in f c)
flag_of (true ∷ bs) fs f c = (refl, c)
flag_of (false ∷ bs) fs f c = absurd (none_in f c)

found : (modules : List Module) (types : List FirType) (reached : List Bool) (f : DriveFault) → Contains (modules_faults modules types reached) f → Found modules types reached f
found [] types reached f c = absurd (none_in f c)
found (x ∷ modules) types reached f c =
    ⊎_elim
    (λ l. let flag = flag_of reached (module_faults x types) f l in
    record { number = 0; holder = x; m = _; declared = types; reached' = flag.0; holds = refl; typed' = refl; is = refl; told = flag.1 })
    (λ r. let rest : List FirType = drop (length (names_of x)) types in
    let g : Found modules rest (drop 1 reached) f = found modules rest (drop 1 reached) f r in
    record {
      number = suc g.number;
      holder = g.holder;
      m = g.m;
      declared = g.declared;
      reached' = sym (later_flag reached g.number) ∙ g.reached';
      holds = g.holds;
      typed' = subst (λ n. slice_get (with_types modules (drop n types)) g.number ≡ Some g.m) (counted x) g.typed';
      is = g.is;
      told = g.told;
    })
    (Contains-append_cases (where_reached (get_or reached 0 false) (module_faults x types)) _ f c)

-- The fault of a leaf

told_leaf : (certain : Certain) (name : Name) (sort : Sort) (leaf : TypeLeaf) → must_be_driven sort (flow_of sort leaf.flip) ≡ true → certain (record { component = name.id; way = leaf.path }) ≡ false
    → Contains (leaf_faults certain name sort leaf) (NotInitialized (place_of_leaf name sort leaf.path))
told_leaf certain name sort leaf must open' =
    let test : (must_be_driven sort (flow_of sort leaf.flip) && not (certain (record { component = name.id; way = leaf.path }))) ≡ true = ap₂ (λ a b. a && not b) must open' in
    subst (λ b. Contains (if b then NotInitialized (place_of_leaf name sort leaf.path) ∷ [] else []) (NotInitialized (place_of_leaf name sort leaf.path))) (sym test) (0, omega arith, refl)

record LeafTold (certain : Certain) (name : Name) (sort : Sort) (leaf : TypeLeaf) (f : DriveFault) : Type 0 where
  must : must_be_driven sort (flow_of sort leaf.flip) ≡ true
  open' : certain (record { component = name.id; way = leaf.path }) ≡ false
  is : f ≡ NotInitialized (place_of_leaf name sort leaf.path)

leaf_told : (certain : Certain) (name : Name) (sort : Sort) (leaf : TypeLeaf) (f : DriveFault) → Contains (leaf_faults certain name sort leaf) f → LeafTold certain name sort leaf f
leaf_told certain name sort leaf f = by (must_be_driven sort (flow_of sort leaf.flip)) refl (certain (record { component = name.id; way = leaf.path })) refl
  where
    by : (a : Bool) → must_be_driven sort (flow_of sort leaf.flip) ≡ a → (b : Bool) → certain (record { component = name.id; way = leaf.path }) ≡ b
        → Contains (if a && not b then NotInitialized (place_of_leaf name sort leaf.path) ∷ [] else []) f → LeafTold certain name sort leaf f
    by true p false q c = record { must = p; open' = q; is = one_in (NotInitialized (place_of_leaf name sort leaf.path)) f c }
    by true p true q c = absurd (none_in f c)
    by false p b q c = absurd (none_in f c)

pub zipped : (ds : List Declaration) (ts : List FirType) (k : ℕ) (c : Component) → slice_get (map component_of (zip ds ts)) k ≡ Some c → slice_get ds k ≡ Some c.declaration
zipped [] ts k c e = absurd (none_some e)
zipped (x ∷ ds) [] k c e = absurd (none_some e)
zipped (x ∷ ds) (t ∷ ts) zero c e = ap (λ (y : Component). Some y.declaration) (some_same e)
zipped (x ∷ ds) (t ∷ ts) (suc k) c e = zipped ds ts k c e

-- All faults are told.

has_module : (fitted : Fitted) (m : TypedModule) (k : ℕ) → slice_get (modules_of fitted) k ≡ Some m → Contains (modules_of fitted) m
has_module fitted m k e = get_contains (modules_of fitted) k m e

pub all_told : (fitted : Fitted) → AreNamed fitted → (place : Place) → IsUndriven fitted place → Contains (faults_of fitted) (NotInitialized place)
all_told fitted named place u =
    let at : Placed fitted.checked.resolved.modules fitted.declared fitted.checked.scope.reached u.reached.number u.holder u.m =
    placed fitted.checked.resolved.modules fitted.declared fitted.checked.scope.reached u.reached.number u.holder u.m u.reached.holds u.reached.typed in
    let types : Scope = type_in u.m in
    let there' : slice_get (map component_of (zip (declarations_of u.holder) at.declared)) u.declares.number ≡ Some u.c = subst (λ l. slice_get l u.declares.number ≡ Some u.c) at.is u.declares.component in
    let d : slice_get (declarations_of u.holder) u.declares.number ≡ Some u.c.declaration = zipped (declarations_of u.holder) at.declared u.declares.number u.c there' in
    let same : u.c.declaration.name ≡ u.name.id = same_ids (declarations_of u.holder) (names_of u.holder) (names_are u.holder) u.declares.number u.c.declaration u.name d u.declares.named in
    let own : component_named u.m u.c.declaration.name ≡ Some u.c = named u.m (has_module fitted u.m u.reached.number u.reached.typed) u.c (get_contains u.m.components u.declares.number u.c u.declares.component) in
    let typ : types u.name.id ≡ u.c.typ = ap types (sym same) ∙ ap type_or_empty own in
    let certain' : Certain = λ leaf. is_certain types leaf u.c.declaration.behind in
    let open' : certain' (record { component = u.name.id; way = u.leaf.path }) ≡ false = ap (λ (n : ℕ). certain' (record { component = n; way = u.leaf.path })) (sym same) ∙ u.open' in
    let one : Contains (leaf_faults certain' u.name u.c.declaration.sort u.leaf) (NotInitialized place) =
    subst (λ p. Contains (leaf_faults certain' u.name u.c.declaration.sort u.leaf) (NotInitialized p)) u.at (told_leaf certain' u.name u.c.declaration.sort u.leaf u.must open') in
    let site : Contains (site_faults types (u.name, u.c.declaration)) (NotInitialized place) =
    Contains-flat_map (leaf_faults certain' u.name u.c.declaration.sort) (leaves (types u.name.id)) u.leaf (NotInitialized place) (subst (λ t. Contains (leaves t) u.leaf) (sym typ) u.listed) one in
    let all : Contains (sites types (names_of u.holder) (declarations_of u.holder)) (NotInitialized place) =
    Contains-flat_map (site_faults types) (zip (names_of u.holder) (declarations_of u.holder)) (u.name, u.c.declaration) (NotInitialized place)
    (get_contains (zip (names_of u.holder) (declarations_of u.holder)) u.declares.number (u.name, u.c.declaration)
    (zip_get (names_of u.holder) (declarations_of u.holder) u.declares.number u.name u.c.declaration u.declares.named d)) site in
    at.told u.reached.reached (NotInitialized place)
    (subst (λ t. Contains (faults_in t u.holder) (NotInitialized place)) (sym (scope_is u.holder u.m at.declared at.is)) ((module_sites types u.holder).back (NotInitialized place) all))

-- All that are told are faults.

pub find_in : {X : Type 0} (p : X → Bool) (xs : List X) (x : X) → find p xs ≡ Some x → (k : ℕ) × (slice_get xs k ≡ Some x) × (p x ≡ true)
find_in p [] x e = absurd (none_some e)
find_in p (y ∷ xs) x e = by (p y) refl e (λ h. find_in p xs x h)
  where
    by : (b : Bool) → p y ≡ b → cond b (Some y) (find p xs) ≡ Some x → (find p xs ≡ Some x → (k : ℕ) × (slice_get xs k ≡ Some x) × (p x ≡ true)) → (k : ℕ) × (slice_get (y ∷ xs) k ≡ Some x) × (p x ≡ true)
    by true q h rest = (0, h, ap p (sym (some_same h)) ∙ q)
    by false q h rest = let r = rest h in (suc r.0, r.1, r.2)

-- the component of a name that has a leaf
record Owner (m : TypedModule) (id : ℕ) : Type 0 where
  c : Component
  number : ℕ
  at : slice_get m.components number ≡ Some c
  name : c.declaration.name ≡ id
  typ : type_in m id ≡ c.typ

owner : (m : TypedModule) (id : ℕ) (leaf : TypeLeaf) → Contains (leaves (type_in m id)) leaf → Owner m id
owner m id leaf h = by (component_named m id) refl h
  where
    by : (o : Option Component) → component_named m id ≡ o → Contains (leaves (type_or_empty o)) leaf → Owner m id
    by None e c = absurd (none_in leaf (subst (λ l. Contains l leaf) (leaves-bundle (type_or_empty None) [] refl) c))
    by (Some x) e c =
        let place = find_in (λ y. y.declaration.name == id) m.components x e in
        record { c = x; number = place.0; at = place.1; name = eqb-true x.declaration.name id place.2; typ = ap type_or_empty e }

pub all_had : (fitted : Fitted) → AreOnce fitted → (f : DriveFault) → Contains (faults_of fitted) f → IsFault fitted f
all_had fitted once f c =
    let g : Found fitted.checked.resolved.modules fitted.declared fitted.checked.scope.reached f = found fitted.checked.resolved.modules fitted.declared fitted.checked.scope.reached f c in
    let ds : List Declaration = declarations_of g.holder in
    let names : List Name = names_of g.holder in
    let types : Scope = type_in g.m in
    let told : Contains (faults_in types g.holder) f = subst (λ t. Contains (faults_in t g.holder) f) (scope_is g.holder g.m g.declared g.is) g.told in
    let both = from_flat (site_faults types) (zip names ds) f ((module_sites types g.holder).forth f told) in
    let name : Name = both.0.0 in
    let d : Declaration = both.0.1 in
    let at = contains_get (zip names ds) both.0 both.1 in
    let here = from_zip names ds at.0 both.0 at.1 in
    let leaf = from_flat (leaf_faults (λ l. is_certain types l d.behind) name d.sort) (leaves (types name.id)) f both.2 in
    let o : Owner g.m name.id = owner g.m name.id leaf.0 leaf.1 in
    let its : slice_get ds o.number ≡ Some o.c.declaration = zipped ds g.declared o.number o.c (subst (λ l. slice_get l o.number ≡ Some o.c) g.is o.at) in
    let number : at.0 ≡ o.number =
    once g.holder (Contains-get fitted.checked.resolved.modules g.number g.holder g.holds) at.0 o.number d o.c.declaration here.1 its
    (same_ids ds names (names_are g.holder) at.0 d name here.1 here.0 ∙ sym o.name) in
    let same : d ≡ o.c.declaration = some_same (sym here.1 ∙ ap (slice_get ds) number ∙ its) in
    let l : LeafTold (λ x. is_certain types x o.c.declaration.behind) name o.c.declaration.sort leaf.0 f =
    subst (λ (x : Declaration). LeafTold (λ y. is_certain types y x.behind) name x.sort leaf.0 f) same (leaf_told (λ x. is_certain types x d.behind) name d.sort leaf.0 f leaf.2) in
    subst (IsFault fitted) (sym l.is) (not_initialized (place_of_leaf name o.c.declaration.sort leaf.0.path) (record {
      holder = g.holder;
      m = g.m;
      c = o.c;
      name = name;
      leaf = leaf.0;
      reached = record { number = g.number; reached = g.reached'; holds = g.holds; typed = g.typed' };
      declares = record { number = o.number; component = o.at; named = subst (λ k. slice_get names k ≡ Some name) number here.0 };
      listed = subst (λ t. Contains (leaves t) leaf.0) o.typ leaf.1;
      must = l.must;
      open' = ap (λ (n : ℕ). is_certain types (record { component = n; way = leaf.0.path }) o.c.declaration.behind) o.name ∙ l.open';
      at = refl;
    }))

pub tells : (fitted : Fitted) {faults : List DriveFault} → AreNamed fitted → AreOnce fitted → faults ≡ faults_of fitted → Tells (IsFault fitted) faults
tells fitted {faults} named once e = record {
  told = λ fault is. subst (λ l. Contains l fault) (sym e) (by fault is);
  had = λ fault c. all_had fitted once fault (subst (λ l. Contains l fault) e c);
}
  where
    by : (fault : DriveFault) → IsFault fitted fault → Contains (faults_of fitted) fault
    by fault (not_initialized place u) = all_told fitted named place u
