-- What is known of drivers behind a setting, and behind several.
use Rattle.std.proofs.Common.{◌≡◌, inl, inr, ℕ, zero, suc, ◌+◌, ◌<◌, Bool, true, false, ◌&&◌, ◌||◌, List, [], ◌∷◌, ◌++◌, map, zip, length, take, get_or, Option, Some, None, option_map, if◌then◌else◌, refl, sym, ap, ap₂, ◌∙◌, true≢false, arith, ◌≤◌, Bor}
use Rattle.std.specs.Prelude.{min}
use Rattle.std.specs.Option.{option_copied}
use Rattle.std.proofs.lemmas.List.{take_all, length-map}
use Rattle.std.proofs.lemmas.Slice.Zip.{length-zip}
use Rattle.std.specs.List.{list_any, flat_map}
use Rattle.fir_types.specs.declared.leaf.PathStep.{PathStep}
use Rattle.fir_meaning.specs.Drives.{same_leaf, is_turned}
use Rattle.clock_check.proofs.Reaching.{none_of, and_false}
use Rattle.std.specs.Map.{keys_of, lookup}
use Rattle.std.proofs.lemmas.List.Folds.{list_any_more}
use Rattle.std.proofs.lemmas.List.Sums.{fold_more}
use Rattle.indexmap.specs.IndexMap.{insert_entry}
use Rattle.fir_types.specs.declared.leaf.TypeLeaf.{TypeLeaf}
use Rattle.fir_types.specs.Leaves.{leaves}
use Rattle.fir_tree.specs.declared.expr.Expr.{Expr}
use Rattle.fir_meaning.specs.Components.{Leaf}
use Rattle.fir_meaning.specs.Mentions.{Scope, Region, region_of, leaves_at}
use Rattle.fir_meaning.specs.Certain.{may_be, may_name}
use Rattle.fir_meaning.specs.ClockRoot.{Driver, No_driver, From, in_branch, source_at, source_for, named_leaves, leaves_of_region}
use Rattle.drive_check.specs.declared.leaf_set.LeafKey.{LeafKey}
use Rattle.drive_check.specs.Keys.{leaf_of_key, is_among}
use Rattle.drive_check.proofs.KeyTests.{key_eq, key_same, leaf_equal}
use Rattle.clock_check.specs.declared.reach.Reach.{Reach}
use Rattle.clock_check.specs.Driving.{driver_by, driver_of, source_in, region_at, Reaches, connected, invalidated, linked}

abbrev Entries : Type 0
Entries = List (LeafKey × Option LeafKey)

-- One setting

picked : {A : Type 0} (b c : Bool) (x y : A) → b ≡ c → (if b then x else y) ≡ (if c then x else y)
picked b c x y e = ap (λ q. if q then x else y) e

pub set_one : (es : Entries) (k : LeafKey) (v : Option LeafKey) (leaf : Leaf)
    → driver_of (insert_entry key_eq es k v) leaf ≡ (if same_leaf (leaf_of_key k) leaf then driver_by (option_map leaf_of_key v) else driver_of es leaf)
set_one [] k v leaf = refl
set_one (e ∷ es) k v leaf = by (set_one es k v leaf) (key_eq k e.0) refl (same_leaf (leaf_of_key e.0) leaf) refl
  where
    given : Driver
    given = driver_by (option_map leaf_of_key v)

    held : Driver
    held = driver_by (option_map leaf_of_key e.1)

    by : driver_of (insert_entry key_eq es k v) leaf ≡ (if same_leaf (leaf_of_key k) leaf then given else driver_of es leaf)
        → (b : Bool) → key_eq k e.0 ≡ b → (c : Bool) → same_leaf (leaf_of_key e.0) leaf ≡ c
        → driver_of (if b then (e.0, v) ∷ es else e ∷ insert_entry key_eq es k v) leaf ≡ (if same_leaf (leaf_of_key k) leaf then given else driver_of (e ∷ es) leaf)
    by rest true h true f =
        let same : leaf_of_key k ≡ leaf_of_key e.0 = leaf_equal (leaf_of_key k) (leaf_of_key e.0) (sym (key_same k e.0) ∙ h) in
        picked _ true given (driver_of es leaf) f ∙ sym (picked _ true given (driver_of (e ∷ es) leaf) (ap (λ l. same_leaf l leaf) same ∙ f))
    by rest true h false f =
        let same : leaf_of_key k ≡ leaf_of_key e.0 = leaf_equal (leaf_of_key k) (leaf_of_key e.0) (sym (key_same k e.0) ∙ h) in
        picked _ false given (driver_of es leaf) f ∙ sym (picked _ false held (driver_of es leaf) f)
        ∙ sym (picked _ false given (driver_of (e ∷ es) leaf) (ap (λ l. same_leaf l leaf) same ∙ f))
    by rest false h true f =
        let is : leaf_of_key e.0 ≡ leaf = leaf_equal (leaf_of_key e.0) leaf f in
        let other : same_leaf (leaf_of_key k) leaf ≡ false = ap (same_leaf (leaf_of_key k)) (sym is) ∙ sym (key_same k e.0) ∙ h in
        picked _ true held (driver_of (insert_entry key_eq es k v) leaf) f ∙ sym (picked _ true held (driver_of es leaf) f)
        ∙ sym (picked _ false given (driver_of (e ∷ es) leaf) other)
    by rest false h false f =
        picked _ false held (driver_of (insert_entry key_eq es k v) leaf) f ∙ rest
        ∙ ap (λ d. if same_leaf (leaf_of_key k) leaf then given else d) (sym (picked _ false held (driver_of es leaf) f))

-- Several, one of which is the last

or_pick : {A : Type 0} (a b : Bool) (d x : A) → (if a then d else if b then d else x) ≡ (if b || a then d else x)
or_pick true true d x = refl
or_pick true false d x = refl
or_pick false true d x = refl
or_pick false false d x = refl

pub once_more : {A : Type 0} (p : Leaf → A → Bool) (xs : List A) (i : ℕ) (x : A) (d : Driver) (old now' new : Leaf → Driver) → i < length xs → x ≡ get_or xs i x
    → ((leaf : Leaf) → now' leaf ≡ (if list_any (p leaf) (take i xs) then d else old leaf)) → ((leaf : Leaf) → new leaf ≡ (if p leaf x then d else now' leaf))
    → (leaf : Leaf) → new leaf ≡ (if list_any (p leaf) (take (i + 1) xs) then d else old leaf)
once_more p xs i x d old now' new lt is h k leaf =
    k leaf ∙ ap (λ y. if p leaf x then d else y) (h leaf) ∙ or_pick (p leaf x) (list_any (p leaf) (take i xs)) d (old leaf)
    ∙ ap (λ b. if b then d else old leaf) (ap (λ y. list_any (p leaf) (take i xs) || p leaf y) is ∙ sym (list_any_more (p leaf) xs i x lt))

-- A branch

crossed_one : (v : Option Leaf) (last : Driver) → No_driver ≡ in_branch last (driver_by v)
crossed_one None last = refl
crossed_one (Some leaf) last = refl

pub crossed : (es : Entries) (leaf : Leaf) (last : Driver) → (if is_among (keys_of es) leaf then No_driver else last) ≡ in_branch last (driver_of es leaf)
crossed [] leaf last = refl
crossed (e ∷ es) leaf last = by (crossed es leaf last) (same_leaf (leaf_of_key e.0) leaf)
  where
    by : (if is_among (keys_of es) leaf then No_driver else last) ≡ in_branch last (driver_of es leaf) → (b : Bool) → (if b || is_among (keys_of es) leaf then No_driver else last) ≡ in_branch last (if b then driver_by (option_map leaf_of_key e.1) else driver_of es leaf)
    by rest true = crossed_one (option_map leaf_of_key e.1) last
    by rest false = rest

-- A lookup

abbrev pub or_none : Option (Option LeafKey) → Option Leaf
or_none (Some v) = option_map leaf_of_key v
or_none None = None

source_by : (v : Option Leaf) → v ≡ source_in (driver_by v)
source_by None = refl
source_by (Some leaf) = refl

turned : (a b : Leaf) → same_leaf a b ≡ true → same_leaf b a ≡ true
turned a b e = ap₂ same_leaf (sym (leaf_equal a b e)) (leaf_equal a b e) ∙ e

pub looked_up : (es : Entries) (k : LeafKey) (found : Option (Option LeafKey)) → lookup (key_eq k) es ≡ found → or_none found ≡ source_in (driver_of es (leaf_of_key k))
looked_up [] k found e = ap or_none (sym e)
looked_up (x ∷ es) k found e = by (looked_up es k found) (key_eq k x.0) refl (same_leaf (leaf_of_key x.0) (leaf_of_key k)) refl
  where
    by : (lookup (key_eq k) es ≡ found → or_none found ≡ source_in (driver_of es (leaf_of_key k))) → (b : Bool) → key_eq k x.0 ≡ b → (c : Bool) → same_leaf (leaf_of_key x.0) (leaf_of_key k) ≡ c → or_none found ≡ source_in (driver_of (x ∷ es) (leaf_of_key k))
    by rest true h true f =
        ap or_none (sym e ∙ picked _ true (Some x.1) (lookup (key_eq k) es) h) ∙ source_by (option_map leaf_of_key x.1)
        ∙ ap source_in (sym (picked _ true (driver_by (option_map leaf_of_key x.1)) (driver_of es (leaf_of_key k)) f))
    by rest true h false f = absurd (true≢false (sym (turned (leaf_of_key k) (leaf_of_key x.0) (sym (key_same k x.0) ∙ h)) ∙ f))
    by rest false h true f = absurd (true≢false (sym (turned (leaf_of_key x.0) (leaf_of_key k) f) ∙ (sym (key_same k x.0) ∙ h)))
    by rest false h false f =
        rest (sym (picked _ false (Some x.1) (lookup (key_eq k) es) h) ∙ e)
        ∙ ap source_in (sym (picked _ false (driver_by (option_map leaf_of_key x.1)) (driver_of es (leaf_of_key k)) f))

-- Links

pub link_more : (flip : Bool) (region : Region) (parts : List TypeLeaf) (sources : List Leaf) (i : ℕ) (x : TypeLeaf) (y : Leaf) (old now' new : Leaf → Driver)
    → i < length (zip parts sources) → (x, y) ≡ get_or (zip parts sources) i (x, y)
    → ((leaf : Leaf) → now' leaf ≡ linked flip region leaf (old leaf) (take i (zip parts sources)))
    → ((leaf : Leaf) → new leaf ≡ (if may_be flip region leaf x then From y else now' leaf))
    → (leaf : Leaf) → new leaf ≡ linked flip region leaf (old leaf) (take (i + 1) (zip parts sources))
link_more flip region parts sources i x y old now' new lt is h k leaf =
    let step : Driver → TypeLeaf × Leaf → Driver = λ driver both. if may_be flip region leaf both.0 then From both.1 else driver in
    k leaf ∙ ap (λ d. step d (x, y)) (h leaf) ∙ ap (step (linked flip region leaf (old leaf) (take i (zip parts sources)))) is
    ∙ sym (fold_more step (old leaf) (zip parts sources) i (x, y) lt)

false_or : (a b : Bool) → (a || b) ≡ false → (a ≡ false) × (b ≡ false)
false_or true b e = absurd (true≢false e)
false_or false b e = (refl, e)

unlinked : (flip : Bool) (region : Region) (leaf : Leaf) (last : Driver) (parts : List TypeLeaf) (sources : List Leaf) → list_any (may_be flip region leaf) parts ≡ false
    → linked flip region leaf last (zip parts sources) ≡ last
unlinked flip region leaf last [] sources e = refl
unlinked flip region leaf last (x ∷ parts) [] e = refl
unlinked flip region leaf last (x ∷ parts) (y ∷ sources) e =
    let both = false_or (may_be flip region leaf x) (list_any (may_be flip region leaf) parts) e in
    ap (λ d. linked flip region leaf d (zip parts sources)) (picked _ false (From y) last both.0) ∙ unlinked flip region leaf last parts sources both.1

-- a side without a dynamic index
pub side_linked : (flip : Bool) (region : Region) (leaf : Leaf) (old mid new : Driver) (sources : List Leaf) → region.dynamic ≡ false
    → mid ≡ (if may_name flip (Some region) leaf then No_driver else old) → new ≡ linked flip region leaf mid (zip (leaves region.typ) sources)
    → new ≡ (if may_name flip (Some region) leaf then source_for flip leaf (Some region) sources else old)
side_linked flip region leaf old mid new sources s h k = by (may_name flip (Some region) leaf) refl
  where
    by : (b : Bool) → may_name flip (Some region) leaf ≡ b → new ≡ (if may_name flip (Some region) leaf then source_for flip leaf (Some region) sources else old)
    by true e =
        k ∙ ap (λ d. linked flip region leaf d (zip (leaves region.typ) sources)) (h ∙ picked _ true No_driver old e)
        ∙ sym (picked region.dynamic false No_driver (source_at flip leaf region sources) s) ∙ sym (picked _ true (source_for flip leaf (Some region) sources) old e)
    by false e =
        k ∙ ap (λ d. linked flip region leaf d (zip (leaves region.typ) sources)) (h ∙ picked _ false No_driver old e)
        ∙ unlinked flip region leaf old (leaves region.typ) sources e ∙ sym (picked _ false (source_for flip leaf (Some region) sources) old e)

-- and one with it
pub side_dynamic : (flip : Bool) (region : Region) (leaf : Leaf) (old new : Driver) (sources : List Leaf) → region.dynamic ≡ true
    → new ≡ (if may_name flip (Some region) leaf then No_driver else old)
    → new ≡ (if may_name flip (Some region) leaf then source_for flip leaf (Some region) sources else old)
side_dynamic flip region leaf old new sources s h =
    h ∙ ap (λ d. if may_name flip (Some region) leaf then d else old) (sym (picked region.dynamic true No_driver (source_at flip leaf region sources) s))

-- A side as the walk sees it

pub side_at : (o : Option Region) (reach : Reach) → Reaches o (Some reach) → (flip : Bool) (leaf : Leaf) (sources : List Leaf) (old : Driver)
    → (if may_name flip (Some (region_at reach)) leaf then source_for flip leaf (Some (region_at reach)) sources else old) ≡ (if may_name flip o leaf then source_for flip leaf o sources else old)
side_at None reach e flip leaf sources old = absurd e
side_at (Some region) reach e flip leaf sources old = ap (λ (r : Region). if may_name flip (Some r) leaf then source_for flip leaf (Some r) sources else old) (sym e)

pub side_none : (o : Option Region) → Reaches o None → (flip : Bool) (leaf : Leaf) → may_name flip o leaf ≡ false
side_none None e flip leaf = refl
side_none (Some region) (inl e) flip leaf = ap (list_any (may_be flip region leaf)) e
side_none (Some region) (inr e) flip leaf = none_of (may_be flip region leaf) (leaves region.typ)
    (λ part. ap (λ xs. is_turned flip part && list_any (λ at. same_leaf at leaf) xs) (ap (map (leaf_at part.path)) e) ∙ and_false (is_turned flip part))
  where
    leaf_at : List PathStep → List PathStep → Leaf
    leaf_at path way = record { component = region.component; way = way ++ path }

-- nothing is named where no part has a way
no_parts : (region : Region) (parts : List TypeLeaf) → region.ways ≡ [] → flat_map (λ part. leaves_at region part.path) parts ≡ []
no_parts region [] e = refl
no_parts region (part ∷ parts) e = ap (λ (xs : List Leaf). xs ++ flat_map (λ p. leaves_at region p.path) parts) (at part.path) ∙ no_parts region parts e
  where
    leaf_at : List PathStep → List PathStep → Leaf
    leaf_at path way = record { component = region.component; way = way ++ path }

    at : (path : List PathStep) → leaves_at region path ≡ []
    at path = ap (map (leaf_at path)) e

pub none_named : (o : Option Region) → Reaches o None → leaves_of_region o ≡ []
none_named None e = refl
none_named (Some region) (inl e) = by region.dynamic
  where
    by : (b : Bool) → (if b then [] else flat_map (λ part. leaves_at region part.path) (leaves region.typ)) ≡ []
    by true = refl
    by false = ap (flat_map (λ part. leaves_at region part.path)) e
none_named (Some region) (inr e) = by region.dynamic
  where
    by : (b : Bool) → (if b then [] else flat_map (λ part. leaves_at region part.path) (leaves region.typ)) ≡ []
    by true = refl
    by false = no_parts region (leaves region.typ) e

pub unnamed : (b : Bool) (d old : Driver) → b ≡ false → old ≡ (if b then d else old)
unnamed b d old e = sym (picked b false d old e)

zip_nothing : {A B : Type 0} (xs : List A) (ys : List B) → ys ≡ [] → zip xs ys ≡ []
zip_nothing [] ys e = refl
zip_nothing (x ∷ xs) ys e = ap (zip (x ∷ xs)) e

pub no_source : (flip : Bool) (leaf : Leaf) (o : Option Region) → source_for flip leaf o [] ≡ No_driver
no_source flip leaf None = refl
no_source flip leaf (Some region) = by region.dynamic
  where
    by : (b : Bool) → (if b then No_driver else source_at flip leaf region []) ≡ No_driver
    by true = refl
    by false = ap (linked flip region leaf No_driver) (zip_nothing (leaves region.typ) [] refl)

-- Components without Clock leaves

pub both_unnamed : (types : Scope) (leaf : Leaf) (left right : Expr) (old : Driver) → may_name false (region_of types left) leaf ≡ false → may_name true (region_of types right) leaf ≡ false
    → old ≡ connected types leaf left right old
both_unnamed types leaf left right old l r =
    unnamed _ (source_for true leaf (region_of types right) (named_leaves types left)) old r
    ∙ unnamed _ (source_for false leaf (region_of types left) (named_leaves types right)) _ l

pub both_driven : (types : Scope) (leaf : Leaf) (left right : Expr) (old mid new : Driver) (of_left of_right : List Leaf)
    → of_left ≡ named_leaves types left → of_right ≡ named_leaves types right
    → mid ≡ (if may_name true (region_of types right) leaf then source_for true leaf (region_of types right) of_left else old)
    → new ≡ (if may_name false (region_of types left) leaf then source_for false leaf (region_of types left) of_right else mid)
    → new ≡ connected types leaf left right old
both_driven types leaf left right old mid new of_left of_right l r h k =
    k ∙ ap₂ (λ sources d. if may_name false (region_of types left) leaf then source_for false leaf (region_of types left) sources else d) r
    (h ∙ ap (λ sources. if may_name true (region_of types right) leaf then source_for true leaf (region_of types right) sources else old) l)

pub both_undriven : (types : Scope) (leaf : Leaf) (target : Expr) (old mid new : Driver)
    → mid ≡ (if may_name true (region_of types target) leaf then source_for true leaf (region_of types target) [] else old)
    → new ≡ (if may_name false (region_of types target) leaf then source_for false leaf (region_of types target) [] else mid)
    → new ≡ invalidated types leaf target old
both_undriven types leaf target old mid new h k =
    k ∙ ap₂ (λ x d. if may_name false (region_of types target) leaf then x else d) (no_source false leaf (region_of types target))
    (h ∙ ap (λ x. if may_name true (region_of types target) leaf then x else old) (no_source true leaf (region_of types target)))

pub copied_map : (r : Option (Bor LeafKey)) → option_map (λ s. leaf_of_key s.now) r ≡ option_map leaf_of_key (option_copied r)
copied_map None = refl
copied_map (Some s) = refl

pub zip_get : (parts : List TypeLeaf) (keys : List LeafKey) (i : ℕ) (x : TypeLeaf) (k : LeafKey) → i < length parts → i < length keys → x ≡ get_or parts i x → k ≡ get_or keys i k
    → (i < length (zip parts (map leaf_of_key keys))) × ((x, leaf_of_key k) ≡ get_or (zip parts (map leaf_of_key keys)) i (x, leaf_of_key k))
zip_get [] keys i x k lt below is at = absurd (omega (arith, lt))
zip_get (p ∷ parts) [] i x k lt below is at = absurd (omega (arith, below))
zip_get (p ∷ parts) (q ∷ keys) zero x k lt below is at = (omega arith, λ j. (is j, leaf_of_key (at j)))
zip_get (p ∷ parts) (q ∷ keys) (suc i) x k lt below is at =
    let rest = zip_get parts keys i x k (omega (arith, lt)) (omega (arith, below)) is at in
    (omega (arith, rest.0), rest.1)

pub link_next : (flip : Bool) (region : Region) (parts : List TypeLeaf) (keys : List LeafKey) (i : ℕ) (x : TypeLeaf) (k : LeafKey) (old now' new : Leaf → Driver)
    → i < length parts → i < length keys → x ≡ get_or parts i x → k ≡ get_or keys i k
    → ((leaf : Leaf) → now' leaf ≡ linked flip region leaf (old leaf) (take i (zip parts (map leaf_of_key keys))))
    → ((leaf : Leaf) → new leaf ≡ (if may_be flip region leaf x then From (leaf_of_key k) else now' leaf))
    → (leaf : Leaf) → new leaf ≡ linked flip region leaf (old leaf) (take (i + 1) (zip parts (map leaf_of_key keys)))
link_next flip region parts keys i x k old now' new lt below is at h n =
    let both = zip_get parts keys i x k lt below is at in
    link_more flip region parts (map leaf_of_key keys) i x (leaf_of_key k) old now' new both.0 both.1 h n

pub zip_whole : (parts : List TypeLeaf) (keys : List LeafKey) (i n : ℕ) → n ≡ min (length parts) (length keys) → n ≤ i → take i (zip parts (map leaf_of_key keys)) ≡ zip parts (map leaf_of_key keys)
zip_whole parts keys i n m le =
    let sources : List Leaf = map leaf_of_key keys in
    let size : length (zip parts sources) ≡ n = length-zip parts sources ∙ ap (min (length parts)) (length-map keys leaf_of_key) ∙ sym m in
    take_all i (zip parts sources) (omega (arith, size, le))

pub link_whole : (flip : Bool) (region : Region) (parts : List TypeLeaf) (keys : List LeafKey) (i n : ℕ) (old now' : Leaf → Driver) → n ≡ min (length parts) (length keys) → n ≤ i
    → ((leaf : Leaf) → now' leaf ≡ linked flip region leaf (old leaf) (take i (zip parts (map leaf_of_key keys))))
    → (leaf : Leaf) → now' leaf ≡ linked flip region leaf (old leaf) (zip parts (map leaf_of_key keys))
link_whole flip region parts keys i n old now' m le h leaf =
    h leaf ∙ ap (linked flip region leaf (old leaf)) (zip_whole parts keys i n m le)
