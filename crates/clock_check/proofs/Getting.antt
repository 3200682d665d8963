-- The edges that the walk finds are the links of chains of clocks.
use Rattle.std.proofs.Common.{◌≡◌, ℕ, zero, suc, ◌==◌, Bool, true, false, ◌&&◌, ◌||◌, not, List, [], ◌∷◌, map, zip, slice_get, Option, Some, None, if◌then◌else◌, refl, sym, ap, ap₂, ◌∙◌, subst, ⊎_elim, true≢false, eq-eqb}
use Rattle.std.specs.Prelude.{Contains, ◌↔◌}
use Rattle.std.specs.List.{list_any}
use Rattle.std.proofs.lemmas.List.Elements.{Contains-append_cases, Contains-append_left, Contains-append_right}
use Rattle.fir_types.specs.declared.fir_type.FirType.{FirType}
use Rattle.fir_types.specs.declared.leaf.TypeLeaf.{TypeLeaf}
use Rattle.fir_types.specs.declared.leaf.PathStep.{PathStep}
use Rattle.fir_types.specs.declared.leaf.PathStep.TheVariants as step
use Rattle.fir_types.specs.Leaves.{leaves, is_clock}
use Rattle.fir_types.proofs.Layers.{leaves-bundle}
use Rattle.std.proofs.lemmas.Bool.{eqb-true}
use Rattle.fir_tree.specs.declared.scope.Fitted.{Fitted}
use Rattle.circuit_laws.specs.WellFormed.{IsWellFormed}
use Rattle.circuit_laws.specs.Designs.{component_of}
use Rattle.fir_tree.specs.declared.circuit.Module.{Module}
use Rattle.fir_tree.specs.declared.expr.Expr.{Expr}
use Rattle.fir_meaning.specs.Components.{Design, TypedModule, Component, modules_of, module_at, component_named, type_in, type_or_empty, FlatLeaf, Leaf, Declaration, Sort, An_input, An_output, A_wire, A_register, A_reset_register, A_memory, An_instance, A_node, declarations_of, flow_of, flat}
use Rattle.fir_meaning.specs.Drives.{same_leaf, same_way, same_step}
use Rattle.fir_meaning.specs.Mentions.{Scope}
use Rattle.fir_meaning.specs.States.{is_source}
use Rattle.fir_meaning.specs.ClockRoot as clock
use Rattle.fir_meaning.specs.ClockRoot.{Driver, Undriven, No_driver, From, driver_in, named_leaves, ClockFrom}
use Rattle.fir_meaning.proofs.Ports.{from_flat_map}
use Rattle.fir_meaning.proofs.Tracking.{Contains-flat_map, none_some}
use Rattle.fir_names.proofs.Graphs.{some_same}
use Rattle.drive_check.proofs.KeyTests.{leaf_equal}
use Rattle.drive_check.proofs.Telling.{AreOnce, placed, get_contains, contains_get, none_in, find_in, zipped}
use Rattle.clock_check.specs.Edges.{Edge, edge_from, part_of, driven_edge, driven_edges, node_edge, node_edges, edges_by, module_edges}
use Rattle.clock_check.specs.Gets.{Gets, LinkAt, by_connect, by_node}
use Rattle.clock_check.proofs.Declaring.{module_finds}

-- Tests and elements

any_in : {A : Type 0} (p : A → Bool) (xs : List A) → list_any p xs ≡ true → (x : A) × Contains xs x × (p x ≡ true)
any_in p [] e = absurd (true≢false (sym e))
any_in p (x ∷ xs) e = by (p x) refl (λ h. any_in p xs h)
  where
    by : (b : Bool) → p x ≡ b → (list_any p xs ≡ true → (y : _) × Contains xs y × (p y ≡ true)) → (y : _) × Contains (x ∷ xs) y × (p y ≡ true)
    by true h rest = (x, get_contains (x ∷ xs) 0 x refl, h)
    by false h rest =
        let r = rest (sym (ap (λ b. b || list_any p xs) h) ∙ e) in
        let at = contains_get xs r.0 r.1 in
        (r.0, get_contains (x ∷ xs) (suc at.0) r.0 at.1, r.2)

or_true : (b c : Bool) → c ≡ true → (b || c) ≡ true
or_true true c e = refl
or_true false c e = e

in_any : {A : Type 0} (p : A → Bool) (xs : List A) (k : ℕ) (x : A) → slice_get xs k ≡ Some x → p x ≡ true → list_any p xs ≡ true
in_any p [] k x e h = absurd (none_some e)
in_any p (y ∷ xs) zero x e h = ap (λ b. b || list_any p xs) (ap p (some_same e) ∙ h)
in_any p (y ∷ xs) (suc k) x e h = or_true (p y) (list_any p xs) (in_any p xs k x e h)

and_parts : (a b : Bool) → (a && b) ≡ true → (a ≡ true) × (b ≡ true)
and_parts true b e = (refl, e)
and_parts false b e = absurd (true≢false (sym e))

and_both : (a b : Bool) → a ≡ true → b ≡ true → (a && b) ≡ true
and_both a b e h = ap (λ x. x && b) e ∙ h

same_number : (n : ℕ) → (n == n) ≡ true
same_number n = eq-eqb n n refl

step_itself : (s : PathStep) → same_step s s ≡ true
step_itself (step.Field n) = same_number n
step_itself (step.Element n) = same_number n

way_itself : (way : List PathStep) → same_way way way ≡ true
way_itself [] = refl
way_itself (s ∷ way) = and_both (same_step s s) (same_way way way) (step_itself s) (way_itself way)

leaf_itself : (x : Leaf) → same_leaf x x ≡ true
leaf_itself x = and_both (x.component == x.component) (same_way x.way x.way) (same_number x.component) (way_itself x.way)

same_edge : Edge → Edge → Bool
same_edge e f = same_leaf e.0 f.0 && same_leaf e.1 f.1

edge_itself : (e : Edge) → same_edge e e ≡ true
unfolding same_edge
edge_itself e = and_both (same_leaf e.0 e.0) (same_leaf e.1 e.1) (leaf_itself e.0) (leaf_itself e.1)

edge_equal : (e f : Edge) → same_edge e f ≡ true → e ≡ f
unfolding same_edge
edge_equal e f h =
    let both = and_parts (same_leaf e.0 f.0) (same_leaf e.1 f.1) h in
    ap₂ (λ (x y : Leaf). (x, y)) (leaf_equal e.0 f.0 both.0) (leaf_equal e.1 f.1 both.1)

-- Edges of a module are those of its declarations.

pub edge_declared : (types : Scope) (holder : Module) (e : Edge) → Contains (module_edges types holder) e → (d : Declaration) × Contains (declarations_of holder) d × Contains (edges_by types d) e
edge_declared types holder e c =
    let at = contains_get (module_edges types holder) e c in
    let d = any_in (λ d. list_any (same_edge e) (edges_by types d)) (declarations_of holder)
    (sym (module_finds types (same_edge e) holder) ∙ in_any (same_edge e) (module_edges types holder) at.0 e at.1 (edge_itself e)) in
    let f = any_in (same_edge e) (edges_by types d.0) d.2 in
    (d.0, d.1, subst (Contains (edges_by types d.0)) (sym (edge_equal e f.0 f.2)) f.1)

pub declared_edge : (types : Scope) (holder : Module) (e : Edge) (d : Declaration) → Contains (declarations_of holder) d → Contains (edges_by types d) e → Contains (module_edges types holder) e
declared_edge types holder e d c h =
    let at = contains_get (declarations_of holder) d c in
    let in' = contains_get (edges_by types d) e h in
    let f = any_in (same_edge e) (module_edges types holder)
    (module_finds types (same_edge e) holder
    ∙ in_any (λ x. list_any (same_edge e) (edges_by types x)) (declarations_of holder) at.0 d at.1 (in_any (same_edge e) (edges_by types d) in'.0 e in'.1 (edge_itself e))) in
    subst (Contains (module_edges types holder)) (sym (edge_equal e f.0 f.2)) f.1

-- Edges of a declaration

from_cond : {A : Type 0} (b : Bool) (xs : List A) (x : A) → Contains (if b then xs else []) x → (b ≡ true) × Contains xs x
from_cond true xs x c = (refl, c)
from_cond false xs x c = absurd (none_in x c)

to_cond : {A : Type 0} (b : Bool) (xs : List A) (x : A) → b ≡ true → Contains xs x → Contains (if b then xs else []) x
to_cond b xs x e c = subst (λ q. Contains (if q then xs else []) x) (sym e) c

pub one_in : {A : Type 0} (x y : A) → Contains (x ∷ []) y → x ≡ y
one_in x y c = by (contains_get (x ∷ []) y c)
  where
    by : (k : ℕ) × (slice_get (x ∷ []) k ≡ Some y) → x ≡ y
    by (zero, e) = some_same e
    by (suc k, e) = absurd (none_some e)

edge_driver : (x : Leaf) (d : Driver) (e : Edge) → Contains (edge_from x d) e → (d ≡ From e.1) × (e.0 ≡ x)
edge_driver x Undriven e c = absurd (none_in e c)
edge_driver x No_driver e c = absurd (none_in e c)
edge_driver x (From y) e c = let is = one_in (x, y) e c in (ap (λ (f : Edge). From f.1) is, ap (λ (f : Edge). f.0) (sym is))

driver_edge : (x : Leaf) (d : Driver) (y : Leaf) → d ≡ From y → Contains (edge_from x d) (x, y)
driver_edge x d y e = subst (λ q. Contains (edge_from x q) (x, y)) (sym e) (get_contains ((x, y) ∷ []) 0 (x, y) refl)

zip_parts : {A B : Type 0} (xs : List A) (ys : List B) (k : ℕ) (both : A × B) → slice_get (zip xs ys) k ≡ Some both → (slice_get xs k ≡ Some both.0) × (slice_get ys k ≡ Some both.1)
zip_parts [] ys k both e = absurd (none_some e)
zip_parts (x ∷ xs) [] k both e = absurd (none_some e)
zip_parts (x ∷ xs) (y ∷ ys) zero both e = (ap (λ b. Some b.0) (some_same e), ap (λ b. Some b.1) (some_same e))
zip_parts (x ∷ xs) (y ∷ ys) (suc k) both e = zip_parts xs ys k both e

zip_at : {A B : Type 0} (xs : List A) (ys : List B) (k : ℕ) (x : A) (y : B) → slice_get xs k ≡ Some x → slice_get ys k ≡ Some y → slice_get (zip xs ys) k ≡ Some (x, y)
zip_at [] ys k x y e f = absurd (none_some e)
zip_at (a ∷ xs) [] k x y e f = absurd (none_some f)
zip_at (a ∷ xs) (b ∷ ys) zero x y e f = ap₂ (λ p q. Some (p, q)) (some_same e) (some_same f)
zip_at (a ∷ xs) (b ∷ ys) (suc k) x y e f = zip_at xs ys k x y e f

-- how a declaration has the edge
pub data Has (types : Scope) (d : Declaration) (e : Edge) : Type 0 where
  driven : (leaf : TypeLeaf) → Contains (leaves (types d.name)) leaf → is_clock leaf ≡ true → is_source (flow_of d.sort leaf.flip) ≡ false
      → driver_in types (part_of d.name leaf) d.block ≡ From e.1 → e.0 ≡ part_of d.name leaf → Has types d e
  node : (expr : Expr) (k : ℕ) (leaf : TypeLeaf) → d.sort ≡ A_node expr → slice_get (leaves (types d.name)) k ≡ Some leaf → slice_get (named_leaves types expr) k ≡ Some e.1
      → is_clock leaf ≡ true → e.0 ≡ part_of d.name leaf → Has types d e

not_true : (b : Bool) → not b ≡ true → b ≡ false
not_true true e = absurd (true≢false (sym e))
not_true false e = refl

pub edge_has : (types : Scope) (d : Declaration) (e : Edge) → Contains (edges_by types d) e → Has types d e
edge_has types d e c = ⊎_elim
    (λ h.
    let from = from_flat_map (driven_edge driver d.sort d.name) (leaves (types d.name)) e h in
    let tests = from_cond (is_clock from.0 && not (is_source (flow_of d.sort from.0.flip))) (edge_from (part_of d.name from.0) (driver (part_of d.name from.0))) e from.2 in
    let both = and_parts (is_clock from.0) (not (is_source (flow_of d.sort from.0.flip))) tests.0 in
    let is = edge_driver (part_of d.name from.0) (driver (part_of d.name from.0)) e tests.1 in
    driven from.0 from.1 both.0 (not_true (is_source (flow_of d.sort from.0.flip)) both.1) is.0 is.1)
    (λ h. by d.sort refl h)
    (Contains-append_cases (driven_edges types driver d.name d.sort) (node_edges types d.name d.sort) e c)
  where
    driver : Leaf → Driver
    driver leaf = driver_in types leaf d.block

    by : (sort : Sort) → d.sort ≡ sort → Contains (node_edges types d.name sort) e → Has types d e
    by (A_node expr) s h =
        let from = from_flat_map (node_edge d.name) (zip (leaves (types d.name)) (named_leaves types expr)) e h in
        let at = contains_get (zip (leaves (types d.name)) (named_leaves types expr)) from.0 from.1 in
        let parts = zip_parts (leaves (types d.name)) (named_leaves types expr) at.0 from.0 at.1 in
        let tests = from_cond (is_clock from.0.0) ((part_of d.name from.0.0, from.0.1) ∷ []) e from.2 in
        let is = one_in (part_of d.name from.0.0, from.0.1) e tests.1 in
        node expr at.0 from.0.0 s parts.0 (parts.1 ∙ ap (λ (f : Edge). Some f.1) is) tests.0 (ap (λ (f : Edge). f.0) (sym is))
    by An_input s h = absurd (none_in e h)
    by An_output s h = absurd (none_in e h)
    by A_wire s h = absurd (none_in e h)
    by (A_register c) s h = absurd (none_in e h)
    by (A_reset_register c r i) s h = absurd (none_in e h)
    by (A_memory m) s h = absurd (none_in e h)
    by (An_instance t) s h = absurd (none_in e h)

false_not : (b : Bool) → b ≡ false → not b ≡ true
false_not b e = ap not e

pub has_edge : (types : Scope) (d : Declaration) (e : Edge) → Has types d e → Contains (edges_by types d) e
has_edge types d e (driven leaf c clock source is at) =
    let driver : Leaf → Driver = λ x. driver_in types x d.block in
    let x : Leaf = part_of d.name leaf in
    let one : Contains (driven_edge driver d.sort d.name leaf) (x, e.1) = to_cond (is_clock leaf && not (is_source (flow_of d.sort leaf.flip))) (edge_from x (driver x)) (x, e.1)
    (and_both (is_clock leaf) (not (is_source (flow_of d.sort leaf.flip))) clock (false_not (is_source (flow_of d.sort leaf.flip)) source)) (driver_edge x (driver x) e.1 is) in
    Contains-append_left (driven_edges types driver d.name d.sort) (node_edges types d.name d.sort) e
    (subst (Contains (driven_edges types driver d.name d.sort)) (ap (λ (z : Leaf). (z, e.1)) (sym at)) (Contains-flat_map (driven_edge driver d.sort d.name) (leaves (types d.name)) leaf (x, e.1) c one))
has_edge types d e (node expr k leaf s g h clock at) =
    let driver : Leaf → Driver = λ x. driver_in types x d.block in
    let x : Leaf = part_of d.name leaf in
    let one : Contains (node_edge d.name (leaf, e.1)) (x, e.1) = to_cond (is_clock leaf) ((x, e.1) ∷ []) (x, e.1) clock (get_contains ((x, e.1) ∷ []) 0 (x, e.1) refl) in
    let all : Contains (node_edges types d.name (A_node expr)) (x, e.1) = Contains-flat_map (node_edge d.name) (zip (leaves (types d.name)) (named_leaves types expr)) (leaf, e.1) (x, e.1)
    (get_contains (zip (leaves (types d.name)) (named_leaves types expr)) k (leaf, e.1) (zip_at (leaves (types d.name)) (named_leaves types expr) k leaf e.1 g h)) one in
    Contains-append_right (driven_edges types driver d.name d.sort) (node_edges types d.name d.sort) e
    (subst (λ q. Contains (node_edges types d.name q) e) (sym s) (subst (Contains (node_edges types d.name (A_node expr))) (ap (λ (z : Leaf). (z, e.1)) (sym at)) all))

-- Links of chains are links at paths.

pub link_at : (design : Design) (x y : FlatLeaf) → ClockFrom design x y → LinkAt design x y
link_at design x y (clock.by_connect path m c leaf source stands is flow driver) =
    record { path = path; m = m; sink = _; source = source; reached = stands.reached; gets = by_connect c leaf source stands.declared stands.listed is flow driver; from = refl; to = refl }
link_at design x y (clock.by_node path m c leaf e k source stands is sort at named) =
    record { path = path; m = m; sink = _; source = source; reached = stands.reached; gets = by_node c leaf e k source stands.declared stands.listed is sort at named; from = refl; to = refl }

pub at_link : (design : Design) (path : List ℕ) (m : TypedModule) (x y : Leaf) → module_at design path ≡ Some m → Gets m x y → ClockFrom design (flat m path x) (flat m path y)
at_link design path m x y reached (by_connect c leaf source declared listed is flow driver) =
    clock.by_connect path m c leaf source (record { reached = reached; declared = declared; listed = listed }) is flow driver
at_link design path m x y reached (by_node c leaf e k source declared listed is sort at named) =
    clock.by_node path m c leaf e k source (record { reached = reached; declared = declared; listed = listed }) is sort at named

-- Edges of a module are the links of its chains.

abbrev pub HasComponents : TypedModule → Module → List FirType → Type 0
HasComponents m holder ts = m.components ≡ map component_of (zip (declarations_of holder) ts)

abbrev pub IsOnce : Module → Type 0
IsOnce holder = (j k : ℕ) (d e : Declaration) → slice_get (declarations_of holder) j ≡ Some d → slice_get (declarations_of holder) k ≡ Some e → d.name ≡ e.name → j ≡ k

-- a component of a name, with its place among the declarations
record Known (m : TypedModule) (holder : Module) (d : Declaration) : Type 0 where
  c : Component
  named : component_named m c.declaration.name ≡ Some c
  same : c.declaration ≡ d
  typ : type_in m d.name ≡ c.typ

no_leaf : (leaf : TypeLeaf) → Contains (leaves (type_or_empty None)) leaf → ⊥
no_leaf leaf h = none_in leaf (subst (λ l. Contains l leaf) none h)
  where
    none : leaves (type_or_empty None) ≡ []
    none = leaves-bundle (type_or_empty None) [] refl

known_by : (m : TypedModule) (holder : Module) (ts : List FirType) → HasComponents m holder ts → IsOnce holder → (d : Declaration) → Contains (declarations_of holder) d
    → (leaf : TypeLeaf) → Contains (leaves (type_in m d.name)) leaf → Known m holder d
known_by m holder ts is once d has leaf l = by (component_named m d.name) refl
  where
    by : (o : Option Component) → component_named m d.name ≡ o → Known m holder d
    by None e = absurd (no_leaf leaf (subst (λ o. Contains (leaves (type_or_empty o)) leaf) e l))
    by (Some c) e =
        let at = find_in (λ x. x.declaration.name == d.name) m.components c e in
        let name : c.declaration.name ≡ d.name = eqb-true c.declaration.name d.name at.2 in
        let there' : slice_get (declarations_of holder) at.0 ≡ Some c.declaration = zipped (declarations_of holder) ts at.0 c (ap (λ l. slice_get l at.0) (sym is) ∙ at.1) in
        let own = contains_get (declarations_of holder) d has in
        let number : at.0 ≡ own.0 = once at.0 own.0 c.declaration d there' own.1 name in
        record {
          c = c;
          named = ap (component_named m) name ∙ e;
          same = some_same (sym there' ∙ ap (slice_get (declarations_of holder)) number ∙ own.1);
          typ = ap type_or_empty e;
        }

has_gets : (m : TypedModule) (d : Declaration) (e : Edge) (c : Component) → component_named m c.declaration.name ≡ Some c → c.declaration ≡ d → type_in m d.name ≡ c.typ → Has (type_in m) d e
    → Gets m e.0 e.1
has_gets m d e c named same typ (driven leaf l clock source is at) =
    subst (λ x. Gets m x e.1) (sym (at ∙ ap (λ (y : Declaration). part_of y.name leaf) (sym same)))
    (by_connect c leaf e.1 named (subst (λ t. Contains (leaves t) leaf) typ l) clock
    (ap (λ (y : Declaration). is_source (flow_of y.sort leaf.flip)) same ∙ source)
    (ap (λ (y : Declaration). driver_in (type_in m) (part_of y.name leaf) y.block) same ∙ is))
has_gets m d e c named same typ (node expr k leaf s g h clock at) =
    subst (λ x. Gets m x e.1) (sym (at ∙ ap (λ (y : Declaration). part_of y.name leaf) (sym same)))
    (by_node c leaf expr k e.1 named (subst (λ t. Contains (leaves t) leaf) typ (get_contains (leaves (type_in m d.name)) k leaf g)) clock
    (ap (λ (y : Declaration). y.sort) same ∙ s) (ap (λ t. slice_get (leaves t) k) (sym typ) ∙ g) h)

leaf_in : (types : Scope) (d : Declaration) (e : Edge) → Has types d e → (leaf : TypeLeaf) × Contains (leaves (types d.name)) leaf
leaf_in types d e (driven leaf l clock source is at) = (leaf, l)
leaf_in types d e (node expr k leaf s g h clock at) = (leaf, get_contains (leaves (types d.name)) k leaf g)

pub edge_gets : (m : TypedModule) (holder : Module) (ts : List FirType) → HasComponents m holder ts → IsOnce holder → (x y : Leaf) → Contains (module_edges (type_in m) holder) (x, y) → Gets m x y
edge_gets m holder ts is once x y c =
    let d = edge_declared (type_in m) holder (x, y) c in
    let has = edge_has (type_in m) d.0 (x, y) d.2 in
    let l = leaf_in (type_in m) d.0 (x, y) has in
    let k = known_by m holder ts is once d.0 d.1 l.0 l.1 in
    has_gets m d.0 (x, y) k.c k.named k.same k.typ has

declared_at : (m : TypedModule) (holder : Module) (ts : List FirType) → HasComponents m holder ts → (c : Component) → component_named m c.declaration.name ≡ Some c → Contains (declarations_of holder) c.declaration
declared_at m holder ts is c named =
    let at = find_in (λ x. x.declaration.name == c.declaration.name) m.components c named in
    get_contains (declarations_of holder) at.0 c.declaration (zipped (declarations_of holder) ts at.0 c (ap (λ l. slice_get l at.0) (sym is) ∙ at.1))

pub gets_edge : (m : TypedModule) (holder : Module) (ts : List FirType) → HasComponents m holder ts → (x y : Leaf) → Gets m x y → Contains (module_edges (type_in m) holder) (x, y)
gets_edge m holder ts is x y (by_connect c leaf source named l clock flow driver) =
    let typ : type_in m c.declaration.name ≡ c.typ = ap type_or_empty named in
    let d : Declaration = c.declaration in
    declared_edge (type_in m) holder (part_of d.name leaf, source) d (declared_at m holder ts is c named)
    (has_edge (type_in m) d (part_of d.name leaf, source) (driven leaf (subst (λ t. Contains (leaves t) leaf) (sym typ) l) clock flow driver refl))
gets_edge m holder ts is x y (by_node c leaf e k source named l clock sort at given) =
    let typ : type_in m c.declaration.name ≡ c.typ = ap type_or_empty named in
    let d : Declaration = c.declaration in
    declared_edge (type_in m) holder (part_of d.name leaf, source) d (declared_at m holder ts is c named)
    (has_edge (type_in m) d (part_of d.name leaf, source) (node e k leaf sort (ap (λ t. slice_get (leaves t) k) typ ∙ at) given clock refl))

-- the same of a module of a circuit
pub edges_are_links : (fitted : Fitted) → IsWellFormed fitted → AreOnce fitted → (k : ℕ) (holder : Module) (m : TypedModule) → slice_get fitted.checked.resolved.modules k ≡ Some holder
    → slice_get (modules_of fitted) k ≡ Some m → (x y : Leaf) → Contains (module_edges (type_in m) holder) (x, y) ↔ Gets m x y
edges_are_links fitted well once k holder m here' number x y =
    let its = placed fitted.checked.resolved.modules fitted.declared fitted.checked.scope.reached k holder m here' number in
    let in' : Contains fitted.checked.resolved.modules holder = get_contains fitted.checked.resolved.modules k holder here' in
    (λ c. edge_gets m holder its.declared its.is (once holder in') x y c, λ g. gets_edge m holder its.declared its.is x y g)
