-- What is known of a module's components by their names.
use Rattle.std.proofs.Common.{◌≡◌, ℕ, zero, suc, ◌+◌, ◌<◌, ◌==◌, ◌&&◌, Bool, true, false, List, [], ◌∷◌, length, slice_get, get_or, nat_eq, nat_lt, cond, Option, Some, None, option_map, refl, sym, ap, ap₂, ◌∙◌, arith, true≢false}
use Rattle.std.specs.List.{find, position, position_or_len}
use Rattle.std.specs.Map.{lookup}
use Rattle.std.proofs.lemmas.Grind.{common_steps}
use Rattle.std.proofs.lemmas.List.Quantifiers.{position-Some}
use Rattle.std.proofs.lemmas.List.Sums.{position_or_len_is}
use Rattle.fir_types.specs.declared.leaf.PathStep.{PathStep}
use Rattle.fir_types.specs.declared.leaf.PathStep.TheVariants as step
use Rattle.fir_types.specs.declared.leaf.TypeLeaf.{TypeLeaf}
use Rattle.fir_types.specs.Leaves.{leaves}
use Rattle.fir_tree.specs.declared.circuit.Module.{Module}
use Rattle.fir_meaning.specs.Components.{TypedModule, Component, Leaf, component_named, type_in, type_or_empty}
use Rattle.fir_meaning.specs.Drives.{same_step, same_way, same_leaf}
use Rattle.fir_meaning.specs.States.{leaf_of}
use Rattle.fir_meaning.specs.WellTyped.{HasTypes, known_in, are_typed, is_narrow}
use Rattle.fir_meaning.proofs.Ports.{component_found}
use Rattle.circuit_laws.proofs.Opening.{below_true}
use Rattle.ground_net.specs.Shapes.{Table}
use Rattle.net_of_circuit.specs.Numbers.{ModuleLeaf, module_leaves, number_of, leaves_before}
use Rattle.ground_exprs.proofs.Members.{none_some, some_same, at_place, from_place, place_within, item_at}
use Rattle.ground_exprs.specs.declared.component.Component.{Component as Entry}
use Rattle.ground_exprs.specs.Sources.{Entries, AreNarrow, Knows, known_of}
use Rattle.ground_statements.specs.Connects.{IsOneToOne}
use Rattle.ground_statements.specs.Bodies.{IsViewOf, HasTable, Stands, numbering}
use Rattle.ground_statements.proofs.Lists.{leaf_there, leaf_place}

-- Leaves that are the same

both_true : (a b : Bool) → (a && b) ≡ true → (a ≡ true) × (b ≡ true)
both_true true b e = (refl, e)
both_true false b e = absurd (true≢false (sym e))

same_number : (a b : ℕ) → (a == b) ≡ true → a ≡ b
same_number a b e = grind (arith, common_steps)

number_itself : (a : ℕ) → (a == a) ≡ true
number_itself a = grind (arith, common_steps)

step_is : (a b : PathStep) → same_step a b ≡ true → a ≡ b
step_is (step.Field m) (step.Field n) e = ap step.Field (same_number m n e)
step_is (step.Element m) (step.Element n) e = ap step.Element (same_number m n e)
step_is (step.Field m) (step.Element n) e = absurd (true≢false (sym e))
step_is (step.Element m) (step.Field n) e = absurd (true≢false (sym e))

step_itself : (a : PathStep) → same_step a a ≡ true
step_itself (step.Field m) = number_itself m
step_itself (step.Element m) = number_itself m

way_is : (a b : List PathStep) → same_way a b ≡ true → a ≡ b
way_is [] [] e = refl
way_is [] (x ∷ b) e = absurd (true≢false (sym e))
way_is (x ∷ a) [] e = absurd (true≢false (sym e))
way_is (x ∷ a) (y ∷ b) e = let t = both_true _ _ e in ap₂ (λ u v. u ∷ v) (step_is x y t.0) (way_is a b t.1)

way_itself : (a : List PathStep) → same_way a a ≡ true
way_itself [] = refl
way_itself (x ∷ a) = ap₂ (λ u v. u && v) (step_itself x) (way_itself a)

abbrev make_leaf : ℕ → List PathStep → Leaf
make_leaf c way = record { component = c; way = way }

leaf_is : (a b : Leaf) → same_leaf a b ≡ true → a ≡ b
leaf_is a b e = let t = both_true _ _ e in ap₂ make_leaf (same_number a.component b.component t.0) (way_is a.way b.way t.1)

leaf_itself : (a : Leaf) → same_leaf a a ≡ true
leaf_itself a = ap₂ (λ u v. u && v) (number_itself a.component) (way_itself a.way)

-- Places

pub got : {A : Type 0} (xs : List A) (k : ℕ) (o x : A) → slice_get xs k ≡ Some x → get_or xs k o ≡ x
got [] k o x e = absurd (none_some e)
got (a ∷ xs) zero o x e = some_same e
got (a ∷ xs) (suc k) o x e = got xs k o x e

first_place : {A : Type 0} (p : A → Bool) (xs : List A) (x : ℕ) (y : A) → slice_get xs x ≡ Some y → p y ≡ true → ((i : ℕ) (z : A) → slice_get xs i ≡ Some z → p z ≡ true → i ≡ x) → position p xs ≡ Some x
first_place {A} p xs x y e is only =
    let within : x < length xs = place_within xs x y e in
    let n : position_or_len p xs ≡ x = position_or_len_is p xs x y (omega (arith, within)) (λ k lt. fails k lt (p (get_or xs k y)) refl) (λ lt. ap p (got xs x y y e) ∙ is) in
    ap₂ (λ b i. cond b (Some i) None) (ap (λ i. nat_lt i (length xs)) n ∙ below_true x (length xs) within) n
  where
    fails : (k : ℕ) → k < x → (b : Bool) → p (get_or xs k y) ≡ b → b ≡ false
    fails k lt false q = refl
    fails k lt true q =
        let within : x < length xs = place_within xs x y e in
        let z = item_at xs k (omega (arith, within, lt)) in
        let same : k ≡ x = only k z.0 z.1 (ap p (sym (got xs k y z.0 z.1)) ∙ q) in
        absurd (omega (arith, same, lt))

found_place : {A : Type 0} (p : A → Bool) (xs : List A) (x : ℕ) → position p xs ≡ Some x → (y : A) × (slice_get xs x ≡ Some y) × (p y ≡ true)
found_place p [] x e = absurd cc
found_place p (d ∷ xs) x e =
    let q = position-Some p (d ∷ xs) x d e in
    let l = item_at (d ∷ xs) x q.0 in
    (l.0, l.1, ap p (sym (got (d ∷ xs) x d l.0 l.1)) ∙ q.1)

pub found_leaf : (m : TypedModule) (z : Leaf) (x : ℕ) → number_of m z ≡ Some x → (y : ModuleLeaf) × (slice_get (module_leaves m) x ≡ Some y) × (leaf_of y.0 y.1 ≡ z)
found_leaf m z x e =
    let f = found_place (λ y. same_leaf (leaf_of y.0 y.1) z) (module_leaves m) x e in
    (f.0, f.1, leaf_is (leaf_of f.0.0 f.0.1) z f.2)

-- No two leaves have one number.
pub one_to_one : (m : TypedModule) (table : Table) → IsOneToOne (numbering m table)
one_to_one m table a b x e f =
    let s = found_leaf m a x e in
    let t = found_leaf m b x f in
    sym s.2 ∙ (ap (λ (y : ModuleLeaf). leaf_of y.0 y.1) (some_same (sym s.1 ∙ t.1)) ∙ t.2)

-- Components by their names

find_there : {A : Type 0} (test : A → Bool) (xs : List A) (k : ℕ) (x : A) → slice_get xs k ≡ Some x → test x ≡ true → (y : A) × (find test xs ≡ Some y)
find_there test [] k x e t = absurd (none_some e)
find_there test (y ∷ xs) zero x e t = (y, ap (λ b. cond b (Some y) (find test xs)) (ap test (some_same e) ∙ t))
find_there {A} test (y ∷ xs) (suc k) x e t = by (test y) refl (find_there test xs k x e t) where
  by : (b : Bool) → test y ≡ b → (z : A) × (find test xs ≡ Some z) → (z : A) × (cond (test y) (Some y) (find test xs) ≡ Some z)
  by true q more = (y, ap (λ b. cond b (Some y) (find test xs)) q)
  by false q more = (more.0, ap (λ b. cond b (Some y) (find test xs)) q ∙ more.1)

-- The component that the module has under a name.
pub record Named (m : TypedModule) (name : ℕ) (e : Entry) : Type 0 where
  pub k : ℕ
  pub c : Component
  pub component : slice_get m.components k ≡ Some c
  pub found : component_named m name ≡ Some c
  pub name_is : c.declaration.name ≡ name
  pub typ : e.typ ≡ c.typ
  pub first : e.first ≡ leaves_before m k

pub named : (m : TypedModule) (entries : Entries) (settable : List Bool) → IsViewOf m entries settable → (name : ℕ) (e : Entry) → lookup (nat_eq name) entries ≡ Some e → Named m name e
named m entries settable view name e h =
    let o = view.only name e h in
    let f = find_there (λ c. c.declaration.name == name) m.components o.0 o.1 o.2 (ap (λ i. i == name) o.3 ∙ number_itself name) in
    let c = component_found m name f.0 f.1 in
    let k = at_place m.components f.0 c.1 in
    let v = view.components k.0 f.0 k.1 in
    let same : v.0 ≡ e = some_same (sym v.1 ∙ (ap (λ i. lookup (nat_eq i) entries) c.0 ∙ h)) in
    record { k = k.0; c = f.0; component = k.1; found = f.1; name_is = c.0; typ = ap (λ (x : Entry). x.typ) (sym same) ∙ v.2; first = ap (λ (x : Entry). x.first) (sym same) ∙ v.3 }

pub known_types : (m : TypedModule) (entries : Entries) (settable : List Bool) → IsViewOf m entries settable → known_of entries ≡ known_in m
known_types m entries settable view = λ i name. by name (lookup (nat_eq name) entries) refl (component_named m name) refl i
  where
    by : (name : ℕ) (o : Option Entry) → lookup (nat_eq name) entries ≡ o → (p : Option Component) → component_named m name ≡ p → known_of entries name ≡ known_in m name
    by name (Some e) q p r =
        let n = named m entries settable view name e q in
        ap (option_map (λ (x : Entry). x.typ)) q ∙ (ap Some n.typ ∙ ap (option_map (λ (x : Component). x.typ)) (sym n.found))
    by name None q None r = ap (option_map (λ (x : Entry). x.typ)) q ∙ ap (option_map (λ (x : Component). x.typ)) (sym r)
    by name None q (Some c) r =
        let f = component_found m name c r in
        let k = at_place m.components c f.1 in
        let v = view.components k.0 c k.1 in
        absurd (none_some (sym q ∙ (ap (λ i. lookup (nat_eq i) entries) (sym f.0) ∙ v.1)))

pub narrow_view : (holder : Module) (m : TypedModule) (entries : Entries) (settable : List Bool) → HasTypes holder m → IsViewOf m entries settable → AreNarrow entries
narrow_view holder m entries settable has view name e h =
    let n = named m entries settable view name e h in
    ap is_narrow n.typ ∙ has.parts n.c (from_place m.components n.k n.c n.component)

pub typed_view : (holder : Module) (m : TypedModule) (entries : Entries) (settable : List Bool) → HasTypes holder m → IsViewOf m entries settable → are_typed (known_of entries) holder.body ≡ true
typed_view holder m entries settable has view = ap (λ known. are_typed known holder.body) (known_types m entries settable view) ∙ has.statements

-- The number of a leaf is that of its place.
pub number_at : (holder : Module) (m : TypedModule) (entries : Entries) (settable : List Bool) → HasTypes holder m → IsViewOf m entries settable → (k j : ℕ) (c : Component) (leaf : TypeLeaf) → Stands m k j c leaf
    → number_of m (leaf_of c leaf) ≡ Some (leaves_before m k + j)
number_at holder m entries settable has view k j c leaf s =
    first_place (λ y. same_leaf (leaf_of y.0 y.1) (leaf_of c leaf)) (module_leaves m) (leaves_before m k + j) (c, leaf) (leaf_there m k j c leaf s.component s.listed) (leaf_itself (leaf_of c leaf))
    (λ i z e t. only i z e (leaf_is (leaf_of z.0 z.1) (leaf_of c leaf) t))
  where
    only : (i : ℕ) (z : ModuleLeaf) → slice_get (module_leaves m) i ≡ Some z → leaf_of z.0 z.1 ≡ leaf_of c leaf → i ≡ leaves_before m k + j
    only i z e t =
        let p = leaf_place m i z e in
        let v = view.components p.k z.0 p.component in
        let w = view.components k c s.component in
        let same : v.0 ≡ w.0 = some_same (sym v.1 ∙ (ap (λ (l : Leaf). lookup (nat_eq l.component) entries) t ∙ w.1)) in
        let typ : z.0.typ ≡ c.typ = sym v.2 ∙ (ap (λ (x : Entry). x.typ) same ∙ w.2) in
        let first : leaves_before m p.k ≡ leaves_before m k = sym v.3 ∙ (ap (λ (x : Entry). x.first) same ∙ w.3) in
        let place : p.j ≡ j = has.ways c p.j j z.1 leaf (from_place m.components k c s.component) (ap (λ t. slice_get (leaves t) p.j) (sym typ) ∙ p.listed) s.listed (ap (λ (l : Leaf). l.way) t) in
        p.number ∙ ap₂ (λ a b. a + b) first place

pub knows_view : (holder : Module) (m : TypedModule) (entries : Entries) (settable : List Bool) (table : Table) → HasTypes holder m → IsViewOf m entries settable → HasTable m table → Knows (numbering m table) (type_in m) entries
knows_view holder m entries settable table has view t = record {
  typed = λ name e h. let n = named m entries settable view name e h in ap type_or_empty n.found ∙ sym n.typ;
  numbers = λ name e h.
      let n = named m entries settable view name e h in
      record {
        numbers = λ j leaf at.
            ap (λ i. number_of m (make_leaf i leaf.path)) (sym n.name_is)
            ∙ (number_at holder m entries settable has view n.k j n.c leaf (record { component = n.component; listed = ap (λ typ. slice_get (leaves typ) j) (sym n.typ) ∙ at })
            ∙ ap (λ i. Some (i + j)) (sym n.first));
        shapes = λ j leaf at.
            ap (λ i. table.leaf (i + j)) n.first
            ∙ t.leaf (leaves_before m n.k + j) (n.c, leaf) (leaf_there m n.k j n.c leaf n.component (ap (λ typ. slice_get (leaves typ) j) (sym n.typ) ∙ at));
      };
}
