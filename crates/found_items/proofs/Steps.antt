-- One component more.
use Rattle.std.proofs.Common.{◌≡◌, ◌⊎◌, inl, inr, ℕ, zero, suc, ◌+◌, ◌<◌, ◌≤◌, Bool, true, false, cond, if◌then◌else◌, true≢false, List, [], ◌∷◌, ◌++◌, map, take, drop, length, Some, None, is_some, refl, sym, ap, ◌∙◌, subst, arith, append_assoc, append-nil, length-append, ⊎_elim}
use Rattle.std.specs.Prelude.{slice_get, Contains, nat_eq}
use Rattle.std.specs.Map.{lookup}
use Rattle.std.specs.List.{AllZip}
use Rattle.std.proofs.lemmas.Bool.{eqb-true, eqb-false}
use Rattle.std.proofs.lemmas.List.{length-map}
use Rattle.std.proofs.lemmas.List.Elements.{Contains-append_cases, Contains-append_left, Contains-append_right}
use Rattle.std.proofs.lemmas.Option.{none-some, same_Some}
use Rattle.indexmap.specs.IndexMap.{insert_entry}
use Rattle.fir_types.specs.declared.leaf.TypeLeaf.{TypeLeaf}
use Rattle.fir_types.specs.Leaves.{leaves}
use Rattle.fir_tree.specs.declared.scope.Fitted.{Fitted}
use Rattle.fir_meaning.specs.Components.{Design, TypedModule, Component, design_of, modules_of, module_at, module_named, component_named, target_in}
use Rattle.fir_names.specs.Scopes.{Means}
use Rattle.circuit_laws.specs.WellFormed.{IsWellFormed}
use Rattle.net_of_circuit.specs.FlatOrder.{Placed, InFlatOrder, one_more, an_instance, Standing, all_leaves}
use Rattle.print_stop.specs.Printing.{PathItem}
use Rattle.print_stop.specs.RunItems.{InInstances, own_items}
use Rattle.print_stop.specs.RunItems as items
use Rattle.found_items.specs.declared.found.ItemAt.{ItemAt}
use Rattle.found_items.specs.declared.walk.Walk.{Walk}
use Rattle.found_items.specs.Finding.{IsFound}
use Rattle.found_items.specs.Walking.{StandsBehind, Going, Visited, HasNames, FirstLeaf, IsFirstLeaf}
use Rattle.found_items.proofs.Lists.{among_at, none_among, one_among, drop_at, take_at, get_behind, zip_append, leaves_at, leaves_cons, leaves_append}
use Rattle.found_items.proofs.Entering.{inside}

abbrev pub here : List ℕ → TypedModule → Component → Placed
here path m c = record { path = path; m = m; c = c }

-- what an order with a component first is

pub record OneMore (design : Design) (path : List ℕ) (m : TypedModule) (c : Component) (cs : List Component) (placed : List Placed) : Type 0 where
  pub rest : List Placed
  pub are : placed ≡ here path m c ∷ rest
  pub order : InFlatOrder design path m cs rest

pub one_first : {design : Design} {path : List ℕ} {m : TypedModule} {c : Component} {cs : List Component} {placed : List Placed} → InFlatOrder design path m (c ∷ cs) placed → target_in c.declaration.sort ≡ None
    → OneMore design path m c cs placed
one_first (one_more {rest = rest} e f) none = record { rest = rest; are = refl; order = f }
one_first (an_instance target n e found own f) none = absurd (none-some target (sym none ∙ e))

pub record InstanceMore (design : Design) (path : List ℕ) (m : TypedModule) (c : Component) (cs : List Component) (n : TypedModule) (placed : List Placed) : Type 0 where
  pub own : List Placed
  pub rest : List Placed
  pub are : placed ≡ own ++ rest
  pub inner : InFlatOrder design (path ++ c.declaration.name ∷ []) n n.components own
  pub order : InFlatOrder design path m cs rest

pub instance_first : {design : Design} {path : List ℕ} {m : TypedModule} {c : Component} {cs : List Component} {placed : List Placed} (target : ℕ) (n : TypedModule) → InFlatOrder design path m (c ∷ cs) placed
    → target_in c.declaration.sort ≡ Some target → module_named design target ≡ Some n → InstanceMore design path m c cs n placed
instance_first target n (one_more e f) sort found = absurd (none-some target (sym e ∙ sort))
instance_first {design} {path} {m} {c} {cs} target n (an_instance {own = own} {rest = rest} other k e there inner f) sort found =
    let same : k ≡ n = same_Some k n (sym there ∙ ap (module_named design) (same_Some other target (sym e ∙ sort)) ∙ found) in
    record { own = own; rest = rest; are = refl; inner = subst (λ (x : TypedModule). InFlatOrder design (path ++ c.declaration.name ∷ []) x x.components own) same inner; order = f }

-- names and numbers

inserted : (es : List (ℕ × ℕ)) (key x q : ℕ) → lookup (nat_eq q) (insert_entry nat_eq es key x) ≡ cond (nat_eq q key) (Some x) (lookup (nat_eq q) es)
inserted [] key x q = refl
inserted (e ∷ es) key x q = by (nat_eq key e.0) refl (inserted es key x q)
  where
    own : (a b : Bool) → a ≡ b → cond a (Some x) (lookup (nat_eq q) es) ≡ cond b (Some x) (cond a (Some e.1) (lookup (nat_eq q) es))
    own true true same = refl
    own false false same = refl
    own true false same = absurd (true≢false same)
    own false true same = absurd (true≢false (sym same))

    other : (a b : Bool) → nat_eq q e.0 ≡ a → nat_eq q key ≡ b → nat_eq key e.0 ≡ false → lookup (nat_eq q) (insert_entry nat_eq es key x) ≡ cond (nat_eq q key) (Some x) (lookup (nat_eq q) es)
        → cond a (Some e.1) (lookup (nat_eq q) (insert_entry nat_eq es key x)) ≡ cond b (Some x) (cond a (Some e.1) (lookup (nat_eq q) es))
    other true true f g h later = absurd (eqb-false key e.0 h (sym (eqb-true q key g) ∙ eqb-true q e.0 f))
    other true false f g h later = refl
    other false b f g h later = later ∙ ap (λ y. cond y (Some x) (lookup (nat_eq q) es)) g

    by : (b : Bool) → nat_eq key e.0 ≡ b → lookup (nat_eq q) (insert_entry nat_eq es key x) ≡ cond (nat_eq q key) (Some x) (lookup (nat_eq q) es)
        → lookup (nat_eq q) (if b then (e.0, x) ∷ es else e ∷ insert_entry nat_eq es key x) ≡ cond (nat_eq q key) (Some x) (cond (nat_eq q e.0) (Some e.1) (lookup (nat_eq q) es))
    by true same later = own (nat_eq q e.0) (nat_eq q key) (ap (nat_eq q) (sym (eqb-true key e.0 same)))
    by false apart later = other (nat_eq q e.0) (nat_eq q key) refl refl apart later

from_take : {A : Type 0} (xs : List A) (k : ℕ) (x : A) → Contains (take k xs) x → Contains xs x
from_take [] zero x i = absurd (none_among x i)
from_take [] (suc k) x i = absurd (none_among x i)
from_take (y ∷ xs) zero x i = absurd (none_among x i)
from_take (y ∷ xs) (suc k) x i = ⊎_elim (λ a. Contains-append_left (y ∷ []) xs x a) (λ b. Contains-append_right (y ∷ []) xs x (from_take xs k x b)) (Contains-append_cases (y ∷ []) (take k xs) x i)

-- names that have numbers

abbrev Names : List (ℕ × ℕ) → Component → Type 0
Names firsts d = target_in d.declaration.sort ≡ None → (is_some (lookup (nat_eq d.declaration.name) firsts) ≡ true) × (d.declaration.name < 4294967296)

pub names_leaf : (cs : List Component) (done : ℕ) (c : Component) (old new : List (ℕ × ℕ)) (x : ℕ) → slice_get cs done ≡ Some c → c.declaration.name < 4294967296 → new ≡ insert_entry nat_eq old c.declaration.name x → HasNames (take done cs) old → HasNames (take (done + 1) cs) new
names_leaf cs done c old new x at small is has d i none = (
  ap (λ es. is_some (lookup (nat_eq d.declaration.name) es)) is ∙ ap is_some (inserted old c.declaration.name x d.declaration.name) ∙ by (nat_eq d.declaration.name c.declaration.name) refl cases,
  ⊎_elim (λ h. (has d h none).1) (λ h. subst (λ (y : Component). y.declaration.name < 4294967296) (one_among c d h) small) cases,
)
  where
    cases : Contains (take done cs) d ⊎ Contains (c ∷ []) d
    cases = Contains-append_cases (take done cs) (c ∷ []) d (subst (λ l. Contains l d) (take_at cs done c at) i)

    by : (b : Bool) → nat_eq d.declaration.name c.declaration.name ≡ b → Contains (take done cs) d ⊎ Contains (c ∷ []) d → is_some (cond b (Some x) (lookup (nat_eq d.declaration.name) old)) ≡ true
    by true e h = refl
    by false e (inl h) = (has d h none).0
    by false e (inr h) = absurd (eqb-false d.declaration.name c.declaration.name e (ap (λ (y : Component). y.declaration.name) (sym (one_among c d h))))

pub names_instance : (cs : List Component) (done : ℕ) (c : Component) (target : ℕ) (firsts : List (ℕ × ℕ)) → slice_get cs done ≡ Some c → target_in c.declaration.sort ≡ Some target → HasNames (take done cs) firsts → HasNames (take (done + 1) cs) firsts
names_instance cs done c target firsts at sort has d i none = ⊎_elim (λ h. has d h none)
    (λ h. absurd (none-some target (sym none ∙ ap (λ (y : Component). target_in y.declaration.sort) (sym (one_among c d h)) ∙ sort)))
    (Contains-append_cases (take done cs) (c ∷ []) d (subst (λ l. Contains l d) (take_at cs done c at) i))

pub names_none : (firsts : List (ℕ × ℕ)) → HasNames [] firsts
names_none firsts d i none = absurd (none_among d i)

-- at the beginning
pub going_first : (fitted : Fitted) (all : List Standing) (path : List ℕ) (m : TypedModule) (placed : List Placed) (first : ℕ) (walk : Walk) → InFlatOrder (design_of fitted) path m m.components placed → walk.next ≡ first → walk.below.items ≡ []
    → Going fitted all path m placed first 0 walk
going_first fitted all path m placed first walk order next below = record {
  front = [];
  tail = placed;
  split = refl;
  order = order;
  counted = omega (arith, next);
  firsts = λ d i none. absurd (none_among d i);
  inner = [];
  instances = λ rest h. h;
  found = subst (AllZip (IsFound fitted.checked.resolved.names (design_of fitted) fitted.checked.resolved.prints all) []) (sym below) tt;
}

module _ (fitted : Fitted) (well : IsWellFormed fitted) (all : List Standing) (path : List ℕ) (m : TypedModule) (stands : module_at (design_of fitted) path ≡ Some m) (placed : List Placed) (first done : ℕ) (c : Component)
    (at : slice_get m.components done ≡ Some c) (behind : StandsBehind all first placed) where
  among : Contains m.components c
  among = among_at m.components done c at

  -- a component of the same name is the same
  same_name : (d : Component) → Contains (take done m.components) d → d.declaration.name ≡ c.declaration.name → d ≡ c
  same_name d i e =
      let within : Contains m.components d = from_take m.components done d i in
      same_Some d c (sym (well.bundles.names path m d stands within) ∙ ap (component_named m) e ∙ well.bundles.names path m c stands among)

  module _ (before : Walk) (going : Going fitted all path m placed first done before) where
    tail_is : drop done m.components ≡ c ∷ drop (done + 1) m.components
    tail_is = drop_at m.components done c at

    order_is : InFlatOrder (design_of fitted) path m (c ∷ drop (done + 1) m.components) going.tail
    order_is = subst (λ cs. InFlatOrder (design_of fitted) path m cs going.tail) tail_is going.order

    -- what stands at the number of the next leaf
    next_leaf : (leaf : Standing) (later : List Standing) → all_leaves going.tail ≡ leaf ∷ later → slice_get all before.next ≡ Some leaf
    next_leaf leaf later e =
        let long = length-append behind.before (all_leaves going.front) in
        let start = behind.counted in
        let count = going.counted in
        let number : before.next ≡ length (behind.before ++ all_leaves going.front) = omega (arith, long, start, count) in
        ap (λ l. slice_get l before.next)
        (behind.are ∙ ap (λ ps. behind.before ++ (all_leaves ps ++ behind.behind)) going.split ∙ ap (λ l. behind.before ++ (l ++ behind.behind)) (leaves_append going.front going.tail ∙ ap (λ l. all_leaves going.front ++ l) e)
        ∙ ap (λ l. behind.before ++ l) (append_assoc (all_leaves going.front) (leaf ∷ later) behind.behind) ∙ sym (append_assoc behind.before (all_leaves going.front) (leaf ∷ later ++ behind.behind)))
        ∙ get_behind (behind.before ++ all_leaves going.front) before.next leaf (later ++ behind.behind) number

    -- its leaves are among those of the run
    pub leaf_fits : target_in c.declaration.sort ≡ None → before.next + length (leaves c.typ) ≤ length all
    leaf_fits none =
        let r = one_first order_is none in
        let p : Placed = here path m c in
        let own : all_leaves placed ≡ all_leaves going.front ++ (leaves_at p ++ all_leaves r.rest) =
        ap all_leaves going.split ∙ leaves_append going.front going.tail ∙ ap (λ l. all_leaves going.front ++ l) (ap all_leaves r.are ∙ leaves_cons p r.rest) in
        let long = ap (λ (l : List Standing). length l) behind.are in
        let split = length-append behind.before (all_leaves placed ++ behind.behind) in
        let its = length-append (all_leaves placed) behind.behind in
        let own_long = ap (λ (l : List Standing). length l) own in
        let front = length-append (all_leaves going.front) (leaves_at p ++ all_leaves r.rest) in
        let rest = length-append (leaves_at p) (all_leaves r.rest) in
        let mine : length (leaves_at p) ≡ length (leaves c.typ) = length-map (leaves c.typ) (λ leaf. (p, leaf)) in
        let start = behind.counted in
        let counted = going.counted in
        omega (arith, long, split, its, own_long, front, rest, mine, start, counted)

    pub leaf_more : (after : Walk) (count : ℕ) → target_in c.declaration.sort ≡ None → count ≡ length (leaves c.typ) → after.firsts.entries ≡ insert_entry nat_eq before.firsts.entries c.declaration.name before.next
        → after.next ≡ before.next + count → after.below.items ≡ before.below.items → Going fitted all path m placed first (done + 1) after
    leaf_more after count none is entries next below =
        let r = one_first order_is none in
        let p : Placed = here path m c in
        let own : all_leaves going.tail ≡ leaves_at p ++ all_leaves r.rest = ap all_leaves r.are ∙ leaves_cons p r.rest in
        let front : all_leaves (going.front ++ p ∷ []) ≡ all_leaves going.front ++ leaves_at p = leaves_append going.front (p ∷ []) ∙ ap (λ l. all_leaves going.front ++ l) (leaves_cons p [] ∙ append-nil (leaves_at p)) in
        let long = length-append (all_leaves going.front) (leaves_at p) in
        let own_long : length (leaves_at p) ≡ length (leaves c.typ) = length-map (leaves c.typ) (λ leaf. (p, leaf)) in
        let counted = going.counted in
        let whole : length (all_leaves (going.front ++ p ∷ [])) ≡ length (all_leaves going.front) + length (leaves c.typ) = ap length front ∙ long ∙ ap (λ n. length (all_leaves going.front) + n) own_long in
        record {
          front = going.front ++ p ∷ [];
          tail = r.rest;
          split = going.split ∙ ap (λ ps. going.front ++ ps) r.are ∙ sym (append_assoc going.front (p ∷ []) r.rest);
          order = r.order;
          counted = omega (arith, next, is, counted, whole);
          firsts = λ d i none'. subst (FirstLeaf all path m d) (sym (ap (lookup (nat_eq d.declaration.name)) entries ∙ inserted before.firsts.entries c.declaration.name before.next d.declaration.name))
              (by d none' (take_cases d i) (nat_eq d.declaration.name c.declaration.name) refl);
          inner = going.inner;
          instances = λ rest inside'. going.instances rest (subst (λ cs. InInstances fitted.checked.resolved.names (design_of fitted) fitted.checked.resolved.prints path cs rest) (sym tail_is) (items.no_instance none inside'));
          found = subst (AllZip (IsFound fitted.checked.resolved.names (design_of fitted) fitted.checked.resolved.prints all) going.inner) (sym below) going.found;
        }
      where
        take_cases : (d : Component) → Contains (take (done + 1) m.components) d → Contains (take done m.components) d ⊎ (c ≡ d)
        take_cases d i = ⊎_elim (λ a. inl a) (λ b. inr (one_among c d b)) (Contains-append_cases (take done m.components) (c ∷ []) d (subst (λ l. Contains l d) (take_at m.components done c at) i))

        its_own : (d : Component) → d ≡ c → IsFirstLeaf all path m d before.next
        its_own d same = subst (λ (x : Component). IsFirstLeaf all path m x before.next) (sym same) (record { is = λ leaf e. first_is leaf (leaves c.typ) refl e })
          where
            first_is : (leaf : TypeLeaf) (ls : List TypeLeaf) → leaves c.typ ≡ ls → slice_get ls 0 ≡ Some leaf → slice_get all before.next ≡ Some (here path m c, leaf)
            first_is leaf [] is' e = absurd (none-some leaf e)
            first_is leaf (l ∷ ls) is' e =
                let r = one_first order_is none in
                let p : Placed = here path m c in
                next_leaf (p, l) (map (λ x. (p, x)) ls ++ all_leaves r.rest)
                (ap all_leaves r.are ∙ leaves_cons p r.rest ∙ ap (λ (xs : List TypeLeaf). map (λ x. (p, x)) xs ++ all_leaves r.rest) is') ∙ ap (λ (x : TypeLeaf). Some (p, x)) (same_Some l leaf e)

        by : (d : Component) → target_in d.declaration.sort ≡ None → Contains (take done m.components) d ⊎ (c ≡ d) → (b : Bool) → nat_eq d.declaration.name c.declaration.name ≡ b
            → FirstLeaf all path m d (cond b (Some before.next) (lookup (nat_eq d.declaration.name) before.firsts.entries))
        by d none' (inl i) true e = its_own d (same_name d i (eqb-true d.declaration.name c.declaration.name e))
        by d none' (inl i) false e = going.firsts d i none'
        by d none' (inr same) true e = its_own d (sym same)
        by d none' (inr same) false e = absurd (eqb-false d.declaration.name c.declaration.name e (ap (λ (x : Component). x.declaration.name) (sym same)))

    pub instance_more : (after : Walk) (target number : ℕ) (found : List ItemAt) → target_in c.declaration.sort ≡ Some target → Means fitted.checked.resolved target number
        → after.firsts.entries ≡ before.firsts.entries → after.below.items ≡ before.below.items ++ found
        → ((path : List ℕ) (n : TypedModule) (own : List Placed) → module_at (design_of fitted) path ≡ Some n → slice_get (modules_of fitted) number ≡ Some n → InFlatOrder (design_of fitted) path n n.components own
        → StandsBehind all before.next own → (after.next ≡ before.next + length (all_leaves own)) × Visited fitted all path n found)
        → Going fitted all path m placed first (done + 1) after
    instance_more after target number found sort means entries below visit =
        let within = inside fitted well path m c target number stands among sort means in
        let r = instance_first target within.n order_is sort within.found in
        let start = behind.counted in
        let counted = going.counted in
        let own : all_leaves going.tail ≡ all_leaves r.own ++ all_leaves r.rest = ap all_leaves r.are ∙ leaves_append r.own r.rest in
        let its : StandsBehind all before.next r.own = record {
          before = behind.before ++ all_leaves going.front;
          behind = all_leaves r.rest ++ behind.behind;
          are = behind.are ∙ ap (λ ps. behind.before ++ (all_leaves ps ++ behind.behind)) going.split ∙ ap (λ l. behind.before ++ (l ++ behind.behind)) (leaves_append going.front going.tail ∙ ap (λ l. all_leaves going.front ++ l) own)
              ∙ ap (λ l. behind.before ++ l) (append_assoc (all_leaves going.front) (all_leaves r.own ++ all_leaves r.rest) behind.behind ∙ ap (λ l. all_leaves going.front ++ l) (append_assoc (all_leaves r.own) (all_leaves r.rest) behind.behind))
              ∙ sym (append_assoc behind.before (all_leaves going.front) (all_leaves r.own ++ (all_leaves r.rest ++ behind.behind)));
          counted = length-append behind.before (all_leaves going.front) ∙ omega (arith, start, counted);
          few = behind.few;
        } in
        let v = visit (path ++ c.declaration.name ∷ []) within.n r.own within.stands within.here r.inner its in
        let grown = v.0 in
        let whole : length (all_leaves (going.front ++ r.own)) ≡ length (all_leaves going.front) + length (all_leaves r.own) = ap length (leaves_append going.front r.own) ∙ length-append (all_leaves going.front) (all_leaves r.own) in
        let mine : List PathItem = own_items fitted.checked.resolved.names (design_of fitted) fitted.checked.resolved.prints (path ++ c.declaration.name ∷ []) within.n ++ v.1.rest in
        record {
          front = going.front ++ r.own;
          tail = r.rest;
          split = going.split ∙ ap (λ ps. going.front ++ ps) r.are ∙ sym (append_assoc going.front r.own r.rest);
          order = r.order;
          counted = omega (arith, grown, counted, whole);
          firsts = λ d i none'. subst (FirstLeaf all path m d) (sym (ap (lookup (nat_eq d.declaration.name)) entries)) (going.firsts d (earlier d i none') none');
          inner = going.inner ++ mine;
          instances = λ rest inside'. subst (InInstances fitted.checked.resolved.names (design_of fitted) fitted.checked.resolved.prints path m.components) (sym (append_assoc going.inner mine rest))
              (going.instances (mine ++ rest) (subst (λ cs. InInstances fitted.checked.resolved.names (design_of fitted) fitted.checked.resolved.prints path cs (mine ++ rest)) (sym tail_is)
              (items.an_instance target within.n sort within.found v.1.instances inside')));
          found = subst (AllZip (IsFound fitted.checked.resolved.names (design_of fitted) fitted.checked.resolved.prints all) (going.inner ++ mine)) (sym below) (zip_append _ going.inner before.below.items mine found going.found v.1.are);
        }
      where
        earlier : (d : Component) → Contains (take (done + 1) m.components) d → target_in d.declaration.sort ≡ None → Contains (take done m.components) d
        earlier d i none' = ⊎_elim (λ a. a) (λ b. absurd (none-some target (sym none' ∙ ap (λ (x : Component). target_in x.declaration.sort) (sym (one_among c d b)) ∙ sort)))
            (Contains-append_cases (take done m.components) (c ∷ []) d (subst (λ l. Contains l d) (take_at m.components done c at) i))
