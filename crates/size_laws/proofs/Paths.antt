-- The paths that are measured are those at which a module stands.
use Rattle.std.proofs.Common.{◌≡◌, ℕ, zero, suc, ◌+◌, ◌<◌, ◌≤◌, ◌==◌, ◌⊎◌, inl, inr, ⊎_elim, nat_lt, max, Bool, true, false, List, [], ◌∷◌, map, drop, length, refl, sym, ap, ◌∙◌, subst, arith, Some, None, Option}
use Rattle.std.specs.Prelude.{Contains, slice_get, find, cond, zip, option_and_then}
use Rattle.std.specs.List.{AllZip, flat_map}
use Rattle.std.proofs.lemmas.Grind.{common_steps}
use Rattle.std.proofs.lemmas.Bool.Decides.{nat_tests}
use Rattle.fir_types.specs.declared.fir_type.FirType.{FirType}
use Rattle.fir_tree.specs.declared.circuit.Circuit.{Circuit}
use Rattle.fir_tree.specs.declared.circuit.Module.{Module}
use Rattle.fir_tree.specs.declared.scope.Fitted.{Fitted}
use Rattle.fir_tree.specs.LeafNames.{Texts}
use Rattle.fir_meaning.specs.Components.{Design, TypedModule, Component, Sort, An_input, An_output, A_wire, A_register, A_reset_register, A_memory, An_instance, A_node, declarations_of, with_types, modules_of, design_of, module_named, component_named, target_in, target_of, module_within, module_at}
use Rattle.fir_meaning.proofs.Tracking.{Contains-map, Contains-flat_map}
use Rattle.fir_meaning.proofs.Ports.{from_flat_map}
use Rattle.size_check.specs.declared.calls.Call.{Call}
use Rattle.size_check.specs.Typings.{named}
use Rattle.size_check.specs.Standings.{Standing, standings, standings_of, of_call, of_found, behind, calls_in, total_of, measured}
use Rattle.size_laws.specs.Pieces.{pieces_of, IsMeasured, AreMeasured}
use Rattle.size_laws.specs.Runs.{IsLongest}
use Rattle.size_laws.proofs.Calling.{call_of, own_called}
use Rattle.size_laws.proofs.Same.{component_call, calls_same}
use Rattle.size_laws.proofs.Running.{IsHeld, AllPaths, call_some, held_by}

none_some : {A : Type 0} {x : A} → None ≡ Some x → ⊥
none_some e = cc

some_same : {A : Type 0} {x y : A} → Some x ≡ Some y → x ≡ y
some_same e = cc

not_in_none : {A : Type 0} (x : A) → Contains [] x → ⊥
not_in_none x (k, below, is) = omega arith

in_front : {A : Type 0} (x : A) (xs : List A) → Contains (x ∷ xs) x
in_front x xs = (0, omega arith, refl)

in_later : {A : Type 0} (y : A) (xs : List A) (x : A) → Contains xs x → Contains (y ∷ xs) x
in_later y xs x (k, below, is) = (suc k, omega arith, is)

from_map : {A B : Type 0} (h : A → B) (xs : List A) (y : B) → Contains (map h xs) y → (x : A) × Contains xs x × (h x ≡ y)
from_map h [] y c = absurd (not_in_none y c)
from_map h (x ∷ xs) y (zero, below, is) = (x, in_front x xs, is)
from_map h (x ∷ xs) y (suc k, below, is) =
    let rest = from_map h xs y (k, omega arith, is) in
    (rest.0, in_later x xs rest.0 rest.1, rest.2)

and_some : {A B : Type 0} (o : Option A) (f : A → Option B) (y : B) → option_and_then f o ≡ Some y → (x : A) × (o ≡ Some x) × (f x ≡ Some y)
and_some None f y e = absurd (none_some e)
and_some (Some x) f y e = (x, refl, e)

same_numbers : (a b : ℕ) → (a == b) ≡ true → a ≡ b
same_numbers a b e = grind (arith, common_steps, nat_tests, e)

-- what is found is there, and has the name
found_there : (cs : List Component) (i : ℕ) (c : Component) → find (λ x. x.declaration.name == i) cs ≡ Some c → Contains cs c × (c.declaration.name ≡ i)
found_there [] i c e = absurd (none_some e)
found_there (x ∷ xs) i c e = by (λ g. found_there xs i c g) (x.declaration.name == i) refl e
  where
    by : (find (λ y. y.declaration.name == i) xs ≡ Some c → Contains xs c × (c.declaration.name ≡ i)) → (b : Bool) → (x.declaration.name == i) ≡ b → cond b (Some x) (find (λ y. y.declaration.name == i) xs) ≡ Some c → Contains (x ∷ xs) c × (c.declaration.name ≡ i)
    by deep true t g =
        let is : x ≡ c = some_same g in
        (subst (Contains (x ∷ xs)) is (in_front x xs), ap (λ (y : Component). y.declaration.name) (sym is) ∙ same_numbers x.declaration.name i t)
    by deep false t g = let d = deep g in (in_later x xs c d.0, d.1)

call_back : (name : ℕ) (sort : Sort) (call : Call) → Contains (call_of name sort) call → (target_in sort ≡ Some call.target) × (name ≡ call.name)
call_back name An_input call c = absurd (not_in_none call c)
call_back name An_output call c = absurd (not_in_none call c)
call_back name A_wire call c = absurd (not_in_none call c)
call_back name (A_register clock) call c = absurd (not_in_none call c)
call_back name (A_reset_register clock reset init) call c = absurd (not_in_none call c)
call_back name (A_memory memory) call c = absurd (not_in_none call c)
call_back name (An_instance t) call (zero, below, is) = (ap (λ (x : Call). Some x.target) is, ap (λ (x : Call). x.name) is)
call_back name (An_instance t) call (suc k, below, is) = absurd (omega arith)
call_back name (A_node expr) call c = absurd (not_in_none call c)

-- The longest path of some standings

abbrev deep : Texts → List Module → List Standing → ℕ
deep texts modules list = (total_of texts modules list).depth

deep_least : (texts : Texts) (modules : List Module) (list : List Standing) (s : Standing) → Contains list s → length s.path ≤ deep texts modules list
deep_least texts modules [] s c = absurd (not_in_none s c)
deep_least texts modules (x ∷ xs) s (zero, below, is) = subst (λ (y : Standing). length y.path ≤ deep texts modules (x ∷ xs)) is (first (length x.path) (deep texts modules xs))
  where
    first : (a b : ℕ) → a ≤ max a b
    first a b = omega arith
deep_least texts modules (x ∷ xs) s (suc k, below, is) = later (length s.path) (length x.path) (deep texts modules xs) (deep_least texts modules xs s (k, omega arith, is))
  where
    later : (n a b : ℕ) → n ≤ b → n ≤ max a b
    later n a b h = omega arith

pub record Longest (texts : Texts) (modules : List Module) (list : List Standing) : Type 0 where
  pub s : Standing
  pub there : Contains list s
  pub is : length s.path ≡ deep texts modules list

deep_one : (texts : Texts) (modules : List Module) (x : Standing) (xs : List Standing) → Longest texts modules (x ∷ xs)
deep_one texts modules x [] = record { s = x; there = in_front x []; is = alone (length x.path) }
  where
    alone : (n : ℕ) → n ≡ max n 0
    alone n = omega arith
deep_one texts modules x (y ∷ ys) = by (deep_one texts modules y ys)
  where
    greater : (a b : ℕ) → (a ≡ max a b) ⊎ (b ≡ max a b)
    greater a b = test (nat_lt a b) refl
      where
        test : (t : Bool) → nat_lt a b ≡ t → (a ≡ max a b) ⊎ (b ≡ max a b)
        test true e = let l : a < b = grind (arith, common_steps, nat_tests, e) in inr (omega (arith, l))
        test false e = let l : b ≤ a = grind (arith, common_steps, nat_tests, e) in inl (omega (arith, l))

    by : Longest texts modules (y ∷ ys) → Longest texts modules (x ∷ y ∷ ys)
    by rest = ⊎_elim
        (λ e. record { s = x; there = in_front x (y ∷ ys); is = e })
        (λ e. record { s = rest.s; there = in_later x (y ∷ ys) rest.s rest.there; is = rest.is ∙ e })
        (greater (length x.path) (deep texts modules (y ∷ ys)))

-- Paths

-- the typed module of a module
abbrev pub IsTyped : List Module → Design → Type 0
IsTyped modules design = (name : ℕ) (holder : Module) → named modules name ≡ Some holder → (n : TypedModule) × (module_named design name ≡ Some n) × AllZip IsMeasured (pieces_of modules holder) n.components

abbrev pub AreNamed : Design → Type 0
AreNamed design = (name : ℕ) (n : TypedModule) → module_named design name ≡ Some n → (c : Component) → Contains n.components c → component_named n c.declaration.name ≡ Some c

abbrev Stands : List Standing → List ℕ → Type 0
Stands list path = (s : Standing) × Contains list s × (s.path ≡ path)

module _ (design : Design) (modules : List Module) (held : IsHeld modules design) (typed : IsTyped modules design) (once : AreNamed design) where
  calls_are : (holder : Module) (n : TypedModule) → AllZip IsMeasured (pieces_of modules holder) n.components → calls_in holder ≡ flat_map component_call n.components
  calls_are holder n same = own_called modules holder ∙ calls_same (pieces_of modules holder) n.components same

  first_stands : (d : ℕ) (holder : Module) → Stands (standings modules d holder) []
  unfolding standings
  first_stands zero holder = (record { path = []; holder = holder }, in_front (record { path = []; holder = holder }) [], refl)
  first_stands (suc d) holder =
      (record { path = []; holder = holder }, in_front (record { path = []; holder = holder }) (flat_map (of_call modules (standings modules d)) (calls_in holder)), refl)

  behind_stands : (d : ℕ) (holder inside : Module) (call : Call) (path : List ℕ) → Contains (calls_in holder) call → named modules call.target ≡ Some inside → Stands (standings modules d inside) path
      → Stands (standings modules (suc d) holder) (call.name ∷ path)
  unfolding standings
  behind_stands d holder inside call path c e r =
      let from = of_call modules (standings modules d) in
      let there : Contains (from call) (behind call.name r.0) =
      subst (λ o. Contains (map (behind call.name) (of_found (standings modules d) o)) (behind call.name r.0)) (sym e) (Contains-map (behind call.name) (standings modules d inside) r.0 r.1) in
      (behind call.name r.0, in_later (record { path = []; holder = holder }) (flat_map from (calls_in holder)) (behind call.name r.0) (Contains-flat_map from (calls_in holder) call (behind call.name r.0) c there), ap (λ p. call.name ∷ p) r.2)

  pub reach : (path : List ℕ) (d : ℕ) (n : TypedModule) (holder : Module) (m : TypedModule) → AllZip IsMeasured (pieces_of modules holder) n.components → module_within design n path ≡ Some m → length path ≤ d
      → Stands (standings modules d holder) path
  reach [] d n holder m same e l = first_stands d holder
  reach (i ∷ path) zero n holder m same e l = absurd (never (length path) l)
    where
      never : (k : ℕ) → suc k ≤ 0 → ⊥
      never k h = omega arith
  reach (i ∷ path) (suc d) n holder m same e l =
      let inner = and_some (option_and_then (module_named design) (target_of n i)) (λ x. module_within design x path) m e in
      let target = and_some (target_of n i) (module_named design) inner.0 inner.1 in
      let c = and_some (component_named n i) (λ x. target_in x.declaration.sort) target.0 target.1 in
      let there = found_there n.components i c.0 c.1 in
      let h = held target.0 inner.0 target.2 in
      let call : Call = record { name = i; target = target.0 } in
      let own : Contains (component_call c.0) call =
      subst (λ l. Contains l call) (sym (call_some c.0.declaration.name target.0 c.0.declaration.sort c.2)) (subst (λ k. Contains (record { name = k; target = target.0 } ∷ []) call) (sym there.1) (in_front call [])) in
      let among : Contains (calls_in holder) call = subst (λ l. Contains l call) (sym (calls_are holder n same)) (Contains-flat_map component_call n.components c.0 call there.0 own) in
      behind_stands d holder h.0 call path among h.1 (reach path d inner.0 h.0 m h.2 inner.2 (less (length path) d l))
    where
      less : (k d : ℕ) → suc k ≤ suc d → k ≤ d
      less k d h = omega arith

  module_behind : (n inside m : TypedModule) (c : Component) (call : Call) (path : List ℕ) → component_named n call.name ≡ Some c → target_in c.declaration.sort ≡ Some call.target
      → module_named design call.target ≡ Some inside → module_within design inside path ≡ Some m → module_within design n (call.name ∷ path) ≡ Some m
  module_behind n inside m c call path e t f g =
      ap (λ o. option_and_then (λ x. module_within design x path) (option_and_then (module_named design) (option_and_then (λ (x : Component). target_in x.declaration.sort) o))) e
      ∙ ap (λ o. option_and_then (λ x. module_within design x path) (option_and_then (module_named design) o)) t
      ∙ ap (λ o. option_and_then (λ x. module_within design x path) o) f ∙ g

  abbrev Goes : TypedModule → List ℕ → Type 0
  Goes n path = (m : TypedModule) × (module_within design n path ≡ Some m)

  one_back : (d : ℕ) (name : ℕ) (n : TypedModule) → module_named design name ≡ Some n → (call : Call) → Contains (flat_map component_call n.components) call → (o : Option Module) → named modules call.target ≡ o
      → ((inside : Module) (x : TypedModule) → module_named design call.target ≡ Some x → AllZip IsMeasured (pieces_of modules inside) x.components → (s : Standing) → Contains (standings modules d inside) s → Goes x s.path)
      → (s : Standing) → Contains (map (behind call.name) (of_found (standings modules d) o)) s → Goes n s.path
  one_back d name n e call among None g rec s c = absurd (not_in_none s c)
  one_back d name n e call among (Some inside) g rec s c =
      let from = from_map (behind call.name) (standings modules d inside) s c in
      let x = typed call.target inside g in
      let goes = rec inside x.0 x.1 x.2 from.0 from.1 in
      let own = from_flat_map component_call n.components call among in
      let back = call_back own.0.declaration.name own.0.declaration.sort call own.2 in
      let there : component_named n call.name ≡ Some own.0 = ap (component_named n) (sym back.1) ∙ once name n e own.0 own.1 in
      (goes.0, ap (λ (y : Standing). module_within design n y.path) (sym from.2) ∙ module_behind n x.0 goes.0 own.0 call from.0.path there back.0 x.1 goes.1)

  pub back : (d : ℕ) (name : ℕ) (n : TypedModule) (holder : Module) → module_named design name ≡ Some n → AllZip IsMeasured (pieces_of modules holder) n.components
      → (s : Standing) → Contains (standings modules d holder) s → Goes n s.path
  unfolding standings
  back zero name n holder e same s (zero, below, is) = (n, ap (λ (y : Standing). module_within design n y.path) (sym is))
  back zero name n holder e same s (suc k, below, is) = absurd (omega arith)
  back (suc d) name n holder e same s (zero, below, is) = (n, ap (λ (y : Standing). module_within design n y.path) (sym is))
  back (suc d) name n holder e same s (suc k, below, is) =
      let from = of_call modules (standings modules d) in
      let rest : Contains (flat_map from (calls_in holder)) s = (k, omega arith, is) in
      let call = from_flat_map from (calls_in holder) s rest in
      one_back d name n e call.0 (subst (λ l. Contains l call.0) (calls_are holder n same) call.1) (named modules call.0.target) refl
      (λ inside x f z t c. back d call.0.target x inside f z t c) s call.2

-- Modules, the other way

there_typed : (modules : List Module) (types : List FirType) (name : ℕ) (holder : Module) → named modules name ≡ Some holder
    → (n : TypedModule) × (k : ℕ) × (find (λ m. m.name == name) (with_types modules types) ≡ Some n) × (slice_get modules k ≡ Some holder) × (slice_get (with_types modules types) k ≡ Some n)
there_typed [] types name holder e = absurd (none_some e)
there_typed (m ∷ ms) types name holder e = by (λ g. there_typed ms (drop (length (declarations_of m)) types) name holder g) (m.name.id == name) refl e
  where
    rest : List FirType
    rest = drop (length (declarations_of m)) types

    first : TypedModule
    first = record { name = m.name.id; components = map (λ both. record { declaration = both.0; typ = both.1 }) (zip (declarations_of m) types) }

    by : (named ms name ≡ Some holder → (n : TypedModule) × (k : ℕ) × (find (λ m. m.name == name) (with_types ms rest) ≡ Some n) × (slice_get ms k ≡ Some holder) × (slice_get (with_types ms rest) k ≡ Some n))
        → (b : Bool) → (m.name.id == name) ≡ b → cond b (Some m) (find (λ x. x.name.id == name) ms) ≡ Some holder
        → (n : TypedModule) × (k : ℕ) × (find (λ m. m.name == name) (with_types (m ∷ ms) types) ≡ Some n) × (slice_get (m ∷ ms) k ≡ Some holder) × (slice_get (with_types (m ∷ ms) types) k ≡ Some n)
    by deep true t g = (first, 0, ap (λ b. cond b (Some first) (find (λ x. x.name == name) (with_types ms rest))) t, g, refl)
    by deep false t g =
        let d = deep g in
        (d.0, suc d.1, ap (λ b. cond b (Some first) (find (λ x. x.name == name) (with_types ms rest))) t ∙ d.2, d.3, d.4)

pub typed_by : (fitted : Fitted) → AreMeasured fitted → IsTyped fitted.checked.resolved.modules (design_of fitted)
typed_by fitted same name holder e =
    let t = there_typed fitted.checked.resolved.modules fitted.declared name holder e in
    (t.0, t.2, same t.1 holder t.0 t.3 t.4)

one_stands : (texts : Texts) (modules : List Module) (d : ℕ) (m : Module) → Longest texts modules (standings modules d m)
unfolding standings
one_stands texts modules zero m = deep_one texts modules (record { path = []; holder = m }) []
one_stands texts modules (suc d) m = deep_one texts modules (record { path = []; holder = m }) (flat_map (of_call modules (standings modules d)) (calls_in m))

pub longest_path : AllPaths → (fitted : Fitted) → AreMeasured fitted → AreNamed (design_of fitted) → (measured fitted.checked.resolved).depth ≤ 32 → (main : TypedModule)
    → module_named (design_of fitted) (design_of fitted).main ≡ Some main → IsLongest (design_of fitted) (measured fitted.checked.resolved).depth
longest_path paths fitted same once small main e = record { all = all; one = one }
  where
    circuit : Circuit
    circuit = fitted.checked.resolved

    held : IsHeld circuit.modules (design_of fitted)
    held = held_by fitted same

    typed : IsTyped circuit.modules (design_of fitted)
    typed = typed_by fitted same

    holder : Module
    holder = (held circuit.main.id main e).0

    there : named circuit.modules circuit.main.id ≡ Some holder
    there = (held circuit.main.id main e).1

    zipped : AllZip IsMeasured (pieces_of circuit.modules holder) main.components
    zipped = (held circuit.main.id main e).2

    from_main : (d : ℕ) → standings_of circuit d ≡ standings circuit.modules d holder
    from_main d = ap (of_found (standings circuit.modules d)) there

    all : (path : List ℕ) (m : TypedModule) → module_at (design_of fitted) path ≡ Some m → length path ≤ (measured circuit).depth
    all path m f =
        let within : module_within (design_of fitted) main path ≡ Some m = sym (ap (option_and_then (λ x. module_within (design_of fitted) x path)) e) ∙ f in
        let enough : length path ≤ length path + 33 = omega arith in
        let r = reach (design_of fitted) circuit.modules held typed once path (length path + 33) main holder m zipped within enough in
        let list : Contains (standings_of circuit 33) r.0 = subst (λ l. Contains l r.0) (sym (from_main (length path + 33)) ∙ paths circuit small (length path)) r.1 in
        subst (λ p. length p ≤ (measured circuit).depth) r.2 (deep_least circuit.names circuit.modules (standings_of circuit 33) r.0 list)

    longest : Longest circuit.names circuit.modules (standings_of circuit 33)
    longest = subst (Longest circuit.names circuit.modules) (sym (from_main 33)) (one_stands circuit.names circuit.modules 33 holder)

    one : (path : List ℕ) × (m : TypedModule) × (module_at (design_of fitted) path ≡ Some m) × (length path ≡ (measured circuit).depth)
    one =
        let goes = back (design_of fitted) circuit.modules held typed once 33 circuit.main.id main holder e zipped longest.s (subst (λ l. Contains l longest.s) (from_main 33) longest.there) in
        (longest.s.path, goes.0, ap (option_and_then (λ x. module_within (design_of fitted) x longest.s.path)) e ∙ goes.1, longest.is)

member : {A : Type 0} (test : A → Bool) (xs : List A) (x : A) → find test xs ≡ Some x → Contains xs x
member test [] x e = absurd (none_some e)
member test (y ∷ ys) x e = by (λ g. member test ys x g) (test y) e
  where
    by : (find test ys ≡ Some x → Contains ys x) → (b : Bool) → cond b (Some y) (find test ys) ≡ Some x → Contains (y ∷ ys) x
    by deep true g = subst (Contains (y ∷ ys)) (some_same g) (in_front y ys)
    by deep false g = in_later y ys x (deep g)

pub named_by : (fitted : Fitted) → ((m : TypedModule) → Contains (modules_of fitted) m → (c : Component) → Contains m.components c → component_named m c.declaration.name ≡ Some c) → AreNamed (design_of fitted)
named_by fitted all name n e c there = all n (member (λ (m : TypedModule). m.name == name) (modules_of fitted) n e) c there
