-- Modules and their numbers, one after another.
use Rattle.std.proofs.Common.{◌≡◌, ◌≢◌, ℕ, zero, suc, ◌+◌, ◌-◌, ◌<◌, ◌≤◌, Bool, true, false, List, [], ◌∷◌, ◌++◌, map, zip, length, take, drop, get_or, slice_get, refl, sym, ap, ◌∙◌, subst, if◌then◌else◌, arith, true≢false}
use Rattle.std.specs.Prelude.{is_some, cond, nat_eq, Option, Some, None, sum_by, ◌^◌, ◌↔◌, All}
use Rattle.std.specs.Map.{lookup}
use Rattle.std.proofs.lemmas.List.{take_more, length-take-le, drop_more, drop-drop, length-drop}
use Rattle.std.proofs.lemmas.List.Sums.{sum_by-cons}
use Rattle.std.proofs.lemmas.Bool.{eqb-true, eqb-false}
use Rattle.std.proofs.lemmas.Option.{slice_get-get_or}
use Rattle.fir_types.specs.declared.name.Name.{Name}
use Rattle.fir_types.specs.declared.fir_type.FirType.{FirType}
use Rattle.fir_tree.specs.declared.circuit.Module.{Module}
use Rattle.fir_tree.specs.declared.circuit.Circuit.{Circuit}
use Rattle.fir_tree.specs.declared.scope.Fitted.{Fitted}
use Rattle.fir_names.specs.Scopes.{texts, module_names, FirstOf, Means}
use Rattle.fir_names.specs.Finds.{numbered}
use Rattle.fir_names.proofs.Graphs.{some_same}
use Rattle.fir_meaning.specs.Components.{TypedModule, declarations_of, with_types, modules_of, design_of, module_named, module_at}
use Rattle.fir_meaning.proofs.Tracking.{none_some}
use Rattle.circuit_laws.specs.WellFormed.{IsWellFormed}
use Rattle.ground_net.specs.declared.circuit.GroundModule.{GroundModule}
use Rattle.lower_aggregates.specs.Headings.{headings_of}
use Rattle.lower_aggregates.specs.Instances.{Numbers}
use Rattle.lower_aggregates.specs.Modules.{IsLowerable}
use Rattle.lower_aggregates.specs.Circuits.{IsPlaced, with_new, StandsFrom, IsMadeAt, AreMade}
use Rattle.fir_names.proofs.Members.{Contains-get}

-- Numbers of names

or_else : {X : Type 0} → Option X → Option X → Option X
or_else (Some x) o = Some x
or_else None o = o

lookup-append : (xs ys : List (ℕ × ℕ)) (id : ℕ) → lookup (nat_eq id) (xs ++ ys) ≡ or_else (lookup (nat_eq id) xs) (lookup (nat_eq id) ys)
unfolding or_else
lookup-append [] ys id = refl
lookup-append (x ∷ xs) ys id = by (nat_eq id x.0) (lookup-append xs ys id)
  where
    by : (b : Bool) → lookup (nat_eq id) (xs ++ ys) ≡ or_else (lookup (nat_eq id) xs) (lookup (nat_eq id) ys)
        → cond b (Some x.1) (lookup (nat_eq id) (xs ++ ys)) ≡ or_else (cond b (Some x.1) (lookup (nat_eq id) xs)) (lookup (nat_eq id) ys)
    by true h = refl
    by false h = h

numbered-append : (n : ℕ) (xs ys : List Name) → numbered n (xs ++ ys) ≡ numbered n xs ++ numbered (n + length xs) ys
numbered-append n [] ys = ap (λ k. numbered k ys) (omega arith)
numbered-append n (x ∷ xs) ys = ap (λ l. (x.id, n) ∷ l) (numbered-append (n + 1) xs ys ∙ ap (λ k. numbered (n + 1) xs ++ numbered k ys) (omega arith))

new_lookup : (numbers : List (ℕ × ℕ)) (key i id : ℕ) → lookup (nat_eq id) (with_new numbers key i) ≡ or_else (lookup (nat_eq id) numbers) (cond (nat_eq id key) (Some i) None)
unfolding or_else
new_lookup numbers key i id = by (lookup (nat_eq key) numbers) refl
  where
    stays : (j : ℕ) → lookup (nat_eq key) numbers ≡ Some j → (o : Option ℕ) → lookup (nat_eq id) numbers ≡ o → (b : Bool) → nat_eq id key ≡ b → o ≡ or_else o (cond b (Some i) None)
    stays j e (Some k) f b g = refl
    stays j e None f false g = refl
    stays j e None f true g = absurd (true≢false (sym (ap is_some e) ∙ ap is_some (ap (λ k. lookup (nat_eq k) numbers) (sym (eqb-true id key g)) ∙ f)))

    by : (o : Option ℕ) → lookup (nat_eq key) numbers ≡ o
        → lookup (nat_eq id) (if is_some o then numbers else numbers ++ (key, i) ∷ []) ≡ or_else (lookup (nat_eq id) numbers) (cond (nat_eq id key) (Some i) None)
    by (Some j) e = stays j e (lookup (nat_eq id) numbers) refl (nat_eq id key) refl
    by None e = lookup-append numbers ((key, i) ∷ []) id

names-append : (xs ys : List Module) → map (λ m. m.name) (xs ++ ys) ≡ map (λ m. m.name) xs ++ map (λ m. m.name) ys
names-append [] ys = refl
names-append (x ∷ xs) ys = ap (λ l. x.name ∷ l) (names-append xs ys)

names_long : (xs : List Module) → length (map (λ m. m.name) xs) ≡ length xs
names_long [] = refl
names_long (x ∷ xs) = ap suc (names_long xs)

-- the names with one more
pub placed_more : (modules : List Module) (i : ℕ) (x : Module) (numbers after : Numbers) → i < length modules → x ≡ get_or modules i x → IsPlaced (map (λ m. m.name) (take i modules)) numbers
    → after ≡ with_new numbers (get_or modules i x).name.id i → IsPlaced (map (λ m. m.name) (take (i + 1) modules)) after
placed_more modules i x numbers after lt is h e id =
    let before : List Name = map (λ m. m.name) (take i modules) in
    let n : length before ≡ i = names_long (take i modules) ∙ length-take-le i modules (omega (arith, lt)) in
    let more : take (i + 1) modules ≡ take i modules ++ x ∷ [] = take_more modules i x lt ∙ ap (λ y. take i modules ++ y ∷ []) (sym is) in
    let split : numbered 0 (map (λ m. m.name) (take (i + 1) modules)) ≡ numbered 0 before ++ (x.name.id, i) ∷ [] =
    ap (λ ms. numbered 0 (map (λ m. m.name) ms)) more ∙ ap (numbered 0) (names-append (take i modules) (x ∷ [])) ∙ numbered-append 0 before (x.name ∷ [])
    ∙ ap (λ k. numbered 0 before ++ (x.name.id, k) ∷ []) (omega (arith, n)) in
    ap (lookup (nat_eq id)) (e ∙ ap (λ (y : Module). with_new numbers y.name.id i) (sym is)) ∙ new_lookup numbers x.name.id i id ∙ ap (λ o. or_else o (cond (nat_eq id x.name.id) (Some i) None)) (h id)
    ∙ sym (lookup-append (numbered 0 before) ((x.name.id, i) ∷ []) id) ∙ sym (ap (lookup (nat_eq id)) split)

-- What numbers mean

first_sound : (n : ℕ) (names : List Name) (t k : ℕ) → lookup (nat_eq t) (numbered n names) ≡ Some k → (j : ℕ) × (k ≡ n + j) × FirstOf (texts names) t j
first_sound n [] t k e = absurd (none_some e)
first_sound n (x ∷ xs) t k e = by (nat_eq t x.id) refl e (λ h. first_sound (n + 1) xs t k h)
  where
    by : (b : Bool) → nat_eq t x.id ≡ b → cond b (Some n) (lookup (nat_eq t) (numbered (n + 1) xs)) ≡ Some k
        → (lookup (nat_eq t) (numbered (n + 1) xs) ≡ Some k → (j : ℕ) × (k ≡ (n + 1) + j) × FirstOf (texts xs) t j) → (j : ℕ) × (k ≡ n + j) × FirstOf (texts (x ∷ xs)) t j
    by true same h rest = (0, omega (arith, some_same h), record { has = ap Some (sym (eqb-true t x.id same)); first = λ i lt. absurd (omega (arith, lt)) })
    by false other h rest =
        let r = rest h in
        (suc r.0, omega (arith, r.1), record { has = r.2.has; first = earlier r.0 r.2 })
      where
        earlier : (j : ℕ) → FirstOf (texts xs) t j → (i : ℕ) → i < suc j → slice_get (texts (x ∷ xs)) i ≢ Some t
        earlier j f zero lt = λ h. eqb-false t x.id other (sym (some_same h))
        earlier j f (suc i) lt = f.first i (omega (arith, lt))

first_complete : (n : ℕ) (names : List Name) (t j : ℕ) → FirstOf (texts names) t j → lookup (nat_eq t) (numbered n names) ≡ Some (n + j)
first_complete n [] t j f = absurd (none_some f.has)
first_complete n (x ∷ xs) t zero f = by (nat_eq t x.id) refl
  where
    by : (b : Bool) → nat_eq t x.id ≡ b → cond b (Some n) (lookup (nat_eq t) (numbered (n + 1) xs)) ≡ Some (n + 0)
    by true same = ap Some (omega arith)
    by false other = absurd (eqb-false t x.id other (sym (some_same f.has)))
first_complete n (x ∷ xs) t (suc j) f = by (nat_eq t x.id) refl (first_complete (n + 1) xs t j (record { has = f.has; first = λ i lt. f.first (suc i) (omega (arith, lt)) }))
  where
    by : (b : Bool) → nat_eq t x.id ≡ b → lookup (nat_eq t) (numbered (n + 1) xs) ≡ Some ((n + 1) + j) → cond b (Some n) (lookup (nat_eq t) (numbered (n + 1) xs)) ≡ Some (n + suc j)
    by true same h = absurd (f.first 0 (omega arith) (ap Some (sym (eqb-true t x.id same))))
    by false other h = h ∙ ap Some (omega arith)

pub placed_means : (circuit : Circuit) (numbers : Numbers) → IsPlaced (module_names circuit) numbers → (name number : ℕ) → lookup (nat_eq name) numbers ≡ Some number → Means circuit name number
placed_means circuit numbers placed name number e =
    let r = first_sound 0 (module_names circuit) name number (sym (placed name) ∙ e) in
    let same : r.0 ≡ number = omega (arith, r.1) in
    subst (λ k. Means circuit name k) same r.2

pub placed_known : (circuit : Circuit) (numbers : Numbers) → IsPlaced (module_names circuit) numbers → (name number : ℕ) → Means circuit name number → is_some (lookup (nat_eq name) numbers) ≡ true
placed_known circuit numbers placed name number means = ap is_some (placed name ∙ first_complete 0 (module_names circuit) name number means)

-- Types of the modules from one on

abbrev module_with : Module → List FirType → TypedModule
module_with x types = record { name = x.name.id; components = map (λ both. record { declaration = both.0; typ = both.1 }) (zip (declarations_of x) types) }

front : (modules : List Module) (i : ℕ) (x : Module) → i < length modules → x ≡ get_or modules i x → drop i modules ≡ x ∷ drop (i + 1) modules
front modules i x lt is = drop_more modules i x lt ∙ ap (λ y. y ∷ drop (i + 1) modules) (sym is)

get_drop : {X : Type 0} (xs : List X) (i : ℕ) → slice_get (drop i xs) 0 ≡ slice_get xs i
get_drop [] zero = refl
get_drop [] (suc i) = refl
get_drop (x ∷ xs) zero = refl
get_drop (x ∷ xs) (suc i) = get_drop xs i

abbrev counts : Module → ℕ
counts holder = length (declarations_of holder)

pub stands_next : (fitted : Fitted) (i n : ℕ) (x : Module) (types after : List FirType) → i < length fitted.checked.resolved.modules → x ≡ get_or fitted.checked.resolved.modules i x → StandsFrom fitted i types
    → n ≡ length (declarations_of x) → after ≡ drop n types → StandsFrom fitted (i + 1) after
stands_next fitted i n x types after lt is s m r =
    let modules : List Module = fitted.checked.resolved.modules in
    let f : drop i modules ≡ x ∷ drop (i + 1) modules = front modules i x lt is in
    let behind : after ≡ drop (length (declarations_of x)) types = r ∙ ap (λ k. drop k types) m in
    let sum : counts x + sum_by counts (drop (i + 1) modules) ≡ length types = sym (sum_by-cons counts x (drop (i + 1) modules)) ∙ ap (sum_by counts) (sym f) ∙ s.counted in
    let long : length after ≡ length types - counts x = ap length behind ∙ length-drop (counts x) types in
    record {
      typed = ap (λ ts. with_types (drop (i + 1) modules) ts) behind ∙ ap (λ l. drop 1 (with_types l types)) (sym f) ∙ ap (drop 1) s.typed ∙ drop-drop 1 i (modules_of fitted);
      counted = omega (arith, sum, long);
    }

pub stands_first : (fitted : Fitted) → IsWellFormed fitted → StandsFrom fitted 0 fitted.declared
stands_first fitted w = record { typed = refl; counted = sym w.declared }

pub enough : (fitted : Fitted) (i : ℕ) (x : Module) (types : List FirType) → i < length fitted.checked.resolved.modules → x ≡ get_or fitted.checked.resolved.modules i x → StandsFrom fitted i types
    → length (headings_of x) ≡ length (declarations_of x) → length (headings_of x) ≤ length types
enough fitted i x types lt is s same =
    let modules : List Module = fitted.checked.resolved.modules in
    let sum : counts x + sum_by counts (drop (i + 1) modules) ≡ length types =
    sym (sum_by-cons counts x (drop (i + 1) modules)) ∙ ap (sum_by counts) (sym (front modules i x lt is)) ∙ s.counted in
    omega (arith, sum, same)

own_module : (fitted : Fitted) (i : ℕ) (x : Module) (types : List FirType) → i < length fitted.checked.resolved.modules → x ≡ get_or fitted.checked.resolved.modules i x → StandsFrom fitted i types
    → slice_get (modules_of fitted) i ≡ Some (module_with x types)
own_module fitted i x types lt is s =
    sym (get_drop (modules_of fitted) i) ∙ ap (λ l. slice_get l 0) (sym s.typed) ∙ ap (λ l. slice_get (with_types l types) 0) (front fitted.checked.resolved.modules i x lt is)

-- Modules that are lowered

abbrev pub ReachLaw : Type 0
ReachLaw = (fitted : Fitted) → IsWellFormed fitted → (k : ℕ) (m : TypedModule) → slice_get (modules_of fitted) k ≡ Some m
    → (slice_get fitted.checked.scope.reached k ≡ Some true) ↔ ((path : List ℕ) × (module_at (design_of fitted) path ≡ Some m))

abbrev pub NumberLaw : Type 0
NumberLaw = (fitted : Fitted) (name : ℕ) (m : TypedModule) → module_named (design_of fitted) name ≡ Some m → (k : ℕ) × Means fitted.checked.resolved name k × (slice_get (modules_of fitted) k ≡ Some m)

pub lowerable : ReachLaw → NumberLaw → (fitted : Fitted) → IsWellFormed fitted → (numbers : Numbers) → IsPlaced (module_names fitted.checked.resolved) numbers → (i : ℕ) (x : Module) (types : List FirType)
    → i < length fitted.checked.resolved.modules → x ≡ get_or fitted.checked.resolved.modules i x → StandsFrom fitted i types → slice_get fitted.checked.scope.reached i ≡ Some true
    → (m : TypedModule) → slice_get (modules_of fitted) i ≡ Some m → IsLowerable fitted.checked.resolved fitted.checked.scope numbers x types m
lowerable reach number fitted w numbers placed i x types lt is s reached m e =
    let holds : slice_get fitted.checked.resolved.modules i ≡ Some x = slice_get-get_or fitted.checked.resolved.modules i x lt ∙ ap Some (sym is) in
    let path = (reach fitted w i m e).0 reached in
    record {
      scoped = w.scope;
      names = w.names;
      among = Contains-get fitted.checked.resolved.modules i x holds;
      components = ap (λ (n : TypedModule). n.components) (sym (some_same (sym (own_module fitted i x types lt is s) ∙ e)));
      typed = w.types i x m holds e reached;
      bundles = λ c memory listed sort. w.bundles.memories path.0 m c memory path.1 (w.bundles.names path.0 m c path.1 listed) sort;
      made = λ c target listed sort.
          let made = w.bundles.instances path.0 m c target path.1 (w.bundles.names path.0 m c path.1 listed) sort in
          let its = number fitted target made.0 made.1 in
          placed_known fitted.checked.resolved numbers placed target its.0 its.1;
      means = placed_means fitted.checked.resolved numbers placed;
    }

pub one_lowerable : ReachLaw → NumberLaw → (fitted : Fitted) → IsWellFormed fitted → (numbers : Numbers) → IsPlaced (module_names fitted.checked.resolved) numbers → (i : ℕ) (x : Module) (types : List FirType)
    → i < length fitted.checked.resolved.modules → x ≡ get_or fitted.checked.resolved.modules i x → StandsFrom fitted i types → slice_get fitted.checked.scope.reached i ≡ Some true
    → (m : TypedModule) × IsLowerable fitted.checked.resolved fitted.checked.scope numbers x types m
one_lowerable reach number fitted w numbers placed i x types lt is s reached =
    (module_with x types, lowerable reach number fitted w numbers placed i x types lt is s reached (module_with x types) (own_module fitted i x types lt is s))

-- What is made, module by module

pub made_more : (fitted : Fitted) (made : List GroundModule) (i : ℕ) (g : GroundModule) → length made ≡ i → AreMade fitted made → IsMadeAt fitted i g → AreMade fitted (made ++ g ∷ [])
made_more fitted made i g n all one k h e =
    subst (λ j. IsMadeAt fitted j h) (omega arith) (by fitted made i 0 g (omega (arith, n)) (λ j y at. subst (λ l. IsMadeAt fitted l y) (omega arith) (all j y at)) one k h e)
  where
    by : (fitted : Fitted) (made : List GroundModule) (i from : ℕ) (g : GroundModule) → from + length made ≡ i → ((k : ℕ) (h : GroundModule) → slice_get made k ≡ Some h → IsMadeAt fitted (from + k) h) → IsMadeAt fitted i g
        → (k : ℕ) (h : GroundModule) → slice_get (made ++ g ∷ []) k ≡ Some h → IsMadeAt fitted (from + k) h
    by fitted [] i from g n all one zero h e = subst (λ j. IsMadeAt fitted j h) (omega (arith, n)) (subst (IsMadeAt fitted i) (some_same e) one)
    by fitted [] i from g n all one (suc k) h e = absurd (none_some e)
    by fitted (x ∷ made) i from g n all one zero h e = all 0 h e
    by fitted (x ∷ made) i from g n all one (suc k) h e =
        subst (λ j. IsMadeAt fitted j h) (omega arith)
        (by fitted made i (from + 1) g (omega (arith, n)) (λ j y at. subst (λ l. IsMadeAt fitted l y) (omega arith) (all (suc j) y at)) one k h e)

pub all_short : (fitted : Fitted) (made : List GroundModule) → AreMade fitted made → All (λ m. length m.leaves < 2 ^ 32) made
all_short fitted made all k d lt = (all k (get_or made k d) (slice_get-get_or made k d lt)).short

pub long_more : (made after : List GroundModule) (i : ℕ) (g : GroundModule) → length made ≡ i → after ≡ made ++ g ∷ [] → length after ≡ i + 1
long_more made after i g n e = ap length e ∙ pushed made ∙ omega (arith, n)
  where
    pushed : (xs : List GroundModule) → length (xs ++ g ∷ []) ≡ length xs + 1
    pushed [] = refl
    pushed (x ∷ xs) = ap suc (pushed xs) ∙ omega arith
