-- Where names have no fault, a use means one declaration.
use Rattle.std.proofs.Common.{◌≡◌, ℕ, zero, suc, ◌+◌, Bool, true, false, if◌then◌else◌, List, [], ◌∷◌, ◌++◌, map, Some, slice_get, refl, sym, ap, ◌∙◌, subst, arith, append_assoc, length, ◌⊎◌, inl, inr, ⊎_elim}
use Rattle.std.proofs.lemmas.List.Elements.{Contains-append_cases}
use Rattle.std.specs.Prelude.{Contains, nat_lt}
use Rattle.std.proofs.lemmas.Bool.{cases_eq}
use Rattle.std.proofs.lemmas.List.{map-append}
use Rattle.fir_types.specs.declared.name.Name.{Name}
use Rattle.fir_tree.specs.declared.circuit.Circuit.{Circuit}
use Rattle.fir_tree.specs.declared.circuit.Module.{Module}
use Rattle.place_text.specs.First.{HasNone}
use Rattle.fir_names.specs.Extents.{Seen, Use, Mark, Refers, Instantiates, Declares, marks_in, seen_behind, uses_behind, declared_by, uses_in, declared_in}
use Rattle.fir_names.specs.Scopes.{texts, module_names, Names}
use Rattle.fir_names.specs.Faults.{IsFault, module_twice, name_twice, name_unknown}
use Rattle.fir_names.proofs.Graphs.{some_same}
use Rattle.circuit_laws.proofs.Scoping.{distinct_behind, distinct_texts, ids_apart}
use Rattle.check_laws.specs.Meant.{MeansOne}
use Rattle.fir_names.proofs.Members.{Contains-first, Contains-later, Contains-none, Contains-one}

-- Modules

get_text : (modules : List Module) (k : ℕ) (m : Module) → slice_get modules k ≡ Some m → slice_get (texts (map (λ (x : Module). x.name) modules)) k ≡ Some m.name.id
get_text [] k m e = cc
get_text (x ∷ modules) zero m e = ap (λ (y : Module). Some y.name.id) (some_same e)
get_text (x ∷ modules) (suc k) m e = get_text modules k m e

pub modules_differ : (circuit : Circuit) → HasNone (IsFault circuit) → (j k : ℕ) (m n : Module) → slice_get circuit.modules j ≡ Some m → slice_get circuit.modules k ≡ Some n
    → m.name.id ≡ n.name.id → j ≡ k
modules_differ circuit none j k m n e f same =
    ids_apart (texts (module_names circuit)) (distinct_texts (module_names circuit) (distinct_behind [] (module_names circuit) (λ name t. none _ (module_twice name t)))) j k n.name.id
    (get_text circuit.modules j m e ∙ ap Some same) (get_text circuit.modules k n f)

-- Declarations

declared-append : (xs ys : List Mark) → declared_by (xs ++ ys) ≡ declared_by xs ++ declared_by ys
declared-append [] ys = refl
declared-append (Refers name ∷ xs) ys = declared-append xs ys
declared-append (Instantiates name ∷ xs) ys = declared-append xs ys
declared-append (Declares name after ∷ xs) ys = ap (λ l. name ∷ l) (declared-append xs ys)

in_where : (b : Bool) (x y : Seen) → Contains (if b then y ∷ [] else []) x → x ≡ y
in_where true x y i = Contains-one i
in_where false x y i = absurd (Contains-none i)

-- What is seen of names is declared by them, at its number.
seen_number : (between n : ℕ) (ms : List Mark) (id k : ℕ) → Contains (seen_behind between n ms) (id, k) → (j : ℕ) × (k ≡ n + j) × (slice_get (texts (declared_by ms)) j ≡ Some id)
seen_number between n [] id k i = absurd (Contains-none i)
seen_number between n (Refers name ∷ ms) id k i = seen_number between n ms id k i
seen_number between n (Instantiates name ∷ ms) id k i = seen_number between n ms id k i
seen_number between n (Declares name after ∷ ms) id k i =
    ⊎_elim
    (λ l. let e : (id, k) ≡ (name.id, n) = in_where (nat_lt (length ms + between) after) (id, k) (name.id, n) l in
    (0, omega (arith, ap (λ (s : Seen). s.1) e), ap (λ (s : Seen). Some s.0) (sym e)))
    (λ r. let s = seen_number between (n + 1) ms id k r in (suc s.0, omega (arith, s.1), s.2))
    (Contains-append_cases (if nat_lt (length ms + between) after then (name.id, n) ∷ [] else []) (seen_behind between (n + 1) ms) _ i)

-- A use sees what the names before it show.
use_seen : (before ms : List Mark) (u : Use) → Contains (uses_behind before ms) u → (front : List Mark) × (back : List Mark) × (before ++ ms ≡ front ++ back) × (u.seen ≡ seen_behind 0 0 front)
use_seen before [] u i = absurd (Contains-none i)
use_seen before (Refers name ∷ ms) u i =
    ⊎_elim (λ l. (before, Refers name ∷ ms, refl, ap (λ (x : Use). x.seen) (Contains-one l)))
    (λ r. let s = use_seen (before ++ Refers name ∷ []) ms u r in (s.0, s.1, sym (append_assoc before (Refers name ∷ []) ms) ∙ s.2, s.3))
    (Contains-append_cases (record { name = name; seen = seen_behind 0 0 before } ∷ []) (uses_behind (before ++ Refers name ∷ []) ms) _ i)
use_seen before (Instantiates name ∷ ms) u i =
    let s = use_seen (before ++ Instantiates name ∷ []) ms u i in (s.0, s.1, sym (append_assoc before (Instantiates name ∷ []) ms) ∙ s.2, s.3)
use_seen before (Declares name after ∷ ms) u i =
    let s = use_seen (before ++ Declares name after ∷ []) ms u i in (s.0, s.1, sym (append_assoc before (Declares name after ∷ []) ms) ∙ s.2, s.3)

get_front : (xs ys : List ℕ) (k c : ℕ) → slice_get xs k ≡ Some c → slice_get (xs ++ ys) k ≡ Some c
get_front [] ys k c e = cc
get_front (x ∷ xs) ys zero c e = e
get_front (x ∷ xs) ys (suc k) c e = get_front xs ys k c e

use_number : (holder : Module) (u : Use) → Contains (uses_in holder) u → (number : ℕ) → Names u number → slice_get (texts (declared_in holder)) number ≡ Some u.name.id
use_number holder u i number names =
    let s = use_seen [] (marks_in holder) u i in
    let t = seen_number 0 0 s.0 u.name.id number (subst (λ list. Contains list (u.name.id, number)) s.3 names) in
    let all : texts (declared_in holder) ≡ texts (declared_by s.0) ++ texts (declared_by s.1) =
    ap (λ ms. texts (declared_by ms)) s.2 ∙ ap texts (declared-append s.0 s.1) ∙ map-append (λ (name : Name). name.id) (declared_by s.0) (declared_by s.1) in
    let at : number ≡ t.0 = omega (arith, t.1) in
    subst (λ l. slice_get l number ≡ Some u.name.id) (sym all)
    (subst (λ k. slice_get (texts (declared_by s.0) ++ texts (declared_by s.1)) k ≡ Some u.name.id) (sym at) (get_front (texts (declared_by s.0)) (texts (declared_by s.1)) t.0 u.name.id t.2))

-- a declaration of the name is seen, or none is
look_up : (id : ℕ) (seen : List Seen) → ((number : ℕ) × Contains seen (id, number)) ⊎ ((number : ℕ) → ¬ (Contains seen (id, number)))
look_up id [] = inr (λ number i. absurd (Contains-none i))
look_up id (s ∷ seen) =
    ⊎_elim (λ e. inl (s.1, subst (λ t. Contains (s ∷ seen) (t, s.1)) e (Contains-first seen)))
    (λ ne. ⊎_elim (λ f. inl (f.0, Contains-later s seen f.1))
    (λ g. inr (λ number i. ⊎_elim (λ l. ne (ap (λ (x : Seen). x.0) (sym (Contains-one l)))) (λ r. g number r) (Contains-append_cases (s ∷ []) seen _ i))) (look_up id seen))
    (cases_eq s.0 id)

pub means_once : (circuit : Circuit) → HasNone (IsFault circuit) → (holder : Module) → Contains circuit.modules holder → (u : Use) → Contains (uses_in holder) u
    → (j k : ℕ) → Names u j → Names u k → j ≡ k
means_once circuit none holder i u used j k a b =
    ids_apart (texts (declared_in holder)) (distinct_texts (declared_in holder) (distinct_behind [] (declared_in holder) (λ name t. none _ (name_twice holder name i t)))) j k u.name.id
    (use_number holder u used j a) (use_number holder u used k b)

pub means_one : (circuit : Circuit) → HasNone (IsFault circuit) → (holder : Module) → Contains circuit.modules holder → (u : Use) → Contains (uses_in holder) u → MeansOne holder u
means_one circuit none holder i u used =
    ⊎_elim (λ f. record {
      number = f.0;
      seen = f.1;
      declared = use_number holder u used f.0 f.1;
      only = λ other names. means_once circuit none holder i u used other f.0 names f.1;
    })
    (λ g. absurd (none _ (name_unknown holder u i used (λ number. g number))))
    (look_up u.name.id u.seen)
