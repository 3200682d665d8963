-- The numbers of modules by name, one module after another.
use Rattle.std.proofs.Common.{◌≡◌, ℕ, ◌+◌, ◌<◌, Bool, true, false, List, [], ◌∷◌, ◌++◌, map, length, take, get_or, refl, sym, ap, ap₂, ◌∙◌, subst, if◌then◌else◌, true≢false}
use Rattle.std.specs.Prelude.{is_some, cond, nat_eq, Option, Some, None, option_map, slice_get, ◌==◌, ◌≤◌, All, IfSome, MatchOption}
use Rattle.std.specs.Map.{lookup}
use Rattle.std.proofs.lemmas.List.{take_more, map-append}
use Rattle.std.proofs.lemmas.List.Elements.{All-get_or}
use Rattle.std.proofs.lemmas.Option.{slice_get-get_or, slice_get-map, slice_get_read, slice_get_past, slice_get_within, get_or_from_slice_get}
use Rattle.std.proofs.lemmas.Bool.{eqb-true, eqb-false}
use Rattle.std.proofs.Math.Logic.{∥∥₁_map}
use Rattle.fir_tree.specs.declared.circuit.Module.{Module}
use Rattle.module_table.specs.declared.modules.Instance.{Instance}
use Rattle.module_table.specs.Tables.{with_new, named, IsIndex, IsIndexOf, bundle_of, instance_typ}

abbrev or_else : {X : Type 0} → Option X → Option X → Option X
or_else (Some x) o = Some x
or_else None o = o

lookup-append : {X : Type 0} (xs ys : List (ℕ × X)) (name : ℕ) → lookup (nat_eq name) (xs ++ ys) ≡ or_else (lookup (nat_eq name) xs) (lookup (nat_eq name) ys)
lookup-append [] ys name = refl
lookup-append (x ∷ xs) ys name = by (nat_eq name x.0) (lookup-append xs ys name)
  where
    by : (b : Bool) → lookup (nat_eq name) (xs ++ ys) ≡ or_else (lookup (nat_eq name) xs) (lookup (nat_eq name) ys)
        → cond b (Some x.1) (lookup (nat_eq name) (xs ++ ys)) ≡ or_else (cond b (Some x.1) (lookup (nat_eq name) xs)) (lookup (nat_eq name) ys)
    by true h = refl
    by false h = h

named-append : (xs ys : List Module) (name : ℕ) → named (xs ++ ys) name ≡ or_else (named xs name) (named ys name)
named-append [] ys name = refl
named-append (x ∷ xs) ys name = by (x.name.id == name) (named-append xs ys name)
  where
    by : (b : Bool) → named (xs ++ ys) name ≡ or_else (named xs name) (named ys name)
        → cond b (Some x) (named (xs ++ ys) name) ≡ or_else (cond b (Some x) (named xs name)) (named ys name)
    by true h = refl
    by false h = h

-- a number and the module that has it
abbrev Fits : List Module → Option ℕ → Option Module → Type 0
Fits all number module' = option_map (slice_get all) number ≡ option_map Some module'

fits_else : (all : List Module) (a b : Option ℕ) (m n : Option Module) → Fits all a m → Fits all b n → Fits all (or_else a b) (or_else m n)
fits_else all (Some i) b (Some x) n h k = h
fits_else all (Some i) b None n h k = absurd (true≢false (ap is_some h))
fits_else all None b (Some x) n h k = absurd (true≢false (sym (ap is_some h)))
fits_else all None b None n h k = k

-- another module of a name that has a number changes nothing
fits_again : (all : List Module) (j : ℕ) (m n : Option Module) → Fits all (Some j) m → Fits all (Some j) (or_else m n)
fits_again all j (Some x) n h = h
fits_again all j None n h = absurd (true≢false (ap is_some h))

else_none : {X : Type 0} (o : Option X) → or_else o None ≡ o
else_none (Some x) = refl
else_none None = refl

same_test : (a b : ℕ) → (a == b) ≡ nat_eq b a
same_test a b = by (a == b) (nat_eq b a) refl refl
  where
    by : (x y : Bool) → (a == b) ≡ x → nat_eq b a ≡ y → x ≡ y
    by true true e f = refl
    by true false e f = absurd (eqb-false b a f (sym (eqb-true a b e)))
    by false true e f = absurd (eqb-false a b e (sym (eqb-true b a f)))
    by false false e f = refl

pub index_more : (all : List Module) (i : ℕ) (d : Module) (numbers after : List (ℕ × ℕ)) → i < length all → IsIndexOf all numbers (take i all)
    → after ≡ with_new numbers (get_or all i d).name.id i → IsIndexOf all after (take (i + 1) all)
index_more all i d numbers after lt h e name =
    subst (Fits all (lookup (nat_eq name) after)) (sym (ap (λ l. named l name) (take_more all i d lt) ∙ named-append (take i all) (x ∷ []) name)) (by (lookup (nat_eq key) numbers) refl)
  where
    x : Module
    x = get_or all i d

    key : ℕ
    key = x.name.id

    last : Option Module
    last = cond (key == name) (Some x) None

    there : (j : ℕ) → lookup (nat_eq key) numbers ≡ Some j → (b : Bool) → (key == name) ≡ b
        → Fits all (lookup (nat_eq name) numbers) (or_else (named (take i all) name) (cond b (Some x) None))
    there j is true same = let has : lookup (nat_eq name) numbers ≡ Some j = ap (λ k. lookup (nat_eq k) numbers) (sym (eqb-true key name same)) ∙ is in
        subst (λ o. Fits all o (or_else (named (take i all) name) (Some x))) (sym has)
        (fits_again all j (named (take i all) name) (Some x) (subst (λ o. Fits all o (named (take i all) name)) has (h name)))
    there j is false other = subst (Fits all (lookup (nat_eq name) numbers)) (sym (else_none (named (take i all) name))) (h name)

    own : (b : Bool) → Fits all (cond b (Some i) None) (cond b (Some x) None)
    own true = ap Some (slice_get-get_or all i d lt)
    own false = refl

    by : (o : Option ℕ) → lookup (nat_eq key) numbers ≡ o → Fits all (lookup (nat_eq name) after) (or_else (named (take i all) name) last)
    by (Some j) is = let same : after ≡ numbers = e ∙ ap (λ (o : Option ℕ). if is_some o then numbers else numbers ++ (key, i) ∷ []) is in
        subst (λ l. Fits all (lookup (nat_eq name) l) (or_else (named (take i all) name) last)) (sym same) (there j is (key == name) refl)
    by None is = let more : after ≡ numbers ++ (key, i) ∷ [] = e ∙ ap (λ (o : Option ℕ). if is_some o then numbers else numbers ++ (key, i) ∷ []) is in
        let looked : lookup (nat_eq name) after ≡ or_else (lookup (nat_eq name) numbers) (cond (key == name) (Some i) None)
        = ap (lookup (nat_eq name)) more ∙ lookup-append numbers ((key, i) ∷ []) name ∙ ap (λ b. or_else (lookup (nat_eq name) numbers) (cond b (Some i) None)) (sym (same_test key name)) in
        subst (λ o. Fits all o (or_else (named (take i all) name) last)) (sym looked)
        (fits_else all (lookup (nat_eq name) numbers) (cond (key == name) (Some i) None) (named (take i all) name) last (h name) (own (key == name)))

-- the instance with the number of a name is that of the first module of the name

found_at : (o m : Option Module) → ◌≡◌ {A = Option (Option Module)} (Some o) (option_map Some m) → o ≡ m
found_at o (Some x) h = by o h
  where
    by : (o : Option Module) → ◌≡◌ {A = Option (Option Module)} (Some o) (Some (Some x)) → o ≡ Some x
    by o h = cc
found_at o None h = absurd (true≢false (ap is_some h))

-- what a slice gives at a position
pub got_at : {B X : Type 0} (now : B → X) (P : B → Type 0) (xs : List X) (i : ℕ) (r : Option B) → IfSome r (λ x. now x ≡ get_or xs i (now x))
    → MatchOption r (length xs ≤ i) (λ x. (i < length xs) × P x) → option_map now r ≡ slice_get xs i
got_at now P xs i (Some x) is h = sym (slice_get_read xs (length xs) i (now x) refl h.0 is)
got_at now P xs i None is h = sym (slice_get_past xs i h)

pub instance_at : (all : List Module) (numbers : List (ℕ × ℕ)) (instances : List Instance) (name number : ℕ) → IsIndex all numbers
    → map instance_typ instances ≡ map bundle_of all → lookup (nat_eq name) numbers ≡ Some number
    → option_map instance_typ (slice_get instances number) ≡ option_map bundle_of (named all name)
instance_at all numbers instances name number h made is =
    sym (slice_get-map instance_typ instances number) ∙ ap (λ l. slice_get l number) made ∙ slice_get-map bundle_of all number
    ∙ ap (option_map bundle_of) (found_at (slice_get all number) (named all name) (ap (option_map (slice_get all)) (sym is) ∙ h name))

-- one more instance
pub instances_more : (modules : List Module) (i : ℕ) (m : Module) (instances after : List Instance) (one : Instance) → i < length modules → m ≡ get_or modules i m
    → map instance_typ instances ≡ map bundle_of (take i modules) → instance_typ one ≡ bundle_of m → after ≡ instances ++ one ∷ []
    → map instance_typ after ≡ map bundle_of (take (i + 1) modules)
instances_more modules i m instances after one lt is h own e =
    ap (map instance_typ) e ∙ map-append instance_typ instances (one ∷ []) ∙ ap₂ (λ l t. l ++ t ∷ []) h (own ∙ ap bundle_of is)
    ∙ sym (ap (map bundle_of) (take_more modules i m lt) ∙ map-append bundle_of (take i modules) (get_or modules i m ∷ []))

-- what holds of each holds of what is got
pub kept_at : {X : Type 0} (P : X → Type 0) (xs : List X) (i : ℕ) (x : X) → ∥ All P xs ∥₁ → Some x ≡ slice_get xs i → ∥ P x ∥₁
kept_at P xs i x all e = ∥∥₁_map all (λ h. subst P (get_or_from_slice_get xs i x x (sym e)) (All-get_or P xs i x (slice_get_within xs i x (sym e)) h))

pub each_got : {B X : Type 0} (now : B → X) (P : X → Type 0) (xs : List X) (i : ℕ) (r : Option B) → ((x : X) → Some x ≡ slice_get xs i → P x)
    → option_map now r ≡ slice_get xs i → IfSome r (λ b. P (now b))
each_got now P xs i (Some b) h e = h (now b) e
each_got now P xs i None h e = tt
