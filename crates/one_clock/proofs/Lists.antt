-- Elements of lists, and leaves of the run that are the same.
use Rattle.std.proofs.Common.{◌≡◌, ℕ, zero, suc, ◌<◌, ◌==◌, Bool, true, false, ◌&&◌, ◌||◌, List, [], ◌∷◌, ◌++◌, length, drop, Some, None, slice_get, refl, sym, ap, ap₂, ◌∙◌, arith, true≢false, eq-eqb}
use Rattle.std.specs.Prelude.{Contains}
use Rattle.std.specs.List.{list_any, flat_map}
use Rattle.std.proofs.lemmas.Bool.{eqb-true}
use Rattle.std.proofs.lemmas.List.Concat.{flat_map-cons}
use Rattle.fir_types.specs.declared.leaf.PathStep.{PathStep}
use Rattle.fir_types.specs.declared.leaf.PathStep.TheVariants as step
use Rattle.fir_meaning.specs.Components.{FlatLeaf}
use Rattle.fir_meaning.specs.Drives.{same_way, same_step}
use Rattle.fir_meaning.proofs.Ports.{one_later}
use Rattle.fir_meaning.proofs.Tracking.{none_some}
use Rattle.fir_names.proofs.Graphs.{some_same}
use Rattle.drive_check.proofs.KeyTests.{way_equal}
use Rattle.drive_check.proofs.Telling.{contains_get}
use Rattle.clock_check.specs.Flats.{same_path, same_flat}

-- Places in lists

pub get_left : {A : Type 0} (xs ys : List A) (k : ℕ) → k < length xs → slice_get (xs ++ ys) k ≡ slice_get xs k
get_left [] ys k below = absurd (omega (arith, below))
get_left (x ∷ xs) ys zero below = refl
get_left (x ∷ xs) ys (suc k) below = get_left xs ys k (omega (arith, below))

pub before_end : {A : Type 0} (xs : List A) (k at : ℕ) (x : A) → slice_get xs k ≡ Some x → slice_get xs at ≡ None → k < at
before_end [] k at x e f = absurd (none_some e)
before_end (y ∷ xs) k zero x e f = absurd (none_some (sym f))
before_end (y ∷ xs) zero (suc at) x e f = omega arith
before_end (y ∷ xs) (suc k) (suc at) x e f = let rest = before_end xs k at x e f in omega (arith, rest)

pub get_drop : {A : Type 0} (xs : List A) (n : ℕ) → slice_get (drop n xs) 0 ≡ slice_get xs n
get_drop [] zero = refl
get_drop [] (suc n) = refl
get_drop (x ∷ xs) zero = refl
get_drop (x ∷ xs) (suc n) = get_drop xs n

pub same_flat_map : {A B : Type 0} (f g : A → List B) (xs : List A) → ((x : A) → Contains xs x → f x ≡ g x) → flat_map f xs ≡ flat_map g xs
same_flat_map f g [] h = refl
same_flat_map f g (x ∷ xs) h =
    flat_map-cons f x xs ∙ ap₂ (λ a b. a ++ b) (h x (0, omega arith, refl)) (same_flat_map f g xs (λ y c. h y (one_later x xs y c))) ∙ sym (flat_map-cons g x xs)

pub one_in : {A : Type 0} (y x : A) → Contains (y ∷ []) x → x ≡ y
one_in y x (zero, below, is) = sym is
one_in y x (suc k, below, is) = absurd (omega arith)

-- Tests

or_true : (b c : Bool) → c ≡ true → (b || c) ≡ true
or_true true c e = refl
or_true false c e = e

pub any_in : {A : Type 0} (p : A → Bool) (xs : List A) → list_any p xs ≡ true → (x : A) × Contains xs x × (p x ≡ true)
any_in p [] e = absurd (true≢false (sym e))
any_in p (x ∷ xs) e = by (p x) refl (λ h. any_in p xs h)
  where
    by : (b : Bool) → p x ≡ b → (list_any p xs ≡ true → (y : _) × Contains xs y × (p y ≡ true)) → (y : _) × Contains (x ∷ xs) y × (p y ≡ true)
    by true h rest = (x, (0, omega arith, refl), h)
    by false h rest = let r = rest (sym (ap (λ b. b || list_any p xs) h) ∙ e) in (r.0, one_later x xs r.0 r.1, r.2)

get_any : {A : Type 0} (p : A → Bool) (xs : List A) (k : ℕ) (x : A) → slice_get xs k ≡ Some x → p x ≡ true → list_any p xs ≡ true
get_any p [] k x e h = absurd (none_some e)
get_any p (y ∷ xs) zero x e h = ap (λ b. b || list_any p xs) (ap p (some_same e) ∙ h)
get_any p (y ∷ xs) (suc k) x e h = or_true (p y) (list_any p xs) (get_any p xs k x e h)

pub in_any : {A : Type 0} (p : A → Bool) (xs : List A) (x : A) → Contains xs x → p x ≡ true → list_any p xs ≡ true
in_any p xs x c h = let at = contains_get xs x c in get_any p xs at.0 x at.1 h

pub and_parts : (a b : Bool) → (a && b) ≡ true → (a ≡ true) × (b ≡ true)
and_parts true b e = (refl, e)
and_parts false b e = absurd (true≢false (sym e))

pub and_both : (a b : Bool) → a ≡ true → b ≡ true → (a && b) ≡ true
and_both a b e h = ap (λ x. x && b) e ∙ h

-- The same leaves of the run

step_itself : (s : PathStep) → same_step s s ≡ true
step_itself (step.Field n) = eq-eqb n n refl
step_itself (step.Element n) = eq-eqb n n refl

way_itself : (way : List PathStep) → same_way way way ≡ true
way_itself [] = refl
way_itself (s ∷ way) = and_both (same_step s s) (same_way way way) (step_itself s) (way_itself way)

path_itself : (path : List ℕ) → same_path path path ≡ true
path_itself [] = refl
path_itself (i ∷ path) = and_both (i == i) (same_path path path) (eq-eqb i i refl) (path_itself path)

pub flat_itself : (x : FlatLeaf) → same_flat x x ≡ true
flat_itself x = and_both (same_path x.path x.path) ((x.component == x.component) && same_way x.way x.way) (path_itself x.path)
    (and_both (x.component == x.component) (same_way x.way x.way) (eq-eqb x.component x.component refl) (way_itself x.way))

path_equal : (a b : List ℕ) → same_path a b ≡ true → a ≡ b
path_equal [] [] e = refl
path_equal [] (y ∷ b) e = absurd (true≢false (sym e))
path_equal (x ∷ a) [] e = absurd (true≢false (sym e))
path_equal (x ∷ a) (y ∷ b) e =
    let both = and_parts (x == y) (same_path a b) e in
    ap₂ (λ (s : ℕ) (p : List ℕ). s ∷ p) (eqb-true x y both.0) (path_equal a b both.1)

pub flat_equal : (a b : FlatLeaf) → same_flat a b ≡ true → a ≡ b
flat_equal a b e =
    let both = and_parts (same_path a.path b.path) ((a.component == b.component) && same_way a.way b.way) e in
    let rest = and_parts (a.component == b.component) (same_way a.way b.way) both.1 in
    λ i. record { path = path_equal a.path b.path both.0 i; component = eqb-true a.component b.component rest.0 i; way = way_equal a.way b.way rest.1 i }
