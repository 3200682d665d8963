-- The places of fields, one field after another, and the field at a place.
use Rattle.std.proofs.Common.{◌≡◌, ℕ, zero, suc, ◌+◌, ◌<◌, ◌≤◌, Bool, true, false, List, [], ◌∷◌, ◌++◌, length, take, get_or, refl, sym, ap, ◌∙◌, if◌then◌else◌, arith}
use Rattle.std.specs.Prelude.{is_some, cond, nat_eq, Option, Some, None, option_map, sum, find, slice_get, ◌==◌}
use Rattle.std.specs.Map.{lookup}
use Rattle.std.specs.List.{fold}
use Rattle.std.specs.Option.{option_or, IfSome, MatchOption}
use Rattle.std.proofs.lemmas.Option.{slice_get_read, slice_get_past}
use Rattle.std.proofs.lemmas.List.{take_more, length-take-le}
use Rattle.std.proofs.lemmas.Bool.{eqb-true, eqb-false}
use Rattle.fir_types.specs.declared.fir_type.Field.{Field}
use Rattle.fir_types.specs.declared.index.FieldPlace.{FieldPlace}
use Rattle.fir_types.specs.Indexes.{first_at, place_in, ArePlaces, with_new}

or_none : {X : Type 0} (o : Option X) → option_or o None ≡ o
or_none (Some x) = refl
or_none None = refl

-- what is applied to the last choice is applied to each
through_or : {X Y : Type 0} (f : X → Y) (o : Option X) (b : Bool) (x : X) → option_map f (option_or o (cond b (Some x) None)) ≡ option_or (option_map f o) (cond b (Some (f x)) None)
through_or f (Some y) b x = refl
through_or f None true x = refl
through_or f None false x = refl

lookup-push : (places : List (ℕ × FieldPlace)) (key name : ℕ) (place : FieldPlace) → lookup (nat_eq name) (places ++ (key, place) ∷ []) ≡ option_or (lookup (nat_eq name) places) (cond (nat_eq name key) (Some place) None)
lookup-push [] key name place = refl
lookup-push (x ∷ xs) key name place = by (nat_eq name x.0) (lookup-push xs key name place)
  where
    by : (b : Bool) → lookup (nat_eq name) (xs ++ (key, place) ∷ []) ≡ option_or (lookup (nat_eq name) xs) (cond (nat_eq name key) (Some place) None)
        → cond b (Some x.1) (lookup (nat_eq name) (xs ++ (key, place) ∷ [])) ≡ option_or (cond b (Some x.1) (lookup (nat_eq name) xs)) (cond (nat_eq name key) (Some place) None)
    by true h = refl
    by false h = h

same_test : (a b : ℕ) → (a == b) ≡ nat_eq b a
same_test a b = by (a == b) (nat_eq b a) refl refl
  where
    by : (x y : Bool) → (a == b) ≡ x → nat_eq b a ≡ y → x ≡ y
    by true true e f = refl
    by true false e f = absurd (eqb-false b a f (sym (eqb-true a b e)))
    by false true e f = absurd (eqb-false a b e (sym (eqb-true b a f)))
    by false false e f = refl

lookup-with_new : (places : List (ℕ × FieldPlace)) (key name : ℕ) (place : FieldPlace) → lookup (nat_eq name) (with_new places key place) ≡ option_or (lookup (nat_eq name) places) (cond (key == name) (Some place) None)
lookup-with_new places key name place = by (lookup (nat_eq key) places) refl
  where
    chosen : Option FieldPlace → List (ℕ × FieldPlace)
    chosen o = if is_some o then places else places ++ (key, place) ∷ []

    there : (p : FieldPlace) → lookup (nat_eq key) places ≡ Some p → (b : Bool) → (key == name) ≡ b
        → lookup (nat_eq name) places ≡ option_or (lookup (nat_eq name) places) (cond b (Some place) None)
    there p is true same = let has : lookup (nat_eq name) places ≡ Some p = ap (λ k. lookup (nat_eq k) places) (sym (eqb-true key name same)) ∙ is in
        has ∙ sym (ap (λ o. option_or o (Some place)) has)
    there p is false other = sym (or_none (lookup (nat_eq name) places))

    by : (o : Option FieldPlace) → lookup (nat_eq key) places ≡ o → lookup (nat_eq name) (with_new places key place) ≡ option_or (lookup (nat_eq name) places) (cond (key == name) (Some place) None)
    by (Some p) is = ap (λ o. lookup (nat_eq name) (chosen o)) is ∙ there p is (key == name) refl
    by None is = ap (λ o. lookup (nat_eq name) (chosen o)) is ∙ lookup-push places key name place
        ∙ ap (λ b. option_or (lookup (nat_eq name) places) (cond b (Some place) None)) (sym (same_test key name))

first-push : (fields : List Field) (x : Field) (name : ℕ) → first_at (fields ++ x ∷ []) name ≡ option_or (first_at fields name) (cond (x.name.id == name) (Some (length fields)) None)
first-push [] x name = refl
first-push (y ∷ ys) x name = by (y.name.id == name) (first-push ys x name)
  where
    by : (b : Bool) → first_at (ys ++ x ∷ []) name ≡ option_or (first_at ys name) (cond (x.name.id == name) (Some (length ys)) None)
        → cond b (Some 0) (option_map suc (first_at (ys ++ x ∷ []) name)) ≡ option_or (cond b (Some 0) (option_map suc (first_at ys name))) (cond (x.name.id == name) (Some (suc (length ys))) None)
    by true h = refl
    by false h = ap (option_map suc) h ∙ through_or suc (first_at ys name) (x.name.id == name) (length ys)

pub places_more : (fields : List Field) (weights : List ℕ) (i : ℕ) (d : Field) (places after : List (ℕ × FieldPlace)) (place : FieldPlace) → i < length fields
    → ArePlaces places (take i fields) weights → place ≡ place_in weights i → after ≡ with_new places (get_or fields i d).name.id place → ArePlaces after (take (i + 1) fields) weights
places_more fields weights i d places after place lt h is e name =
    ap (lookup (nat_eq name)) e ∙ lookup-with_new places x.name.id name place ∙ ap (λ o. option_or o (last place)) (h name)
    ∙ ap (λ p. option_or (option_map (place_in weights) front) (last p)) is ∙ sym (through_or (place_in weights) front (x.name.id == name) i)
    ∙ ap (option_map (place_in weights)) (ap (λ n. option_or front (cond (x.name.id == name) (Some n) None)) (sym (length-take-le i fields (omega (arith, lt))))
    ∙ sym (first-push (take i fields) x name) ∙ ap (λ l. first_at l name) (sym (take_more fields i d lt)))
  where
    x : Field
    x = get_or fields i d

    front : Option ℕ
    front = first_at (take i fields) name

    last : FieldPlace → Option FieldPlace
    last p = cond (x.name.id == name) (Some p) None

fold_suc : (weights : List ℕ) (a i : ℕ) → fold (λ a x. a + x) a (take (suc i) weights) ≡ fold (λ a x. a + x) a (take i weights) + get_or weights i 0
fold_suc [] a zero = omega arith
fold_suc [] a (suc i) = omega arith
fold_suc (w ∷ ws) a zero = refl
fold_suc (w ∷ ws) a (suc i) = fold_suc ws (a + w) i

pub sum_more : (weights : List ℕ) (i : ℕ) → sum (take (i + 1) weights) ≡ sum (take i weights) + get_or weights i 0
sum_more weights i = let next : i + 1 ≡ suc i = omega arith in ap (λ n. sum (take n weights)) next ∙ fold_suc weights 0 i

-- what a slice gives at a position
pub got_at : {B X : Type 0} (now : B → X) (P : B → Type 0) (xs : List X) (i : ℕ) (r : Option B) → IfSome r (λ x. now x ≡ get_or xs i (now x))
    → MatchOption r (length xs ≤ i) (λ x. (i < length xs) × P x) → option_map now r ≡ slice_get xs i
got_at now P xs i (Some x) is h = sym (slice_get_read xs (length xs) i (now x) refl h.0 is)
got_at now P xs i None is h = sym (slice_get_past xs i h)

-- the field at the position of a name is the first that has it

abbrev field_at : List Field → Option ℕ → Option Field
field_at fields (Some i) = slice_get fields i
field_at fields None = None

find_first : (fields : List Field) (id : ℕ) → find (λ field. field.name.id == id) fields ≡ field_at fields (first_at fields id)
find_first [] id = refl
find_first (f ∷ fs) id = by (f.name.id == id) (find_first fs id)
  where
    behind : (o : Option ℕ) → field_at fs o ≡ field_at (f ∷ fs) (option_map suc o)
    behind (Some i) = refl
    behind None = refl

    by : (b : Bool) → find (λ field. field.name.id == id) fs ≡ field_at fs (first_at fs id)
        → cond b (Some f) (find (λ field. field.name.id == id) fs) ≡ field_at (f ∷ fs) (cond b (Some 0) (option_map suc (first_at fs id)))
    by true h = refl
    by false h = h ∙ behind (first_at fs id)

abbrev pub at_place : List Field → Option FieldPlace → Option Field
at_place fields (Some place) = slice_get fields place.position
at_place fields None = None

pub field_found : (fields : List Field) (weights : List ℕ) (id : ℕ) (place : Option FieldPlace) → place ≡ option_map (place_in weights) (first_at fields id)
    → at_place fields place ≡ find (λ field. field.name.id == id) fields
field_found fields weights id place is = ap (at_place fields) is ∙ by (first_at fields id) ∙ sym (find_first fields id)
  where
    by : (o : Option ℕ) → at_place fields (option_map (place_in weights) o) ≡ field_at fields o
    by (Some i) = refl
    by None = refl
