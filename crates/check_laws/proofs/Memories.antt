-- A memory is valid exactly where no fault of its lines is found.
use Rattle.std.proofs.Common.{◌≡◌, ℕ, zero, suc, ◌≤◌, Bool, true, false, ◌||◌, List, [], ◌∷◌, ◌++◌, map, Option, Some, None, refl, sym, ap, ap₂, ◌∙◌, subst, arith, append_assoc, ⊎_elim}
use Rattle.std.specs.Prelude.{⊤, ◌≢◌, ◌↔◌, nat_le, nat_eq, is_some, Contains, All, filter_map, flat_map}
use Rattle.std.specs.List.{list_any, cons_option}
use Rattle.std.proofs.lemmas.Grind.{common_steps}
use Rattle.std.proofs.lemmas.Bool.{eqb-true, leb-true, le-leb}
use Rattle.std.proofs.lemmas.List.Elements.{Contains-append_cases, Contains-append_left, Contains-append_right}
use Rattle.place_text.specs.declared.place.Place.{Place}
use Rattle.fir_types.specs.declared.fir_type.FirType.{FirType, ind-FirType, the_lemmas}
use Rattle.fir_types.specs.declared.fir_type.Shape.{Shape}
use Rattle.fir_types.specs.declared.fir_type.Shape.TheOpen.{Shape-F}
use Rattle.fir_types.specs.declared.fir_type.Shape.TheFolds.{map-Shape}
use Rattle.fir_types.specs.declared.fir_type.Shape.TheViews.{roll-Shape, roll-Field, roll-FirType}
use Rattle.fir_types.specs.declared.fir_type.Shape.TheVariants as shape
use Rattle.fir_types.specs.declared.fir_type.Shape.TheVariants.{rolls-Unsigned, rolls-Signed, rolls-Clock, rolls-Reset, rolls-AsyncReset, rolls-Bundle, rolls-Vector}
use Rattle.fir_types.specs.declared.fir_type.Field.{Field, fold-Field}
use Rattle.fir_types.specs.declared.name.Name.{Name}
use Rattle.fir_types.specs.declared.memory.Memory.{Memory}
use Rattle.fir_types.specs.declared.memory.MemLine.{MemLine}
use Rattle.fir_types.specs.declared.memory.MemLine.TheVariants as line
use Rattle.fir_types.specs.declared.memory.PortMode.{PortMode}
use Rattle.fir_types.specs.Memories.{element_in, depth_in, read_latency_in, write_latency_in, under_in, port_name_in, AreDifferent, IsValid}
use Rattle.type_check.specs.declared.fault.TypeFault.{TypeFault}
use Rattle.type_check.specs.declared.fault.TypeFault.TheVariants.{FieldTwice, OperandKind, NotPassive, MemoryField}
use Rattle.type_check.specs.Parts.{unless, when}
use Rattle.type_check.specs.Texts.{has_signal, is_passive, has_name, seconds_behind, FieldFaults, twice_in_shape, field_faults, twice_in, stored_faults}
use Rattle.type_check.specs.Memories.{line_faults, is_element, is_depth, is_read_latency, is_write_latency, is_under, is_port, is_said, place_of, again_behind, missing, memory_faults}

-- no fault of a memory's lines is among these
abbrev No : List TypeFault → Type 0
No xs = (at : Place) → ¬ (Contains xs (MemoryField at))

no_both : (xs ys : List TypeFault) → No xs → No ys → No (xs ++ ys)
no_both xs ys h k at c = ⊎_elim (λ l. h at l) (λ r. k at r) (Contains-append_cases xs ys (MemoryField at) c)

no_left : (xs ys : List TypeFault) → No (xs ++ ys) → No xs
no_left xs ys h at c = h at (Contains-append_left xs ys (MemoryField at) c)

no_right : (xs ys : List TypeFault) → No (xs ++ ys) → No ys
no_right xs ys h at c = h at (Contains-append_right xs ys (MemoryField at) c)

no_nothing : No []
no_nothing at (k, below, is) = omega (arith, below)

no_unless : (b : Bool) (at : Place) → No (unless b (MemoryField at)) → b ≡ true
no_unless true at h = refl
no_unless false at h = absurd (h at (0, omega arith, refl))

unless_no : (b : Bool) (at : Place) → b ≡ true → No (unless b (MemoryField at))
unless_no true at e = no_nothing
unless_no false at e = absurd cc

no_when : (b : Bool) (at : Place) → No (when b (MemoryField at)) → b ≡ false
no_when false at h = refl
no_when true at h = absurd (h at (0, omega arith, refl))

when_no : (b : Bool) (at : Place) → b ≡ false → No (when b (MemoryField at))
when_no false at e = no_nothing
when_no true at e = absurd cc

-- Other faults

abbrev is_line : TypeFault → Bool
is_line (MemoryField at) = true
is_line _ = false

other_one : (f : TypeFault) → is_line f ≡ false → No (f ∷ [])
other_one f e at (zero, below, is) = let q : is_line f ≡ true = ap is_line is in cc
other_one f e at (suc k, below, is) = omega (arith, below)

other_unless : (b : Bool) (f : TypeFault) → is_line f ≡ false → No (unless b f)
other_unless true f e = no_nothing
other_unless false f e = other_one f e

other_when : (b : Bool) (f : TypeFault) → is_line f ≡ false → No (when b f)
other_when false f e = no_nothing
other_when true f e = other_one f e

seconds_no : (before names : List Name) → No (seconds_behind before names)
seconds_no before [] = no_nothing
seconds_no before (name ∷ names) = no_both (when (has_name before name) (FieldTwice name.place)) (seconds_behind (before ++ name ∷ []) names)
    (other_when (has_name before name) (FieldTwice name.place) refl) (seconds_no (before ++ name ∷ []) names)

abbrev field_twice : Field → FieldFaults
field_twice = fold-Field (List TypeFault) FieldFaults (List TypeFault) twice_in_shape field_faults (λ t. t.shape)

field_twice_is : (f : Field) → field_twice f ≡ (f.name, twice_in f.typ)
field_twice_is f = grind (arith, common_steps, the_lemmas)

twice-unsigned : (t : FirType) (w : Option ℕ) → t.shape ≡ shape.Unsigned w → twice_in t ≡ []
twice-unsigned t w e = grind (arith, common_steps, the_lemmas)

twice-signed : (t : FirType) (w : Option ℕ) → t.shape ≡ shape.Signed w → twice_in t ≡ []
twice-signed t w e = grind (arith, common_steps, the_lemmas)

twice-clock : (t : FirType) → t.shape ≡ shape.Clock → twice_in t ≡ []
twice-clock t e = grind (arith, common_steps, the_lemmas)

twice-reset : (t : FirType) → t.shape ≡ shape.Reset → twice_in t ≡ []
twice-reset t e = grind (arith, common_steps, the_lemmas)

twice-async : (t : FirType) → t.shape ≡ shape.AsyncReset → twice_in t ≡ []
twice-async t e = grind (arith, common_steps, the_lemmas)

twice-vector : (t e : FirType) (n : ℕ) → t.shape ≡ shape.Vector e n → twice_in t ≡ twice_in e
twice-vector t e n h = grind (arith, common_steps, the_lemmas)

twice-bundle : (t : FirType) (fs : List Field) → t.shape ≡ shape.Bundle fs
    → twice_in t ≡ seconds_behind [] (map (λ f. f.0) (map field_twice fs)) ++ flat_map (λ f. f.1) (map field_twice fs)
twice-bundle t fs e = grind (arith, common_steps, the_lemmas)

abbrev NoTwice : FirType → Type 0
NoTwice t = No (twice_in t)

abbrev FieldNo : Field → Type 0
FieldNo f = NoTwice f.typ

abbrev ShapeNo : Shape → Type 0
ShapeNo s = (place : Place) → NoTwice (record { place = place; shape = s })

fields_no : (ps : List ((f : Field) × FieldNo f)) → No (flat_map (λ f. f.1) (map field_twice (map (λ e. e.0) ps)))
fields_no [] = no_nothing
fields_no (p ∷ ps) = no_both (field_twice p.0).1 (flat_map (λ f. f.1) (map field_twice (map (λ e. e.0) ps)))
    (subst No (sym (ap (λ (f : FieldFaults). f.1) (field_twice_is p.0))) p.1) (fields_no ps)

shape_no : (y : Shape-F ((s : Shape) × ShapeNo s) ((f : Field) × FieldNo f) ((t : FirType) × NoTwice t))
    → ShapeNo (roll-Shape (map-Shape _ _ _ Shape Field FirType (λ e. e.0) (λ e. e.0) (λ e. e.0) y))
shape_no (Shape-F.Unsigned w) = subst ShapeNo (sym (rolls-Unsigned w)) (λ place. subst No (sym (twice-unsigned (record { place = place; shape = shape.Unsigned w }) w refl)) no_nothing)
shape_no (Shape-F.Signed w) = subst ShapeNo (sym (rolls-Signed w)) (λ place. subst No (sym (twice-signed (record { place = place; shape = shape.Signed w }) w refl)) no_nothing)
shape_no Shape-F.Clock = subst ShapeNo (sym rolls-Clock) (λ place. subst No (sym (twice-clock (record { place = place; shape = shape.Clock }) refl)) no_nothing)
shape_no Shape-F.Reset = subst ShapeNo (sym rolls-Reset) (λ place. subst No (sym (twice-reset (record { place = place; shape = shape.Reset }) refl)) no_nothing)
shape_no Shape-F.AsyncReset = subst ShapeNo (sym rolls-AsyncReset) (λ place. subst No (sym (twice-async (record { place = place; shape = shape.AsyncReset }) refl)) no_nothing)
shape_no (Shape-F.Bundle ps) = subst ShapeNo (sym (rolls-Bundle (map (λ e. e.0) ps))) (λ place.
    let fs : List Field = map (λ e. e.0) ps in
    let t : FirType = record { place = place; shape = shape.Bundle (map (λ e. e.0) ps) } in
    subst No (sym (twice-bundle t fs refl)) (no_both (seconds_behind [] (map (λ f. f.0) (map field_twice fs))) (flat_map (λ f. f.1) (map field_twice fs))
    (seconds_no [] (map (λ f. f.0) (map field_twice fs))) (fields_no ps)))
shape_no (Shape-F.Vector p n) = subst ShapeNo (sym (rolls-Vector p.0 n)) (λ place. subst No (sym (twice-vector (record { place = place; shape = shape.Vector p.0 n }) p.0 n refl)) p.1)

twice_no : (t : FirType) → No (twice_in t)
twice_no = ind-FirType ShapeNo FieldNo NoTwice
    (λ x y is. subst (λ z. ShapeNo (roll-Shape z)) is (shape_no y))
    (λ x y is. subst (λ z. FieldNo (roll-Field z)) is y.typ.1)
    (λ x y is. subst (λ z. NoTwice (roll-FirType z)) is (y.shape.1 y.place))

stored_no : (t : FirType) → No (stored_faults t)
stored_no t = no_both (twice_in t) (when (has_signal t) (OperandKind t.place) ++ unless (is_passive t) (NotPassive t.place)) (twice_no t)
    (no_both (when (has_signal t) (OperandKind t.place)) (unless (is_passive t) (NotPassive t.place))
    (other_when (has_signal t) (OperandKind t.place) refl) (other_unless (is_passive t) (NotPassive t.place) refl))

-- Lines that say nothing again

abbrev Fresh : List MemLine → List MemLine → Type 0
Fresh before [] = ⊤
Fresh before (l ∷ ls) = (is_said before l ≡ false) × Fresh (before ++ l ∷ []) ls

no_fresh : (before ls : List MemLine) → No (again_behind before ls) → Fresh before ls
no_fresh before [] h = tt
no_fresh before (l ∷ ls) h =
    let first = when (is_said before l) (MemoryField (place_of l)) in
    let others = again_behind (before ++ l ∷ []) ls in
    (no_when (is_said before l) (place_of l) (no_left first others h), no_fresh (before ++ l ∷ []) ls (no_right first others h))

fresh_no : (before ls : List MemLine) → Fresh before ls → No (again_behind before ls)
fresh_no before [] h = no_nothing
fresh_no before (l ∷ ls) h = no_both (when (is_said before l) (MemoryField (place_of l))) (again_behind (before ++ l ∷ []) ls)
    (when_no (is_said before l) (place_of l) h.0) (fresh_no (before ++ l ∷ []) ls h.1)

either_false : (a b : Bool) → (a || b) ≡ false → (a ≡ false) × (b ≡ false)
either_false false false e = (refl, refl)
either_false false true e = absurd cc
either_false true b e = absurd cc

any_push : {A : Type 0} (p : A → Bool) (xs : List A) (x : A) → p x ≡ true → list_any p (xs ++ x ∷ []) ≡ true
any_push p [] x e = ap (λ b. b || false) e
any_push p (y ∷ ys) x e = by (p y) (any_push p ys x e) where
  by : (b : Bool) → list_any p (ys ++ x ∷ []) ≡ true → (b || list_any p (ys ++ x ∷ [])) ≡ true
  by true h = refl
  by false h = h

any_more : {A : Type 0} (p : A → Bool) (xs ys : List A) → list_any p xs ≡ true → list_any p (xs ++ ys) ≡ true
any_more p [] ys e = absurd cc
any_more p (x ∷ xs) ys e = by (p x) e (any_more p xs ys) where
  by : (b : Bool) → (b || list_any p xs) ≡ true → (list_any p xs ≡ true → list_any p (xs ++ ys) ≡ true) → (b || list_any p (xs ++ ys)) ≡ true
  by true h rest = refl
  by false h rest = rest h

some_same : {A : Type 0} {x y : A} → Some x ≡ Some y → x ≡ y
some_same e = cc

heads : {A : Type 0} {x y : A} {xs ys : List A} → x ∷ xs ≡ y ∷ ys → x ≡ y
heads e = cc

tails : {A : Type 0} {x y : A} {xs ys : List A} → x ∷ xs ≡ y ∷ ys → xs ≡ ys
tails e = cc

all_cons : {A : Type 0} (P : A → Type 0) (x : A) (xs : List A) → P x → All P xs → All P (x ∷ xs)
all_cons P x xs h k zero d below = h
all_cons P x xs h k (suc j) d below = k j d (omega (arith, below))

all_first : {A : Type 0} (P : A → Type 0) (x : A) (xs : List A) → All P (x ∷ xs) → P x
all_first P x xs h = h 0 x (omega arith)

all_rest : {A : Type 0} (P : A → Type 0) (x : A) (xs : List A) → All P (x ∷ xs) → All P xs
all_rest P x xs h j d below = h (suc j) d (omega (arith, below))

-- P holds of each line
abbrev EachLine : (MemLine → Type 0) → List MemLine → Type 0
EachLine P [] = ⊤
EachLine P (l ∷ ls) = P l × EachLine P ls

-- A kind of line: what one says, the question for it, and when one is said again.
record IsKind {A : Type 0} (f : MemLine → Option A) (is : MemLine → Bool) : Type 0 where
  pub tells : (l : MemLine) → is l ≡ is_some (f l)
  pub said : (before : List MemLine) (l : MemLine) → is l ≡ true → is_said before l ≡ list_any is before

module _ {A : Type 0} (f : MemLine → Option A) (is : MemLine → Bool) (kind : IsKind f is) where
  none : (l : MemLine) → is l ≡ false → f l ≡ None
  none l e = by (f l) (sym (kind.tells l) ∙ e) where
    by : (o : Option A) → is_some o ≡ false → o ≡ None
    by None e = refl
    by (Some x) e = absurd cc

  some : (l : MemLine) → is l ≡ true → (x : A) × (f l ≡ Some x)
  some l e = by (f l) (sym (kind.tells l) ∙ e) where
    by : (o : Option A) → is_some o ≡ true → (x : A) × (o ≡ Some x)
    by (Some x) e = (x, refl)
    by None e = absurd cc

  none_any : (ls : List MemLine) → list_any is ls ≡ false → filter_map f ls ≡ []
  none_any [] e = refl
  none_any (l ∷ ls) e = let both = either_false (is l) (list_any is ls) e in ap₂ cons_option (none l both.0) (none_any ls both.1)

  rest_none : (before ls : List MemLine) → Fresh before ls → list_any is before ≡ true → list_any is ls ≡ false
  rest_none before [] h e = refl
  rest_none before (l ∷ ls) h e = by (is l) refl (rest_none (before ++ l ∷ []) ls h.1 (any_more is before (l ∷ []) e)) where
    by : (b : Bool) → is l ≡ b → list_any is ls ≡ false → (b || list_any is ls) ≡ false
    by true q rest = absurd (let a = kind.said before l q in let b = h.0 in cc)
    by false q rest = rest

  once : (before ls : List MemLine) → Fresh before ls → list_any is ls ≡ true → (x : A) × (filter_map f ls ≡ x ∷ [])
  once before [] h e = absurd cc
  once before (l ∷ ls) h e = by (is l) refl e (once (before ++ l ∷ []) ls h.1) where
    by : (b : Bool) → is l ≡ b → (b || list_any is ls) ≡ true → (list_any is ls ≡ true → (x : A) × (filter_map f ls ≡ x ∷ [])) → (x : A) × (filter_map f (l ∷ ls) ≡ x ∷ [])
    by true q e' more =
        let its = some l q in
        (its.0, ap₂ cons_option its.1 (none_any ls (rest_none (before ++ l ∷ []) ls h.1 (any_push is before l q))))
    by false q e' more =
        let rest = more e' in
        (rest.0, ap (λ o. cons_option o (filter_map f ls)) (none l q) ∙ rest.1)

  value : (P : A → Type 0) → ((l : MemLine) (x : A) → f l ≡ Some x → No (line_faults l) → P x) → (ls : List MemLine) → No (flat_map line_faults ls)
      → (x : A) → filter_map f ls ≡ x ∷ [] → P x
  value P own [] quiet x e = absurd cc
  value P own (l ∷ ls) quiet x e = by (f l) refl e (value P own ls (no_right (line_faults l) (flat_map line_faults ls) quiet) x) where
    by : (o : Option A) → f l ≡ o → cons_option o (filter_map f ls) ≡ x ∷ [] → (filter_map f ls ≡ x ∷ [] → P x) → P x
    by (Some y) q e' rest = subst P (heads e') (own l y q (no_left (line_faults l) (flat_map line_faults ls) quiet))
    by None q e' rest = rest e'

  -- and back
  there : (ls : List MemLine) (x : A) → filter_map f ls ≡ x ∷ [] → list_any is ls ≡ true
  there ls x e = by (list_any is ls) refl where
    by : (b : Bool) → list_any is ls ≡ b → b ≡ true
    by true q = refl
    by false q = absurd (let a = none_any ls q in cc)

  not_empty : (before ls : List MemLine) (l : MemLine) → is l ≡ true → filter_map f (before ++ l ∷ ls) ≡ [] → ⊥
  not_empty [] ls l q e = let its = some l q in let own = its.1 in let r : cons_option (Some its.0) (filter_map f ls) ≡ [] = ap (λ o. cons_option o (filter_map f ls)) (sym own) ∙ e in cc
  not_empty (b ∷ bs) ls l q e = by (f b) e (not_empty bs ls l q) where
    by : (o : Option A) → cons_option o (filter_map f (bs ++ l ∷ ls)) ≡ [] → (filter_map f (bs ++ l ∷ ls) ≡ [] → ⊥) → ⊥
    by (Some y) e' rest = cc
    by None e' rest = rest e'

  first_one : (before ls : List MemLine) (l : MemLine) (x : A) → is l ≡ true → filter_map f (before ++ l ∷ ls) ≡ x ∷ [] → list_any is before ≡ false
  first_one [] ls l x q e = refl
  first_one (b ∷ bs) ls l x q e = by (is b) refl (first_one bs ls l x q) where
    by : (c : Bool) → is b ≡ c → (filter_map f (bs ++ l ∷ ls) ≡ x ∷ [] → list_any is bs ≡ false) → (c || list_any is bs) ≡ false
    by true p rest =
        let its = some b p in
        let all : cons_option (Some its.0) (filter_map f (bs ++ l ∷ ls)) ≡ x ∷ [] = ap (λ o. cons_option o (filter_map f (bs ++ l ∷ ls))) (sym its.1) ∙ e in
        absurd (not_empty bs ls l q (tails all))
    by false p rest = rest (ap (λ o. cons_option o (filter_map f (bs ++ l ∷ ls))) (sym (none b p)) ∙ e)

  each_of_none : (P : A → Type 0) (ls : List MemLine) → filter_map f ls ≡ [] → EachLine (λ l. (x : A) → f l ≡ Some x → P x) ls
  each_of_none P [] e = tt
  each_of_none P (l ∷ ls) e = by (f l) refl e (each_of_none P ls) where
    by : (o : Option A) → f l ≡ o → cons_option o (filter_map f ls) ≡ [] → (filter_map f ls ≡ [] → EachLine (λ l. (x : A) → f l ≡ Some x → P x) ls) → EachLine (λ l. (x : A) → f l ≡ Some x → P x) (l ∷ ls)
    by (Some y) q e' rest = absurd cc
    by None q e' rest = ((λ x s. absurd cc), rest e')

  each_of_once : (P : A → Type 0) (ls : List MemLine) (x : A) → filter_map f ls ≡ x ∷ [] → P x → EachLine (λ l. (x : A) → f l ≡ Some x → P x) ls
  each_of_once P [] x e h = tt
  each_of_once P (l ∷ ls) x e h = by (f l) refl e (λ e. each_of_once P ls x e h) where
    by : (o : Option A) → f l ≡ o → cons_option o (filter_map f ls) ≡ x ∷ [] → (filter_map f ls ≡ x ∷ [] → EachLine (λ l. (x : A) → f l ≡ Some x → P x) ls) → EachLine (λ l. (x : A) → f l ≡ Some x → P x) (l ∷ ls)
    by (Some y) q e' rest = ((λ z s. subst P (sym (heads e') ∙ some_same (sym q ∙ s)) h), each_of_none P ls (tails e'))
    by None q e' rest = ((λ z s. absurd cc), rest e')

elements : IsKind element_in is_element
elements = record { tells = tells; said = said } where
  tells : (l : MemLine) → is_element l ≡ is_some (element_in l)
  tells (line.Element at x) = refl
  tells (line.Depth at x) = refl
  tells (line.ReadLatency at x) = refl
  tells (line.WriteLatency at x) = refl
  tells (line.ReadUnder at x) = refl
  tells (line.MemPort at m name) = refl

  said : (before : List MemLine) (l : MemLine) → is_element l ≡ true → is_said before l ≡ list_any is_element before
  said before (line.Element at x) e = refl
  said before (line.Depth at x) e = absurd cc
  said before (line.ReadLatency at x) e = absurd cc
  said before (line.WriteLatency at x) e = absurd cc
  said before (line.ReadUnder at x) e = absurd cc
  said before (line.MemPort at m name) e = absurd cc

depths : IsKind depth_in is_depth
depths = record { tells = tells; said = said } where
  tells : (l : MemLine) → is_depth l ≡ is_some (depth_in l)
  tells (line.Element at x) = refl
  tells (line.Depth at x) = refl
  tells (line.ReadLatency at x) = refl
  tells (line.WriteLatency at x) = refl
  tells (line.ReadUnder at x) = refl
  tells (line.MemPort at m name) = refl

  said : (before : List MemLine) (l : MemLine) → is_depth l ≡ true → is_said before l ≡ list_any is_depth before
  said before (line.Element at x) e = absurd cc
  said before (line.Depth at x) e = refl
  said before (line.ReadLatency at x) e = absurd cc
  said before (line.WriteLatency at x) e = absurd cc
  said before (line.ReadUnder at x) e = absurd cc
  said before (line.MemPort at m name) e = absurd cc

read_latencies : IsKind read_latency_in is_read_latency
read_latencies = record { tells = tells; said = said } where
  tells : (l : MemLine) → is_read_latency l ≡ is_some (read_latency_in l)
  tells (line.Element at x) = refl
  tells (line.Depth at x) = refl
  tells (line.ReadLatency at x) = refl
  tells (line.WriteLatency at x) = refl
  tells (line.ReadUnder at x) = refl
  tells (line.MemPort at m name) = refl

  said : (before : List MemLine) (l : MemLine) → is_read_latency l ≡ true → is_said before l ≡ list_any is_read_latency before
  said before (line.Element at x) e = absurd cc
  said before (line.Depth at x) e = absurd cc
  said before (line.ReadLatency at x) e = refl
  said before (line.WriteLatency at x) e = absurd cc
  said before (line.ReadUnder at x) e = absurd cc
  said before (line.MemPort at m name) e = absurd cc

write_latencies : IsKind write_latency_in is_write_latency
write_latencies = record { tells = tells; said = said } where
  tells : (l : MemLine) → is_write_latency l ≡ is_some (write_latency_in l)
  tells (line.Element at x) = refl
  tells (line.Depth at x) = refl
  tells (line.ReadLatency at x) = refl
  tells (line.WriteLatency at x) = refl
  tells (line.ReadUnder at x) = refl
  tells (line.MemPort at m name) = refl

  said : (before : List MemLine) (l : MemLine) → is_write_latency l ≡ true → is_said before l ≡ list_any is_write_latency before
  said before (line.Element at x) e = absurd cc
  said before (line.Depth at x) e = absurd cc
  said before (line.ReadLatency at x) e = absurd cc
  said before (line.WriteLatency at x) e = refl
  said before (line.ReadUnder at x) e = absurd cc
  said before (line.MemPort at m name) e = absurd cc

unders : IsKind under_in is_under
unders = record { tells = tells; said = said } where
  tells : (l : MemLine) → is_under l ≡ is_some (under_in l)
  tells (line.Element at x) = refl
  tells (line.Depth at x) = refl
  tells (line.ReadLatency at x) = refl
  tells (line.WriteLatency at x) = refl
  tells (line.ReadUnder at x) = refl
  tells (line.MemPort at m name) = refl

  said : (before : List MemLine) (l : MemLine) → is_under l ≡ true → is_said before l ≡ list_any is_under before
  said before (line.Element at x) e = absurd cc
  said before (line.Depth at x) e = absurd cc
  said before (line.ReadLatency at x) e = absurd cc
  said before (line.WriteLatency at x) e = absurd cc
  said before (line.ReadUnder at x) e = refl
  said before (line.MemPort at m name) e = absurd cc

-- Ports

no_later : (n : ℕ) (before ls : List MemLine) → list_any (is_port n) before ≡ true → Fresh before ls → All (λ m. m ≢ n) (filter_map port_name_in ls)
no_later n before [] e h = λ k d below. absurd (omega (arith, below))
no_later n before (line.Element at x ∷ ls) e h = no_later n (before ++ line.Element at x ∷ []) ls (any_more (is_port n) before (line.Element at x ∷ []) e) h.1
no_later n before (line.Depth at x ∷ ls) e h = no_later n (before ++ line.Depth at x ∷ []) ls (any_more (is_port n) before (line.Depth at x ∷ []) e) h.1
no_later n before (line.ReadLatency at x ∷ ls) e h = no_later n (before ++ line.ReadLatency at x ∷ []) ls (any_more (is_port n) before (line.ReadLatency at x ∷ []) e) h.1
no_later n before (line.WriteLatency at x ∷ ls) e h = no_later n (before ++ line.WriteLatency at x ∷ []) ls (any_more (is_port n) before (line.WriteLatency at x ∷ []) e) h.1
no_later n before (line.ReadUnder at x ∷ ls) e h = no_later n (before ++ line.ReadUnder at x ∷ []) ls (any_more (is_port n) before (line.ReadUnder at x ∷ []) e) h.1
no_later n before (line.MemPort at m name ∷ ls) e h =
    all_cons (λ m. m ≢ n) name.id (filter_map port_name_in ls) (λ same. let a : list_any (is_port name.id) before ≡ true = subst (λ id. list_any (is_port id) before ≡ true) (sym same) e in let b : list_any (is_port name.id) before ≡ false = h.0 in cc)
    (no_later n (before ++ line.MemPort at m name ∷ []) ls (any_more (is_port n) before (line.MemPort at m name ∷ []) e) h.1)

itself : (n : ℕ) → nat_eq n n ≡ true
itself n = grind (arith, common_steps)

different : (before ls : List MemLine) → Fresh before ls → AreDifferent (filter_map port_name_in ls)
different before [] h = tt
different before (line.Element at x ∷ ls) h = different (before ++ line.Element at x ∷ []) ls h.1
different before (line.Depth at x ∷ ls) h = different (before ++ line.Depth at x ∷ []) ls h.1
different before (line.ReadLatency at x ∷ ls) h = different (before ++ line.ReadLatency at x ∷ []) ls h.1
different before (line.WriteLatency at x ∷ ls) h = different (before ++ line.WriteLatency at x ∷ []) ls h.1
different before (line.ReadUnder at x ∷ ls) h = different (before ++ line.ReadUnder at x ∷ []) ls h.1
different before (line.MemPort at m name ∷ ls) h =
    let one : MemLine = line.MemPort at m name in
    (no_later name.id (before ++ one ∷ []) ls (any_push (is_port name.id) before one (itself name.id)) h.1, different (before ++ one ∷ []) ls h.1)

port_there : (at : Place) (m : PortMode) (name : Name) (before ls : List MemLine) → All (λ n. n ≢ name.id) (filter_map port_name_in (before ++ line.MemPort at m name ∷ ls)) → ⊥
port_there at m name [] ls h = all_first (λ n. n ≢ name.id) name.id (filter_map port_name_in ls) h refl
port_there at m name (line.Element p x ∷ bs) ls h = port_there at m name bs ls h
port_there at m name (line.Depth p x ∷ bs) ls h = port_there at m name bs ls h
port_there at m name (line.ReadLatency p x ∷ bs) ls h = port_there at m name bs ls h
port_there at m name (line.WriteLatency p x ∷ bs) ls h = port_there at m name bs ls h
port_there at m name (line.ReadUnder p x ∷ bs) ls h = port_there at m name bs ls h
port_there at m name (line.MemPort p k other ∷ bs) ls h =
    port_there at m name bs ls (all_rest (λ n. n ≢ name.id) other.id (filter_map port_name_in (bs ++ line.MemPort at m name ∷ ls)) h)

first_port : (at : Place) (m : PortMode) (name : Name) (before ls : List MemLine) → AreDifferent (filter_map port_name_in (before ++ line.MemPort at m name ∷ ls)) → list_any (is_port name.id) before ≡ false
first_port at m name [] ls h = refl
first_port at m name (line.Element p x ∷ bs) ls h = first_port at m name bs ls h
first_port at m name (line.Depth p x ∷ bs) ls h = first_port at m name bs ls h
first_port at m name (line.ReadLatency p x ∷ bs) ls h = first_port at m name bs ls h
first_port at m name (line.WriteLatency p x ∷ bs) ls h = first_port at m name bs ls h
first_port at m name (line.ReadUnder p x ∷ bs) ls h = first_port at m name bs ls h
first_port at m name (line.MemPort p k other ∷ bs) ls h = by (nat_eq name.id other.id) refl (first_port at m name bs ls h.1) where
  by : (b : Bool) → nat_eq name.id other.id ≡ b → list_any (is_port name.id) bs ≡ false → (b || list_any (is_port name.id) bs) ≡ false
  by true q rest =
      let same : name.id ≡ other.id = eqb-true name.id other.id q in
      absurd (port_there at m name bs ls (subst (λ n. All (λ k. k ≢ n) (filter_map port_name_in (bs ++ line.MemPort at m name ∷ ls))) (sym same) h.0))
  by false q rest = rest

-- Both ways

module _ (memory : Memory) where
  abbrev alone : List TypeFault
  alone = flat_map line_faults memory.lines

  abbrev again : List TypeFault
  again = again_behind [] memory.lines

  abbrev lacking : List TypeFault
  lacking = missing memory.name.place memory.lines

  record AreAll : Type 0 where
    pub element : list_any is_element memory.lines ≡ true
    pub depth : list_any is_depth memory.lines ≡ true
    pub read_latency : list_any is_read_latency memory.lines ≡ true
    pub write_latency : list_any is_write_latency memory.lines ≡ true
    pub under : list_any is_under memory.lines ≡ true

  abbrev lacks : (MemLine → Bool) → List TypeFault
  lacks is = unless (list_any is memory.lines) (MemoryField memory.name.place)

  are_all : No lacking → AreAll
  are_all h =
      let at : Place = memory.name.place in
      let r1 = no_right (lacks is_element) (lacks is_depth ++ (lacks is_read_latency ++ (lacks is_write_latency ++ lacks is_under))) h in
      let r2 = no_right (lacks is_depth) (lacks is_read_latency ++ (lacks is_write_latency ++ lacks is_under)) r1 in
      let r3 = no_right (lacks is_read_latency) (lacks is_write_latency ++ lacks is_under) r2 in
      record {
        element = no_unless (list_any is_element memory.lines) at (no_left (lacks is_element) (lacks is_depth ++ (lacks is_read_latency ++ (lacks is_write_latency ++ lacks is_under))) h);
        depth = no_unless (list_any is_depth memory.lines) at (no_left (lacks is_depth) (lacks is_read_latency ++ (lacks is_write_latency ++ lacks is_under)) r1);
        read_latency = no_unless (list_any is_read_latency memory.lines) at (no_left (lacks is_read_latency) (lacks is_write_latency ++ lacks is_under) r2);
        write_latency = no_unless (list_any is_write_latency memory.lines) at (no_left (lacks is_write_latency) (lacks is_under) r3);
        under = no_unless (list_any is_under memory.lines) at (no_right (lacks is_write_latency) (lacks is_under) r3);
      }

  all_are : AreAll → No lacking
  all_are h =
      let at : Place = memory.name.place in
      no_both (lacks is_element) (lacks is_depth ++ (lacks is_read_latency ++ (lacks is_write_latency ++ lacks is_under))) (unless_no (list_any is_element memory.lines) at h.element)
      (no_both (lacks is_depth) (lacks is_read_latency ++ (lacks is_write_latency ++ lacks is_under)) (unless_no (list_any is_depth memory.lines) at h.depth)
      (no_both (lacks is_read_latency) (lacks is_write_latency ++ lacks is_under) (unless_no (list_any is_read_latency memory.lines) at h.read_latency)
      (no_both (lacks is_write_latency) (lacks is_under) (unless_no (list_any is_write_latency memory.lines) at h.write_latency) (unless_no (list_any is_under memory.lines) at h.under))))

  depth_value : (l : MemLine) (n : ℕ) → depth_in l ≡ Some n → No (line_faults l) → 1 ≤ n
  depth_value (line.Depth at n) m e h = subst (λ k. 1 ≤ k) (some_same e) (leb-true 1 n (no_unless (nat_le 1 n) at h))
  depth_value (line.Element at x) m e h = absurd cc
  depth_value (line.ReadLatency at x) m e h = absurd cc
  depth_value (line.WriteLatency at x) m e h = absurd cc
  depth_value (line.ReadUnder at x) m e h = absurd cc
  depth_value (line.MemPort at k name) m e h = absurd cc

  read_value : (l : MemLine) (n : ℕ) → read_latency_in l ≡ Some n → No (line_faults l) → n ≤ 1
  read_value (line.ReadLatency at n) m e h = subst (λ k. k ≤ 1) (some_same e) (leb-true n 1 (no_unless (nat_le n 1) at h))
  read_value (line.Element at x) m e h = absurd cc
  read_value (line.Depth at x) m e h = absurd cc
  read_value (line.WriteLatency at x) m e h = absurd cc
  read_value (line.ReadUnder at x) m e h = absurd cc
  read_value (line.MemPort at k name) m e h = absurd cc

  write_value : (l : MemLine) (n : ℕ) → write_latency_in l ≡ Some n → No (line_faults l) → n ≡ 1
  write_value (line.WriteLatency at n) m e h = sym (some_same e) ∙ eqb-true n 1 (no_unless (nat_eq n 1) at h)
  write_value (line.Element at x) m e h = absurd cc
  write_value (line.Depth at x) m e h = absurd cc
  write_value (line.ReadLatency at x) m e h = absurd cc
  write_value (line.ReadUnder at x) m e h = absurd cc
  write_value (line.MemPort at k name) m e h = absurd cc

  valid : No (memory_faults memory) → IsValid memory
  valid h =
      let own : No alone = no_left alone (again ++ lacking) h in
      let others : No (again ++ lacking) = no_right alone (again ++ lacking) h in
      let fresh : Fresh [] memory.lines = no_fresh [] memory.lines (no_left again lacking others) in
      let all : AreAll = are_all (no_right again lacking others) in
      let element = once element_in is_element elements [] memory.lines fresh all.element in
      let depth = once depth_in is_depth depths [] memory.lines fresh all.depth in
      let read = once read_latency_in is_read_latency read_latencies [] memory.lines fresh all.read_latency in
      let write = once write_latency_in is_write_latency write_latencies [] memory.lines fresh all.write_latency in
      let under = once under_in is_under unders [] memory.lines fresh all.under in
      record {
        element = (element.0, element.1, tt);
        depth = (depth.0, depth.1, value depth_in is_depth depths (λ n. 1 ≤ n) depth_value memory.lines own depth.0 depth.1);
        read_latency = (read.0, read.1, value read_latency_in is_read_latency read_latencies (λ n. n ≤ 1) read_value memory.lines own read.0 read.1);
        write_latency = (write.0, write.1, value write_latency_in is_write_latency write_latencies (λ n. n ≡ 1) write_value memory.lines own write.0 write.1);
        under = (under.0, under.1, tt);
        ports = different [] memory.lines fresh;
      }

  fresh_of : IsValid memory → (before ls : List MemLine) → before ++ ls ≡ memory.lines → Fresh before ls
  fresh_of v before [] e = tt
  fresh_of v before (l ∷ ls) e = (own l e, fresh_of v (before ++ l ∷ []) ls (append_assoc before (l ∷ []) ls ∙ e)) where
    own : (l : MemLine) → before ++ l ∷ ls ≡ memory.lines → is_said before l ≡ false
    own (line.Element at x) e = first_one element_in is_element elements before ls (line.Element at x) v.element.0 refl (ap (filter_map element_in) e ∙ v.element.1)
    own (line.Depth at x) e = first_one depth_in is_depth depths before ls (line.Depth at x) v.depth.0 refl (ap (filter_map depth_in) e ∙ v.depth.1)
    own (line.ReadLatency at x) e = first_one read_latency_in is_read_latency read_latencies before ls (line.ReadLatency at x) v.read_latency.0 refl (ap (filter_map read_latency_in) e ∙ v.read_latency.1)
    own (line.WriteLatency at x) e = first_one write_latency_in is_write_latency write_latencies before ls (line.WriteLatency at x) v.write_latency.0 refl (ap (filter_map write_latency_in) e ∙ v.write_latency.1)
    own (line.ReadUnder at x) e = first_one under_in is_under unders before ls (line.ReadUnder at x) v.under.0 refl (ap (filter_map under_in) e ∙ v.under.1)
    own (line.MemPort at m name) e = first_port at m name before ls (subst (λ ls. AreDifferent (filter_map port_name_in ls)) (sym e) v.ports)

  lines_no : (ls : List MemLine) → EachLine (λ l. (n : ℕ) → depth_in l ≡ Some n → 1 ≤ n) ls → EachLine (λ l. (n : ℕ) → read_latency_in l ≡ Some n → n ≤ 1) ls
      → EachLine (λ l. (n : ℕ) → write_latency_in l ≡ Some n → n ≡ 1) ls → No (flat_map line_faults ls)
  lines_no [] d r w = no_nothing
  lines_no (l ∷ ls) d r w = no_both (line_faults l) (flat_map line_faults ls) (own l d.0 r.0 w.0) (lines_no ls d.1 r.1 w.1) where
    own : (l : MemLine) → ((n : ℕ) → depth_in l ≡ Some n → 1 ≤ n) → ((n : ℕ) → read_latency_in l ≡ Some n → n ≤ 1) → ((n : ℕ) → write_latency_in l ≡ Some n → n ≡ 1) → No (line_faults l)
    own (line.Element at typ) d r w = stored_no typ
    own (line.Depth at n) d r w = unless_no (nat_le 1 n) at (le-leb 1 n (d n refl))
    own (line.ReadLatency at n) d r w = unless_no (nat_le n 1) at (le-leb n 1 (r n refl))
    own (line.WriteLatency at n) d r w = unless_no (nat_eq n 1) at (ap (λ k. nat_eq k 1) (w n refl))
    own (line.ReadUnder at u) d r w = no_nothing
    own (line.MemPort at m name) d r w = no_nothing

  faultless : IsValid memory → No (memory_faults memory)
  faultless v = no_both alone (again ++ lacking)
      (lines_no memory.lines (each_of_once depth_in is_depth depths (λ n. 1 ≤ n) memory.lines v.depth.0 v.depth.1 v.depth.2)
      (each_of_once read_latency_in is_read_latency read_latencies (λ n. n ≤ 1) memory.lines v.read_latency.0 v.read_latency.1 v.read_latency.2)
      (each_of_once write_latency_in is_write_latency write_latencies (λ n. n ≡ 1) memory.lines v.write_latency.0 v.write_latency.1 v.write_latency.2))
      (no_both again lacking (fresh_no [] memory.lines (fresh_of v [] memory.lines refl)) (all_are (record {
        element = there element_in is_element elements memory.lines v.element.0 v.element.1;
        depth = there depth_in is_depth depths memory.lines v.depth.0 v.depth.1;
        read_latency = there read_latency_in is_read_latency read_latencies memory.lines v.read_latency.0 v.read_latency.1;
        write_latency = there write_latency_in is_write_latency write_latencies memory.lines v.write_latency.0 v.write_latency.1;
        under = there under_in is_under unders memory.lines v.under.0 v.under.1;
      })))

pub valid_exactly : (memory : Memory) → IsValid memory ↔ No (memory_faults memory)
valid_exactly memory = (faultless memory, valid memory)
