-- The steps of a reference, at each kind of component.
use Rattle.std.proofs.Common.{◌≡◌, ℕ, zero, suc, ◌==◌, ◌<◌, ◌≤◌, ◌+◌, Bool, true, false, find, List, [], ◌∷◌, map, filter_map, option_to_list, option_map, length, take, get_or, Option, Some, None, refl, sym, ap, ◌∙◌, subst, arith, inl, inr, ◌⊎◌, cond}
use Rattle.std.specs.List.{cons_option}
use Rattle.std.proofs.lemmas.Grind.{common_steps}
use Rattle.std.proofs.lemmas.Bool.{ne_eqb}
use Rattle.std.proofs.lemmas.List.{take_all}
use Rattle.std.proofs.lemmas.List.Folds.{find-append}
use Rattle.place_text.specs.declared.place.Place.{Place}
use Rattle.fir_types.specs.declared.fir_type.FirType.{FirType, the_lemmas}
use Rattle.fir_types.specs.declared.fir_type.Shape.{Shape}
use Rattle.fir_types.specs.declared.fir_type.Shape.TheOpen.{Shape-F}
use Rattle.fir_types.specs.declared.fir_type.Shape.TheViews.{out-Shape}
use Rattle.fir_types.specs.declared.fir_type.Shape.TheVariants as shape
use Rattle.fir_types.specs.declared.fir_type.Shape.TheVariants.{rolls-Unsigned, rolls-Signed, rolls-Clock, rolls-Reset, rolls-AsyncReset, rolls-Bundle, rolls-Vector, outs-Unsigned, outs-Signed, outs-Clock, outs-Reset, outs-AsyncReset, outs-Bundle, outs-Vector}
use Rattle.fir_types.specs.declared.fir_type.Field.{Field}
use Rattle.fir_types.specs.declared.port.Port.{Port}
use Rattle.fir_types.specs.declared.memory.Memory.{Memory}
use Rattle.fir_types.specs.declared.memory.MemLine.{MemLine}
use Rattle.fir_types.specs.declared.memory.MemLine.TheVariants as line
use Rattle.fir_types.specs.declared.memory.PortMode.{PortMode}
use Rattle.fir_types.specs.declared.name.Name.{Name}
use Rattle.fir_types.specs.Bundles.{instance_field, instance_of, mask_of, mask_of_field, port_field}
use Rattle.fir_types.specs.Memories.{element_in, element_of, first_or}
use Rattle.fir_types.proofs.Lines.{lines_more}
use Rattle.fir_tree.specs.declared.part.Part.{Part}
use Rattle.fir_tree.specs.Parts.{part_of, source_of, flow_through, field_or_whole, field_of_layer, field_part, element_of_layer, element_part, no_part}
use Rattle.fir_tree.proofs.Shapes.{ShapeCase, shape_uint, shape_sint, shape_clock, shape_reset, shape_async, shape_bundle, shape_vector, case_of}
use Rattle.reference_flow.specs.declared.component.PartRef.{PartRef}
use Rattle.reference_flow.specs.Reached.{lent, mask_of_part, IsPlain}

-- Each step, by the layer of the type.

field-layer : (part : Part) (s : Shape) (layer : Shape-F Shape Field FirType) (name : ℕ) → part.typ.shape ≡ s → out-Shape s ≡ layer
    → field_part name part ≡ field_of_layer name part layer
field-layer part s layer name e o = ap (λ x. field_of_layer name part (out-Shape x)) e ∙ ap (field_of_layer name part) o

element-layer : (part : Part) (s : Shape) (layer : Shape-F Shape Field FirType) → part.typ.shape ≡ s → out-Shape s ≡ layer
    → element_part part ≡ element_of_layer part layer
element-layer part s layer e o = ap (λ x. element_of_layer part (out-Shape x)) e ∙ ap (element_of_layer part) o

pub field-bundle : (part : Part) (fields : List Field) (name : ℕ) → part.typ.shape ≡ shape.Bundle fields
    → field_part name part ≡ field_or_whole part (find (λ f. f.name.id == name) fields)
field-bundle part fields name e = field-layer part _ _ name e (outs-Bundle fields)

pub field-found : (part : Part) (fields : List Field) (name : ℕ) (found : Option Field) → part.typ.shape ≡ shape.Bundle fields
    → find (λ f. f.name.id == name) fields ≡ found → field_part name part ≡ field_or_whole part found
field-found part fields name found e h = field-bundle part fields name e ∙ ap (field_or_whole part) h

field-vector : (part : Part) (element : FirType) (n name : ℕ) → part.typ.shape ≡ shape.Vector element n → field_part name part ≡ part
field-vector part element n name e = field-layer part _ _ name e (outs-Vector element n)

-- What has no parts.

plain_layer : (part : Part) (s : Shape) (layer : Shape-F Shape Field FirType) → part.typ.shape ≡ s → out-Shape s ≡ layer
    → ((name : ℕ) → field_of_layer name part layer ≡ part) → element_of_layer part layer ≡ part → IsPlain part
plain_layer part s layer e o f g = record { field = λ name. field-layer part s layer name e o ∙ f name; element = element-layer part s layer e o ∙ g }

pub plain-unsigned : (part : Part) (w : Option ℕ) → part.typ.shape ≡ shape.Unsigned w → IsPlain part
plain-unsigned part w e = plain_layer part _ _ e (outs-Unsigned w) (λ name. refl) refl

pub plain-signed : (part : Part) (w : Option ℕ) → part.typ.shape ≡ shape.Signed w → IsPlain part
plain-signed part w e = plain_layer part _ _ e (outs-Signed w) (λ name. refl) refl

pub plain-clock : (part : Part) → part.typ.shape ≡ shape.Clock → IsPlain part
plain-clock part e = plain_layer part _ _ e outs-Clock (λ name. refl) refl

pub plain-reset : (part : Part) → part.typ.shape ≡ shape.Reset → IsPlain part
plain-reset part e = plain_layer part _ _ e outs-Reset (λ name. refl) refl

pub plain-async : (part : Part) → part.typ.shape ≡ shape.AsyncReset → IsPlain part
plain-async part e = plain_layer part _ _ e outs-AsyncReset (λ name. refl) refl

pub plain-empty : (part : Part) → part.typ.shape ≡ shape.Bundle [] → IsPlain part
plain-empty part e = plain_layer part _ _ e (outs-Bundle []) (λ name. refl) refl

pub plain-no_part : IsPlain no_part
plain-no_part = plain-empty no_part refl

-- Masks have the fields and elements of what they mask.

mask-bundle : (t : FirType) (fs : List Field) → t.shape ≡ shape.Bundle fs → (mask_of t).shape ≡ shape.Bundle (map mask_of_field fs)
mask-bundle t fs e = grind (arith, common_steps, the_lemmas)

mask-vector : (t e : FirType) (n : ℕ) → t.shape ≡ shape.Vector e n → (mask_of t).shape ≡ shape.Vector (mask_of e) n
mask-vector t e n h = grind (arith, common_steps, the_lemmas)

mask-unsigned : (t : FirType) (w : Option ℕ) → t.shape ≡ shape.Unsigned w → (mask_of t).shape ≡ shape.Unsigned (Some 1)
mask-unsigned t w h = grind (arith, common_steps, the_lemmas)

mask-signed : (t : FirType) (w : Option ℕ) → t.shape ≡ shape.Signed w → (mask_of t).shape ≡ shape.Unsigned (Some 1)
mask-signed t w h = grind (arith, common_steps, the_lemmas)

mask-clock : (t : FirType) → t.shape ≡ shape.Clock → (mask_of t).shape ≡ shape.Unsigned (Some 1)
mask-clock t h = grind (arith, common_steps, the_lemmas)

mask-reset : (t : FirType) → t.shape ≡ shape.Reset → (mask_of t).shape ≡ shape.Unsigned (Some 1)
mask-reset t h = grind (arith, common_steps, the_lemmas)

mask-async : (t : FirType) → t.shape ≡ shape.AsyncReset → (mask_of t).shape ≡ shape.Unsigned (Some 1)
mask-async t h = grind (arith, common_steps, the_lemmas)

mask-field : (f : Field) → mask_of_field f ≡ record { flip = f.flip; name = f.name; typ = mask_of f.typ }
mask-field f = grind (arith, common_steps, the_lemmas)

find-mask : (fs : List Field) (name : ℕ) → find (λ f. f.name.id == name) (map mask_of_field fs) ≡ option_map mask_of_field (find (λ f. f.name.id == name) fs)
find-mask [] name = refl
find-mask (f ∷ fs) name =
    ap (λ (g : Field). cond (g.name.id == name) (Some (mask_of_field f)) (find (λ x. x.name.id == name) (map mask_of_field fs))) (mask-field f)
    ∙ by (f.name.id == name) (find-mask fs name)
  where
    by : (b : Bool) → find (λ x. x.name.id == name) (map mask_of_field fs) ≡ option_map mask_of_field (find (λ x. x.name.id == name) fs)
        → cond b (Some (mask_of_field f)) (find (λ x. x.name.id == name) (map mask_of_field fs)) ≡ option_map mask_of_field (cond b (Some f) (find (λ x. x.name.id == name) fs))
    by true h = refl
    by false h = h

mask_or_whole : (part : Part) (found : Option Field) → field_or_whole (mask_of_part part) (option_map mask_of_field found) ≡ mask_of_part (field_or_whole part found)
mask_or_whole part (Some f) = ap (λ (g : Field). part_of g.typ (flow_through g.flip part.flow)) (mask-field f)
mask_or_whole part None = refl

-- a step from what has no parts, and whose mask has none
field-plain : (part : Part) (name : ℕ) → IsPlain part → IsPlain (mask_of_part part) → field_part name (mask_of_part part) ≡ mask_of_part (field_part name part)
field-plain part name p q = q.field name ∙ ap mask_of_part (sym (p.field name))

pub field-mask : (part : Part) (name : ℕ) → field_part name (mask_of_part part) ≡ mask_of_part (field_part name part)
field-mask part name = by (case_of part.typ.shape)
  where
    by : ShapeCase part.typ.shape → field_part name (mask_of_part part) ≡ mask_of_part (field_part name part)
    by (shape_uint w e) = field-plain part name (plain-unsigned part w e) (plain-unsigned (mask_of_part part) (Some 1) (mask-unsigned part.typ w e))
    by (shape_sint w e) = field-plain part name (plain-signed part w e) (plain-unsigned (mask_of_part part) (Some 1) (mask-signed part.typ w e))
    by (shape_clock e) = field-plain part name (plain-clock part e) (plain-unsigned (mask_of_part part) (Some 1) (mask-clock part.typ e))
    by (shape_reset e) = field-plain part name (plain-reset part e) (plain-unsigned (mask_of_part part) (Some 1) (mask-reset part.typ e))
    by (shape_async e) = field-plain part name (plain-async part e) (plain-unsigned (mask_of_part part) (Some 1) (mask-async part.typ e))
    by (shape_bundle fields e) =
        field-found (mask_of_part part) (map mask_of_field fields) name _ (mask-bundle part.typ fields e) (find-mask fields name)
        ∙ mask_or_whole part (find (λ f. f.name.id == name) fields) ∙ ap mask_of_part (sym (field-bundle part fields name e))
    by (shape_vector element n e) =
        field-vector (mask_of_part part) (mask_of element) n name (mask-vector part.typ element n e) ∙ ap mask_of_part (sym (field-vector part element n name e))

-- a port of an instance

find_port : (ports : List Port) (name : ℕ) → find (λ f. f.name.id == name) (map instance_field ports) ≡ option_map instance_field (find (λ port. port.name.id == name) ports)
find_port [] name = refl
find_port (p ∷ ps) name = by (p.name.id == name) (find_port ps name)
  where
    by : (b : Bool) → find (λ x. x.name.id == name) (map instance_field ps) ≡ option_map instance_field (find (λ x. x.name.id == name) ps)
        → cond b (Some (instance_field p)) (find (λ x. x.name.id == name) (map instance_field ps)) ≡ option_map instance_field (cond b (Some p) (find (λ x. x.name.id == name) ps))
    by true h = refl
    by false h = h

pub field-port : (ports : List Port) (name : ℕ) (found : Option Port) → found ≡ find (λ port. port.name.id == name) ports
    → field_part name (source_of (instance_of ports)) ≡ field_or_whole (source_of (instance_of ports)) (option_map instance_field found)
field-port ports name found e =
    field-found (source_of (instance_of ports)) (map instance_field ports) name _ refl (find_port ports name ∙ ap (option_map instance_field) (sym e))

-- behind the last turn of a loop
pub at_end : {A : Type 0} (P : List A → Type 0) (xs : List A) (i : ℕ) → length xs ≤ i → P (take i xs) → P xs
at_end P xs i l h = subst P (take_all i xs l) h

-- the first of what items give that passes

pub found_none_more : {A B : Type 0} (h : A → Option B) (p : B → Bool) (xs : List A) (i : ℕ) (x : A) → i < length xs → x ≡ get_or xs i x
    → find p (filter_map h (take i xs)) ≡ None → find p (option_to_list (h x)) ≡ None → find p (filter_map h (take (i + 1) xs)) ≡ None
found_none_more h p xs i x l e n f = ap (find p) (lines_more h xs i x l e) ∙ find-append p (filter_map h (take i xs)) (option_to_list (h x)) ∙ cc

-- an item whose result, if any, doesn't pass is passed by
past : {B : Type 0} (p : B → Bool) (o : Option B) (ys zs : List B) (r : Option B) → find p (cons_option o ys) ≡ None → (find p ys ≡ None → find p zs ≡ r)
    → find p (cons_option o zs) ≡ r
past p None ys zs r e k = k e
past {B} p (Some y) ys zs r e k = by (p y) e
  where
    by : (b : Bool) → cond b (Some y) (find p ys) ≡ None → cond b (Some y) (find p zs) ≡ r
    by true h = absurd cc
    by false h = k h

pub found_here : {A B : Type 0} (h : A → Option B) (p : B → Bool) (xs : List A) (i : ℕ) (x : A) (y : B) → i < length xs → x ≡ get_or xs i x
    → find p (filter_map h (take i xs)) ≡ None → h x ≡ Some y → p y ≡ true → find p (filter_map h xs) ≡ Some y
found_here h p [] i x y l e n f t = absurd (omega arith)
found_here h p (z ∷ xs) zero x y l e n f t = ap (λ o. find p (cons_option o (filter_map h xs))) (ap h (sym e) ∙ f) ∙ ap (λ b. cond b (Some y) (find p (filter_map h xs))) t
found_here h p (z ∷ xs) (suc i) x y l e n f t =
    past p (h z) (filter_map h (take i xs)) (filter_map h xs) (Some y) n (λ m. found_here h p xs i x y (omega arith) e m f t)

-- the lines of a memory that are no port of the name

pub passes_other_port : (element : FirType) (depth name : ℕ) {l : MemLine} {at : Place} {m : PortMode} {port : Name} → l ≡ line.MemPort at m port → (port.id ≡ name → ⊥)
    → find (λ f. f.name.id == name) (option_to_list (port_field element depth l)) ≡ None
passes_other_port element depth name {l} {at} {m} {port} e n =
    ap (λ x. find (λ f. f.name.id == name) (option_to_list (port_field element depth x))) e
    ∙ ap (λ b. cond b (port_field element depth (line.MemPort at m port)) None) (ne_eqb port.id name n)

pub passes_no_port : (element : FirType) (depth name : ℕ) (l : MemLine) → ((at : Place) (m : PortMode) (port : Name) → l ≡ line.MemPort at m port → ⊥)
    → find (λ f. f.name.id == name) (option_to_list (port_field element depth l)) ≡ None
passes_no_port element depth name (line.MemPort at m port) h = absurd (h at m port refl)
passes_no_port element depth name (line.Element at t) h = refl
passes_no_port element depth name (line.Depth at n) h = refl
passes_no_port element depth name (line.ReadLatency at n) h = refl
passes_no_port element depth name (line.WriteLatency at n) h = refl
passes_no_port element depth name (line.ReadUnder at u) h = refl

-- the type of the elements, where no line gives it

pub no_element : (memory : Memory) → filter_map element_in memory.lines ≡ [] → (element_of memory).shape ≡ shape.Bundle []
no_element memory e = ap (λ (ts : List FirType). (first_or (record { place = record { line = 1; column = 1 }; shape = shape.Bundle [] }) ts).shape) e

pub mask-empty : (t : FirType) → t.shape ≡ shape.Bundle [] → (mask_of t).shape ≡ shape.Bundle []
mask-empty t e = mask-bundle t [] e

-- what has a type of the circuit, or is the mask of one

pub field-typed : (name : ℕ) (part : Part) (held next : PartRef) → lent next ≡ field_part name (lent held)
    → (part ≡ lent held) ⊎ (part ≡ mask_of_part (lent held)) → (field_part name part ≡ lent next) ⊎ (field_part name part ≡ mask_of_part (lent next))
field-typed name part held next e (inl is) = inl (ap (field_part name) is ∙ sym e)
field-typed name part held next e (inr is) = inr (ap (field_part name) is ∙ field-mask (lent held) name ∙ ap mask_of_part (sym e))
