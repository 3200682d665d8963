-- The numbers of the types to which references lead.
use Rattle.std.proofs.Common.{◌≡◌, ℕ, ◌+◌, ◌<◌, Bool, List, [], ◌∷◌, ◌++◌, length, take, get_or, find, refl, sym, ap, ◌∙◌, subst, nat_eq}
use Rattle.std.specs.Prelude.{Option, Some, None, option_map, ◌==◌, IfSome, IsTrue, ◌↔◌}
use Rattle.std.specs.Map.{lookup}
use Rattle.std.proofs.Math.Logic.{∥∥₁_map, ∥∥₁_elim}
use Rattle.std.proofs.lemmas.List.{take_more}
use Rattle.fir_types.specs.declared.fir_type.FirType.{FirType}
use Rattle.fir_types.specs.declared.fir_type.Shape.{Shape}
use Rattle.fir_types.specs.declared.fir_type.Shape.TheOpen.{Shape-F}
use Rattle.fir_types.specs.declared.fir_type.Shape.TheViews.{out-Shape}
use Rattle.fir_types.specs.declared.fir_type.Shape.TheVariants as shape
use Rattle.fir_types.specs.declared.fir_type.Shape.TheVariants.{outs-Unsigned, outs-Signed, outs-Clock, outs-Reset, outs-AsyncReset, outs-Bundle, outs-Vector}
use Rattle.fir_types.specs.declared.fir_type.Field.{Field}
use Rattle.fir_types.specs.declared.name.Name.{Name}
use Rattle.fir_types.specs.Equivalence.{Equivalent}
use Rattle.fir_tree.specs.declared.expr.Suffix.{Suffix}
use Rattle.fir_tree.specs.declared.expr.Suffix.TheVariants as suffix
use Rattle.fir_tree.specs.declared.part.Part.{Part}
use Rattle.fir_tree.proofs.Shapes.{ShapeCase, shape_uint, shape_sint, shape_clock, shape_reset, shape_async, shape_bundle, shape_vector, case_of}
use Rattle.type_index.specs.Numbers.{Table, HasNumber}
use Rattle.type_index.specs.Tables.{IsField, IsElement, FieldHas, ElementHas}
use Rattle.type_index.specs.Knowing.{fields_in, element_in}
use Rattle.module_table.specs.declared.components.Noted.{Noted}
use Rattle.module_table.specs.Components.{Parts, part_noted, parts_of, AreClassed}
use Rattle.module_table.specs.Leading.{IsBehind, a_field, an_element, AreBehind, Leads, AreCompared, ClassBehind, ClassAlong, LeadsClass}
use Rattle.module_table.proofs.Noting.{found_part}

-- one step that is taken

nothing_found : {X : Type 0} (x : X) → None ≡ Some x → ⊥
nothing_found x e = absurd cc

same_some : (a b : FirType) → Some b ≡ Some a → a ≡ b
same_some a b e = cc

found_in : (typ : FirType) (layer : Shape-F Shape Field FirType) (id : ℕ) (field : Field) → out-Shape typ.shape ≡ layer
    → find (λ f. f.name.id == id) (fields_in (out-Shape typ.shape)) ≡ Some field → find (λ f. f.name.id == id) (fields_in layer) ≡ Some field
found_in typ layer id field is found = subst (λ l. find (λ f. f.name.id == id) (fields_in l) ≡ Some field) is found

field_there : (typ part : FirType) (id : ℕ) (field : Field) → find (λ f. f.name.id == id) (fields_in (out-Shape typ.shape)) ≡ Some field → part ≡ field.typ → ShapeCase typ.shape
    → IsField typ id part
field_there typ part id field found same (shape_bundle fields is) = (fields, field, is, found_in typ (Shape-F.Bundle fields) id field (ap out-Shape is ∙ outs-Bundle fields) found, sym same)
field_there typ part id field found same (shape_uint w is) = absurd (nothing_found field (found_in typ (Shape-F.Unsigned w) id field (ap out-Shape is ∙ outs-Unsigned w) found))
field_there typ part id field found same (shape_sint w is) = absurd (nothing_found field (found_in typ (Shape-F.Signed w) id field (ap out-Shape is ∙ outs-Signed w) found))
field_there typ part id field found same (shape_clock is) = absurd (nothing_found field (found_in typ Shape-F.Clock id field (ap out-Shape is ∙ outs-Clock) found))
field_there typ part id field found same (shape_reset is) = absurd (nothing_found field (found_in typ Shape-F.Reset id field (ap out-Shape is ∙ outs-Reset) found))
field_there typ part id field found same (shape_async is) = absurd (nothing_found field (found_in typ Shape-F.AsyncReset id field (ap out-Shape is ∙ outs-AsyncReset) found))
field_there typ part id field found same (shape_vector e n is) = absurd (nothing_found field (found_in typ (Shape-F.Vector e n) id field (ap out-Shape is ∙ outs-Vector e n) found))

pub part_of_field : (step : Suffix) (name : Name) (typ part : FirType) (field : Field) → step ≡ suffix.Field name
    → find (λ f. f.name.id == name.id) (fields_in (out-Shape typ.shape)) ≡ Some field → part ≡ field.typ → IsBehind step typ part
part_of_field step name typ part field is found same = a_field name is (field_there typ part name.id field found same (case_of typ.shape))

element_of : (typ element : FirType) (layer : Shape-F Shape Field FirType) → out-Shape typ.shape ≡ layer → Some element ≡ element_in (out-Shape typ.shape) → Some element ≡ element_in layer
element_of typ element layer is found = subst (λ l. Some element ≡ element_in l) is found

element_there : (typ element : FirType) → Some element ≡ element_in (out-Shape typ.shape) → ShapeCase typ.shape → IsElement typ element
element_there typ element found (shape_vector e n is) = (n, is ∙ ap (λ t. shape.Vector t n) (same_some e element (element_of typ element (Shape-F.Vector e n) (ap out-Shape is ∙ outs-Vector e n) found)))
element_there typ element found (shape_uint w is) = absurd (nothing_found element (sym (element_of typ element (Shape-F.Unsigned w) (ap out-Shape is ∙ outs-Unsigned w) found)))
element_there typ element found (shape_sint w is) = absurd (nothing_found element (sym (element_of typ element (Shape-F.Signed w) (ap out-Shape is ∙ outs-Signed w) found)))
element_there typ element found (shape_clock is) = absurd (nothing_found element (sym (element_of typ element Shape-F.Clock (ap out-Shape is ∙ outs-Clock) found)))
element_there typ element found (shape_reset is) = absurd (nothing_found element (sym (element_of typ element Shape-F.Reset (ap out-Shape is ∙ outs-Reset) found)))
element_there typ element found (shape_async is) = absurd (nothing_found element (sym (element_of typ element Shape-F.AsyncReset (ap out-Shape is ∙ outs-AsyncReset) found)))
element_there typ element found (shape_bundle fields is) = absurd (nothing_found element (sym (element_of typ element (Shape-F.Bundle fields) (ap out-Shape is ∙ outs-Bundle fields) found)))

pub part_of_vector : {K : Type 0} (typ_in : K → FirType) (step : Suffix) (typ : FirType) (found : Option K) → ((name : Name) → step ≡ suffix.Field name → ⊥)
    → option_map typ_in found ≡ element_in (out-Shape typ.shape) → IfSome found (λ part. IsBehind step typ (typ_in part))
part_of_vector typ_in step typ (Some part) none is = an_element none (element_there typ (typ_in part) is (case_of typ.shape))
part_of_vector typ_in step typ None none is = tt

-- the number behind it

pub field_behind : (table : Table) (step : Suffix) (name : Name) (class : ℕ) (found : Option ℕ) → step ≡ suffix.Field name
    → IfSome found (λ part. (typ : FirType) → HasNumber table typ class → FieldHas table typ name.id part)
    → IfSome found (λ part. (typ : FirType) → HasNumber table typ class → ClassBehind table step typ part)
field_behind table step name class (Some part) is h = λ typ own. ∥∥₁_map (h typ own) (λ r. (r.0, a_field name is r.1, r.2))
field_behind table step name class None is h = tt

pub element_behind : (table : Table) (step : Suffix) (class : ℕ) (found : Option ℕ) → ((name : Name) → step ≡ suffix.Field name → ⊥)
    → IfSome found (λ part. (typ : FirType) → HasNumber table typ class → ElementHas table typ part)
    → IfSome found (λ part. (typ : FirType) → HasNumber table typ class → ClassBehind table step typ part)
element_behind table step class (Some part) is h = λ typ own. ∥∥₁_map (h typ own) (λ r. (r.0, an_element is r.1, r.2))
element_behind table step class None is h = tt

-- one more step

behind_push : (steps : List Suffix) (step : Suffix) (typ middle part : FirType) → AreBehind steps typ middle → IsBehind step middle part → AreBehind (steps ++ step ∷ []) typ part
behind_push [] step typ middle part e h = (part, subst (λ t. IsBehind step t part) (sym e) h, refl)
behind_push (s ∷ steps) step typ middle part r h = (r.0, r.1, behind_push steps step r.0 middle part r.2 h)

pub behind_more : (steps : List Suffix) (i : ℕ) (step : Suffix) (typ middle part : FirType) → i < length steps → step ≡ get_or steps i step
    → AreBehind (take i steps) typ middle → IsBehind step middle part → AreBehind (take (i + 1) steps) typ part
behind_more steps i step typ middle part lt is r h =
    subst (λ l. AreBehind l typ part) (sym (take_more steps i step lt ∙ ap (λ x. take i steps ++ x ∷ []) (sym is))) (behind_push (take i steps) step typ middle part r h)

pub along_more : (table : Table) (steps : List Suffix) (i : ℕ) (step : Suffix) (typ : FirType) (class after : ℕ) → i < length steps → step ≡ get_or steps i step
    → ((typ : FirType) → HasNumber table typ class → ClassBehind table step typ after) → ClassAlong table (take i steps) typ class → ClassAlong table (take (i + 1) steps) typ after
along_more table steps i step typ class after lt is h r =
    ∥∥₁_elim r squash₁ (λ r. ∥∥₁_map (h r.0 r.2) (λ n. (n.0, behind_more steps i step typ r.0 n.0 lt is r.1 n.1, n.2)))

-- a reference

pub leads_class : (table : Table) (noted : List (ℕ × Noted)) (name base : ℕ) (one : Noted) (steps : List Suffix) (found : Option ℕ) → lookup (nat_eq name) noted ≡ Some one
    → one.class ≡ Some base → IfSome found (λ class. (typ : FirType) → HasNumber table typ base → ClassAlong table steps typ class)
    → IfSome found (LeadsClass table noted name steps)
leads_class table noted name base one steps (Some class) at is h =
    λ all. ∥∥₁_elim (by one.class is (all name one at)) squash₁ (λ own. ∥∥₁_map (h one.component.known.typ own) (λ r. (one, r.0, at, r.1, r.2)))
  where
    by : (o : Option ℕ) → o ≡ Some base → IfSome o (λ n. ∥ HasNumber table one.component.known.typ n ∥₁) → ∥ HasNumber table one.component.known.typ base ∥₁
    by (Some n) e h = subst (λ i. ∥ HasNumber table one.component.known.typ i ∥₁) (same n e) h
      where
        same : (n : ℕ) → Some n ≡ Some base → n ≡ base
        same n e = cc
    by None e h = absurd cc
leads_class table noted name base one steps None at is h = tt

pub leads_along : {K : Type 0} (typ_in : K → FirType) (among : Parts) (name : ℕ) (one : Part) (steps : List Suffix) (found : Option K) → lookup (nat_eq name) among ≡ Some one
    → IfSome found (λ part. AreBehind steps one.typ (typ_in part)) → IfSome found (λ part. Leads among name steps (typ_in part))
leads_along typ_in among name one steps (Some part) at h = (one, at, h)
leads_along typ_in among name one steps None at h = tt

leads_to : (noted : List (ℕ × Noted)) (name : ℕ) (one : Noted) (steps : List Suffix) (typ : FirType) → lookup (nat_eq name) noted ≡ Some one
    → AreBehind steps one.component.known.typ typ → Leads (parts_of noted) name steps typ
leads_to noted name one steps typ at h = (part_noted one, sym (found_part noted name (Some one) at), h)

-- whether two references lead to equivalent types
pub compared_by : (table : Table) (noted : List (ℕ × Noted)) (one other : ℕ × List Suffix) (first second : ℕ) (answer : Bool)
    → AreClassed table noted → LeadsClass table noted one.0 one.1 first → LeadsClass table noted other.0 other.1 second
    → ((left right : FirType) → HasNumber table left first → HasNumber table right second → IsTrue answer ↔ ∥ Equivalent left right ∥₁)
    → AreCompared (parts_of noted) one other answer
compared_by table noted one other first second answer k a b same =
    ∥∥₁_elim (a k) squash₁ (λ x. ∥∥₁_map (b k) (λ y.
    (x.1, y.1, leads_to noted one.0 x.0 one.1 x.1 x.2 x.3, leads_to noted other.0 y.0 other.1 y.1 y.2 y.3, same x.1 y.1 x.4 y.4)))

-- the number of a component with the type to which a reference leads
pub part_class : (table : Table) (noted : List (ℕ × Noted)) (name : ℕ) (steps : List Suffix) (typ : FirType) (class : Option ℕ)
    → AreClassed table noted → IfSome class (LeadsClass table noted name steps) → ((part : FirType) → Leads (parts_of noted) name steps part → typ ≡ part)
    → IfSome class (λ n. ∥ HasNumber table typ n ∥₁)
part_class table noted name steps typ (Some n) k h same =
    ∥∥₁_map (h k) (λ x. subst (λ t. HasNumber table t n) (sym (same x.1 (leads_to noted name x.0 steps x.1 x.2 x.3))) x.4)
part_class table noted name steps typ None k h same = tt
