-- A type at hand that is compared with the type that widths give.
use Rattle.std.proofs.Common.{◌≡◌, ℕ, ◌==◌, Bool, true, false, not, ◌&&◌, eqb, ◌+◌, ◌<◌, ◌≤◌, List, [], ◌∷◌, drop, get_or, length, refl, sym, ap, ◌∙◌, arith}
use Rattle.std.proofs.lemmas.Bool.{eqb-true}
use mathlib.Core.Bool.{beq}
use Rattle.std.proofs.lemmas.Grind.{common_steps}
use Rattle.std.proofs.lemmas.List.{drop_more, drop_all}
use Rattle.place_text.specs.declared.place.Place.{Place}
use Rattle.fir_types.specs.declared.name.Name.{Name}
use Rattle.fir_types.specs.declared.fir_type.FirType.{FirType, the_lemmas}
use Rattle.fir_types.specs.declared.fir_type.Shape.{Shape}
use Rattle.fir_types.specs.declared.fir_type.Shape.TheVariants as shape
use Rattle.fir_types.specs.declared.fir_type.Field.{Field}
use Rattle.prim_ops.specs.declared.widths.Width.{Width}
use Rattle.type_filling.specs.Filling.{taking}
use Rattle.type_filling.specs.Layers.{shape_taking, field_taking, fields_taking}

-- where the inner type is the other one with its widths, the whole type is the fitted one
abbrev pub Leads : FirType → FirType → FirType → FirType → List Width → Type 0
Leads typ fitted inside other ws = (r : List Width) → ◌≡◌ {A = FirType × List Width} (taking inside ws) (other, r) → ◌≡◌ {A = FirType × List Width} (taking typ ws) (fitted, r)

pub leads_inside : (typ fitted inside other element other_element : FirType) (n m : ℕ) (ws : List Width) → inside.shape ≡ shape.Vector element n → other.shape ≡ shape.Vector other_element m
    → inside.place ≡ other.place → n ≡ m → Leads typ fitted inside other ws → Leads typ fitted element other_element ws
leads_inside typ fitted inside other element other_element n m ws is there' same long leads r e = leads r (around inside other element other_element n m is there' same long e)
  where
    around : (inside other element other_element : FirType) (n m : ℕ) → inside.shape ≡ shape.Vector element n → other.shape ≡ shape.Vector other_element m
        → inside.place ≡ other.place → n ≡ m → ◌≡◌ {A = FirType × List Width} (taking element ws) (other_element, r) → ◌≡◌ {A = FirType × List Width} (taking inside ws) (other, r)
    around inside other element other_element n m is there' same long e = grind (arith, common_steps, the_lemmas)

pub leads_shape : (typ fitted inside other : FirType) (ws r : List Width) → Leads typ fitted inside other ws → inside.place ≡ other.place
    → ◌≡◌ {A = Shape × List Width} (shape_taking inside.shape ws) (other.shape, r) → ◌≡◌ {A = FirType × List Width} (taking typ ws) (fitted, r)
leads_shape typ fitted inside other ws r leads same e = leads r (whole inside other same e)
  where
    whole : (inside other : FirType) → inside.place ≡ other.place → ◌≡◌ {A = Shape × List Width} (shape_taking inside.shape ws) (other.shape, r)
        → ◌≡◌ {A = FirType × List Width} (taking inside ws) (other, r)
    whole inside other same e = grind (arith, common_steps, the_lemmas)

-- where the fields that are left are the others with their widths, all fields are the fitted ones
abbrev pub LeadsAll : List Field → List Field → List Width → List Field → List Field → List Width → Type 0
LeadsAll fields fitted ws behind left rest =
    (r : List Width) → ◌≡◌ {A = List Field × List Width} (fields_taking behind rest) (left, r) → ◌≡◌ {A = List Field × List Width} (fields_taking fields ws) (fitted, r)

one_field : (f first : Field) (ws rest : List Width) → first.flip ≡ f.flip → first.name ≡ f.name → ◌≡◌ {A = FirType × List Width} (taking f.typ ws) (first.typ, rest)
    → ◌≡◌ {A = Field × List Width} (field_taking f ws) (first, rest)
one_field f first ws rest flip name e = grind (arith, common_steps, the_lemmas)

pub leads_field : (fields fitted left others : List Field) (i : ℕ) (f first : Field) (ws rest more : List Width) → i < length fields → f ≡ get_or fields i f → left ≡ first ∷ others
    → first.flip ≡ f.flip → first.name ≡ f.name → ◌≡◌ {A = FirType × List Width} (taking f.typ rest) (first.typ, more)
    → LeadsAll fields fitted ws (drop i fields) left rest → LeadsAll fields fitted ws (drop (i + 1) fields) others more
leads_field fields fitted left others i f first ws rest more lt at split flip name took leads r e =
    let behind = drop (i + 1) fields in
    leads r (ap (λ fs. fields_taking fs rest) (drop_more fields i f lt ∙ ap (λ g. g ∷ behind) (sym at))
    ∙ ap {B = List Field × List Width} (λ (t : Field × List Width). (t.0 ∷ (fields_taking behind t.1).0, (fields_taking behind t.1).1)) (one_field f first rest more flip name took)
    ∙ ap {B = List Field × List Width} (λ (t : List Field × List Width). (first ∷ t.0, t.1)) e ∙ ap (λ fs. (fs, r)) (sym split))

pub leads_all : (fields fitted left : List Field) (i : ℕ) (ws rest : List Width) → length fields ≤ i → left ≡ [] → LeadsAll fields fitted ws (drop i fields) left rest
    → ◌≡◌ {A = List Field × List Width} (fields_taking fields ws) (fitted, rest)
leads_all fields fitted left i ws rest past none leads =
    leads rest (ap (λ fs. fields_taking fs rest) (drop_all i fields past) ∙ ap {B = List Field × List Width} (λ (fs : List Field). (fs, rest)) (sym none))

both : (a b : Bool) → false ≡ not (a && b) → (a ≡ true) × (b ≡ true)
both true true h = (refl, refl)
both true false h = grind (arith, common_steps, h)
both false true h = grind (arith, common_steps, h)
both false false h = grind (arith, common_steps, h)

-- a comparison that tells no difference
pub same_place : (p q : Place) → false ≡ not (eqb p.line q.line && eqb p.column q.column) → p ≡ q
same_place p q h =
    let e = both (eqb p.line q.line) (eqb p.column q.column) h in
    let line : p.line ≡ q.line = eqb-true p.line q.line e.0 in
    let column : p.column ≡ q.column = eqb-true p.column q.column e.1 in
    λ i. record { line = line i; column = column i }

pub same_flip : (a b : Bool) → not (beq a b) ≡ false → a ≡ b
same_flip true true h = refl
same_flip true false h = grind (arith, common_steps, h)
same_flip false true h = grind (arith, common_steps, h)
same_flip false false h = refl

pub same_name : (a b : Name) → a.id ≡ b.id → a.place ≡ b.place → a ≡ b
same_name a b id place = λ i. record { id = id i; place = place i }

pub none_left : (fs : List Field) → true ≡ (length fs == 0) → fs ≡ []
none_left [] h = refl
none_left (f ∷ fs) h = grind (arith, common_steps, h)
