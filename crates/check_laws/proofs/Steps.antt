-- The steps of references from a part that is judged, and from what the flow table has in its place.
use Rattle.std.proofs.Common.{◌≡◌, ℕ, Bool, true, false, cond, ◌||◌, List, [], ◌∷◌, map, Some, sym, ap, ◌∙◌, subst, arith}
use Rattle.std.specs.Prelude.{find, ◌==◌}
use Rattle.std.specs.List.{list_any}
use Rattle.std.proofs.lemmas.Bool.{or_parts}
use Rattle.std.proofs.lemmas.Grind.{common_steps}
use Rattle.place_text.specs.declared.place.Place.{Place}
use Rattle.fir_types.specs.declared.fir_type.FirType.{FirType, the_lemmas as type_lemmas}
use Rattle.fir_types.specs.declared.fir_type.Shape.TheViews.{out-Shape}
use Rattle.fir_types.specs.declared.fir_type.Shape.TheVariants as shape
use Rattle.fir_types.specs.declared.fir_type.Shape.TheVariants.{outs-Bundle, outs-Vector}
use Rattle.fir_types.specs.declared.fir_type.Field.{Field}
use Rattle.fir_types.specs.declared.name.Name.{Name}
use Rattle.fir_types.specs.Passivity.{IsPassive, has_flip, field_has_flip}
use Rattle.fir_types.proofs.Layers.{flip-bundle}
use Rattle.fir_types.proofs.Masks.{flip-vector}
use Rattle.fir_tree.specs.declared.expr.Expr.{Expr, the_lemmas}
use Rattle.fir_tree.specs.declared.expr.Suffix.{Suffix}
use Rattle.fir_tree.specs.declared.expr.Suffix.TheVariants as suffix
use Rattle.fir_tree.specs.declared.part.Part.{Part}
use Rattle.fir_tree.specs.declared.part.Flow.TheVariants.{Source}
use Rattle.fir_tree.specs.Parts.{part_of, flow_through, field_or_whole, field_of_layer, field_part, element_of_layer, element_part, no_part}
use Rattle.reference_flow.specs.Flows.{suffix_step, named}
use Rattle.type_check.specs.Parts.{Known}
use Rattle.check_laws.specs.Typing.{Leads, nowhere_else, one_step, Steps, to_field, to_element, to_indexed}
use Rattle.check_laws.proofs.Typing.{some_same, none_some}

-- The table has the part itself, or it has none for what can only be read and has no flip.
pub data StandsFor (p q : Part) : Type 0 where
  itself : p ≡ q → StandsFor p q
  no_more : p ≡ no_part → q.flow ≡ Source → IsPassive q.typ → StandsFor p q

pub same_flow : {p q : Part} → StandsFor p q → p.flow ≡ q.flow
same_flow (itself e) = ap (λ (x : Part). x.flow) e
same_flow (no_more e f passive) = ap (λ (x : Part). x.flow) e ∙ sym f

-- Fields of passive bundles

flip-field : (f : Field) → field_has_flip f ≡ (f.flip || has_flip f.typ)
flip-field f = grind (arith, common_steps, type_lemmas)

found_passive : (test : Field → Bool) (fs : List Field) (f : Field) → list_any field_has_flip fs ≡ false → find test fs ≡ Some f → field_has_flip f ≡ false
found_passive test [] f h e = absurd (none_some e)
found_passive test (x ∷ fs) f h e = by (test x) e (found_passive test fs f (or_parts (field_has_flip x) (list_any field_has_flip fs) h).1) where
  by : (b : Bool) → cond b (Some x) (find test fs) ≡ Some f → (find test fs ≡ Some f → field_has_flip f ≡ false) → field_has_flip f ≡ false
  by true e more = subst (λ o. field_has_flip o ≡ false) (some_same e) (or_parts (field_has_flip x) (list_any field_has_flip fs) h).0
  by false e more = more e

-- Each step of the table

step_field : (s : Suffix) (name : Name) (p : Part) → s ≡ suffix.Field name → (suffix_step s).to p ≡ field_part name.id p
step_field s name p is = grind (arith, common_steps, the_lemmas)

step_at : (s : Suffix) (bracket at : Place) (n : ℕ) (p : Part) → s ≡ suffix.At bracket at n → (suffix_step s).to p ≡ element_part p
step_at s bracket at n p is = grind (arith, common_steps, the_lemmas)

step_index : (s : Suffix) (bracket : Place) (index : Expr) (p : Part) → s ≡ suffix.Index bracket index → (suffix_step s).to p ≡ element_part p
step_index s bracket index p is = grind (arith, common_steps, the_lemmas)

to_a_field : (q : Part) (fields : List Field) (field : Field) (name : Name) → q.typ.shape ≡ shape.Bundle fields → find (λ f. f.name.id == name.id) fields ≡ Some field
    → field_part name.id q ≡ part_of field.typ (flow_through field.flip q.flow)
to_a_field q fields field name e h = ap (λ x. field_of_layer name.id q (out-Shape x)) e ∙ ap (field_of_layer name.id q) (outs-Bundle fields) ∙ ap (field_or_whole q) h

to_an_element : (q : Part) (element : FirType) (n : ℕ) → q.typ.shape ≡ shape.Vector element n → element_part q ≡ part_of element q.flow
to_an_element q element n e = ap (λ x. element_of_layer q (out-Shape x)) e ∙ ap (element_of_layer q) (outs-Vector element n)

no_field : (name : ℕ) → field_part name no_part ≡ no_part
no_field name = ap (field_of_layer name no_part) (outs-Bundle [])

no_element : element_part no_part ≡ no_part
no_element = ap (element_of_layer no_part) (outs-Bundle [])

-- an element of either kind
element_on : (p q : Part) (element : FirType) (n : ℕ) → q.typ.shape ≡ shape.Vector element n → StandsFor p q → StandsFor (element_part p) (part_of element q.flow)
element_on p q element n e (itself same) = itself (ap element_part same ∙ to_an_element q element n e)
element_on p q element n e (no_more none flow passive) = no_more (ap element_part none ∙ no_element) flow (sym (flip-vector q.typ element n e) ∙ passive)

steps_on : {known : Known} {p q next : Part} {s : Suffix} → Steps known q s next → StandsFor p q → StandsFor ((suffix_step s).to p) next
steps_on {p = p} {q = q} {s = s} (to_field name fields field is e found) (itself same) =
    itself (step_field s name p is ∙ ap (field_part name.id) same ∙ to_a_field q fields field name e found)
steps_on {p = p} {q = q} {s = s} (to_field name fields field is e found) (no_more none flow passive) =
    let quiet : field_has_flip field ≡ false = found_passive (λ f. f.name.id == name.id) fields field (sym (flip-bundle q.typ fields e) ∙ passive) found in
    let both = or_parts field.flip (has_flip field.typ) (sym (flip-field field) ∙ quiet) in
    no_more (step_field s name p is ∙ ap (field_part name.id) none ∙ no_field name.id) (ap (λ b. flow_through b q.flow) both.0 ∙ flow) both.1
steps_on {p = p} {q = q} {next = next} {s = s} (to_element bracket at n element length is e below) h =
    subst (λ x. StandsFor x (part_of element q.flow)) (sym (step_at s bracket at n p is)) (element_on p q element length e h)
steps_on {p = p} {q = q} {s = s} (to_indexed bracket index inner element length is e its unsigned) h =
    subst (λ x. StandsFor x (part_of element q.flow)) (sym (step_index s bracket index p is)) (element_on p q element length e h)

pub leads_on : {known : Known} {q part : Part} {ss : List Suffix} → Leads known q ss part → (p : Part) → StandsFor p q → StandsFor (named (map suffix_step ss) p) part
leads_on nowhere_else p h = h
leads_on (one_step {first = s} first rest) p h = leads_on rest ((suffix_step s).to p) (steps_on first h)
