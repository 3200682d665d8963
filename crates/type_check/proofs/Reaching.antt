-- The types of parts that are reached by steps alone.
use Rattle.std.proofs.Common.{◌≡◌, ℕ, Bool, true, false, List, [], ◌∷◌, map, length, get_or, refl, sym, ap, ◌∙◌, subst, arith}
use Rattle.std.specs.Prelude.{Option, Some, None, option_map, find, ◌==◌, IfSome, nat_lt}
use Rattle.std.proofs.Math.Bool.{Bool-set}
use Rattle.std.proofs.Math.Logic.{∥∥₁_elim}
use Rattle.std.proofs.lemmas.Grind.{common_steps}
use Rattle.place_text.specs.declared.place.Place.{Place}
use Rattle.fir_types.specs.declared.fir_type.FirType.{FirType}
use Rattle.fir_types.specs.declared.fir_type.Shape.TheViews.{out-Shape}
use Rattle.fir_types.specs.declared.fir_type.Shape.TheVariants as shape
use Rattle.fir_types.specs.declared.fir_type.Shape.TheVariants.{outs-Bundle, outs-Vector}
use Rattle.fir_types.specs.Equivalence.{Equivalent}
use Rattle.module_table.specs.declared.reference.Reference.{Reference}
use Rattle.module_table.specs.Leading.{IsReference, IsBehind, a_field, an_element, AreBehind, Leads, AreCompared}
use Rattle.type_check.specs.Texts.{are_equivalent}
use Rattle.type_check.proofs.Equivalence.{yes, is_equivalent, same_answer}
use Rattle.fir_types.specs.declared.fir_type.Field.{Field}
use Rattle.fir_types.specs.declared.name.Name.{Name}
use Rattle.type_index.specs.Knowing.{fields_in}
use Rattle.fir_tree.specs.declared.expr.Expr.{Expr, the_lemmas}
use Rattle.fir_tree.specs.declared.expr.Form.TheVariants as form
use Rattle.fir_tree.specs.declared.expr.Form.{Form}
use Rattle.fir_tree.specs.declared.expr.Form.TheOpen.{Suffix-F}
use Rattle.fir_tree.specs.declared.expr.Form.TheFolds.{map-Suffix}
use Rattle.fir_tree.specs.declared.expr.Form.TheViews.{roll-Suffix}
use Rattle.fir_tree.specs.declared.expr.Suffix.{Suffix, ind-Suffix}
use Rattle.fir_tree.specs.declared.expr.Suffix.TheVariants.{rolls-Field, rolls-At, rolls-Index}
use Rattle.fir_types.specs.declared.fir_type.Shape.{Shape}
use Rattle.fir_types.specs.declared.fir_type.Shape.TheOpen.{Shape-F}
use Rattle.fir_tree.specs.Kinds.{is_unsigned}
use Rattle.fir_tree.specs.declared.expr.Suffix.TheVariants as suffix
use Rattle.fir_tree.specs.declared.part.Part.{Part}
use Rattle.fir_tree.specs.Parts.{source_of}
use Rattle.type_check.specs.declared.fault.TypeFault.{TypeFault}
use Rattle.type_check.specs.Parts.{Known, component, typed_without}
use Rattle.type_check.specs.Expressions.{Judgement, Operand, found_of, judged, over, choice, choice_faults, with_operand, typed_operands, all_among, as_node, along, behind, suffix_step, from_base, from_index, field_step, element_step, element_found, index_step, indexed}
use Rattle.type_check.specs.Judging.{Agrees}
use Rattle.type_check.proofs.Forms.{mux_is}
use Rattle.type_check.proofs.Ways.{first_field}

without_faults : (faults : List TypeFault) (typ : FirType) → Agrees typ (option_map source_of (typed_without faults typ))
without_faults [] typ = refl
without_faults (fault ∷ faults) typ = tt {0}

over_three : (place : Place) (js : List Judgement) (a b c : Option Part) (p q r : Place) (typ : FirType) → Agrees typ b
    → Agrees typ (over place (choice place) js (with_operand a p (with_operand b q (with_operand c r (Some []))))).part
over_three place js (Some a) (Some b) (Some c) p q r typ h =
    let one : Operand = record { place = p; typ = a.typ } in
    let two : Operand = record { place = q; typ = b.typ } in
    let three : Operand = record { place = r; typ = c.typ } in
    subst (λ t. Agrees t (option_map source_of (typed_without (choice_faults place one two three) b.typ))) h (without_faults (choice_faults place one two three) b.typ)
over_three place js (Some a) (Some b) None p q r typ h = tt {0}
over_three place js (Some a) None c p q r typ h = tt {0}
over_three place js None b c p q r typ h = tt {0}

-- a choice has the type of the first of what it chooses from
pub choice_agrees : (known : Known) (e : Expr) (operands : List Expr) (c f s : Expr) (typ : FirType) → e.form ≡ form.Mux operands → operands ≡ c ∷ f ∷ s ∷ []
    → Agrees typ (found_of known f).part → Agrees typ (found_of known e).part
choice_agrees known e operands c f s typ is three h =
    subst (λ j. Agrees typ j.part) (sym (mux_is known e operands is))
    (subst (λ es. Agrees typ (over e.place (choice e.place) (all_among known (map judged es)) (typed_operands known (map judged es))).part) (sym three)
    (over_three e.place (all_among known (map judged (c ∷ f ∷ s ∷ []))) (found_of known c).part (found_of known f).part (found_of known s).part
    (judged c).place (judged f).place (judged s).place typ h))

pub second_chosen : (known : Known) (e : Expr) (operands : List Expr) (f : Expr) (typ : FirType) → e.form ≡ form.Mux operands → length operands ≡ 3 → f ≡ get_or operands 1 f
    → Agrees typ (found_of known f).part → Agrees typ (found_of known e).part
second_chosen known e [] f typ is three at h = absurd (grind (arith, common_steps))
second_chosen known e (a ∷ []) f typ is three at h = absurd (grind (arith, common_steps))
second_chosen known e (a ∷ b ∷ []) f typ is three at h = absurd (grind (arith, common_steps))
second_chosen known e (a ∷ b ∷ c ∷ []) f typ is three at h = choice_agrees known e (a ∷ b ∷ c ∷ []) a b c typ is refl (subst (λ f. Agrees typ (found_of known f).part) at h)
second_chosen known e (a ∷ b ∷ c ∷ d ∷ more) f typ is three at h = absurd (grind (arith, common_steps))

-- Steps

field_from : (name : Name) (t : FirType) (field : Field) (base : Option Part) → find (λ f. f.name.id == name.id) (fields_in (out-Shape t.shape)) ≡ Some field
    → Agrees t base → Agrees field.typ (from_base (λ part. field_step name part (out-Shape part.typ.shape)) base).part
field_from name t field (Some part) found h = subst (λ j. Agrees field.typ j.part) (sym (first_field name part t field h found)) refl
field_from name t field None found h = tt {0}

-- in the words of the steps themselves

field_is : (s : Suffix) (name : Name) (known : Known) (base : Option Part) → s ≡ suffix.Field name
    → suffix_step s known base ≡ from_base (λ part. field_step name part (out-Shape part.typ.shape)) base
field_is s name known base is = grind (arith, common_steps, the_lemmas)

pub behind_field : (s : Suffix) (name : Name) (t : FirType) (field : Field) → s ≡ suffix.Field name
    → find (λ f. f.name.id == name.id) (fields_in (out-Shape t.shape)) ≡ Some field
    → (known : Known) (base : Option Part) → Agrees t base → Agrees field.typ (suffix_step s known base).part
behind_field s name t field is found known base h = subst (λ j. Agrees field.typ j.part) (sym (field_is s name known base is)) (field_from name t field base found h)

-- a reference by its steps
ref_is : (known : Known) (e : Expr) (name : Name) (suffixes : List Suffix) → e.form ≡ form.Ref name suffixes
    → found_of known e ≡ as_node e.place (along (map suffix_step suffixes) known (component known name.id))
ref_is known e name suffixes is = grind (arith, common_steps, the_lemmas)

reference_agrees : (known : Known) (e : Expr) (name : Name) (suffixes : List Suffix) (t : FirType) → e.form ≡ form.Ref name suffixes
    → Agrees t (along (map suffix_step suffixes) known (component known name.id)).part → Agrees t (found_of known e).part
reference_agrees known e name suffixes t is h = subst (λ j. Agrees t j.part) (sym (ref_is known e name suffixes is)) h

-- a component by its name
pub component_agrees : (one : Part) (part : Option Part) (typ : FirType) → Some one ≡ part → one.typ ≡ typ → Agrees typ part
component_agrees one part typ is same = subst (Agrees typ) is same

-- what references lead to

field_list : (typ : FirType) (fields : List Field) → typ.shape ≡ shape.Bundle fields → fields_in (out-Shape typ.shape) ≡ fields
field_list typ fields is = ap fields_in (ap out-Shape is ∙ outs-Bundle fields)

data StepCase (s : Suffix) : Type 0 where
  step_field : (name : Name) → s ≡ suffix.Field name → StepCase s
  step_at : (bracket at : Place) (n : ℕ) → s ≡ suffix.At bracket at n → StepCase s
  step_index : (bracket : Place) (index : Expr) → s ≡ suffix.Index bracket index → StepCase s

step_layer : (y : Suffix-F ((f : Form) × Unit {0}) ((s : Suffix) × StepCase s) ((e : Expr) × Unit {0}))
    → StepCase (roll-Suffix (map-Suffix _ _ _ Form Suffix Expr (λ e. e.0) (λ e. e.0) (λ e. e.0) y))
step_layer (Suffix-F.Field name) = step_field name (rolls-Field name)
step_layer (Suffix-F.At bracket at n) = step_at bracket at n (rolls-At bracket at n)
step_layer (Suffix-F.Index bracket p) = step_index bracket p.0 (rolls-Index bracket p.0)

step_case : (s : Suffix) → StepCase s
step_case = ind-Suffix (λ f. Unit {0}) StepCase (λ e. Unit {0}) (λ x y is. tt) (λ x y is. subst (λ z. StepCase (roll-Suffix z)) is (step_layer y)) (λ x y is. tt)

at_is : (known : Known) (s : Suffix) (bracket at : Place) (n : ℕ) (base : Option Part) → s ≡ suffix.At bracket at n
    → suffix_step s known base ≡ from_base (λ part. element_step bracket at n part (out-Shape part.typ.shape)) base
at_is known s bracket at n base is = grind (arith, common_steps, the_lemmas)

index_is : (known : Known) (s : Suffix) (bracket : Place) (index : Expr) (base : Option Part) → s ≡ suffix.Index bracket index
    → suffix_step s known base ≡ behind (found_of known index) (from_index bracket (judged index).place (found_of known index).part base)
index_is known s bracket index base is = grind (arith, common_steps, the_lemmas)

element_agrees : (bracket at : Place) (n : ℕ) (base : Part) (layer : Shape-F Shape Field FirType) (part : FirType) (length : ℕ) → layer ≡ Shape-F.Vector part length
    → Agrees part (element_step bracket at n base layer).part
element_agrees bracket at n base layer part length is = subst (λ l. Agrees part (element_step bracket at n base l).part) (sym is) (by (nat_lt n length))
  where
    by : (b : Bool) → Agrees part (element_found base part b at).part
    by true = refl
    by false = tt {0}

index_agrees : (bracket at : Place) (index base : Part) (layer : Shape-F Shape Field FirType) (part : FirType) (length : ℕ) → layer ≡ Shape-F.Vector part length
    → Agrees part (index_step bracket at index base layer).part
index_agrees bracket at index base layer part length is = subst (λ l. Agrees part (index_step bracket at index base l).part) (sym is) (by (is_unsigned index.typ))
  where
    by : (b : Bool) → Agrees part (indexed at base part b).part
    by true = refl
    by false = tt {0}

vector_layer : (t typ part : FirType) (length : ℕ) → t ≡ typ → typ.shape ≡ shape.Vector part length → out-Shape t.shape ≡ Shape-F.Vector part length
vector_layer t typ part length same is = ap (λ (x : FirType). out-Shape x.shape) same ∙ ap out-Shape is ∙ outs-Vector part length

element_behind : (step : Suffix) (typ part : FirType) (length : ℕ) → ((name : Name) → step ≡ suffix.Field name → ⊥) → typ.shape ≡ shape.Vector part length → (known : Known)
    (base : Option Part) → Agrees typ base → StepCase step → Agrees part (suffix_step step known base).part
element_behind step typ part length none is known base h (step_field name e) = absurd (none name e)
element_behind step typ part length none is known base h (step_at bracket at n e) =
    subst (λ j. Agrees part j.part) (sym (at_is known step bracket at n base e)) (by base h)
  where
    by : (base : Option Part) → Agrees typ base → Agrees part (from_base (λ p. element_step bracket at n p (out-Shape p.typ.shape)) base).part
    by (Some p) h = element_agrees bracket at n p (out-Shape p.typ.shape) part length (vector_layer p.typ typ part length h is)
    by None h = tt {0}
element_behind step typ part length none is known base h (step_index bracket index e) =
    subst (λ j. Agrees part j.part) (sym (index_is known step bracket index base e)) (by (found_of known index).part base h)
  where
    by : (inner base : Option Part) → Agrees typ base → Agrees part (from_index bracket (judged index).place inner base).part
    by (Some i) (Some p) h = index_agrees bracket (judged index).place i p (out-Shape p.typ.shape) part length (vector_layer p.typ typ part length h is)
    by (Some i) None h = tt {0}
    by None (Some p) h = tt {0}
    by None None h = tt {0}

one_behind : (step : Suffix) (typ part : FirType) → IsBehind step typ part → (known : Known) (base : Option Part) → Agrees typ base → Agrees part (suffix_step step known base).part
one_behind step typ part (a_field name is f) known base h =
    subst (λ t. Agrees t (suffix_step step known base).part) f.4
    (behind_field step name typ f.1 is (ap (find (λ g. g.name.id == name.id)) (field_list typ f.0 f.2) ∙ f.3) known base h)
one_behind step typ part (an_element none e) known base h = element_behind step typ part e.0 none e.1 known base h (step_case step)

all_behind : (steps : List Suffix) (typ part : FirType) → AreBehind steps typ part → (known : Known) (base : Option Part) → Agrees typ base
    → Agrees part (along (map suffix_step steps) known base).part
all_behind [] typ part e known base h = subst (λ t. Agrees t base) e h
all_behind (step ∷ steps) typ part r known base h = all_behind steps r.0 part r.2 known (suffix_step step known base).part (one_behind step typ r.0 r.1 known base h)

-- what a reference leads to is what the expression comes to
pub leads_agrees : (known : Known) (e : Expr) (id : ℕ) (steps : List Suffix) (typ : FirType) → IsReference e id steps → Leads known id steps typ → Agrees typ (found_of known e).part
leads_agrees known e id steps typ is leads =
    reference_agrees known e is.0 steps typ is.1 (all_behind steps leads.0.typ typ leads.2 known (component known is.0.id)
    (component_agrees leads.0 (component known is.0.id) leads.0.typ (sym (ap (component known) is.2 ∙ leads.1)) refl))

pub leads_chosen : (e f : Expr) (found : Option Reference) → ((known : Known) (typ : FirType) → Agrees typ (found_of known f).part → Agrees typ (found_of known e).part)
    → IfSome found (λ r. IsReference f r.name r.suffixes.now)
    → IfSome found (λ r. (known : Known) (typ : FirType) → Leads known r.name r.suffixes.now typ → Agrees typ (found_of known e).part)
leads_chosen e f (Some r) chosen is = λ known typ leads. chosen known typ (leads_agrees known f r.name r.suffixes.now typ is leads)
leads_chosen e f None chosen is = tt {0}

agreed : (typ : FirType) (o : Option Part) (part : Part) → Agrees typ o → o ≡ Some part → part.typ ≡ typ
agreed typ (Some p) part h e = ap (λ (x : Part). x.typ) (sym (same p part e)) ∙ h
  where
    same : (a b : Part) → Some a ≡ Some b → a ≡ b
    same a b e = cc
agreed typ None part h e = absurd cc

pub part_agreed : (typ : FirType) (known : Known) (e : Expr) (part : Part) → Agrees typ (found_of known e).part → (found_of known e).part ≡ Some part → part.typ ≡ typ
part_agreed typ known e part h is = agreed typ (found_of known e).part part h is

-- what is known of the part that a reference leads to
pub part_agrees : {K : Type 0} (typ_of : K → FirType) (known : Known) (e : Expr) (r : Reference) (found : Option K)
    → ((known : Known) (typ : FirType) → Leads known r.name r.suffixes.now typ → Agrees typ (found_of known e).part)
    → IfSome found (λ part. Leads known r.name r.suffixes.now (typ_of part)) → IfSome found (λ part. Agrees (typ_of part) (found_of known e).part)
part_agrees typ_of known e r (Some part) agrees h = agrees known (typ_of part) h
part_agrees typ_of known e r None agrees h = tt {0}

-- the answer by numbers
pub answered : (known : Known) (e f : Expr) (one other : Reference) (answer : Option Bool)
    → ((known : Known) (typ : FirType) → Leads known one.name one.suffixes.now typ → Agrees typ (found_of known e).part)
    → ((known : Known) (typ : FirType) → Leads known other.name other.suffixes.now typ → Agrees typ (found_of known f).part)
    → IfSome answer (AreCompared known (one.name, one.suffixes.now) (other.name, other.suffixes.now))
    → IfSome answer (λ a. (left right : Part) → (found_of known e).part ≡ Some left → (found_of known f).part ≡ Some right → a ≡ are_equivalent left.typ right.typ)
answered known e f one other (Some a) first second compared = λ left right l r.
    ∥∥₁_elim compared (Bool-set a (are_equivalent left.typ right.typ)) (λ x.
    let p : left.typ ≡ x.0 = part_agreed x.0 known e left (first known x.0 x.2) l in
    let q : right.typ ≡ x.1 = part_agreed x.1 known f right (second known x.1 x.3) r in
    subst (λ t. a ≡ are_equivalent t right.typ) (sym p) (subst (λ t. a ≡ are_equivalent x.0 t) (sym q) (by x.0 x.1 x.4.0 x.4.1)))
  where
    by : (s t : FirType) → (a ≡ true → ∥ Equivalent s t ∥₁) → (∥ Equivalent s t ∥₁ → a ≡ true) → a ≡ are_equivalent s t
    by s t yes_so so_yes = same_answer {P = ∥ Equivalent s t ∥₁} a (are_equivalent s t) yes_so so_yes (λ h. ∣ is_equivalent s t h ∣₁)
        (λ k. ∥∥₁_elim k (Bool-set (are_equivalent s t) true) (λ q. yes q))
answered known e f one other None first second compared = tt {0}
