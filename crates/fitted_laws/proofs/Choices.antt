-- An expression whose widths have no fault chooses by one bit.
use Rattle.std.proofs.Common.{◌≡◌, suc, Bool, true, ◌&&◌, List, [], ◌∷◌, ◌++◌, map, length, Option, Some, None, refl, sym, ap, ap₂, ◌∙◌, subst, arith}
use Rattle.std.specs.Prelude.{nat_eq}
use Rattle.std.specs.List.{list_all, flat_map}
use Rattle.std.proofs.lemmas.Bool.{eqb-true}
use Rattle.std.proofs.lemmas.List.Concat.{flat_map-append}
use Rattle.place_text.specs.declared.place.Place.{Place}
use Rattle.fir_types.specs.declared.name.Name.{Name}
use Rattle.prim_ops.specs.declared.widths.Width.{Width}
use Rattle.fir_tree.specs.declared.expr.Expr.{Expr, ind-Expr}
use Rattle.fir_tree.specs.declared.expr.Form.{Form, fold-Form}
use Rattle.fir_tree.specs.declared.expr.Suffix.{Suffix, fold-Suffix}
use Rattle.fir_tree.specs.declared.expr.Form.TheOpen.{Form-F, Suffix-F, Expr-F}
use Rattle.fir_tree.specs.declared.expr.Form.TheFolds.{map-Form, map-Suffix, map-Expr, fold-roll-Form, fold-roll-Suffix, fold-roll-Expr}
use Rattle.fir_tree.specs.declared.expr.Form.TheViews.{roll-Form, roll-Suffix, roll-Expr}
use Rattle.fir_tree.specs.declared.part.Part.{Part}
use Rattle.fir_tree.specs.declared.part.Flow.{Flow}
use Rattle.fir_tree.specs.Kinds.{is_unsigned}
use Rattle.type_check.specs.declared.fault.TypeFault.TheVariants.{ConditionKind}
use Rattle.type_check.specs.Parts as check
use Rattle.type_check.specs.Parts.{unless}
use Rattle.type_check.specs.Expressions as checking
use Rattle.type_check.specs.Expressions.{Judgement, Judged, Operand, judged, found_of, along, over, typed_operands, with_operand}
use Rattle.width_rules.specs.declared.rule.Formula.{Formula}
use Rattle.width_fit.specs.declared.fault.WidthFault.{WidthFault}
use Rattle.width_fit.specs.Judging as judging
use Rattle.width_fit.specs.Judging.{Survey, survey}
use Rattle.fir_meaning.specs.WellTyped as typing
use Rattle.fir_meaning.specs.WellTyped.{Known, InKnown, Onward, typed}
use Rattle.fir_names.specs.Extents as extents
use Rattle.fir_names.specs.Extents.{references}
use Rattle.circuit_laws.specs.Names.{Every}
use Rattle.circuit_laws.proofs.Alone.{every-left, every-right}
use Rattle.fitted_laws.specs.Shaped as shaping
use Rattle.fitted_laws.specs.Shaped.{is_shaped, all_are}
use Rattle.fitted_laws.specs.OneBit.{one_bit}
use Rattle.fitted_laws.specs.Choices as choosing
use Rattle.fitted_laws.specs.Choices.{Chosen, ChosenStep, chosen, chooses, first_is_one_bit}
use Rattle.fitted_laws.proofs.Signs.{unsigned_is}
use Rattle.fitted_laws.proofs.Steps.{left_empty, right_empty}
use Rattle.fitted_laws.proofs.Expressions.{TKnown, WKnown, Knows, Filled, Allows, IsIn, IsFound, expr_found, unless_true, where_false, not_true, and_left, and_right}
use Rattle.fitted_laws.proofs.OneBit.{filled_one_bit}

abbrev form_typed : Form → InKnown
form_typed = fold-Form InKnown Onward InKnown typing.of_form typing.of_suffix typing.of_expr

abbrev suffix_typed : Suffix → Onward
suffix_typed = fold-Suffix InKnown Onward InKnown typing.of_form typing.of_suffix typing.of_expr

abbrev form_chosen : Form → Chosen
form_chosen = fold-Form Chosen ChosenStep Chosen choosing.of_form choosing.of_suffix choosing.of_expr

abbrev suffix_chosen : Suffix → ChosenStep
suffix_chosen = fold-Suffix Chosen ChosenStep Chosen choosing.of_form choosing.of_suffix choosing.of_expr

-- The kinds and widths are those of the meaning.

abbrev FormSame : Form → Type 0
FormSame φ = (form_chosen φ).shapes ≡ form_typed φ

abbrev SuffixSame : Suffix → Type 0
SuffixSame s = (suffix_chosen s).onward ≡ suffix_typed s

abbrev ExprSame : Expr → Type 0
ExprSame e = (chosen e).shapes ≡ typed e

same_steps : (ps : List ((s : Suffix) × SuffixSame s)) → map (λ (s : ChosenStep). s.onward) (map suffix_chosen (map (λ e. e.0) ps)) ≡ map suffix_typed (map (λ e. e.0) ps)
same_steps [] = refl
same_steps (p ∷ ps) = ap₂ (λ x xs. x ∷ xs) p.1 (same_steps ps)

same_operands : (ps : List ((e : Expr) × ExprSame e)) → map (λ (c : Chosen). c.shapes) (map chosen (map (λ e. e.0) ps)) ≡ map typed (map (λ e. e.0) ps)
same_operands [] = refl
same_operands (p ∷ ps) = ap₂ (λ x xs. x ∷ xs) p.1 (same_operands ps)

form_same_at : (z : Form-F Form Suffix Expr)
    → (choosing.of_form (map-Form Form Suffix Expr Chosen ChosenStep Chosen form_chosen suffix_chosen chosen z)).shapes ≡ typing.of_form (map-Form Form Suffix Expr InKnown Onward InKnown form_typed suffix_typed typed z)
    → FormSame (roll-Form z)
form_same_at z h = ap (λ (c : Chosen). c.shapes) (fold-roll-Form Chosen ChosenStep Chosen choosing.of_form choosing.of_suffix choosing.of_expr z)
    ∙ h ∙ sym (fold-roll-Form InKnown Onward InKnown typing.of_form typing.of_suffix typing.of_expr z)

form_same : (y : Form-F ((φ : Form) × FormSame φ) ((s : Suffix) × SuffixSame s) ((e : Expr) × ExprSame e)) → FormSame (roll-Form (map-Form _ _ _ Form Suffix Expr (λ e. e.0) (λ e. e.0) (λ e. e.0) y))
form_same (Form-F.Ref name ps) = form_same_at (Form-F.Ref name (map (λ e. e.0) ps)) (ap (λ l. typing.of_form (Form-F.Ref name l)) (same_steps ps))
form_same (Form-F.Literal kind width n) = form_same_at (Form-F.Literal kind width n) refl
form_same (Form-F.Prim prim ps params) = form_same_at (Form-F.Prim prim (map (λ e. e.0) ps) params) (ap (λ l. typing.of_form (Form-F.Prim prim l params)) (same_operands ps))
form_same (Form-F.Mux ps) = form_same_at (Form-F.Mux (map (λ e. e.0) ps)) (ap (λ l. typing.of_form (Form-F.Mux l)) (same_operands ps))

suffix_same_at : (z : Suffix-F Form Suffix Expr)
    → (choosing.of_suffix (map-Suffix Form Suffix Expr Chosen ChosenStep Chosen form_chosen suffix_chosen chosen z)).onward ≡ typing.of_suffix (map-Suffix Form Suffix Expr InKnown Onward InKnown form_typed suffix_typed typed z)
    → SuffixSame (roll-Suffix z)
suffix_same_at z h = ap (λ (c : ChosenStep). c.onward) (fold-roll-Suffix Chosen ChosenStep Chosen choosing.of_form choosing.of_suffix choosing.of_expr z)
    ∙ h ∙ sym (fold-roll-Suffix InKnown Onward InKnown typing.of_form typing.of_suffix typing.of_expr z)

suffix_same : (y : Suffix-F ((φ : Form) × FormSame φ) ((s : Suffix) × SuffixSame s) ((e : Expr) × ExprSame e)) → SuffixSame (roll-Suffix (map-Suffix _ _ _ Form Suffix Expr (λ e. e.0) (λ e. e.0) (λ e. e.0) y))
suffix_same (Suffix-F.Field name) = suffix_same_at (Suffix-F.Field name) refl
suffix_same (Suffix-F.At bracket place n) = suffix_same_at (Suffix-F.At bracket place n) refl
suffix_same (Suffix-F.Index bracket p) = suffix_same_at (Suffix-F.Index bracket p.0) (ap (λ x. typing.of_suffix (Suffix-F.Index bracket x)) p.1)

expr_same_at : (z : Expr-F Form Suffix Expr) → FormSame z.form → ExprSame (roll-Expr z)
expr_same_at z h = ap (λ (c : Chosen). c.shapes) (fold-roll-Expr Chosen ChosenStep Chosen choosing.of_form choosing.of_suffix choosing.of_expr z)
    ∙ h ∙ sym (fold-roll-Expr InKnown Onward InKnown typing.of_form typing.of_suffix typing.of_expr z)

pub chosen_typed : (e : Expr) → ExprSame e
chosen_typed = ind-Expr FormSame SuffixSame ExprSame
    (λ x y is. subst (λ z. FormSame (roll-Form z)) is (form_same y))
    (λ x y is. subst (λ z. SuffixSame (roll-Suffix z)) is (suffix_same y))
    (λ x y is. subst (λ z. ExprSame (roll-Expr z)) is (expr_same_at (map-Expr _ _ _ Form Suffix Expr (λ e. e.0) (λ e. e.0) (λ e. e.0) y) y.form.1))

module _ (Q : Flow → Formula → Type 0) (allows : Allows Q) (ws : List Width) (tk : TKnown) (wk : WKnown) (knows : Knows Q tk wk) (K : Known) (fits : Filled ws wk K) where
  abbrev form_judged : Form → Place → TKnown → Judgement
  form_judged = fold-Form (Place → TKnown → Judgement) checking.Step Judged checking.of_form checking.of_suffix checking.of_expr

  abbrev form_survey : Form → Place → judging.Among
  form_survey = fold-Form (Place → judging.Among) judging.Step judging.Among (judging.of_form ws) judging.of_suffix judging.of_expr

  abbrev form_names : Form → List Name
  form_names = fold-Form (List Name) (List Name) (List Name) extents.of_form extents.of_suffix extents.of_expr

  abbrev form_shaped : Form → Bool
  form_shaped = fold-Form Bool Bool Bool shaping.of_form shaping.of_suffix shaping.of_expr

  abbrev suffix_shaped : Suffix → Bool
  suffix_shaped = fold-Suffix Bool Bool Bool shaping.of_form shaping.of_suffix shaping.of_expr

  abbrev index_faults : judging.Step → List WidthFault
  index_faults step = flat_map (λ (s : Survey). s.faults) (step.index wk)

  abbrev Named : List Name → Type 0
  Named = Every Name (IsIn tk)

  abbrev FormSmall : Form → Type 0
  FormSmall φ = (place : Place) → Named (form_names φ) → (form_judged φ place tk).faults ≡ [] → form_shaped φ ≡ true → (form_survey φ place wk).faults ≡ [] → (form_chosen φ).small K ≡ true

  abbrev SuffixSmall : Suffix → Type 0
  SuffixSmall s = (base : Option Part) → Named (extents.suffix_references s) → (checking.suffix_step s tk base).faults ≡ [] → suffix_shaped s ≡ true → index_faults (judging.suffix_step ws s) ≡ [] → (suffix_chosen s).small K ≡ true

  abbrev ExprSmall : Expr → Type 0
  ExprSmall e = Named (references e) → (found_of tk e).faults ≡ [] → is_shaped e ≡ true → (survey ws e wk).faults ≡ [] → chooses K e ≡ true

  -- Steps

  suffix_at : (z : Suffix-F Form Suffix Expr)
      → ((base : Option Part) → Named (extents.of_suffix (map-Suffix Form Suffix Expr (List Name) (List Name) (List Name) form_names extents.suffix_references references z))
      → (checking.of_suffix (map-Suffix Form Suffix Expr (Place → TKnown → Judgement) checking.Step Judged form_judged checking.suffix_step judged z) tk base).faults ≡ []
      → shaping.of_suffix (map-Suffix Form Suffix Expr Bool Bool Bool form_shaped suffix_shaped is_shaped z) ≡ true
      → index_faults (judging.of_suffix (map-Suffix Form Suffix Expr (Place → judging.Among) judging.Step judging.Among form_survey (judging.suffix_step ws) (survey ws) z)) ≡ []
      → (choosing.of_suffix (map-Suffix Form Suffix Expr Chosen ChosenStep Chosen form_chosen suffix_chosen chosen z)).small K ≡ true)
      → SuffixSmall (roll-Suffix z)
  suffix_at z h base names e shape none =
      let r = fold-roll-Suffix (List Name) (List Name) (List Name) extents.of_form extents.of_suffix extents.of_expr z in
      let b = fold-roll-Suffix Bool Bool Bool shaping.of_form shaping.of_suffix shaping.of_expr z in
      let j = fold-roll-Suffix (Place → TKnown → Judgement) checking.Step Judged checking.of_form checking.of_suffix checking.of_expr z in
      let s = fold-roll-Suffix (Place → judging.Among) judging.Step judging.Among (judging.of_form ws) judging.of_suffix judging.of_expr z in
      ap (λ (c : ChosenStep). c.small K) (fold-roll-Suffix Chosen ChosenStep Chosen choosing.of_form choosing.of_suffix choosing.of_expr z)
      ∙ h base (subst Named r names) (ap (λ f. (f tk base).faults) (sym j) ∙ e) (sym b ∙ shape) (ap index_faults (sym s) ∙ none)

  suffix_case : (y : Suffix-F ((φ : Form) × FormSmall φ) ((s : Suffix) × SuffixSmall s) ((e : Expr) × ExprSmall e))
      → SuffixSmall (roll-Suffix (map-Suffix _ _ _ Form Suffix Expr (λ e. e.0) (λ e. e.0) (λ e. e.0) y))
  suffix_case (Suffix-F.Field name) = suffix_at (Suffix-F.Field name) (λ base names e shape none. refl)
  suffix_case (Suffix-F.At bracket place n) = suffix_at (Suffix-F.At bracket place n) (λ base names e shape none. refl)
  suffix_case (Suffix-F.Index bracket p) = suffix_at (Suffix-F.Index bracket p.0) (λ base names e shape none.
      p.1 names (left_empty (found_of tk p.0).faults _ e) shape (left_empty (survey ws p.0 wk).faults [] none))

  abbrev steps_faults : List Suffix → List WidthFault
  steps_faults ss = flat_map (λ (s : Survey). s.faults) (flat_map (λ (step : judging.Step). step.index wk) (map (judging.suffix_step ws) ss))

  steps_small : (ps : List ((s : Suffix) × SuffixSmall s)) (base : Option Part) → Named (flat_map (λ names. names) (map extents.suffix_references (map (λ e. e.0) ps)))
      → (along (map checking.suffix_step (map (λ e. e.0) ps)) tk base).faults ≡ [] → all_are (map suffix_shaped (map (λ e. e.0) ps)) ≡ true → steps_faults (map (λ e. e.0) ps) ≡ []
      → list_all (λ (step : ChosenStep). step.small K) (map suffix_chosen (map (λ e. e.0) ps)) ≡ true
  steps_small [] base names e shape none = refl
  steps_small (p ∷ ps) base names e shape none =
      let ss : List Suffix = map (λ e. e.0) ps in
      let first : Judgement = checking.suffix_step p.0 tk base in
      let split : index_faults (judging.suffix_step ws p.0) ++ steps_faults ss ≡ []
      = sym (flat_map-append (λ (s : Survey). s.faults) ((judging.suffix_step ws p.0).index wk) (flat_map (λ (step : judging.Step). step.index wk) (map (judging.suffix_step ws) ss))) ∙ none in
      ap₂ (λ a b. a && b)
      (p.1 base (every-left Name (IsIn tk) (extents.suffix_references p.0) _ names) (left_empty first.faults _ e) (and_left (suffix_shaped p.0) (all_are (map suffix_shaped ss)) shape) (left_empty _ _ split))
      (steps_small ps first.part (every-right Name (IsIn tk) (extents.suffix_references p.0) _ names) (right_empty first.faults _ e) (and_right (suffix_shaped p.0) (all_are (map suffix_shaped ss)) shape) (right_empty _ _ split))

  -- Operands

  abbrev judged_all : List Expr → List Judged
  judged_all es = map judged es

  abbrev found_all : List Expr → List Judgement
  found_all es = map (λ (e : Judged). e.among tk) (judged_all es)

  abbrev all_surveys : List Expr → List Survey
  all_surveys es = map (λ (e : judging.Among). e wk) (map (survey ws) es)

  operands_small : (ps : List ((e : Expr) × ExprSmall e)) → Named (flat_map (λ names. names) (map references (map (λ e. e.0) ps)))
      → flat_map (λ (j : Judgement). j.faults) (found_all (map (λ e. e.0) ps)) ≡ [] → all_are (map is_shaped (map (λ e. e.0) ps)) ≡ true
      → flat_map (λ (s : Survey). s.faults) (all_surveys (map (λ e. e.0) ps)) ≡ []
      → list_all (λ (operand : Chosen). operand.small K) (map chosen (map (λ e. e.0) ps)) ≡ true
  operands_small [] names e shape none = refl
  operands_small (p ∷ ps) names e shape none =
      let rest : Bool = all_are (map is_shaped (map (λ e. e.0) ps)) in
      ap₂ (λ a b. a && b)
      (p.1 (every-left Name (IsIn tk) (references p.0) _ names) (left_empty (found_of tk p.0).faults _ e) (and_left (is_shaped p.0) rest shape) (left_empty (survey ws p.0 wk).faults _ none))
      (operands_small ps (every-right Name (IsIn tk) (references p.0) _ names) (right_empty (found_of tk p.0).faults _ e) (and_right (is_shaped p.0) rest shape) (right_empty (survey ws p.0 wk).faults _ none))

  below_over : (place : Place) (rule : List Judgement → List Operand → Judgement) (js : List Judgement) (o : Option (List Operand))
      → ((os : List Operand) → (rule js os).faults ≡ [] → flat_map (λ (j : Judgement). j.faults) js ≡ []) → (over place rule js o).faults ≡ [] → flat_map (λ (j : Judgement). j.faults) js ≡ []
  below_over place rule js (Some os) h e = h os e
  below_over place rule js None h e = e

  below_choice : (place : Place) (js : List Judgement) (os : List Operand) → (checking.choice place js os).faults ≡ [] → flat_map (λ (j : Judgement). j.faults) js ≡ []
  below_choice place js [] h = h
  below_choice place js (x ∷ []) h = h
  below_choice place js (x ∷ y ∷ []) h = h
  below_choice place js (x ∷ y ∷ z ∷ []) h = left_empty (flat_map (λ (j : Judgement). j.faults) js) _ h
  below_choice place js (x ∷ y ∷ z ∷ w ∷ os) h = h

  -- the condition of a choice
  abbrev Found : Expr → Part → Type 0
  Found e part = IsFound Q allows ws tk wk knows (found_of tk e) (survey ws e wk) (typed e) part

  condition_unsigned : (place : Place) (a b c : Expr) (x y z : Part) → Found a x → Found b y → Found c z
      → (over place (checking.choice place) (found_all (a ∷ b ∷ c ∷ [])) (typed_operands tk (judged_all (a ∷ b ∷ c ∷ [])))).faults ≡ [] → is_unsigned x.typ ≡ true
  condition_unsigned place a b c x y z f g h e =
      let js : List Judgement = found_all (a ∷ b ∷ c ∷ []) in
      let last : typed_operands tk (judged_all (c ∷ [])) ≡ Some (record { place = (judged c).place; typ = z.typ } ∷ []) = ap (λ o. with_operand o (judged c).place (Some [])) h.found in
      let more : typed_operands tk (judged_all (b ∷ c ∷ [])) ≡ Some (record { place = (judged b).place; typ = y.typ } ∷ record { place = (judged c).place; typ = z.typ } ∷ [])
      = ap₂ (λ o rest. with_operand o (judged b).place rest) g.found last in
      let all : typed_operands tk (judged_all (a ∷ b ∷ c ∷ []))
      ≡ Some (record { place = (judged a).place; typ = x.typ } ∷ record { place = (judged b).place; typ = y.typ } ∷ record { place = (judged c).place; typ = z.typ } ∷ [])
      = ap₂ (λ o rest. with_operand o (judged a).place rest) f.found more in
      unless_true _ _ (left_empty (unless (is_unsigned x.typ) (ConditionKind (judged a).place)) _
      (right_empty (flat_map (λ (j : Judgement). j.faults) js) _ (ap (λ o. (over place (checking.choice place) js o).faults) (sym all) ∙ e)))

  mux_small : (place : Place) (ps : List ((e : Expr) × ExprSmall e)) → Named (flat_map (λ names. names) (map references (map (λ e. e.0) ps)))
      → (over place (checking.choice place) (found_all (map (λ e. e.0) ps)) (typed_operands tk (judged_all (map (λ e. e.0) ps)))).faults ≡ []
      → all_are (map is_shaped (map (λ e. e.0) ps)) ≡ true → nat_eq (length (map is_shaped (map (λ e. e.0) ps))) 3 ≡ true
      → flat_map (λ (s : Survey). s.faults) (all_surveys (map (λ e. e.0) ps)) ≡ [] → judging.choice_faults ws (all_surveys (map (λ e. e.0) ps)) ≡ []
      → (first_is_one_bit K (map chosen (map (λ e. e.0) ps)) && list_all (λ (operand : Chosen). operand.small K) (map chosen (map (λ e. e.0) ps))) ≡ true
  mux_small place [] names e shape three none own = cc
  mux_small place (a ∷ []) names e shape three none own = cc
  mux_small place (a ∷ b ∷ []) names e shape three none own = cc
  mux_small place (a ∷ b ∷ c ∷ d ∷ ps) names e shape three none own = absurd (let h : suc (suc (suc (suc (length (map is_shaped (map (λ e. e.0) ps)))))) ≡ 3 = eqb-true _ 3 three in omega (arith, h))
  mux_small place (a ∷ b ∷ c ∷ []) names e shape three none own =
      let js : List Judgement = found_all (a.0 ∷ b.0 ∷ c.0 ∷ []) in
      let below : flat_map (λ (j : Judgement). j.faults) js ≡ [] = below_over place (checking.choice place) js (typed_operands tk (judged_all (a.0 ∷ b.0 ∷ c.0 ∷ []))) (below_choice place js) e in
      let names2 = every-right Name (IsIn tk) (references a.0) _ names in
      let below2 = right_empty (found_of tk a.0).faults _ below in
      let shape2 = and_right (is_shaped a.0) _ shape in
      let ra = expr_found Q allows ws tk wk knows a.0 (every-left Name (IsIn tk) (references a.0) _ names) (left_empty (found_of tk a.0).faults _ below) (and_left (is_shaped a.0) _ shape) in
      let rb = expr_found Q allows ws tk wk knows b.0 (every-left Name (IsIn tk) (references b.0) _ names2) (left_empty (found_of tk b.0).faults _ below2) (and_left (is_shaped b.0) _ shape2) in
      let rc = expr_found Q allows ws tk wk knows c.0 (every-left Name (IsIn tk) (references c.0) [] (every-right Name (IsIn tk) (references b.0) _ names2))
      (left_empty (found_of tk c.0).faults [] (right_empty (found_of tk b.0).faults _ below2)) (and_left (is_shaped c.0) true (and_right (is_shaped b.0) _ shape2)) in
      let u : is_unsigned ra.0.typ ≡ true = condition_unsigned place a.0 b.0 c.0 ra.0 rb.0 rc.0 ra.1 rb.1 rc.1 e in
      let small = not_true _ (where_false _ _ own) in
      let bit : one_bit ((chosen a.0).shapes K) ≡ true = ap (λ (f : InKnown). one_bit (f K)) (chosen_typed a.0)
      ∙ ap one_bit (ra.1.typed_is K fits (left_empty (survey ws a.0 wk).faults _ none)) ∙ filled_one_bit ws (survey ws a.0 wk).measured ra.0.typ (unsigned_is ra.0.typ u) small in
      ap₂ (λ x y. x && y) bit (operands_small (a ∷ b ∷ c ∷ []) names below shape none)

  -- All expressions

  form_at : (z : Form-F Form Suffix Expr)
      → ((place : Place) → Named (extents.of_form (map-Form Form Suffix Expr (List Name) (List Name) (List Name) form_names extents.suffix_references references z))
      → (checking.of_form (map-Form Form Suffix Expr (Place → TKnown → Judgement) checking.Step Judged form_judged checking.suffix_step judged z) place tk).faults ≡ []
      → shaping.of_form (map-Form Form Suffix Expr Bool Bool Bool form_shaped suffix_shaped is_shaped z) ≡ true
      → (judging.of_form ws (map-Form Form Suffix Expr (Place → judging.Among) judging.Step judging.Among form_survey (judging.suffix_step ws) (survey ws) z) place wk).faults ≡ []
      → (choosing.of_form (map-Form Form Suffix Expr Chosen ChosenStep Chosen form_chosen suffix_chosen chosen z)).small K ≡ true)
      → FormSmall (roll-Form z)
  form_at z h place names e shape none =
      let r = fold-roll-Form (List Name) (List Name) (List Name) extents.of_form extents.of_suffix extents.of_expr z in
      let b = fold-roll-Form Bool Bool Bool shaping.of_form shaping.of_suffix shaping.of_expr z in
      let j = fold-roll-Form (Place → TKnown → Judgement) checking.Step Judged checking.of_form checking.of_suffix checking.of_expr z in
      let s = fold-roll-Form (Place → judging.Among) judging.Step judging.Among (judging.of_form ws) judging.of_suffix judging.of_expr z in
      ap (λ (c : Chosen). c.small K) (fold-roll-Form Chosen ChosenStep Chosen choosing.of_form choosing.of_suffix choosing.of_expr z)
      ∙ h place (subst Named r names) (ap (λ f. (f place tk).faults) (sym j) ∙ e) (sym b ∙ shape) (ap (λ f. (f place wk).faults) (sym s) ∙ none)

  form_case : (y : Form-F ((φ : Form) × FormSmall φ) ((s : Suffix) × SuffixSmall s) ((e : Expr) × ExprSmall e))
      → FormSmall (roll-Form (map-Form _ _ _ Form Suffix Expr (λ e. e.0) (λ e. e.0) (λ e. e.0) y))
  form_case (Form-F.Ref name ps) = form_at (Form-F.Ref name (map (λ e. e.0) ps)) (λ place names e shape none.
      steps_small ps (check.component tk name.id) names.1 e shape (left_empty (steps_faults (map (λ e. e.0) ps)) _ none))
  form_case (Form-F.Literal kind width n) = form_at (Form-F.Literal kind width n) (λ place names e shape none. refl)
  form_case (Form-F.Prim prim ps params) = form_at (Form-F.Prim prim (map (λ e. e.0) ps) params) (λ place names e shape none.
      let es : List Expr = map (λ e. e.0) ps in
      let below = below_over place (checking.operation prim place) (found_all es) (typed_operands tk (judged_all es)) (λ os h. left_empty (flat_map (λ (j : Judgement). j.faults) (found_all es)) _ h) e in
      operands_small ps names below (and_left (all_are (map is_shaped es)) _ shape) (left_empty (flat_map (λ (s : Survey). s.faults) (all_surveys es)) _ none))
  form_case (Form-F.Mux ps) = form_at (Form-F.Mux (map (λ e. e.0) ps)) (λ place names e shape none.
      let es : List Expr = map (λ e. e.0) ps in
      mux_small place ps names e (and_left (all_are (map is_shaped es)) _ shape) (and_right (all_are (map is_shaped es)) _ shape)
      (left_empty (flat_map (λ (s : Survey). s.faults) (all_surveys es)) _ none) (right_empty _ (judging.choice_faults ws (all_surveys es)) (right_empty (flat_map (λ (s : Survey). s.faults) (all_surveys es)) _ none)))

  expr_case : (y : Expr-F ((φ : Form) × FormSmall φ) ((s : Suffix) × SuffixSmall s) ((e : Expr) × ExprSmall e))
      → ExprSmall (roll-Expr (map-Expr _ _ _ Form Suffix Expr (λ e. e.0) (λ e. e.0) (λ e. e.0) y))
  expr_case y names e shape none =
      let z : Expr-F Form Suffix Expr = map-Expr _ _ _ Form Suffix Expr (λ e. e.0) (λ e. e.0) (λ e. e.0) y in
      let r = fold-roll-Expr (List Name) (List Name) (List Name) extents.of_form extents.of_suffix extents.of_expr z in
      let b = fold-roll-Expr Bool Bool Bool shaping.of_form shaping.of_suffix shaping.of_expr z in
      let j = fold-roll-Expr (Place → TKnown → Judgement) checking.Step Judged checking.of_form checking.of_suffix checking.of_expr z in
      let s = fold-roll-Expr (Place → judging.Among) judging.Step judging.Among (judging.of_form ws) judging.of_suffix judging.of_expr z in
      ap (λ (c : Chosen). c.small K) (fold-roll-Expr Chosen ChosenStep Chosen choosing.of_form choosing.of_suffix choosing.of_expr z)
      ∙ y.form.1 y.place (subst Named r names) (ap (λ (f : Judged). (f.among tk).faults) (sym j) ∙ e) (sym b ∙ shape) (ap (λ (f : judging.Among). (f wk).faults) (sym s) ∙ none)

  pub expr_small : (e : Expr) → ExprSmall e
  expr_small = ind-Expr FormSmall SuffixSmall ExprSmall
      (λ x y is. subst (λ z. FormSmall (roll-Form z)) is (form_case y))
      (λ x y is. subst (λ z. SuffixSmall (roll-Suffix z)) is (suffix_case y))
      (λ x y is. subst (λ z. ExprSmall (roll-Expr z)) is (expr_case y))
