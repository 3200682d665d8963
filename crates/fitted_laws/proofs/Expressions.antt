-- An expression without faults of types has a type, the rules measure the places of that type, and where its widths have no fault it is
-- well typed with the type that its widths fill.
use Rattle.std.proofs.Common.{◌≡◌, ℕ, suc, ◌+◌, ◌≤◌, Bool, true, false, not, cond, ◌&&◌, ◌||◌, if◌then◌else◌, List, [], ◌∷◌, ◌++◌, map, zip, length, Option, Some, None, refl, sym, ap, ap₂, ◌∙◌, subst, arith, ◌⊎◌, inl, inr}
use Rattle.std.specs.Prelude.{⊤, option_map, option_and_then, is_some, nat_lt, nat_le, nat_eq, slice_index}
use Rattle.std.specs.List.{flat_map, list_any}
use Rattle.std.specs.Map.{lookup}
use Rattle.std.proofs.lemmas.Bool.{leb-true, lt-ltb, eqb-true, eq-eqb}
use Rattle.std.proofs.lemmas.List.{length-map}
use Rattle.std.proofs.lemmas.Simd.{map-map}
use Rattle.std.proofs.lemmas.List.Concat.{flat_map-append}
use Rattle.std.proofs.lemmas.Grind.{common_steps}
use Rattle.place_text.specs.declared.place.Place.{Place}
use Rattle.bit_words.specs.declared.value.Kind.{Kind}
use Rattle.bit_words.specs.declared.value.Kind.TheVariants.{Unsigned, Signed}
use Rattle.bit_words.specs.declared.number.Number.{Number}
use Rattle.bit_words.specs.Numbers.{integer_of_number}
use Rattle.fir_types.specs.declared.fir_type.FirType.{FirType, the_lemmas}
use Rattle.fir_types.specs.declared.fir_type.Shape.TheVariants as shape
use Rattle.fir_types.specs.declared.fir_type.Shape.TheViews.{out-Shape}
use Rattle.fir_types.specs.declared.name.Name.{Name}
use Rattle.fir_types.specs.Equivalence.{Equivalent, a_uint, a_sint}
use Rattle.prim_ops.specs.declared.operation.PrimOp.{PrimOp}
use Rattle.prim_ops.specs.declared.operation.PrimOp.TheVariants as op
use Rattle.prim_ops.specs.Operations.{arity_of}
use Rattle.prim_ops.specs.Kinds.{row_kind}
use Rattle.prim_ops.specs.Widths.{width_number, numbers_of, bounded, of_numbers, row_width}
use Rattle.prim_ops.specs.declared.widths.Width.{Width}
use Rattle.prim_ops.specs.declared.widths.Width.TheVariants.{Bits, Over}
use Rattle.fir_tree.specs.declared.expr.Expr.{Expr, ind-Expr, the_lemmas as expr_lemmas}
use Rattle.fir_tree.specs.declared.expr.Form.{Form, fold-Form}
use Rattle.fir_tree.specs.declared.expr.Suffix.{Suffix, fold-Suffix, ind-Suffix}
use Rattle.fir_tree.specs.declared.expr.Form.TheOpen.{Form-F, Suffix-F, Expr-F}
use Rattle.fir_tree.specs.declared.expr.Form.TheFolds.{map-Form, map-Suffix, map-Expr, fold-roll-Form, fold-roll-Suffix, fold-roll-Expr}
use Rattle.fir_tree.specs.declared.expr.Form.TheViews.{roll-Form, roll-Suffix, roll-Expr, out-Form}
use Rattle.fir_tree.specs.declared.part.Part.{Part}
use Rattle.fir_tree.specs.declared.part.Flow.{Flow}
use Rattle.fir_tree.specs.declared.part.Flow.TheVariants.{Source}
use Rattle.fir_tree.specs.Parts.{part_of, source_of, flow_through}
use Rattle.fir_types.specs.Leaves.{leaves}
use Rattle.fir_tree.specs.Kinds.{sign_of, is_unsigned, ground, sign_or_unsigned}
use Rattle.type_check.specs.declared.fault.TypeFault.{TypeFault}
use Rattle.type_check.specs.declared.fault.TypeFault.TheVariants.{OperandKind, ConditionKind, NotPassive, LiteralFit}
use Rattle.type_check.specs.Parts as check
use Rattle.type_check.specs.Parts.{unless, when, typed_without}
use Rattle.type_check.specs.Texts.{twice_in, has_signal, is_passive, are_equivalent}
use Rattle.type_check.specs.Expressions as checking
use Rattle.type_check.specs.Expressions.{Judgement, Judged, Operand, judged, found_of, along, behind, as_node, type_or_none, node, fits_literal, typed_operands, with_operand, signs_of, with_sign, sign_for, result_type, row_of, over, from_index, indexed, element_found}
use Rattle.width_rules.specs.declared.component.Component.{Component}
use Rattle.width_rules.specs.declared.slot.Slot.{Slot}
use Rattle.width_rules.specs.declared.rule.Formula.{Formula}
use Rattle.width_rules.specs.declared.rule.Formula.TheVariants as formula
use Rattle.width_rules.specs.Formulas.{width_under}
use Rattle.width_rules.specs.Places.{capped, Spot, one_spot, spots, size, node_spots}
use Rattle.width_rules.specs.Sources as sources
use Rattle.width_rules.specs.Sources.{Measured, formula_of, lone, kind_of, operation_formula, greater_of, component, component_or_none, named, measured_reference, element_step}
use Rattle.width_rules.proofs.Rows.{row_arity}
use Rattle.width_rules.proofs.Capped.{width-capped}
use Rattle.width_rules.proofs.FormulaLemmas.{width-Op, width-Greatest}
use Rattle.width_rules.proofs.Bounds.{Each}
use Rattle.width_fit.specs.declared.fault.WidthFault.{WidthFault}
use Rattle.width_fit.specs.declared.fault.WidthFault.TheVariants.{ParameterRange}
use Rattle.type_filling.specs.Filling.{filled}
use Rattle.width_fit.specs.Judging as judging
use Rattle.width_fit.specs.Judging.{Survey, survey, surveyed, slot_width, widths_of, is_over, where_, lone_width, fit_width, parameter_faults, choice_faults}
use Rattle.prim_ops.specs.Shapes as rows
use Rattle.prim_ops.specs.Shapes.{Shape, shaped, all_of, is_row, params_fit, width_of_row, shape_of_row}
use Rattle.fir_meaning.specs.Values as meaning
use Rattle.fir_meaning.specs.Values.{field_of_shape, element_of_shape, vector_length}
use Rattle.fir_meaning.specs.WellTyped as typing
use Rattle.fir_meaning.specs.WellTyped.{Known, InKnown, Onward, typed, type_behind, named_type, named_in_form, is_one_unsigned, chosen_shapes, literal_shape, wider_each}
use Rattle.fir_names.specs.Extents as extents
use Rattle.fir_names.specs.Extents.{references}
use Rattle.fir_names.proofs.Graphs.{some_same}
use Rattle.circuit_laws.specs.Names.{Every}
use Rattle.circuit_laws.proofs.Alone.{every-left, every-right}
use Rattle.circuit_laws.proofs.Pieces.{mapped_some}
use Rattle.fitted_laws.specs.Shaped as shaping
use Rattle.fitted_laws.specs.Shaped.{is_shaped, all_are}
use Rattle.fitted_laws.proofs.Filling.{leaf_shapes, first_width, filled_unsigned, filled_signed, async_shapes, IsNumber, bigger, wider_filled, size_alike, unsigned_size, signed_size, size-async}
use Rattle.type_check.proofs.Equivalence.{is_equivalent}
use Rattle.fitted_laws.proofs.Asyncs.{OneSlots, OneWidth, OneWidths, one_widths, unsigned_node, signed_node, node-async, given_in, given_alike}
use Rattle.fitted_laws.proofs.Signs.{unsigned_is, IsNumberType, a_natural, an_integer, number_is, TakesType, a_number, an_async, takes_type, kind_taken}
use Rattle.fitted_laws.proofs.Steps.{left_empty, right_empty, Placed, IsGood, IsVector, field_step, vector_of}
use Rattle.fitted_laws.proofs.Literals.{same_least}

-- Answers

pub unless_true : (b : Bool) (fault : TypeFault) → unless b fault ≡ [] → b ≡ true
unless_true true fault e = refl
unless_true false fault e = cc

pub where_false : (b : Bool) (fault : WidthFault) → where_ b fault ≡ [] → b ≡ false
where_false true fault e = cc
where_false false fault e = refl

pub not_true : (b : Bool) → not b ≡ false → b ≡ true
not_true true e = refl
not_true false e = cc

pub and_left : (a b : Bool) → (a && b) ≡ true → a ≡ true
and_left true b e = refl
and_left false b e = cc

pub and_right : (a b : Bool) → (a && b) ≡ true → b ≡ true
and_right true b e = e
and_right false b e = cc

pub some_is : {X : Type 0} (o : Option X) → is_some o ≡ true → (x : X) × (o ≡ Some x)
some_is None e = cc
some_is (Some x) e = (x, refl)

typed_without_none : (faults : List TypeFault) (typ : FirType) → faults ≡ [] → typed_without faults typ ≡ Some typ
typed_without_none [] typ e = refl
typed_without_none (f ∷ faults) typ e = cc

pub none_over : (ws : List Width) → list_any is_over ws ≡ false → Each IsNumber ws
none_over [] e = tt
none_over (Bits n ∷ ws) e = (tt, none_over ws e)
none_over (Over ∷ ws) e = cc

bounded_number : (n : ℕ) → IsNumber (bounded n) → (bounded n ≡ Bits n) × (nat_le n 128 ≡ true)
bounded_number n h = by (nat_le n 128) refl h where
  by : (b : Bool) → nat_le n 128 ≡ b → IsNumber (if b then Bits n else Over) → ((if nat_le n 128 then Bits n else Over) ≡ Bits n) × (nat_le n 128 ≡ true)
  by true q i = (ap (λ b. if b then Bits n else Over) q, q)
  by false q i = absurd i

abbrev pub TKnown : Type 0
TKnown = check.Known

abbrev pub WKnown : Type 0
WKnown = sources.Known

-- The type check and the rules know the same components, and each stands.
pub record Knows (Q : Flow → Formula → Type 0) (tk : TKnown) (wk : WKnown) : Type 0 where
  pub same : (name : ℕ) → check.component tk name ≡ option_map (λ sized. sized.part) (lookup (nat_eq name) wk)
  pub good : (name : ℕ) (sized : Component) → lookup (nat_eq name) wk ≡ Some sized → IsGood Q sized

-- the components have the filled types
abbrev pub Filled : List Width → WKnown → Known → Type 0
Filled ws wk K = (name : ℕ) (sized : Component) → lookup (nat_eq name) wk ≡ Some sized → K name ≡ Some (filled sized.part.typ (map (slot_width ws) sized.slots))

-- the type check knows the name
abbrev pub IsIn : TKnown → Name → Type 0
IsIn tk name = is_some (check.component tk name.id) ≡ true

-- formulas that are no variables
pub record Allows (Q : Flow → Formula → Type 0) : Type 0 where
  pub fixed : (flow : Flow) (n : ℕ) → Q flow (formula.Fixed n)
  pub op : (flow : Flow) (prim : PrimOp) (kinds : List Kind) (parts : List Formula) (params : List ℕ) → Q flow (formula.Op prim kinds parts params)
  pub most : (flow : Flow) (parts : List Formula) → Q flow (formula.Greatest parts)

-- the parameters fit by both definitions
fits_same : (prim : PrimOp) (w a b : ℕ) → judging.fit_on prim w a b ≡ true → rows.fit_on prim w a b ≡ true
fits_same op.Bits w a b h =
    ap₂ (λ x y. x && y) (and_left (nat_le b a) (nat_le (a + 1) w) h)
    (lt-ltb a w (let k : a + 1 ≤ w = leb-true (a + 1) w (and_right (nat_le b a) (nat_le (a + 1) w) h) in omega (arith, k)))
fits_same op.Head w a b h = h
fits_same op.Tail w a b h = h
fits_same _ w a b h = refl

-- An expression names nothing, or what it names has the type.
abbrev pub NamesType : Option FirType → FirType → Type 0
NamesType named typ = (named ≡ None) ⊎ (named ≡ Some typ)

module _ (Q : Flow → Formula → Type 0) (allows : Allows Q) (ws : List Width) (tk : TKnown) (wk : WKnown) (knows : Knows Q tk wk) where
  -- what is found of an expression
  pub record IsFound (j : Judgement) (s : Survey) (t : InKnown) (part : Part) : Type 0 where
    pub found : j.part ≡ Some part
    pub measured : s.measured.part ≡ part
    pub counted : length s.measured.formulas ≡ size part.typ
    pub once : twice_in part.typ ≡ []
    pub placed : Placed Q part.flow (spots part.typ) s.measured.formulas
    pub numbers : s.faults ≡ [] → Each IsNumber (widths_of ws s.measured)
    pub ones : s.faults ≡ [] → OneWidths (node_spots part.typ) (widths_of ws s.measured)
    pub typed_is : (K : Known) → Filled ws wk K → s.faults ≡ [] → t K ≡ Some (leaf_shapes (filled part.typ (widths_of ws s.measured)))

  abbrev form_judged : Form → Place → TKnown → Judgement
  form_judged = fold-Form (Place → TKnown → Judgement) checking.Step Judged checking.of_form checking.of_suffix checking.of_expr

  abbrev form_survey : Form → Place → judging.Among
  form_survey = fold-Form (Place → judging.Among) judging.Step judging.Among (judging.of_form ws) judging.of_suffix judging.of_expr

  abbrev form_typed : Form → InKnown
  form_typed = fold-Form InKnown Onward InKnown typing.of_form typing.of_suffix typing.of_expr

  abbrev suffix_typed : Suffix → Onward
  suffix_typed = fold-Suffix InKnown Onward InKnown typing.of_form typing.of_suffix typing.of_expr

  abbrev form_names : Form → List Name
  form_names = fold-Form (List Name) (List Name) (List Name) extents.of_form extents.of_suffix extents.of_expr

  abbrev form_shaped : Form → Bool
  form_shaped = fold-Form Bool Bool Bool shaping.of_form shaping.of_suffix shaping.of_expr

  abbrev suffix_shaped : Suffix → Bool
  suffix_shaped = fold-Suffix Bool Bool Bool shaping.of_form shaping.of_suffix shaping.of_expr

  abbrev FormIs : Form → Type 0
  FormIs φ = (place : Place) → Every Name (IsIn tk) (form_names φ) → (form_judged φ place tk).faults ≡ [] → form_shaped φ ≡ true
      → (part : Part) × IsFound (form_judged φ place tk) (form_survey φ place wk) (form_typed φ) part

  abbrev ExprIs : Expr → Type 0
  ExprIs e = Every Name (IsIn tk) (references e) → (found_of tk e).faults ≡ [] → is_shaped e ≡ true
      → (part : Part) × IsFound (found_of tk e) (survey ws e wk) (typed e) part

  abbrev index_faults : judging.Step → List WidthFault
  index_faults step = flat_map (λ (s : Survey). s.faults) (step.index wk)

  pub record IsStepFound (j : Judgement) (step : judging.Step) (onward : Onward) (sized : Component) (next : Part) : Type 0 where
    pub found : j.part ≡ Some next
    pub part_is : (step.to sized).part ≡ next
    pub good : IsGood Q (step.to sized)
    pub typed_is : (K : Known) → Filled ws wk K → index_faults step ≡ []
        → onward K (filled sized.part.typ (map (slot_width ws) sized.slots)) ≡ Some (filled next.typ (map (slot_width ws) (step.to sized).slots))

  abbrev SuffixIs : Suffix → Type 0
  SuffixIs s = Every Name (IsIn tk) (extents.suffix_references s) → suffix_shaped s ≡ true → (sized : Component) → IsGood Q sized → (checking.suffix_step s tk (Some sized.part)).faults ≡ []
      → (next : Part) × IsStepFound (checking.suffix_step s tk (Some sized.part)) (judging.suffix_step ws s) (suffix_typed s) sized next

  -- Steps

  suffix_at : (z : Suffix-F Form Suffix Expr)
      → (Every Name (IsIn tk) (extents.of_suffix (map-Suffix Form Suffix Expr (List Name) (List Name) (List Name) form_names extents.suffix_references references z))
      → shaping.of_suffix (map-Suffix Form Suffix Expr Bool Bool Bool form_shaped suffix_shaped is_shaped z) ≡ true → (sized : Component) → IsGood Q sized
      → (checking.of_suffix (map-Suffix Form Suffix Expr (Place → TKnown → Judgement) checking.Step Judged form_judged checking.suffix_step judged z) tk (Some sized.part)).faults ≡ []
      → (next : Part) × IsStepFound (checking.of_suffix (map-Suffix Form Suffix Expr (Place → TKnown → Judgement) checking.Step Judged form_judged checking.suffix_step judged z) tk (Some sized.part))
      (judging.of_suffix (map-Suffix Form Suffix Expr (Place → judging.Among) judging.Step judging.Among form_survey (judging.suffix_step ws) (survey ws) z))
      (typing.of_suffix (map-Suffix Form Suffix Expr InKnown Onward InKnown form_typed suffix_typed typed z)) sized next)
      → SuffixIs (roll-Suffix z)
  suffix_at z h names shape sized good e =
      let r = fold-roll-Suffix (List Name) (List Name) (List Name) extents.of_form extents.of_suffix extents.of_expr z in
      let b = fold-roll-Suffix Bool Bool Bool shaping.of_form shaping.of_suffix shaping.of_expr z in
      let j = fold-roll-Suffix (Place → TKnown → Judgement) checking.Step Judged checking.of_form checking.of_suffix checking.of_expr z in
      let s = fold-roll-Suffix (Place → judging.Among) judging.Step judging.Among (judging.of_form ws) judging.of_suffix judging.of_expr z in
      let t = fold-roll-Suffix InKnown Onward InKnown typing.of_form typing.of_suffix typing.of_expr z in
      let found = h (subst (Every Name (IsIn tk)) r names) (sym b ∙ shape) sized good (ap (λ f. (f tk (Some sized.part)).faults) (sym j) ∙ e) in (
        found.0,
        subst (λ f. IsStepFound (f tk (Some sized.part)) (judging.suffix_step ws (roll-Suffix z)) (suffix_typed (roll-Suffix z)) sized found.0) (sym j)
            (subst (λ f. IsStepFound (checking.of_suffix (map-Suffix Form Suffix Expr (Place → TKnown → Judgement) checking.Step Judged form_judged checking.suffix_step judged z) tk (Some sized.part)) f (suffix_typed (roll-Suffix z)) sized found.0) (sym s)
            (subst (λ f. IsStepFound (checking.of_suffix (map-Suffix Form Suffix Expr (Place → TKnown → Judgement) checking.Step Judged form_judged checking.suffix_step judged z) tk (Some sized.part))
            (judging.of_suffix (map-Suffix Form Suffix Expr (Place → judging.Among) judging.Step judging.Among form_survey (judging.suffix_step ws) (survey ws) z)) f sized found.0) (sym t) found.1)),
      )

  element_in_range : (base : Part) (element : FirType) (b : Bool) (at : Place) → (element_found base element b at).faults ≡ [] → (b ≡ true) × ((element_found base element b at).part ≡ Some (part_of element base.flow))
  element_in_range base element true at e = (refl, refl)
  element_in_range base element false at e = cc

  index_unsigned : (at : Place) (base : Part) (element : FirType) (b : Bool) → (indexed at base element b).faults ≡ [] → (b ≡ true) × ((indexed at base element b).part ≡ Some (part_of element base.flow))
  index_unsigned at base element true e = (refl, refl)
  index_unsigned at base element false e = cc

  at_found : (bracket at : Place) (n : ℕ) (sized : Component) → IsGood Q sized → (checking.element_step bracket at n sized.part (out-Shape sized.part.typ.shape)).faults ≡ []
      → (next : Part) × IsStepFound (checking.element_step bracket at n sized.part (out-Shape sized.part.typ.shape)) (record { to = element_step; index = λ known. [] })
      (λ K typ. if nat_lt n (vector_length typ) then element_of_shape (out-Shape typ.shape) else None) sized next
  at_found bracket at n sized good e =
      let v : IsVector Q ws sized = vector_of Q ws sized good (checking.element_step bracket at n sized.part) e (λ w f. let g = f in cc) (λ w f. let g = f in cc) (λ f. let g = f in cc) (λ f. let g = f in cc) (λ f. let g = f in cc) (λ fs f. let g = f in cc) in
      let inside = element_in_range sized.part v.element (nat_lt n v.length') at (ap (λ s. (checking.element_step bracket at n sized.part s).faults) (sym v.out) ∙ e) in (
        part_of v.element sized.part.flow,
        record {
          found = ap (λ s. (checking.element_step bracket at n sized.part s).part) v.out ∙ inside.1;
          part_is = v.part_is;
          good = v.good;
          typed_is = λ K fits none. ap (λ b. cond b (element_of_shape (out-Shape (filled sized.part.typ (map (slot_width ws) sized.slots)).shape)) None) (ap (nat_lt n) v.counted ∙ inside.0) ∙ v.typed;
        },
      )

  one_unsigned : (t : FirType) (vs : List Width) → is_unsigned t ≡ true → leaf_shapes (filled t vs) ≡ shaped Unsigned (first_width vs) ∷ []
  one_unsigned t vs u = filled_unsigned (unsigned_is t u) vs

  index_found : (bracket : Place) (e : Expr) (ip : Part) → IsFound (found_of tk e) (survey ws e wk) (typed e) ip → (sized : Component) → IsGood Q sized
      → (checking.index_step bracket (judged e).place ip sized.part (out-Shape sized.part.typ.shape)).faults ≡ []
      → (next : Part) × IsStepFound (behind (found_of tk e) (from_index bracket (judged e).place (Some ip) (Some sized.part))) (record { to = element_step; index = λ known. survey ws e known ∷ [] })
      (λ K typ. if is_one_unsigned (typed e K) then element_of_shape (out-Shape typ.shape) else None) sized next
  index_found bracket e ip f sized good h =
      let v : IsVector Q ws sized = vector_of Q ws sized good (checking.index_step bracket (judged e).place ip sized.part) h (λ w f. let g = f in cc) (λ w f. let g = f in cc) (λ f. let g = f in cc) (λ f. let g = f in cc) (λ f. let g = f in cc) (λ fs f. let g = f in cc) in
      let kind = index_unsigned (judged e).place sized.part v.element (is_unsigned ip.typ) (ap (λ s. (checking.index_step bracket (judged e).place ip sized.part s).faults) (sym v.out) ∙ h) in (
        part_of v.element sized.part.flow,
        record {
          found = ap (λ s. (checking.index_step bracket (judged e).place ip sized.part s).part) v.out ∙ kind.1;
          part_is = v.part_is;
          good = v.good;
          typed_is = λ K fits none.
              let is : typed e K ≡ Some (shaped Unsigned (first_width (widths_of ws (survey ws e wk).measured)) ∷ []) = f.typed_is K fits (left_empty _ [] none) ∙ ap Some (one_unsigned ip.typ _ kind.0) in
              ap (λ o. cond (is_one_unsigned o) (element_of_shape (out-Shape (filled sized.part.typ (map (slot_width ws) sized.slots)).shape)) None) is ∙ v.typed;
        },
      )

  suffix_case : (y : Suffix-F ((φ : Form) × FormIs φ) ((s : Suffix) × SuffixIs s) ((e : Expr) × ExprIs e))
      → SuffixIs (roll-Suffix (map-Suffix _ _ _ Form Suffix Expr (λ e. e.0) (λ e. e.0) (λ e. e.0) y))
  suffix_case (Suffix-F.Field name) = suffix_at (Suffix-F.Field name) (λ names shape sized good e.
      let r = field_step Q ws sized name good e in
      (r.0, record { found = r.1.found; part_is = r.1.part_is; good = r.1.good; typed_is = λ K fits none. r.1.typed }))
  suffix_case (Suffix-F.At bracket at n) = suffix_at (Suffix-F.At bracket at n) (λ names shape sized good e. at_found bracket at n sized good e)
  suffix_case (Suffix-F.Index bracket p) = suffix_at (Suffix-F.Index bracket p.0) (λ names shape sized good e.
      let own = left_empty (found_of tk p.0).faults _ e in
      let f = p.1 names own shape in
      let h : (from_index bracket (judged p.0).place (Some f.0) (Some sized.part)).faults ≡ []
      = ap (λ o. (from_index bracket (judged p.0).place o (Some sized.part)).faults) (sym f.1.found) ∙ right_empty (found_of tk p.0).faults _ e in
      let r = index_found bracket p.0 f.0 f.1 sized good h in
      let q : behind (found_of tk p.0) (from_index bracket (judged p.0).place (Some f.0) (Some sized.part)) ≡ behind (found_of tk p.0) (from_index bracket (judged p.0).place (found_of tk p.0).part (Some sized.part))
      = ap (λ o. behind (found_of tk p.0) (from_index bracket (judged p.0).place o (Some sized.part))) (sym f.1.found) in
      (r.0, subst (λ j. IsStepFound j (record { to = element_step; index = λ known. survey ws p.0 known ∷ [] }) (λ K typ. if is_one_unsigned (typed p.0 K) then element_of_shape (out-Shape typ.shape) else None) sized r.0) q r.1))

  -- References

  abbrev steps_to : List Suffix → List (Component → Component)
  steps_to ss = map (λ (step : judging.Step). step.to) (map (judging.suffix_step ws) ss)

  abbrev steps_faults : List Suffix → List WidthFault
  steps_faults ss = flat_map (λ (s : Survey). s.faults) (flat_map (λ (step : judging.Step). step.index wk) (map (judging.suffix_step ws) ss))

  faults-append : (xs ys : List Survey) → flat_map (λ (s : Survey). s.faults) (xs ++ ys) ≡ flat_map (λ (s : Survey). s.faults) xs ++ flat_map (λ (s : Survey). s.faults) ys
  faults-append xs ys = flat_map-append (λ (s : Survey). s.faults) xs ys

  record AreSteps (ss : List Suffix) (sized : Component) (next : Part) : Type 0 where
    pub found : (along (map checking.suffix_step ss) tk (Some sized.part)).part ≡ Some next
    pub part_is : (named (steps_to ss) sized).part ≡ next
    pub good : IsGood Q (named (steps_to ss) sized)
    pub typed_is : (K : Known) → Filled ws wk K → steps_faults ss ≡ []
        → type_behind K (map suffix_typed ss) (Some (filled sized.part.typ (map (slot_width ws) sized.slots))) ≡ Some (filled next.typ (map (slot_width ws) (named (steps_to ss) sized).slots))

  steps_found : (ps : List ((s : Suffix) × SuffixIs s)) (sized : Component) → IsGood Q sized → Every Name (IsIn tk) (flat_map (λ names. names) (map extents.suffix_references (map (λ e. e.0) ps)))
      → all_are (map suffix_shaped (map (λ e. e.0) ps)) ≡ true → (along (map checking.suffix_step (map (λ e. e.0) ps)) tk (Some sized.part)).faults ≡ []
      → (next : Part) × AreSteps (map (λ e. e.0) ps) sized next
  steps_found [] sized good names shape e = (sized.part, record { found = refl; part_is = refl; good = good; typed_is = λ K fits none. refl })
  steps_found (p ∷ ps) sized good names shape e =
      let ss : List Suffix = map (λ e. e.0) ps in
      let first : Judgement = checking.suffix_step p.0 tk (Some sized.part) in
      let one = p.1 (every-left Name (IsIn tk) (extents.suffix_references p.0) _ names) (and_left (suffix_shaped p.0) (all_are (map suffix_shaped ss)) shape) sized good (left_empty first.faults _ e) in
      let to : Component = (judging.suffix_step ws p.0).to sized in
      let here : first.part ≡ Some to.part = one.1.found ∙ ap Some (sym one.1.part_is) in
      let more : (along (map checking.suffix_step ss) tk (Some to.part)).faults ≡ [] = ap (λ o. (along (map checking.suffix_step ss) tk o).faults) (sym here) ∙ right_empty first.faults _ e in
      let rest = steps_found ps to one.1.good (every-right Name (IsIn tk) (extents.suffix_references p.0) _ names) (and_right (suffix_shaped p.0) (all_are (map suffix_shaped ss)) shape) more in (
        rest.0,
        record {
          found = ap (λ o. (along (map checking.suffix_step ss) tk o).part) here ∙ rest.1.found;
          part_is = rest.1.part_is;
          good = rest.1.good;
          typed_is = λ K fits none.
              let split : index_faults (judging.suffix_step ws p.0) ++ steps_faults ss ≡ []
              = sym (faults-append ((judging.suffix_step ws p.0).index wk) (flat_map (λ (step : judging.Step). step.index wk) (map (judging.suffix_step ws) ss))) ∙ none in
              ap (type_behind K (map suffix_typed ss)) (one.1.typed_is K fits (left_empty _ _ split))
              ∙ ap (λ (q : Part). type_behind K (map suffix_typed ss) (Some (filled q.typ (map (slot_width ws) to.slots)))) (sym one.1.part_is)
              ∙ rest.1.typed_is K fits (right_empty _ _ split);
        },
      )

  formulas_widths : (slots : List Slot) → map (λ f. width_under f ws) (map formula_of slots) ≡ map (slot_width ws) slots
  formulas_widths slots = map-map (λ f. width_under f ws) formula_of slots

  reference_found : (name : Name) (place : Place) (ps : List ((s : Suffix) × SuffixIs s)) → Every Name (IsIn tk) (name ∷ flat_map (λ names. names) (map extents.suffix_references (map (λ e. e.0) ps)))
      → (as_node place (along (map checking.suffix_step (map (λ e. e.0) ps)) tk (check.component tk name.id))).faults ≡ [] → all_are (map suffix_shaped (map (λ e. e.0) ps)) ≡ true
      → (part : Part) × IsFound (as_node place (along (map checking.suffix_step (map (λ e. e.0) ps)) tk (check.component tk name.id)))
      (surveyed ws place (measured_reference (named (steps_to (map (λ e. e.0) ps)) (component wk name.id))) [] (flat_map (λ (step : judging.Step). step.index wk) (map (judging.suffix_step ws) (map (λ e. e.0) ps))))
      (λ K. option_map (λ typ. map typing.leaf_shape (leaves typ)) (type_behind K (map suffix_typed (map (λ e. e.0) ps)) (K name.id))) part
  reference_found name place ps names e shape =
      let ss : List Suffix = map (λ e. e.0) ps in
      let there' = some_is (check.component tk name.id) names.0 in
      let one = mapped_some (λ (sized : Component). sized.part) (lookup (nat_eq name.id) wk) there'.0 (sym (knows.same name.id) ∙ there'.1) in
      let sized : Component = one.0 in
      let known : check.component tk name.id ≡ Some sized.part = there'.1 ∙ ap Some (sym one.2) in
      let known_w : component wk name.id ≡ sized = ap component_or_none one.1 in
      let r = steps_found ps sized (knows.good name.id sized one.1) names.1 shape (ap (λ o. (along (map checking.suffix_step ss) tk o).faults) (sym known) ∙ e) in
      let last : Component = named (steps_to ss) sized in
      let surveys : List Survey = flat_map (λ (step : judging.Step). step.index wk) (map (judging.suffix_step ws) ss) in
      let widths : map (λ f. width_under f ws) (map formula_of last.slots) ≡ map (slot_width ws) last.slots = formulas_widths last.slots in (
        r.0,
        subst (λ c. IsFound (as_node place (along (map checking.suffix_step ss) tk (check.component tk name.id))) (surveyed ws place (measured_reference (named (steps_to ss) c)) [] surveys)
            (λ K. option_map (λ typ. map typing.leaf_shape (leaves typ)) (type_behind K (map suffix_typed ss) (K name.id))) r.0) (sym known_w) (record {
              found = ap (λ o. (along (map checking.suffix_step ss) tk o).part) known ∙ r.1.found;
              measured = r.1.part_is;
              counted = length-map last.slots formula_of ∙ r.1.good.counted ∙ ap (λ (p : Part). size p.typ) r.1.part_is;
              once = subst (λ (p : Part). twice_in p.typ ≡ []) r.1.part_is r.1.good.once;
              placed = subst (λ (p : Part). Placed Q p.flow (spots p.typ) (map formula_of last.slots)) r.1.part_is r.1.good.placed;
              numbers = λ none. none_over (widths_of ws (measured_reference last)) (where_false _ _ (left_empty _ [] (right_empty (flat_map (λ (s : Survey). s.faults) surveys) _ none)));
              ones = λ none. subst (OneWidths (node_spots r.0.typ)) (sym widths)
                  (one_widths ws (node_spots r.0.typ) last.slots (subst (λ (p : Part). OneSlots (node_spots p.typ) last.slots) r.1.part_is r.1.good.ones));
              typed_is = λ K fits none.
                  ap (λ o. option_map (λ typ. map typing.leaf_shape (leaves typ)) (type_behind K (map suffix_typed ss) o)) (fits name.id sized one.1)
                  ∙ ap (option_map (λ typ. map typing.leaf_shape (leaves typ))) (r.1.typed_is K fits (left_empty (flat_map (λ (s : Survey). s.faults) surveys) _ none))
                  ∙ ap (λ vs. Some (leaf_shapes (filled r.0.typ vs))) (sym widths);
            }),
      )

  -- Literals

  literal_widths : (kind : Kind) (width : Option ℕ) (number : Number) (place : Place) → Each IsNumber (widths_of ws (judging.measured_literal kind width number place))
      → (widths_of ws (judging.measured_literal kind width number place) ≡ Bits (sources.literal_bits kind (integer_of_number number) width) ∷ [])
      × (nat_le (sources.literal_bits kind (integer_of_number number) width) 128 ≡ true)
  literal_widths kind width number place h =
      let n : ℕ = sources.literal_bits kind (integer_of_number number) width in
      let b = bounded_number n (subst IsNumber (width-capped n ws) h.0) in
      (ap (λ w. w ∷ []) (width-capped n ws ∙ b.0), b.1)

  ground_shapes : (place : Place) (kind : Kind) (width : Option ℕ) (w : ℕ) → leaf_shapes (filled (ground place kind width) (Bits w ∷ [])) ≡ shaped kind w ∷ []
  ground_shapes place Unsigned width w = filled_unsigned (a_uint width refl) (Bits w ∷ [])
  ground_shapes place Signed width w = filled_signed (a_sint width refl) (Bits w ∷ [])

  ground_size : (place : Place) (kind : Kind) (width : Option ℕ) → size (ground place kind width) ≡ 1
  ground_size place Unsigned width = unsigned_size (a_uint width refl)
  ground_size place Signed width = signed_size (a_sint width refl)

  ground_once : (place : Place) (kind : Kind) (width : Option ℕ) → twice_in (ground place kind width) ≡ []
  ground_once place Unsigned width = grind (arith, common_steps, the_lemmas)
  ground_once place Signed width = grind (arith, common_steps, the_lemmas)

  ground_free : (place : Place) (kind : Kind) (width : Option ℕ) → node_spots (ground place kind width) ≡ one_spot None
  ground_free place Unsigned width = unsigned_node (a_uint width refl)
  ground_free place Signed width = signed_node (a_sint width refl)

  one_placed : (flow : Flow) (t : FirType) (f : Formula) → ((through : Flow) → Q through f) → Placed Q flow (spots t) (f ∷ [])
  one_placed flow t f h = by (spots t) where
    by : (ss : List Spot) → Placed Q flow ss (f ∷ [])
    by [] = tt
    by (s ∷ []) = (h (flow_through s.flip flow), tt)
    by (s ∷ t ∷ ss) = (h (flow_through s.flip flow), tt)

  literal_found : (kind : Kind) (width : Option ℕ) (number : Number) (place : Place) → (node place (unless (fits_literal kind width (integer_of_number number)) (LiteralFit place)) (ground place kind width) []).faults ≡ []
      → (part : Part) × IsFound (node place (unless (fits_literal kind width (integer_of_number number)) (LiteralFit place)) (ground place kind width) [])
      (surveyed ws place (judging.measured_literal kind width number place) [] [])
      (λ K. literal_shape (shaped kind (meaning.literal_width kind (integer_of_number number) width))) part
  literal_found kind width number place e =
      let n : ℕ = sources.literal_bits kind (integer_of_number number) width in
      let typ : FirType = ground place kind width in
      let m : Measured = judging.measured_literal kind width number place in
      let nums : (surveyed ws place m [] []).faults ≡ [] → Each IsNumber (widths_of ws m) = λ none. none_over (widths_of ws m) (where_false _ _ (left_empty _ [] none)) in (
        source_of typ,
        record {
          found = ap (option_map source_of) (typed_without_none _ typ e);
          measured = refl;
          counted = sym (ground_size place kind width);
          once = ground_once place kind width;
          placed = one_placed Source typ (formula.Fixed (capped n)) (λ through. allows.fixed through (capped n));
          numbers = nums;
          ones = λ none. subst (λ ss. OneWidths ss (widths_of ws m)) (sym (ground_free place kind width)) (tt, tt);
          typed_is = λ K fits none.
              let w = literal_widths kind width number place (nums none) in
              let same : meaning.literal_width kind (integer_of_number number) width ≡ n
              = same_least kind width (integer_of_number number) (unless_true _ _ e) (leb-true n 128 w.1) in
              ap (λ x. literal_shape (shaped kind x)) same ∙ ap (λ b. cond b (Some (shaped kind n ∷ [])) None) w.1
              ∙ ap Some (sym (ground_shapes place kind width n)) ∙ ap (λ vs. Some (leaf_shapes (filled typ vs))) (sym w.0);
        },
      )

  -- Operations

  -- each operand has a type
  abbrev AreFound : List ((e : Expr) × ExprIs e) → List Part → Type 0
  AreFound [] [] = ⊤
  AreFound [] (q ∷ qs) = ⊥
  AreFound (p ∷ ps) [] = ⊥
  AreFound (p ∷ ps) (q ∷ qs) = IsFound (found_of tk p.0) (survey ws p.0 wk) (typed p.0) q × AreFound ps qs

  abbrev judged_all : List Expr → List Judged
  judged_all es = map judged es

  abbrev operands_of : List Expr → List Part → List Operand
  operands_of [] qs = []
  operands_of (e ∷ es) [] = []
  operands_of (e ∷ es) (q ∷ qs) = record { place = (judged e).place; typ = q.typ } ∷ operands_of es qs

  all_found : (ps : List ((e : Expr) × ExprIs e)) → Every Name (IsIn tk) (flat_map (λ names. names) (map references (map (λ e. e.0) ps)))
      → flat_map (λ (j : Judgement). j.faults) (map (λ (e : Judged). e.among tk) (judged_all (map (λ e. e.0) ps))) ≡ [] → all_are (map is_shaped (map (λ e. e.0) ps)) ≡ true
      → (parts : List Part) × AreFound ps parts
  all_found [] names e shape = ([], tt)
  all_found (p ∷ ps) names e shape =
      let one = p.1 (every-left Name (IsIn tk) (references p.0) _ names) (left_empty (found_of tk p.0).faults _ e) (and_left (is_shaped p.0) (all_are (map is_shaped (map (λ e. e.0) ps))) shape) in
      let rest = all_found ps (every-right Name (IsIn tk) (references p.0) _ names) (right_empty (found_of tk p.0).faults _ e) (and_right (is_shaped p.0) (all_are (map is_shaped (map (λ e. e.0) ps))) shape) in
      (one.0 ∷ rest.0, (one.1, rest.1))

  operands_typed : (ps : List ((e : Expr) × ExprIs e)) (qs : List Part) → AreFound ps qs → typed_operands tk (judged_all (map (λ e. e.0) ps)) ≡ Some (operands_of (map (λ e. e.0) ps) qs)
  operands_typed [] [] f = refl
  operands_typed [] (q ∷ qs) f = absurd f
  operands_typed (p ∷ ps) [] f = absurd f
  operands_typed (p ∷ ps) (q ∷ qs) f = ap₂ (λ o rest. with_operand o (judged p.0).place rest) f.0.found (operands_typed ps qs f.1)

  -- the kinds of the parts that an operation takes
  abbrev HaveKinds : PrimOp → List Part → List Kind → Type 0
  HaveKinds prim [] [] = ⊤
  HaveKinds prim [] (k ∷ ks) = ⊥
  HaveKinds prim (q ∷ qs) [] = ⊥
  HaveKinds prim (q ∷ qs) (k ∷ ks) = TakesType q.typ k × HaveKinds prim qs ks

  signs_have : (prim : PrimOp) (ps : List ((e : Expr) × ExprIs e)) (qs : List Part) → AreFound ps qs → (ks : List Kind) → signs_of prim (operands_of (map (λ e. e.0) ps) qs) ≡ Some ks → HaveKinds prim qs ks
  signs_have prim [] [] f [] e = tt
  signs_have prim [] [] f (k ∷ ks) e = cc
  signs_have prim [] (q ∷ qs) f ks e = absurd f
  signs_have prim (p ∷ ps) [] f ks e = absurd f
  signs_have prim (p ∷ ps) (q ∷ qs) f ks e = by (sign_for prim q.typ) refl (signs_of prim (operands_of (map (λ e. e.0) ps) qs)) refl ks e (signs_have prim ps qs f.1) where
    by : (o : Option Kind) → sign_for prim q.typ ≡ o → (r : Option (List Kind)) → signs_of prim (operands_of (map (λ e. e.0) ps) qs) ≡ r → (ks : List Kind) → with_sign o r ≡ Some ks
        → ((ks : List Kind) → signs_of prim (operands_of (map (λ e. e.0) ps) qs) ≡ Some ks → HaveKinds prim qs ks) → HaveKinds prim (q ∷ qs) ks
    by None s r t ks e rest = cc
    by (Some k) s None t ks e rest = cc
    by (Some k) s (Some more) t [] e rest = absurd (let g : k ∷ more ≡ [] = some_same e in cc)
    by (Some k) s (Some more) t (k' ∷ ks) e rest =
        let g : k ∷ more ≡ k' ∷ ks = some_same e in
        let a : k ≡ k' = cc in
        let b : more ≡ ks = cc in
        (takes_type prim q.typ k' (s ∙ ap Some a), rest ks (t ∙ ap Some b))

  signs_some : (prim : PrimOp) (o : Option (List Kind)) → is_some (row_of prim o) ≡ true → (ks : List Kind) × (o ≡ Some ks) × (k : Kind) × (row_kind prim ks ≡ Some k)
  signs_some prim None e = cc
  signs_some prim (Some ks) e = let r = some_is (row_kind prim ks) e in (ks, refl, r.0, r.1)

  abbrev all_surveys : List Expr → List Survey
  all_surveys es = map (λ (e : judging.Among). e wk) (map (survey ws) es)

  kinds_measured : (prim : PrimOp) (ps : List ((e : Expr) × ExprIs e)) (qs : List Part) (ks : List Kind) → AreFound ps qs → HaveKinds prim qs ks
      → map kind_of (map (λ (s : Survey). s.measured) (all_surveys (map (λ e. e.0) ps))) ≡ ks
  kinds_measured prim [] [] [] f h = refl
  kinds_measured prim [] [] (k ∷ ks) f h = absurd h
  kinds_measured prim [] (q ∷ qs) ks f h = absurd f
  kinds_measured prim (p ∷ ps) [] ks f h = absurd f
  kinds_measured prim (p ∷ ps) (q ∷ qs) [] f h = absurd h
  kinds_measured prim (p ∷ ps) (q ∷ qs) (k ∷ ks) f h =
      ap₂ (λ x xs. x ∷ xs) (ap (λ (part : Part). sign_or_unsigned (sign_of part.typ)) f.0.measured ∙ kind_taken q.typ k h.0) (kinds_measured prim ps qs ks f.1 h.1)

  -- the widths of operands, each a number
  number_of_one : (us : List Width) → length us ≡ 1 → Each IsNumber us → us ≡ Bits (first_width us) ∷ []
  number_of_one [] e h = absurd (omega (arith, e))
  number_of_one (Bits n ∷ []) e h = refl
  number_of_one (Over ∷ us) e h = absurd h.0
  number_of_one (Bits n ∷ u ∷ us) e h = absurd (omega (arith, e))

  lone_of : (m : Measured) (n : ℕ) → widths_of ws m ≡ Bits n ∷ [] → width_under (lone m.formulas) ws ≡ Bits n
  lone_of m n e = by m.formulas e where
    by : (fs : List Formula) → map (λ f. width_under f ws) fs ≡ Bits n ∷ [] → width_under (lone fs) ws ≡ Bits n
    by [] e = cc
    by (f ∷ fs) e = cc

  kind_size : (t : FirType) (k : Kind) → TakesType t k → size t ≡ 1
  kind_size t Unsigned (a_number (a_natural u)) = unsigned_size u
  kind_size t Signed (a_number (an_integer s)) = signed_size s
  kind_size t Unsigned (an_async e) = size-async t e

  -- the one width of an AsyncReset is 1
  one_first : (vs : List Width) → OneWidths (one_spot (Some 1)) vs → first_width vs ≡ 1
  one_first [] h = absurd h
  one_first (v ∷ []) h = ap (λ w. first_width (w ∷ [])) h.0
  one_first (v ∷ w ∷ vs) h = absurd h.1

  kind_shapes : (t : FirType) (k : Kind) → TakesType t k → (vs : List Width) → OneWidths (node_spots t) vs → leaf_shapes (filled t vs) ≡ shaped k (first_width vs) ∷ []
  kind_shapes t Unsigned (a_number (a_natural u)) vs h = filled_unsigned u vs
  kind_shapes t Signed (a_number (an_integer s)) vs h = filled_signed s vs
  kind_shapes t Unsigned (an_async e) vs h = async_shapes t e vs ∙ ap (λ w. shaped Unsigned w ∷ []) (sym (one_first vs (subst (λ ss. OneWidths ss vs) (node-async t e) h)))

  abbrev widths_all : List Expr → List ℕ
  widths_all es = map (λ (s : Survey). first_width (widths_of ws s.measured)) (all_surveys es)

  abbrev shapes_all : List Kind → List ℕ → List Shape
  shapes_all [] ns = []
  shapes_all (k ∷ ks) [] = []
  shapes_all (k ∷ ks) (n ∷ ns) = shaped k n ∷ shapes_all ks ns

  record OperandsNumbered (ps : List ((e : Expr) × ExprIs e)) (ks : List Kind) : Type 0 where
    pub numbers : map (λ f. width_under f ws) (map (λ (m : Measured). lone m.formulas) (map (λ (s : Survey). s.measured) (all_surveys (map (λ e. e.0) ps)))) ≡ map Bits (widths_all (map (λ e. e.0) ps))
    pub counted : length (widths_all (map (λ e. e.0) ps)) ≡ length ks

  abbrev OperandsTyped : List ((e : Expr) × ExprIs e) → List Kind → Known → Type 0
  OperandsTyped ps ks K = all_of (map (λ operand. typing.lone_shape (operand K)) (map typed (map (λ e. e.0) ps))) ≡ Some (shapes_all ks (widths_all (map (λ e. e.0) ps)))

  operand_number : (p : (e : Expr) × ExprIs e) (q : Part) (k : Kind) → IsFound (found_of tk p.0) (survey ws p.0 wk) (typed p.0) q → TakesType q.typ k → (survey ws p.0 wk).faults ≡ []
      → widths_of ws (survey ws p.0 wk).measured ≡ Bits (first_width (widths_of ws (survey ws p.0 wk).measured)) ∷ []
  operand_number p q k f h none =
      number_of_one (widths_of ws (survey ws p.0 wk).measured)
      (length-map (survey ws p.0 wk).measured.formulas (λ f. width_under f ws) ∙ f.counted ∙ kind_size q.typ k h) (f.numbers none)

  operands_numbered : (prim : PrimOp) (ps : List ((e : Expr) × ExprIs e)) (qs : List Part) (ks : List Kind) → AreFound ps qs → HaveKinds prim qs ks
      → flat_map (λ (s : Survey). s.faults) (all_surveys (map (λ e. e.0) ps)) ≡ [] → OperandsNumbered ps ks
  operands_numbered prim [] [] [] f h none = record { numbers = refl; counted = refl }
  operands_numbered prim [] [] (k ∷ ks) f h none = absurd h
  operands_numbered prim [] (q ∷ qs) ks f h none = absurd f
  operands_numbered prim (p ∷ ps) [] ks f h none = absurd f
  operands_numbered prim (p ∷ ps) (q ∷ qs) [] f h none = absurd h
  operands_numbered prim (p ∷ ps) (q ∷ qs) (k ∷ ks) f h none =
      let s : Survey = survey ws p.0 wk in
      let own : s.faults ≡ [] = left_empty s.faults _ none in
      let rest : OperandsNumbered ps ks = operands_numbered prim ps qs ks f.1 h.1 (right_empty s.faults _ none) in
      record {
        numbers = ap₂ (λ x xs. x ∷ xs) (lone_of s.measured (first_width (widths_of ws s.measured)) (operand_number p q k f.0 h.0 own)) rest.numbers;
        counted = ap suc rest.counted;
      }

  operands_typed_as : (prim : PrimOp) (ps : List ((e : Expr) × ExprIs e)) (qs : List Part) (ks : List Kind) → AreFound ps qs → HaveKinds prim qs ks → (K : Known) → Filled ws wk K
      → flat_map (λ (s : Survey). s.faults) (all_surveys (map (λ e. e.0) ps)) ≡ [] → OperandsTyped ps ks K
  operands_typed_as prim [] [] [] f h K fits none = refl
  operands_typed_as prim [] [] (k ∷ ks) f h K fits none = absurd h
  operands_typed_as prim [] (q ∷ qs) ks f h K fits none = absurd f
  operands_typed_as prim (p ∷ ps) [] ks f h K fits none = absurd f
  operands_typed_as prim (p ∷ ps) (q ∷ qs) [] f h K fits none = absurd h
  operands_typed_as prim (p ∷ ps) (q ∷ qs) (k ∷ ks) f h K fits none =
      let s : Survey = survey ws p.0 wk in
      let own : s.faults ≡ [] = left_empty s.faults _ none in
      let rest : OperandsTyped ps ks K = operands_typed_as prim ps qs ks f.1 h.1 K fits (right_empty s.faults _ none) in
      let n : ℕ = first_width (widths_of ws s.measured) in
      let one : typed p.0 K ≡ Some (shaped k n ∷ []) = f.0.typed_is K fits own ∙ ap Some (kind_shapes q.typ k h.0 (widths_of ws s.measured) (f.0.ones own)) in
      ap (λ o. option_and_then (λ s. option_and_then (λ more. Some (s ∷ more)) (all_of (map (λ operand. typing.lone_shape (operand K)) (map typed (map (λ e. e.0) ps))))) (typing.lone_shape o)) one
      ∙ ap (option_and_then (λ more. Some (shaped k n ∷ more))) rest

  numbers-bits : (ns : List ℕ) → numbers_of (map Bits ns) ≡ Some ns
  numbers-bits [] = refl
  numbers-bits (n ∷ ns) = ap (option_map (λ ws. n ∷ ws)) (numbers-bits ns)

  kinds_back : (ks : List Kind) (ns : List ℕ) → length ns ≡ length ks → map (λ (s : Shape). s.kind) (shapes_all ks ns) ≡ ks
  kinds_back [] ns e = refl
  kinds_back (k ∷ ks) [] e = absurd (omega (arith, e))
  kinds_back (k ∷ ks) (n ∷ ns) e = ap (λ l. k ∷ l) (kinds_back ks ns (omega (arith, e)))

  widths_back : (ks : List Kind) (ns : List ℕ) → length ns ≡ length ks → map (λ (s : Shape). s.width) (shapes_all ks ns) ≡ ns
  widths_back [] [] e = refl
  widths_back [] (n ∷ ns) e = absurd (omega (arith, e))
  widths_back (k ∷ ks) [] e = absurd (omega (arith, e))
  widths_back (k ∷ ks) (n ∷ ns) e = ap (λ l. n ∷ l) (widths_back ks ns (omega (arith, e)))

  -- the parameters fit where the judge says so
  params_are_fit : (prim : PrimOp) (place : Place) (params : List ℕ) (ks : List Kind) (es : List Expr) → length (widths_all es) ≡ length ks
      → map (λ f. width_under f ws) (map (λ (m : Measured). lone m.formulas) (map (λ (s : Survey). s.measured) (all_surveys es))) ≡ map Bits (widths_all es)
      → parameter_faults ws prim place params (all_surveys es) ≡ [] → params_fit prim (shapes_all ks (widths_all es)) params ≡ true
  params_are_fit prim place params [] [] c n e = refl
  params_are_fit prim place params (k ∷ ks) [] c n e = refl
  params_are_fit prim place params [] (x ∷ es) c n e = absurd (omega (arith, c))
  params_are_fit prim place params (k ∷ []) (x ∷ []) c n e =
      let w : ℕ = first_width (widths_of ws (survey ws x wk).measured) in
      let is : lone_width ws (survey ws x wk).measured ≡ Bits w = cc in
      let fit : fit_width prim params (lone_width ws (survey ws x wk).measured) ≡ true = not_true _ (where_false _ (ParameterRange place) e) in
      fits_same prim w (slice_index params 0) (slice_index params 1) (ap (fit_width prim params) (sym is) ∙ fit)
  params_are_fit prim place params (k ∷ l ∷ ks) (x ∷ []) c n e = absurd (omega (arith, c))
  params_are_fit prim place params (k ∷ []) (x ∷ y ∷ es) c n e = absurd (omega (arith, c))
  params_are_fit prim place params (k ∷ l ∷ ks) (x ∷ y ∷ es) c n e = refl

  operation_typed : (prim : PrimOp) (place : Place) (params : List ℕ) (ps : List ((e : Expr) × ExprIs e)) (ks : List Kind) (k : Kind) → row_kind prim ks ≡ Some k
      → nat_eq (length params) (arity_of prim).1 ≡ true → (K : Known) → OperandsNumbered ps ks → OperandsTyped ps ks K → parameter_faults ws prim place params (all_surveys (map (λ e. e.0) ps)) ≡ []
      → width_under (formula.Op prim ks (map (λ (m : Measured). lone m.formulas) (map (λ (s : Survey). s.measured) (all_surveys (map (λ e. e.0) ps)))) params) ws ≡ bounded (width_number prim ks (widths_all (map (λ e. e.0) ps)) params)
      → IsNumber (bounded (width_number prim ks (widths_all (map (λ e. e.0) ps)) params))
      → option_map (λ s. s ∷ []) (option_and_then (shape_of_row prim params) (all_of (map (λ operand. typing.lone_shape (operand K)) (map typed (map (λ e. e.0) ps)))))
      ≡ Some (shaped k (width_number prim ks (widths_all (map (λ e. e.0) ps)) params) ∷ [])
  operation_typed prim place params ps ks k row arity K o typed_as fit width number =
      let ns : List ℕ = widths_all (map (λ e. e.0) ps) in
      let os : List Shape = shapes_all ks ns in
      let w : ℕ = width_number prim ks ns params in
      let kinds : map (λ (s : Shape). s.kind) os ≡ ks = kinds_back ks ns o.counted in
      let w_is : width_of_row prim os params ≡ w = ap₂ (λ a b. width_number prim a b params) kinds (widths_back ks ns o.counted) in
      let arity_is : length ks ≡ (arity_of prim).0 = row_arity prim ks (ap is_some row) in
      let counted : length os ≡ length ks = sym (length-map os (λ (s : Shape). s.kind)) ∙ ap length kinds in
      let small : nat_le w 128 ≡ true = (bounded_number w number).1 in
      let ok : is_row prim os params (width_of_row prim os params) ≡ true
      = ap₂ (λ a b. a && b) (ap₂ (λ a b. a && b) (eq-eqb (length os) (arity_of prim).0 (counted ∙ arity_is)) arity)
      (ap₂ (λ a b. a && b) (params_are_fit prim place params ks (map (λ e. e.0) ps) o.counted o.numbers fit) (ap (λ x. nat_le x 128) w_is ∙ small)) in
      ap (λ x. option_map (λ s. s ∷ []) (option_and_then (shape_of_row prim params) x)) typed_as
      ∙ ap (λ b. option_map (λ s. s ∷ []) (cond b (option_and_then (λ kind. Some (shaped kind (width_of_row prim os params))) (row_kind prim (map (λ (s : Shape). s.kind) os))) None)) ok
      ∙ ap (λ x. option_map (λ s. s ∷ []) (option_and_then (λ kind. Some (shaped kind (width_of_row prim os params))) (row_kind prim x))) kinds
      ∙ ap (λ x. option_map (λ s. s ∷ []) (option_and_then (λ kind. Some (shaped kind (width_of_row prim os params))) x)) row
      ∙ ap (λ x. Some (shaped k x ∷ [])) w_is

  faults_of_over : (place : Place) (rule : List Judgement → List Operand → Judgement) (js : List Judgement) (o : Option (List Operand))
      → ((os : List Operand) → (rule js os).faults ≡ [] → flat_map (λ (j : Judgement). j.faults) js ≡ []) → (over place rule js o).faults ≡ [] → flat_map (λ (j : Judgement). j.faults) js ≡ []
  faults_of_over place rule js (Some os) h e = h os e
  faults_of_over place rule js None h e = e

  -- the result of an operation is a number, or an AsyncReset of one bit
  data ResultIs (prim : PrimOp) (place : Place) (ks : List Kind) (params : List ℕ) (k : Kind) : Type 0 where
    plain : result_type prim place k ≡ ground place k None → ResultIs prim place ks params k
    cast : (result_type prim place k).shape ≡ shape.AsyncReset → k ≡ Unsigned → ((ns : List ℕ) → length ns ≡ length ks → width_number prim ks ns params ≡ 1) → ResultIs prim place ks params k

  result_is : (prim : PrimOp) (place : Place) (ks : List Kind) (params : List ℕ) (k : Kind) → row_kind prim ks ≡ Some k → ResultIs prim place ks params k
  result_is op.AsAsyncReset place [] params k e = cc
  result_is op.AsAsyncReset place (a ∷ []) params k e = cast refl (sym (some_same e)) one where
    one : (ns : List ℕ) → length ns ≡ 1 → width_number op.AsAsyncReset (a ∷ []) ns params ≡ 1
    one [] l = absurd (omega (arith, l))
    one (n ∷ []) l = refl
    one (n ∷ m ∷ ns) l = absurd (omega (arith, l))
  result_is op.AsAsyncReset place (a ∷ b ∷ []) params k e = cc
  result_is op.AsAsyncReset place (a ∷ b ∷ c ∷ ks) params k e = cc
  result_is _ place ks params k e = plain refl

  result_size : {prim : PrimOp} {place : Place} {ks : List Kind} {params : List ℕ} {k : Kind} → ResultIs prim place ks params k → size (result_type prim place k) ≡ 1
  result_size {place = place} {k = k} (plain e) = ap size e ∙ ground_size place k None
  result_size {prim = prim} {place = place} {k = k} (cast e u one) = size-async (result_type prim place k) e

  async_once : (t : FirType) → t.shape ≡ shape.AsyncReset → twice_in t ≡ []
  async_once t e = grind (arith, common_steps, the_lemmas)

  result_once : {prim : PrimOp} {place : Place} {ks : List Kind} {params : List ℕ} {k : Kind} → ResultIs prim place ks params k → twice_in (result_type prim place k) ≡ []
  result_once {place = place} {k = k} (plain e) = ap twice_in e ∙ ground_once place k None
  result_once {prim = prim} {place = place} {k = k} (cast e u one) = async_once (result_type prim place k) e

  result_ones : {prim : PrimOp} {place : Place} {ks : List Kind} {params : List ℕ} {k : Kind} → ResultIs prim place ks params k → (ns : List ℕ) → length ns ≡ length ks
      → OneWidths (node_spots (result_type prim place k)) (Bits (width_number prim ks ns params) ∷ [])
  result_ones {prim = prim} {place = place} {ks = ks} {params = params} {k = k} (plain e) ns l =
      subst (λ ss. OneWidths ss (Bits (width_number prim ks ns params) ∷ [])) (sym (ap node_spots e ∙ ground_free place k None)) (tt, tt)
  result_ones {prim = prim} {place = place} {ks = ks} {params = params} {k = k} (cast e u one) ns l =
      subst (λ ss. OneWidths ss (Bits (width_number prim ks ns params) ∷ [])) (sym (node-async (result_type prim place k) e)) (ap Bits (one ns l), tt)

  result_shapes : {prim : PrimOp} {place : Place} {ks : List Kind} {params : List ℕ} {k : Kind} → ResultIs prim place ks params k → (ns : List ℕ) → length ns ≡ length ks
      → leaf_shapes (filled (result_type prim place k) (Bits (width_number prim ks ns params) ∷ [])) ≡ shaped k (width_number prim ks ns params) ∷ []
  result_shapes {prim = prim} {place = place} {ks = ks} {params = params} {k = k} (plain e) ns l =
      ap (λ t. leaf_shapes (filled t (Bits (width_number prim ks ns params) ∷ []))) e ∙ ground_shapes place k None (width_number prim ks ns params)
  result_shapes {prim = prim} {place = place} {ks = ks} {params = params} {k = k} (cast e u one) ns l =
      async_shapes (result_type prim place k) e (Bits (width_number prim ks ns params) ∷ []) ∙ ap₂ (λ x w. shaped x w ∷ []) (sym u) (sym (one ns l))

  -- the type check and the rules give a result one type
  same_result : (prim : PrimOp) (place : Place) (k : Kind) → sources.result_type prim place k ≡ result_type prim place k
  same_result op.AsAsyncReset place k = refl
  same_result _ place k = refl

  operation_found : (prim : PrimOp) (place : Place) (params : List ℕ) (ps : List ((e : Expr) × ExprIs e)) → Every Name (IsIn tk) (flat_map (λ names. names) (map references (map (λ e. e.0) ps)))
      → (over place (checking.operation prim place) (map (λ (e : Judged). e.among tk) (judged_all (map (λ e. e.0) ps))) (typed_operands tk (judged_all (map (λ e. e.0) ps)))).faults ≡ []
      → all_are (map is_shaped (map (λ e. e.0) ps)) ≡ true → nat_eq (length params) (arity_of prim).1 ≡ true
      → (part : Part) × IsFound (over place (checking.operation prim place) (map (λ (e : Judged). e.among tk) (judged_all (map (λ e. e.0) ps))) (typed_operands tk (judged_all (map (λ e. e.0) ps))))
      (surveyed ws place (sources.operation prim place (map (λ (s : Survey). s.measured) (all_surveys (map (λ e. e.0) ps))) params) (parameter_faults ws prim place params (all_surveys (map (λ e. e.0) ps))) (all_surveys (map (λ e. e.0) ps)))
      (λ K. option_map (λ s. s ∷ []) (option_and_then (shape_of_row prim params) (all_of (map (λ operand. typing.lone_shape (operand K)) (map typed (map (λ e. e.0) ps)))))) part
  operation_found prim place params ps names e shape arity =
      let es : List Expr = map (λ e. e.0) ps in
      let js : List Judgement = map (λ (e : Judged). e.among tk) (judged_all es) in
      let below : flat_map (λ (j : Judgement). j.faults) js ≡ [] = faults_of_over place (checking.operation prim place) js (typed_operands tk (judged_all es)) (λ os h. left_empty (flat_map (λ (j : Judgement). j.faults) js) _ h) e in
      let f = all_found ps names below shape in
      let os : List Operand = operands_of es f.0 in
      let ops : typed_operands tk (judged_all es) ≡ Some os = operands_typed ps f.0 f.1 in
      let e' : (checking.operation prim place js os).faults ≡ [] = ap (λ o. (over place (checking.operation prim place) js o).faults) (sym ops) ∙ e in
      let own : unless (is_some (row_of prim (signs_of prim os))) (OperandKind place) ≡ [] = right_empty (flat_map (λ (j : Judgement). j.faults) js) _ e' in
      let row = signs_some prim (signs_of prim os) (unless_true _ _ own) in
      let kinds : HaveKinds prim f.0 row.0 = signs_have prim ps f.0 f.1 row.0 row.1 in
      let k : Kind = row.2 in
      let typ : FirType = result_type prim place (sign_or_unsigned (row_of prim (signs_of prim os))) in
      let typ_is : typ ≡ result_type prim place k = ap (λ o. result_type prim place (sign_or_unsigned o)) (ap (row_of prim) row.1 ∙ row.3) in
      let ms : List Measured = map (λ (s : Survey). s.measured) (all_surveys es) in
      let m : Measured = sources.operation prim place ms params in
      let kinds_are : map kind_of ms ≡ row.0 = kinds_measured prim ps f.0 row.0 f.1 kinds in
      let part_is : m.part ≡ source_of (result_type prim place k)
      = ap (λ ks. source_of (sources.result_type prim place (sign_or_unsigned (row_kind prim ks)))) kinds_are ∙ ap (λ o. source_of (sources.result_type prim place (sign_or_unsigned o))) row.3
      ∙ ap source_of (same_result prim place k) in
      let lones : List Formula = map (λ (x : Measured). lone x.formulas) ms in
      let some_row : is_some (row_kind prim (map kind_of ms)) ≡ true = ap (λ ks. is_some (row_kind prim ks)) kinds_are ∙ ap is_some row.3 in
      let formula_is : operation_formula prim ms params ≡ formula.Op prim row.0 lones params
      = ap (λ b. if b then formula.Op prim (map kind_of ms) lones params else formula.Fixed 0) (ap₂ (λ a b. a && b) some_row arity) ∙ ap (λ ks. formula.Op prim ks lones params) kinds_are in
      let all : List Survey = all_surveys es in
      let s : Survey = surveyed ws place m (parameter_faults ws prim place params all) all in
      let nums : s.faults ≡ [] → Each IsNumber (widths_of ws m) = λ none. none_over (widths_of ws m) (where_false _ _ (left_empty _ (parameter_faults ws prim place params all) (right_empty (flat_map (λ (x : Survey). x.faults) all) _ none))) in
      let result : ResultIs prim place row.0 params k = result_is prim place row.0 params k row.3 in
      let numbered : s.faults ≡ [] → OperandsNumbered ps row.0 = λ none. operands_numbered prim ps f.0 row.0 f.1 kinds (left_empty (flat_map (λ (x : Survey). x.faults) all) _ none) in
      let w : ℕ = width_number prim row.0 (widths_all es) params in
      let width : s.faults ≡ [] → width_under (formula.Op prim row.0 lones params) ws ≡ bounded w
      = λ none. width-Op prim row.0 lones params ws ∙ ap (λ vs. row_width prim row.0 vs params) (numbered none).numbers ∙ ap (of_numbers (λ vs. width_number prim row.0 vs params)) (numbers-bits (widths_all es)) in
      let number : s.faults ≡ [] → IsNumber (bounded w) = λ none. subst IsNumber (ap (λ g. width_under g ws) formula_is ∙ width none) (nums none).0 in
      let widths : s.faults ≡ [] → widths_of ws m ≡ Bits w ∷ [] = λ none. ap (λ g. g ∷ []) (ap (λ g. width_under g ws) formula_is ∙ width none ∙ (bounded_number w (number none)).0) in (
        source_of (result_type prim place k),
        record {
          found = ap (λ o. (over place (checking.operation prim place) js o).part) ops ∙ ap (option_map source_of) (typed_without_none _ typ own) ∙ ap (λ t. Some (source_of t)) typ_is;
          measured = part_is;
          counted = sym (result_size result);
          once = result_once result;
          placed = one_placed Source (result_type prim place k) (operation_formula prim ms params) (λ through. subst (Q through) (sym formula_is) (allows.op through prim row.0 lones params));
          numbers = nums;
          ones = λ none. subst (OneWidths (node_spots (result_type prim place k))) (sym (widths none)) (result_ones result (widths_all es) (numbered none).counted);
          typed_is = λ K fits none.
              let typed_as : OperandsTyped ps row.0 K = operands_typed_as prim ps f.0 row.0 f.1 kinds K fits (left_empty (flat_map (λ (x : Survey). x.faults) all) _ none) in
              operation_typed prim place params ps row.0 k row.3 arity K (numbered none) typed_as (right_empty _ (parameter_faults ws prim place params all) (right_empty (flat_map (λ (x : Survey). x.faults) all) _ none)) (width none) (number none)
              ∙ ap Some (sym (result_shapes result (widths_all es) (numbered none).counted)) ∙ ap (λ vs. Some (leaf_shapes (filled (result_type prim place k) vs))) (sym (widths none));
        },
      )

  -- Choices

  greater_widths : (fs gs : List Formula) → map (λ f. width_under f ws) (map greater_of (zip fs gs)) ≡ map bigger (zip (map (λ f. width_under f ws) fs) (map (λ f. width_under f ws) gs))
  greater_widths [] gs = refl
  greater_widths (f ∷ fs) [] = refl
  greater_widths (f ∷ fs) (g ∷ gs) = ap₂ (λ x xs. x ∷ xs) (width-Greatest (f ∷ g ∷ []) ws) (greater_widths fs gs)

  -- of two widths 1 the greater one is 1
  most_ones : (ss ts : List Spot) (us vs : List Width) → given_in ss ≡ given_in ts → OneWidths ss us → OneWidths ts vs → OneWidths ss (map bigger (zip us vs))
  most_ones [] [] [] [] e h k = tt
  most_ones [] ts (u ∷ us) vs e h k = absurd h
  most_ones [] [] [] (v ∷ vs) e h k = absurd k
  most_ones [] (t ∷ ts) us vs e h k = cc
  most_ones (s ∷ ss) ts [] vs e h k = absurd h
  most_ones (s ∷ ss) [] us vs e h k = cc
  most_ones (s ∷ ss) (t ∷ ts) us [] e h k = absurd k
  most_ones (s ∷ ss) (t ∷ ts) (u ∷ us) (v ∷ vs) e h k =
      let here' : s.width ≡ t.width = cc in
      let rest : given_in ss ≡ given_in ts = cc in
      (one s.width h.0 (subst (λ o. OneWidth o v) (sym here') k.0), most_ones ss ts us vs rest h.1 k.1)
    where
      one : (o : Option ℕ) → OneWidth o u → OneWidth o v → OneWidth o (bigger (u, v))
      one None a b = tt
      one (Some w) a b = ap₂ (λ x y. bigger (x, y)) a b

  most_placed : (flow : Flow) (ss : List Spot) (fs gs : List Formula) → Placed Q flow ss (map greater_of (zip fs gs))
  most_placed flow [] fs gs = tt
  most_placed flow (s ∷ ss) [] gs = tt
  most_placed flow (s ∷ ss) (f ∷ fs) [] = tt
  most_placed flow (s ∷ ss) (f ∷ fs) (g ∷ gs) = (allows.most (flow_through s.flip flow) (f ∷ g ∷ []), most_placed flow ss fs gs)

  length-zip : (fs gs : List Formula) → length fs ≡ length gs → length (map greater_of (zip fs gs)) ≡ length fs
  length-zip [] gs e = refl
  length-zip (f ∷ fs) [] e = absurd (omega (arith, e))
  length-zip (f ∷ fs) (g ∷ gs) e = ap suc (length-zip fs gs (omega (arith, e)))

  choice_found : (place : Place) (c first second : Expr) (cq fq sq : Part) → IsFound (found_of tk c) (survey ws c wk) (typed c) cq → IsFound (found_of tk first) (survey ws first wk) (typed first) fq
      → IsFound (found_of tk second) (survey ws second wk) (typed second) sq
      → (checking.choice place (found_of tk c ∷ found_of tk first ∷ found_of tk second ∷ []) (operands_of (c ∷ first ∷ second ∷ []) (cq ∷ fq ∷ sq ∷ []))).faults ≡ []
      → (part : Part) × IsFound (checking.choice place (found_of tk c ∷ found_of tk first ∷ found_of tk second ∷ []) (operands_of (c ∷ first ∷ second ∷ []) (cq ∷ fq ∷ sq ∷ [])))
      (surveyed ws place (sources.choice ((survey ws c wk).measured ∷ (survey ws first wk).measured ∷ (survey ws second wk).measured ∷ []))
      (choice_faults ws (survey ws c wk ∷ survey ws first wk ∷ survey ws second wk ∷ [])) (survey ws c wk ∷ survey ws first wk ∷ survey ws second wk ∷ []))
      (λ K. chosen_shapes (typed c K ∷ typed first K ∷ typed second K ∷ [])) part
  choice_found place c first second cq fq sq x y z e =
      let js : List Judgement = found_of tk c ∷ found_of tk first ∷ found_of tk second ∷ [] in
      let own = right_empty (flat_map (λ (j : Judgement). j.faults) js) _ e in
      let a : is_unsigned cq.typ ≡ true = unless_true _ _ (left_empty (unless (is_unsigned cq.typ) (ConditionKind (judged c).place)) _ own) in
      let rest = right_empty (unless (is_unsigned cq.typ) (ConditionKind (judged c).place)) _ own in
      let rest2 = right_empty (when (has_signal fq.typ || has_signal sq.typ) (OperandKind place)) _ rest in
      let rest3 = right_empty (unless (is_passive fq.typ) (NotPassive (judged first).place)) _ rest2 in
      let same : are_equivalent fq.typ sq.typ ≡ true = unless_true _ _ (right_empty (unless (is_passive sq.typ) (NotPassive (judged second).place)) _ rest3) in
      let alike : Equivalent fq.typ sq.typ = is_equivalent fq.typ sq.typ same in
      let m1 : Measured = (survey ws first wk).measured in
      let m2 : Measured = (survey ws second wk).measured in
      let surveys : List Survey = survey ws c wk ∷ survey ws first wk ∷ survey ws second wk ∷ [] in
      let counted : length m1.formulas ≡ length m2.formulas = y.counted ∙ size_alike alike ∙ sym z.counted in
      let m : Measured = sources.choice ((survey ws c wk).measured ∷ m1 ∷ m2 ∷ []) in
      let s : Survey = surveyed ws place m (choice_faults ws surveys) surveys in
      let faults_c : s.faults ≡ [] → (survey ws c wk).faults ≡ [] = λ none. left_empty (survey ws c wk).faults _ (left_empty (flat_map (λ (q : Survey). q.faults) surveys) _ none) in
      let others : s.faults ≡ [] → (survey ws first wk).faults ++ ((survey ws second wk).faults ++ []) ≡ [] = λ none. right_empty (survey ws c wk).faults _ (left_empty (flat_map (λ (q : Survey). q.faults) surveys) _ none) in
      let faults_1 : s.faults ≡ [] → (survey ws first wk).faults ≡ [] = λ none. left_empty (survey ws first wk).faults _ (others none) in
      let faults_2 : s.faults ≡ [] → (survey ws second wk).faults ≡ [] = λ none. left_empty (survey ws second wk).faults [] (right_empty (survey ws first wk).faults _ (others none)) in (
        source_of fq.typ,
        record {
          found = ap (option_map source_of) (typed_without_none _ fq.typ own);
          measured = ap (λ (p : Part). source_of p.typ) y.measured;
          counted = length-zip m1.formulas m2.formulas counted ∙ y.counted;
          once = y.once;
          placed = most_placed Source (spots fq.typ) m1.formulas m2.formulas;
          numbers = λ none. none_over (widths_of ws m) (where_false _ _ (left_empty _ (choice_faults ws surveys) (right_empty (flat_map (λ (q : Survey). q.faults) surveys) _ none)));
          ones = λ none. subst (OneWidths (node_spots fq.typ)) (sym (greater_widths m1.formulas m2.formulas))
              (most_ones (node_spots fq.typ) (node_spots sq.typ) (widths_of ws m1) (widths_of ws m2) (given_alike alike) (y.ones (faults_1 none)) (z.ones (faults_2 none)));
          typed_is = λ K fits none.
              let us : List Width = widths_of ws m1 in
              let vs : List Width = widths_of ws m2 in
              let tc : typed c K ≡ Some (shaped Unsigned (first_width (widths_of ws (survey ws c wk).measured)) ∷ []) = x.typed_is K fits (faults_c none) ∙ ap Some (one_unsigned cq.typ _ a) in
              let lu : length us ≡ size fq.typ = length-map m1.formulas (λ f. width_under f ws) ∙ y.counted in
              let lv : length vs ≡ size sq.typ = length-map m2.formulas (λ f. width_under f ws) ∙ z.counted in
              ap (λ o. chosen_shapes (o ∷ typed first K ∷ typed second K ∷ [])) tc
              ∙ ap₂ (λ p q. option_and_then (λ ss. option_and_then (wider_each ss) q) p) (y.typed_is K fits (faults_1 none)) (z.typed_is K fits (faults_2 none))
              ∙ wider_filled alike us vs (y.numbers (faults_1 none)) (z.numbers (faults_2 none)) (omega (arith, lu)) (omega (arith, lv))
              ∙ ap (λ ws. Some (leaf_shapes (filled fq.typ ws))) (sym (greater_widths m1.formulas m2.formulas));
        },
      )

  mux_found : (place : Place) (ps : List ((e : Expr) × ExprIs e)) → Every Name (IsIn tk) (flat_map (λ names. names) (map references (map (λ e. e.0) ps)))
      → (over place (checking.choice place) (map (λ (e : Judged). e.among tk) (judged_all (map (λ e. e.0) ps))) (typed_operands tk (judged_all (map (λ e. e.0) ps)))).faults ≡ []
      → all_are (map is_shaped (map (λ e. e.0) ps)) ≡ true → nat_eq (length (map is_shaped (map (λ e. e.0) ps))) 3 ≡ true
      → (part : Part) × IsFound (over place (checking.choice place) (map (λ (e : Judged). e.among tk) (judged_all (map (λ e. e.0) ps))) (typed_operands tk (judged_all (map (λ e. e.0) ps))))
      (surveyed ws place (sources.choice (map (λ (s : Survey). s.measured) (all_surveys (map (λ e. e.0) ps)))) (choice_faults ws (all_surveys (map (λ e. e.0) ps))) (all_surveys (map (λ e. e.0) ps)))
      (λ K. chosen_shapes (map (λ operand. operand K) (map typed (map (λ e. e.0) ps)))) part
  mux_found place [] names e shape three = cc
  mux_found place (a ∷ []) names e shape three = cc
  mux_found place (a ∷ b ∷ []) names e shape three = cc
  mux_found place (a ∷ b ∷ c ∷ d ∷ ps) names e shape three = absurd (let h : suc (suc (suc (suc (length (map is_shaped (map (λ e. e.0) ps)))))) ≡ 3 = eqb-true _ 3 three in omega (arith, h))
  mux_found place (a ∷ b ∷ c ∷ []) names e shape three =
      let ps : List ((e : Expr) × ExprIs e) = a ∷ b ∷ c ∷ [] in
      let es : List Expr = a.0 ∷ b.0 ∷ c.0 ∷ [] in
      let js : List Judgement = found_of tk a.0 ∷ found_of tk b.0 ∷ found_of tk c.0 ∷ [] in
      let below : flat_map (λ (j : Judgement). j.faults) js ≡ [] = faults_of_over place (checking.choice place) js (typed_operands tk (judged_all es)) (choice_below place js) e in
      let f = all_found ps names below shape in
      three_found place a b c f.0 f.1 e
    where
      choice_below : (place : Place) (js : List Judgement) (os : List Operand) → (checking.choice place js os).faults ≡ [] → flat_map (λ (j : Judgement). j.faults) js ≡ []
      choice_below place js [] h = h
      choice_below place js (x ∷ []) h = h
      choice_below place js (x ∷ y ∷ []) h = h
      choice_below place js (x ∷ y ∷ z ∷ []) h = left_empty (flat_map (λ (j : Judgement). j.faults) js) _ h
      choice_below place js (x ∷ y ∷ z ∷ w ∷ os) h = h

      three_found : (place : Place) (a b c : (e : Expr) × ExprIs e) (qs : List Part) → AreFound (a ∷ b ∷ c ∷ []) qs
          → (over place (checking.choice place) (found_of tk a.0 ∷ found_of tk b.0 ∷ found_of tk c.0 ∷ []) (typed_operands tk (judged_all (a.0 ∷ b.0 ∷ c.0 ∷ [])))).faults ≡ []
          → (part : Part) × IsFound (over place (checking.choice place) (found_of tk a.0 ∷ found_of tk b.0 ∷ found_of tk c.0 ∷ []) (typed_operands tk (judged_all (a.0 ∷ b.0 ∷ c.0 ∷ []))))
          (surveyed ws place (sources.choice ((survey ws a.0 wk).measured ∷ (survey ws b.0 wk).measured ∷ (survey ws c.0 wk).measured ∷ []))
          (choice_faults ws (survey ws a.0 wk ∷ survey ws b.0 wk ∷ survey ws c.0 wk ∷ [])) (survey ws a.0 wk ∷ survey ws b.0 wk ∷ survey ws c.0 wk ∷ []))
          (λ K. chosen_shapes (typed a.0 K ∷ typed b.0 K ∷ typed c.0 K ∷ [])) part
      three_found place a b c [] f e = absurd f
      three_found place a b c (x ∷ []) f e = absurd f.1
      three_found place a b c (x ∷ y ∷ []) f e = absurd f.1.1
      three_found place a b c (x ∷ y ∷ z ∷ w ∷ qs) f e = absurd f.1.1.1
      three_found place a b c (x ∷ y ∷ z ∷ []) f e =
          let js : List Judgement = found_of tk a.0 ∷ found_of tk b.0 ∷ found_of tk c.0 ∷ [] in
          let ops : typed_operands tk (judged_all (a.0 ∷ b.0 ∷ c.0 ∷ [])) ≡ Some (operands_of (a.0 ∷ b.0 ∷ c.0 ∷ []) (x ∷ y ∷ z ∷ [])) = operands_typed (a ∷ b ∷ c ∷ []) (x ∷ y ∷ z ∷ []) f in
          let r = choice_found place a.0 b.0 c.0 x y z f.0 f.1.0 f.1.1.0 (ap (λ o. (over place (checking.choice place) js o).faults) (sym ops) ∙ e) in (
            r.0,
            subst (λ o. IsFound (over place (checking.choice place) js o)
                (surveyed ws place (sources.choice ((survey ws a.0 wk).measured ∷ (survey ws b.0 wk).measured ∷ (survey ws c.0 wk).measured ∷ []))
                (choice_faults ws (survey ws a.0 wk ∷ survey ws b.0 wk ∷ survey ws c.0 wk ∷ [])) (survey ws a.0 wk ∷ survey ws b.0 wk ∷ survey ws c.0 wk ∷ []))
                (λ K. chosen_shapes (typed a.0 K ∷ typed b.0 K ∷ typed c.0 K ∷ [])) r.0) (sym ops) r.1,
          )

  -- All expressions

  form_at : (z : Form-F Form Suffix Expr)
      → ((place : Place) → Every Name (IsIn tk) (extents.of_form (map-Form Form Suffix Expr (List Name) (List Name) (List Name) form_names extents.suffix_references references z))
      → (checking.of_form (map-Form Form Suffix Expr (Place → TKnown → Judgement) checking.Step Judged form_judged checking.suffix_step judged z) place tk).faults ≡ []
      → shaping.of_form (map-Form Form Suffix Expr Bool Bool Bool form_shaped suffix_shaped is_shaped z) ≡ true
      → (part : Part) × IsFound (checking.of_form (map-Form Form Suffix Expr (Place → TKnown → Judgement) checking.Step Judged form_judged checking.suffix_step judged z) place tk)
      (judging.of_form ws (map-Form Form Suffix Expr (Place → judging.Among) judging.Step judging.Among form_survey (judging.suffix_step ws) (survey ws) z) place wk)
      (typing.of_form (map-Form Form Suffix Expr InKnown Onward InKnown form_typed suffix_typed typed z)) part)
      → FormIs (roll-Form z)
  form_at z h place names e shape =
      let r = fold-roll-Form (List Name) (List Name) (List Name) extents.of_form extents.of_suffix extents.of_expr z in
      let b = fold-roll-Form Bool Bool Bool shaping.of_form shaping.of_suffix shaping.of_expr z in
      let j = fold-roll-Form (Place → TKnown → Judgement) checking.Step Judged checking.of_form checking.of_suffix checking.of_expr z in
      let s = fold-roll-Form (Place → judging.Among) judging.Step judging.Among (judging.of_form ws) judging.of_suffix judging.of_expr z in
      let t = fold-roll-Form InKnown Onward InKnown typing.of_form typing.of_suffix typing.of_expr z in
      let found = h place (subst (Every Name (IsIn tk)) r names) (ap (λ f. (f place tk).faults) (sym j) ∙ e) (sym b ∙ shape) in (
        found.0,
        subst (λ f. IsFound (f place tk) (form_survey (roll-Form z) place wk) (form_typed (roll-Form z)) found.0) (sym j)
            (subst (λ f. IsFound (checking.of_form (map-Form Form Suffix Expr (Place → TKnown → Judgement) checking.Step Judged form_judged checking.suffix_step judged z) place tk) (f place wk) (form_typed (roll-Form z)) found.0) (sym s)
            (subst (λ f. IsFound (checking.of_form (map-Form Form Suffix Expr (Place → TKnown → Judgement) checking.Step Judged form_judged checking.suffix_step judged z) place tk)
            (judging.of_form ws (map-Form Form Suffix Expr (Place → judging.Among) judging.Step judging.Among form_survey (judging.suffix_step ws) (survey ws) z) place wk) f found.0) (sym t) found.1)),
      )

  form_case : (y : Form-F ((φ : Form) × FormIs φ) ((s : Suffix) × SuffixIs s) ((e : Expr) × ExprIs e))
      → FormIs (roll-Form (map-Form _ _ _ Form Suffix Expr (λ e. e.0) (λ e. e.0) (λ e. e.0) y))
  form_case (Form-F.Ref name ps) = form_at (Form-F.Ref name (map (λ e. e.0) ps)) (λ place names e shape. reference_found name place ps names e shape)
  form_case (Form-F.Literal kind width n) = form_at (Form-F.Literal kind width n) (λ place names e shape. literal_found kind width n place e)
  form_case (Form-F.Prim prim ps params) = form_at (Form-F.Prim prim (map (λ e. e.0) ps) params) (λ place names e shape.
      operation_found prim place params ps names e (and_left (all_are (map is_shaped (map (λ e. e.0) ps))) _ shape)
      (and_right (nat_eq (length (map is_shaped (map (λ e. e.0) ps))) (arity_of prim).0) _ (and_right (all_are (map is_shaped (map (λ e. e.0) ps))) _ shape)))
  form_case (Form-F.Mux ps) = form_at (Form-F.Mux (map (λ e. e.0) ps)) (λ place names e shape.
      mux_found place ps names e (and_left (all_are (map is_shaped (map (λ e. e.0) ps))) _ shape) (and_right (all_are (map is_shaped (map (λ e. e.0) ps))) _ shape))

  expr_case : (y : Expr-F ((φ : Form) × FormIs φ) ((s : Suffix) × SuffixIs s) ((e : Expr) × ExprIs e))
      → ExprIs (roll-Expr (map-Expr _ _ _ Form Suffix Expr (λ e. e.0) (λ e. e.0) (λ e. e.0) y))
  expr_case y names e shape =
      let z : Expr-F Form Suffix Expr = map-Expr _ _ _ Form Suffix Expr (λ e. e.0) (λ e. e.0) (λ e. e.0) y in
      let r = fold-roll-Expr (List Name) (List Name) (List Name) extents.of_form extents.of_suffix extents.of_expr z in
      let b = fold-roll-Expr Bool Bool Bool shaping.of_form shaping.of_suffix shaping.of_expr z in
      let j = fold-roll-Expr (Place → TKnown → Judgement) checking.Step Judged checking.of_form checking.of_suffix checking.of_expr z in
      let s = fold-roll-Expr (Place → judging.Among) judging.Step judging.Among (judging.of_form ws) judging.of_suffix judging.of_expr z in
      let t = fold-roll-Expr InKnown Onward InKnown typing.of_form typing.of_suffix typing.of_expr z in
      let found = y.form.1 y.place (subst (Every Name (IsIn tk)) r names) (ap (λ (f : Judged). (f.among tk).faults) (sym j) ∙ e) (sym b ∙ shape) in (
        found.0,
        subst (λ (f : Judged). IsFound (f.among tk) (survey ws (roll-Expr z) wk) (typed (roll-Expr z)) found.0) (sym j)
            (subst (λ f. IsFound (form_judged y.form.0 y.place tk) (f wk) (typed (roll-Expr z)) found.0) (sym s)
            (subst (λ f. IsFound (form_judged y.form.0 y.place tk) (form_survey y.form.0 y.place wk) f found.0) (sym t) found.1)),
      )

  pub expr_found : (e : Expr) → Every Name (IsIn tk) (references e) → (found_of tk e).faults ≡ [] → is_shaped e ≡ true
      → (part : Part) × IsFound (found_of tk e) (survey ws e wk) (typed e) part
  expr_found = ind-Expr FormIs SuffixIs ExprIs
      (λ x y is. subst (λ z. FormIs (roll-Form z)) is (form_case y))
      (λ x y is. subst (λ z. SuffixIs (roll-Suffix z)) is (suffix_case y))
      (λ x y is. subst (λ z. ExprIs (roll-Expr z)) is (expr_case y))

  -- What an expression names

  suffix_found : (s : Suffix) → SuffixIs s
  suffix_found = ind-Suffix FormIs SuffixIs ExprIs
      (λ x y is. subst (λ z. FormIs (roll-Form z)) is (form_case y))
      (λ x y is. subst (λ z. SuffixIs (roll-Suffix z)) is (suffix_case y))
      (λ x y is. subst (λ z. ExprIs (roll-Expr z)) is (expr_case y))

  abbrev found_suffixes : List Suffix → List ((s : Suffix) × SuffixIs s)
  found_suffixes [] = []
  found_suffixes (s ∷ ss) = (s, suffix_found s) ∷ found_suffixes ss

  suffixes_same : (ss : List Suffix) → map (λ e. e.0) (found_suffixes ss) ≡ ss
  suffixes_same [] = refl
  suffixes_same (s ∷ ss) = ap (λ l. s ∷ l) (suffixes_same ss)

  steps_there : (ss : List Suffix) (sized : Component) → IsGood Q sized → Every Name (IsIn tk) (flat_map (λ names. names) (map extents.suffix_references ss))
      → all_are (map suffix_shaped ss) ≡ true → (along (map checking.suffix_step ss) tk (Some sized.part)).faults ≡ []
      → (next : Part) × AreSteps ss sized next
  steps_there ss = subst (λ (l : List Suffix). (sized : Component) → IsGood Q sized → Every Name (IsIn tk) (flat_map (λ names. names) (map extents.suffix_references l))
      → all_are (map suffix_shaped l) ≡ true → (along (map checking.suffix_step l) tk (Some sized.part)).faults ≡ [] → (next : Part) × AreSteps l sized next)
      (suffixes_same ss) (steps_found (found_suffixes ss))

  reference_named : (name : Name) (place : Place) (ss : List Suffix) → Every Name (IsIn tk) (name ∷ flat_map (λ names. names) (map extents.suffix_references ss))
      → (as_node place (along (map checking.suffix_step ss) tk (check.component tk name.id))).faults ≡ [] → all_are (map suffix_shaped ss) ≡ true
      → (part : Part) → (as_node place (along (map checking.suffix_step ss) tk (check.component tk name.id))).part ≡ Some part
      → (K : Known) → Filled ws wk K
      → (surveyed ws place (measured_reference (named (steps_to ss) (component wk name.id))) [] (flat_map (λ (step : judging.Step). step.index wk) (map (judging.suffix_step ws) ss))).faults ≡ []
      → type_behind K (map suffix_typed ss) (K name.id) ≡ Some (filled part.typ (widths_of ws (measured_reference (named (steps_to ss) (component wk name.id)))))
  reference_named name place ss names e shape part is K fits none =
      let there' = some_is (check.component tk name.id) names.0 in
      let one = mapped_some (λ (sized : Component). sized.part) (lookup (nat_eq name.id) wk) there'.0 (sym (knows.same name.id) ∙ there'.1) in
      let sized : Component = one.0 in
      let known : check.component tk name.id ≡ Some sized.part = there'.1 ∙ ap Some (sym one.2) in
      let known_w : component wk name.id ≡ sized = ap component_or_none one.1 in
      let r = steps_there ss sized (knows.good name.id sized one.1) names.1 shape (ap (λ o. (along (map checking.suffix_step ss) tk o).faults) (sym known) ∙ e) in
      let last : Component = named (steps_to ss) sized in
      let surveys : List Survey = flat_map (λ (step : judging.Step). step.index wk) (map (judging.suffix_step ws) ss) in
      let same : r.0 ≡ part = some_same (sym r.1.found ∙ ap (λ o. (along (map checking.suffix_step ss) tk o).part) (sym known) ∙ is) in
      ap (type_behind K (map suffix_typed ss)) (fits name.id sized one.1)
      ∙ r.1.typed_is K fits (left_empty (flat_map (λ (s : Survey). s.faults) surveys) _ none)
      ∙ ap₂ (λ (p : Part) (vs : List Width). Some (filled p.typ vs)) same (sym (formulas_widths last.slots))
      ∙ ap (λ (c : Component). Some (filled part.typ (widths_of ws (measured_reference (named (steps_to ss) c))))) (sym known_w)

  abbrev judged_layer : Form-F Form Suffix Expr → Place → Judgement
  judged_layer z place = checking.of_form (map-Form Form Suffix Expr (Place → TKnown → Judgement) checking.Step Judged form_judged checking.suffix_step judged z) place tk

  abbrev survey_layer : Form-F Form Suffix Expr → Place → Survey
  survey_layer z place = judging.of_form ws (map-Form Form Suffix Expr (Place → judging.Among) judging.Step judging.Among form_survey (judging.suffix_step ws) (survey ws) z) place wk

  abbrev names_layer : Form-F Form Suffix Expr → List Name
  names_layer z = extents.of_form (map-Form Form Suffix Expr (List Name) (List Name) (List Name) form_names extents.suffix_references references z)

  abbrev shaped_layer : Form-F Form Suffix Expr → Bool
  shaped_layer z = shaping.of_form (map-Form Form Suffix Expr Bool Bool Bool form_shaped suffix_shaped is_shaped z)

  judged_out : (e : Expr) → found_of tk e ≡ judged_layer (out-Form e.form) e.place
  judged_out e = grind (arith, common_steps, expr_lemmas)

  survey_out : (e : Expr) → survey ws e wk ≡ survey_layer (out-Form e.form) e.place
  survey_out e = grind (arith, common_steps, expr_lemmas)

  names_out : (e : Expr) → references e ≡ names_layer (out-Form e.form)
  names_out e = grind (arith, common_steps, expr_lemmas)

  shaped_out : (e : Expr) → is_shaped e ≡ shaped_layer (out-Form e.form)
  shaped_out e = grind (arith, common_steps, expr_lemmas)

  form_named : (z : Form-F Form Suffix Expr) (place : Place) → Every Name (IsIn tk) (names_layer z) → (judged_layer z place).faults ≡ [] → shaped_layer z ≡ true
      → (part : Part) → (judged_layer z place).part ≡ Some part → (K : Known) → Filled ws wk K → (survey_layer z place).faults ≡ []
      → NamesType (named_in_form K z) (filled part.typ (widths_of ws (survey_layer z place).measured))
  form_named (Form-F.Ref name ss) place names e shape part is K fits none = inr (reference_named name place ss names e shape part is K fits none)
  form_named (Form-F.Literal kind width n) place names e shape part is K fits none = inl refl
  form_named (Form-F.Prim prim es params) place names e shape part is K fits none = inl refl
  form_named (Form-F.Mux es) place names e shape part is K fits none = inl refl

  pub expr_named : (e : Expr) → Every Name (IsIn tk) (references e) → (found_of tk e).faults ≡ [] → is_shaped e ≡ true
      → (part : Part) → (found_of tk e).part ≡ Some part → (K : Known) → Filled ws wk K → (survey ws e wk).faults ≡ []
      → NamesType (named_type K e) (filled part.typ (widths_of ws (survey ws e wk).measured))
  expr_named e names h shape part is K fits none =
      let j : found_of tk e ≡ judged_layer (out-Form e.form) e.place = judged_out e in
      let s : survey ws e wk ≡ survey_layer (out-Form e.form) e.place = survey_out e in
      subst (λ (x : Survey). NamesType (named_type K e) (filled part.typ (widths_of ws x.measured))) (sym s)
      (form_named (out-Form e.form) e.place (subst (Every Name (IsIn tk)) (names_out e) names) (ap (λ (x : Judgement). x.faults) (sym j) ∙ h) (sym (shaped_out e) ∙ shape)
      part (ap (λ (x : Judgement). x.part) (sym j) ∙ is) K fits (ap (λ (x : Survey). x.faults) (sym s) ∙ none))
