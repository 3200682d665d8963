-- An expression without faults is a part, where the names in it are known and its choices are of three.
use Rattle.std.proofs.Common.{◌≡◌, ℕ, Bool, true, false, List, [], ◌∷◌, ◌++◌, map, Option, Some, None, refl, sym, ap, ◌∙◌, subst}
use Rattle.std.specs.Prelude.{nat_lt, find, ◌==◌, is_some, Contains}
use Rattle.std.proofs.lemmas.List.Elements.{Contains-append_left, Contains-append_right}
use Rattle.place_text.specs.First.{HasNone}
use Rattle.bit_words.specs.declared.value.Kind.{Kind as Sign}
use Rattle.bit_words.specs.declared.number.Number.{Number}
use Rattle.bit_words.specs.Numbers.{integer_of_number}
use Rattle.place_text.specs.declared.place.Place.{Place}
use Rattle.prim_ops.specs.declared.operation.PrimOp.{PrimOp}
use Rattle.fir_types.specs.declared.fir_type.FirType.{FirType}
use Rattle.fir_types.specs.declared.fir_type.Shape.{Shape}
use Rattle.fir_types.specs.declared.fir_type.Shape.TheOpen.{Shape-F}
use Rattle.fir_types.specs.declared.fir_type.Shape.TheViews.{out-Shape}
use Rattle.fir_types.specs.declared.fir_type.Field.{Field}
use Rattle.fir_types.specs.declared.name.Name.{Name}
use Rattle.fir_tree.specs.declared.expr.Expr.{Expr, ind-Expr}
use Rattle.fir_tree.specs.declared.expr.Form.{Form}
use Rattle.fir_tree.specs.declared.expr.Suffix.{Suffix}
use Rattle.fir_tree.specs.declared.expr.Form.TheOpen.{Form-F, Suffix-F}
use Rattle.fir_tree.specs.declared.expr.Form.TheFolds.{map-Form, map-Suffix}
use Rattle.fir_tree.specs.declared.expr.Form.TheViews.{roll-Form, roll-Suffix, roll-Expr}
use Rattle.fir_tree.specs.declared.expr.Form.TheVariants as form
use Rattle.fir_tree.specs.declared.expr.Form.TheVariants.{rolls-Ref, rolls-Literal, rolls-Prim, rolls-Mux}
use Rattle.fir_tree.specs.declared.expr.Suffix.TheVariants as suffix
use Rattle.fir_tree.specs.declared.expr.Suffix.TheVariants.{rolls-Field, rolls-At, rolls-Index}
use Rattle.fir_tree.specs.declared.part.Part.{Part}
use Rattle.fir_tree.specs.Parts.{source_of}
use Rattle.fir_tree.specs.Kinds.{is_unsigned, ground, sign_or_unsigned}
use Rattle.type_check.specs.declared.fault.TypeFault.{TypeFault}
use Rattle.type_check.specs.declared.fault.TypeFault.TheVariants.{FieldUnknown, NotBundle, NotVector, IndexRange, IndexKind, OperandKind, LiteralFit}
use Rattle.type_check.specs.Parts.{Known, unless}
use Rattle.type_check.specs.Expressions.{Judgement, Operand, found_of, judged, suffix_step, along, as_node, node, over, operation, choice, choice_faults, typed_operands, with_operand, all_among, signs_of, row_of, result_type, fits_literal, from_index, field_step, field_found, element_step, element_found, index_step, indexed}
use Rattle.check_laws.specs.Typing.{IsPart}
use Rattle.check_laws.specs.Faults.{StandsIn, itself, in_operation, in_choice, in_index, IsComplete}
use Rattle.check_laws.proofs.Members.{head_in, tail_in}
use Rattle.check_laws.proofs.Typing.{ref_is, literal_is, prim_is, mux_is, field_is, at_is, index_is, is_part}
use Rattle.check_laws.proofs.Faults.{all_faults, operation_keeps, choice_keeps, operands_found, places_in}

abbrev Quiet : List TypeFault → Type 0
Quiet faults = HasNone (Contains faults)

quiet_left : (xs ys : List TypeFault) → Quiet (xs ++ ys) → Quiet xs
quiet_left xs ys h fault c = h fault (Contains-append_left xs ys fault c)

quiet_right : (xs ys : List TypeFault) → Quiet (xs ++ ys) → Quiet ys
quiet_right xs ys h fault c = h fault (Contains-append_right xs ys fault c)

-- what is found without faults is a part
abbrev Sound : Judgement → Type 0
Sound j = Quiet j.faults → (part : Part) × (j.part ≡ Some part)

unsound : (fault : TypeFault) (j : Judgement) → j.faults ≡ fault ∷ [] → Sound j
unsound fault j e q = absurd (q fault (subst (λ l. Contains l fault) (sym e) (head_in fault [])))

field_sound : (name : Name) (base : Part) (x : Shape-F Shape Field FirType) → Sound (field_step name base x)
field_sound name base (Shape-F.Bundle fs) = by (find (λ f. f.name.id == name.id) fs) where
  by : (o : Option Field) → Sound (field_found name base o)
  by (Some f) q = (_, refl)
  by None q = unsound (FieldUnknown name.place) (field_found name base None) refl q
field_sound name base (Shape-F.Unsigned w) = unsound (NotBundle name.place) (field_step name base (Shape-F.Unsigned w)) refl
field_sound name base (Shape-F.Signed w) = unsound (NotBundle name.place) (field_step name base (Shape-F.Signed w)) refl
field_sound name base Shape-F.Clock = unsound (NotBundle name.place) (field_step name base Shape-F.Clock) refl
field_sound name base Shape-F.Reset = unsound (NotBundle name.place) (field_step name base Shape-F.Reset) refl
field_sound name base Shape-F.AsyncReset = unsound (NotBundle name.place) (field_step name base Shape-F.AsyncReset) refl
field_sound name base (Shape-F.Vector e n) = unsound (NotBundle name.place) (field_step name base (Shape-F.Vector e n)) refl

at_sound : (bracket at : Place) (n : ℕ) (base : Part) (x : Shape-F Shape Field FirType) → Sound (element_step bracket at n base x)
at_sound bracket at n base (Shape-F.Vector e m) = by (nat_lt n m) where
  by : (b : Bool) → Sound (element_found base e b at)
  by true q = (_, refl)
  by false q = unsound (IndexRange at) (element_found base e false at) refl q
at_sound bracket at n base (Shape-F.Unsigned w) = unsound (NotVector bracket) (element_step bracket at n base (Shape-F.Unsigned w)) refl
at_sound bracket at n base (Shape-F.Signed w) = unsound (NotVector bracket) (element_step bracket at n base (Shape-F.Signed w)) refl
at_sound bracket at n base Shape-F.Clock = unsound (NotVector bracket) (element_step bracket at n base Shape-F.Clock) refl
at_sound bracket at n base Shape-F.Reset = unsound (NotVector bracket) (element_step bracket at n base Shape-F.Reset) refl
at_sound bracket at n base Shape-F.AsyncReset = unsound (NotVector bracket) (element_step bracket at n base Shape-F.AsyncReset) refl
at_sound bracket at n base (Shape-F.Bundle fs) = unsound (NotVector bracket) (element_step bracket at n base (Shape-F.Bundle fs)) refl

picked_sound : (bracket at : Place) (inner base : Part) (x : Shape-F Shape Field FirType) → Sound (index_step bracket at inner base x)
picked_sound bracket at inner base (Shape-F.Vector e m) = by (is_unsigned inner.typ) where
  by : (b : Bool) → Sound (indexed at base e b)
  by true q = (_, refl)
  by false q = unsound (IndexKind at) (indexed at base e false) refl q
picked_sound bracket at inner base (Shape-F.Unsigned w) = unsound (NotVector bracket) (index_step bracket at inner base (Shape-F.Unsigned w)) refl
picked_sound bracket at inner base (Shape-F.Signed w) = unsound (NotVector bracket) (index_step bracket at inner base (Shape-F.Signed w)) refl
picked_sound bracket at inner base Shape-F.Clock = unsound (NotVector bracket) (index_step bracket at inner base Shape-F.Clock) refl
picked_sound bracket at inner base Shape-F.Reset = unsound (NotVector bracket) (index_step bracket at inner base Shape-F.Reset) refl
picked_sound bracket at inner base Shape-F.AsyncReset = unsound (NotVector bracket) (index_step bracket at inner base Shape-F.AsyncReset) refl
picked_sound bracket at inner base (Shape-F.Bundle fs) = unsound (NotVector bracket) (index_step bracket at inner base (Shape-F.Bundle fs)) refl

node_sound : (place : Place) (faults : List TypeFault) (typ : FirType) (js : List Judgement) → Sound (node place faults typ js)
node_sound place [] typ js q = (source_of typ, refl)
node_sound place (fault ∷ faults) typ js q = absurd (q fault (Contains-append_right (all_faults js) (fault ∷ faults) fault (head_in fault faults)))

operation_sound : (op : PrimOp) (place : Place) (js : List Judgement) (os : List Operand) → Sound (over place (operation op place) js (Some os))
operation_sound op place js os =
    let row = row_of op (signs_of op os) in
    node_sound place (unless (is_some row) (OperandKind place)) (result_type op place (sign_or_unsigned row)) js

choice_sound : (place : Place) (js : List Judgement) (os : List Operand) (p q r : Place) → places_in os ≡ p ∷ q ∷ r ∷ [] → Sound (over place (choice place) js (Some os))
choice_sound place js [] p q r e = absurd cc
choice_sound place js (c ∷ []) p q r e = absurd cc
choice_sound place js (c ∷ a ∷ []) p q r e = absurd cc
choice_sound place js (c ∷ a ∷ b ∷ []) p q r e = node_sound place (choice_faults place c a b) a.typ js
choice_sound place js (c ∷ a ∷ b ∷ d ∷ os) p q r e = absurd cc

module _ (known : Known) where
  abbrev Complete : Expr → Type 0
  Complete e = (inner : Expr) → StandsIn inner e → IsComplete known inner

  abbrev ExprSound : Expr → Type 0
  ExprSound e = Complete e → Sound (found_of known e)

  abbrev FormSound : Form → Type 0
  FormSound φ = (place : Place) → ExprSound (record { place = place; form = φ })

  abbrev IndexComplete : Suffix → Type 0
  IndexComplete s = (bracket : Place) (index : Expr) → s ≡ suffix.Index bracket index → Complete index

  abbrev SuffixSound : Suffix → Type 0
  SuffixSound s = (base : Part) → IndexComplete s → Sound (suffix_step s known (Some base))

  index_sound : (bracket : Place) (index : Expr) → ExprSound index → SuffixSound (suffix.Index bracket index)
  index_sound bracket index sound base complete =
      let at : Place = (judged index).place in
      let j : Judgement = found_of known index in
      subst Sound (sym (index_is known (suffix.Index bracket index) bracket index base refl)) (λ q.
      let own = sound (complete bracket index refl) (quiet_left j.faults (from_index bracket at j.part (Some base)).faults q) in
      subst (λ i. Sound (from_index bracket at i (Some base))) (sym own.1) (picked_sound bracket at own.0 base (out-Shape base.typ.shape))
      (quiet_right j.faults (from_index bracket at j.part (Some base)).faults q))

  suffix_sound : (y : Suffix-F ((φ : Form) × FormSound φ) ((s : Suffix) × SuffixSound s) ((e : Expr) × ExprSound e))
      → SuffixSound (roll-Suffix (map-Suffix _ _ _ Form Suffix Expr (λ e. e.0) (λ e. e.0) (λ e. e.0) y))
  suffix_sound (Suffix-F.Field name) = subst SuffixSound (sym (rolls-Field name)) (λ base complete.
      subst Sound (sym (field_is known (suffix.Field name) name base refl)) (field_sound name base (out-Shape base.typ.shape)))
  suffix_sound (Suffix-F.At bracket at n) = subst SuffixSound (sym (rolls-At bracket at n)) (λ base complete.
      subst Sound (sym (at_is known (suffix.At bracket at n) bracket at n base refl)) (at_sound bracket at n base (out-Shape base.typ.shape)))
  suffix_sound (Suffix-F.Index bracket p) = subst SuffixSound (sym (rolls-Index bracket p.0)) (index_sound bracket p.0 p.1)

  along_sound : (ps : List ((s : Suffix) × SuffixSound s)) (base : Part) → ((s : Suffix) → Contains (map (λ e. e.0) ps) s → IndexComplete s)
      → Sound (along (map suffix_step (map (λ e. e.0) ps)) known (Some base))
  along_sound [] base complete q = (base, refl)
  along_sound (p ∷ ps) base complete q =
      let ss : List Suffix = map (λ e. e.0) ps in
      let first : Judgement = suffix_step p.0 known (Some base) in
      let step = p.1 base (complete p.0 (head_in p.0 ss)) (quiet_left first.faults (along (map suffix_step ss) known first.part).faults q) in
      subst (λ o. Sound (along (map suffix_step ss) known o)) (sym step.1) (along_sound ps step.0 (λ s c. complete s (tail_in p.0 ss s c)))
      (quiet_right first.faults (along (map suffix_step ss) known first.part).faults q)

  operands_sound : (ps : List ((e : Expr) × ExprSound e)) → ((e : Expr) → Contains (map (λ e. e.0) ps) e → Complete e)
      → Quiet (all_faults (all_among known (map judged (map (λ e. e.0) ps)))) → (os : List Operand) × (typed_operands known (map judged (map (λ e. e.0) ps)) ≡ Some os)
  operands_sound [] complete q = ([], refl)
  operands_sound (p ∷ ps) complete q =
      let es : List Expr = map (λ e. e.0) ps in
      let js : List Judgement = all_among known (map judged es) in
      let own = p.1 (complete p.0 (head_in p.0 es)) (quiet_left (found_of known p.0).faults (all_faults js) q) in
      let more = operands_sound ps (λ e c. complete e (tail_in p.0 es e c)) (quiet_right (found_of known p.0).faults (all_faults js) q) in (
        record { place = (judged p.0).place; typ = own.0.typ } ∷ more.0,
        ap (λ a. with_operand a (judged p.0).place (typed_operands known (map judged es))) own.1 ∙ ap (with_operand (Some own.0) (judged p.0).place) more.1,
      )

  reference_sound : (name : Name) (ps : List ((s : Suffix) × SuffixSound s)) → FormSound (form.Ref name (map (λ e. e.0) ps))
  reference_sound name ps place complete =
      let ss : List Suffix = map (λ e. e.0) ps in
      let whole : Expr = record { place = place; form = form.Ref name (map (λ e. e.0) ps) } in
      let base = (complete whole itself).names name ss refl in
      subst Sound (sym (ref_is known whole name ss refl)) (subst (λ o. Sound (as_node place (along (map suffix_step ss) known o))) (sym base.1)
      (along_sound ps base.0 (λ s c bracket index is inner stands. complete inner (in_index name ss bracket index refl (subst (Contains ss) is c) stands))))

  literal_sound : (sign : Sign) (width : Option ℕ) (number : Number) → FormSound (form.Literal sign width number)
  literal_sound sign width number place complete =
      let whole : Expr = record { place = place; form = form.Literal sign width number } in
      subst Sound (sym (literal_is known whole sign width number refl))
      (node_sound place (unless (fits_literal sign width (integer_of_number number)) (LiteralFit place)) (ground place sign width) [])

  prim_sound : (op : PrimOp) (ps : List ((e : Expr) × ExprSound e)) (params : List ℕ) → FormSound (form.Prim op (map (λ e. e.0) ps) params)
  prim_sound op ps params place complete =
      let es : List Expr = map (λ e. e.0) ps in
      let whole : Expr = record { place = place; form = form.Prim op (map (λ e. e.0) ps) params } in
      let js : List Judgement = all_among known (map judged es) in
      subst Sound (sym (prim_is known whole op es params refl)) (λ q.
      let os = operands_sound ps (λ e c inner stands. complete inner (in_operation op es params e refl c stands))
      (λ fault c. q fault (operation_keeps op place js (typed_operands known (map judged es)) fault c)) in
      subst (λ o. Sound (over place (operation op place) js o)) (sym os.1) (operation_sound op place js os.0) q)

  mux_sound : (ps : List ((e : Expr) × ExprSound e)) → FormSound (form.Mux (map (λ e. e.0) ps))
  mux_sound ps place complete =
      let es : List Expr = map (λ e. e.0) ps in
      let whole : Expr = record { place = place; form = form.Mux (map (λ e. e.0) ps) } in
      let js : List Judgement = all_among known (map judged es) in
      let three = (complete whole itself).choices es refl in
      subst Sound (sym (mux_is known whole es refl)) (λ q.
      let os = operands_sound ps (λ e c inner stands. complete inner (in_choice es e refl c stands))
      (λ fault c. q fault (choice_keeps place js (typed_operands known (map judged es)) fault c)) in
      subst (λ o. Sound (over place (choice place) js o)) (sym os.1) (choice_sound place js os.0 three.0.place three.1.place three.2.place
      ((operands_found known es os.0 os.1).1 ∙ ap (map (λ (e : Expr). e.place)) three.3)) q)

  form_sound : (y : Form-F ((φ : Form) × FormSound φ) ((s : Suffix) × SuffixSound s) ((e : Expr) × ExprSound e))
      → FormSound (roll-Form (map-Form _ _ _ Form Suffix Expr (λ e. e.0) (λ e. e.0) (λ e. e.0) y))
  form_sound (Form-F.Ref name ps) = subst FormSound (sym (rolls-Ref name (map (λ e. e.0) ps))) (reference_sound name ps)
  form_sound (Form-F.Literal sign width number) = subst FormSound (sym (rolls-Literal sign width number)) (literal_sound sign width number)
  form_sound (Form-F.Prim op ps params) = subst FormSound (sym (rolls-Prim op (map (λ e. e.0) ps) params)) (prim_sound op ps params)
  form_sound (Form-F.Mux ps) = subst FormSound (sym (rolls-Mux (map (λ e. e.0) ps))) (mux_sound ps)

  sound : (e : Expr) → ExprSound e
  sound = ind-Expr FormSound SuffixSound ExprSound
      (λ x y is. subst (λ z. FormSound (roll-Form z)) is (form_sound y))
      (λ x y is. subst (λ z. SuffixSound (roll-Suffix z)) is (suffix_sound y))
      (λ x y is. subst (λ z. ExprSound (roll-Expr z)) is (y.form.1 y.place))

pub faultless_parts : (known : Known) (e : Expr) → ((inner : Expr) → StandsIn inner e → IsComplete known inner) → HasNone (Contains (found_of known e).faults)
    → (part : Part) × IsPart known e part
faultless_parts known e complete q = let its = sound known e complete q in (its.0, is_part known e its.0 its.1)
