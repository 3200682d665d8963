-- The faults that are found of an expression are its own, and those of the expressions that stand in it.
use Rattle.std.proofs.Common.{◌≡◌, ◌⊎◌, ℕ, Bool, true, false, not, ◌||◌, List, [], ◌∷◌, ◌++◌, map, Option, Some, None, refl, sym, ap, ap₂, ◌∙◌, subst, inl, inr, arith, ⊎_elim}
use Rattle.std.specs.Prelude.{◌↔◌, nat_lt, find, ◌==◌, is_some, Contains, flat_map}
use Rattle.std.proofs.lemmas.Grind.{common_steps}
use Rattle.std.proofs.lemmas.Bool.{ltb-false, le-ltb}
use Rattle.std.proofs.lemmas.List.Elements.{Contains-append_left, Contains-append_right, Contains-append_cases}
use Rattle.bit_words.specs.declared.value.Kind.{Kind as Sign}
use Rattle.bit_words.specs.declared.number.Number.{Number}
use Rattle.bit_words.specs.Numbers.{integer_of_number}
use Rattle.place_text.specs.declared.place.Place.{Place}
use Rattle.prim_ops.specs.declared.operation.PrimOp.{PrimOp}
use Rattle.prim_ops.specs.Kinds.{row_kind}
use Rattle.fir_types.specs.declared.fir_type.FirType.{FirType}
use Rattle.fir_types.specs.declared.fir_type.Shape.{Shape}
use Rattle.fir_types.specs.declared.fir_type.Shape.TheOpen.{Shape-F}
use Rattle.fir_types.specs.declared.fir_type.Shape.TheViews.{out-Shape, roll-Shape}
use Rattle.fir_types.specs.declared.fir_type.Shape.TheVariants as shape
use Rattle.fir_types.specs.declared.fir_type.Shape.TheVariants.{outs-Unsigned, outs-Signed, outs-Clock, outs-Reset, outs-AsyncReset, outs-Bundle, outs-Vector, rolls-Unsigned, rolls-Signed, rolls-Clock, rolls-Reset, rolls-AsyncReset, rolls-Bundle, rolls-Vector}
use Rattle.fir_types.specs.declared.fir_type.Field.{Field}
use Rattle.fir_types.specs.declared.name.Name.{Name}
use Rattle.fir_types.specs.Passivity.{has_flip}
use Rattle.fir_tree.specs.declared.expr.Expr.{Expr, ind-Expr, the_lemmas}
use Rattle.fir_tree.specs.declared.expr.Form.{Form}
use Rattle.fir_tree.specs.declared.expr.Suffix.{Suffix}
use Rattle.fir_tree.specs.declared.expr.Form.TheOpen.{Form-F, Suffix-F}
use Rattle.fir_tree.specs.declared.expr.Form.TheFolds.{map-Form, map-Suffix}
use Rattle.fir_tree.specs.declared.expr.Form.TheViews.{roll-Form, roll-Suffix, roll-Expr}
use Rattle.fir_tree.specs.declared.expr.Form.TheVariants as form
use Rattle.fir_tree.specs.declared.expr.Form.TheVariants.{rolls-Ref, rolls-Literal, rolls-Prim, rolls-Mux}
use Rattle.fir_tree.specs.declared.expr.Suffix.TheVariants as suffix
use Rattle.fir_tree.specs.declared.expr.Suffix.TheVariants.{rolls-Field, rolls-At, rolls-Index}
use Rattle.fir_tree.specs.declared.part.Part.{Part}
use Rattle.fir_tree.specs.Kinds.{is_unsigned}
use Rattle.fir_tree.proofs.Shapes.{ShapeCase, shape_uint, shape_sint, shape_clock, shape_reset, shape_async, shape_bundle, shape_vector, case_of}
use Rattle.type_check.specs.declared.fault.TypeFault.{TypeFault}
use Rattle.type_check.specs.declared.fault.TypeFault.TheVariants.{FieldUnknown, NotBundle, NotVector, IndexRange, IndexKind, OperandKind, NotEquivalent, ConditionKind, NotPassive, LiteralFit}
use Rattle.type_check.specs.Parts.{Known, component, unless, when, one_fault}
use Rattle.type_check.specs.Texts.{has_signal, is_passive, are_equivalent}
use Rattle.type_check.specs.Expressions.{Judgement, Operand, found_of, judged, suffix_step, along, behind, over, operation, choice, choice_faults, typed_operands, with_operand, all_among, signs_of, row_of, fits_literal, from_index, field_step, field_found, element_step, element_found, index_step, indexed}
use Rattle.type_check.proofs.Equivalence.{yes, is_equivalent}
use Rattle.check_laws.specs.Typing.{IsPart, HaveTypes, no_operands, one_operand}
use Rattle.check_laws.specs.Faults.{IsNoBundle, IsNoVector, StepFails, no_bundle, no_field, no_vector, past_the_end, nothing_to_index, no_number, WayFails, here, further, HasRow, ChoiceFails, condition_kind, a_signal, first_flips, second_flips, unlike, operand_of, IsAtFault, reference, literal, operation as an_operation, choice as a_choice, StandsIn, itself, in_operation, in_choice, in_index}
use Rattle.check_laws.proofs.Members.{nothing_in, head_in, tail_in, in_cases}
use Rattle.check_laws.proofs.Typing.{some_same, none_some, heads, tails, ref_is, literal_is, prim_is, mux_is, field_is, at_is, index_is, field_out, at_out, index_out, unsigned_is, is_unsigned_yes, signs_some, signs_back, SuffixIs, suffix_case, is_part, found_is, step_found, types_found}

-- Answers

no_truth : (b : Bool) → ¬ (b ≡ true) → b ≡ false
no_truth false h = refl
no_truth true h = absurd (h refl)

not_both : (b : Bool) → b ≡ false → b ≡ true → ⊥
not_both true e q = cc
not_both false e q = cc

only_one : (given fault : TypeFault) → Contains (one_fault given) fault → given ≡ fault
only_one given fault c = ⊎_elim (λ same. same) (λ later. absurd (nothing_in fault later)) (in_cases given [] fault c)

unless_tells : (b : Bool) (given fault : TypeFault) → Contains (unless b given) fault → (b ≡ false) × (given ≡ fault)
unless_tells true given fault c = absurd (nothing_in fault c)
unless_tells false given fault c = (refl, only_one given fault c)

told_unless : (b : Bool) (given : TypeFault) → b ≡ false → Contains (unless b given) given
told_unless false given e = head_in given []
told_unless true given e = absurd cc

when_tells : (b : Bool) (given fault : TypeFault) → Contains (when b given) fault → (b ≡ true) × (given ≡ fault)
when_tells false given fault c = absurd (nothing_in fault c)
when_tells true given fault c = (refl, only_one given fault c)

told_when : (b : Bool) (given : TypeFault) → b ≡ true → Contains (when b given) given
told_when true given e = head_in given []
told_when false given e = absurd cc

-- Shapes

abbrev is_bundle : Shape-F Shape Field FirType → Bool
is_bundle (Shape-F.Bundle fields) = true
is_bundle _ = false

abbrev is_vector : Shape-F Shape Field FirType → Bool
is_vector (Shape-F.Vector element length) = true
is_vector _ = false

rolled : (s : Shape) (x : Shape-F Shape Field FirType) → out-Shape s ≡ x → s ≡ roll-Shape x
rolled s x q = by (case_of s) where
  by : ShapeCase s → s ≡ roll-Shape x
  by (shape_uint w k) = k ∙ sym (rolls-Unsigned w) ∙ ap roll-Shape (sym (ap out-Shape k ∙ outs-Unsigned w) ∙ q)
  by (shape_sint w k) = k ∙ sym (rolls-Signed w) ∙ ap roll-Shape (sym (ap out-Shape k ∙ outs-Signed w) ∙ q)
  by (shape_clock k) = k ∙ sym rolls-Clock ∙ ap roll-Shape (sym (ap out-Shape k ∙ outs-Clock) ∙ q)
  by (shape_reset k) = k ∙ sym rolls-Reset ∙ ap roll-Shape (sym (ap out-Shape k ∙ outs-Reset) ∙ q)
  by (shape_async k) = k ∙ sym rolls-AsyncReset ∙ ap roll-Shape (sym (ap out-Shape k ∙ outs-AsyncReset) ∙ q)
  by (shape_bundle fs k) = k ∙ sym (rolls-Bundle fs) ∙ ap roll-Shape (sym (ap out-Shape k ∙ outs-Bundle fs) ∙ q)
  by (shape_vector o n k) = k ∙ sym (rolls-Vector o n) ∙ ap roll-Shape (sym (ap out-Shape k ∙ outs-Vector o n) ∙ q)

a_bundle : (t : FirType) (fs : List Field) → out-Shape t.shape ≡ Shape-F.Bundle fs → t.shape ≡ shape.Bundle fs
a_bundle t fs q = rolled t.shape (Shape-F.Bundle fs) q ∙ rolls-Bundle fs

a_vector : (t o : FirType) (n : ℕ) → out-Shape t.shape ≡ Shape-F.Vector o n → t.shape ≡ shape.Vector o n
a_vector t o n q = rolled t.shape (Shape-F.Vector o n) q ∙ rolls-Vector o n

not_bundle : (t : FirType) (x : Shape-F Shape Field FirType) → out-Shape t.shape ≡ x → is_bundle x ≡ false → IsNoBundle t
not_bundle t x q e fs k = not_both (is_bundle x) e (ap is_bundle (sym q ∙ ap out-Shape k ∙ outs-Bundle fs))

not_vector : (t : FirType) (x : Shape-F Shape Field FirType) → out-Shape t.shape ≡ x → is_vector x ≡ false → IsNoVector t
not_vector t x q e o n k = not_both (is_vector x) e (ap is_vector (sym q ∙ ap out-Shape k ∙ outs-Vector o n))

-- Choices

choice_fails : (place : Place) (c a b : Operand) (fault : TypeFault) → Contains (choice_faults place c a b) fault → ChoiceFails place c a b fault
choice_fails place c a b fault h = ⊎_elim
    (λ l. let t = unless_tells (is_unsigned c.typ) (ConditionKind c.place) fault l in
    subst (ChoiceFails place c a b) t.1 (condition_kind (λ is. not_both (is_unsigned c.typ) t.0 (is_unsigned_yes is))))
    (λ r1. ⊎_elim
    (λ l. let t = when_tells (has_signal a.typ || has_signal b.typ) (OperandKind place) fault l in subst (ChoiceFails place c a b) t.1 (a_signal t.0))
    (λ r2. ⊎_elim
    (λ l. let t = unless_tells (is_passive a.typ) (NotPassive a.place) fault l in
    subst (ChoiceFails place c a b) t.1 (first_flips (λ is. not_both (is_passive a.typ) t.0 (ap not is))))
    (λ r3. ⊎_elim
    (λ l. let t = unless_tells (is_passive b.typ) (NotPassive b.place) fault l in
    subst (ChoiceFails place c a b) t.1 (second_flips (λ is. not_both (is_passive b.typ) t.0 (ap not is))))
    (λ r. let t = unless_tells (are_equivalent a.typ b.typ) (NotEquivalent b.place) fault r in
    subst (ChoiceFails place c a b) t.1 (unlike (λ is. not_both (are_equivalent a.typ b.typ) t.0 (yes is))))
    (Contains-append_cases others same fault r3))
    (Contains-append_cases passive (others ++ same) fault r2))
    (Contains-append_cases signals (passive ++ (others ++ same)) fault r1))
    (Contains-append_cases kind (signals ++ (passive ++ (others ++ same))) fault h)
  where
    kind : List TypeFault
    kind = unless (is_unsigned c.typ) (ConditionKind c.place)

    signals : List TypeFault
    signals = when (has_signal a.typ || has_signal b.typ) (OperandKind place)

    passive : List TypeFault
    passive = unless (is_passive a.typ) (NotPassive a.place)

    others : List TypeFault
    others = unless (is_passive b.typ) (NotPassive b.place)

    same : List TypeFault
    same = unless (are_equivalent a.typ b.typ) (NotEquivalent b.place)

-- not passive is with a flip
flips : (b : Bool) → ¬ (b ≡ false) → not b ≡ false
flips true h = refl
flips false h = absurd (h refl)

fails_choice : (place : Place) (c a b : Operand) (fault : TypeFault) → ChoiceFails place c a b fault → Contains (choice_faults place c a b) fault
fails_choice place c a b fault h = by fault h where
  kind : List TypeFault
  kind = unless (is_unsigned c.typ) (ConditionKind c.place)

  signals : List TypeFault
  signals = when (has_signal a.typ || has_signal b.typ) (OperandKind place)

  passive : List TypeFault
  passive = unless (is_passive a.typ) (NotPassive a.place)

  others : List TypeFault
  others = unless (is_passive b.typ) (NotPassive b.place)

  same : List TypeFault
  same = unless (are_equivalent a.typ b.typ) (NotEquivalent b.place)

  behind_kind : (fault : TypeFault) → Contains (signals ++ (passive ++ (others ++ same))) fault → Contains (choice_faults place c a b) fault
  behind_kind fault r = Contains-append_right kind (signals ++ (passive ++ (others ++ same))) fault r

  behind_signals : (fault : TypeFault) → Contains (passive ++ (others ++ same)) fault → Contains (choice_faults place c a b) fault
  behind_signals fault r = behind_kind fault (Contains-append_right signals (passive ++ (others ++ same)) fault r)

  behind_passive : (fault : TypeFault) → Contains (others ++ same) fault → Contains (choice_faults place c a b) fault
  behind_passive fault r = behind_signals fault (Contains-append_right passive (others ++ same) fault r)

  by : (fault : TypeFault) → ChoiceFails place c a b fault → Contains (choice_faults place c a b) fault
  by fault (condition_kind isnt) = Contains-append_left kind (signals ++ (passive ++ (others ++ same))) fault
      (told_unless (is_unsigned c.typ) (ConditionKind c.place) (no_truth (is_unsigned c.typ) (λ e. isnt (unsigned_is c.typ e))))
  by fault (a_signal is) = behind_kind fault (Contains-append_left signals (passive ++ (others ++ same)) fault (told_when (has_signal a.typ || has_signal b.typ) (OperandKind place) is))
  by fault (first_flips isnt) = behind_signals fault (Contains-append_left passive (others ++ same) fault (told_unless (is_passive a.typ) (NotPassive a.place) (flips (has_flip a.typ) isnt)))
  by fault (second_flips isnt) = behind_passive fault (Contains-append_left others same fault (told_unless (is_passive b.typ) (NotPassive b.place) (flips (has_flip b.typ) isnt)))
  by fault (unlike isnt) = behind_passive fault (Contains-append_right others same fault
      (told_unless (are_equivalent a.typ b.typ) (NotEquivalent b.place) (no_truth (are_equivalent a.typ b.typ) (λ e. isnt (is_equivalent a.typ b.typ e)))))

-- an expression's place
place_is : (e : Expr) → (judged e).place ≡ e.place
place_is e = grind (arith, common_steps, the_lemmas)

-- Nodes over operands keep the faults of these

abbrev pub all_faults : List Judgement → List TypeFault
all_faults js = flat_map (λ (j : Judgement). j.faults) js

pub operation_keeps : (op : PrimOp) (place : Place) (js : List Judgement) (o : Option (List Operand)) (fault : TypeFault) → Contains (all_faults js) fault
    → Contains (over place (operation op place) js o).faults fault
operation_keeps op place js None fault c = c
operation_keeps op place js (Some os) fault c = Contains-append_left (all_faults js) (unless (is_some (row_of op (signs_of op os))) (OperandKind place)) fault c

pub choice_keeps : (place : Place) (js : List Judgement) (o : Option (List Operand)) (fault : TypeFault) → Contains (all_faults js) fault
    → Contains (over place (choice place) js o).faults fault
choice_keeps place js None fault h = h
choice_keeps place js (Some []) fault h = h
choice_keeps place js (Some (c ∷ [])) fault h = h
choice_keeps place js (Some (c ∷ a ∷ [])) fault h = h
choice_keeps place js (Some (c ∷ a ∷ b ∷ [])) fault h = Contains-append_left (all_faults js) (choice_faults place c a b) fault h
choice_keeps place js (Some (c ∷ a ∷ b ∷ d ∷ os)) fault h = h

operation_tells : (op : PrimOp) (place : Place) (js : List Judgement) (o : Option (List Operand)) (fault : TypeFault) → Contains (over place (operation op place) js o).faults fault
    → Contains (all_faults js) fault ⊎ ((os : List Operand) × (o ≡ Some os) × Contains (unless (is_some (row_of op (signs_of op os))) (OperandKind place)) fault)
operation_tells op place js None fault c = inl c
operation_tells op place js (Some os) fault c = ⊎_elim inl (λ own. inr (os, refl, own))
    (Contains-append_cases (all_faults js) (unless (is_some (row_of op (signs_of op os))) (OperandKind place)) fault c)

abbrev OwnOfChoice : Place → Option (List Operand) → TypeFault → Type 0
OwnOfChoice place o fault = (c : Operand) × (a : Operand) × (b : Operand) × (o ≡ Some (c ∷ a ∷ b ∷ [])) × Contains (choice_faults place c a b) fault

choice_tells : (place : Place) (js : List Judgement) (o : Option (List Operand)) (fault : TypeFault) → Contains (over place (choice place) js o).faults fault
    → Contains (all_faults js) fault ⊎ OwnOfChoice place o fault
choice_tells place js None fault h = inl h
choice_tells place js (Some []) fault h = inl h
choice_tells place js (Some (c ∷ [])) fault h = inl h
choice_tells place js (Some (c ∷ a ∷ [])) fault h = inl h
choice_tells place js (Some (c ∷ a ∷ b ∷ [])) fault h = ⊎_elim inl (λ own. inr (c, a, b, refl, own)) (Contains-append_cases (all_faults js) (choice_faults place c a b) fault h)
choice_tells place js (Some (c ∷ a ∷ b ∷ d ∷ os)) fault h = inl h

abbrev types_in : List Operand → List FirType
types_in os = map (λ (o : Operand). o.typ) os

abbrev pub places_in : List Operand → List Place
places_in os = map (λ (o : Operand). o.place) os

row_there : (op : PrimOp) (os : List Operand) → is_some (row_of op (signs_of op os)) ≡ false → ¬ (HasRow op (types_in os))
row_there op os e (signs, sign, kinds, row) =
    not_both (is_some (row_of op (signs_of op os))) e (ap (λ s. is_some (row_of op s)) (signs_back op os signs kinds) ∙ ap is_some row)

no_row : (op : PrimOp) (os : List Operand) → ¬ (HasRow op (types_in os)) → is_some (row_of op (signs_of op os)) ≡ false
no_row op os isnt = by (signs_of op os) refl where
  row_by : (signs : List Sign) (row : Option Sign) → signs_of op os ≡ Some signs → row_kind op signs ≡ row → is_some row ≡ false
  row_by signs None q r = refl
  row_by signs (Some sign) q r = absurd (isnt (signs, sign, signs_some op os signs q, r))

  by : (s : Option (List Sign)) → signs_of op os ≡ s → is_some (row_of op s) ≡ false
  by None q = refl
  by (Some signs) q = row_by signs (row_kind op signs) q refl

module _ (known : Known) where
  pub operands_found : (es : List Expr) (os : List Operand) → typed_operands known (map judged es) ≡ Some os
      → HaveTypes known es (types_in os) × (places_in os ≡ map (λ (e : Expr). e.place) es)
  operands_found [] os e = subst (λ os. HaveTypes known [] (types_in os) × (places_in os ≡ [])) (some_same e) (no_operands, refl)
  operands_found (x ∷ es) os e = by (found_of known x).part (typed_operands known (map judged es)) refl refl (operands_found es) e where
    by : (a : Option Part) (b : Option (List Operand)) → (found_of known x).part ≡ a → typed_operands known (map judged es) ≡ b
        → ((rest : List Operand) → typed_operands known (map judged es) ≡ Some rest → HaveTypes known es (types_in rest) × (places_in rest ≡ map (λ (e : Expr). e.place) es))
        → with_operand a (judged x).place b ≡ Some os
        → HaveTypes known (x ∷ es) (types_in os) × (places_in os ≡ map (λ (e : Expr). e.place) (x ∷ es))
    by (Some part) (Some rest) q r others e' =
        let more = others rest r in
        subst (λ os. HaveTypes known (x ∷ es) (types_in os) × (places_in os ≡ map (λ (e : Expr). e.place) (x ∷ es))) (some_same e')
        (one_operand (is_part known x part q) more.0, ap₂ (λ p ps. p ∷ ps) (place_is x) more.1)
    by (Some part) None q r others e' = absurd (none_some e')
    by None b q r others e' = absurd (none_some e')

  -- From what is found to the relation

  abbrev Told : Expr → TypeFault → Type 0
  Told e fault = (inner : Expr) × StandsIn inner e × IsAtFault known inner fault

  abbrev ExprTold : Expr → Type 0
  ExprTold e = (fault : TypeFault) → Contains (found_of known e).faults fault → Told e fault

  abbrev FormTold : Form → Type 0
  FormTold φ = (place : Place) → ExprTold (record { place = place; form = φ })

  -- a fault of an index
  abbrev IndexTold : Suffix → TypeFault → Type 0
  IndexTold s fault = (bracket : Place) × (index : Expr) × (s ≡ suffix.Index bracket index) × Told index fault

  abbrev StepTold : Suffix → Option Part → TypeFault → Type 0
  StepTold s o fault = IndexTold s fault ⊎ ((base : Part) × (o ≡ Some base) × StepFails known base s fault)

  abbrev SuffixTold : Suffix → Type 0
  SuffixTold s = SuffixIs known s × ((o : Option Part) (fault : TypeFault) → Contains (suffix_step s known o).faults fault → StepTold s o fault)

  field_told : (name : Name) (o : Option Part) (fault : TypeFault) → Contains (suffix_step (suffix.Field name) known o).faults fault → StepTold (suffix.Field name) o fault
  field_told name None fault c = absurd (nothing_in fault (subst (λ (j : Judgement). Contains j.faults fault) (field_out known (suffix.Field name) name refl) c))
  field_told name (Some base) fault c =
      inr (base, refl, by (out-Shape base.typ.shape) refl (subst (λ (j : Judgement). Contains j.faults fault) (field_is known (suffix.Field name) name base refl) c)) where
        Fails : Type 0
        Fails = StepFails known base (suffix.Field name) fault

        found : (fs : List Field) (o : Option Field) → base.typ.shape ≡ shape.Bundle fs → find (λ f. f.name.id == name.id) fs ≡ o → Contains (field_found name base o).faults fault → Fails
        found fs (Some f) k q h = absurd (nothing_in fault h)
        found fs None k q h = subst (StepFails known base (suffix.Field name)) (only_one (FieldUnknown name.place) fault h) (no_field name fs refl k q)

        none : IsNoBundle base.typ → Contains (one_fault (NotBundle name.place)) fault → Fails
        none isnt h = subst (StepFails known base (suffix.Field name)) (only_one (NotBundle name.place) fault h) (no_bundle name refl isnt)

        by : (x : Shape-F Shape Field FirType) → out-Shape base.typ.shape ≡ x → Contains (field_step name base x).faults fault → Fails
        by (Shape-F.Bundle fs) q h = found fs (find (λ f. f.name.id == name.id) fs) (a_bundle base.typ fs q) refl h
        by (Shape-F.Unsigned w) q h = none (not_bundle base.typ (Shape-F.Unsigned w) q refl) h
        by (Shape-F.Signed w) q h = none (not_bundle base.typ (Shape-F.Signed w) q refl) h
        by Shape-F.Clock q h = none (not_bundle base.typ Shape-F.Clock q refl) h
        by Shape-F.Reset q h = none (not_bundle base.typ Shape-F.Reset q refl) h
        by Shape-F.AsyncReset q h = none (not_bundle base.typ Shape-F.AsyncReset q refl) h
        by (Shape-F.Vector e n) q h = none (not_bundle base.typ (Shape-F.Vector e n) q refl) h

  at_told : (bracket at : Place) (n : ℕ) (o : Option Part) (fault : TypeFault) → Contains (suffix_step (suffix.At bracket at n) known o).faults fault → StepTold (suffix.At bracket at n) o fault
  at_told bracket at n None fault c = absurd (nothing_in fault (subst (λ (j : Judgement). Contains j.faults fault) (at_out known (suffix.At bracket at n) bracket at n refl) c))
  at_told bracket at n (Some base) fault c =
      inr (base, refl, by (out-Shape base.typ.shape) refl (subst (λ (j : Judgement). Contains j.faults fault) (at_is known (suffix.At bracket at n) bracket at n base refl) c)) where
        Fails : Type 0
        Fails = StepFails known base (suffix.At bracket at n) fault

        found : (e : FirType) (m : ℕ) (b : Bool) → base.typ.shape ≡ shape.Vector e m → nat_lt n m ≡ b → Contains (element_found base e b at).faults fault → Fails
        found e m true k q h = absurd (nothing_in fault h)
        found e m false k q h = subst (StepFails known base (suffix.At bracket at n)) (only_one (IndexRange at) fault h) (past_the_end bracket at n e m refl k (ltb-false n m q))

        none : IsNoVector base.typ → Contains (one_fault (NotVector bracket)) fault → Fails
        none isnt h = subst (StepFails known base (suffix.At bracket at n)) (only_one (NotVector bracket) fault h) (no_vector bracket at n refl isnt)

        by : (x : Shape-F Shape Field FirType) → out-Shape base.typ.shape ≡ x → Contains (element_step bracket at n base x).faults fault → Fails
        by (Shape-F.Vector e m) q h = found e m (nat_lt n m) (a_vector base.typ e m q) refl h
        by (Shape-F.Unsigned w) q h = none (not_vector base.typ (Shape-F.Unsigned w) q refl) h
        by (Shape-F.Signed w) q h = none (not_vector base.typ (Shape-F.Signed w) q refl) h
        by Shape-F.Clock q h = none (not_vector base.typ Shape-F.Clock q refl) h
        by Shape-F.Reset q h = none (not_vector base.typ Shape-F.Reset q refl) h
        by Shape-F.AsyncReset q h = none (not_vector base.typ Shape-F.AsyncReset q refl) h
        by (Shape-F.Bundle fs) q h = none (not_vector base.typ (Shape-F.Bundle fs) q refl) h

  pub index_any : (s : Suffix) (bracket : Place) (index : Expr) (o : Option Part) → s ≡ suffix.Index bracket index
      → suffix_step s known o ≡ behind (found_of known index) (from_index bracket (judged index).place (found_of known index).part o)
  index_any s bracket index None is = index_out known s bracket index is
  index_any s bracket index (Some base) is = index_is known s bracket index base is

  picked_told : (bracket : Place) (index : Expr) (inner base : Part) (fault : TypeFault) → IsPart known index inner
      → Contains (index_step bracket (judged index).place inner base (out-Shape base.typ.shape)).faults fault → StepFails known base (suffix.Index bracket index) fault
  picked_told bracket index inner base fault its c = by (out-Shape base.typ.shape) refl c where
    Fails : TypeFault → Type 0
    Fails fault = StepFails known base (suffix.Index bracket index) fault

    found : (e : FirType) (m : ℕ) (b : Bool) → base.typ.shape ≡ shape.Vector e m → is_unsigned inner.typ ≡ b → Contains (indexed (judged index).place base e b).faults fault → Fails fault
    found e m true k q h = absurd (nothing_in fault h)
    found e m false k q h = subst Fails (ap IndexKind (sym (place_is index)) ∙ only_one (IndexKind (judged index).place) fault h)
        (no_number bracket index inner e m refl its k (λ is. not_both (is_unsigned inner.typ) q (is_unsigned_yes is)))

    none : IsNoVector base.typ → Contains (one_fault (NotVector bracket)) fault → Fails fault
    none isnt h = subst Fails (only_one (NotVector bracket) fault h) (nothing_to_index bracket index inner refl its isnt)

    by : (x : Shape-F Shape Field FirType) → out-Shape base.typ.shape ≡ x → Contains (index_step bracket (judged index).place inner base x).faults fault → Fails fault
    by (Shape-F.Vector e m) q h = found e m (is_unsigned inner.typ) (a_vector base.typ e m q) refl h
    by (Shape-F.Unsigned w) q h = none (not_vector base.typ (Shape-F.Unsigned w) q refl) h
    by (Shape-F.Signed w) q h = none (not_vector base.typ (Shape-F.Signed w) q refl) h
    by Shape-F.Clock q h = none (not_vector base.typ Shape-F.Clock q refl) h
    by Shape-F.Reset q h = none (not_vector base.typ Shape-F.Reset q refl) h
    by Shape-F.AsyncReset q h = none (not_vector base.typ Shape-F.AsyncReset q refl) h
    by (Shape-F.Bundle fs) q h = none (not_vector base.typ (Shape-F.Bundle fs) q refl) h

  index_told : (bracket : Place) (index : Expr) → ExprTold index → (o : Option Part) (fault : TypeFault) → Contains (suffix_step (suffix.Index bracket index) known o).faults fault
      → StepTold (suffix.Index bracket index) o fault
  index_told bracket index told o fault c = ⊎_elim
      (λ inside. inl (bracket, index, refl, told fault inside))
      (λ own. by (found_of known index).part o refl own)
      (Contains-append_cases (found_of known index).faults (from_index bracket (judged index).place (found_of known index).part o).faults fault
      (subst (λ (j : Judgement). Contains j.faults fault) (index_any (suffix.Index bracket index) bracket index o refl) c)) where
        by : (i o : Option Part) → (found_of known index).part ≡ i → Contains (from_index bracket (judged index).place i o).faults fault → StepTold (suffix.Index bracket index) o fault
        by (Some inner) (Some base) q h = inr (base, refl, picked_told bracket index inner base fault (is_part known index inner q) h)
        by (Some inner) None q h = absurd (nothing_in fault h)
        by None o q h = absurd (nothing_in fault h)

  suffix_told : (y : Suffix-F ((φ : Form) × FormTold φ) ((s : Suffix) × SuffixTold s) ((e : Expr) × ExprTold e))
      → SuffixTold (roll-Suffix (map-Suffix _ _ _ Form Suffix Expr (λ e. e.0) (λ e. e.0) (λ e. e.0) y))
  suffix_told (Suffix-F.Field name) = (suffix_case known (Suffix-F.Field name), subst Tells (sym (rolls-Field name)) (field_told name)) where
    Tells : Suffix → Type 0
    Tells s = (o : Option Part) (fault : TypeFault) → Contains (suffix_step s known o).faults fault → StepTold s o fault
  suffix_told (Suffix-F.At bracket at n) = (suffix_case known (Suffix-F.At bracket at n), subst Tells (sym (rolls-At bracket at n)) (at_told bracket at n)) where
    Tells : Suffix → Type 0
    Tells s = (o : Option Part) (fault : TypeFault) → Contains (suffix_step s known o).faults fault → StepTold s o fault
  suffix_told (Suffix-F.Index bracket p) = (suffix_case known (Suffix-F.Index bracket (p.0, is_part known p.0)), subst Tells (sym (rolls-Index bracket p.0)) (index_told bracket p.0 p.1)) where
    Tells : Suffix → Type 0
    Tells s = (o : Option Part) (fault : TypeFault) → Contains (suffix_step s known o).faults fault → StepTold s o fault

  abbrev WayTold : List Suffix → Option Part → TypeFault → Type 0
  WayTold ss o fault = ((s : Suffix) × Contains ss s × IndexTold s fault) ⊎ ((base : Part) × (o ≡ Some base) × WayFails known base ss fault)

  along_told : (ps : List ((s : Suffix) × SuffixTold s)) (o : Option Part) (fault : TypeFault) → Contains (along (map suffix_step (map (λ e. e.0) ps)) known o).faults fault
      → WayTold (map (λ e. e.0) ps) o fault
  along_told [] o fault c = absurd (nothing_in fault c)
  along_told (p ∷ ps) o fault c = ⊎_elim
      (λ h. first (p.1.1 o fault h))
      (λ later. next o refl (along_told ps (suffix_step p.0 known o).part fault later))
      (Contains-append_cases (suffix_step p.0 known o).faults (along (map suffix_step ss) known (suffix_step p.0 known o).part).faults fault c) where
        ss : List Suffix
        ss = map (λ e. e.0) ps

        first : StepTold p.0 o fault → WayTold (p.0 ∷ ss) o fault
        first (inl t) = inl (p.0, head_in p.0 ss, t)
        first (inr (base, q, fails)) = inr (base, q, here fails)

        next : (given : Option Part) → o ≡ given → WayTold ss (suffix_step p.0 known o).part fault → WayTold (p.0 ∷ ss) o fault
        next given e (inl (s, c, t)) = inl (s, tail_in p.0 ss s c, t)
        next (Some base) e (inr (mid, q, fails)) = inr (base, e, further (p.1.0.0 base mid (ap (λ o. (suffix_step p.0 known o).part) (sym e) ∙ q)) fails)
        next None e (inr (mid, q, fails)) = absurd (p.1.0.1 mid (ap (λ o. (suffix_step p.0 known o).part) (sym e) ∙ q))

  among_told : (ps : List ((e : Expr) × ExprTold e)) (fault : TypeFault) → Contains (all_faults (all_among known (map judged (map (λ e. e.0) ps)))) fault
      → (e : Expr) × Contains (map (λ e. e.0) ps) e × Told e fault
  among_told [] fault c = absurd (nothing_in fault c)
  among_told (p ∷ ps) fault c = ⊎_elim
      (λ h. (p.0, head_in p.0 (map (λ e. e.0) ps), p.1 fault h))
      (λ later. let t = among_told ps fault later in (t.0, tail_in p.0 (map (λ e. e.0) ps) t.0 t.1, t.2))
      (Contains-append_cases (found_of known p.0).faults (all_faults (all_among known (map judged (map (λ e. e.0) ps)))) fault c)

  reference_told : (name : Name) (ps : List ((s : Suffix) × SuffixTold s)) → FormTold (form.Ref name (map (λ e. e.0) ps))
  reference_told name ps place fault c =
      by (along_told ps (component known name.id) fault (subst (λ (j : Judgement). Contains j.faults fault) (ref_is known whole name ss refl) c)) where
        ss : List Suffix
        ss = map (λ e. e.0) ps

        whole : Expr
        whole = record { place = place; form = form.Ref name (map (λ e. e.0) ps) }

        by : WayTold ss (component known name.id) fault → Told whole fault
        by (inl (s, c, (bracket, index, is, (inner, stands, at)))) = (inner, in_index name ss bracket index refl (subst (Contains ss) is c) stands, at)
        by (inr (base, q, fails)) = (whole, itself, reference name ss base refl q fails)

  operation_told : (op : PrimOp) (ps : List ((e : Expr) × ExprTold e)) (params : List ℕ) → FormTold (form.Prim op (map (λ e. e.0) ps) params)
  operation_told op ps params place fault c =
      by (operation_tells op place (all_among known (map judged es)) (typed_operands known (map judged es)) fault
      (subst (λ (j : Judgement). Contains j.faults fault) (prim_is known whole op es params refl) c)) where
        es : List Expr
        es = map (λ e. e.0) ps

        whole : Expr
        whole = record { place = place; form = form.Prim op (map (λ e. e.0) ps) params }

        by : Contains (all_faults (all_among known (map judged es))) fault
            ⊎ ((os : List Operand) × (typed_operands known (map judged es) ≡ Some os) × Contains (unless (is_some (row_of op (signs_of op os))) (OperandKind place)) fault) → Told whole fault
        by (inl h) = let t = among_told ps fault h in (t.2.0, in_operation op es params t.0 refl t.1 t.2.1, t.2.2)
        by (inr (os, q, own)) =
            let t = unless_tells (is_some (row_of op (signs_of op os))) (OperandKind place) fault own in
            (whole, itself, subst (IsAtFault known whole) t.1 (an_operation op es params (types_in os) refl (operands_found es os q).0 (row_there op os t.0)))

  three_told : (e : Expr) (es : List Expr) (c a b : Operand) (fault : TypeFault) → e.form ≡ form.Mux es → typed_operands known (map judged es) ≡ Some (c ∷ a ∷ b ∷ [])
      → ChoiceFails e.place c a b fault → IsAtFault known e fault
  three_told e es c a b fault is q fails = by es is (operands_found es (c ∷ a ∷ b ∷ []) q).0 (operands_found es (c ∷ a ∷ b ∷ []) q).1 where
    by : (es : List Expr) → e.form ≡ form.Mux es → HaveTypes known es (c.typ ∷ a.typ ∷ b.typ ∷ []) → c.place ∷ a.place ∷ b.place ∷ [] ≡ map (λ (e : Expr). e.place) es → IsAtFault known e fault
    by [] is have e' = absurd cc
    by (x ∷ []) is have e' = absurd cc
    by (x ∷ y ∷ []) is have e' = absurd cc
    by (x ∷ y ∷ z ∷ w ∷ es) is have e' = absurd cc
    by (x ∷ y ∷ z ∷ []) is have e' =
        let p : c.place ≡ x.place = heads e' in
        let q : a.place ≡ y.place = heads (tails e') in
        let r : b.place ≡ z.place = heads (tails (tails e')) in
        a_choice x y z c.typ a.typ b.typ is have
        (subst (λ v. ChoiceFails e.place (record { place = v; typ = c.typ }) (operand_of y a.typ) (operand_of z b.typ) fault) p
        (subst (λ v. ChoiceFails e.place c (record { place = v; typ = a.typ }) (operand_of z b.typ) fault) q
        (subst (λ v. ChoiceFails e.place c a (record { place = v; typ = b.typ }) fault) r fails)))

  choice_told : (ps : List ((e : Expr) × ExprTold e)) → FormTold (form.Mux (map (λ e. e.0) ps))
  choice_told ps place fault c =
      by (choice_tells place (all_among known (map judged es)) (typed_operands known (map judged es)) fault
      (subst (λ (j : Judgement). Contains j.faults fault) (mux_is known whole es refl) c)) where
        es : List Expr
        es = map (λ e. e.0) ps

        whole : Expr
        whole = record { place = place; form = form.Mux (map (λ e. e.0) ps) }

        by : Contains (all_faults (all_among known (map judged es))) fault ⊎ OwnOfChoice place (typed_operands known (map judged es)) fault → Told whole fault
        by (inl h) = let t = among_told ps fault h in (t.2.0, in_choice es t.0 refl t.1 t.2.1, t.2.2)
        by (inr (c, a, b, q, own)) = (whole, itself, three_told whole es c a b fault refl q (choice_fails place c a b fault own))

  literal_told : (sign : Sign) (width : Option ℕ) (number : Number) → FormTold (form.Literal sign width number)
  literal_told sign width number place fault c =
      let whole : Expr = record { place = place; form = form.Literal sign width number } in
      let fits = fits_literal sign width (integer_of_number number) in
      let t = unless_tells fits (LiteralFit place) fault (subst (λ (j : Judgement). Contains j.faults fault) (literal_is known whole sign width number refl) c) in
      (whole, itself, subst (IsAtFault known whole) t.1 (literal sign width number refl (not_both fits t.0)))

  form_told : (y : Form-F ((φ : Form) × FormTold φ) ((s : Suffix) × SuffixTold s) ((e : Expr) × ExprTold e))
      → FormTold (roll-Form (map-Form _ _ _ Form Suffix Expr (λ e. e.0) (λ e. e.0) (λ e. e.0) y))
  form_told (Form-F.Ref name ps) = subst FormTold (sym (rolls-Ref name (map (λ e. e.0) ps))) (reference_told name ps)
  form_told (Form-F.Literal sign width number) = subst FormTold (sym (rolls-Literal sign width number)) (literal_told sign width number)
  form_told (Form-F.Prim op ps params) = subst FormTold (sym (rolls-Prim op (map (λ e. e.0) ps) params)) (operation_told op ps params)
  form_told (Form-F.Mux ps) = subst FormTold (sym (rolls-Mux (map (λ e. e.0) ps))) (choice_told ps)

  told : (e : Expr) → ExprTold e
  told = ind-Expr FormTold SuffixTold ExprTold
      (λ x y is. subst (λ z. FormTold (roll-Form z)) is (form_told y))
      (λ x y is. subst (λ z. SuffixTold (roll-Suffix z)) is (suffix_told y))
      (λ x y is. subst (λ z. ExprTold (roll-Expr z)) is (y.form.1 y.place))

  -- And back

  step_found_at_fault : {base : Part} {s : Suffix} {fault : TypeFault} → StepFails known base s fault → Contains (suffix_step s known (Some base)).faults fault
  step_found_at_fault {base} {s} {fault} (no_bundle name is isnt) =
      subst (λ (j : Judgement). Contains j.faults fault) (sym (field_is known s name base is)) (by (out-Shape base.typ.shape) refl) where
        by : (x : Shape-F Shape Field FirType) → out-Shape base.typ.shape ≡ x → Contains (field_step name base x).faults (NotBundle name.place)
        by (Shape-F.Bundle fs) q = absurd (isnt fs (a_bundle base.typ fs q))
        by (Shape-F.Unsigned w) q = head_in (NotBundle name.place) []
        by (Shape-F.Signed w) q = head_in (NotBundle name.place) []
        by Shape-F.Clock q = head_in (NotBundle name.place) []
        by Shape-F.Reset q = head_in (NotBundle name.place) []
        by Shape-F.AsyncReset q = head_in (NotBundle name.place) []
        by (Shape-F.Vector e n) q = head_in (NotBundle name.place) []
  step_found_at_fault {base} {s} {fault} (no_field name fs is k q) =
      subst (λ (j : Judgement). Contains j.faults fault) (sym (field_is known s name base is))
      (subst (λ x. Contains (field_step name base x).faults fault) (sym (ap out-Shape k ∙ outs-Bundle fs))
      (subst (λ o. Contains (field_found name base o).faults fault) (sym q) (head_in (FieldUnknown name.place) [])))
  step_found_at_fault {base} {s} {fault} (no_vector bracket at n is isnt) =
      subst (λ (j : Judgement). Contains j.faults fault) (sym (at_is known s bracket at n base is)) (by (out-Shape base.typ.shape) refl) where
        by : (x : Shape-F Shape Field FirType) → out-Shape base.typ.shape ≡ x → Contains (element_step bracket at n base x).faults (NotVector bracket)
        by (Shape-F.Vector e m) q = absurd (isnt e m (a_vector base.typ e m q))
        by (Shape-F.Unsigned w) q = head_in (NotVector bracket) []
        by (Shape-F.Signed w) q = head_in (NotVector bracket) []
        by Shape-F.Clock q = head_in (NotVector bracket) []
        by Shape-F.Reset q = head_in (NotVector bracket) []
        by Shape-F.AsyncReset q = head_in (NotVector bracket) []
        by (Shape-F.Bundle fs) q = head_in (NotVector bracket) []
  step_found_at_fault {base} {s} {fault} (past_the_end bracket at n e m is k past) =
      subst (λ (j : Judgement). Contains j.faults fault) (sym (at_is known s bracket at n base is))
      (subst (λ x. Contains (element_step bracket at n base x).faults fault) (sym (ap out-Shape k ∙ outs-Vector e m))
      (subst (λ b. Contains (element_found base e b at).faults fault) (sym (le-ltb n m past)) (head_in (IndexRange at) [])))
  step_found_at_fault {base} {s} {fault} (nothing_to_index bracket index inner is its isnt) =
      subst (λ (j : Judgement). Contains j.faults fault) (sym (index_is known s bracket index base is))
      (Contains-append_right (found_of known index).faults (from_index bracket (judged index).place (found_of known index).part (Some base)).faults fault
      (subst (λ i. Contains (from_index bracket (judged index).place i (Some base)).faults fault) (sym (found_is known its)) (by (out-Shape base.typ.shape) refl))) where
        by : (x : Shape-F Shape Field FirType) → out-Shape base.typ.shape ≡ x → Contains (index_step bracket (judged index).place inner base x).faults (NotVector bracket)
        by (Shape-F.Vector e m) q = absurd (isnt e m (a_vector base.typ e m q))
        by (Shape-F.Unsigned w) q = head_in (NotVector bracket) []
        by (Shape-F.Signed w) q = head_in (NotVector bracket) []
        by Shape-F.Clock q = head_in (NotVector bracket) []
        by Shape-F.Reset q = head_in (NotVector bracket) []
        by Shape-F.AsyncReset q = head_in (NotVector bracket) []
        by (Shape-F.Bundle fs) q = head_in (NotVector bracket) []
  step_found_at_fault {base} {s} {fault} (no_number bracket index inner e m is its k isnt) =
      subst (λ (j : Judgement). Contains j.faults fault) (sym (index_is known s bracket index base is))
      (Contains-append_right (found_of known index).faults (from_index bracket (judged index).place (found_of known index).part (Some base)).faults fault
      (subst (λ i. Contains (from_index bracket (judged index).place i (Some base)).faults fault) (sym (found_is known its))
      (subst (λ x. Contains (index_step bracket (judged index).place inner base x).faults fault) (sym (ap out-Shape k ∙ outs-Vector e m))
      (subst (λ b. Contains (indexed (judged index).place base e b).faults fault) (sym (no_truth (is_unsigned inner.typ) (λ y. isnt (unsigned_is inner.typ y))))
      (subst (Contains (one_fault (IndexKind (judged index).place))) (ap IndexKind (place_is index)) (head_in (IndexKind (judged index).place) []))))))

  way_found_at_fault : {base : Part} {ss : List Suffix} {fault : TypeFault} → WayFails known base ss fault → Contains (along (map suffix_step ss) known (Some base)).faults fault
  way_found_at_fault {base} {fault = fault} (here {first = s} {rest = ss} fails) =
      Contains-append_left (suffix_step s known (Some base)).faults (along (map suffix_step ss) known (suffix_step s known (Some base)).part).faults fault (step_found_at_fault fails)
  way_found_at_fault {base} {fault = fault} (further {first = s} {rest = ss} step fails) =
      Contains-append_right (suffix_step s known (Some base)).faults (along (map suffix_step ss) known (suffix_step s known (Some base)).part).faults fault
      (subst (λ o. Contains (along (map suffix_step ss) known o).faults fault) (sym (step_found known step)) (way_found_at_fault fails))

  three_found : (place : Place) (js : List Judgement) (os : List Operand) (x y z : Expr) (c a b : FirType) (fault : TypeFault) → types_in os ≡ c ∷ a ∷ b ∷ []
      → places_in os ≡ x.place ∷ y.place ∷ z.place ∷ [] → ChoiceFails place (operand_of x c) (operand_of y a) (operand_of z b) fault → Contains (choice place js os).faults fault
  three_found place js [] x y z c a b fault t p fails = absurd cc
  three_found place js (l ∷ []) x y z c a b fault t p fails = absurd cc
  three_found place js (l ∷ m ∷ []) x y z c a b fault t p fails = absurd cc
  three_found place js (l ∷ m ∷ n ∷ k ∷ os) x y z c a b fault t p fails = absurd cc
  three_found place js (l ∷ m ∷ n ∷ []) x y z c a b fault t p fails =
      let one : operand_of x c ≡ l = ap₂ (λ v w. record { place = v; typ = w }) (sym (heads p)) (sym (heads t)) in
      let two : operand_of y a ≡ m = ap₂ (λ v w. record { place = v; typ = w }) (sym (heads (tails p))) (sym (heads (tails t))) in
      let three : operand_of z b ≡ n = ap₂ (λ v w. record { place = v; typ = w }) (sym (heads (tails (tails p)))) (sym (heads (tails (tails t)))) in
      Contains-append_right (all_faults js) (choice_faults place l m n) fault (fails_choice place l m n fault
      (subst (λ o. ChoiceFails place o m n fault) one (subst (λ o. ChoiceFails place (operand_of x c) o n fault) two
      (subst (λ o. ChoiceFails place (operand_of x c) (operand_of y a) o fault) three fails))))

  own_found : {e : Expr} {fault : TypeFault} → IsAtFault known e fault → Contains (found_of known e).faults fault
  own_found {e} {fault} (reference name ss base is q fails) =
      subst (λ (j : Judgement). Contains j.faults fault) (sym (ref_is known e name ss is))
      (subst (λ o. Contains (along (map suffix_step ss) known o).faults fault) (sym q) (way_found_at_fault fails))
  own_found {e} {fault} (literal sign width number is isnt) =
      let fits = fits_literal sign width (integer_of_number number) in
      subst (λ (j : Judgement). Contains j.faults fault) (sym (literal_is known e sign width number is)) (told_unless fits (LiteralFit e.place) (no_truth fits isnt))
  own_found {e} {fault} (an_operation op es params types is have isnt) =
      let t = types_found known have in
      let js = all_among known (map judged es) in
      subst (λ (j : Judgement). Contains j.faults fault) (sym (prim_is known e op es params is))
      (subst (λ o. Contains (over e.place (operation op e.place) js o).faults fault) (sym t.1)
      (Contains-append_right (all_faults js) (unless (is_some (row_of op (signs_of op t.0))) (OperandKind e.place)) fault
      (told_unless (is_some (row_of op (signs_of op t.0))) (OperandKind e.place) (no_row op t.0 (λ row. isnt (subst (HasRow op) t.2 row))))))
  own_found {e} {fault} (a_choice x y z c a b is have fails) =
      let t = types_found known have in
      let js = all_among known (map judged (x ∷ y ∷ z ∷ [])) in
      subst (λ (j : Judgement). Contains j.faults fault) (sym (mux_is known e (x ∷ y ∷ z ∷ []) is))
      (subst (λ o. Contains (over e.place (choice e.place) js o).faults fault) (sym t.1)
      (three_found e.place js t.0 x y z c a b fault t.2 (operands_found (x ∷ y ∷ z ∷ []) t.0 t.1).1 fails))

  among_found : (es : List Expr) (x : Expr) (fault : TypeFault) → Contains es x → Contains (found_of known x).faults fault → Contains (all_faults (all_among known (map judged es))) fault
  among_found [] x fault c h = absurd (nothing_in x c)
  among_found (y ∷ es) x fault c h = ⊎_elim
      (λ same. Contains-append_left (found_of known y).faults (all_faults (all_among known (map judged es))) fault (subst (λ z. Contains (found_of known z).faults fault) (sym same) h))
      (λ later. Contains-append_right (found_of known y).faults (all_faults (all_among known (map judged es))) fault (among_found es x fault later h))
      (in_cases y es x c)

  along_found : (ss : List Suffix) (bracket : Place) (index : Expr) (o : Option Part) (fault : TypeFault) → Contains ss (suffix.Index bracket index)
      → Contains (found_of known index).faults fault → Contains (along (map suffix_step ss) known o).faults fault
  along_found [] bracket index o fault c h = absurd (nothing_in (suffix.Index bracket index) c)
  along_found (s ∷ ss) bracket index o fault c h = ⊎_elim
      (λ same. Contains-append_left (suffix_step s known o).faults (along (map suffix_step ss) known (suffix_step s known o).part).faults fault
      (subst (λ (j : Judgement). Contains j.faults fault) (sym (index_any s bracket index o same))
      (Contains-append_left (found_of known index).faults (from_index bracket (judged index).place (found_of known index).part o).faults fault h)))
      (λ later. Contains-append_right (suffix_step s known o).faults (along (map suffix_step ss) known (suffix_step s known o).part).faults fault
      (along_found ss bracket index (suffix_step s known o).part fault later h))
      (in_cases s ss (suffix.Index bracket index) c)

  inside_found : {inner e : Expr} → StandsIn inner e → (fault : TypeFault) → IsAtFault known inner fault → Contains (found_of known e).faults fault
  inside_found itself fault at = own_found at
  inside_found {e = e} (in_operation op es params x is c stands) fault at =
      subst (λ (j : Judgement). Contains j.faults fault) (sym (prim_is known e op es params is))
      (operation_keeps op e.place (all_among known (map judged es)) (typed_operands known (map judged es)) fault (among_found es x fault c (inside_found stands fault at)))
  inside_found {e = e} (in_choice es x is c stands) fault at =
      subst (λ (j : Judgement). Contains j.faults fault) (sym (mux_is known e es is))
      (choice_keeps e.place (all_among known (map judged es)) (typed_operands known (map judged es)) fault (among_found es x fault c (inside_found stands fault at)))
  inside_found {e = e} (in_index name ss bracket index is c stands) fault at =
      subst (λ (j : Judgement). Contains j.faults fault) (sym (ref_is known e name ss is))
      (along_found ss bracket index (component known name.id) fault c (inside_found stands fault at))

pub faults_exactly : (known : Known) (e : Expr) (fault : TypeFault) → Contains (found_of known e).faults fault ↔ ((inner : Expr) × StandsIn inner e × IsAtFault known inner fault)
faults_exactly known e fault = (told known e fault, λ h. inside_found known h.1 fault h.2)
