-- What is found of an expression is what the relation of types says.
use Rattle.std.proofs.Common.{◌≡◌, ℕ, Bool, true, false, not, ◌||◌, List, [], ◌∷◌, ◌++◌, map, Option, Some, None, refl, sym, ap, ap₂, ◌∙◌, subst, arith}
use Rattle.std.specs.Prelude.{◌↔◌, nat_lt, find, ◌==◌, is_some, option_map}
use Rattle.std.proofs.lemmas.Grind.{common_steps}
use Rattle.std.proofs.lemmas.Bool.{ltb-true, lt-ltb}
use Rattle.bit_words.specs.declared.value.Kind.{Kind as Sign}
use Rattle.bit_words.specs.declared.number.Number.{Number}
use Rattle.bit_words.specs.Numbers.{integer_of_number}
use Rattle.place_text.specs.declared.place.Place.{Place}
use Rattle.prim_ops.specs.declared.operation.PrimOp.{PrimOp}
use Rattle.prim_ops.specs.Kinds.{row_kind}
use Rattle.fir_types.specs.declared.fir_type.FirType.{FirType, the_lemmas as type_lemmas}
use Rattle.fir_types.specs.declared.fir_type.Shape.TheViews.{out-Shape}
use Rattle.fir_types.specs.declared.fir_type.Shape.TheVariants.{outs-Unsigned, outs-Signed, outs-Clock, outs-Reset, outs-AsyncReset, outs-Bundle, outs-Vector}
use Rattle.fir_types.specs.declared.fir_type.Field.{Field}
use Rattle.fir_types.specs.declared.name.Name.{Name}
use Rattle.fir_types.specs.Equivalence.{Equivalent, IsUnsigned, a_uint, a_reset}
use Rattle.fir_types.specs.Passivity.{IsPassive, has_flip}
use Rattle.fir_tree.specs.declared.expr.Expr.{Expr, ind-Expr, the_lemmas}
use Rattle.fir_tree.specs.declared.expr.Form.{Form}
use Rattle.fir_tree.specs.declared.expr.Suffix.{Suffix}
use Rattle.fir_tree.specs.declared.expr.Form.TheOpen.{Form-F, Suffix-F}
use Rattle.fir_tree.specs.declared.expr.Form.TheFolds.{map-Form, map-Suffix}
use Rattle.fir_tree.specs.declared.expr.Form.TheViews.{roll-Form, roll-Suffix, roll-Expr}
use Rattle.fir_tree.specs.declared.expr.Form.TheVariants as form
use Rattle.fir_tree.specs.declared.expr.Form.TheVariants.{rolls-Ref, rolls-Literal, rolls-Prim, rolls-Mux}
use Rattle.fir_tree.specs.declared.expr.Suffix.TheVariants as suffix
use Rattle.fir_tree.specs.declared.expr.Suffix.TheVariants.{rolls-Field, rolls-At, rolls-Index}
use Rattle.fir_tree.specs.declared.part.Part.{Part}
use Rattle.fir_tree.specs.Parts.{source_of}
use Rattle.fir_tree.specs.Kinds.{is_unsigned, ground, sign_or_unsigned}
use Rattle.fir_tree.proofs.Shapes.{ShapeCase, shape_uint, shape_sint, shape_clock, shape_reset, shape_async, shape_bundle, shape_vector, case_of}
use Rattle.type_check.specs.declared.fault.TypeFault.{TypeFault}
use Rattle.type_check.specs.declared.fault.TypeFault.TheVariants.{OperandKind, NotEquivalent, ConditionKind, NotPassive, LiteralFit}
use Rattle.type_check.specs.Parts.{Known, component, unless, when}
use Rattle.type_check.specs.Texts.{has_signal, is_passive, are_equivalent}
use Rattle.type_check.specs.Expressions.{Judgement, Operand, found_of, judged, suffix_step, along, as_node, node, over, operation, choice, choice_faults, typed_operands, with_operand, all_among, signs_of, with_sign, sign_for, row_of, result_type, fits_literal, from_index, behind, field_step, field_found, element_step, element_found, index_step, indexed, unjudged, Has}
use Rattle.type_check.proofs.Equivalence.{yes, is_equivalent}
use Rattle.check_laws.specs.Typing.{IsPart, reference, literal, operation as an_operation, choice as a_choice, Leads, nowhere_else, one_step, Steps, to_field, to_element, to_indexed, HaveTypes, no_operands, one_operand}

-- Lists and answers

pub some_same : {A : Type 0} {x y : A} → Some x ≡ Some y → x ≡ y
some_same e = cc

pub none_some : {A : Type 0} {x : A} → None ≡ Some x → ⊥
none_some e = cc

pub heads : {A : Type 0} {x y : A} {xs ys : List A} → x ∷ xs ≡ y ∷ ys → x ≡ y
heads e = cc

pub tails : {A : Type 0} {x y : A} {xs ys : List A} → x ∷ xs ≡ y ∷ ys → xs ≡ ys
tails e = cc

-- Each form of an expression, and each step

pub ref_is : (known : Known) (e : Expr) (name : Name) (ss : List Suffix) → e.form ≡ form.Ref name ss
    → found_of known e ≡ as_node e.place (along (map suffix_step ss) known (component known name.id))
ref_is known e name ss is = grind (arith, common_steps, the_lemmas)

pub literal_is : (known : Known) (e : Expr) (sign : Sign) (width : Option ℕ) (number : Number) → e.form ≡ form.Literal sign width number
    → found_of known e ≡ node e.place (unless (fits_literal sign width (integer_of_number number)) (LiteralFit e.place)) (ground e.place sign width) []
literal_is known e sign width number is = grind (arith, common_steps, the_lemmas)

pub prim_is : (known : Known) (e : Expr) (op : PrimOp) (operands : List Expr) (params : List ℕ) → e.form ≡ form.Prim op operands params
    → found_of known e ≡ over e.place (operation op e.place) (all_among known (map judged operands)) (typed_operands known (map judged operands))
prim_is known e op operands params is = grind (arith, common_steps, the_lemmas)

pub mux_is : (known : Known) (e : Expr) (operands : List Expr) → e.form ≡ form.Mux operands
    → found_of known e ≡ over e.place (choice e.place) (all_among known (map judged operands)) (typed_operands known (map judged operands))
mux_is known e operands is = grind (arith, common_steps, the_lemmas)

pub field_is : (known : Known) (s : Suffix) (name : Name) (base : Part) → s ≡ suffix.Field name
    → suffix_step s known (Some base) ≡ field_step name base (out-Shape base.typ.shape)
field_is known s name base is = grind (arith, common_steps, the_lemmas)

pub at_is : (known : Known) (s : Suffix) (bracket at : Place) (n : ℕ) (base : Part) → s ≡ suffix.At bracket at n
    → suffix_step s known (Some base) ≡ element_step bracket at n base (out-Shape base.typ.shape)
at_is known s bracket at n base is = grind (arith, common_steps, the_lemmas)

pub index_is : (known : Known) (s : Suffix) (bracket : Place) (index : Expr) (base : Part) → s ≡ suffix.Index bracket index
    → suffix_step s known (Some base) ≡ behind (found_of known index) (from_index bracket (judged index).place (found_of known index).part (Some base))
index_is known s bracket index base is = grind (arith, common_steps, the_lemmas)

pub field_out : (known : Known) (s : Suffix) (name : Name) → s ≡ suffix.Field name → suffix_step s known None ≡ unjudged
field_out known s name is = grind (arith, common_steps, the_lemmas)

pub at_out : (known : Known) (s : Suffix) (bracket at : Place) (n : ℕ) → s ≡ suffix.At bracket at n → suffix_step s known None ≡ unjudged
at_out known s bracket at n is = grind (arith, common_steps, the_lemmas)

pub index_out : (known : Known) (s : Suffix) (bracket : Place) (index : Expr) → s ≡ suffix.Index bracket index
    → suffix_step s known None ≡ behind (found_of known index) (from_index bracket (judged index).place (found_of known index).part None)
index_out known s bracket index is = grind (arith, common_steps, the_lemmas)

-- Conditions

pub unsigned_is : (t : FirType) → is_unsigned t ≡ true → IsUnsigned t
unsigned_is t y = by (case_of t.shape) where
  by : ShapeCase t.shape → IsUnsigned t
  by (shape_uint w e) = a_uint w e
  by (shape_reset e) = a_reset e
  by (shape_async e) = absurd (grind (arith, common_steps, type_lemmas))
  by (shape_sint w e) = absurd (grind (arith, common_steps, type_lemmas))
  by (shape_clock e) = absurd (grind (arith, common_steps, type_lemmas))
  by (shape_bundle fs e) = absurd (grind (arith, common_steps, type_lemmas))
  by (shape_vector o n e) = absurd (grind (arith, common_steps, type_lemmas))

pub is_unsigned_yes : {t : FirType} → IsUnsigned t → is_unsigned t ≡ true
is_unsigned_yes {t} (a_uint w e) = grind (arith, common_steps, type_lemmas)
is_unsigned_yes {t} (a_reset e) = grind (arith, common_steps, type_lemmas)

pub signs_some : (op : PrimOp) (os : List Operand) (signs : List Sign) → signs_of op os ≡ Some signs → map (sign_for op) (map (λ (o : Operand). o.typ) os) ≡ map Some signs
signs_some op [] signs e = ap (map Some) (some_same e)
signs_some op (o ∷ os) signs e = by (sign_for op o.typ) (signs_of op os) refl refl e (signs_some op os) where
  by : (a : Option Sign) (b : Option (List Sign)) → sign_for op o.typ ≡ a → signs_of op os ≡ b → with_sign a b ≡ Some signs
      → ((rest : List Sign) → signs_of op os ≡ Some rest → map (sign_for op) (map (λ (o : Operand). o.typ) os) ≡ map Some rest) → map (sign_for op) (map (λ (o : Operand). o.typ) (o ∷ os)) ≡ map Some signs
  by (Some a) (Some b) p q e more = ap₂ (λ x xs. x ∷ xs) p (more b q) ∙ ap (map Some) (some_same e)
  by (Some a) None p q e more = absurd cc
  by None b p q e more = absurd cc

pub signs_back : (op : PrimOp) (os : List Operand) (signs : List Sign) → map (sign_for op) (map (λ (o : Operand). o.typ) os) ≡ map Some signs → signs_of op os ≡ Some signs
signs_back op [] [] e = refl
signs_back op [] (s ∷ signs) e = absurd cc
signs_back op (o ∷ os) [] e = absurd cc
signs_back op (o ∷ os) (s ∷ signs) e = ap₂ with_sign (heads e) (signs_back op os signs (tails e))

pub unless_none : (b : Bool) (fault : TypeFault) → unless b fault ≡ [] → b ≡ true
unless_none true fault e = refl
unless_none false fault e = absurd cc

pub when_none : (b : Bool) (fault : TypeFault) → when b fault ≡ [] → b ≡ false
when_none false fault e = refl
when_none true fault e = absurd cc

pub left_empty : {X : Type 0} (xs ys : List X) → xs ++ ys ≡ [] → xs ≡ []
left_empty [] ys e = refl
left_empty (x ∷ xs) ys e = absurd cc

pub right_empty : {X : Type 0} (xs ys : List X) → xs ++ ys ≡ [] → ys ≡ []
right_empty [] ys e = e
right_empty (x ∷ xs) ys e = absurd cc

or_parts : (a b : Bool) → (a || b) ≡ false → (a ≡ false) × (b ≡ false)
or_parts false false e = (refl, refl)
or_parts false true e = absurd cc
or_parts true b e = absurd cc

not_true : (b : Bool) → not b ≡ true → b ≡ false
not_true false e = refl
not_true true e = absurd cc

-- a node that has a part has no fault, and is a source of its type
node_part : (place : Place) (faults : List TypeFault) (typ : FirType) (js : List Judgement) (part : Part) → (node place faults typ js).part ≡ Some part
    → (faults ≡ []) × (source_of typ ≡ part)
node_part place [] typ js part e = (refl, some_same e)
node_part place (fault ∷ faults) typ js part e = absurd cc

node_found : (place : Place) (faults : List TypeFault) (typ : FirType) (js : List Judgement) → faults ≡ [] → (node place faults typ js).part ≡ Some (source_of typ)
node_found place faults typ js e = ap (λ fs. (node place fs typ js).part) e

-- What a choice asks for.
record Chooses (condition first second : FirType) : Type 0 where
  pub condition_is : IsUnsigned condition
  pub first_signals : has_signal first ≡ false
  pub second_signals : has_signal second ≡ false
  pub first_passive : IsPassive first
  pub second_passive : IsPassive second
  pub equivalent : Equivalent first second

chooses : (place : Place) (c a b : Operand) → choice_faults place c a b ≡ [] → Chooses c.typ a.typ b.typ
chooses place c a b e =
    let kind = unless (is_unsigned c.typ) (ConditionKind c.place) in
    let signals = when (has_signal a.typ || has_signal b.typ) (OperandKind place) in
    let passive = unless (is_passive a.typ) (NotPassive a.place) in
    let others = unless (is_passive b.typ) (NotPassive b.place) in
    let same = unless (are_equivalent a.typ b.typ) (NotEquivalent b.place) in
    let r1 = right_empty kind (signals ++ (passive ++ (others ++ same))) e in
    let r2 = right_empty signals (passive ++ (others ++ same)) r1 in
    let r3 = right_empty passive (others ++ same) r2 in
    let both = or_parts (has_signal a.typ) (has_signal b.typ) (when_none (has_signal a.typ || has_signal b.typ) (OperandKind place) (left_empty signals (passive ++ (others ++ same)) r1)) in
    record {
      condition_is = unsigned_is c.typ (unless_none (is_unsigned c.typ) (ConditionKind c.place) (left_empty kind (signals ++ (passive ++ (others ++ same))) e));
      first_signals = both.0;
      second_signals = both.1;
      first_passive = not_true (has_flip a.typ) (unless_none (is_passive a.typ) (NotPassive a.place) (left_empty passive (others ++ same) r2));
      second_passive = not_true (has_flip b.typ) (unless_none (is_passive b.typ) (NotPassive b.place) (left_empty others same r3));
      equivalent = is_equivalent a.typ b.typ (unless_none (are_equivalent a.typ b.typ) (NotEquivalent b.place) (right_empty others same r3));
    }

choice_quiet : (place : Place) (c a b : Operand) → Chooses c.typ a.typ b.typ → choice_faults place c a b ≡ []
choice_quiet place c a b h =
    let e1 : is_unsigned c.typ ≡ true = is_unsigned_yes h.condition_is in
    let e2 : (has_signal a.typ || has_signal b.typ) ≡ false = ap₂ (λ x y. x || y) h.first_signals h.second_signals in
    let e3 : is_passive a.typ ≡ true = ap not h.first_passive in
    let e4 : is_passive b.typ ≡ true = ap not h.second_passive in
    let e5 : are_equivalent a.typ b.typ ≡ true = yes h.equivalent in
    ap₂ (λ x y. unless x (ConditionKind c.place) ++ (when y (OperandKind place) ++ (unless (is_passive a.typ) (NotPassive a.place) ++ (unless (is_passive b.typ) (NotPassive b.place) ++ unless (are_equivalent a.typ b.typ) (NotEquivalent b.place))))) e1 e2
    ∙ ap₂ (λ x y. unless x (NotPassive a.place) ++ (unless y (NotPassive b.place) ++ unless (are_equivalent a.typ b.typ) (NotEquivalent b.place))) e3 e4
    ∙ ap (λ x. unless x (NotEquivalent b.place)) e5

module _ (known : Known) where
  -- From what is found to the relation

  abbrev pub ExprIs : Expr → Type 0
  ExprIs e = (part : Part) → (found_of known e).part ≡ Some part → IsPart known e part

  abbrev pub FormIs : Form → Type 0
  FormIs φ = (place : Place) → ExprIs (record { place = place; form = φ })

  -- a step leads on from a part as the relation says, and from nothing it leads nowhere
  abbrev pub SuffixIs : Suffix → Type 0
  SuffixIs s = ((base next : Part) → (suffix_step s known (Some base)).part ≡ Some next → Steps known base s next)
      × ((next : Part) → (suffix_step s known None).part ≡ Some next → ⊥)

  field_by : (name : Name) (base next : Part) → ShapeCase base.typ.shape → (field_step name base (out-Shape base.typ.shape)).part ≡ Some next → Steps known base (suffix.Field name) next
  field_by name base next (shape_bundle fs k) e = by (find (λ f. f.name.id == name.id) fs) refl (sym (ap (λ s. (field_step name base s).part) (ap out-Shape k ∙ outs-Bundle fs)) ∙ e) where
    by : (o : Option Field) → find (λ f. f.name.id == name.id) fs ≡ o → (field_found name base o).part ≡ Some next → Steps known base (suffix.Field name) next
    by (Some f) q e' = subst (Steps known base (suffix.Field name)) (some_same e') (to_field name fs f refl k q)
    by None q e' = absurd (none_some e')
  field_by name base next (shape_uint w k) e = absurd (none_some (sym (ap (λ s. (field_step name base s).part) (ap out-Shape k ∙ outs-Unsigned w)) ∙ e))
  field_by name base next (shape_sint w k) e = absurd (none_some (sym (ap (λ s. (field_step name base s).part) (ap out-Shape k ∙ outs-Signed w)) ∙ e))
  field_by name base next (shape_clock k) e = absurd (none_some (sym (ap (λ s. (field_step name base s).part) (ap out-Shape k ∙ outs-Clock)) ∙ e))
  field_by name base next (shape_reset k) e = absurd (none_some (sym (ap (λ s. (field_step name base s).part) (ap out-Shape k ∙ outs-Reset)) ∙ e))
  field_by name base next (shape_async k) e = absurd (none_some (sym (ap (λ s. (field_step name base s).part) (ap out-Shape k ∙ outs-AsyncReset)) ∙ e))
  field_by name base next (shape_vector o n k) e = absurd (none_some (sym (ap (λ s. (field_step name base s).part) (ap out-Shape k ∙ outs-Vector o n)) ∙ e))

  at_by : (bracket at : Place) (n : ℕ) (base next : Part) → ShapeCase base.typ.shape → (element_step bracket at n base (out-Shape base.typ.shape)).part ≡ Some next → Steps known base (suffix.At bracket at n) next
  at_by bracket at n base next (shape_vector o m k) e = by (nat_lt n m) refl (sym (ap (λ s. (element_step bracket at n base s).part) (ap out-Shape k ∙ outs-Vector o m)) ∙ e) where
    by : (b : Bool) → nat_lt n m ≡ b → (element_found base o b at).part ≡ Some next → Steps known base (suffix.At bracket at n) next
    by true q e' = subst (Steps known base (suffix.At bracket at n)) (some_same e') (to_element bracket at n o m refl k (ltb-true n m q))
    by false q e' = absurd (none_some e')
  at_by bracket at n base next (shape_uint w k) e = absurd (none_some (sym (ap (λ s. (element_step bracket at n base s).part) (ap out-Shape k ∙ outs-Unsigned w)) ∙ e))
  at_by bracket at n base next (shape_sint w k) e = absurd (none_some (sym (ap (λ s. (element_step bracket at n base s).part) (ap out-Shape k ∙ outs-Signed w)) ∙ e))
  at_by bracket at n base next (shape_clock k) e = absurd (none_some (sym (ap (λ s. (element_step bracket at n base s).part) (ap out-Shape k ∙ outs-Clock)) ∙ e))
  at_by bracket at n base next (shape_reset k) e = absurd (none_some (sym (ap (λ s. (element_step bracket at n base s).part) (ap out-Shape k ∙ outs-Reset)) ∙ e))
  at_by bracket at n base next (shape_async k) e = absurd (none_some (sym (ap (λ s. (element_step bracket at n base s).part) (ap out-Shape k ∙ outs-AsyncReset)) ∙ e))
  at_by bracket at n base next (shape_bundle fs k) e = absurd (none_some (sym (ap (λ s. (element_step bracket at n base s).part) (ap out-Shape k ∙ outs-Bundle fs)) ∙ e))

  index_by : (bracket place : Place) (index : Expr) (inner base next : Part) → IsPart known index inner → ShapeCase base.typ.shape
      → (index_step bracket place inner base (out-Shape base.typ.shape)).part ≡ Some next → Steps known base (suffix.Index bracket index) next
  index_by bracket place index inner base next is (shape_vector o m k) e = by (is_unsigned inner.typ) refl (sym (ap (λ s. (index_step bracket place inner base s).part) (ap out-Shape k ∙ outs-Vector o m)) ∙ e) where
    by : (b : Bool) → is_unsigned inner.typ ≡ b → (indexed place base o b).part ≡ Some next → Steps known base (suffix.Index bracket index) next
    by true q e' = subst (Steps known base (suffix.Index bracket index)) (some_same e') (to_indexed bracket index inner o m refl k is (unsigned_is inner.typ q))
    by false q e' = absurd (none_some e')
  index_by bracket place index inner base next is (shape_uint w k) e = absurd (none_some (sym (ap (λ s. (index_step bracket place inner base s).part) (ap out-Shape k ∙ outs-Unsigned w)) ∙ e))
  index_by bracket place index inner base next is (shape_sint w k) e = absurd (none_some (sym (ap (λ s. (index_step bracket place inner base s).part) (ap out-Shape k ∙ outs-Signed w)) ∙ e))
  index_by bracket place index inner base next is (shape_clock k) e = absurd (none_some (sym (ap (λ s. (index_step bracket place inner base s).part) (ap out-Shape k ∙ outs-Clock)) ∙ e))
  index_by bracket place index inner base next is (shape_reset k) e = absurd (none_some (sym (ap (λ s. (index_step bracket place inner base s).part) (ap out-Shape k ∙ outs-Reset)) ∙ e))
  index_by bracket place index inner base next is (shape_async k) e = absurd (none_some (sym (ap (λ s. (index_step bracket place inner base s).part) (ap out-Shape k ∙ outs-AsyncReset)) ∙ e))
  index_by bracket place index inner base next is (shape_bundle fs k) e = absurd (none_some (sym (ap (λ s. (index_step bracket place inner base s).part) (ap out-Shape k ∙ outs-Bundle fs)) ∙ e))

  index_of : (bracket : Place) (index : Expr) → ExprIs index → (base next : Part) → (suffix_step (suffix.Index bracket index) known (Some base)).part ≡ Some next
      → Steps known base (suffix.Index bracket index) next
  index_of bracket index is base next e =
      by (found_of known index).part refl (sym (ap (λ (j : Judgement). j.part) (index_is known (suffix.Index bracket index) bracket index base refl)) ∙ e) where
        by : (o : Option Part) → (found_of known index).part ≡ o → (from_index bracket (judged index).place o (Some base)).part ≡ Some next → Steps known base (suffix.Index bracket index) next
        by (Some inner) q e' = index_by bracket (judged index).place index inner base next (is inner q) (case_of base.typ.shape) e'
        by None q e' = absurd (none_some e')

  nothing_picked : (bracket at : Place) (o : Option Part) (next : Part) → (from_index bracket at o None).part ≡ Some next → ⊥
  nothing_picked bracket at (Some inner) next e = none_some e
  nothing_picked bracket at None next e = none_some e

  pub suffix_case : (y : Suffix-F ((φ : Form) × FormIs φ) ((s : Suffix) × SuffixIs s) ((e : Expr) × ExprIs e))
      → SuffixIs (roll-Suffix (map-Suffix _ _ _ Form Suffix Expr (λ e. e.0) (λ e. e.0) (λ e. e.0) y))
  suffix_case (Suffix-F.Field name) = subst SuffixIs (sym (rolls-Field name)) (
    (λ base next e. field_by name base next (case_of base.typ.shape) (sym (ap (λ (j : Judgement). j.part) (field_is known (suffix.Field name) name base refl)) ∙ e)),
    (λ next e. none_some (sym (ap (λ (j : Judgement). j.part) (field_out known (suffix.Field name) name refl)) ∙ e)),
  )
  suffix_case (Suffix-F.At bracket at n) = subst SuffixIs (sym (rolls-At bracket at n)) (
    (λ base next e. at_by bracket at n base next (case_of base.typ.shape) (sym (ap (λ (j : Judgement). j.part) (at_is known (suffix.At bracket at n) bracket at n base refl)) ∙ e)),
    (λ next e. none_some (sym (ap (λ (j : Judgement). j.part) (at_out known (suffix.At bracket at n) bracket at n refl)) ∙ e)),
  )
  suffix_case (Suffix-F.Index bracket p) = subst SuffixIs (sym (rolls-Index bracket p.0)) (
    index_of bracket p.0 p.1,
    (λ next e. nothing_picked bracket (judged p.0).place (found_of known p.0).part next
        (sym (ap (λ (j : Judgement). j.part) (index_out known (suffix.Index bracket p.0) bracket p.0 refl)) ∙ e)),
  )

  stays_out : (ps : List ((s : Suffix) × SuffixIs s)) (part : Part) → (along (map suffix_step (map (λ e. e.0) ps)) known None).part ≡ Some part → ⊥
  stays_out [] part e = none_some e
  stays_out (p ∷ ps) part e = by (suffix_step p.0 known None).part refl (stays_out ps part) e where
    by : (o : Option Part) → (suffix_step p.0 known None).part ≡ o → ((along (map suffix_step (map (λ e. e.0) ps)) known None).part ≡ Some part → ⊥)
        → (along (map suffix_step (map (λ e. e.0) ps)) known o).part ≡ Some part → ⊥
    by (Some base) q rest e' = p.1.1 base q
    by None q rest e' = rest e'

  leads_by : (ps : List ((s : Suffix) × SuffixIs s)) (base part : Part) → (along (map suffix_step (map (λ e. e.0) ps)) known (Some base)).part ≡ Some part
      → Leads known base (map (λ e. e.0) ps) part
  leads_by [] base part e = subst (Leads known base []) (some_same e) nowhere_else
  leads_by (p ∷ ps) base part e = by (suffix_step p.0 known (Some base)).part refl (λ next. leads_by ps next part) e where
    by : (o : Option Part) → (suffix_step p.0 known (Some base)).part ≡ o
        → ((next : Part) → (along (map suffix_step (map (λ e. e.0) ps)) known (Some next)).part ≡ Some part → Leads known next (map (λ e. e.0) ps) part)
        → (along (map suffix_step (map (λ e. e.0) ps)) known o).part ≡ Some part → Leads known base (p.0 ∷ map (λ e. e.0) ps) part
    by (Some next) q rest e' = one_step (p.1.0 base next q) (rest next e')
    by None q rest e' = absurd (stays_out ps part e')

  reference_by : (name : Name) (ps : List ((s : Suffix) × SuffixIs s)) (place : Place) → ExprIs (record { place = place; form = form.Ref name (map (λ e. e.0) ps) })
  reference_by name ps place part e =
      by (component known name.id) refl (sym (ap (λ (j : Judgement). j.part) (ref_is known whole name (map (λ e. e.0) ps) refl)) ∙ e) where
        whole : Expr
        whole = record { place = place; form = form.Ref name (map (λ e. e.0) ps) }

        by : (o : Option Part) → component known name.id ≡ o → (along (map suffix_step (map (λ e. e.0) ps)) known o).part ≡ Some part
            → IsPart known (record { place = place; form = form.Ref name (map (λ e. e.0) ps) }) part
        by (Some base) q e' = reference name (map (λ e. e.0) ps) base refl q (leads_by ps base part e')
        by None q e' = absurd (stays_out ps part e')

  types_by : (ps : List ((e : Expr) × ExprIs e)) (os : List Operand) → typed_operands known (map judged (map (λ e. e.0) ps)) ≡ Some os
      → HaveTypes known (map (λ e. e.0) ps) (map (λ (o : Operand). o.typ) os)
  types_by [] os e = subst (λ os. HaveTypes known [] (map (λ (o : Operand). o.typ) os)) (some_same e) no_operands
  types_by (p ∷ ps) os e = by (found_of known p.0).part (typed_operands known (map judged (map (λ e. e.0) ps))) refl refl e (types_by ps) where
    by : (a : Option Part) (b : Option (List Operand)) → (found_of known p.0).part ≡ a → typed_operands known (map judged (map (λ e. e.0) ps)) ≡ b
        → with_operand a (judged p.0).place b ≡ Some os
        → ((rest : List Operand) → typed_operands known (map judged (map (λ e. e.0) ps)) ≡ Some rest → HaveTypes known (map (λ e. e.0) ps) (map (λ (o : Operand). o.typ) rest))
        → HaveTypes known (p.0 ∷ map (λ e. e.0) ps) (map (λ (o : Operand). o.typ) os)
    by (Some part) (Some rest) q r e' more =
        subst (λ os. HaveTypes known (p.0 ∷ map (λ e. e.0) ps) (map (λ (o : Operand). o.typ) os)) (some_same e') (one_operand (p.1 part q) (more rest r))
    by (Some part) None q r e' more = absurd (none_some e')
    by None b q r e' more = absurd (none_some e')

  abbrev operation_node : PrimOp → Place → List Judgement → Option Sign → Judgement
  operation_node op place js row = node place (unless (is_some row) (OperandKind place)) (result_type op place (sign_or_unsigned row)) js

  operation_by : (op : PrimOp) (ps : List ((e : Expr) × ExprIs e)) (params : List ℕ) (place : Place)
      → ExprIs (record { place = place; form = form.Prim op (map (λ e. e.0) ps) params })
  operation_by op ps params place part e =
      by (typed_operands known (map judged (map (λ e. e.0) ps))) refl (sym (ap (λ (j : Judgement). j.part) (prim_is known whole op (map (λ e. e.0) ps) params refl)) ∙ e) where
        whole : Expr
        whole = record { place = place; form = form.Prim op (map (λ e. e.0) ps) params }

        js : List Judgement
        js = all_among known (map judged (map (λ e. e.0) ps))

        row_by : (os : List Operand) (signs : List Sign) (row : Option Sign) → HaveTypes known (map (λ e. e.0) ps) (map (λ (o : Operand). o.typ) os) → signs_of op os ≡ Some signs
            → row_kind op signs ≡ row → (operation_node op place js row).part ≡ Some part → IsPart known (record { place = place; form = form.Prim op (map (λ e. e.0) ps) params }) part
        row_by os signs (Some sign) have q r e' = subst (IsPart known (record { place = place; form = form.Prim op (map (λ e. e.0) ps) params })) (some_same e')
            (an_operation op (map (λ e. e.0) ps) params (map (λ (o : Operand). o.typ) os) signs sign refl have (signs_some op os signs q) r)
        row_by os signs None have q r e' = absurd (none_some e')

        signs_by : (os : List Operand) (a : Option (List Sign)) → HaveTypes known (map (λ e. e.0) ps) (map (λ (o : Operand). o.typ) os) → signs_of op os ≡ a
            → (operation_node op place js (row_of op a)).part ≡ Some part → IsPart known (record { place = place; form = form.Prim op (map (λ e. e.0) ps) params }) part
        signs_by os (Some signs) have q e' = row_by os signs (row_kind op signs) have q refl e'
        signs_by os None have q e' = absurd (none_some e')

        by : (o : Option (List Operand)) → typed_operands known (map judged (map (λ e. e.0) ps)) ≡ o → (over place (operation op place) js o).part ≡ Some part
            → IsPart known (record { place = place; form = form.Prim op (map (λ e. e.0) ps) params }) part
        by (Some os) q e' = signs_by os (signs_of op os) (types_by ps os q) refl e'
        by None q e' = absurd (none_some e')

  choice_by : (ps : List ((e : Expr) × ExprIs e)) (place : Place) → ExprIs (record { place = place; form = form.Mux (map (λ e. e.0) ps) })
  choice_by ps place part e =
      by (typed_operands known (map judged (map (λ e. e.0) ps))) refl (sym (ap (λ (j : Judgement). j.part) (mux_is known whole (map (λ e. e.0) ps) refl)) ∙ e) where
        whole : Expr
        whole = record { place = place; form = form.Mux (map (λ e. e.0) ps) }

        js : List Judgement
        js = all_among known (map judged (map (λ e. e.0) ps))

        three : (os : List Operand) → HaveTypes known (map (λ e. e.0) ps) (map (λ (o : Operand). o.typ) os) → (choice place js os).part ≡ Some part
            → IsPart known (record { place = place; form = form.Mux (map (λ e. e.0) ps) }) part
        three [] have e' = absurd (none_some e')
        three (c ∷ []) have e' = absurd (none_some e')
        three (c ∷ a ∷ []) have e' = absurd (none_some e')
        three (c ∷ a ∷ b ∷ []) have e' =
            let h = node_part place (choice_faults place c a b) a.typ js part e' in
            let m : Chooses c.typ a.typ b.typ = chooses place c a b h.0 in
            subst (IsPart known (record { place = place; form = form.Mux (map (λ e. e.0) ps) })) h.1
            (a_choice (map (λ e. e.0) ps) c.typ a.typ b.typ refl have m.condition_is m.first_signals m.second_signals m.first_passive m.second_passive m.equivalent)
        three (c ∷ a ∷ b ∷ d ∷ os) have e' = absurd (none_some e')

        by : (o : Option (List Operand)) → typed_operands known (map judged (map (λ e. e.0) ps)) ≡ o → (over place (choice place) js o).part ≡ Some part
            → IsPart known (record { place = place; form = form.Mux (map (λ e. e.0) ps) }) part
        by (Some os) q e' = three os (types_by ps os q) e'
        by None q e' = absurd (none_some e')

  literal_by : (sign : Sign) (width : Option ℕ) (number : Number) (place : Place) → ExprIs (record { place = place; form = form.Literal sign width number })
  literal_by sign width number place part e =
      let whole : Expr = record { place = place; form = form.Literal sign width number } in
      let fits = fits_literal sign width (integer_of_number number) in
      let h = node_part place (unless fits (LiteralFit place)) (ground place sign width) [] part (sym (ap (λ (j : Judgement). j.part) (literal_is known whole sign width number refl)) ∙ e) in
      subst (IsPart known whole) h.1 (literal sign width number refl (unless_none fits (LiteralFit place) h.0))

  form_case : (y : Form-F ((φ : Form) × FormIs φ) ((s : Suffix) × SuffixIs s) ((e : Expr) × ExprIs e))
      → FormIs (roll-Form (map-Form _ _ _ Form Suffix Expr (λ e. e.0) (λ e. e.0) (λ e. e.0) y))
  form_case (Form-F.Ref name ps) = subst FormIs (sym (rolls-Ref name (map (λ e. e.0) ps))) (reference_by name ps)
  form_case (Form-F.Literal sign width number) = subst FormIs (sym (rolls-Literal sign width number)) (literal_by sign width number)
  form_case (Form-F.Prim op ps params) = subst FormIs (sym (rolls-Prim op (map (λ e. e.0) ps) params)) (operation_by op ps params)
  form_case (Form-F.Mux ps) = subst FormIs (sym (rolls-Mux (map (λ e. e.0) ps))) (choice_by ps)

  pub is_part : (e : Expr) → ExprIs e
  is_part = ind-Expr FormIs SuffixIs ExprIs
      (λ x y is. subst (λ z. FormIs (roll-Form z)) is (form_case y))
      (λ x y is. subst (λ z. SuffixIs (roll-Suffix z)) is (suffix_case y))
      (λ x y is. subst (λ z. ExprIs (roll-Expr z)) is (y.form.1 y.place))

  -- And back

  choice_found : (place : Place) (js : List Judgement) (os : List Operand) (c a b : FirType) → map (λ (o : Operand). o.typ) os ≡ c ∷ a ∷ b ∷ [] → Chooses c a b
      → (choice place js os).part ≡ Some (source_of a)
  choice_found place js [] c a b e h = absurd cc
  choice_found place js (x ∷ []) c a b e h = absurd cc
  choice_found place js (x ∷ y ∷ []) c a b e h = absurd cc
  choice_found place js (x ∷ y ∷ z ∷ w ∷ os) c a b e h = absurd cc
  choice_found place js (x ∷ y ∷ z ∷ []) c a b e h =
      let p : x.typ ≡ c = heads e in
      let q : y.typ ≡ a = heads (tails e) in
      let r : z.typ ≡ b = heads (tails (tails e)) in
      let m : Chooses x.typ y.typ z.typ = subst (λ t. Chooses t y.typ z.typ) (sym p) (subst (λ t. Chooses c t z.typ) (sym q) (subst (Chooses c a) (sym r) h)) in
      node_found place (choice_faults place x y z) y.typ js (choice_quiet place x y z m) ∙ ap (λ t. Some (source_of t)) q

  mutual
    pub found_is : {e : Expr} {part : Part} → IsPart known e part → (found_of known e).part ≡ Some part
    found_is {e = e} (reference name ss base is there' leads) =
        ap (λ (j : Judgement). j.part) (ref_is known e name ss is) ∙ ap (λ o. (along (map suffix_step ss) known o).part) there' ∙ leads_found leads
    found_is {e = e} (literal sign width number is fits) =
        ap (λ (j : Judgement). j.part) (literal_is known e sign width number is)
        ∙ node_found e.place (unless (fits_literal sign width (integer_of_number number)) (LiteralFit e.place)) (ground e.place sign width) [] (ap (λ b. unless b (LiteralFit e.place)) fits)
    found_is {e = e} (an_operation op es params types signs sign is have kinds row) =
        let t = types_found have in
        let js = all_among known (map judged es) in
        ap (λ (j : Judgement). j.part) (prim_is known e op es params is) ∙ ap (λ o. (over e.place (operation op e.place) js o).part) t.1
        ∙ ap (λ a. (operation_node op e.place js (row_of op a)).part) (signs_back op t.0 signs (ap (map (sign_for op)) t.2 ∙ kinds)) ∙ ap (λ r. (operation_node op e.place js r).part) row
    found_is {e = e} (a_choice es c a b is have kind signals others passive passives same) =
        let t = types_found have in
        let js = all_among known (map judged es) in
        ap (λ (j : Judgement). j.part) (mux_is known e es is) ∙ ap (λ o. (over e.place (choice e.place) js o).part) t.1
        ∙ choice_found e.place js t.0 c a b t.2 (record { condition_is = kind; first_signals = signals; second_signals = others; first_passive = passive; second_passive = passives; equivalent = same })

    leads_found : {base part : Part} {ss : List Suffix} → Leads known base ss part → (along (map suffix_step ss) known (Some base)).part ≡ Some part
    leads_found nowhere_else = refl
    leads_found (one_step {rest = rest} step leads) = ap (λ o. (along (map suffix_step rest) known o).part) (step_found step) ∙ leads_found leads

    pub step_found : {base next : Part} {s : Suffix} → Steps known base s next → (suffix_step s known (Some base)).part ≡ Some next
    step_found {base = base} {s = s} (to_field name fs f is k q) =
        ap (λ (j : Judgement). j.part) (field_is known s name base is) ∙ ap (λ x. (field_step name base x).part) (ap out-Shape k ∙ outs-Bundle fs) ∙ ap (λ o. (field_found name base o).part) q
    step_found {base = base} {s = s} (to_element bracket at n o m is k below) =
        ap (λ (j : Judgement). j.part) (at_is known s bracket at n base is) ∙ ap (λ x. (element_step bracket at n base x).part) (ap out-Shape k ∙ outs-Vector o m)
        ∙ ap (λ b. (element_found base o b at).part) (lt-ltb n m below)
    step_found {base = base} {s = s} (to_indexed bracket index inner o m is k its kind) =
        ap (λ (j : Judgement). j.part) (index_is known s bracket index base is) ∙ ap (λ x. (from_index bracket (judged index).place x (Some base)).part) (found_is its)
        ∙ ap (λ x. (index_step bracket (judged index).place inner base x).part) (ap out-Shape k ∙ outs-Vector o m) ∙ ap (λ b. (indexed (judged index).place base o b).part) (is_unsigned_yes kind)

    pub types_found : {es : List Expr} {types : List FirType} → HaveTypes known es types
        → (os : List Operand) × (typed_operands known (map judged es) ≡ Some os) × (map (λ (o : Operand). o.typ) os ≡ types)
    types_found no_operands = ([], refl, refl)
    types_found (one_operand {e = e} {part = part} its have) =
        let t = types_found have in
        (record { place = (judged e).place; typ = part.typ } ∷ t.0, ap₂ (λ a b. with_operand a (judged e).place b) (found_is its) t.1, ap (λ ts. part.typ ∷ ts) t.2)

pub parts_exactly : (known : Known) (e : Expr) (part : Part) → ((found_of known e).part ≡ Some part) ↔ IsPart known e part
parts_exactly known e part = (is_part known e part, found_is known)

typed_some : (o : Option Part) (typ : FirType) → option_map (λ (part : Part). part.typ) o ≡ Some typ → (part : Part) × (o ≡ Some part) × (part.typ ≡ typ)
typed_some (Some part) typ e = (part, refl, some_same e)
typed_some None typ e = absurd (none_some e)

pub types_exactly : (known : Known) (e : Expr) (typ : FirType) → Has known e typ ↔ ((part : Part) × IsPart known e part × (part.typ ≡ typ))
types_exactly known e typ = (
  (λ h. let its = typed_some (found_of known e).part typ h in (its.0, is_part known e its.0 its.1, its.2)),
  (λ h. ap (option_map (λ (part : Part). part.typ)) (found_is known h.1) ∙ ap Some h.2),
)
