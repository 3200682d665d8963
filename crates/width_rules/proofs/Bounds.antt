-- All variables of formulas are below a number.
use Rattle.std.proofs.Common.{◌≡◌, ℕ, ◌<◌, Bool, true, false, ◌&&◌, List, [], ◌∷◌, ◌++◌, map, length, take, drop, zip, Option, Some, None, is_some, IsSome, if◌then◌else◌, nat_eq, refl, sym, ap, ◌∙◌, subst, All, zero, suc, rules}
use Rattle.std.proofs.lemmas.Bool.{eqb-true}
use Rattle.std.proofs.lemmas.List.{length-map}
use Rattle.std.proofs.lemmas.List.Elements.{All-nil, All-cons}
use Rattle.bit_words.specs.declared.value.Kind.{Kind}
use Rattle.prim_ops.specs.declared.operation.PrimOp.{PrimOp}
use Rattle.prim_ops.specs.Operations.{arity_of}
use Rattle.prim_ops.specs.Kinds.{row_kind}
use Rattle.fir_types.specs.declared.fir_type.FirType.{FirType}
use Rattle.fir_types.specs.declared.fir_type.Shape.{Shape}
use Rattle.fir_types.specs.declared.fir_type.Shape.TheOpen.{Shape-F}
use Rattle.fir_types.specs.declared.fir_type.Shape.TheViews.{out-Shape}
use Rattle.fir_types.specs.declared.fir_type.Field.{Field}
use Rattle.width_rules.specs.declared.slot.Slot.{Slot}
use Rattle.width_rules.specs.declared.slot.Slot.TheVariants as slot
use Rattle.width_rules.specs.declared.rule.Formula.{Formula, the_lemmas}
use Rattle.width_rules.specs.declared.rule.Formula.TheVariants as formula
use Rattle.width_rules.specs.declared.rule.Formula.TheOpen.{Formula-F}
use Rattle.width_rules.specs.declared.rule.Formula.TheViews.{roll-Formula, out-Formula}
use Rattle.width_rules.specs.declared.rule.Formula.TheFolds.{map-Formula, every_here-Formula, every_made-Formula}
use Rattle.width_rules.specs.declared.rule.Formula.TheVariants.{rolls-Fixed, rolls-Var, rolls-Op, rolls-Greatest}
use Rattle.width_rules.specs.Formulas.{LayerFits, IsFormula}
use Rattle.width_rules.specs.Places.{field_slots, slots_of_layer, slots_of_field, size}
use Rattle.width_rules.specs.Sources.{Measured, formula_of, lone, kind_of, operation_formula, greater_of, choice}
use Rattle.width_rules.proofs.Rows.{row_arity}

-- what holds of each item of a list
abbrev pub Each : {X : Type 0} → (X → Type 0) → List X → Type 0
Each P [] = Unit {0}
Each P (x ∷ xs) = P x × Each P xs

pub each_all : {X : Type 0} (P : X → Type 0) (xs : List X) → Each P xs → All P xs
each_all P [] h = All-nil P
each_all P (x ∷ xs) h = All-cons P x xs h.0 (each_all P xs h.1)

pub each_append : {X : Type 0} (P : X → Type 0) (xs ys : List X) → Each P xs → Each P ys → Each P (xs ++ ys)
each_append P [] ys h k = k
each_append P (x ∷ xs) ys h k = (h.0, each_append P xs ys h.1 k)

each_take : {X : Type 0} (P : X → Type 0) (n : ℕ) (xs : List X) → Each P xs → Each P (take n xs)
each_take P zero xs h = tt
each_take P (suc n) [] h = tt
each_take P (suc n) (x ∷ xs) h = (h.0, each_take P n xs h.1)

each_drop : {X : Type 0} (P : X → Type 0) (n : ℕ) (xs : List X) → Each P xs → Each P (drop n xs)
each_drop P zero xs h = h
each_drop P (suc n) [] h = tt
each_drop P (suc n) (x ∷ xs) h = each_drop P n xs h.1

-- Formulas

-- a formula, by one layer over formulas
made : (count : ℕ) (y : Formula-F ((x : Formula) × IsFormula count x)) → LayerFits count (map-Formula ((x : Formula) × IsFormula count x) Formula (λ e. e.0) y)
    → IsFormula count (roll-Formula (map-Formula ((x : Formula) × IsFormula count x) Formula (λ e. e.0) y))
made count y h = every_made-Formula (LayerFits count) (map-Formula ((x : Formula) × IsFormula count x) Formula (λ e. e.0) y) y refl h

pub fixed_is : (count n : ℕ) → IsFormula count (formula.Fixed n)
fixed_is count n = subst (IsFormula count) (rolls-Fixed n) (made count (Formula-F.Fixed n) tt)

pub var_is : (count x : ℕ) → x < count → IsFormula count (formula.Var x)
var_is count x h = subst (IsFormula count) (rolls-Var x) (made count (Formula-F.Var x) h)

paired : (count : ℕ) (fs : List Formula) → Each (IsFormula count) fs → List ((x : Formula) × IsFormula count x)
paired count [] h = []
paired count (f ∷ fs) h = (f, h.0) ∷ paired count fs h.1

unpaired : (count : ℕ) (fs : List Formula) (h : Each (IsFormula count) fs) → map (λ (e : (x : Formula) × IsFormula count x). e.0) (paired count fs h) ≡ fs
unfolding paired
unpaired count [] h = refl
unpaired count (f ∷ fs) h = ap (λ l. f ∷ l) (unpaired count fs h.1)

greatest_is : (count : ℕ) (fs : List Formula) → Each (IsFormula count) fs → IsFormula count (formula.Greatest fs)
greatest_is count fs h = subst (λ l. IsFormula count (formula.Greatest l)) (unpaired count fs h)
    (subst (IsFormula count) (rolls-Greatest (map (λ (e : (x : Formula) × IsFormula count x). e.0) (paired count fs h))) (made count (Formula-F.Greatest (paired count fs h)) tt))

op_is : (count : ℕ) (prim : PrimOp) (kinds : List Kind) (fs : List Formula) (params : List ℕ) → Each (IsFormula count) fs → length kinds ≡ (arity_of prim).0 → length fs ≡ (arity_of prim).0
    → length params ≡ (arity_of prim).1 → IsSome (row_kind prim kinds) → IsFormula count (formula.Op prim kinds fs params)
op_is count prim kinds fs params h k f p row =
    let parts = map (λ (e : (x : Formula) × IsFormula count x). e.0) (paired count fs h) in
    subst (λ l. IsFormula count (formula.Op prim kinds l params)) (unpaired count fs h)
    (subst (IsFormula count) (rolls-Op prim kinds parts params) (made count (Formula-F.Op prim kinds (paired count fs h) params) (k, ap length (unpaired count fs h) ∙ f, p, row)))

pub var_below : (count x : ℕ) → IsFormula count (formula.Var x) → x < count
var_below count x h = subst (LayerFits count) (ap out-Formula (sym (rolls-Var x)) ∙ out_of (Formula-F.Var x)) (every_here-Formula (LayerFits count) (formula.Var x) h)
  where
    out_of : (y : Formula-F Formula) → out-Formula (roll-Formula y) ≡ y
    out_of y = search (rules, the_lemmas)

-- Widths

abbrev pub SlotFits : ℕ → Slot → Type 0
SlotFits count (slot.Fixed n) = Unit {0}
SlotFits count (slot.Var x) = x < count

abbrev pub SlotsFit : ℕ → List Slot → Type 0
SlotsFit count slots = Each (SlotFits count) slots

abbrev pub FormulasFit : ℕ → List Formula → Type 0
FormulasFit count fs = Each (IsFormula count) fs

pub slot_formula : (count : ℕ) (s : Slot) → SlotFits count s → IsFormula count (formula_of s)
slot_formula count (slot.Fixed n) h = fixed_is count n
slot_formula count (slot.Var x) h = var_is count x h

pub slot_formulas : (count : ℕ) (slots : List Slot) → SlotsFit count slots → FormulasFit count (map formula_of slots)
slot_formulas count [] h = tt
slot_formulas count (s ∷ ss) h = (slot_formula count s h.0, slot_formulas count ss h.1)

field_fits : (count name : ℕ) (fs : List Field) (slots : List Slot) → SlotsFit count slots → SlotsFit count (field_slots name fs slots)
field_fits count name [] slots h = h
field_fits count name (f ∷ fs) slots h = by (nat_eq f.name.id name) (each_take (SlotFits count) (size f.typ) slots h) (field_fits count name fs (drop (size f.typ) slots) (each_drop (SlotFits count) (size f.typ) slots h))
  where
    by : (b : Bool) → SlotsFit count (take (size f.typ) slots) → SlotsFit count (field_slots name fs (drop (size f.typ) slots))
        → SlotsFit count (if b then take (size f.typ) slots else field_slots name fs (drop (size f.typ) slots))
    by true own rest = own
    by false own rest = rest

layer_fits : (count name : ℕ) (layer : Shape-F Shape Field FirType) (slots : List Slot) → SlotsFit count slots → SlotsFit count (slots_of_layer name layer slots)
layer_fits count name (Shape-F.Unsigned w) slots h = h
layer_fits count name (Shape-F.Signed w) slots h = h
layer_fits count name Shape-F.Clock slots h = h
layer_fits count name Shape-F.Reset slots h = h
layer_fits count name Shape-F.AsyncReset slots h = h
layer_fits count name (Shape-F.Bundle fields) slots h = field_fits count name fields slots h
layer_fits count name (Shape-F.Vector element n) slots h = h

pub step_fits : (count name : ℕ) (typ : FirType) (slots : List Slot) → SlotsFit count slots → SlotsFit count (slots_of_field name typ slots)
step_fits count name typ slots h = layer_fits count name (out-Shape typ.shape) slots h

-- Operations and choices

pub lone_fits : (count : ℕ) (fs : List Formula) → FormulasFit count fs → IsFormula count (lone fs)
lone_fits count [] h = fixed_is count 0
lone_fits count (f ∷ fs) h = h.0

abbrev pub MeasureFits : ℕ → Measured → Type 0
MeasureFits count m = FormulasFit count m.formulas

lone_all : (count : ℕ) (ms : List Measured) → Each (MeasureFits count) ms → FormulasFit count (map (λ m. lone m.formulas) ms)
lone_all count [] h = tt
lone_all count (m ∷ ms) h = (lone_fits count m.formulas h.0, lone_all count ms h.1)

pub operation_fits : (count : ℕ) (op : PrimOp) (ms : List Measured) (params : List ℕ) → Each (MeasureFits count) ms → IsFormula count (operation_formula op ms params)
operation_fits count op ms params h = by (is_some (row_kind op (map kind_of ms))) refl (nat_eq (length params) (arity_of op).1) refl
  where
    some : (o : Option Kind) → is_some o ≡ true → IsSome o
    some (Some k) e = refl
    some None e = absurd cc

    by : (b : Bool) → is_some (row_kind op (map kind_of ms)) ≡ b → (p : Bool) → nat_eq (length params) (arity_of op).1 ≡ p
        → IsFormula count (if b && p then formula.Op op (map kind_of ms) (map (λ m. lone m.formulas) ms) params else formula.Fixed 0)
    by true e true q =
        let kinds : length (map kind_of ms) ≡ (arity_of op).0 = row_arity op (map kind_of ms) e in
        op_is count op (map kind_of ms) (map (λ m. lone m.formulas) ms) params (lone_all count ms h) kinds
        (length-map ms (λ m. lone m.formulas) ∙ sym (length-map ms kind_of) ∙ kinds) (eqb-true (length params) (arity_of op).1 q) (some (row_kind op (map kind_of ms)) e)
    by true e false q = fixed_is count 0
    by false e p q = fixed_is count 0

zip_fits : (count : ℕ) (fs gs : List Formula) → FormulasFit count fs → FormulasFit count gs → FormulasFit count (map greater_of (zip fs gs))
zip_fits count [] gs h k = tt
zip_fits count (f ∷ fs) [] h k = tt
zip_fits count (f ∷ fs) (g ∷ gs) h k = (greatest_is count (f ∷ g ∷ []) (h.0, (k.0, tt)), zip_fits count fs gs h.1 k.1)

pub choice_fits : (count : ℕ) (ms : List Measured) → Each (MeasureFits count) ms → MeasureFits count (choice ms)
choice_fits count [] h = tt
choice_fits count (a ∷ []) h = tt
choice_fits count (a ∷ b ∷ []) h = tt
choice_fits count (a ∷ b ∷ c ∷ []) h = zip_fits count b.formulas c.formulas h.1.0 h.1.1.0
choice_fits count (a ∷ b ∷ c ∷ d ∷ ms) h = tt
