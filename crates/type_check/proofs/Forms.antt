-- What is found of each form of an expression.
use Rattle.std.proofs.Common.{◌≡◌, ℕ, List, [], ◌∷◌, ◌++◌, map, length, refl, sym, ap, ap₂, ◌∙◌, arith, append_assoc, append-nil, subst}
use Rattle.std.specs.Prelude.{Option, Some, None, flat_map, option_map}
use Rattle.std.proofs.Math.Seq.{set-append_seam}
use Rattle.std.proofs.lemmas.Grind.{common_steps}
use Rattle.bit_words.specs.declared.value.Kind.{Kind as Sign}
use Rattle.bit_words.specs.declared.number.Number.{Number}
use Rattle.bit_words.specs.Numbers.{integer_of_number}
use Rattle.place_text.specs.declared.place.Place.{Place}
use Rattle.prim_ops.specs.declared.operation.PrimOp.{PrimOp}
use Rattle.fir_types.specs.declared.fir_type.FirType.{FirType}
use Rattle.fir_tree.specs.declared.expr.Expr.{Expr, the_lemmas}
use Rattle.fir_tree.specs.declared.expr.Form.TheVariants as form
use Rattle.type_check.specs.declared.fault.TypeFault.{TypeFault}
use Rattle.type_check.specs.declared.fault.TypeFault.TheVariants.{LiteralFit}
use Rattle.type_check.specs.declared.found.Findings.{Findings}
use Rattle.fir_tree.specs.declared.part.Part.{Part}
use Rattle.type_check.specs.declared.rules.Operand.{Operand as Held}
use Rattle.type_check.specs.Parts.{Known, unless, typed_without}
use Rattle.fir_tree.specs.Parts.{source_of}
use Rattle.type_check.specs.Expressions.{Judgement, Operand, found_of, judged, node, unjudged_node, over, operation, choice, type_or_none, fits_literal, typed_operands, all_among, row_of, signs_of, result_type}
use Rattle.fir_tree.specs.Kinds.{ground, no_type, sign_or_unsigned}
use Rattle.type_check.specs.Judging.{operand_of, together, filled, AddsBelow}
use Rattle.type_check.specs.Walks.{Adds}

literal_is : (known : Known) (e : Expr) (sign : Sign) (width : Option ℕ) (number : Number) → e.form ≡ form.Literal sign width number
    → found_of known e ≡ node e.place (unless (fits_literal sign width (integer_of_number number)) (LiteralFit e.place)) (ground e.place sign width) []
literal_is known e sign width number is = grind (arith, common_steps, the_lemmas)

prim_is : (known : Known) (e : Expr) (op : PrimOp) (operands : List Expr) (params : List ℕ) → e.form ≡ form.Prim op operands params
    → found_of known e ≡ over e.place (operation op e.place) (all_among known (map judged operands)) (typed_operands known (map judged operands))
prim_is known e op operands params is = grind (arith, common_steps, the_lemmas)

pub mux_is : (known : Known) (e : Expr) (operands : List Expr) → e.form ≡ form.Mux operands
    → found_of known e ≡ over e.place (choice e.place) (all_among known (map judged operands)) (typed_operands known (map judged operands))
mux_is known e operands is = grind (arith, common_steps, the_lemmas)

own_is : (own : Option FirType) → own ≡ option_map (λ (part : Part). part.typ) (option_map source_of own)
own_is (Some typ) = refl
own_is None = refl

-- what is found of the operands, and then the faults of the node itself
record AddsFaults (js : List Judgement) (own : List TypeFault) (old new : Findings) : Type 0 where
  pub types : new.types.items ≡ old.types.items ++ flat_map (λ j. j.nodes) js
  pub faults : new.faults.items ≡ old.faults.items ++ (flat_map (λ j. j.faults) js ++ own)

adds_faults : {js : List Judgement} {faults : List TypeFault} {old between new : Findings} → Adds (together js) old between
    → new.types.items ≡ between.types.items → new.faults.items ≡ between.faults.items ++ faults → AddsFaults js faults old new
adds_faults {js} {faults} {old} h types more = record {
  types = types ∙ h.types;
  faults = more ∙ ap (λ l. l ++ faults) h.faults ∙ append_assoc old.faults.items (together js).faults faults;
}

node_below : (place : Place) (faults : List TypeFault) (typ : FirType) (js : List Judgement) {old new : Findings} → AddsFaults js faults old new
    → AddsBelow place (node place faults typ js) old new
node_below place faults typ js h = record {
  below = flat_map (λ j. j.nodes) js;
  nodes = ap (λ own. type_or_none place own ∷ flat_map (λ j. j.nodes) js) (own_is (typed_without faults typ));
  types = h.types;
  faults = h.faults;
}

unjudged_below : (place : Place) (js : List Judgement) {old new : Findings} → AddsFaults js [] old new → AddsBelow place (unjudged_node place js) old new
unjudged_below place js {old} h = record {
  below = flat_map (λ j. j.nodes) js;
  nodes = refl;
  types = h.types;
  faults = h.faults ∙ ap (λ l. old.faults.items ++ l) (append-nil (flat_map (λ j. j.faults) js));
}

choice_below : (place : Place) (js : List Judgement) (typed : List Operand) {old new : Findings} → AddsFaults js (choice place [] typed).faults old new
    → AddsBelow place (choice place js typed) old new
choice_below place js [] h = unjudged_below place js h
choice_below place js (a ∷ []) h = unjudged_below place js h
choice_below place js (a ∷ b ∷ []) h = unjudged_below place js h
choice_below place js (a ∷ b ∷ c ∷ []) h = node_below place (choice place [] (a ∷ b ∷ c ∷ [])).faults b.typ js h
choice_below place js (a ∷ b ∷ c ∷ d ∷ more) h = unjudged_below place js h

pub adds_literal : (known : Known) (e : Expr) (sign : Sign) (width : Option ℕ) (number : Number) {old new : Findings} → e.form ≡ form.Literal sign width number
    → new.types.items ≡ old.types.items → new.faults.items ≡ old.faults.items ++ unless (fits_literal sign width (integer_of_number number)) (LiteralFit e.place)
    → AddsBelow e.place (found_of known e) old new
adds_literal known e sign width number {old} {new} is types faults =
    subst (λ j. AddsBelow e.place j old new) (sym (literal_is known e sign width number is))
    (node_below e.place (unless (fits_literal sign width (integer_of_number number)) (LiteralFit e.place)) (ground e.place sign width) []
    (record { types = types ∙ sym (append-nil old.types.items); faults = faults }))

pub adds_operation : (known : Known) (e : Expr) (op : PrimOp) (operands : List Expr) (params : List ℕ) (held : List Held) (old between new : Findings)
    → e.form ≡ form.Prim op operands params → typed_operands known (map judged operands) ≡ Some (map operand_of held)
    → Adds (together (all_among known (map judged operands))) old between → new.types.items ≡ between.types.items
    → new.faults.items ≡ between.faults.items ++ (operation op e.place [] (map operand_of held)).faults → AddsBelow e.place (found_of known e) old new
adds_operation known e op operands params held old between new is typed h types faults =
    let js = all_among known (map judged operands) in
    let own = operation op e.place [] (map operand_of held) in
    subst (λ j. AddsBelow e.place j old new) (sym (prim_is known e op operands params is ∙ ap (over e.place (operation op e.place) js) typed))
    (node_below e.place own.faults (result_type op e.place (sign_or_unsigned (row_of op (signs_of op (map operand_of held))))) js (adds_faults h types faults))

pub adds_choice : (known : Known) (e : Expr) (operands : List Expr) (held : List Held) (old between new : Findings)
    → e.form ≡ form.Mux operands → typed_operands known (map judged operands) ≡ Some (map operand_of held)
    → Adds (together (all_among known (map judged operands))) old between → new.types.items ≡ between.types.items
    → new.faults.items ≡ between.faults.items ++ (choice e.place [] (map operand_of held)).faults → AddsBelow e.place (found_of known e) old new
adds_choice known e operands held old between new is typed h types faults =
    let js = all_among known (map judged operands) in
    subst (λ j. AddsBelow e.place j old new) (sym (mux_is known e operands is ∙ ap (over e.place (choice e.place) js) typed))
    (choice_below e.place js (map operand_of held) (adds_faults h types faults))

-- the type of the node is put before those below it

filled_is : (types : List FirType) (place : Place) (part : Option Part) (below : List FirType)
    → filled (types ++ no_type place ∷ below) (length types) part ≡ types ++ type_or_none place (option_map (λ p. p.typ) part) ∷ below
filled_is types place (Some part) below = set-append_seam types (no_type place) below part.typ
filled_is types place None below = refl

pub adds_filled : (place : Place) (judgement : Judgement) (part : Option Part) (at : ℕ) (old between below new : Findings) → at ≡ length old.types.items
    → between.types.items ≡ old.types.items ++ no_type place ∷ [] → between.faults.items ≡ old.faults.items → AddsBelow place judgement between below → part ≡ judgement.part
    → new.types.items ≡ filled below.types.items at part → new.faults.items ≡ below.faults.items → Adds judgement old new
adds_filled place judgement part at old between below new at_end pushed same_faults h is types faults =
    let before = old.types.items in
    let there' = h.types ∙ ap (λ l. l ++ h.below) pushed ∙ append_assoc before (no_type place ∷ []) h.below in
    record {
      types = types ∙ ap₂ (λ l n. filled l n part) there' at_end ∙ ap (filled (before ++ no_type place ∷ h.below) (length before)) is
          ∙ filled_is before place judgement.part h.below ∙ ap (λ l. before ++ l) (sym h.nodes);
      faults = faults ∙ h.faults ∙ ap (λ l. l ++ judgement.faults) same_faults;
    }
