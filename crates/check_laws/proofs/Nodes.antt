-- The types that are found are those of the nodes in text order.
use Rattle.std.proofs.Common.{◌≡◌, ℕ, Bool, true, false, List, [], ◌∷◌, ◌++◌, map, Option, Some, None, refl, sym, ap, ◌∙◌, subst, append-nil}
use Rattle.std.specs.Prelude.{nat_lt, find, ◌==◌, is_some, flat_map, option_map}
use Rattle.bit_words.specs.Numbers.{integer_of_number}
use Rattle.place_text.specs.declared.place.Place.{Place}
use Rattle.prim_ops.specs.declared.operation.PrimOp.{PrimOp}
use Rattle.fir_types.specs.declared.fir_type.FirType.{FirType}
use Rattle.fir_types.specs.declared.fir_type.Shape.{Shape}
use Rattle.fir_types.specs.declared.fir_type.Shape.TheOpen.{Shape-F}
use Rattle.fir_types.specs.declared.fir_type.Shape.TheViews.{out-Shape}
use Rattle.fir_types.specs.declared.fir_type.Field.{Field}
use Rattle.fir_types.specs.declared.name.Name.{Name}
use Rattle.fir_tree.specs.declared.expr.Expr.{Expr, ind-Expr}
use Rattle.fir_tree.specs.declared.expr.Form.{Form}
use Rattle.fir_tree.specs.declared.expr.Suffix.{Suffix}
use Rattle.fir_tree.specs.declared.expr.Form.TheOpen.{Form-F, Suffix-F}
use Rattle.fir_tree.specs.declared.expr.Form.TheFolds.{map-Form, map-Suffix}
use Rattle.fir_tree.specs.declared.expr.Form.TheViews.{roll-Form, roll-Suffix, roll-Expr}
use Rattle.fir_tree.specs.declared.expr.Form.TheVariants.{rolls-Ref, rolls-Literal, rolls-Prim, rolls-Mux}
use Rattle.fir_tree.specs.declared.expr.Suffix.TheVariants as suffix
use Rattle.fir_tree.specs.declared.expr.Suffix.TheVariants.{rolls-Field, rolls-At, rolls-Index}
use Rattle.fir_tree.specs.declared.part.Part.{Part}
use Rattle.fir_tree.specs.Kinds.{is_unsigned, ground, sign_or_unsigned}
use Rattle.type_check.specs.declared.fault.TypeFault.{TypeFault}
use Rattle.type_check.specs.declared.fault.TypeFault.TheVariants.{OperandKind, LiteralFit}
use Rattle.type_check.specs.Parts.{Known, component, unless}
use Rattle.type_check.specs.Expressions.{Judgement, Operand, found_of, judged, suffix_step, along, as_node, node, over, operation, choice, choice_faults, typed_operands, all_among, signs_of, row_of, result_type, fits_literal, from_index, field_step, field_found, element_step, element_found, index_step, indexed, type_or_none}
use Rattle.check_laws.specs.Nodes.{NodesOf, reference, literal, operation as an_operation, choice as a_choice, NodesOfEach, no_operands, one_operand, NodesOnWay, no_steps, to_field, to_element, to_indexed, ListTypes, no_nodes, a_part, no_part}
use Rattle.check_laws.proofs.Typing.{none_some, ref_is, literal_is, prim_is, mux_is, field_is, at_is, field_out, at_out, is_part, found_is}
use Rattle.check_laws.proofs.Faults.{index_any}

-- Steps have no nodes of their own

field_quiet : (name : Name) (base : Part) (x : Shape-F Shape Field FirType) → (field_step name base x).nodes ≡ []
field_quiet name base (Shape-F.Bundle fs) = by (find (λ f. f.name.id == name.id) fs) where
  by : (o : Option Field) → (field_found name base o).nodes ≡ []
  by (Some f) = refl
  by None = refl
field_quiet name base (Shape-F.Unsigned w) = refl
field_quiet name base (Shape-F.Signed w) = refl
field_quiet name base Shape-F.Clock = refl
field_quiet name base Shape-F.Reset = refl
field_quiet name base Shape-F.AsyncReset = refl
field_quiet name base (Shape-F.Vector e n) = refl

at_quiet : (bracket at : Place) (n : ℕ) (base : Part) (x : Shape-F Shape Field FirType) → (element_step bracket at n base x).nodes ≡ []
at_quiet bracket at n base (Shape-F.Vector e m) = by (nat_lt n m) where
  by : (b : Bool) → (element_found base e b at).nodes ≡ []
  by true = refl
  by false = refl
at_quiet bracket at n base (Shape-F.Unsigned w) = refl
at_quiet bracket at n base (Shape-F.Signed w) = refl
at_quiet bracket at n base Shape-F.Clock = refl
at_quiet bracket at n base Shape-F.Reset = refl
at_quiet bracket at n base Shape-F.AsyncReset = refl
at_quiet bracket at n base (Shape-F.Bundle fs) = refl

picked_quiet : (bracket at : Place) (inner base : Part) (x : Shape-F Shape Field FirType) → (index_step bracket at inner base x).nodes ≡ []
picked_quiet bracket at inner base (Shape-F.Vector e m) = by (is_unsigned inner.typ) where
  by : (b : Bool) → (indexed at base e b).nodes ≡ []
  by true = refl
  by false = refl
picked_quiet bracket at inner base (Shape-F.Unsigned w) = refl
picked_quiet bracket at inner base (Shape-F.Signed w) = refl
picked_quiet bracket at inner base Shape-F.Clock = refl
picked_quiet bracket at inner base Shape-F.Reset = refl
picked_quiet bracket at inner base Shape-F.AsyncReset = refl
picked_quiet bracket at inner base (Shape-F.Bundle fs) = refl

index_quiet : (bracket at : Place) (i o : Option Part) → (from_index bracket at i o).nodes ≡ []
index_quiet bracket at (Some inner) (Some base) = picked_quiet bracket at inner base (out-Shape base.typ.shape)
index_quiet bracket at (Some inner) None = refl
index_quiet bracket at None o = refl

-- A node before those of its operands

abbrev own_type : Place → Judgement → FirType
own_type place j = type_or_none place (option_map (λ (part : Part). part.typ) j.part)

abbrev all_nodes : List Judgement → List FirType
all_nodes js = flat_map (λ (j : Judgement). j.nodes) js

node_first : (place : Place) (faults : List TypeFault) (typ : FirType) (js : List Judgement) → (node place faults typ js).nodes ≡ own_type place (node place faults typ js) ∷ all_nodes js
node_first place [] typ js = refl
node_first place (fault ∷ faults) typ js = refl

operation_first : (op : PrimOp) (place : Place) (js : List Judgement) (o : Option (List Operand))
    → (over place (operation op place) js o).nodes ≡ own_type place (over place (operation op place) js o) ∷ all_nodes js
operation_first op place js None = refl
operation_first op place js (Some os) =
    let row = row_of op (signs_of op os) in
    node_first place (unless (is_some row) (OperandKind place)) (result_type op place (sign_or_unsigned row)) js

choice_first : (place : Place) (js : List Judgement) (o : Option (List Operand)) → (over place (choice place) js o).nodes ≡ own_type place (over place (choice place) js o) ∷ all_nodes js
choice_first place js None = refl
choice_first place js (Some []) = refl
choice_first place js (Some (c ∷ [])) = refl
choice_first place js (Some (c ∷ a ∷ [])) = refl
choice_first place js (Some (c ∷ a ∷ b ∷ [])) = node_first place (choice_faults place c a b) a.typ js
choice_first place js (Some (c ∷ a ∷ b ∷ d ∷ os)) = refl

module _ (known : Known) where
  lists_both : {xs ys : List Expr} {ts us : List FirType} → ListTypes known xs ts → ListTypes known ys us → ListTypes known (xs ++ ys) (ts ++ us)
  lists_both no_nodes h = h
  lists_both (a_part part is more) h = a_part part is (lists_both more h)
  lists_both (no_part isnt more) h = no_part isnt (lists_both more h)

  -- a node with what is found of it, before others
  listed_first : (e : Expr) (j : Judgement) (ys : List Expr) (rest : List FirType) → found_of known e ≡ j → j.nodes ≡ own_type e.place j ∷ rest → ListTypes known ys rest
      → ListTypes known (e ∷ ys) (found_of known e).nodes
  listed_first e j ys rest is own h =
      subst (ListTypes known (e ∷ ys)) (ap (λ j. own_type e.place j ∷ rest) is ∙ sym own ∙ ap (λ (j : Judgement). j.nodes) (sym is)) (by (found_of known e).part refl) where
        by : (o : Option Part) → (found_of known e).part ≡ o → ListTypes known (e ∷ ys) (type_or_none e.place (option_map (λ (part : Part). part.typ) o) ∷ rest)
        by (Some part) q = a_part part (is_part known e part q) h
        by None q = no_part (λ part its. none_some (sym q ∙ found_is known its)) h

  field_nodes : (s : Suffix) (name : Name) (o : Option Part) → s ≡ suffix.Field name → (suffix_step s known o).nodes ≡ []
  field_nodes s name None is = ap (λ (j : Judgement). j.nodes) (field_out known s name is)
  field_nodes s name (Some base) is = ap (λ (j : Judgement). j.nodes) (field_is known s name base is) ∙ field_quiet name base (out-Shape base.typ.shape)

  at_nodes : (s : Suffix) (bracket at : Place) (n : ℕ) (o : Option Part) → s ≡ suffix.At bracket at n → (suffix_step s known o).nodes ≡ []
  at_nodes s bracket at n None is = ap (λ (j : Judgement). j.nodes) (at_out known s bracket at n is)
  at_nodes s bracket at n (Some base) is = ap (λ (j : Judgement). j.nodes) (at_is known s bracket at n base is) ∙ at_quiet bracket at n base (out-Shape base.typ.shape)

  index_nodes : (s : Suffix) (bracket : Place) (index : Expr) (o : Option Part) → s ≡ suffix.Index bracket index → (suffix_step s known o).nodes ≡ (found_of known index).nodes
  index_nodes s bracket index o is =
      ap (λ (j : Judgement). j.nodes) (index_any known s bracket index o is)
      ∙ ap (λ l. (found_of known index).nodes ++ l) (index_quiet bracket (judged index).place (found_of known index).part o) ∙ append-nil (found_of known index).nodes

  mutual
    list_types : {e : Expr} {xs : List Expr} → NodesOf e xs → ListTypes known xs (found_of known e).nodes
    list_types {e = e} (reference {nodes = ys} name ss is way) =
        let found = along (map suffix_step ss) known (component known name.id) in
        listed_first e (as_node e.place found) ys found.nodes (ref_is known e name ss is) refl (way_types way (component known name.id))
    list_types {e = e} (literal sign width number is) =
        let faults = unless (fits_literal sign width (integer_of_number number)) (LiteralFit e.place) in
        listed_first e (node e.place faults (ground e.place sign width) []) [] [] (literal_is known e sign width number is) (node_first e.place faults (ground e.place sign width) []) no_nodes
    list_types {e = e} (an_operation {nodes = ys} op es params is each) =
        let js = all_among known (map judged es) in
        let o = typed_operands known (map judged es) in
        listed_first e (over e.place (operation op e.place) js o) ys (all_nodes js) (prim_is known e op es params is) (operation_first op e.place js o) (each_types each)
    list_types {e = e} (a_choice {nodes = ys} es is each) =
        let js = all_among known (map judged es) in
        let o = typed_operands known (map judged es) in
        listed_first e (over e.place (choice e.place) js o) ys (all_nodes js) (mux_is known e es is) (choice_first e.place js o) (each_types each)

    each_types : {es xs : List Expr} → NodesOfEach es xs → ListTypes known xs (all_nodes (all_among known (map judged es)))
    each_types no_operands = no_nodes
    each_types (one_operand own others) = lists_both (list_types own) (each_types others)

    way_types : {ss : List Suffix} {xs : List Expr} → NodesOnWay ss xs → (o : Option Part) → ListTypes known xs (along (map suffix_step ss) known o).nodes
    way_types no_steps o = no_nodes
    way_types (to_field {first = s} {rest = ss} {others = ys} name is way) o =
        let more = along (map suffix_step ss) known (suffix_step s known o).part in
        subst (λ l. ListTypes known ys (l ++ more.nodes)) (sym (field_nodes s name o is)) (way_types way (suffix_step s known o).part)
    way_types (to_element {first = s} {rest = ss} {others = ys} bracket at n is way) o =
        let more = along (map suffix_step ss) known (suffix_step s known o).part in
        subst (λ l. ListTypes known ys (l ++ more.nodes)) (sym (at_nodes s bracket at n o is)) (way_types way (suffix_step s known o).part)
    way_types (to_indexed {first = s} {rest = ss} {nodes = xs} {others = ys} bracket index is own way) o =
        let more = along (map suffix_step ss) known (suffix_step s known o).part in
        subst (λ l. ListTypes known (xs ++ ys) (l ++ more.nodes)) (sym (index_nodes s bracket index o is)) (lists_both (list_types own) (way_types way (suffix_step s known o).part))

pub types_in_order : (known : Known) (e : Expr) (nodes : List Expr) → NodesOf e nodes → ListTypes known nodes (found_of known e).nodes
types_in_order known e nodes are = list_types known are

-- Each expression has nodes

abbrev HasNodes : Expr → Type 0
HasNodes e = (nodes : List Expr) × NodesOf e nodes

abbrev FormHas : Form → Type 0
FormHas φ = (place : Place) → HasNodes (record { place = place; form = φ })

abbrev SuffixHas : Suffix → Type 0
SuffixHas s = (rest : List Suffix) (others : List Expr) → NodesOnWay rest others → (nodes : List Expr) × NodesOnWay (s ∷ rest) nodes

way_has : (ps : List ((s : Suffix) × SuffixHas s)) → (nodes : List Expr) × NodesOnWay (map (λ e. e.0) ps) nodes
way_has [] = ([], no_steps)
way_has (p ∷ ps) = let more = way_has ps in p.1 (map (λ e. e.0) ps) more.0 more.1

each_has : (ps : List ((e : Expr) × HasNodes e)) → (nodes : List Expr) × NodesOfEach (map (λ e. e.0) ps) nodes
each_has [] = ([], no_operands)
each_has (p ∷ ps) = let more = each_has ps in (p.1.0 ++ more.0, one_operand p.1.1 more.1)

suffix_has : (y : Suffix-F ((φ : Form) × FormHas φ) ((s : Suffix) × SuffixHas s) ((e : Expr) × HasNodes e))
    → SuffixHas (roll-Suffix (map-Suffix _ _ _ Form Suffix Expr (λ e. e.0) (λ e. e.0) (λ e. e.0) y))
suffix_has (Suffix-F.Field name) rest others way = (others, to_field name (rolls-Field name) way)
suffix_has (Suffix-F.At bracket at n) rest others way = (others, to_element bracket at n (rolls-At bracket at n) way)
suffix_has (Suffix-F.Index bracket p) rest others way = (p.1.0 ++ others, to_indexed bracket p.0 (rolls-Index bracket p.0) p.1.1 way)

form_has : (y : Form-F ((φ : Form) × FormHas φ) ((s : Suffix) × SuffixHas s) ((e : Expr) × HasNodes e))
    → FormHas (roll-Form (map-Form _ _ _ Form Suffix Expr (λ e. e.0) (λ e. e.0) (λ e. e.0) y))
form_has (Form-F.Ref name ps) place =
    let way = way_has ps in
    let e : Expr = record { place = place; form = roll-Form (Form-F.Ref name (map (λ e. e.0) ps)) } in
    (e ∷ way.0, reference name (map (λ e. e.0) ps) (rolls-Ref name (map (λ e. e.0) ps)) way.1)
form_has (Form-F.Literal sign width number) place =
    let e : Expr = record { place = place; form = roll-Form (Form-F.Literal sign width number) } in
    (e ∷ [], literal sign width number (rolls-Literal sign width number))
form_has (Form-F.Prim op ps params) place =
    let each = each_has ps in
    let e : Expr = record { place = place; form = roll-Form (Form-F.Prim op (map (λ e. e.0) ps) params) } in
    (e ∷ each.0, an_operation op (map (λ e. e.0) ps) params (rolls-Prim op (map (λ e. e.0) ps) params) each.1)
form_has (Form-F.Mux ps) place =
    let each = each_has ps in
    let e : Expr = record { place = place; form = roll-Form (Form-F.Mux (map (λ e. e.0) ps)) } in
    (e ∷ each.0, a_choice (map (λ e. e.0) ps) (rolls-Mux (map (λ e. e.0) ps)) each.1)

pub nodes_are_there : (e : Expr) → (nodes : List Expr) × NodesOf e nodes
nodes_are_there = ind-Expr FormHas SuffixHas HasNodes
    (λ x y is. subst (λ z. FormHas (roll-Form z)) is (form_has y))
    (λ x y is. subst (λ z. SuffixHas (roll-Suffix z)) is (suffix_has y))
    (λ x y is. subst (λ z. HasNodes (roll-Expr z)) is (y.form.1 y.place))
