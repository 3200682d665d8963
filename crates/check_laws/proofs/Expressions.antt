-- The references among the nodes of expressions, and their flows.
use Rattle.std.proofs.Common.{◌≡◌, ℕ, Bool, true, false, cond, List, [], ◌∷◌, ◌++◌, map, Option, refl, sym, ap, ap₂, ◌∙◌, subst, arith}
use Rattle.std.specs.List.{AllZip, flat_map}
use Rattle.std.proofs.lemmas.Grind.{common_steps}
use Rattle.std.proofs.lemmas.List.{map-append}
use Rattle.std.proofs.lemmas.List.Folds.{flat_map-map}
use Rattle.bit_words.specs.declared.value.Kind.{Kind as Sign}
use Rattle.bit_words.specs.declared.number.Number.{Number}
use Rattle.place_text.specs.declared.place.Place.{Place}
use Rattle.prim_ops.specs.declared.operation.PrimOp.{PrimOp}
use Rattle.fir_types.specs.declared.name.Name.{Name}
use Rattle.fir_tree.specs.declared.expr.Expr.{Expr, the_lemmas}
use Rattle.fir_tree.specs.declared.expr.Form.{Form}
use Rattle.fir_tree.specs.declared.expr.Suffix.{Suffix}
use Rattle.fir_tree.specs.declared.expr.Form.TheOpen.{Form-F}
use Rattle.fir_tree.specs.declared.expr.Form.TheViews.{out-Form}
use Rattle.fir_tree.specs.declared.expr.Form.TheVariants as form
use Rattle.fir_tree.specs.declared.expr.Form.TheVariants.{outs-Ref, outs-Literal, outs-Prim, outs-Mux}
use Rattle.fir_tree.specs.declared.expr.Suffix.TheVariants as suffix
use Rattle.fir_tree.specs.declared.part.Flow.{Flow}
use Rattle.fir_tree.specs.declared.part.Part.{Part}
use Rattle.reference_flow.specs.Flows.{Components, expr_flows, suffix_step, named}
use Rattle.reference_flow.specs.Counting.{suffix_flows}
use Rattle.type_check.specs.Parts.{Known}
use Rattle.check_laws.specs.Typing.{IsPart, reference as is_way, literal as is_literal, operation as is_operation, choice as is_choice}
use Rattle.check_laws.specs.Nodes.{NodesOf, reference, literal, operation, choice, NodesOfEach, no_operands, one_operand, NodesOnWay, no_steps, to_field, to_element, to_indexed}
use Rattle.circuit_laws.specs.Names.{Every}
use Rattle.circuit_laws.proofs.Alone.{every-left, every-right}
use Rattle.check_laws.specs.CircuitNodes.{Node, at}
use Rattle.check_laws.specs.References.{is_reference_form, is_reference, references_in, IsJudged}
use Rattle.check_laws.proofs.Steps.{same_flow, leads_on}
use Rattle.check_laws.proofs.Components.{Serves}

-- Nodes with the flows of their references

abbrev pub Flowing : List Node → List Flow → Type 0
Flowing nodes flows = AllZip IsJudged (references_in nodes) flows

references_append : (xs ys : List Node) → references_in (xs ++ ys) ≡ references_in xs ++ references_in ys
references_append [] ys = refl
references_append (x ∷ xs) ys = by (is_reference x.e) (references_append xs ys) where
  by : (b : Bool) → references_in (xs ++ ys) ≡ references_in xs ++ references_in ys
      → cond b (x ∷ references_in (xs ++ ys)) (references_in (xs ++ ys)) ≡ cond b (x ∷ references_in xs) (references_in xs) ++ references_in ys
  by true h = ap (λ l. x ∷ l) h
  by false h = h

zip_both : {A B : Type 0} (S : A → B → Type 0) (as' bs : List A) (cs ds : List B) → AllZip S as' cs → AllZip S bs ds → AllZip S (as' ++ bs) (cs ++ ds)
zip_both S [] bs [] ds h k = k
zip_both S [] bs (c ∷ cs) ds h k = absurd h
zip_both S (a ∷ as') bs [] ds h k = absurd h
zip_both S (a ∷ as') bs (c ∷ cs) ds h k = (h.0, zip_both S as' bs cs ds h.1 k)

pub joined : (xs ys : List Node) (fs gs : List Flow) → Flowing xs fs → Flowing ys gs → Flowing (xs ++ ys) (fs ++ gs)
joined xs ys fs gs h k = subst (λ l. AllZip IsJudged l (fs ++ gs)) (sym (references_append xs ys)) (zip_both IsJudged (references_in xs) (references_in ys) fs gs h k)

a_reference : (node : Node) (nodes : List Node) (flow : Flow) (flows : List Flow) → is_reference node.e ≡ true → IsJudged node flow → Flowing nodes flows
    → Flowing (node ∷ nodes) (flow ∷ flows)
a_reference node nodes flow flows is j h = subst (λ b. AllZip IsJudged (cond b (node ∷ references_in nodes) (references_in nodes)) (flow ∷ flows)) (sym is) (j, h)

none_itself : (node : Node) (nodes : List Node) (flows : List Flow) → is_reference node.e ≡ false → Flowing nodes flows → Flowing (node ∷ nodes) flows
none_itself node nodes flows is h = subst (λ b. AllZip IsJudged (cond b (node ∷ references_in nodes) (references_in nodes)) flows) (sym is) h

-- The forms of a node

out_ref : {f : Form} (name : Name) (ss : List Suffix) → f ≡ form.Ref name ss → out-Form f ≡ Form-F.Ref name ss
out_ref name ss is = ap out-Form is ∙ outs-Ref name ss

out_literal : {f : Form} (sign : Sign) (width : Option ℕ) (number : Number) → f ≡ form.Literal sign width number → out-Form f ≡ Form-F.Literal sign width number
out_literal sign width number is = ap out-Form is ∙ outs-Literal sign width number

out_prim : {f : Form} (op : PrimOp) (es : List Expr) (params : List ℕ) → f ≡ form.Prim op es params → out-Form f ≡ Form-F.Prim op es params
out_prim op es params is = ap out-Form is ∙ outs-Prim op es params

out_mux : {f : Form} (es : List Expr) → f ≡ form.Mux es → out-Form f ≡ Form-F.Mux es
out_mux es is = ap out-Form is ∙ outs-Mux es

same_name : {f : Form} (a b : Name) (us vs : List Suffix) → f ≡ form.Ref a us → f ≡ form.Ref b vs → a ≡ b
same_name a b us vs p q = let r = sym (out_ref a us p) ∙ out_ref b vs q in cc

same_way : {f : Form} (a b : Name) (us vs : List Suffix) → f ≡ form.Ref a us → f ≡ form.Ref b vs → us ≡ vs
same_way a b us vs p q = let r = sym (out_ref a us p) ∙ out_ref b vs q in cc

-- The flows of each form

module _ (c : Components) where
  abbrev pub each_flows : List Expr → List Flow
  each_flows es = flat_map (λ e. expr_flows e c) es

  abbrev way_flows : List Suffix → List Flow
  way_flows ss = flat_map (λ s. suffix_flows s c) ss

  flows_ref : (e : Expr) (name : Name) (ss : List Suffix) → e.form ≡ form.Ref name ss → expr_flows e c ≡ (named (map suffix_step ss) (c name.id)).flow ∷ way_flows ss
  flows_ref e name ss is = grind (arith, common_steps, the_lemmas, flat_map-map)

  flows_literal : (e : Expr) (sign : Sign) (width : Option ℕ) (number : Number) → e.form ≡ form.Literal sign width number → expr_flows e c ≡ []
  flows_literal e sign width number is = grind (arith, common_steps, the_lemmas)

  flows_prim : (e : Expr) (op : PrimOp) (es : List Expr) (params : List ℕ) → e.form ≡ form.Prim op es params → expr_flows e c ≡ each_flows es
  flows_prim e op es params is = grind (arith, common_steps, the_lemmas, flat_map-map)

  flows_mux : (e : Expr) (es : List Expr) → e.form ≡ form.Mux es → expr_flows e c ≡ each_flows es
  flows_mux e es is = grind (arith, common_steps, the_lemmas, flat_map-map)

  flows_field : (s : Suffix) (name : Name) → s ≡ suffix.Field name → suffix_flows s c ≡ []
  flows_field s name is = grind (arith, common_steps, the_lemmas)

  flows_at : (s : Suffix) (bracket at' : Place) (n : ℕ) → s ≡ suffix.At bracket at' n → suffix_flows s c ≡ []
  flows_at s bracket at' n is = grind (arith, common_steps, the_lemmas)

  flows_index : (s : Suffix) (bracket : Place) (index : Expr) → s ≡ suffix.Index bracket index → suffix_flows s c ≡ expr_flows index c
  flows_index s bracket index is = grind (arith, common_steps, the_lemmas)

-- the expression is a part among the components
abbrev pub HasPart : Known → Expr → Type 0
HasPart known e = (part : Part) × IsPart known e part

module _ (known : Known) (c : Components) (s : Serves c known) where
  judged_so : {e : Expr} {part : Part} (name : Name) (ss : List Suffix) → e.form ≡ form.Ref name ss → IsPart known e part → part.flow ≡ (named (map suffix_step ss) (c name.id)).flow
  judged_so {part = part} name ss is (is_way other ts base its there leads) =
      sym (same_flow (leads_on leads (c other.id) (s other.id base there))) ∙ ap₂ (λ (n : Name) l. (named (map suffix_step l) (c n.id)).flow) (same_name other name ts ss its is) (same_way other name ts ss its is)
  judged_so name ss is (is_literal sign width number its fits) = absurd (let q = sym (out_ref name ss is) ∙ out_literal sign width number its in cc)
  judged_so name ss is (is_operation op es params types signs sign its have kinds row) = absurd (let q = sym (out_ref name ss is) ∙ out_prim op es params its in cc)
  judged_so name ss is (is_choice es condition first second its have kind clocks others passive passives same) = absurd (let q = sym (out_ref name ss is) ∙ out_mux es its in cc)

  mutual
    expr_flowing : {e : Expr} {xs : List Expr} → NodesOf e xs → Every Expr (HasPart known) xs → Flowing (map (at known) xs) (expr_flows e c)
    expr_flowing {e = e} (reference {nodes = ys} name ss is way) h =
        subst (Flowing (at known e ∷ map (at known) ys)) (sym (flows_ref c e name ss is))
        (a_reference (at known e) (map (at known) ys) (named (map suffix_step ss) (c name.id)).flow (way_flows c ss) (ap is_reference_form (out_ref name ss is))
        (record { part = h.0.0; is = h.0.1; has = judged_so name ss is h.0.1 }) (way_flowing way h.1))
    expr_flowing {e = e} (literal sign width number is) h =
        subst (Flowing (at known e ∷ [])) (sym (flows_literal c e sign width number is)) (none_itself (at known e) [] [] (ap is_reference_form (out_literal sign width number is)) tt)
    expr_flowing {e = e} (operation {nodes = ys} op es params is each) h =
        subst (Flowing (at known e ∷ map (at known) ys)) (sym (flows_prim c e op es params is))
        (none_itself (at known e) (map (at known) ys) (each_flows c es) (ap is_reference_form (out_prim op es params is)) (each_flowing each h.1))
    expr_flowing {e = e} (choice {nodes = ys} es is each) h =
        subst (Flowing (at known e ∷ map (at known) ys)) (sym (flows_mux c e es is))
        (none_itself (at known e) (map (at known) ys) (each_flows c es) (ap is_reference_form (out_mux es is)) (each_flowing each h.1))

    pub each_flowing : {es xs : List Expr} → NodesOfEach es xs → Every Expr (HasPart known) xs → Flowing (map (at known) xs) (each_flows c es)
    each_flowing no_operands h = tt
    each_flowing (one_operand {e = e} {es = es} {nodes = xs} {others = ys} first more) h =
        subst (λ l. Flowing l (expr_flows e c ++ each_flows c es)) (sym (map-append (at known) xs ys))
        (joined (map (at known) xs) (map (at known) ys) (expr_flows e c) (each_flows c es) (expr_flowing first (every-left Expr (HasPart known) xs ys h))
        (each_flowing more (every-right Expr (HasPart known) xs ys h)))

    way_flowing : {ss : List Suffix} {xs : List Expr} → NodesOnWay ss xs → Every Expr (HasPart known) xs → Flowing (map (at known) xs) (way_flows c ss)
    way_flowing no_steps h = tt
    way_flowing (to_field {first = f} {rest = ss} {others = ys} name is way) h =
        subst (λ l. Flowing (map (at known) ys) (l ++ way_flows c ss)) (sym (flows_field c f name is)) (way_flowing way h)
    way_flowing (to_element {first = f} {rest = ss} {others = ys} bracket place n is way) h =
        subst (λ l. Flowing (map (at known) ys) (l ++ way_flows c ss)) (sym (flows_at c f bracket place n is)) (way_flowing way h)
    way_flowing (to_indexed {first = f} {rest = ss} {nodes = xs} {others = ys} bracket index is own way) h =
        subst (λ l. Flowing l (suffix_flows f c ++ way_flows c ss)) (sym (map-append (at known) xs ys))
        (joined (map (at known) xs) (map (at known) ys) (suffix_flows f c) (way_flows c ss)
        (subst (Flowing (map (at known) xs)) (sym (flows_index c f bracket index is)) (expr_flowing own (every-left Expr (HasPart known) xs ys h))) (way_flowing way (every-right Expr (HasPart known) xs ys h)))

  pub one_flowing : {e : Expr} (xs : List Expr) → NodesOf e xs → Every Expr (HasPart known) xs → Flowing (map (at known) xs) (expr_flows e c)
  one_flowing xs are h = expr_flowing are h
