-- Expressions among their nodes and their names.
use Rattle.std.proofs.Common.{◌≡◌, ℕ, true, List, [], ◌∷◌, map, Option, Some, None, refl, sym, ap, ◌∙◌, subst, arith, ⊎_elim}
use Rattle.std.specs.Prelude.{Contains, is_some, flat_map}
use Rattle.std.proofs.lemmas.Grind.{common_steps}
use Rattle.place_text.specs.First.{HasNone}
use Rattle.bit_words.specs.declared.value.Kind.{Kind as Sign}
use Rattle.bit_words.specs.declared.number.Number.{Number}
use Rattle.place_text.specs.declared.place.Place.{Place}
use Rattle.prim_ops.specs.declared.operation.PrimOp.{PrimOp}
use Rattle.fir_types.specs.declared.fir_type.FirType.{FirType}
use Rattle.fir_types.specs.declared.name.Name.{Name}
use Rattle.fir_tree.specs.declared.expr.Expr.{Expr, the_lemmas}
use Rattle.fir_tree.specs.declared.expr.Form.{Form}
use Rattle.fir_tree.specs.declared.expr.Suffix.{Suffix}
use Rattle.fir_tree.specs.declared.expr.Form.TheOpen.{Form-F}
use Rattle.fir_tree.specs.declared.expr.Form.TheViews.{out-Form, out-Suffix}
use Rattle.fir_tree.specs.declared.expr.Form.TheVariants as form
use Rattle.fir_tree.specs.declared.expr.Form.TheVariants.{outs-Ref, outs-Literal, outs-Prim, outs-Mux}
use Rattle.fir_tree.specs.declared.expr.Suffix.TheVariants as suffix
use Rattle.fir_tree.specs.declared.expr.Suffix.TheVariants.{outs-Field, outs-At, outs-Index}
use Rattle.fir_names.specs.Extents.{references, suffix_references}
use Rattle.fir_tree.specs.declared.part.Part.{Part}
use Rattle.type_check.specs.Parts.{Known, component}
use Rattle.type_check.specs.Expressions.{found_of}
use Rattle.check_laws.specs.Typing.{IsPart, HaveTypes, no_operands as none_have, one_operand as one_has}
use Rattle.check_laws.specs.Faults.{StandsIn, itself, in_operation, in_choice, in_index, IsComplete}
use Rattle.check_laws.specs.Nodes.{NodesOf, reference, literal, operation, choice, NodesOfEach, no_operands, one_operand, NodesOnWay, no_steps, to_field, to_element, to_indexed}
use Rattle.check_laws.proofs.Members.{nothing_in, in_cases}
use Rattle.check_laws.proofs.Typed.{all_nodes_have}
use Rattle.circuit_laws.specs.Names.{Every}
use Rattle.circuit_laws.proofs.Alone.{every-left, every-right}
use Rattle.check_laws.specs.CircuitNodes.{HasThree}

-- The forms of a node

out_ref : {f : Form} (name : Name) (ss : List Suffix) → f ≡ form.Ref name ss → out-Form f ≡ Form-F.Ref name ss
out_ref name ss is = ap out-Form is ∙ outs-Ref name ss

out_literal : {f : Form} (sign : Sign) (width : Option ℕ) (number : Number) → f ≡ form.Literal sign width number → out-Form f ≡ Form-F.Literal sign width number
out_literal sign width number is = ap out-Form is ∙ outs-Literal sign width number

out_prim : {f : Form} (op : PrimOp) (es : List Expr) (params : List ℕ) → f ≡ form.Prim op es params → out-Form f ≡ Form-F.Prim op es params
out_prim op es params is = ap out-Form is ∙ outs-Prim op es params

out_mux : {f : Form} (es : List Expr) → f ≡ form.Mux es → out-Form f ≡ Form-F.Mux es
out_mux es is = ap out-Form is ∙ outs-Mux es

same_way : {f : Form} (a b : Name) (us vs : List Suffix) → f ≡ form.Ref a us → f ≡ form.Ref b vs → vs ≡ us
same_way a b us vs p q = let r = sym (out_ref a us p) ∙ out_ref b vs q in cc

same_operands : {f : Form} (a b : PrimOp) (us vs : List Expr) (ps qs : List ℕ) → f ≡ form.Prim a us ps → f ≡ form.Prim b vs qs → vs ≡ us
same_operands a b us vs ps qs p q = let r = sym (out_prim a us ps p) ∙ out_prim b vs qs q in cc

same_choice : {f : Form} (us vs : List Expr) → f ≡ form.Mux us → f ≡ form.Mux vs → vs ≡ us
same_choice us vs p q = let r = sym (out_mux us p) ∙ out_mux vs q in cc

pub same_index : {s : Suffix} (a b : Place) (x y : Expr) → s ≡ suffix.Index a x → s ≡ suffix.Index b y → x ≡ y
same_index a b x y p q = let r = sym (ap out-Suffix p ∙ outs-Index a x) ∙ ap out-Suffix q ∙ outs-Index b y in cc

pub field_or_at : {s : Suffix} {X : Type 0} (name : Name) (bracket at : Place) (n : ℕ) → s ≡ suffix.Field name → s ≡ suffix.At bracket at n → X
field_or_at name bracket at n p q = absurd (let r = sym (ap out-Suffix p ∙ outs-Field name) ∙ ap out-Suffix q ∙ outs-At bracket at n in cc)

pub field_or_index : {s : Suffix} {X : Type 0} (name : Name) (bracket : Place) (index : Expr) → s ≡ suffix.Field name → s ≡ suffix.Index bracket index → X
field_or_index name bracket index p q = absurd (let r = sym (ap out-Suffix p ∙ outs-Field name) ∙ ap out-Suffix q ∙ outs-Index bracket index in cc)

pub at_or_index : {s : Suffix} {X : Type 0} (place at : Place) (n : ℕ) (bracket : Place) (index : Expr) → s ≡ suffix.At place at n → s ≡ suffix.Index bracket index → X
at_or_index place at n bracket index p q = absurd (let r = sym (ap out-Suffix p ∙ outs-At place at n) ∙ ap out-Suffix q ∙ outs-Index bracket index in cc)

-- the nodes behind the first
abbrev pub Behind : (List Expr → Type 0) → Expr → List Expr → Type 0
Behind P e xs = (ys : List Expr) × (xs ≡ e ∷ ys) × P ys

pub operation_each : {e : Expr} {xs : List Expr} (op : PrimOp) (es : List Expr) (params : List ℕ) → NodesOf e xs → e.form ≡ form.Prim op es params → Behind (NodesOfEach es) e xs
operation_each op es params (reference name ss its way) is = absurd (let q = sym (out_prim op es params is) ∙ out_ref name ss its in cc)
operation_each op es params (literal sign width number its) is = absurd (let q = sym (out_prim op es params is) ∙ out_literal sign width number its in cc)
operation_each op es params (choice fs its each) is = absurd (let q = sym (out_prim op es params is) ∙ out_mux fs its in cc)
operation_each op es params (operation {nodes = ys} other fs more its each) is = (ys, refl, subst (λ l. NodesOfEach l ys) (same_operands op other es fs params more is its) each)

pub choice_each : {e : Expr} {xs : List Expr} (es : List Expr) → NodesOf e xs → e.form ≡ form.Mux es → Behind (NodesOfEach es) e xs
choice_each es (reference name ss its way) is = absurd (let q = sym (out_mux es is) ∙ out_ref name ss its in cc)
choice_each es (literal sign width number its) is = absurd (let q = sym (out_mux es is) ∙ out_literal sign width number its in cc)
choice_each es (operation op fs params its each) is = absurd (let q = sym (out_mux es is) ∙ out_prim op fs params its in cc)
choice_each es (choice {nodes = ys} fs its each) is = (ys, refl, subst (λ l. NodesOfEach l ys) (same_choice es fs is its) each)

pub reference_way : {e : Expr} {xs : List Expr} (name : Name) (ss : List Suffix) → NodesOf e xs → e.form ≡ form.Ref name ss → Behind (NodesOnWay ss) e xs
reference_way name ss (operation op es params its each) is = absurd (let q = sym (out_ref name ss is) ∙ out_prim op es params its in cc)
reference_way name ss (literal sign width number its) is = absurd (let q = sym (out_ref name ss is) ∙ out_literal sign width number its in cc)
reference_way name ss (choice fs its each) is = absurd (let q = sym (out_ref name ss is) ∙ out_mux fs its in cc)
reference_way name ss (reference {nodes = ys} other ts its way) is = (ys, refl, subst (λ l. NodesOnWay l ys) (same_way name other ss ts is its) way)

pub literal_alone : {e : Expr} {xs : List Expr} (sign : Sign) (width : Option ℕ) (number : Number) → NodesOf e xs → e.form ≡ form.Literal sign width number → xs ≡ e ∷ []
literal_alone sign width number (operation op es params its each) is = absurd (let q = sym (out_literal sign width number is) ∙ out_prim op es params its in cc)
literal_alone sign width number (reference name ss its way) is = absurd (let q = sym (out_literal sign width number is) ∙ out_ref name ss its in cc)
literal_alone sign width number (choice fs its each) is = absurd (let q = sym (out_literal sign width number is) ∙ out_mux fs its in cc)
literal_alone sign width number (literal other w n its) is = refl

-- What holds of all nodes holds of each expression within.

module _ (P : Expr → Type 0) where
  abbrev All : List Expr → Type 0
  All = Every Expr P

  -- the nodes of one of them
  abbrev OwnNodes : Expr → Type 0
  OwnNodes e = (xs : List Expr) × NodesOf e xs × All xs

  own_of_each : {es xs : List Expr} → NodesOfEach es xs → All xs → (e : Expr) → Contains es e → OwnNodes e
  own_of_each no_operands h e c = absurd (nothing_in e c)
  own_of_each (one_operand {e = x} {es = es} {nodes = ys} {others = zs} own more) h e c = ⊎_elim
      (λ same. subst OwnNodes same (ys, own, every-left Expr P ys zs h)) (λ later. own_of_each more (every-right Expr P ys zs h) e later) (in_cases x es e c)

  own_of_index : {ss : List Suffix} {xs : List Expr} → NodesOnWay ss xs → All xs → (bracket : Place) (index : Expr) → Contains ss (suffix.Index bracket index) → OwnNodes index
  own_of_index no_steps h bracket index c = absurd (nothing_in (suffix.Index bracket index) c)
  own_of_index (to_field {first = s} {rest = ss} name is way) h bracket index c = ⊎_elim
      (λ same. field_or_index name bracket index is same) (λ later. own_of_index way h bracket index later) (in_cases s ss (suffix.Index bracket index) c)
  own_of_index (to_element {first = s} {rest = ss} place at n is way) h bracket index c = ⊎_elim
      (λ same. at_or_index place at n bracket index is same) (λ later. own_of_index way h bracket index later) (in_cases s ss (suffix.Index bracket index) c)
  own_of_index (to_indexed {first = s} {rest = ss} {nodes = ys} {others = zs} place other is own way) h bracket index c = ⊎_elim
      (λ same. subst OwnNodes (same_index place bracket other index is same) (ys, own, every-left Expr P ys zs h))
      (λ later. own_of_index way (every-right Expr P ys zs h) bracket index later) (in_cases s ss (suffix.Index bracket index) c)

  first_node : {e : Expr} {xs : List Expr} → NodesOf e xs → All xs → P e
  first_node (reference name ss is way) h = h.0
  first_node (literal sign width number is) h = h.0
  first_node (operation op es params is each) h = h.0
  first_node (choice es is each) h = h.0

  pub holds_within : {inner e : Expr} → StandsIn inner e → (xs : List Expr) → NodesOf e xs → All xs → P inner
  holds_within itself xs are h = first_node are h
  holds_within (in_operation op es params operand is c more) xs are h =
      let each = operation_each op es params are is in
      let own = own_of_each each.2 (subst All each.1 h).1 operand c in
      holds_within more own.0 own.1 own.2
  holds_within (in_choice es operand is c more) xs are h =
      let each = choice_each es are is in
      let own = own_of_each each.2 (subst All each.1 h).1 operand c in
      holds_within more own.0 own.1 own.2
  holds_within (in_index name ss bracket index is c more) xs are h =
      let way = reference_way name ss are is in
      let own = own_of_index way.2 (subst All way.1 h).1 bracket index c in
      holds_within more own.0 own.1 own.2

-- Names

refs_ref : (e : Expr) (name : Name) (ss : List Suffix) → e.form ≡ form.Ref name ss → references e ≡ name ∷ flat_map (λ names. names) (map suffix_references ss)
refs_ref e name ss is = grind (arith, common_steps, the_lemmas)

refs_prim : (e : Expr) (op : PrimOp) (es : List Expr) (params : List ℕ) → e.form ≡ form.Prim op es params → references e ≡ flat_map (λ names. names) (map references es)
refs_prim e op es params is = grind (arith, common_steps, the_lemmas)

refs_mux : (e : Expr) (es : List Expr) → e.form ≡ form.Mux es → references e ≡ flat_map (λ names. names) (map references es)
refs_mux e es is = grind (arith, common_steps, the_lemmas)

refs_index : (s : Suffix) (bracket : Place) (index : Expr) → s ≡ suffix.Index bracket index → suffix_references s ≡ references index
refs_index s bracket index is = grind (arith, common_steps, the_lemmas)

module _ (P : Name → Type 0) where
  abbrev Names : List Name → Type 0
  Names = Every Name P

  names_of_one : {X : Type 0} (f : X → List Name) (xs : List X) (x : X) → Contains xs x → Names (flat_map (λ names. names) (map f xs)) → Names (f x)
  names_of_one f [] x c h = absurd (nothing_in x c)
  names_of_one f (y ∷ ys) x c h = ⊎_elim
      (λ same. subst (λ z. Names (f z)) same (every-left Name P (f y) (flat_map (λ names. names) (map f ys)) h))
      (λ later. names_of_one f ys x later (every-right Name P (f y) (flat_map (λ names. names) (map f ys)) h)) (in_cases y ys x c)

  pub names_within : {inner e : Expr} → StandsIn inner e → Names (references e) → Names (references inner)
  names_within itself h = h
  names_within {e = e} (in_operation op es params operand is c more) h = names_within more (names_of_one references es operand c (subst Names (refs_prim e op es params is) h))
  names_within {e = e} (in_choice es operand is c more) h = names_within more (names_of_one references es operand c (subst Names (refs_mux e es is) h))
  names_within {e = e} (in_index name ss bracket index is c more) h =
      names_within more (subst Names (refs_index (suffix.Index bracket index) bracket index refl) (names_of_one suffix_references ss (suffix.Index bracket index) c (subst Names (refs_ref e name ss is) h).1))

-- An expression whose names are known and which has no fault

abbrev pub IsIn : Known → Name → Type 0
IsIn known name = is_some (component known name.id) ≡ true

-- the expression is a part among the components
abbrev pub HasPart : Known → Expr → Type 0
HasPart known e = (part : Part) × IsPart known e part

pub some_is : {X : Type 0} (o : Option X) → is_some o ≡ true → (x : X) × (o ≡ Some x)
some_is (Some x) e = (x, refl)
some_is None e = cc

each_part : (known : Known) {es : List Expr} {types : List FirType} → HaveTypes known es types → Every Expr (HasPart known) es
each_part known none_have = tt
each_part known (one_has {part = part} is more) = ((part, is), each_part known more)

pub none_of : {X : Type 0} (xs : List X) → xs ≡ [] → HasNone (Contains xs)
none_of xs e x c = nothing_in x (subst (λ l. Contains l x) e c)

pub nodes_have_parts : (known : Known) (e : Expr) (xs : List Expr) → NodesOf e xs → Every Expr HasThree xs → Every Name (IsIn known) (references e) → (found_of known e).faults ≡ []
    → Every Expr (HasPart known) xs
nodes_have_parts known e xs are three names none =
    each_part known (all_nodes_have known e xs complete (none_of (found_of known e).faults none) are) where
      complete : (inner : Expr) → StandsIn inner e → IsComplete known inner
      complete inner s = record {
        names = λ name ss is. some_is (component known name.id) (subst (Every Name (IsIn known)) (refs_ref inner name ss is) (names_within (IsIn known) s names)).0;
        choices = λ operands is. holds_within HasThree s xs are three operands is;
      }
