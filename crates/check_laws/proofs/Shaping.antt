-- In a circuit whose operations have their operands, each choice among the nodes has three.
use Rattle.std.proofs.Common.{◌≡◌, ℕ, Bool, true, false, ◌&&◌, List, [], ◌∷◌, ◌++◌, map, length, refl, sym, ap, ◌∙◌, subst, arith, ⊎_elim}
use Rattle.std.specs.Prelude.{Contains, nat_eq}
use Rattle.std.specs.List.{list_all, AllZip}
use Rattle.std.proofs.lemmas.Grind.{common_steps}
use Rattle.std.proofs.lemmas.Bool.{eqb-true}
use Rattle.place_text.specs.First.{HasNone}
use Rattle.prim_ops.specs.declared.operation.PrimOp.{PrimOp}
use Rattle.prim_ops.specs.Operations.{arity_of}
use Rattle.place_text.specs.declared.place.Place.{Place}
use Rattle.fir_types.specs.declared.fir_type.FirType.{FirType}
use Rattle.fir_types.specs.declared.name.Name.{Name}
use Rattle.fir_layout.specs.declared.laid.Laid.{Laid}
use Rattle.fir_grammar.specs.Grammar.{IsCircuit}
use Rattle.fir_tree.specs.declared.circuit.Circuit.{Circuit}
use Rattle.fir_tree.specs.declared.circuit.Module.{Module}
use Rattle.fir_tree.specs.declared.scope.Scope.{Scope}
use Rattle.fir_tree.specs.declared.expr.Expr.{Expr, the_lemmas}
use Rattle.fir_tree.specs.declared.expr.Suffix.{Suffix, fold-Suffix}
use Rattle.fir_tree.specs.declared.expr.Form.TheVariants as form
use Rattle.fir_tree.specs.declared.expr.Suffix.TheVariants as suffix
use Rattle.fir_tree.specs.declared.stmt.Stmt.{Stmt}
use Rattle.fir_tree.specs.declared.stmt.Arm.{Arm, fold-Arm}
use Rattle.fir_tree.specs.declared.stmt.Stmt.TheOpen.{Stmt-F}
use Rattle.fir_tree.specs.declared.stmt.Stmt.TheFolds.{map-Stmt, fold-roll-Stmt, fold-roll-Arm}
use Rattle.fir_tree.specs.declared.stmt.Stmt.TheViews.{out-Stmt}
use Rattle.fir_names.specs.Scopes.{IsScope}
use Rattle.type_check.specs.Parts.{Known}
use Rattle.type_check.specs.Expressions.{Has}
use Rattle.type_check.specs.Faults.{IsFault}
use Rattle.type_check.specs.Statements.{types_of}
use Rattle.check_laws.proofs.Members.{nothing_in, in_cases}
use Rattle.check_laws.specs.Nodes.{NodesOf, reference, literal, operation, choice, NodesOfEach, no_operands, one_operand, NodesOnWay, no_steps, to_field, to_element, to_indexed}
use Rattle.circuit_laws.specs.Names.{Every}
use Rattle.circuit_laws.proofs.Alone.{every-append}
use Rattle.fitted_laws.specs.Shaped.{all_are, of_form, of_suffix, of_expr, is_shaped, of_stmt, of_arm, is_shaped_stmt, is_shaped_module, is_shaped_circuit}
use Rattle.fitted_laws.proofs.Spelled.{spelled_shaped}
use Rattle.check_laws.specs.CircuitNodes.{Node, at, expressions_in, arms_in, else_in, NodesIn, no_statements, one_statement, NodesInArms, no_arms, one_arm, NodesOfModules, no_modules, one_module, NodesOfCircuit, HasThree}
use Rattle.check_laws.proofs.Layers.{layer_of}
use Rattle.check_laws.proofs.Faultless.{table_typed}

left_is : (a b : Bool) → (a && b) ≡ true → a ≡ true
left_is true b e = refl
left_is false b e = cc

right_is : (a b : Bool) → (a && b) ≡ true → b ≡ true
right_is true b e = e
right_is false b e = cc

-- Expressions

abbrev shaped_suffix : Suffix → Bool
shaped_suffix = fold-Suffix Bool Bool Bool of_form of_suffix of_expr

ref_shaped : (e : Expr) (name : Name) (ss : List Suffix) → e.form ≡ form.Ref name ss → is_shaped e ≡ all_are (map shaped_suffix ss)
ref_shaped e name ss is = grind (arith, common_steps, the_lemmas)

prim_shaped : (e : Expr) (op : PrimOp) (es : List Expr) (params : List ℕ) → e.form ≡ form.Prim op es params
    → is_shaped e ≡ (all_are (map is_shaped es) && (nat_eq (length (map is_shaped es)) (arity_of op).0 && nat_eq (length params) (arity_of op).1))
prim_shaped e op es params is = grind (arith, common_steps, the_lemmas)

mux_shaped : (e : Expr) (es : List Expr) → e.form ≡ form.Mux es → is_shaped e ≡ (all_are (map is_shaped es) && nat_eq (length (map is_shaped es)) 3)
mux_shaped e es is = grind (arith, common_steps, the_lemmas)

index_shaped : (s : Suffix) (bracket : Place) (index : Expr) → s ≡ suffix.Index bracket index → shaped_suffix s ≡ is_shaped index
index_shaped s bracket index is = grind (arith, common_steps, the_lemmas)

three_of : (es : List Expr) → nat_eq (length (map is_shaped es)) 3 ≡ true → (condition : Expr) × (first : Expr) × (second : Expr) × (es ≡ condition ∷ first ∷ second ∷ [])
three_of [] e = cc
three_of (a ∷ []) e = cc
three_of (a ∷ b ∷ []) e = cc
three_of (a ∷ b ∷ c ∷ []) e = (a, b, c, refl)
three_of (a ∷ b ∷ c ∷ d ∷ es) e = absurd (let q = eqb-true (length (map is_shaped (a ∷ b ∷ c ∷ d ∷ es))) 3 e in omega (arith, q))

own_three : (e : Expr) → is_shaped e ≡ true → HasThree e
own_three e h operands is = three_of operands (right_is (all_are (map is_shaped operands)) _ (sym (mux_shaped e operands is) ∙ h))

mutual
  nodes_three : {e : Expr} {xs : List Expr} → NodesOf e xs → is_shaped e ≡ true → Every Expr HasThree xs
  nodes_three {e = e} (reference name ss is way) h = (own_three e h, way_three way (sym (ref_shaped e name ss is) ∙ h))
  nodes_three {e = e} (literal sign width number is) h = (own_three e h, tt)
  nodes_three {e = e} (operation op es params is each) h = (own_three e h, each_three each (left_is (all_are (map is_shaped es)) _ (sym (prim_shaped e op es params is) ∙ h)))
  nodes_three {e = e} (choice es is each) h = (own_three e h, each_three each (left_is (all_are (map is_shaped es)) _ (sym (mux_shaped e es is) ∙ h)))

  each_three : {es xs : List Expr} → NodesOfEach es xs → all_are (map is_shaped es) ≡ true → Every Expr HasThree xs
  each_three no_operands h = tt
  each_three (one_operand {e = e} {es = es} {nodes = xs} {others = ys} own more) h =
      every-append Expr HasThree xs ys (nodes_three own (left_is (is_shaped e) _ h)) (each_three more (right_is (is_shaped e) _ h))

  way_three : {ss : List Suffix} {xs : List Expr} → NodesOnWay ss xs → all_are (map shaped_suffix ss) ≡ true → Every Expr HasThree xs
  way_three no_steps h = tt
  way_three (to_field {first = s} name is way) h = way_three way (right_is (shaped_suffix s) _ h)
  way_three (to_element {first = s} bracket at n is way) h = way_three way (right_is (shaped_suffix s) _ h)
  way_three (to_indexed {first = s} {nodes = xs} {others = ys} bracket index is own way) h =
      every-append Expr HasThree xs ys (nodes_three own (sym (index_shaped s bracket index is) ∙ left_is (shaped_suffix s) _ h)) (way_three way (right_is (shaped_suffix s) _ h))

-- Statements

abbrev shaped_arm : Arm → Bool
shaped_arm = fold-Arm Bool Bool of_stmt of_arm

abbrev ThreeNodes : List Node → Type 0
ThreeNodes = Every Node (λ node. HasThree node.e)

at_each : (known : Known) (es : List Expr) → Every Expr HasThree es → ThreeNodes (map (at known) es)
at_each known [] h = tt
at_each known (e ∷ es) h = (h.0, at_each known es h.1)

-- what the layer of a statement says of its expressions, its arms and its `else`
record ShapedParts (z : Stmt-F Stmt Arm) : Type 0 where
  own : all_are (map is_shaped (expressions_in z)) ≡ true
  arms : all_are (map shaped_arm (arms_in z)) ≡ true
  other : all_are (map is_shaped_stmt (else_in z)) ≡ true

both_is : (a b : Bool) → a ≡ true → b ≡ true → (a && b) ≡ true
both_is true b e f = f
both_is false b e f = cc

layer_shaped : (z : Stmt-F Stmt Arm) → of_stmt (map-Stmt Stmt Arm Bool Bool is_shaped_stmt shaped_arm z) ≡ true → ShapedParts z
layer_shaped (Stmt-F.Wire name typ) h = record { own = refl; arms = refl; other = refl }
layer_shaped (Stmt-F.Reg name typ clock) h = record { own = both_is (is_shaped clock) true h refl; arms = refl; other = refl }
layer_shaped (Stmt-F.RegReset name typ clock reset init) h =
    let more = right_is (is_shaped clock) _ h in
    record {
      own = both_is (is_shaped clock) _ (left_is (is_shaped clock) _ h) (both_is (is_shaped reset) _ (left_is (is_shaped reset) _ more) (both_is (is_shaped init) true (right_is (is_shaped reset) _ more) refl));
      arms = refl;
      other = refl;
    }
layer_shaped (Stmt-F.Mem memory) h = record { own = refl; arms = refl; other = refl }
layer_shaped (Stmt-F.Inst name target) h = record { own = refl; arms = refl; other = refl }
layer_shaped (Stmt-F.Node name e) h = record { own = both_is (is_shaped e) true h refl; arms = refl; other = refl }
layer_shaped (Stmt-F.Connect left right) h =
    record { own = both_is (is_shaped left) _ (left_is (is_shaped left) _ h) (both_is (is_shaped right) true (right_is (is_shaped left) _ h) refl); arms = refl; other = refl }
layer_shaped (Stmt-F.Invalidate target) h = record { own = both_is (is_shaped target) true h refl; arms = refl; other = refl }
layer_shaped (Stmt-F.When xs ys) h = record { own = refl; arms = left_is (all_are (map shaped_arm xs)) _ h; other = right_is (all_are (map shaped_arm xs)) _ h }
layer_shaped (Stmt-F.Skip place) h = record { own = refl; arms = refl; other = refl }

shaped_parts : (s : Stmt) → is_shaped_stmt s ≡ true → ShapedParts (out-Stmt s)
shaped_parts s h =
    let l = layer_of s in
    subst ShapedParts (sym l.out) (layer_shaped l.layer (sym (ap is_shaped_stmt l.rolled ∙ fold-roll-Stmt Bool Bool of_stmt of_arm l.layer) ∙ h))

arm_shaped : (arm : Arm) → shaped_arm arm ≡ (is_shaped arm.condition && all_are (map is_shaped_stmt arm.body))
arm_shaped arm = fold-roll-Arm Bool Bool of_stmt of_arm (record { condition = arm.condition; body = arm.body })

module _ (modules : List Module) where
  mutual
    block_three : {known : Known} {block : List Stmt} {nodes : List Node} → NodesIn modules known block nodes → all_are (map is_shaped_stmt block) ≡ true → ThreeNodes nodes
    block_three no_statements h = tt
    block_three {known = known} (one_statement {s = s} {own = own} {in_arms = xs} {in_else = ys} {others = zs} d a b more) h =
        let p = shaped_parts s (left_is (is_shaped_stmt s) _ h) in
        every-append Node (λ node. HasThree node.e) (map (at known) own) (xs ++ (ys ++ zs)) (at_each known own (each_three d p.own))
        (every-append Node (λ node. HasThree node.e) xs (ys ++ zs) (arms_three a p.arms)
        (every-append Node (λ node. HasThree node.e) ys zs (block_three b p.other) (block_three more (right_is (is_shaped_stmt s) _ h))))

    arms_three : {known : Known} {arms : List Arm} {nodes : List Node} → NodesInArms modules known arms nodes → all_are (map shaped_arm arms) ≡ true → ThreeNodes nodes
    arms_three no_arms h = tt
    arms_three {known = known} (one_arm {arm = arm} {own = own} {inside = xs} {others = ys} d a more) h =
        let p = sym (arm_shaped arm) ∙ left_is (shaped_arm arm) _ h in
        every-append Node (λ node. HasThree node.e) (map (at known) own) (xs ++ ys) (at_each known own (nodes_three d (left_is (is_shaped arm.condition) _ p)))
        (every-append Node (λ node. HasThree node.e) xs ys (block_three a (right_is (is_shaped arm.condition) _ p)) (arms_three more (right_is (shaped_arm arm) _ h)))

  body_shaped : (body : List Stmt) → list_all is_shaped_stmt body ≡ true → all_are (map is_shaped_stmt body) ≡ true
  body_shaped [] h = refl
  body_shaped (s ∷ rest) h = both_is (is_shaped_stmt s) _ (left_is (is_shaped_stmt s) _ h) (body_shaped rest (right_is (is_shaped_stmt s) _ h))

  modules_three : {ms : List Module} {nodes : List Node} → NodesOfModules modules ms nodes → list_all is_shaped_module ms ≡ true → ThreeNodes nodes
  modules_three no_modules h = tt
  modules_three (one_module {m = m} {nodes = xs} {others = ys} own more) h =
      every-append Node (λ node. HasThree node.e) xs ys (block_three own (body_shaped m.body (left_is (is_shaped_module m) _ h))) (modules_three more (right_is (is_shaped_module m) _ h))

pub circuit_three : (circuit : Circuit) (nodes : List Node) → is_shaped_circuit circuit ≡ true → NodesOfCircuit circuit nodes → ThreeNodes nodes
circuit_three circuit nodes h are = modules_three circuit.modules are h

one_of : {X : Type 0} (P : X → Type 0) (xs : List X) → Every X P xs → (x : X) → Contains xs x → P x
one_of P [] h x c = absurd (nothing_in x c)
one_of P (y ∷ ys) h x c = ⊎_elim (λ same. subst P same h.0) (λ later. one_of P ys h.1 x later) (in_cases y ys x c)

pub choices_three : (circuit : Circuit) (nodes : List Node) → is_shaped_circuit circuit ≡ true → NodesOfCircuit circuit nodes → (node : Node) → Contains nodes node → HasThree node.e
choices_three circuit nodes h are = one_of (λ (node : Node). HasThree node.e) nodes (circuit_three circuit nodes h are)

pub shaped_typed : (circuit : Circuit) (scope : Scope) (nodes : List Node) → is_shaped_circuit circuit ≡ true → IsScope circuit scope → HasNone (IsFault circuit) → NodesOfCircuit circuit nodes
    → AllZip (λ (node : Node) (typ : FirType). Has node.known node.e typ) nodes (types_of circuit)
shaped_typed circuit scope nodes h is none are = table_typed circuit scope nodes is none are (choices_three circuit nodes h are)

pub spelled_typed : (text : List ℕ) (list : List Laid) (circuit : Circuit) (scope : Scope) (nodes : List Node) → IsCircuit text list circuit → IsScope circuit scope → HasNone (IsFault circuit)
    → NodesOfCircuit circuit nodes → AllZip (λ (node : Node) (typ : FirType). Has node.known node.e typ) nodes (types_of circuit)
spelled_typed text list circuit scope nodes is = shaped_typed circuit scope nodes (spelled_shaped text list circuit is)
