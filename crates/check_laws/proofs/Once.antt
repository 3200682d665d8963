-- Each circuit has one list of nodes.
use Rattle.std.proofs.Common.{◌≡◌, List, [], ◌∷◌, ◌++◌, map, refl, sym, ap, ap₂, ◌∙◌, subst}
use Rattle.fir_tree.specs.declared.circuit.Circuit.{Circuit}
use Rattle.fir_tree.specs.declared.circuit.Module.{Module}
use Rattle.fir_tree.specs.declared.expr.Expr.{Expr}
use Rattle.fir_tree.specs.declared.expr.Suffix.{Suffix}
use Rattle.fir_tree.specs.declared.stmt.Stmt.{Stmt, ind-Stmt}
use Rattle.fir_tree.specs.declared.stmt.Arm.{Arm}
use Rattle.fir_tree.specs.declared.stmt.Stmt.TheOpen.{Stmt-F, Arm-F}
use Rattle.fir_tree.specs.declared.stmt.Stmt.TheFolds.{map-Stmt, map-Arm}
use Rattle.fir_tree.specs.declared.stmt.Stmt.TheViews.{roll-Stmt, roll-Arm, out-Stmt}
use Rattle.type_check.specs.Parts.{Known}
use Rattle.type_check.specs.Statements.{arm_walk}
use Rattle.check_laws.specs.Nodes.{NodesOf, reference, literal, operation, choice, NodesOfEach, no_operands, one_operand, NodesOnWay, no_steps, to_field, to_element, to_indexed}
use Rattle.check_laws.proofs.Nodes.{nodes_are_there}
use Rattle.check_laws.specs.CircuitNodes.{Node, at, expressions_in, arms_in, else_in, behind, behind_arms, ports_of, NodesIn, no_statements, one_statement, NodesInArms, no_arms, one_arm, NodesOfModules, no_modules, one_module, NodesOfCircuit}
use Rattle.check_laws.proofs.Layers.{out_roll}
use Rattle.check_laws.proofs.Standing.{reference_way, literal_alone, operation_each, choice_each, same_index, field_or_at, field_or_index, at_or_index}

-- One list at most

mutual
  nodes_once : {e : Expr} {xs ys : List Expr} → NodesOf e xs → NodesOf e ys → xs ≡ ys
  nodes_once {e = e} (reference name ss is way) other = let w = reference_way name ss other is in ap (λ l. e ∷ l) (way_once way w.2) ∙ sym w.1
  nodes_once (literal sign width number is) other = sym (literal_alone sign width number other is)
  nodes_once {e = e} (operation op es params is each) other = let w = operation_each op es params other is in ap (λ l. e ∷ l) (each_once each w.2) ∙ sym w.1
  nodes_once {e = e} (choice es is each) other = let w = choice_each es other is in ap (λ l. e ∷ l) (each_once each w.2) ∙ sym w.1

  each_once : {es xs ys : List Expr} → NodesOfEach es xs → NodesOfEach es ys → xs ≡ ys
  each_once no_operands no_operands = refl
  each_once (one_operand a as') (one_operand b bs) = ap₂ (λ l m. l ++ m) (nodes_once a b) (each_once as' bs)

  way_once : {ss : List Suffix} {xs ys : List Expr} → NodesOnWay ss xs → NodesOnWay ss ys → xs ≡ ys
  way_once no_steps no_steps = refl
  way_once (to_field name is a) (to_field other its b) = way_once a b
  way_once (to_field name is a) (to_element bracket at n its b) = field_or_at name bracket at n is its
  way_once (to_field name is a) (to_indexed bracket index its own b) = field_or_index name bracket index is its
  way_once (to_element bracket at n is a) (to_element other place k its b) = way_once a b
  way_once (to_element bracket at n is a) (to_field name its b) = field_or_at name bracket at n its is
  way_once (to_element bracket at n is a) (to_indexed other index its own b) = at_or_index bracket at n other index is its
  way_once (to_indexed bracket index is own a) (to_field name its b) = field_or_index name bracket index its is
  way_once (to_indexed bracket index is own a) (to_element other place n its b) = at_or_index other place n bracket index its is
  way_once (to_indexed {nodes = xs} bracket index is own a) (to_indexed {nodes = ys} other it its others b) =
      ap₂ (λ l m. l ++ m) (nodes_once own (subst (λ x. NodesOf x ys) (same_index other bracket it index its is) others)) (way_once a b)

module _ (modules : List Module) where
  mutual
    block_once : {known : Known} {block : List Stmt} {xs ys : List Node} → NodesIn modules known block xs → NodesIn modules known block ys → xs ≡ ys
    block_once no_statements no_statements = refl
    block_once {known = known} (one_statement d a b c) (one_statement e f g h) =
        ap₂ (λ l m. map (at known) l ++ m) (each_once d e) (ap₂ (λ l m. l ++ m) (arms_once a f) (ap₂ (λ l m. l ++ m) (block_once b g) (block_once c h)))

    arms_once : {known : Known} {arms : List Arm} {xs ys : List Node} → NodesInArms modules known arms xs → NodesInArms modules known arms ys → xs ≡ ys
    arms_once no_arms no_arms = refl
    arms_once {known = known} (one_arm d a c) (one_arm e f h) = ap₂ (λ l m. map (at known) l ++ m) (nodes_once d e) (ap₂ (λ l m. l ++ m) (block_once a f) (arms_once c h))

  modules_once : {ms : List Module} {xs ys : List Node} → NodesOfModules modules ms xs → NodesOfModules modules ms ys → xs ≡ ys
  modules_once no_modules no_modules = refl
  modules_once (one_module a b) (one_module c d) = ap₂ (λ l m. l ++ m) (block_once a c) (modules_once b d)

  -- One list at least

  all_nodes : (es : List Expr) → (own : List Expr) × NodesOfEach es own
  all_nodes [] = ([], no_operands)
  all_nodes (e ∷ es) = let first = nodes_are_there e in let more = all_nodes es in (first.0 ++ more.0, one_operand first.1 more.1)

  abbrev BlockHas : List Stmt → Type 0
  BlockHas block = (known : Known) → (nodes : List Node) × NodesIn modules known block nodes

  abbrev ArmsHave : List Arm → Type 0
  ArmsHave arms = (known : Known) → (nodes : List Node) × NodesInArms modules known arms nodes

  record Branches (s : Stmt) : Type 0 where
    arms : ArmsHave (arms_in (out-Stmt s))
    other : BlockHas (else_in (out-Stmt s))

  abbrev BodyHas : Arm → Type 0
  BodyHas arm = BlockHas arm.body

  block_has : (ps : List ((s : Stmt) × Branches s)) → BlockHas (map (λ e. e.0) ps)
  block_has [] known = ([], no_statements)
  block_has (p ∷ ps) known =
      let s : Stmt = p.0 in
      let own = all_nodes (expressions_in (out-Stmt s)) in
      let xs = p.1.arms known in
      let ys = p.1.other (behind_arms modules known (arms_in (out-Stmt s))) in
      let more = block_has ps (behind modules known s) in
      (map (at known) own.0 ++ (xs.0 ++ (ys.0 ++ more.0)), one_statement own.1 xs.1 ys.1 more.1)

  arms_have : (ps : List ((a : Arm) × BodyHas a)) → ArmsHave (map (λ e. e.0) ps)
  arms_have [] known = ([], no_arms)
  arms_have (p ∷ ps) known =
      let arm : Arm = p.0 in
      let own = nodes_are_there arm.condition in
      let inside = p.1 known in
      let more = arms_have ps (arm_walk modules arm known).known in
      (map (at known) own.0 ++ (inside.0 ++ more.0), one_arm own.1 inside.1 more.1)

  arms_at : (s : Stmt) (z : Stmt-F Stmt Arm) → out-Stmt s ≡ z → ArmsHave (arms_in z) → BlockHas (else_in z) → Branches s
  arms_at s z is arms other = record { arms = subst (λ z. ArmsHave (arms_in z)) (sym is) arms; other = subst (λ z. BlockHas (else_in z)) (sym is) other }

  no_arms_there : ArmsHave []
  no_arms_there known = ([], no_arms)

  nothing_there : BlockHas []
  nothing_there known = ([], no_statements)

  abbrev at_layer : Stmt-F Stmt Arm → Type 0
  at_layer z = Branches (roll-Stmt z)

  plain : (z : Stmt-F Stmt Arm) → arms_in z ≡ [] → else_in z ≡ [] → at_layer z
  plain z p q = arms_at (roll-Stmt z) z (out_roll z) (subst ArmsHave (sym p) no_arms_there) (subst BlockHas (sym q) nothing_there)

  stmt_layer : (y : Stmt-F ((s : Stmt) × Branches s) ((a : Arm) × BodyHas a)) → at_layer (map-Stmt _ _ Stmt Arm (λ e. e.0) (λ e. e.0) y)
  stmt_layer (Stmt-F.Wire name typ) = plain (Stmt-F.Wire name typ) refl refl
  stmt_layer (Stmt-F.Reg name typ clock) = plain (Stmt-F.Reg name typ clock) refl refl
  stmt_layer (Stmt-F.RegReset name typ clock reset init) = plain (Stmt-F.RegReset name typ clock reset init) refl refl
  stmt_layer (Stmt-F.Mem memory) = plain (Stmt-F.Mem memory) refl refl
  stmt_layer (Stmt-F.Inst name target) = plain (Stmt-F.Inst name target) refl refl
  stmt_layer (Stmt-F.Node name e) = plain (Stmt-F.Node name e) refl refl
  stmt_layer (Stmt-F.Connect left right) = plain (Stmt-F.Connect left right) refl refl
  stmt_layer (Stmt-F.Invalidate target) = plain (Stmt-F.Invalidate target) refl refl
  stmt_layer (Stmt-F.Skip place) = plain (Stmt-F.Skip place) refl refl
  stmt_layer (Stmt-F.When arms other) =
      let z : Stmt-F Stmt Arm = Stmt-F.When (map (λ e. e.0) arms) (map (λ e. e.0) other) in
      arms_at (roll-Stmt z) z (out_roll z) (arms_have arms) (block_has other)

  arm_layer : (y : Arm-F ((s : Stmt) × Branches s) ((a : Arm) × BodyHas a)) → BodyHas (roll-Arm (map-Arm _ _ Stmt Arm (λ e. e.0) (λ e. e.0) y))
  arm_layer y = block_has y.body

  branches : (s : Stmt) → Branches s
  branches = ind-Stmt Branches BodyHas (λ x y is. subst at_layer is (stmt_layer y)) (λ x y is. subst (λ z. BodyHas (roll-Arm z)) is (arm_layer y))

  with_branches : (block : List Stmt) → BlockHas block
  with_branches [] known = ([], no_statements)
  with_branches (s ∷ rest) known =
      let own = all_nodes (expressions_in (out-Stmt s)) in
      let xs = (branches s).arms known in
      let ys = (branches s).other (behind_arms modules known (arms_in (out-Stmt s))) in
      let more = with_branches rest (behind modules known s) in
      (map (at known) own.0 ++ (xs.0 ++ (ys.0 ++ more.0)), one_statement own.1 xs.1 ys.1 more.1)

  modules_have : (ms : List Module) → (nodes : List Node) × NodesOfModules modules ms nodes
  modules_have [] = ([], no_modules)
  modules_have (m ∷ rest) = let own = with_branches m.body (ports_of m) in let more = modules_have rest in (own.0 ++ more.0, one_module own.1 more.1)

pub circuit_once : (circuit : Circuit) (xs ys : List Node) → NodesOfCircuit circuit xs → NodesOfCircuit circuit ys → xs ≡ ys
circuit_once circuit xs ys a b = modules_once circuit.modules a b

pub circuit_has : (circuit : Circuit) → (nodes : List Node) × NodesOfCircuit circuit nodes
circuit_has circuit = modules_have circuit.modules circuit.modules
