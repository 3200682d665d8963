-- The table of types lists the nodes of a circuit in text order.
use Rattle.std.proofs.Common.{◌≡◌, List, [], ◌∷◌, ◌++◌, map, refl, sym, ap, ◌∙◌, subst, append_assoc, append-nil}
use Rattle.std.specs.Prelude.{flat_map}
use Rattle.std.specs.List.{AllZip}
use Rattle.std.proofs.lemmas.List.{map-append}
use Rattle.fir_types.specs.declared.fir_type.FirType.{FirType}
use Rattle.fir_types.specs.declared.port.Port.{Port}
use Rattle.fir_tree.specs.declared.circuit.Circuit.{Circuit}
use Rattle.fir_tree.specs.declared.circuit.Module.{Module}
use Rattle.fir_tree.specs.declared.expr.Expr.{Expr}
use Rattle.fir_tree.specs.declared.stmt.Stmt.{Stmt}
use Rattle.fir_tree.specs.declared.stmt.Arm.{Arm}
use Rattle.fir_tree.specs.declared.stmt.Stmt.TheOpen.{Stmt-F}
use Rattle.fir_tree.specs.declared.stmt.Stmt.TheFolds.{map-Stmt, fold-roll-Stmt, fold-roll-Arm}
use Rattle.fir_tree.specs.declared.stmt.Stmt.TheViews.{out-Stmt}
use Rattle.type_check.specs.Parts.{Known}
use Rattle.type_check.specs.Expressions.{found_of}
use Rattle.type_check.specs.Statements.{Walk, and_then, in_turn, expects, condition_faults, of_stmt, of_arm, stmt_walk, arm_walk, port_walk, module_walk, types_of}
use Rattle.check_laws.specs.Nodes.{NodesOfEach, no_operands, one_operand, ListTypes, no_nodes, a_part as lists_part, no_part as lists_none}
use Rattle.check_laws.proofs.Nodes.{types_in_order}
use Rattle.check_laws.specs.CircuitNodes.{Node, at, expressions_in, arms_in, else_in, behind_arms, ports_of, NodesIn, no_statements, one_statement, NodesInArms, no_arms, one_arm, NodesOfModules, no_modules, one_module, NodesOfCircuit, IsListed, a_part, no_part}
use Rattle.check_laws.proofs.Layers.{layer_of}

abbrev pub Listed : List Node → List FirType → Type 0
Listed = AllZip IsListed

pub zip_both : {A B : Type 0} (S : A → B → Type 0) (as' bs : List A) (cs ds : List B) → AllZip S as' cs → AllZip S bs ds → AllZip S (as' ++ bs) (cs ++ ds)
zip_both S [] bs [] ds h k = k
zip_both S [] bs (c ∷ cs) ds h k = absurd h
zip_both S (a ∷ as') bs [] ds h k = absurd h
zip_both S (a ∷ as') bs (c ∷ cs) ds h k = (h.0, zip_both S as' bs cs ds h.1 k)

-- The types of the nodes of expressions

abbrev pub types_in : Known → List Expr → List FirType
types_in known es = flat_map (λ e. (found_of known e).nodes) es

from_list : (known : Known) {es : List Expr} {types : List FirType} → ListTypes known es types → Listed (map (at known) es) types
from_list known no_nodes = tt
from_list known (lists_part part is more) = (a_part part is, from_list known more)
from_list known (lists_none isnt more) = (no_part isnt, from_list known more)

each_listed : (known : Known) {es own : List Expr} → NodesOfEach es own → Listed (map (at known) own) (types_in known es)
each_listed known no_operands = tt
each_listed known (one_operand {e = e} {es = es} {nodes = xs} {others = ys} first more) =
    subst (λ l. Listed l ((found_of known e).nodes ++ types_in known es)) (sym (map-append (at known) xs ys))
    (zip_both IsListed (map (at known) xs) (map (at known) ys) (found_of known e).nodes (types_in known es) (from_list known (types_in_order known e xs first)) (each_listed known more))

module _ (modules : List Module) where
  abbrev pub arms_walk : List Arm → Walk
  arms_walk arms = in_turn (map (arm_walk modules) arms)

  abbrev pub block_walk : List Stmt → Walk
  block_walk block = in_turn (map (stmt_walk modules) block)

  pub arm_is : (arm : Arm) → arm_walk modules arm ≡ and_then (expects (condition_faults arm.condition.place) arm.condition) (block_walk arm.body)
  arm_is arm = fold-roll-Arm Walk Walk (of_stmt modules) of_arm (record { condition = arm.condition; body = arm.body })

  abbrev pub layer_walk : Stmt-F Stmt Arm → Walk
  layer_walk z = of_stmt modules (map-Stmt Stmt Arm Walk Walk (stmt_walk modules) (arm_walk modules) z)

  layer_nodes : (known : Known) (z : Stmt-F Stmt Arm)
      → (layer_walk z known).nodes ≡ types_in known (expressions_in z) ++ ((arms_walk (arms_in z) known).nodes ++ (block_walk (else_in z) (behind_arms modules known (arms_in z))).nodes)
  layer_nodes known (Stmt-F.Wire name typ) = refl
  layer_nodes known (Stmt-F.Reg name typ clock) = sym (append-nil (types_in known (clock ∷ [])))
  layer_nodes known (Stmt-F.RegReset name typ clock reset init) = sym (append-nil (types_in known (clock ∷ reset ∷ init ∷ [])))
  layer_nodes known (Stmt-F.Mem memory) = refl
  layer_nodes known (Stmt-F.Inst name target) = refl
  layer_nodes known (Stmt-F.Node name e) = sym (append-nil (types_in known (e ∷ [])) ∙ append-nil (found_of known e).nodes)
  layer_nodes known (Stmt-F.Connect left right) = sym (append-nil (types_in known (left ∷ right ∷ [])) ∙ ap (λ l. (found_of known left).nodes ++ l) (append-nil (found_of known right).nodes))
  layer_nodes known (Stmt-F.Invalidate target) = sym (append-nil (types_in known (target ∷ [])) ∙ append-nil (found_of known target).nodes)
  layer_nodes known (Stmt-F.When arms other) = refl
  layer_nodes known (Stmt-F.Skip place) = refl

  pub stmt_is : (s : Stmt) → stmt_walk modules s ≡ layer_walk (out-Stmt s)
  stmt_is s =
      let l = layer_of s in
      ap (stmt_walk modules) l.rolled ∙ fold-roll-Stmt Walk Walk (of_stmt modules) of_arm l.layer ∙ ap layer_walk (sym l.out)

  stmt_nodes : (known : Known) (s : Stmt) → (stmt_walk modules s known).nodes ≡ types_in known (expressions_in (out-Stmt s))
      ++ ((arms_walk (arms_in (out-Stmt s)) known).nodes ++ (block_walk (else_in (out-Stmt s)) (behind_arms modules known (arms_in (out-Stmt s)))).nodes)
  stmt_nodes known s = ap (λ (w : Walk). (w known).nodes) (stmt_is s) ∙ layer_nodes known (out-Stmt s)

  mutual
    block_listed : {known : Known} {block : List Stmt} {nodes : List Node} → NodesIn modules known block nodes → Listed nodes (block_walk block known).nodes
    block_listed no_statements = tt
    block_listed {known = known} (one_statement {s = s} {rest = rest} {own = own} {in_arms = xs} {in_else = ys} {others = zs} d a b more) =
        let types : List FirType = types_in known (expressions_in (out-Stmt s)) in
        let arms = arms_in (out-Stmt s) in
        let of_arms : List FirType = (arms_walk arms known).nodes in
        let of_else : List FirType = (block_walk (else_in (out-Stmt s)) (behind_arms modules known arms)).nodes in
        let of_rest : List FirType = (block_walk rest (stmt_walk modules s known).known).nodes in
        subst (Listed (map (at known) own ++ (xs ++ (ys ++ zs))))
        (sym (ap (λ l. l ++ of_rest) (stmt_nodes known s) ∙ append_assoc types (of_arms ++ of_else) of_rest ∙ ap (λ l. types ++ l) (append_assoc of_arms of_else of_rest)))
        (zip_both IsListed (map (at known) own) (xs ++ (ys ++ zs)) types (of_arms ++ (of_else ++ of_rest)) (each_listed known d)
        (zip_both IsListed xs (ys ++ zs) of_arms (of_else ++ of_rest) (arms_listed a) (zip_both IsListed ys zs of_else of_rest (block_listed b) (block_listed more))))

    arms_listed : {known : Known} {arms : List Arm} {nodes : List Node} → NodesInArms modules known arms nodes → Listed nodes (arms_walk arms known).nodes
    arms_listed no_arms = tt
    arms_listed {known = known} (one_arm {arm = arm} {rest = rest} {own = own} {inside = xs} {others = ys} d a more) =
        let types : List FirType = (found_of known arm.condition).nodes in
        let of_body : List FirType = (block_walk arm.body known).nodes in
        let of_rest : List FirType = (arms_walk rest (arm_walk modules arm known).known).nodes in
        subst (Listed (map (at known) own ++ (xs ++ ys))) (sym (ap (λ (w : Walk). (w known).nodes ++ of_rest) (arm_is arm) ∙ append_assoc types of_body of_rest))
        (zip_both IsListed (map (at known) own) (xs ++ ys) types (of_body ++ of_rest) (from_list known (types_in_order known arm.condition own d))
        (zip_both IsListed xs ys of_body of_rest (block_listed a) (arms_listed more)))

  ports_quiet : (ps : List Port) (known : Known) → (in_turn (map port_walk ps) known).nodes ≡ []
  ports_quiet [] known = refl
  ports_quiet (p ∷ ps) known = ports_quiet ps (port_walk p known).known

  modules_listed : {ms : List Module} {nodes : List Node} → NodesOfModules modules ms nodes → Listed nodes (flat_map (λ m. (module_walk modules m []).nodes) ms)
  modules_listed no_modules = tt
  modules_listed (one_module {m = m} {rest = rest} {nodes = xs} {others = ys} own more) =
      let of_body : List FirType = (block_walk m.body (ports_of m)).nodes in
      zip_both IsListed xs ys (module_walk modules m []).nodes (flat_map (λ m. (module_walk modules m []).nodes) rest)
      (subst (Listed xs) (sym (ap (λ l. l ++ of_body) (ports_quiet m.ports []))) (block_listed own)) (modules_listed more)

pub table_lists : (circuit : Circuit) (nodes : List Node) → NodesOfCircuit circuit nodes → Listed nodes (types_of circuit)
table_lists circuit nodes are = modules_listed circuit.modules are
