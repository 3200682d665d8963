-- Names that lines and heads add, and how many items lines have.
use Rattle.std.proofs.Common.{◌≡◌, ℕ, zero, suc, ◌+◌, List, [], ◌∷◌, ◌++◌, map, length, length-append, Some, slice_get, sym, ap, ◌∙◌, subst, arith}
use Rattle.std.proofs.lemmas.Grind.{common_steps}
use Rattle.std.proofs.lemmas.Option.{none-some}
use Rattle.place_text.specs.declared.place.Place.{Place}
use Rattle.fir_tree.specs.declared.expr.Expr.{Expr}
use Rattle.fir_tree.specs.declared.stmt.Stmt.{Stmt}
use Rattle.fir_tree.specs.declared.stmt.Arm.{Arm}
use Rattle.item_lines.specs.declared.line.Line.{Line, ind-Line, roll-Line, map-Line, the_lemmas as line_lemmas}
use Rattle.item_lines.specs.declared.line.Line.TheOpen.{Line-F, LineArm-F}
use Rattle.item_lines.specs.declared.line.LineArm.{LineArm, fold-LineArm, ind-LineArm, roll-LineArm, map-LineArm}
use Rattle.item_lines.specs.declared.line.LineModule.{LineModule}
use Rattle.item_lines.specs.Items as items
use Rattle.item_lines.specs.Items.{Before, Item, Stands, in_order, in_block, stmts_of, with_name, wire_name, clock_name, argument_name, argument_nodes, item_stmts, heads, module_of, modules_of}
use Rattle.item_lines.specs.Lines.{arm_of}
use Rattle.item_laws.specs.Drivers.{all_of, of_line, of_line_arm, conditions_in, conditions}
use Rattle.item_laws.proofs.Numbers.{Has, has_added, Grows, grows_none, grows_twice, grows_one, has_grown}

abbrev pub arm_conditions : LineArm → List Expr
arm_conditions = fold-LineArm (List Expr) (List Expr) of_line of_line_arm

pub nodes_grown : (k j : ℕ) (at : Place) (es : List Expr) (names : List (List ℕ)) → Grows names (argument_nodes k j at es names).1
nodes_grown k j at [] names = grows_none names
nodes_grown k j at (e ∷ es) names = grows_twice (grows_one names (argument_name k j)) (nodes_grown k (j + 1) at es (with_name names (argument_name k j)))

item_grown : (k : ℕ) (at : Place) (clock condition : Expr) (es : List Expr) (names : List (List ℕ)) → Grows names (item_stmts k at clock condition es names).1
item_grown k at clock condition es names =
    let more = with_name names (clock_name k) in
    grows_twice (grows_one names (clock_name k)) (grows_twice (grows_one more (wire_name k)) (nodes_grown k 0 at es (with_name more (wire_name k))))

pub heads_grown : (k : ℕ) (places : List Place) (names : List (List ℕ)) → Grows names (heads k places names).1
heads_grown k [] names = grows_none names
heads_grown k (at ∷ places) names = grows_twice (grows_one names (wire_name k)) (heads_grown (k + 1) places (with_name names (wire_name k)))

pub heads_have : (i j : ℕ) (places : List Place) (names : List (List ℕ)) (at : Place) → slice_get places j ≡ Some at → Has (heads i places names).1 (wire_name (i + j))
heads_have i j [] names at h = absurd (none-some at h)
heads_have i zero (here ∷ places) names at h =
    let same : i ≡ i + 0 = omega arith in
    subst (λ (k : ℕ). Has (heads i (here ∷ places) names).1 (wire_name k)) same (has_grown (wire_name i) (heads_grown (i + 1) places (with_name names (wire_name i))) (has_added names (wire_name i)))
heads_have i (suc j) (here ∷ places) names at h =
    let same : i + 1 + j ≡ i + suc j = omega arith in
    subst (λ (k : ℕ). Has (heads i (here ∷ places) names).1 (wire_name k)) same (heads_have (i + 1) j places (with_name names (wire_name i)) at h)

-- lines, by their layers

pub record Steps (l : Line) : Type 0 where
  pub grown : (b : Before) → Grows b.names (stmts_of l b).1.names
  pub counted : (b : Before) → length (stmts_of l b).1.items ≡ length b.items + length (conditions_in l)

pub record ArmSteps (a : LineArm) : Type 0 where
  pub grown : (b : Before) → Grows b.names (arm_of a b).1.names
  pub counted : (b : Before) → length (arm_of a b).1.items ≡ length b.items + length (arm_conditions a)

pub stands_roll : (y : Line-F Line LineArm) (b : Before) → stmts_of (roll-Line y) b ≡ items.of_line (map-Line Line LineArm (Stands (List Stmt)) (Stands Arm) stmts_of arm_of y) b
stands_roll y b = grind (arith, common_steps, line_lemmas)

pub arm_stands_roll : (y : LineArm-F Line LineArm) (b : Before) → arm_of (roll-LineArm y) b ≡ items.of_arm (map-LineArm Line LineArm (Stands (List Stmt)) (Stands Arm) stmts_of arm_of y) b
arm_stands_roll y b = grind (arith, common_steps, line_lemmas)

pub conditions_roll : (y : Line-F Line LineArm) → conditions_in (roll-Line y) ≡ of_line (map-Line Line LineArm (List Expr) (List Expr) conditions_in arm_conditions y)
conditions_roll y = grind (arith, common_steps, line_lemmas)

pub arm_conditions_roll : (y : LineArm-F Line LineArm) → arm_conditions (roll-LineArm y) ≡ of_line_arm (map-LineArm Line LineArm (List Expr) (List Expr) conditions_in arm_conditions y)
arm_conditions_roll y = grind (arith, common_steps, line_lemmas)

more_counted : (first after i : ℕ) (xs ys : List Expr) → first ≡ i + length xs → after ≡ first + length ys → after ≡ i + length (xs ++ ys)
more_counted first after i xs ys e f = let both = length-append xs ys in omega (arith, e, f, both)

block_steps : (ps : List ((l : Line) × Steps l)) (b : Before) → Grows b.names (in_block (map stmts_of (map (λ p. p.0) ps)) b).1.names
    × (length (in_block (map stmts_of (map (λ p. p.0) ps)) b).1.items ≡ length b.items + length (all_of (map conditions_in (map (λ p. p.0) ps))))
block_steps [] b = (grows_none b.names, omega arith)
block_steps (p ∷ ps) b =
    let later = block_steps ps (stmts_of p.0 b).1 in
    (grows_twice (p.1.grown b) later.0, more_counted _ _ (length b.items) (conditions_in p.0) (all_of (map conditions_in (map (λ q. q.0) ps))) (p.1.counted b) later.1)

arms_step : (ps : List ((a : LineArm) × ArmSteps a)) (b : Before) → Grows b.names (in_order (map arm_of (map (λ p. p.0) ps)) b).1.names
    × (length (in_order (map arm_of (map (λ p. p.0) ps)) b).1.items ≡ length b.items + length (all_of (map arm_conditions (map (λ p. p.0) ps))))
arms_step [] b = (grows_none b.names, omega arith)
arms_step (p ∷ ps) b =
    let later = arms_step ps (arm_of p.0 b).1 in
    (grows_twice (p.1.grown b) later.0, more_counted _ _ (length b.items) (arm_conditions p.0) (all_of (map arm_conditions (map (λ q. q.0) ps))) (p.1.counted b) later.1)

line_at : (y : Line-F Line LineArm)
    → ((b : Before) → Grows b.names (items.of_line (map-Line Line LineArm (Stands (List Stmt)) (Stands Arm) stmts_of arm_of y) b).1.names
    × (length (items.of_line (map-Line Line LineArm (Stands (List Stmt)) (Stands Arm) stmts_of arm_of y) b).1.items
    ≡ length b.items + length (of_line (map-Line Line LineArm (List Expr) (List Expr) conditions_in arm_conditions y))))
    → Steps (roll-Line y)
line_at y h = record {
  grown = λ b. subst (λ (p : List Stmt × Before). Grows b.names p.1.names) (sym (stands_roll y b)) ((h b).0);
  counted = λ b. ap (λ (p : List Stmt × Before). length p.1.items) (stands_roll y b) ∙ (h b).1 ∙ ap (λ (cs : List Expr). length b.items + length cs) (sym (conditions_roll y));
}

one_more : (xs : List Item) (x : Item) (c : Expr) → length (xs ++ x ∷ []) ≡ length xs + length (c ∷ [])
one_more xs x c = let both = length-append xs (x ∷ []) in omega (arith, both)

line_case : (y : Line-F ((l : Line) × Steps l) ((a : LineArm) × ArmSteps a)) → Steps (roll-Line (map-Line _ _ Line LineArm (λ p. p.0) (λ p. p.0) y))
line_case (Line-F.Plain s) = line_at (Line-F.Plain s) (λ b. (grows_none b.names, omega arith))
line_case (Line-F.Branch arms other) = line_at (Line-F.Branch (map (λ p. p.0) arms) (map (λ p. p.0) other)) (λ b.
    let first = arms_step arms b in
    let later = block_steps other (in_order (map arm_of (map (λ p. p.0) arms)) b).1 in
    (grows_twice first.0 later.0, more_counted _ _ (length b.items) (all_of (map arm_conditions (map (λ p. p.0) arms))) (all_of (map conditions_in (map (λ p. p.0) other))) first.1 later.1))
line_case (Line-F.Print at clock condition pieces es) = line_at (Line-F.Print at clock condition pieces es) (λ b. (item_grown _ at clock condition es b.names, one_more b.items _ condition))
line_case (Line-F.Stop at clock condition code) = line_at (Line-F.Stop at clock condition code) (λ b. (item_grown _ at clock condition [] b.names, one_more b.items _ condition))

arm_case : (y : LineArm-F ((l : Line) × Steps l) ((a : LineArm) × ArmSteps a)) → ArmSteps (roll-LineArm (map-LineArm _ _ Line LineArm (λ p. p.0) (λ p. p.0) y))
arm_case y =
    let layer : LineArm-F Line LineArm = record { condition = y.condition; body = map (λ p. p.0) y.body } in
    record {
      grown = λ b. subst (λ (p : Arm × Before). Grows b.names p.1.names) (sym (arm_stands_roll layer b)) ((block_steps y.body b).0);
      counted = λ b. ap (λ (p : Arm × Before). length p.1.items) (arm_stands_roll layer b) ∙ (block_steps y.body b).1 ∙ ap (λ (cs : List Expr). length b.items + length cs) (sym (arm_conditions_roll layer));
    }

pub steps : (l : Line) → Steps l
steps = ind-Line Steps ArmSteps (λ x y is. subst (λ z. Steps (roll-Line z)) is (line_case y)) (λ x y is. subst (λ z. ArmSteps (roll-LineArm z)) is (arm_case y))

pub arm_steps : (a : LineArm) → ArmSteps a
arm_steps = ind-LineArm Steps ArmSteps (λ x y is. subst (λ z. Steps (roll-Line z)) is (line_case y)) (λ x y is. subst (λ z. ArmSteps (roll-LineArm z)) is (arm_case y))

pub arm_list_step : (arms : List LineArm) (b : Before) → Grows b.names (in_order (map arm_of arms) b).1.names × (length (in_order (map arm_of arms) b).1.items ≡ length b.items + length (all_of (map arm_conditions arms)))
arm_list_step [] b = (grows_none b.names, omega arith)
arm_list_step (a ∷ arms) b =
    let later = arm_list_step arms (arm_of a b).1 in
    (grows_twice ((arm_steps a).grown b) later.0, more_counted _ _ (length b.items) (arm_conditions a) (all_of (map arm_conditions arms)) ((arm_steps a).counted b) later.1)

pub lines_step : (ls : List Line) (b : Before) → Grows b.names (in_block (map stmts_of ls) b).1.names × (length (in_block (map stmts_of ls) b).1.items ≡ length b.items + length (conditions ls))
lines_step [] b = (grows_none b.names, omega arith)
lines_step (l ∷ ls) b =
    let later = lines_step ls (stmts_of l b).1 in
    (grows_twice ((steps l).grown b) later.0, more_counted _ _ (length b.items) (conditions_in l) (conditions ls) ((steps l).counted b) later.1)

pub modules_grown : (m : ℕ) (modules : List LineModule) (names : List (List ℕ)) → Grows names (modules_of m modules names).1
modules_grown m [] names = grows_none names
modules_grown m (first ∷ others) names =
    let begin : Before = record { names = names; items = [] } in
    let after : Before = (in_block (map stmts_of first.body) begin).1 in
    grows_twice (grows_twice ((lines_step first.body begin).0) (heads_grown 0 (map (λ item. item.place) after.items) after.names)) (modules_grown (m + 1) others (module_of m first names).1)
