-- What lines stand for has its operands and parameters where the lines have theirs.
use Rattle.std.proofs.Common.{◌≡◌, ℕ, ◌+◌, Bool, true, ◌&&◌, List, [], ◌∷◌, ◌++◌, map, refl, sym, ap, ◌∙◌, subst, arith}
use Rattle.std.specs.List.{list_all}
use Rattle.std.proofs.lemmas.Grind.{common_steps}
use Rattle.place_text.specs.declared.place.Place.{Place}
use Rattle.bit_words.specs.declared.value.Kind.TheVariants.{Unsigned as Plain_kind}
use Rattle.fir_types.specs.declared.name.Name.{Name}
use Rattle.prim_ops.specs.declared.operation.PrimOp.TheVariants.{Pad}
use Rattle.fir_tree.specs.declared.expr.Expr.{Expr}
use Rattle.fir_tree.specs.declared.stmt.Stmt.{Stmt}
use Rattle.fir_tree.specs.declared.stmt.Arm.{Arm}
use Rattle.item_lines.specs.declared.line.Line.{Line, ind-Line, roll-Line, map-Line, the_lemmas as line_lemmas}
use Rattle.item_lines.specs.declared.line.Line.TheOpen.{Line-F, LineArm-F}
use Rattle.item_lines.specs.declared.line.LineArm.{LineArm, roll-LineArm, map-LineArm}
use Rattle.item_lines.specs.declared.line.LineModule.{LineModule}
use Rattle.item_lines.specs.Items as items
use Rattle.item_lines.specs.Items.{Before, Stands, in_order, in_block, stmts_of, one_bit, zero_bit, component, padded, argument_nodes, item_stmts, head_stmts, heads, module_of, modules_of}
use Rattle.item_lines.specs.Lines.{arm_of}
use Rattle.fir_grammar.specs.Grammar.{circuit_of}
use Rattle.fitted_laws.specs.Shaped.{all_are, is_shaped, is_shaped_stmt, is_shaped_module, is_shaped_circuit}
use Rattle.fitted_laws.proofs.Expressions.{and_left, and_right}
use Rattle.fitted_laws.proofs.Shapes.{shaped_arm, of_line, of_line_arm, shaped_line, shaped_line_arm, shaped_lines, of-ref, of-literal, of-prim, of-wire, of-reg, of-node, of-connect, of-when, of-arm, both, all_mapped}

abbrev all_shaped : List Stmt → Type 0
all_shaped ss = all_are (map is_shaped_stmt ss) ≡ true

shaped_join : (ss more : List Stmt) → all_shaped ss → all_shaped more → all_shaped (ss ++ more)
shaped_join [] more f g = g
shaped_join (s ∷ ss) more f g =
    both (and_left (is_shaped_stmt s) (all_are (map is_shaped_stmt ss)) f) (shaped_join ss more (and_right (is_shaped_stmt s) (all_are (map is_shaped_stmt ss)) f) g)

-- items

component_shaped : (name : Name) → is_shaped (component name) ≡ true
component_shaped name = of-ref name.place name []

padded_shaped : (e : Expr) → is_shaped e ≡ true → is_shaped (padded e) ≡ true
padded_shaped e f = of-prim e.place Pad (e ∷ []) (0 ∷ []) ∙ both (both f refl) refl

nodes_shaped : (k j : ℕ) (at : Place) (es : List Expr) (names : List (List ℕ)) → all_are (map is_shaped es) ≡ true → all_shaped (argument_nodes k j at es names).0
nodes_shaped k j at [] names f = refl
nodes_shaped k j at (e ∷ es) names f =
    both (of-node _ (padded e) ∙ padded_shaped e (and_left (is_shaped e) (all_are (map is_shaped es)) f)) (nodes_shaped k (j + 1) at es _ (and_right (is_shaped e) (all_are (map is_shaped es)) f))

item_shaped : (k : ℕ) (at : Place) (clock condition : Expr) (es : List Expr) (names : List (List ℕ)) → is_shaped clock ≡ true → is_shaped condition ≡ true → all_are (map is_shaped es) ≡ true
    → all_shaped (item_stmts k at clock condition es names).0
item_shaped k at clock condition es names f g h =
    both (of-reg _ (one_bit at) clock ∙ f) (both (of-connect (component _) condition ∙ both (component_shaped _) g) (nodes_shaped k 0 at es _ h))

head_shaped : (k : ℕ) (at : Place) (names : List (List ℕ)) → all_shaped (head_stmts k at names).0
head_shaped k at names = both (of-wire _ (one_bit at)) (both (of-connect (component _) (zero_bit at) ∙ both (component_shaped _) (of-literal at Plain_kind _ _)) refl)

heads_shaped : (k : ℕ) (places : List Place) (names : List (List ℕ)) → all_shaped (heads k places names).0
heads_shaped k [] names = refl
heads_shaped k (at ∷ places) names = shaped_join (head_stmts k at names).0 _ (head_shaped k at names) (heads_shaped (k + 1) places (head_stmts k at names).1)

-- lines, by their layers

record Stays (l : Line) : Type 0 where
  shaped : shaped_line l ≡ true → (b : Before) → all_shaped (stmts_of l b).0

record ArmStays (a : LineArm) : Type 0 where
  shaped : shaped_line_arm a ≡ true → (b : Before) → shaped_arm (arm_of a b).0 ≡ true

line_roll : (y : Line-F Line LineArm) → shaped_line (roll-Line y) ≡ of_line (map-Line Line LineArm Bool Bool shaped_line shaped_line_arm y)
line_roll y = grind (arith, common_steps, line_lemmas)

arm_roll : (y : LineArm-F Line LineArm) → shaped_line_arm (roll-LineArm y) ≡ of_line_arm (map-LineArm Line LineArm Bool Bool shaped_line shaped_line_arm y)
arm_roll y = grind (arith, common_steps, line_lemmas)

stands_roll : (y : Line-F Line LineArm) (b : Before) → stmts_of (roll-Line y) b ≡ items.of_line (map-Line Line LineArm (Stands (List Stmt)) (Stands Arm) stmts_of arm_of y) b
stands_roll y b = grind (arith, common_steps, line_lemmas)

arm_stands_roll : (y : LineArm-F Line LineArm) (b : Before) → arm_of (roll-LineArm y) b ≡ items.of_arm (map-LineArm Line LineArm (Stands (List Stmt)) (Stands Arm) stmts_of arm_of y) b
arm_stands_roll y b = grind (arith, common_steps, line_lemmas)

block_stays : (ps : List ((l : Line) × Stays l)) → all_are (map shaped_line (map (λ p. p.0) ps)) ≡ true → (b : Before) → all_shaped (in_block (map stmts_of (map (λ p. p.0) ps)) b).0
block_stays [] f b = refl
block_stays (p ∷ ps) f b =
    shaped_join (stmts_of p.0 b).0 _ (p.1.shaped (and_left (shaped_line p.0) (all_are (map shaped_line (map (λ q. q.0) ps))) f) b)
    (block_stays ps (and_right (shaped_line p.0) (all_are (map shaped_line (map (λ q. q.0) ps))) f) (stmts_of p.0 b).1)

arms_stay : (ps : List ((a : LineArm) × ArmStays a)) → all_are (map shaped_line_arm (map (λ p. p.0) ps)) ≡ true → (b : Before) → all_are (map shaped_arm (in_order (map arm_of (map (λ p. p.0) ps)) b).0) ≡ true
arms_stay [] f b = refl
arms_stay (p ∷ ps) f b =
    both (p.1.shaped (and_left (shaped_line_arm p.0) (all_are (map shaped_line_arm (map (λ q. q.0) ps))) f) b)
    (arms_stay ps (and_right (shaped_line_arm p.0) (all_are (map shaped_line_arm (map (λ q. q.0) ps))) f) (arm_of p.0 b).1)

line_at : (y : Line-F Line LineArm)
    → (of_line (map-Line Line LineArm Bool Bool shaped_line shaped_line_arm y) ≡ true → (b : Before) → all_shaped (items.of_line (map-Line Line LineArm (Stands (List Stmt)) (Stands Arm) stmts_of arm_of y) b).0)
    → Stays (roll-Line y)
line_at y h = record { shaped = λ f b. subst (λ (p : List Stmt × Before). all_shaped p.0) (sym (stands_roll y b)) (h (sym (line_roll y) ∙ f) b) }

line_case : (y : Line-F ((l : Line) × Stays l) ((a : LineArm) × ArmStays a)) → Stays (roll-Line (map-Line _ _ Line LineArm (λ p. p.0) (λ p. p.0) y))
line_case (Line-F.Plain s) = line_at (Line-F.Plain s) (λ f b. both f refl)
line_case (Line-F.Branch arms other) = line_at (Line-F.Branch (map (λ p. p.0) arms) (map (λ p. p.0) other)) (λ f b.
    let before = (in_order (map arm_of (map (λ p. p.0) arms)) b).1 in
    both (of-when _ _ ∙ both (arms_stay arms (and_left (all_are (map shaped_line_arm (map (λ p. p.0) arms))) (all_are (map shaped_line (map (λ p. p.0) other))) f) b)
    (block_stays other (and_right (all_are (map shaped_line_arm (map (λ p. p.0) arms))) (all_are (map shaped_line (map (λ p. p.0) other))) f) before)) refl)
line_case (Line-F.Print at clock condition pieces es) = line_at (Line-F.Print at clock condition pieces es) (λ f b.
    let g = and_right (is_shaped clock) (is_shaped condition && all_are (map is_shaped es)) f in
    item_shaped _ at clock condition es b.names (and_left (is_shaped clock) (is_shaped condition && all_are (map is_shaped es)) f) (and_left (is_shaped condition) (all_are (map is_shaped es)) g) (and_right (is_shaped condition) (all_are (map is_shaped es)) g))
line_case (Line-F.Stop at clock condition code) = line_at (Line-F.Stop at clock condition code) (λ f b.
    item_shaped _ at clock condition [] b.names (and_left (is_shaped clock) (is_shaped condition) f) (and_right (is_shaped clock) (is_shaped condition) f) refl)

arm_case : (y : LineArm-F ((l : Line) × Stays l) ((a : LineArm) × ArmStays a)) → ArmStays (roll-LineArm (map-LineArm _ _ Line LineArm (λ p. p.0) (λ p. p.0) y))
arm_case y =
    let layer : LineArm-F Line LineArm = record { condition = y.condition; body = map (λ p. p.0) y.body } in
    record {
      shaped = λ f b.
          let g : of_line_arm (map-LineArm Line LineArm Bool Bool shaped_line shaped_line_arm layer) ≡ true = sym (arm_roll layer) ∙ f in
          ap (λ (p : Arm × Before). shaped_arm p.0) (arm_stands_roll layer b)
          ∙ (of-arm y.condition _ ∙ both (and_left (is_shaped y.condition) (all_are (map shaped_line (map (λ p. p.0) y.body))) g)
          (block_stays y.body (and_right (is_shaped y.condition) (all_are (map shaped_line (map (λ p. p.0) y.body))) g) b));
    }

stays : (l : Line) → Stays l
stays = ind-Line Stays ArmStays (λ x y is. subst (λ z. Stays (roll-Line z)) is (line_case y)) (λ x y is. subst (λ z. ArmStays (roll-LineArm z)) is (arm_case y))

lines_stay : (ls : List Line) → all_are (map shaped_line ls) ≡ true → (b : Before) → all_shaped (in_block (map stmts_of ls) b).0
lines_stay [] f b = refl
lines_stay (l ∷ ls) f b =
    shaped_join (stmts_of l b).0 _ ((stays l).shaped (and_left (shaped_line l) (all_are (map shaped_line ls)) f) b)
    (lines_stay ls (and_right (shaped_line l) (all_are (map shaped_line ls)) f) (stmts_of l b).1)

-- modules

module_shaped : (m : ℕ) (lines : LineModule) (names : List (List ℕ)) → shaped_lines lines ≡ true → is_shaped_module (module_of m lines names).0.0 ≡ true
module_shaped m lines names f =
    let begin : Before = record { names = names; items = [] } in
    all_mapped (module_of m lines names).0.0.body (shaped_join _ _ (heads_shaped 0 _ _) (lines_stay lines.body f begin))

modules_shaped : (m : ℕ) (modules : List LineModule) (names : List (List ℕ)) → all_are (map shaped_lines modules) ≡ true → list_all is_shaped_module (modules_of m modules names).0.0 ≡ true
modules_shaped m [] names f = refl
modules_shaped m (first ∷ others) names f =
    both (module_shaped m first names (and_left (shaped_lines first) (all_are (map shaped_lines others)) f))
    (modules_shaped (m + 1) others (module_of m first names).1 (and_right (shaped_lines first) (all_are (map shaped_lines others)) f))

pub circuit_shaped : (main : Name) (modules : List LineModule) (names : List (List ℕ)) → all_are (map shaped_lines modules) ≡ true → is_shaped_circuit (circuit_of main modules names) ≡ true
circuit_shaped main modules names f = modules_shaped 0 modules names f
