-- What lines stand for drives the wire of an item in the item's place alone.
use Rattle.std.proofs.Common.{◌≡◌, ℕ, ◌+◌, ◌<◌, ◌≤◌, ◌==◌, Bool, true, false, List, [], ◌∷◌, ◌++◌, map, length, length-append, Option, Some, None, if◌then◌else◌, refl, sym, ap, ap₂, ◌∙◌, subst, append_assoc, append-nil, eqb→eq, eq-eqb, arith}
use Rattle.std.proofs.lemmas.Grind.{common_steps}
use Rattle.std.proofs.lemmas.Bool.{ltb-true, true≢false}
use Rattle.place_text.specs.declared.place.Place.{Place}
use Rattle.fir_types.specs.declared.name.Name.{Name}
use Rattle.fir_types.specs.declared.fir_type.FirType.{FirType}
use Rattle.fir_tree.specs.declared.expr.Expr.{Expr, the_lemmas as expr_lemmas}
use Rattle.fir_tree.specs.declared.expr.Form.{Form}
use Rattle.fir_tree.specs.declared.expr.Suffix.{Suffix}
use Rattle.fir_tree.specs.declared.expr.Form.TheOpen.{Form-F}
use Rattle.fir_tree.specs.declared.expr.Form.TheViews.{out-Form}
use Rattle.fir_tree.specs.declared.stmt.Stmt.{Stmt, the_lemmas as stmt_lemmas}
use Rattle.fir_tree.specs.declared.stmt.Stmt.TheVariants as stmt
use Rattle.fir_tree.specs.declared.stmt.Arm.{Arm, fold-Arm}
use Rattle.fir_tree.specs.declared.stmt.Stmt.TheOpen.{Stmt-F}
use Rattle.fir_tree.specs.declared.stmt.Stmt.TheFolds.{map-Stmt}
use Rattle.fir_tree.specs.declared.stmt.Stmt.TheViews.{out-Stmt}
use Rattle.item_lines.specs.declared.line.Line.{Line, ind-Line, roll-Line, map-Line, the_lemmas as line_lemmas}
use Rattle.item_lines.specs.declared.line.Line.TheOpen.{Line-F, LineArm-F}
use Rattle.item_lines.specs.declared.line.LineArm.{LineArm, roll-LineArm, map-LineArm}
use Rattle.item_lines.specs.Items as items
use Rattle.item_lines.specs.Items.{Before, Stands, in_order, in_block, stmts_of, with_name, number_in, name_at, wire_name, clock_name, argument_name, argument_nodes, item_stmts, head_stmts, heads, component, padded, one_bit, zero_bit}
use Rattle.item_lines.specs.Lines.{arm_of}
use Rattle.item_laws.specs.Drivers as drive
use Rattle.item_laws.specs.Drivers.{all_of, refers_to, is_form_of, drivers_in, drivers, of_line, of_line_arm, conditions_in, conditions}
use Rattle.item_laws.proofs.Numbers.{Has, has_added, apart, Grows, grows_twice, number_grown, has_grown}
use Rattle.item_laws.proofs.Picking.{picked, picked_append, differs}
use Rattle.item_laws.proofs.Below as below
use Rattle.item_laws.proofs.Below.{all_are, form_below, ref_below, layer_below, plain_below, line_below, arm_below, and_left, and_right}
use Rattle.item_laws.proofs.Growing.{arm_conditions, nodes_grown, heads_grown, steps, arm_steps, arm_list_step, stands_roll, arm_stands_roll, conditions_roll, arm_conditions_roll, lines_step}

all_append : {A : Type 0} (xs ys : List (List A)) → all_of (xs ++ ys) ≡ all_of xs ++ all_of ys
all_append [] ys = refl
all_append (x ∷ xs) ys = ap (λ zs. x ++ zs) (all_append xs ys) ∙ sym (append_assoc x (all_of xs) (all_of ys))

map_append : {A B : Type 0} (f : A → B) (xs ys : List A) → map f (xs ++ ys) ≡ map f xs ++ map f ys
map_append f [] ys = refl
map_append f (x ∷ xs) ys = ap (λ zs. f x ∷ zs) (map_append f xs ys)

module _ (w : ℕ) where
  abbrev arm_drivers : Arm → List (Option Expr)
  arm_drivers = fold-Arm (List (Option Expr)) (List (Option Expr)) (drive.of_stmt w) (drive.of_arm w)

  pub drivers_append : (xs ys : List Stmt) → drivers w (xs ++ ys) ≡ drivers w xs ++ drivers w ys
  drivers_append xs ys = ap all_of (map_append (drivers_in w) xs ys) ∙ all_append (map (drivers_in w) xs) (map (drivers_in w) ys)

  of-wire : (name : Name) (typ : FirType) → drivers_in w (stmt.Wire name typ) ≡ []
  of-wire name typ = grind (arith, common_steps, stmt_lemmas)

  of-reg : (name : Name) (typ : FirType) (clock : Expr) → drivers_in w (stmt.Reg name typ clock) ≡ []
  of-reg name typ clock = grind (arith, common_steps, stmt_lemmas)

  of-node : (name : Name) (e : Expr) → drivers_in w (stmt.Node name e) ≡ []
  of-node name e = grind (arith, common_steps, stmt_lemmas)

  of-connect : (left right : Expr) → drivers_in w (stmt.Connect left right) ≡ (if refers_to w left then Some right ∷ [] else [])
  of-connect left right = grind (arith, common_steps, stmt_lemmas)

  of-when : (arms : List Arm) (other : List Stmt) → drivers_in w (stmt.When arms other) ≡ all_of (map arm_drivers arms) ++ all_of (map (drivers_in w) other)
  of-when arms other = grind (arith, common_steps, stmt_lemmas)

  of-arm : (condition : Expr) (body : List Stmt) → arm_drivers (record { condition = condition; body = body }) ≡ drivers w body
  of-arm condition body = grind (arith, common_steps, stmt_lemmas)

  component_refers : (name : Name) → refers_to w (component name) ≡ (name.id == w)
  component_refers name = grind (arith, common_steps, expr_lemmas)

  -- statements of the text

  drivers_out : (s : Stmt) → drivers_in w s ≡ drive.of_stmt w (map-Stmt Stmt Arm (List (Option Expr)) (List (Option Expr)) (drivers_in w) arm_drivers (out-Stmt s))
  drivers_out s = grind (arith, common_steps, stmt_lemmas)

  module _ (n : ℕ) (far : n ≤ w) where
    form_far : (f : Form-F Form Suffix Expr) → form_below n f ≡ true → is_form_of w f ≡ false
    form_far (Form-F.Ref name suffixes) t = let less = ltb-true name.id n t in differs name.id w (λ e. let no : name.id < name.id = omega (arith, less, far, e) in omega (arith, no))
    form_far (Form-F.Literal kind width number) t = refl
    form_far (Form-F.Prim prim operands params) t = refl
    form_far (Form-F.Mux operands) t = refl

    ref_far : (e : Expr) → ref_below n e ≡ true → refers_to w e ≡ false
    ref_far e t = form_far (out-Form e.form) t

    layer_far : (y : Stmt-F Stmt Arm) → layer_below n y ≡ true → drive.of_stmt w (map-Stmt Stmt Arm (List (Option Expr)) (List (Option Expr)) (drivers_in w) arm_drivers y) ≡ []
    layer_far (Stmt-F.Wire name typ) t = refl
    layer_far (Stmt-F.Reg name typ clock) t = refl
    layer_far (Stmt-F.RegReset name typ clock reset init) t = refl
    layer_far (Stmt-F.Mem memory) t = refl
    layer_far (Stmt-F.Inst name target) t = refl
    layer_far (Stmt-F.Node name e) t = refl
    layer_far (Stmt-F.Skip place) t = refl
    layer_far (Stmt-F.Connect left right) t = ap (λ (b : Bool). if b then Some right ∷ [] else []) (ref_far left t)
    layer_far (Stmt-F.Invalidate target) t = ap (λ (b : Bool). if b then None ∷ [] else []) (ref_far target t)
    layer_far (Stmt-F.When arms other) t = absurd (true≢false (sym t))

    plain_far : (s : Stmt) → plain_below n s ≡ true → drivers_in w s ≡ []
    plain_far s t = drivers_out s ∙ layer_far (out-Stmt s) t

  -- nodes drive nothing
  nodes_none : (k j : ℕ) (at : Place) (es : List Expr) (names : List (List ℕ)) → drivers w (argument_nodes k j at es names).0 ≡ []
  nodes_none k j at [] names = refl
  nodes_none k j at (e ∷ es) names = ap₂ (λ (xs ys : List (Option Expr)). xs ++ ys) (of-node _ (padded e)) (nodes_none k (j + 1) at es (with_name names (argument_name k j)))

-- the wire of item k, where there are fewer items than most
module _ (final : List (List ℕ)) (k most n : ℕ) (has : Has final (wire_name k)) (once : (i : ℕ) → i < most → wire_name i ≡ wire_name k → i ≡ k) (far : n ≤ number_in final (wire_name k)) where
  abbrev wire : ℕ
  wire = number_in final (wire_name k)

  item_number : (i : ℕ) (names : List (List ℕ)) → i < most → Has names (wire_name i) → Grows names final → (number_in names (wire_name i) == wire) ≡ (i == k)
  item_number i names less there g = by (i == k) refl
    where
      same : number_in final (wire_name i) ≡ number_in names (wire_name i)
      same = number_grown (wire_name i) g there

      by : (b : Bool) → (i == k) ≡ b → (number_in names (wire_name i) == wire) ≡ b
      by true e = eq-eqb (number_in names (wire_name i)) wire (sym same ∙ ap (λ (j : ℕ). number_in final (wire_name j)) (eqb→eq i k (rw e tt)))
      by false e = differs (number_in names (wire_name i)) wire (λ is.
          let one : i ≡ k = once i less (apart final (wire_name i) (wire_name k) (has_grown (wire_name i) g there) has (same ∙ is)) in
          let test : (i == k) ≡ true = eq-eqb i k one in
          cc)

  connect_at : (i : ℕ) (names : List (List ℕ)) (at : Place) (e : Expr) → i < most → Has names (wire_name i) → Grows names final
      → drivers_in wire (stmt.Connect (component (name_at names (wire_name i) at)) e) ≡ (if i == k then Some e ∷ [] else [])
  connect_at i names at e less there g =
      of-connect wire (component (name_at names (wire_name i) at)) e
      ∙ ap (λ (b : Bool). if b then Some e ∷ [] else []) (component_refers wire (name_at names (wire_name i) at) ∙ item_number i names less there g)

  item_drives : (i : ℕ) (at : Place) (clock condition : Expr) (es : List Expr) (names : List (List ℕ)) → i < most → Grows (item_stmts i at clock condition es names).1 final
      → drivers wire (item_stmts i at clock condition es names).0 ≡ picked k i (condition ∷ [])
  item_drives i at clock condition es names less g =
      let before : List (List ℕ) = with_name names (clock_name i) in
      let here : List (List ℕ) = with_name before (wire_name i) in
      ap₂ (λ (xs ys : List (Option Expr)). xs ++ ys) (of-reg wire _ (one_bit at) clock)
      (ap₂ (λ (xs ys : List (Option Expr)). xs ++ ys) (connect_at i here at condition less (has_added before (wire_name i)) (grows_twice (nodes_grown i 0 at es here) g)) (nodes_none wire i 0 at es here))

  head_drives : (i : ℕ) (at : Place) (names : List (List ℕ)) → i < most → Grows (with_name names (wire_name i)) final → drivers wire (head_stmts i at names).0 ≡ picked k i (zero_bit at ∷ [])
  head_drives i at names less g =
      ap₂ (λ (xs ys : List (Option Expr)). xs ++ ys) (of-wire wire _ (one_bit at))
      (ap (λ (xs : List (Option Expr)). xs ++ []) (connect_at i (with_name names (wire_name i)) at (zero_bit at) less (has_added names (wire_name i)) g))

  pub heads_drive : (i : ℕ) (places : List Place) (names : List (List ℕ)) → i + length places ≤ most → Grows (heads i places names).1 final
      → drivers wire (heads i places names).0 ≡ picked k i (map zero_bit places)
  heads_drive i [] names less g = refl
  heads_drive i (at ∷ places) names less g =
      let more : List (List ℕ) = with_name names (wire_name i) in
      drivers_append wire (head_stmts i at names).0 (heads (i + 1) places more).0
      ∙ ap₂ (λ (xs ys : List (Option Expr)). xs ++ ys) (head_drives i at names (omega (arith, less)) (grows_twice (heads_grown (i + 1) places more) g))
      (heads_drive (i + 1) places more (omega (arith, less)) g) ∙ sym (picked_append k i (zero_bit at ∷ []) (map zero_bit places))

  -- lines, by their layers

  record Says (l : Line) : Type 0 where
    said : line_below n l ≡ true → (b : Before) → length b.items + length (conditions_in l) ≤ most → Grows (stmts_of l b).1.names final
        → drivers wire (stmts_of l b).0 ≡ picked k (length b.items) (conditions_in l)

  record ArmSays (a : LineArm) : Type 0 where
    said : arm_below n a ≡ true → (b : Before) → length b.items + length (arm_conditions a) ≤ most → Grows (arm_of a b).1.names final
        → arm_drivers wire (arm_of a b).0 ≡ picked k (length b.items) (arm_conditions a)

  -- one after the other
  joined_said : (first later : List Stmt) (i j : ℕ) (cs ds : List Expr) → drivers wire first ≡ picked k i cs → j ≡ i + length cs → drivers wire later ≡ picked k j ds
      → drivers wire (first ++ later) ≡ picked k i (cs ++ ds)
  joined_said first later i j cs ds e at f =
      drivers_append wire first later ∙ ap₂ (λ (xs ys : List (Option Expr)). xs ++ ys) e (f ∙ ap (λ (m : ℕ). picked k m ds) at) ∙ sym (picked_append k i cs ds)

  first_fits : (i : ℕ) (cs ds : List Expr) → i + length (cs ++ ds) ≤ most → i + length cs ≤ most
  first_fits i cs ds less = let both = length-append cs ds in omega (arith, less, both)

  later_fits : (i j : ℕ) (cs ds : List Expr) → j ≡ i + length cs → i + length (cs ++ ds) ≤ most → j + length ds ≤ most
  later_fits i j cs ds at less = let both = length-append cs ds in omega (arith, less, both, at)

  block_said : (ps : List ((l : Line) × Says l)) → all_are (map (line_below n) (map (λ p. p.0) ps)) ≡ true → (b : Before) → length b.items + length (conditions (map (λ p. p.0) ps)) ≤ most
      → Grows (in_block (map stmts_of (map (λ p. p.0) ps)) b).1.names final → drivers wire (in_block (map stmts_of (map (λ p. p.0) ps)) b).0 ≡ picked k (length b.items) (conditions (map (λ p. p.0) ps))
  block_said [] t b less g = refl
  block_said (p ∷ ps) t b less g =
      let rest : List Line = map (λ q. q.0) ps in
      let after : Before = (stmts_of p.0 b).1 in
      let at = (steps p.0).counted b in
      joined_said (stmts_of p.0 b).0 (in_block (map stmts_of rest) after).0 (length b.items) (length after.items) (conditions_in p.0) (conditions rest)
      (p.1.said (and_left (line_below n p.0) (all_are (map (line_below n) rest)) t) b (first_fits (length b.items) (conditions_in p.0) (conditions rest) less) (grows_twice ((lines_step rest after).0) g))
      at
      (block_said ps (and_right (line_below n p.0) (all_are (map (line_below n) rest)) t) after (later_fits (length b.items) (length after.items) (conditions_in p.0) (conditions rest) at less) g)

  arms_said : (ps : List ((a : LineArm) × ArmSays a)) → all_are (map (arm_below n) (map (λ p. p.0) ps)) ≡ true → (b : Before) → length b.items + length (all_of (map arm_conditions (map (λ p. p.0) ps))) ≤ most
      → Grows (in_order (map arm_of (map (λ p. p.0) ps)) b).1.names final
      → all_of (map (arm_drivers wire) (in_order (map arm_of (map (λ p. p.0) ps)) b).0) ≡ picked k (length b.items) (all_of (map arm_conditions (map (λ p. p.0) ps)))
  arms_said [] t b less g = refl
  arms_said (p ∷ ps) t b less g =
      let rest : List LineArm = map (λ q. q.0) ps in
      let after : Before = (arm_of p.0 b).1 in
      let at = (arm_steps p.0).counted b in
      ap₂ (λ (xs ys : List (Option Expr)). xs ++ ys)
      (p.1.said (and_left (arm_below n p.0) (all_are (map (arm_below n) rest)) t) b (first_fits (length b.items) (arm_conditions p.0) (all_of (map arm_conditions rest)) less) (grows_twice ((arm_list_step rest after).0) g))
      (arms_said ps (and_right (arm_below n p.0) (all_are (map (arm_below n) rest)) t) after (later_fits (length b.items) (length after.items) (arm_conditions p.0) (all_of (map arm_conditions rest)) at less) g
      ∙ ap (λ (m : ℕ). picked k m (all_of (map arm_conditions rest))) at)
      ∙ sym (picked_append k (length b.items) (arm_conditions p.0) (all_of (map arm_conditions rest)))

  below_roll : (y : Line-F Line LineArm) → line_below n (roll-Line y) ≡ below.of_line n (map-Line Line LineArm Bool Bool (line_below n) (arm_below n) y)
  below_roll y = grind (arith, common_steps, line_lemmas)

  arm_below_roll : (y : LineArm-F Line LineArm) → arm_below n (roll-LineArm y) ≡ below.of_line_arm (map-LineArm Line LineArm Bool Bool (line_below n) (arm_below n) y)
  arm_below_roll y = grind (arith, common_steps, line_lemmas)

  line_at : (y : Line-F Line LineArm)
      → (below.of_line n (map-Line Line LineArm Bool Bool (line_below n) (arm_below n) y) ≡ true → (b : Before)
      → length b.items + length (of_line (map-Line Line LineArm (List Expr) (List Expr) conditions_in arm_conditions y)) ≤ most
      → Grows (items.of_line (map-Line Line LineArm (Stands (List Stmt)) (Stands Arm) stmts_of arm_of y) b).1.names final
      → drivers wire (items.of_line (map-Line Line LineArm (Stands (List Stmt)) (Stands Arm) stmts_of arm_of y) b).0
      ≡ picked k (length b.items) (of_line (map-Line Line LineArm (List Expr) (List Expr) conditions_in arm_conditions y)))
      → Says (roll-Line y)
  line_at y h = record {
    said = λ t b less g.
        ap (λ (p : List Stmt × Before). drivers wire p.0) (stands_roll y b)
        ∙ h (sym (below_roll y) ∙ t) b (subst (λ (cs : List Expr). length b.items + length cs ≤ most) (conditions_roll y) less) (subst (λ (p : List Stmt × Before). Grows p.1.names final) (stands_roll y b) g)
        ∙ ap (λ (cs : List Expr). picked k (length b.items) cs) (sym (conditions_roll y));
  }

  line_case : (y : Line-F ((l : Line) × Says l) ((a : LineArm) × ArmSays a)) → Says (roll-Line (map-Line _ _ Line LineArm (λ p. p.0) (λ p. p.0) y))
  line_case (Line-F.Plain s) = line_at (Line-F.Plain s) (λ t b less g. ap (λ (xs : List (Option Expr)). xs ++ []) (plain_far wire n far s t))
  line_case (Line-F.Branch arms other) = line_at (Line-F.Branch (map (λ p. p.0) arms) (map (λ p. p.0) other)) (λ t b less g.
      let first : List LineArm = map (λ p. p.0) arms in
      let rest : List Line = map (λ p. p.0) other in
      let made = in_order (map arm_of first) b in
      let at = (arm_list_step first b).1 in
      let cs : List Expr = all_of (map arm_conditions first) in
      append-nil (drivers_in wire (stmt.When made.0 (in_block (map stmts_of rest) made.1).0)) ∙ of-when wire made.0 (in_block (map stmts_of rest) made.1).0
      ∙ ap₂ (λ (xs ys : List (Option Expr)). xs ++ ys)
      (arms_said arms (and_left (all_are (map (arm_below n) first)) (all_are (map (line_below n) rest)) t) b (first_fits (length b.items) cs (conditions rest) less) (grows_twice ((lines_step rest made.1).0) g))
      (block_said other (and_right (all_are (map (arm_below n) first)) (all_are (map (line_below n) rest)) t) made.1 (later_fits (length b.items) (length made.1.items) cs (conditions rest) at less) g
      ∙ ap (λ (m : ℕ). picked k m (conditions rest)) at)
      ∙ sym (picked_append k (length b.items) cs (conditions rest)))
  line_case (Line-F.Print at clock condition pieces es) =
      line_at (Line-F.Print at clock condition pieces es) (λ t b less g. item_drives (length b.items) at clock condition es b.names (omega (arith, less)) g)
  line_case (Line-F.Stop at clock condition code) =
      line_at (Line-F.Stop at clock condition code) (λ t b less g. item_drives (length b.items) at clock condition [] b.names (omega (arith, less)) g)

  arm_case : (y : LineArm-F ((l : Line) × Says l) ((a : LineArm) × ArmSays a)) → ArmSays (roll-LineArm (map-LineArm _ _ Line LineArm (λ p. p.0) (λ p. p.0) y))
  arm_case y =
      let layer : LineArm-F Line LineArm = record { condition = y.condition; body = map (λ p. p.0) y.body } in
      record {
        said = λ t b less g.
            ap (λ (p : Arm × Before). arm_drivers wire p.0) (arm_stands_roll layer b) ∙ of-arm wire y.condition (in_block (map stmts_of (map (λ p. p.0) y.body)) b).0
            ∙ block_said y.body (sym (arm_below_roll layer) ∙ t) b (subst (λ (cs : List Expr). length b.items + length cs ≤ most) (arm_conditions_roll layer) less)
            (subst (λ (p : Arm × Before). Grows p.1.names final) (arm_stands_roll layer b) g) ∙ ap (λ (cs : List Expr). picked k (length b.items) cs) (sym (arm_conditions_roll layer));
      }

  says : (l : Line) → Says l
  says = ind-Line Says ArmSays (λ x y is. subst (λ z. Says (roll-Line z)) is (line_case y)) (λ x y is. subst (λ z. ArmSays (roll-LineArm z)) is (arm_case y))

  pub lines_say : (ls : List Line) → all_are (map (line_below n) ls) ≡ true → (b : Before) → length b.items + length (conditions ls) ≤ most
      → Grows (in_block (map stmts_of ls) b).1.names final → drivers wire (in_block (map stmts_of ls) b).0 ≡ picked k (length b.items) (conditions ls)
  lines_say [] t b less g = refl
  lines_say (l ∷ ls) t b less g =
      let after : Before = (stmts_of l b).1 in
      let at = (steps l).counted b in
      joined_said (stmts_of l b).0 (in_block (map stmts_of ls) after).0 (length b.items) (length after.items) (conditions_in l) (conditions ls)
      ((says l).said (and_left (line_below n l) (all_are (map (line_below n) ls)) t) b (first_fits (length b.items) (conditions_in l) (conditions ls) less) (grows_twice ((lines_step ls after).0) g))
      at
      (lines_say ls (and_right (line_below n l) (all_are (map (line_below n) ls)) t) after (later_fits (length b.items) (length after.items) (conditions_in l) (conditions ls) at less) g)
