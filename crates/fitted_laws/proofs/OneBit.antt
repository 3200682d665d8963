-- Statements whose expressions are well typed and whose conditions and resets have one bit at most.
use Rattle.std.proofs.Common.{◌≡◌, Bool, true, ◌&&◌, List, [], ◌∷◌, map, Option, Some, None, refl, sym, ap, ap₂, ◌∙◌, subst}
use Rattle.std.specs.Prelude.{nat_le}
use Rattle.std.specs.List.{list_all}
use Rattle.fir_types.specs.Equivalence.{IsUnsigned}
use Rattle.fir_types.specs.declared.fir_type.FirType.{FirType}
use Rattle.fir_types.specs.declared.fir_type.Shape.TheVariants as shape
use Rattle.prim_ops.specs.declared.widths.Width.{Width}
use Rattle.prim_ops.specs.declared.widths.Width.TheVariants.{Bits, Over}
use Rattle.fir_tree.specs.declared.expr.Expr.{Expr}
use Rattle.fir_tree.specs.declared.stmt.Stmt.{Stmt, fold-Stmt, ind-Stmt}
use Rattle.fir_tree.specs.declared.stmt.Arm.{Arm, fold-Arm}
use Rattle.fir_tree.specs.declared.stmt.Stmt.TheOpen.{Stmt-F, Arm-F}
use Rattle.fir_tree.specs.declared.stmt.Stmt.TheFolds.{map-Stmt, map-Arm, fold-roll-Stmt, fold-roll-Arm}
use Rattle.fir_tree.specs.declared.stmt.Stmt.TheViews.{roll-Stmt, roll-Arm}
use Rattle.prim_ops.specs.Shapes.{Shape, is_unsigned}
use Rattle.width_rules.specs.declared.rule.Formula.{Formula}
use Rattle.width_rules.specs.Formulas.{level, width_under}
use Rattle.width_rules.specs.Sources.{Measured, lone}
use Rattle.type_filling.specs.Filling.{filled, number}
use Rattle.width_fit.specs.Judging.{lone_width, widths_of}
use Rattle.fir_meaning.specs.Components.{width_or_none}
use Rattle.fir_meaning.specs.WellTyped as typing
use Rattle.fir_meaning.specs.WellTyped.{Known, typed, named_type, both_match, is_typed, is_condition, is_one_unsigned, is_typed_stmt, are_typed}
use Rattle.fitted_laws.specs.OneBit as asking
use Rattle.fitted_laws.specs.Choices as choosing
use Rattle.fitted_laws.specs.Choices.{chooses, chooses_in, choose_in}
use Rattle.fitted_laws.specs.OneBit.{one_bit, is_one_bit, asks_one_bit, ask_one_bit}
use Rattle.fitted_laws.proofs.Filling.{leaf_shapes, first_width, filled_unsigned, async_shapes}
use Rattle.fitted_laws.proofs.Expressions.{and_left, and_right}

-- what is measured with one bit at most has one bit at most
measured_narrow : (ws : List Width) (fs : List Formula) → nat_le (level (width_under (lone fs) ws)) 1 ≡ true → nat_le (first_width (map (λ f. width_under f ws) fs)) 1 ≡ true
measured_narrow ws [] e = refl
measured_narrow ws (f ∷ fs) e = one (width_under f ws) e where
  one : (w : Width) → nat_le (level w) 1 ≡ true → nat_le (width_or_none (number w)) 1 ≡ true
  one (Bits n) e = e
  one Over e = refl

pub filled_one_bit : (ws : List Width) (m : Measured) (typ : FirType) → IsUnsigned typ → nat_le (level (lone_width ws m)) 1 ≡ true → one_bit (Some (leaf_shapes (filled typ (widths_of ws m)))) ≡ true
filled_one_bit ws m typ u e = ap (λ l. one_bit (Some l)) (filled_unsigned u (widths_of ws m)) ∙ measured_narrow ws m.formulas e

-- an AsyncReset has one bit
pub async_one_bit : (typ : FirType) → typ.shape ≡ shape.AsyncReset → (vs : List Width) → one_bit (Some (leaf_shapes (filled typ vs))) ≡ true
async_one_bit typ e vs = ap (λ l. one_bit (Some l)) (async_shapes typ e vs)

one_bit_unsigned : (o : Option (List Shape)) → one_bit o ≡ true → is_one_unsigned o ≡ true
one_bit_unsigned (Some (s ∷ [])) e = and_left (is_unsigned s) (nat_le s.width 1) e
one_bit_unsigned (Some []) e = cc
one_bit_unsigned (Some (s ∷ t ∷ ss)) e = cc
one_bit_unsigned None e = cc

-- an expression that is well typed and chooses by one bit, and one that also is one UInt of at most one bit
abbrev pub is_good : Known → Expr → Bool
is_good known e = is_typed known e && chooses known e

abbrev pub is_good_bit : Known → Expr → Bool
is_good_bit known e = is_one_bit known e && chooses known e

module _ (known : Known) where
  abbrev pub of_stmt : Stmt-F Bool Bool → Bool
  of_stmt (Stmt-F.Wire name typ) = true
  of_stmt (Stmt-F.Reg name typ clock) = is_good known clock
  of_stmt (Stmt-F.RegReset name typ clock reset init) = is_good known clock && (is_good_bit known reset && is_good known init)
  of_stmt (Stmt-F.Mem memory) = true
  of_stmt (Stmt-F.Inst name target) = true
  of_stmt (Stmt-F.Node name e) = is_good known e
  of_stmt (Stmt-F.Connect left right) = is_good known left && (is_good known right && both_match (named_type known left) (named_type known right))
  of_stmt (Stmt-F.Invalidate target) = is_good known target
  of_stmt (Stmt-F.When arms other) = list_all (λ arm. arm) arms && list_all (λ s. s) other
  of_stmt (Stmt-F.Skip place) = true

  abbrev pub of_arm : Arm-F Bool Bool → Bool
  of_arm arm = is_good_bit known arm.condition && list_all (λ s. s) arm.body

  abbrev pub is_fit_stmt : Stmt → Bool
  is_fit_stmt = fold-Stmt Bool Bool of_stmt of_arm

  abbrev pub is_fit_arm : Arm → Bool
  is_fit_arm = fold-Arm Bool Bool of_stmt of_arm

  abbrev pub are_fit : List Stmt → Bool
  are_fit body = list_all (λ b. b) (map is_fit_stmt body)

  abbrev is_typed_arm : Arm → Bool
  is_typed_arm = fold-Arm Bool Bool (typing.of_stmt known) (typing.of_arm known)

  abbrev asks_arm : Arm → Bool
  asks_arm = fold-Arm Bool Bool (asking.of_stmt known) (asking.of_arm known)

  abbrev chooses_arm : Arm → Bool
  chooses_arm = fold-Arm Bool Bool (choosing.of_stmt known) (choosing.of_arm known)

  abbrev Both : Bool → Bool → Bool → Type 0
  Both a b c = (a ≡ true) × (b ≡ true) × (c ≡ true)

  abbrev StmtBoth : Stmt → Type 0
  StmtBoth s = is_fit_stmt s ≡ true → Both (is_typed_stmt known s) (asks_one_bit known s) (chooses_in known s)

  abbrev ArmBoth : Arm → Type 0
  ArmBoth a = is_fit_arm a ≡ true → Both (is_typed_arm a) (asks_arm a) (chooses_arm a)

  both_are : {a b c d e f : Bool} → Both a b c → Both d e f → Both (a && d) (b && e) (c && f)
  both_are l r = (ap₂ (λ x y. x && y) l.0 r.0, ap₂ (λ x y. x && y) l.1 r.1, ap₂ (λ x y. x && y) l.2 r.2)

  stmts_both : (ps : List ((s : Stmt) × StmtBoth s)) → are_fit (map (λ e. e.0) ps) ≡ true → Both (are_typed known (map (λ e. e.0) ps)) (ask_one_bit known (map (λ e. e.0) ps)) (choose_in known (map (λ e. e.0) ps))
  stmts_both [] e = (refl, refl, refl)
  stmts_both (p ∷ ps) e = both_are (p.1 (and_left (is_fit_stmt p.0) (are_fit (map (λ e. e.0) ps)) e)) (stmts_both ps (and_right (is_fit_stmt p.0) (are_fit (map (λ e. e.0) ps)) e))

  arms_both : (ps : List ((a : Arm) × ArmBoth a)) → list_all (λ b. b) (map is_fit_arm (map (λ e. e.0) ps)) ≡ true
      → Both (list_all (λ b. b) (map is_typed_arm (map (λ e. e.0) ps))) (list_all (λ b. b) (map asks_arm (map (λ e. e.0) ps))) (list_all (λ b. b) (map chooses_arm (map (λ e. e.0) ps)))
  arms_both [] e = (refl, refl, refl)
  arms_both (p ∷ ps) e =
      let rest : Bool = list_all (λ b. b) (map is_fit_arm (map (λ e. e.0) ps)) in
      both_are (p.1 (and_left (is_fit_arm p.0) rest e)) (arms_both ps (and_right (is_fit_arm p.0) rest e))

  stmt_at : (z : Stmt-F Stmt Arm) → (of_stmt (map-Stmt Stmt Arm Bool Bool is_fit_stmt is_fit_arm z) ≡ true
      → Both (typing.of_stmt known (map-Stmt Stmt Arm Bool Bool (is_typed_stmt known) is_typed_arm z)) (asking.of_stmt known (map-Stmt Stmt Arm Bool Bool (asks_one_bit known) asks_arm z))
      (choosing.of_stmt known (map-Stmt Stmt Arm Bool Bool (chooses_in known) chooses_arm z))) → StmtBoth (roll-Stmt z)
  stmt_at z h e =
      let r = h (sym (fold-roll-Stmt Bool Bool of_stmt of_arm z) ∙ e) in
      (fold-roll-Stmt Bool Bool (typing.of_stmt known) (typing.of_arm known) z ∙ r.0, fold-roll-Stmt Bool Bool (asking.of_stmt known) (asking.of_arm known) z ∙ r.1, fold-roll-Stmt Bool Bool (choosing.of_stmt known) (choosing.of_arm known) z ∙ r.2)

  stmt_case : (y : Stmt-F ((s : Stmt) × StmtBoth s) ((a : Arm) × ArmBoth a)) → StmtBoth (roll-Stmt (map-Stmt _ _ Stmt Arm (λ e. e.0) (λ e. e.0) y))
  stmt_case (Stmt-F.Wire name typ) = stmt_at (Stmt-F.Wire name typ) (λ e. (refl, refl, refl))
  stmt_case (Stmt-F.Reg name typ clock) = stmt_at (Stmt-F.Reg name typ clock) (λ e. (and_left (is_typed known clock) (chooses known clock) e, refl, and_right (is_typed known clock) (chooses known clock) e))
  stmt_case (Stmt-F.RegReset name typ clock reset init) = stmt_at (Stmt-F.RegReset name typ clock reset init) (λ e.
      let c = and_left (is_good known clock) _ e in
      let more = and_right (is_good known clock) _ e in
      let r = and_left (is_good_bit known reset) _ more in
      let i = and_right (is_good_bit known reset) (is_good known init) more in
      let own : is_one_bit known reset ≡ true = and_left (is_one_bit known reset) (chooses known reset) r in (
        ap₂ (λ a b. a && b) (and_left (is_typed known clock) (chooses known clock) c) (ap₂ (λ a b. a && b) (one_bit_unsigned (typed reset known) own) (and_left (is_typed known init) (chooses known init) i)),
        own,
        ap₂ (λ a b. a && b) (and_right (is_typed known clock) (chooses known clock) c) (ap₂ (λ a b. a && b) (and_right (is_one_bit known reset) (chooses known reset) r) (and_right (is_typed known init) (chooses known init) i)),
      ))
  stmt_case (Stmt-F.Mem memory) = stmt_at (Stmt-F.Mem memory) (λ e. (refl, refl, refl))
  stmt_case (Stmt-F.Inst name target) = stmt_at (Stmt-F.Inst name target) (λ e. (refl, refl, refl))
  stmt_case (Stmt-F.Node name x) = stmt_at (Stmt-F.Node name x) (λ e. (and_left (is_typed known x) (chooses known x) e, refl, and_right (is_typed known x) (chooses known x) e))
  stmt_case (Stmt-F.Connect left right) = stmt_at (Stmt-F.Connect left right) (λ e.
      let l = and_left (is_good known left) _ e in
      let more = and_right (is_good known left) _ e in
      let r = and_left (is_good known right) _ more in (
        ap₂ (λ a b. a && b) (and_left (is_typed known left) (chooses known left) l) (ap₂ (λ a b. a && b) (and_left (is_typed known right) (chooses known right) r) (and_right (is_good known right) _ more)),
        refl,
        ap₂ (λ a b. a && b) (and_right (is_typed known left) (chooses known left) l) (and_right (is_typed known right) (chooses known right) r),
      ))
  stmt_case (Stmt-F.Invalidate target) = stmt_at (Stmt-F.Invalidate target) (λ e. (and_left (is_typed known target) (chooses known target) e, refl, and_right (is_typed known target) (chooses known target) e))
  stmt_case (Stmt-F.Skip place) = stmt_at (Stmt-F.Skip place) (λ e. (refl, refl, refl))
  stmt_case (Stmt-F.When arms other) = stmt_at (Stmt-F.When (map (λ e. e.0) arms) (map (λ e. e.0) other)) (λ e.
      let first : Bool = list_all (λ b. b) (map is_fit_arm (map (λ e. e.0) arms)) in
      both_are (arms_both arms (and_left first _ e)) (stmts_both other (and_right first _ e)))

  arm_case : (y : Arm-F ((s : Stmt) × StmtBoth s) ((a : Arm) × ArmBoth a)) → ArmBoth (roll-Arm (map-Arm _ _ Stmt Arm (λ e. e.0) (λ e. e.0) y))
  arm_case y e =
      let z : Arm-F Stmt Arm = map-Arm _ _ Stmt Arm (λ e. e.0) (λ e. e.0) y in
      let is : (is_good_bit known y.condition && are_fit (map (λ e. e.0) y.body)) ≡ true = sym (fold-roll-Arm Bool Bool of_stmt of_arm z) ∙ e in
      let good = and_left (is_good_bit known y.condition) _ is in
      let own : is_one_bit known y.condition ≡ true = and_left (is_one_bit known y.condition) (chooses known y.condition) good in
      let r = both_are (one_bit_unsigned (typed y.condition known) own, own, and_right (is_one_bit known y.condition) (chooses known y.condition) good) (stmts_both y.body (and_right (is_good_bit known y.condition) _ is)) in
      (fold-roll-Arm Bool Bool (typing.of_stmt known) (typing.of_arm known) z ∙ r.0, fold-roll-Arm Bool Bool (asking.of_stmt known) (asking.of_arm known) z ∙ r.1, fold-roll-Arm Bool Bool (choosing.of_stmt known) (choosing.of_arm known) z ∙ r.2)

  stmt_both : (s : Stmt) → StmtBoth s
  stmt_both = ind-Stmt StmtBoth ArmBoth (λ x y is. subst (λ z. StmtBoth (roll-Stmt z)) is (stmt_case y)) (λ x y is. subst (λ z. ArmBoth (roll-Arm z)) is (arm_case y))

  -- such a body is well typed, and its conditions and resets have one bit at most
  pub body_both : (body : List Stmt) → are_fit body ≡ true → Both (are_typed known body) (ask_one_bit known body) (choose_in known body)
  body_both [] e = (refl, refl, refl)
  body_both (s ∷ body) e = both_are (stmt_both s (and_left (is_fit_stmt s) (are_fit body) e)) (body_both body (and_right (is_fit_stmt s) (are_fit body) e))
