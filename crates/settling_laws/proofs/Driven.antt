-- What statements leave in a leaf is fitted to it.
use Rattle.std.proofs.Common.{◌≡◌, ℕ, zero, suc, ◌==◌, ◌&&◌, min, Bool, true, false, List, [], ◌∷◌, ◌++◌, map, filter, Option, Some, None, ℤ, refl, sym, ap, ap₂, ◌∙◌, subst, arith, true≢false, if◌then◌else◌, ⊎_elim}
use Rattle.std.specs.Prelude.{Contains}
use Rattle.std.specs.List.{list_all}
use Rattle.std.proofs.lemmas.List.Elements.{Contains-append_cases}
use Rattle.bit_words.specs.declared.value.Value.{Value}
use Rattle.bit_words.specs.Values.{integer_of, fit_of}
use Rattle.bit_words.proofs.Congruence.{fit_same, fit_in_range}
use Rattle.fir_types.specs.declared.fir_type.FirType.{FirType}
use Rattle.fir_types.specs.declared.fir_type.Shape.TheViews.{out-Shape}
use Rattle.fir_types.specs.declared.leaf.TypeLeaf.{TypeLeaf}
use Rattle.fir_types.specs.declared.leaf.PathStep.{PathStep}
use Rattle.fir_types.specs.declared.leaf.PathStep.TheVariants as step
use Rattle.fir_types.specs.Leaves.{leaves}
use Rattle.fir_tree.specs.declared.expr.Expr.{Expr}
use Rattle.fir_tree.specs.declared.stmt.Stmt.{Stmt, ind-Stmt}
use Rattle.fir_tree.specs.declared.stmt.Arm.{Arm, fold-Arm}
use Rattle.fir_tree.specs.declared.stmt.Stmt.TheOpen.{Stmt-F, Arm-F}
use Rattle.fir_tree.specs.declared.stmt.Stmt.TheFolds.{map-Stmt, map-Arm, fold-roll-Stmt, fold-roll-Arm}
use Rattle.fir_tree.specs.declared.stmt.Stmt.TheViews.{roll-Stmt, roll-Arm}
use Rattle.prim_ops.specs.Values.{fitted}
use Rattle.fir_meaning.specs.Components.{Leaf, kind_of_leaf, width_of_leaf, kind_of_shape, width_of_shape}
use Rattle.fir_meaning.specs.Values.{Scene, Spot, value, spot_of, beside, lone, fitted_to}
use Rattle.fir_meaning.specs.Drives as drives
use Rattle.fir_meaning.specs.Drives.{Setting, setting, Effect, effect, in_turn, first_holding, left_in, is_turned, of_orientation, set_along, set_at, set_by_connect, set_by_invalidate, same_leaf, same_way, same_step}
use Rattle.fir_meaning.specs.WellTyped as kinds
use Rattle.fir_meaning.specs.WellTyped.{Known, is_typed, is_condition, is_typed_stmt, are_typed, named_type, both_match}
use Rattle.fir_meaning.proofs.Ports.{from_map, one_later, same_number}
use Rattle.fir_meaning.proofs.Tracking.{none_some, some_same}
use Rattle.settling_laws.proofs.Inside.{InsideAt, reference_inside}

-- a type's ground part has the integer as it is
abbrev pub FitsType : FirType → ℤ → Type 0
FitsType t n = integer_of (fitted (kind_of_shape (out-Shape t.shape)) (width_of_shape (out-Shape t.shape)) n) ≡ n

abbrev pub IsFit : TypeLeaf → ℤ → Type 0
IsFit leaf n = integer_of (fitted_to leaf n) ≡ n

fit_twice : (leaf : TypeLeaf) (n : ℤ) → FitsType leaf.typ (integer_of (fitted_to leaf n))
fit_twice leaf n =
    let kind = kind_of_leaf leaf in
    let width = min (width_of_leaf leaf) 128 in
    fit_same kind width (fit_of kind width n) (fit_in_range kind width n)

both_true : (p q : Bool) → (p && q) ≡ true → (p ≡ true) × (q ≡ true)
both_true true q e = (refl, e)
both_true false q e = absurd (true≢false (sym e))

step_is : (a b : PathStep) → same_step a b ≡ true → a ≡ b
step_is (step.Field m) (step.Field n) e = ap step.Field (same_number m n e)
step_is (step.Element m) (step.Element n) e = ap step.Element (same_number m n e)
step_is (step.Field m) (step.Element n) e = absurd (true≢false (sym e))
step_is (step.Element m) (step.Field n) e = absurd (true≢false (sym e))

way_is : (a b : List PathStep) → same_way a b ≡ true → a ≡ b
way_is [] [] e = refl
way_is [] (x ∷ b) e = absurd (true≢false (sym e))
way_is (x ∷ a) [] e = absurd (true≢false (sym e))
way_is (x ∷ a) (y ∷ b) e = let t = both_true (same_step x y) (same_way a b) e in ap₂ (λ u v. u ∷ v) (step_is x y t.0) (way_is a b t.1)

pub from_filter : {A : Type 0} (p : A → Bool) (xs : List A) (x : A) → Contains (filter p xs) x → Contains xs x × (p x ≡ true)
from_filter p [] x (k, below, is) = absurd (omega arith)
from_filter p (y ∷ xs) x c = by (p y) refl c (from_filter p xs x)
  where
    by : (b : Bool) → p y ≡ b → Contains (if b then y ∷ filter p xs else filter p xs) x → (Contains (filter p xs) x → Contains xs x × (p x ≡ true)) → Contains (y ∷ xs) x × (p x ≡ true)
    by true e (zero, below, is) later = ((0, omega arith, is), ap p (sym is) ∙ e)
    by true e (suc k, below, is) later = let rest = later (k, omega (arith, below), is) in (one_later y xs x rest.0, rest.1)
    by false e c later = let rest = later c in (one_later y xs x rest.0, rest.1)

beside_first : (other : Value) (ls : List TypeLeaf) (vs : List Value) (both : TypeLeaf × Value) → Contains (beside other ls vs) both → Contains ls both.0
beside_first other [] vs both (k, below, is) = absurd (omega arith)
beside_first other (l ∷ ls) [] both (zero, below, is) = subst (λ (b : TypeLeaf × Value). Contains (l ∷ ls) b.0) is (0, omega arith, refl)
beside_first other (l ∷ ls) [] both (suc k, below, is) = one_later l ls both.0 (beside_first other ls [] both (k, omega (arith, below), is))
beside_first other (l ∷ ls) (v ∷ vs) both (zero, below, is) = subst (λ (b : TypeLeaf × Value). Contains (l ∷ ls) b.0) is (0, omega arith, refl)
beside_first other (l ∷ ls) (v ∷ vs) both (suc k, below, is) = one_later l ls both.0 (beside_first other ls vs both (k, omega (arith, below), is))

-- Of a leaf of a component, where no other leaf of the component has its way.
module _ (known : Known) (scene : Scene) (fits : (name : ℕ) (typ : FirType) → known name ≡ Some typ → scene.types name ≡ typ) (leaf : Leaf) (part : TypeLeaf)
    (one : (big : TypeLeaf) → Contains (leaves (scene.types leaf.component)) big → big.path ≡ leaf.way → big.typ ≡ part.typ) where
  -- the integer, where there is one, is fitted to it
  abbrev pub FitsIn : Option ℤ → Type 0
  FitsIn o = (n : ℤ) → o ≡ Some n → IsFit part n

  abbrev IsFitting : List Setting → Type 0
  IsFitting ss = (s : Setting) → Contains ss s → same_leaf s.leaf leaf ≡ true → IsFit part s.integer

  left_fit : (ss : List Setting) (last : Option ℤ) → IsFitting ss → FitsIn last → FitsIn (left_in leaf last ss)
  left_fit [] last each h = h
  left_fit (s ∷ ss) last each h = left_fit ss (if same_leaf s.leaf leaf then Some s.integer else last) (λ t c. each t (one_later s ss t c)) (either (same_leaf s.leaf leaf) refl)
    where
      either : (b : Bool) → same_leaf s.leaf leaf ≡ b → FitsIn (if b then Some s.integer else last)
      either true e = λ n is. subst (IsFit part) (some_same s.integer n is) (each s (0, omega arith, refl) e)
      either false e = h

  together : (xs ys : List Setting) → IsFitting xs → IsFitting ys → IsFitting (xs ++ ys)
  together xs ys a b = λ s c. ⊎_elim (λ l. a s l) (λ r. b s r) (Contains-append_cases xs ys s c)

  along_fit : (flip : Bool) (spot : Spot) (way : Option (List PathStep)) (vs : List Value) → spot.way ≡ way → InsideAt (scene.types spot.component) spot.component spot → IsFitting (set_along flip spot way vs)
  along_fit flip spot None vs at inside = λ s c. absurd (let below = c.1 in omega arith)
  along_fit flip spot (Some way) vs at inside = λ s c e.
      let pairs = beside (lone []) (leaves spot.typ) vs in
      let from = from_map (setting spot.component way) (of_orientation flip pairs) s c in
      let pair = from.0 in
      let first = beside_first (lone []) (leaves spot.typ) vs pair (from_filter (λ both. is_turned flip both.0) pairs pair from.1).0 in
      let met : same_leaf (setting spot.component way pair).leaf leaf ≡ true = ap (λ (t : Setting). same_leaf t.leaf leaf) from.2 ∙ e in
      let parts = both_true (spot.component == leaf.component) (same_way (way ++ pair.0.path) leaf.way) met in
      let big = inside.1 way at pair.0 first in
      let same : pair.0.typ ≡ part.typ =
      sym big.3 ∙ one big.0 (subst (λ n. Contains (leaves (scene.types n)) big.0) (same_number spot.component leaf.component parts.0) big.1) (big.2 ∙ way_is (way ++ pair.0.path) leaf.way parts.1) in
      subst (IsFit part) (ap (λ (t : Setting). t.integer) from.2) (subst (λ t. FitsType t (integer_of (fitted_to pair.0 (integer_of pair.1)))) same (fit_twice pair.0 (integer_of pair.1)))

  at_fit : (flip : Bool) (e : Expr) (vs : List Value) → is_typed known e ≡ true → IsFitting (set_at flip (spot_of scene e) vs)
  at_fit flip e vs t = by (spot_of scene e) refl
    where
      by : (o : Option Spot) → spot_of scene e ≡ o → IsFitting (set_at flip o vs)
      by None is = λ s c. absurd (let below = c.1 in omega arith)
      by (Some spot) is = along_fit flip spot spot.way vs refl (reference_inside known scene fits e spot is t)

  abbrev arm_effect : Arm → Bool × Effect
  arm_effect = fold-Arm Effect (Bool × Effect) (drives.of_stmt scene leaf) (drives.of_arm scene leaf)

  abbrev typed_arm : Arm → Bool
  typed_arm = fold-Arm Bool Bool (kinds.of_stmt known) (kinds.of_arm known)

  abbrev Keeps : Effect → Type 0
  Keeps f = (last : Option ℤ) → FitsIn last → FitsIn (f last)

  abbrev Leaves : Stmt → Type 0
  Leaves s = is_typed_stmt known s ≡ true → Keeps (effect scene leaf s)

  abbrev ArmLeaves : Arm → Type 0
  ArmLeaves a = typed_arm a ≡ true → Keeps (arm_effect a).1

  turn_fit : (ps : List ((s : Stmt) × Leaves s)) → list_all (λ b. b) (map (is_typed_stmt known) (map (λ e. e.0) ps)) ≡ true → Keeps (in_turn (map (effect scene leaf) (map (λ e. e.0) ps)))
  turn_fit [] h last f = f
  turn_fit (p ∷ ps) h last f =
      let b = both_true (is_typed_stmt known p.0) (list_all (λ b. b) (map (is_typed_stmt known) (map (λ e. e.0) ps))) h in
      turn_fit ps b.1 (effect scene leaf p.0 last) (p.1 b.0 last f)

  either_keeps : (b : Bool) (f g : Effect) → Keeps f → Keeps g → Keeps (if b then f else g)
  either_keeps true f g h k = h
  either_keeps false f g h k = k

  first_fit : (ps : List ((a : Arm) × ArmLeaves a)) (other : Effect) → list_all (λ b. b) (map typed_arm (map (λ e. e.0) ps)) ≡ true → Keeps other → Keeps (first_holding (map arm_effect (map (λ e. e.0) ps)) other)
  first_fit [] other h k = k
  first_fit (p ∷ ps) other h k =
      let b = both_true (typed_arm p.0) (list_all (λ b. b) (map typed_arm (map (λ e. e.0) ps))) h in
      either_keeps (arm_effect p.0).0 (arm_effect p.0).1 (first_holding (map arm_effect (map (λ e. e.0) ps)) other) (p.1 b.0) (first_fit ps other b.1 k)

  leaves_at : (z : Stmt-F Stmt Arm)
      → (kinds.of_stmt known (map-Stmt Stmt Arm Bool Bool (is_typed_stmt known) typed_arm z) ≡ true → Keeps (drives.of_stmt scene leaf (map-Stmt Stmt Arm Effect (Bool × Effect) (effect scene leaf) arm_effect z)))
      → Leaves (roll-Stmt z)
  leaves_at z h e =
      subst Keeps (sym (fold-roll-Stmt Effect (Bool × Effect) (drives.of_stmt scene leaf) (drives.of_arm scene leaf) z))
      (h (sym (fold-roll-Stmt Bool Bool (kinds.of_stmt known) (kinds.of_arm known) z) ∙ e))

  statement_case : (y : Stmt-F ((s : Stmt) × Leaves s) ((a : Arm) × ArmLeaves a)) → Leaves (roll-Stmt (map-Stmt _ _ Stmt Arm (λ e. e.0) (λ e. e.0) y))
  statement_case (Stmt-F.Wire name typ) = leaves_at (Stmt-F.Wire name typ) (λ h last f. f)
  statement_case (Stmt-F.Reg name typ clock) = leaves_at (Stmt-F.Reg name typ clock) (λ h last f. f)
  statement_case (Stmt-F.RegReset name typ clock reset init) = leaves_at (Stmt-F.RegReset name typ clock reset init) (λ h last f. f)
  statement_case (Stmt-F.Mem memory) = leaves_at (Stmt-F.Mem memory) (λ h last f. f)
  statement_case (Stmt-F.Inst name target) = leaves_at (Stmt-F.Inst name target) (λ h last f. f)
  statement_case (Stmt-F.Node name expr) = leaves_at (Stmt-F.Node name expr) (λ h last f. f)
  statement_case (Stmt-F.Skip place) = leaves_at (Stmt-F.Skip place) (λ h last f. f)
  statement_case (Stmt-F.Connect left right) = leaves_at (Stmt-F.Connect left right) (λ h last f.
      let a = both_true (is_typed known left) (is_typed known right && both_match (named_type known left) (named_type known right)) h in
      let b = both_true (is_typed known right) (both_match (named_type known left) (named_type known right)) a.1 in
      left_fit (set_by_connect scene left right) last
      (together (set_at false (spot_of scene left) (value right scene)) (set_at true (spot_of scene right) (value left scene)) (at_fit false left (value right scene) a.0) (at_fit true right (value left scene) b.0)) f)
  statement_case (Stmt-F.Invalidate target) = leaves_at (Stmt-F.Invalidate target) (λ h last f.
      left_fit (set_by_invalidate scene target) last (together (set_at false (spot_of scene target) []) (set_at true (spot_of scene target) []) (at_fit false target [] h) (at_fit true target [] h)) f)
  statement_case (Stmt-F.When arms other) = leaves_at (Stmt-F.When (map (λ e. e.0) arms) (map (λ e. e.0) other)) (λ h.
      let xs : List Arm = map (λ e. e.0) arms in
      let ys : List Stmt = map (λ e. e.0) other in
      let b = both_true (list_all (λ b. b) (map typed_arm xs)) (list_all (λ b. b) (map (is_typed_stmt known) ys)) h in
      first_fit arms (in_turn (map (effect scene leaf) ys)) b.0 (turn_fit other b.1))

  arm_case : (y : Arm-F ((s : Stmt) × Leaves s) ((a : Arm) × ArmLeaves a)) → ArmLeaves (roll-Arm (map-Arm _ _ Stmt Arm (λ e. e.0) (λ e. e.0) y))
  arm_case y e =
      let z : Arm-F Stmt Arm = map-Arm _ _ Stmt Arm (λ e. e.0) (λ e. e.0) y in
      let b = both_true (is_condition known z.condition) (list_all (λ b. b) (map (is_typed_stmt known) z.body)) (sym (fold-roll-Arm Bool Bool (kinds.of_stmt known) (kinds.of_arm known) z) ∙ e) in
      subst (λ (p : Bool × Effect). Keeps p.1) (sym (fold-roll-Arm Effect (Bool × Effect) (drives.of_stmt scene leaf) (drives.of_arm scene leaf) z)) (turn_fit y.body b.1)

  leaves_of : (s : Stmt) → Leaves s
  leaves_of = ind-Stmt Leaves ArmLeaves (λ x y is. subst (λ z. Leaves (roll-Stmt z)) is (statement_case y)) (λ x y is. subst (λ z. ArmLeaves (roll-Arm z)) is (arm_case y))

  abbrev with_leaves : (ss : List Stmt) → List ((s : Stmt) × Leaves s)
  with_leaves [] = []
  with_leaves (s ∷ ss) = (s, leaves_of s) ∷ with_leaves ss

  with_leaves_same : (ss : List Stmt) → map (λ e. e.0) (with_leaves ss) ≡ ss
  with_leaves_same [] = refl
  with_leaves_same (s ∷ ss) = ap (λ l. s ∷ l) (with_leaves_same ss)

  -- What a well typed block leaves in the leaf is fitted to it.
  pub block_fits : (block : List Stmt) → are_typed known block ≡ true → FitsIn (drives.drives scene leaf block)
  block_fits block h =
      subst (λ (l : List Stmt). FitsIn (in_turn (map (effect scene leaf) l) None)) (with_leaves_same block)
      (turn_fit (with_leaves block) (ap (are_typed known) (with_leaves_same block) ∙ h) None (λ n is. absurd (none_some is)))
