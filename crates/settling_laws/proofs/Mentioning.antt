-- What the live connects of well typed statements mention, where what well typed expressions mention has a property.
use Rattle.std.proofs.Common.{◌≡◌, ℕ, zero, suc, Bool, true, false, ◌&&◌, List, [], ◌∷◌, ◌++◌, map, filter_map, Option, Some, None, refl, sym, ap, ◌∙◌, subst, arith, true≢false, if◌then◌else◌, ⊎_elim}
use Rattle.std.specs.Prelude.{Contains}
use Rattle.std.specs.List.{list_any, list_all}
use Rattle.std.proofs.lemmas.Grind.{common_steps}
use Rattle.std.proofs.lemmas.List.Concat.{flat_map-cons}
use Rattle.std.proofs.lemmas.List.Elements.{Contains-append_left, Contains-append_right, Contains-append_cases}
use Rattle.fir_types.specs.declared.leaf.TypeLeaf.{TypeLeaf}
use Rattle.fir_types.specs.Leaves.{leaves}
use Rattle.fir_tree.specs.declared.expr.Expr.{Expr, the_lemmas as expr_lemmas}
use Rattle.fir_tree.specs.declared.expr.Form.{Form, fold-Form}
use Rattle.fir_tree.specs.declared.expr.Suffix.{Suffix}
use Rattle.fir_tree.specs.declared.expr.Form.TheOpen.{Form-F}
use Rattle.fir_tree.specs.declared.expr.Form.TheFolds.{map-Form}
use Rattle.fir_tree.specs.declared.expr.Form.TheViews.{out-Form}
use Rattle.fir_tree.specs.declared.stmt.Stmt.{Stmt, ind-Stmt}
use Rattle.fir_tree.specs.declared.stmt.Arm.{Arm, fold-Arm}
use Rattle.fir_tree.specs.declared.stmt.Stmt.TheOpen.{Stmt-F, Arm-F}
use Rattle.fir_tree.specs.declared.stmt.Stmt.TheFolds.{map-Stmt, map-Arm, fold-roll-Stmt, fold-roll-Arm}
use Rattle.fir_tree.specs.declared.stmt.Stmt.TheViews.{roll-Stmt, roll-Arm}
use Rattle.prim_ops.specs.Shapes.{Shape}
use Rattle.fir_meaning.specs.Components.{Leaf}
use Rattle.fir_meaning.specs.Values.{beside}
use Rattle.fir_meaning.specs.Mentions as mention
use Rattle.fir_meaning.specs.Mentions.{Scope, Region, InScope, Onward, joined, mentions, suffix_onward, leaves_at, whole_region, region_of, region_of_form}
use Rattle.fir_meaning.specs.Certain.{may_be}
use Rattle.fir_meaning.specs.Loops as loop
use Rattle.fir_meaning.specs.Loops.{Driving, DrivingArm, Mentioned, driving, driven_from, live, live_from, crossing, through_arms}
use Rattle.fir_meaning.specs.WellTyped as kinds
use Rattle.fir_meaning.specs.WellTyped.{Known, typed, is_typed, is_condition, is_one_unsigned, is_typed_stmt, are_typed, named_type, both_match}
use Rattle.fir_meaning.proofs.Covering.{joined-append}
use Rattle.fir_meaning.proofs.Ports.{one_later, from_flat_map, from_filter_map}
use Rattle.fir_meaning.proofs.Tracking.{none_some, some_same, Contains-map, Contains-flat_map}

both_true : (p q : Bool) → (p && q) ≡ true → (p ≡ true) × (q ≡ true)
both_true true q e = (refl, e)
both_true false q e = absurd (true≢false (sym e))

-- a condition is well typed
pub condition_typed : (o : Option (List Shape)) → is_one_unsigned o ≡ true → Rattle.std.specs.Prelude.is_some o ≡ true
condition_typed (Some ss) e = refl
condition_typed None e = absurd (true≢false (sym e))

-- Each leaf with what stands beside it

beside_in : (ls : List TypeLeaf) (sources : List Mentioned) (both : TypeLeaf × Mentioned) → Contains (beside [] ls sources) both → Contains ls both.0 × ((y : Leaf) → Contains both.1 y → Contains (joined sources) y)
beside_in [] sources both (k, below, is) = absurd (omega arith)
beside_in (l ∷ ls) [] both (zero, below, is) = (
  subst (λ (b : TypeLeaf × Mentioned). Contains (l ∷ ls) b.0) is (0, omega arith, refl),
  subst (λ (b : TypeLeaf × Mentioned). (y : Leaf) → Contains b.1 y → Contains (joined []) y) is (λ y c. c),
)
beside_in (l ∷ ls) [] both (suc k, below, is) =
    let rest = beside_in ls [] both (k, omega (arith, below), is) in
    (one_later l ls both.0 rest.0, rest.1)
beside_in (l ∷ ls) (s ∷ sources) both (zero, below, is) = (
  subst (λ (b : TypeLeaf × Mentioned). Contains (l ∷ ls) b.0) is (0, omega arith, refl),
  subst (λ (b : TypeLeaf × Mentioned). (y : Leaf) → Contains b.1 y → Contains (joined (s ∷ sources)) y) is
      (λ y c. subst (λ j. Contains j y) (sym (flat_map-cons (λ leaves. leaves) s sources)) (Contains-append_left s (joined sources) y c)),
)
beside_in (l ∷ ls) (s ∷ sources) both (suc k, below, is) =
    let rest = beside_in ls sources both (k, omega (arith, below), is) in (
      one_later l ls both.0 rest.0,
      λ y c. subst (λ j. Contains j y) (sym (flat_map-cons (λ leaves. leaves) s sources)) (Contains-append_right s (joined sources) y (rest.1 y c)),
    )

taken_is : (t : Bool) (l x : Mentioned) → (if t then Some l else None) ≡ Some x → l ≡ x
taken_is true l x e = some_same l x e
taken_is false l x e = absurd (none_some e)

-- What a reference mentions

abbrev form_mentions : Form → InScope
form_mentions = fold-Form InScope Onward InScope mention.of_form mention.of_suffix mention.of_expr

mentions_out : (e : Expr) → mentions e ≡ mention.of_form (map-Form Form Suffix Expr InScope Onward InScope form_mentions suffix_onward mentions (out-Form e.form))
mentions_out e = grind (arith, common_steps, expr_lemmas)

form_reads : (types : Scope) (f : Form-F Form Suffix Expr) (region : Region) → region_of_form types f ≡ Some region
    → mention.of_form (map-Form Form Suffix Expr InScope Onward InScope form_mentions suffix_onward mentions f) types ≡ map (λ leaf. region.indices ++ leaves_at region leaf.path) (leaves region.typ)
form_reads types (Form-F.Ref name suffixes) region e = ap (λ (r : Region). map (λ leaf. r.indices ++ leaves_at r leaf.path) (leaves r.typ)) (some_same _ region e)
form_reads types (Form-F.Literal kind width n) region e = absurd (none_some e)
form_reads types (Form-F.Prim prim operands params) region e = absurd (none_some e)
form_reads types (Form-F.Mux operands) region e = absurd (none_some e)

reference_reads : (types : Scope) (e : Expr) (region : Region) → region_of types e ≡ Some region → mentions e types ≡ map (λ leaf. region.indices ++ leaves_at region leaf.path) (leaves region.typ)
reference_reads types e region is = ap (λ f. f types) (mentions_out e) ∙ form_reads types (out-Form e.form) region is

module _ (P : Leaf → Type 0) where
  abbrev pub AllOf : List Leaf → Type 0
  AllOf ls = (y : Leaf) → Contains ls y → P y

  all_none : AllOf []
  all_none = λ y c. absurd (let below = c.1 in omega arith)

  all_append : (xs ys : List Leaf) → AllOf xs → AllOf ys → AllOf (xs ++ ys)
  all_append xs ys a b = λ y c. ⊎_elim (λ l. a y l) (λ r. b y r) (Contains-append_cases xs ys y c)

  join_append : (xs ys : List Mentioned) → AllOf (joined xs) → AllOf (joined ys) → AllOf (joined (xs ++ ys))
  join_append xs ys a b = subst AllOf (sym (joined-append xs ys)) (all_append (joined xs) (joined ys) a b)

  join_cons : (x : Mentioned) (xs : List Mentioned) → AllOf x → AllOf (joined xs) → AllOf (joined (x ∷ xs))
  join_cons x xs a b = subst AllOf (sym (flat_map-cons (λ leaves. leaves) x xs)) (all_append x (joined xs) a b)

  join_first : (x : Mentioned) (xs : List Mentioned) → AllOf (joined (x ∷ xs)) → AllOf x
  join_first x xs a = λ y c. a y (subst (λ j. Contains j y) (sym (flat_map-cons (λ leaves. leaves) x xs)) (Contains-append_left x (joined xs) y c))

  join_rest : (x : Mentioned) (xs : List Mentioned) → AllOf (joined (x ∷ xs)) → AllOf (joined xs)
  join_rest x xs a = λ y c. a y (subst (λ j. Contains j y) (sym (flat_map-cons (λ leaves. leaves) x xs)) (Contains-append_right x (joined xs) y c))

  crossed : (conditions : Mentioned) (ls : List Mentioned) → AllOf conditions → AllOf (joined ls) → AllOf (joined (crossing conditions ls))
  crossed conditions [] a b = all_none
  crossed conditions (l ∷ ls) a b = join_cons (conditions ++ l) (crossing conditions ls) (all_append conditions l a (join_first l ls b)) (crossed conditions ls a (join_rest l ls b))

  either_live : (b : Bool) (l : List Mentioned) → AllOf (joined l) → AllOf (joined (if b then [] else l))
  either_live true l h = all_none
  either_live false l h = h

  -- what a part of a region is driven from
  of_region : (flip : Bool) (leaf : Leaf) (region : Region) (sources : List Mentioned) → ((part : TypeLeaf) → Contains (leaves region.typ) part → AllOf region.indices) → AllOf (joined sources)
      → AllOf (joined (driven_from flip leaf sources (Some region)))
  of_region flip leaf region sources indexed h = λ y c.
      let pairs = beside [] (leaves region.typ) sources in
      let test : TypeLeaf × Mentioned → Option Mentioned = λ both. if may_be flip region leaf both.0 then Some (region.indices ++ both.1) else None in
      let list = from_flat_map (λ (ls : Mentioned). ls) (filter_map test pairs) y c in
      let pair = from_filter_map test pairs list.0 list.1 in
      let part = beside_in (leaves region.typ) sources pair.0 pair.1 in
      let among : Contains (region.indices ++ pair.0.1) y = subst (λ l. Contains l y) (sym (taken_is (may_be flip region leaf pair.0.0) (region.indices ++ pair.0.1) list.0 pair.2)) list.2 in
      ⊎_elim (λ index. indexed pair.0.0 part.0 y index) (λ source. h y (part.1 y source)) (Contains-append_cases region.indices pair.0.1 y among)

  -- What a whole component is driven from.
  pub whole_reads : (leaf : Leaf) (types : Scope) (component : ℕ) (sources : List Mentioned) → AllOf (joined sources) → AllOf (joined (driven_from false leaf sources (Some (whole_region types component))))
  whole_reads leaf types component sources h = of_region false leaf (whole_region types component) sources (λ part there. all_none) h

  module _ (known : Known) (types : Scope) (said : (e : Expr) → is_typed known e ≡ true → AllOf (joined (mentions e types))) (leaf : Leaf) where
    abbrev arm_live : Arm → DrivingArm
    arm_live = fold-Arm Driving DrivingArm (loop.of_stmt types leaf) (loop.of_arm types leaf)

    abbrev typed_arm : Arm → Bool
    typed_arm = fold-Arm Bool Bool (kinds.of_stmt known) (kinds.of_arm known)

    -- one side of a connect
    side : (flip : Bool) (e : Expr) (sources : List Mentioned) → is_typed known e ≡ true → AllOf (joined sources) → AllOf (joined (driven_from flip leaf sources (region_of types e)))
    side flip e sources t h = by (region_of types e) refl
      where
        by : (o : Option Region) → region_of types e ≡ o → AllOf (joined (driven_from flip leaf sources o))
        by None is = all_none
        by (Some region) is =
            let reads : TypeLeaf → Mentioned = λ l. region.indices ++ leaves_at region l.path in
            of_region flip leaf region sources (λ part there y index.
            said e t y (subst (λ ms. Contains (joined ms) y) (sym (reference_reads types e region is))
            (Contains-flat_map (λ (ls : Mentioned). ls) (map reads (leaves region.typ)) (reads part) y (Contains-map reads (leaves region.typ) part there)
            (Contains-append_left region.indices (leaves_at region part.path) y index)))) h

    abbrev Reads : Stmt → Type 0
    Reads s = is_typed_stmt known s ≡ true → AllOf (joined (driving types leaf s).live)

    abbrev ArmReads : Arm → Type 0
    ArmReads a = typed_arm a ≡ true → AllOf (arm_live a).condition × AllOf (joined (arm_live a).live)

    reads_in : (ps : List ((s : Stmt) × Reads s)) → list_all (λ b. b) (map (is_typed_stmt known) (map (λ e. e.0) ps)) ≡ true → AllOf (joined (live_from (map (driving types leaf) (map (λ e. e.0) ps))))
    reads_in [] h = all_none
    reads_in (p ∷ ps) h =
        let b = both_true (is_typed_stmt known p.0) (list_all (λ b. b) (map (is_typed_stmt known) (map (λ e. e.0) ps))) h in
        let later : List Driving = map (driving types leaf) (map (λ e. e.0) ps) in
        join_append (if list_any (λ t. t.certain) later then [] else (driving types leaf p.0).live) (live_from later) (either_live (list_any (λ t. t.certain) later) (driving types leaf p.0).live (p.1 b.0)) (reads_in ps b.1)

    arms_read : (ps : List ((a : Arm) × ArmReads a)) (conditions : Mentioned) (other : List Mentioned) → list_all (λ b. b) (map typed_arm (map (λ e. e.0) ps)) ≡ true → AllOf conditions → AllOf (joined other)
        → AllOf (joined (through_arms conditions (map arm_live (map (λ e. e.0) ps)) other))
    arms_read [] conditions other h a o = crossed conditions other a o
    arms_read (p ∷ ps) conditions other h a o =
        let b = both_true (typed_arm p.0) (list_all (λ b. b) (map typed_arm (map (λ e. e.0) ps))) h in
        let arm = arm_live p.0 in
        let all : AllOf (conditions ++ arm.condition) = all_append conditions arm.condition a (p.1 b.0).0 in
        join_append (crossing (conditions ++ arm.condition) arm.live) (through_arms (conditions ++ arm.condition) (map arm_live (map (λ e. e.0) ps)) other)
        (crossed (conditions ++ arm.condition) arm.live all (p.1 b.0).1) (arms_read ps (conditions ++ arm.condition) other b.1 all o)

    reads_at : (z : Stmt-F Stmt Arm)
        → (kinds.of_stmt known (map-Stmt Stmt Arm Bool Bool (is_typed_stmt known) typed_arm z) ≡ true → AllOf (joined (loop.of_stmt types leaf (map-Stmt Stmt Arm Driving DrivingArm (driving types leaf) arm_live z)).live))
        → Reads (roll-Stmt z)
    reads_at z h e =
        subst (λ (d : Driving). AllOf (joined d.live)) (sym (fold-roll-Stmt Driving DrivingArm (loop.of_stmt types leaf) (loop.of_arm types leaf) z))
        (h (sym (fold-roll-Stmt Bool Bool (kinds.of_stmt known) (kinds.of_arm known) z) ∙ e))

    statement_case : (y : Stmt-F ((s : Stmt) × Reads s) ((a : Arm) × ArmReads a)) → Reads (roll-Stmt (map-Stmt _ _ Stmt Arm (λ e. e.0) (λ e. e.0) y))
    statement_case (Stmt-F.Wire name typ) = reads_at (Stmt-F.Wire name typ) (λ h. all_none)
    statement_case (Stmt-F.Reg name typ clock) = reads_at (Stmt-F.Reg name typ clock) (λ h. all_none)
    statement_case (Stmt-F.RegReset name typ clock reset init) = reads_at (Stmt-F.RegReset name typ clock reset init) (λ h. all_none)
    statement_case (Stmt-F.Mem memory) = reads_at (Stmt-F.Mem memory) (λ h. all_none)
    statement_case (Stmt-F.Inst name target) = reads_at (Stmt-F.Inst name target) (λ h. all_none)
    statement_case (Stmt-F.Node name expr) = reads_at (Stmt-F.Node name expr) (λ h. all_none)
    statement_case (Stmt-F.Skip place) = reads_at (Stmt-F.Skip place) (λ h. all_none)
    statement_case (Stmt-F.Connect left right) = reads_at (Stmt-F.Connect left right) (λ h.
        let a = both_true (is_typed known left) (is_typed known right && both_match (named_type known left) (named_type known right)) h in
        let b = both_true (is_typed known right) (both_match (named_type known left) (named_type known right)) a.1 in
        join_append (driven_from false leaf (mentions right types) (region_of types left)) (driven_from true leaf (mentions left types) (region_of types right))
        (side false left (mentions right types) a.0 (said right b.0)) (side true right (mentions left types) b.0 (said left a.0)))
    statement_case (Stmt-F.Invalidate target) = reads_at (Stmt-F.Invalidate target) (λ h.
        join_append (driven_from false leaf [] (region_of types target)) (driven_from true leaf [] (region_of types target)) (side false target [] h all_none) (side true target [] h all_none))
    statement_case (Stmt-F.When arms other) = reads_at (Stmt-F.When (map (λ e. e.0) arms) (map (λ e. e.0) other)) (λ h.
        let xs : List Arm = map (λ e. e.0) arms in
        let ys : List Stmt = map (λ e. e.0) other in
        let b = both_true (list_all (λ b. b) (map typed_arm xs)) (list_all (λ b. b) (map (is_typed_stmt known) ys)) h in
        arms_read arms [] (live_from (map (driving types leaf) ys)) b.0 all_none (reads_in other b.1))

    arm_case : (y : Arm-F ((s : Stmt) × Reads s) ((a : Arm) × ArmReads a)) → ArmReads (roll-Arm (map-Arm _ _ Stmt Arm (λ e. e.0) (λ e. e.0) y))
    arm_case y e =
        let z : Arm-F Stmt Arm = map-Arm _ _ Stmt Arm (λ e. e.0) (λ e. e.0) y in
        let rolled = fold-roll-Arm Driving DrivingArm (loop.of_stmt types leaf) (loop.of_arm types leaf) z in
        let b = both_true (is_condition known z.condition) (list_all (λ b. b) (map (is_typed_stmt known) z.body)) (sym (fold-roll-Arm Bool Bool (kinds.of_stmt known) (kinds.of_arm known) z) ∙ e) in (
          subst (λ (d : DrivingArm). AllOf d.condition) (sym rolled) (said z.condition (condition_typed (typed z.condition known) b.0)),
          subst (λ (d : DrivingArm). AllOf (joined d.live)) (sym rolled) (reads_in y.body b.1),
        )

    reads : (s : Stmt) → Reads s
    reads = ind-Stmt Reads ArmReads (λ x y is. subst (λ z. Reads (roll-Stmt z)) is (statement_case y)) (λ x y is. subst (λ z. ArmReads (roll-Arm z)) is (arm_case y))

    abbrev with_reads : (ss : List Stmt) → List ((s : Stmt) × Reads s)
    with_reads [] = []
    with_reads (s ∷ ss) = (s, reads s) ∷ with_reads ss

    with_reads_same : (ss : List Stmt) → map (λ e. e.0) (with_reads ss) ≡ ss
    with_reads_same [] = refl
    with_reads_same (s ∷ ss) = ap (λ l. s ∷ l) (with_reads_same ss)

    -- What the live connects of a well typed block mention has the property too.
    pub block_reads : (block : List Stmt) → are_typed known block ≡ true → AllOf (joined (live types leaf block))
    block_reads block h =
        subst (λ (l : List Stmt). AllOf (joined (live_from (map (driving types leaf) l)))) (with_reads_same block)
        (reads_in (with_reads block) (ap (are_typed known) (with_reads_same block) ∙ h))
