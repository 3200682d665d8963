-- What a statement leaves of a driver depends on what was known before it only where it doesn't drive the leaf.
use Rattle.std.proofs.Common.{◌≡◌, Bool, true, false, List, [], ◌∷◌, map, zip, Option, Some, None, if◌then◌else◌, refl, sym, ap, ◌∙◌, subst, arith}
use Rattle.std.specs.Prelude.{⊤}
use Rattle.std.proofs.lemmas.Grind.{common_steps}
use Rattle.fir_types.specs.declared.leaf.TypeLeaf.{TypeLeaf}
use Rattle.fir_types.specs.Leaves.{leaves}
use Rattle.fir_tree.specs.declared.expr.Expr.{Expr}
use Rattle.fir_tree.specs.declared.stmt.Stmt.{Stmt, ind-Stmt, the_lemmas as stmt_lemmas}
use Rattle.fir_tree.specs.declared.stmt.Stmt.TheOpen.{Stmt-F}
use Rattle.fir_tree.specs.declared.stmt.Stmt.TheFolds.{map-Stmt, fold-roll-Stmt}
use Rattle.fir_tree.specs.declared.stmt.Stmt.TheViews.{roll-Stmt}
use Rattle.fir_tree.specs.declared.stmt.Stmt.TheVariants as stmt
use Rattle.fir_tree.specs.declared.stmt.Arm.{Arm}
use Rattle.fir_meaning.specs.Components.{Leaf}
use Rattle.fir_meaning.specs.Mentions.{Scope, Region, region_of}
use Rattle.fir_meaning.specs.Certain.{may_be, may_name}
use Rattle.fir_meaning.specs.ClockRoot.{Driver, Undriven, No_driver, From, in_branch, last_of, source_at, source_for, named_leaves, driven_by, driver_in, of_stmt, of_arm}
use Rattle.clock_check.specs.Driving.{connected, invalidated, linked, arm_driven}

abbrev pub later : Driver → Driver → Driver
later Undriven last = last
later No_driver last = No_driver
later (From leaf) last = From leaf

later_later : (a b c : Driver) → later a (later b c) ≡ later (later a b) c
later_later Undriven b c = refl
later_later No_driver b c = refl
later_later (From leaf) b c = refl

-- Branches

pub branch_branch : (last x y : Driver) → in_branch (in_branch last x) y ≡ in_branch last (later y x)
branch_branch last x Undriven = refl
branch_branch last x No_driver = refl
branch_branch last x (From leaf) = refl

branch_later : (x last : Driver) → in_branch last x ≡ later (in_branch Undriven x) last
branch_later Undriven last = refl
branch_later No_driver last = refl
branch_later (From leaf) last = refl

-- Sources

linked_later : (flip : Bool) (region : Region) (leaf : Leaf) (both : List (TypeLeaf × Leaf)) (d last : Driver) → ((x : Driver) → d ≡ later d x) → linked flip region leaf d both ≡ later (linked flip region leaf d both) last
linked_later flip region leaf [] d last h = h last
linked_later flip region leaf (x ∷ both) d last h =
    by (may_be flip region leaf x.0) (linked_later flip region leaf both (From x.1) last (λ y. refl)) (linked_later flip region leaf both d last h)
  where
    by : (b : Bool) → linked flip region leaf (From x.1) both ≡ later (linked flip region leaf (From x.1) both) last → linked flip region leaf d both ≡ later (linked flip region leaf d both) last
        → linked flip region leaf (if b then From x.1 else d) both ≡ later (linked flip region leaf (if b then From x.1 else d) both) last
    by true one other = one
    by false one other = other

source_later : (flip : Bool) (leaf : Leaf) (o : Option Region) (sources : List Leaf) (last : Driver) → source_for flip leaf o sources ≡ later (source_for flip leaf o sources) last
source_later flip leaf None sources last = refl
source_later flip leaf (Some region) sources last = by region.dynamic
  where
    by : (b : Bool) → (if b then No_driver else source_at flip leaf region sources) ≡ later (if b then No_driver else source_at flip leaf region sources) last
    by true = refl
    by false = linked_later flip region leaf (zip (leaves region.typ) sources) No_driver last (λ y. refl)

connected_later : (types : Scope) (leaf : Leaf) (left right : Expr) (last : Driver) → connected types leaf left right last ≡ later (connected types leaf left right Undriven) last
connected_later types leaf left right last = by (may_name false (region_of types left) leaf) (may_name true (region_of types right) leaf)
  where
    L : Driver
    L = source_for false leaf (region_of types left) (named_leaves types right)

    R : Driver
    R = source_for true leaf (region_of types right) (named_leaves types left)

    by : (a b : Bool) → (if a then L else if b then R else last) ≡ later (if a then L else if b then R else Undriven) last
    by true b = source_later false leaf (region_of types left) (named_leaves types right) last
    by false true = source_later true leaf (region_of types right) (named_leaves types left) last
    by false false = refl

invalidated_later : (types : Scope) (leaf : Leaf) (target : Expr) (last : Driver) → invalidated types leaf target last ≡ later (invalidated types leaf target Undriven) last
invalidated_later types leaf target last = by (may_name false (region_of types target) leaf) (may_name true (region_of types target) leaf)
  where
    by : (a b : Bool) → (if a then No_driver else if b then No_driver else last) ≡ later (if a then No_driver else if b then No_driver else Undriven) last
    by true b = refl
    by false true = refl
    by false false = refl

-- Statements

pub driven-connect : (types : Scope) (leaf : Leaf) (left right : Expr) (last : Driver) → driven_by types leaf (stmt.Connect left right) last ≡ connected types leaf left right last
driven-connect types leaf left right last = grind (arith, common_steps, stmt_lemmas)

pub driven-invalidate : (types : Scope) (leaf : Leaf) (target : Expr) (last : Driver) → driven_by types leaf (stmt.Invalidate target) last ≡ invalidated types leaf target last
driven-invalidate types leaf target last = grind (arith, common_steps, stmt_lemmas)

pub driven-when : (types : Scope) (leaf : Leaf) (arms : List Arm) (other : List Stmt) (last : Driver)
    → driven_by types leaf (stmt.When arms other) last ≡ in_branch last (last_of (map (driven_by types leaf) other) (last_of (map (arm_driven types leaf) arms) Undriven))
driven-when types leaf arms other last = grind (arith, common_steps, stmt_lemmas)

pub arm_is : (types : Scope) (leaf : Leaf) (a : Arm) → arm_driven types leaf a ≡ last_of (map (driven_by types leaf) a.body)
arm_is types leaf a = grind (arith, common_steps, stmt_lemmas)

abbrev Absorbs : (Driver → Driver) → Type 0
Absorbs f = (last : Driver) → f last ≡ later (f Undriven) last

abbrev StatementAbsorbs : Stmt → Type 0
StatementAbsorbs s = (types : Scope) (leaf : Leaf) → Absorbs (driven_by types leaf s)

abbrev ArmStands : Arm → Type 0
ArmStands a = ⊤

absorbs_at : (z : Stmt-F Stmt Arm)
    → ((types : Scope) (leaf : Leaf) → Absorbs (of_stmt types leaf (map-Stmt Stmt Arm (Driver → Driver) (Driver → Driver) (driven_by types leaf) (arm_driven types leaf) z))) → StatementAbsorbs (roll-Stmt z)
absorbs_at z h types leaf = subst Absorbs (sym (fold-roll-Stmt (Driver → Driver) (Driver → Driver) (of_stmt types leaf) (of_arm types leaf) z)) (h types leaf)

statement_case : (y : Stmt-F ((s : Stmt) × StatementAbsorbs s) ((a : Arm) × ArmStands a)) → StatementAbsorbs (roll-Stmt (map-Stmt _ _ Stmt Arm (λ e. e.0) (λ e. e.0) y))
statement_case (Stmt-F.Wire name typ) = absorbs_at (Stmt-F.Wire name typ) (λ types leaf last. refl)
statement_case (Stmt-F.Reg name typ clock) = absorbs_at (Stmt-F.Reg name typ clock) (λ types leaf last. refl)
statement_case (Stmt-F.RegReset name typ clock reset init) = absorbs_at (Stmt-F.RegReset name typ clock reset init) (λ types leaf last. refl)
statement_case (Stmt-F.Mem memory) = absorbs_at (Stmt-F.Mem memory) (λ types leaf last. refl)
statement_case (Stmt-F.Inst name target) = absorbs_at (Stmt-F.Inst name target) (λ types leaf last. refl)
statement_case (Stmt-F.Node name expr) = absorbs_at (Stmt-F.Node name expr) (λ types leaf last. refl)
statement_case (Stmt-F.Skip place) = absorbs_at (Stmt-F.Skip place) (λ types leaf last. refl)
statement_case (Stmt-F.Connect left right) = absorbs_at (Stmt-F.Connect left right) (λ types leaf last. connected_later types leaf left right last)
statement_case (Stmt-F.Invalidate target) = absorbs_at (Stmt-F.Invalidate target) (λ types leaf last. invalidated_later types leaf target last)
statement_case (Stmt-F.When arms other) = absorbs_at (Stmt-F.When (map (λ e. e.0) arms) (map (λ e. e.0) other))
    (λ types leaf last. branch_later (last_of (map (driven_by types leaf) (map (λ e. e.0) other)) (last_of (map (arm_driven types leaf) (map (λ e. e.0) arms)) Undriven)) last)

statement_absorbs : (s : Stmt) → StatementAbsorbs s
statement_absorbs = ind-Stmt StatementAbsorbs ArmStands
    (λ x y is. subst (λ z. StatementAbsorbs (roll-Stmt z)) is (statement_case y))
    (λ x y is. tt)

-- a block
pub block_absorbs : (types : Scope) (leaf : Leaf) (block : List Stmt) (last : Driver) → last_of (map (driven_by types leaf) block) last ≡ later (driver_in types leaf block) last
block_absorbs types leaf [] last = refl
block_absorbs types leaf (s ∷ block) last =
    let f : Driver → Driver = driven_by types leaf s in
    block_absorbs types leaf block (f last) ∙ ap (later (driver_in types leaf block)) (statement_absorbs s types leaf last)
    ∙ later_later (driver_in types leaf block) (f Undriven) last ∙ ap (λ d. later d last) (sym (block_absorbs types leaf block (f Undriven)))
