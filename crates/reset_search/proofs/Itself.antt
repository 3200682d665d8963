-- A circuit without a source resolves to itself.
use Rattle.std.proofs.Common.{arith, ◌≡◌, ℕ, zero, suc, ◌+◌, Bool, true, false, List, [], ◌∷◌, map, Option, Some, None, refl, sym, ap, ap₂, ◌∙◌, subst}
use Rattle.std.specs.Prelude.{◌↔◌, Contains}
use Rattle.fir_types.specs.declared.fir_type.FirType.{FirType}
use Rattle.fir_types.specs.declared.name.Name.{Name}
use Rattle.fir_types.specs.declared.port.Port.{Port}
use Rattle.fir_types.specs.declared.memory.Memory.{Memory}
use Rattle.fir_types.specs.declared.memory.MemLine.{MemLine}
use Rattle.fir_types.specs.declared.memory.MemLine.TheVariants as line
use Rattle.fir_types.specs.Spots.{size}
use Rattle.fir_tree.specs.declared.circuit.Circuit.{Circuit}
use Rattle.fir_tree.specs.declared.circuit.Module.{Module}
use Rattle.fir_tree.specs.declared.expr.Expr.{Expr}
use Rattle.fir_tree.specs.declared.stmt.Stmt.{Stmt, fold-Stmt}
use Rattle.fir_tree.specs.declared.stmt.Arm.{Arm, fold-Arm}
use Rattle.fir_tree.specs.declared.stmt.Stmt.TheOpen.{Stmt-F, Arm-F}
use Rattle.fir_tree.specs.declared.stmt.Stmt.TheFolds.{map-Stmt, map-Arm, ind-Stmt, fold-roll-Stmt, fold-roll-Arm}
use Rattle.fir_tree.specs.declared.stmt.Stmt.TheViews.{roll-Stmt, roll-Arm}
use Rattle.fir_tree.specs.declared.stmt.Stmt.TheVariants as stmt
use Rattle.fir_tree.specs.declared.stmt.Stmt.TheVariants.{rolls-Wire, rolls-Reg, rolls-RegReset, rolls-Mem, rolls-Inst, rolls-Node, rolls-Connect, rolls-Invalidate, rolls-When, rolls-Skip}
use Rattle.reset_search.specs.declared.spot.Spot.{Spot}
use Rattle.reset_search.specs.declared.spot.Spot.TheVariants.{Cast, Declared, OfNode}
use Rattle.reset_search.specs.declared.spot.Feeds.{Feeds}
use Rattle.reset_search.specs.Feeds.{feed, feeds_in, IsReached, begins, onward, ports_count, all_ports}
use Rattle.reset_search.specs.Resolved as resolving
use Rattle.reset_search.specs.Resolved.{Becomes, all_from, in_all, becomes_stmt, resolved, resolved_memory, with_element, resolved_ports, resolved_modules, resolved_circuit, none_reached, IsResolved}
use Rattle.reset_search.specs.Sources.{has_source}
use Rattle.reset_search.proofs.Stays.{type_stays}
use Rattle.reset_search.proofs.Placed.{IsPlace, never_from_cast}
use Rattle.reset_search.proofs.Clean.{NoSource, no_source}

lines_stay : (n : ℕ) (lines : List MemLine) → map (with_element none_reached n) lines ≡ lines
lines_stay n [] = refl
lines_stay n (line.Element at typ ∷ lines) = ap₂ (λ t ls. line.Element at t ∷ ls) (type_stays typ n) (lines_stay n lines)
lines_stay n (line.Depth at d ∷ lines) = ap (λ ls. line.Depth at d ∷ ls) (lines_stay n lines)
lines_stay n (line.ReadLatency at d ∷ lines) = ap (λ ls. line.ReadLatency at d ∷ ls) (lines_stay n lines)
lines_stay n (line.WriteLatency at d ∷ lines) = ap (λ ls. line.WriteLatency at d ∷ ls) (lines_stay n lines)
lines_stay n (line.ReadUnder at u ∷ lines) = ap (λ ls. line.ReadUnder at u ∷ ls) (lines_stay n lines)
lines_stay n (line.MemPort at m name ∷ lines) = ap (λ ls. line.MemPort at m name ∷ ls) (lines_stay n lines)

memory_stays : (n : ℕ) (memory : Memory) → resolved_memory none_reached n memory ≡ memory
memory_stays n memory = ap (λ ls. record { name = memory.name; lines = ls }) (lines_stay n memory.lines)

abbrev becomes_arm : Arm → Becomes Arm
becomes_arm = fold-Arm (Becomes Stmt) (Becomes Arm) (resolving.of_stmt none_reached) (resolving.of_arm none_reached)

abbrev StmtStays : Stmt → Type 0
StmtStays s = (n : ℕ) → (becomes_stmt none_reached s).1 n ≡ s

abbrev ArmStays : Arm → Type 0
ArmStays a = (n : ℕ) → (becomes_arm a).1 n ≡ a

all_stay : (ps : List ((s : Stmt) × StmtStays s)) (n : ℕ) → all_from (map (becomes_stmt none_reached) (map (λ e. e.0) ps)) n ≡ map (λ e. e.0) ps
all_stay [] n = refl
all_stay (p ∷ ps) n = ap₂ (λ x xs. x ∷ xs) (p.1 n) (all_stay ps (n + (becomes_stmt none_reached p.0).0))

arms_stay : (ps : List ((a : Arm) × ArmStays a)) (n : ℕ) → all_from (map becomes_arm (map (λ e. e.0) ps)) n ≡ map (λ e. e.0) ps
arms_stay [] n = refl
arms_stay (p ∷ ps) n = ap₂ (λ x xs. x ∷ xs) (p.1 n) (arms_stay ps (n + (becomes_arm p.0).0))

-- at one layer
at_layer : (z : Stmt-F Stmt Arm) (s : Stmt) → roll-Stmt z ≡ s
    → ((n : ℕ) → (resolving.of_stmt none_reached (map-Stmt Stmt Arm (Becomes Stmt) (Becomes Arm) (becomes_stmt none_reached) becomes_arm z)).1 n ≡ s) → StmtStays (roll-Stmt z)
at_layer z s is h n = ap (λ b. b.1 n) (fold-roll-Stmt (Becomes Stmt) (Becomes Arm) (resolving.of_stmt none_reached) (resolving.of_arm none_reached) z) ∙ h n ∙ sym is

stmt_case : (y : Stmt-F ((s : Stmt) × StmtStays s) ((a : Arm) × ArmStays a)) → StmtStays (roll-Stmt (map-Stmt _ _ Stmt Arm (λ e. e.0) (λ e. e.0) y))
stmt_case (Stmt-F.Wire name typ) = at_layer (Stmt-F.Wire name typ) (stmt.Wire name typ) (rolls-Wire name typ) (λ n. ap (λ t. stmt.Wire name t) (type_stays typ n))
stmt_case (Stmt-F.Reg name typ clock) = at_layer (Stmt-F.Reg name typ clock) (stmt.Reg name typ clock) (rolls-Reg name typ clock) (λ n. ap (λ t. stmt.Reg name t clock) (type_stays typ n))
stmt_case (Stmt-F.RegReset name typ clock reset init) =
    at_layer (Stmt-F.RegReset name typ clock reset init) (stmt.RegReset name typ clock reset init) (rolls-RegReset name typ clock reset init)
    (λ n. ap (λ t. stmt.RegReset name t clock reset init) (type_stays typ n))
stmt_case (Stmt-F.Mem memory) = at_layer (Stmt-F.Mem memory) (stmt.Mem memory) (rolls-Mem memory) (λ n. ap (λ m. stmt.Mem m) (memory_stays n memory))
stmt_case (Stmt-F.Inst name target) = at_layer (Stmt-F.Inst name target) (stmt.Inst name target) (rolls-Inst name target) (λ n. refl)
stmt_case (Stmt-F.Node name e) = at_layer (Stmt-F.Node name e) (stmt.Node name e) (rolls-Node name e) (λ n. refl)
stmt_case (Stmt-F.Connect left right) = at_layer (Stmt-F.Connect left right) (stmt.Connect left right) (rolls-Connect left right) (λ n. refl)
stmt_case (Stmt-F.Invalidate target) = at_layer (Stmt-F.Invalidate target) (stmt.Invalidate target) (rolls-Invalidate target) (λ n. refl)
stmt_case (Stmt-F.Skip place) = at_layer (Stmt-F.Skip place) (stmt.Skip place) (rolls-Skip place) (λ n. refl)
stmt_case (Stmt-F.When arms other) =
    let first : List Arm = map (λ e. e.0) arms in
    let rest : List Stmt = map (λ e. e.0) other in
    at_layer (Stmt-F.When first rest) (stmt.When first rest) (rolls-When first rest)
    (λ n. ap₂ (λ xs ys. stmt.When xs ys) (arms_stay arms n) (all_stay other (n + in_all (map becomes_arm first))))

arm_case : (y : Arm-F ((s : Stmt) × StmtStays s) ((a : Arm) × ArmStays a)) → ArmStays (roll-Arm (map-Arm _ _ Stmt Arm (λ e. e.0) (λ e. e.0) y))
arm_case y n =
    let z : Arm-F Stmt Arm = map-Arm _ _ Stmt Arm (λ e. e.0) (λ e. e.0) y in
    ap (λ b. b.1 n) (fold-roll-Arm (Becomes Stmt) (Becomes Arm) (resolving.of_stmt none_reached) (resolving.of_arm none_reached) z)
    ∙ ap (λ xs. record { condition = y.condition; body = xs }) (all_stay y.body n)

pub stmt_stays : (s : Stmt) → StmtStays s
stmt_stays = ind-Stmt StmtStays ArmStays (λ x y is. subst (λ z. StmtStays (roll-Stmt z)) is (stmt_case y)) (λ x y is. subst (λ z. ArmStays (roll-Arm z)) is (arm_case y))

body_stays : (body : List Stmt) (n : ℕ) → all_from (map (becomes_stmt none_reached) body) n ≡ body
body_stays [] n = refl
body_stays (s ∷ body) n = ap₂ (λ x xs. x ∷ xs) (stmt_stays s n) (body_stays body (n + (becomes_stmt none_reached s).0))

ports_stay : (n : ℕ) (ports : List Port) → resolved_ports none_reached n ports ≡ ports
ports_stay n [] = refl
ports_stay n (port ∷ ports) = ap₂ (λ t ps. record { output = port.output; name = port.name; typ = t } ∷ ps) (type_stays port.typ n) (ports_stay (n + size port.typ) ports)

modules_stay : (p n : ℕ) (modules : List Module) → resolved_modules none_reached p n modules ≡ modules
modules_stay p n [] = refl
modules_stay p n (m ∷ modules) =
    ap₂ (λ (x : Module) xs. x ∷ xs) (ap₂ (λ ps b. record { name = m.name; ports = ps; body = b }) (ports_stay p m.ports) (body_stays m.body n))
    (modules_stay (p + ports_count m.ports) (n + in_all (map (becomes_stmt none_reached) m.body)) modules)

circuit_stays : (circuit : Circuit) → resolved_circuit none_reached circuit ≡ circuit
circuit_stays circuit = ap (λ ms. record { names = circuit.names; main = circuit.main; modules = ms; prints = circuit.prints }) (modules_stay 0 (all_ports circuit.modules) circuit.modules)

-- Nothing but the casts is reached.

first_alone : {x y : Spot} → Contains (x ∷ []) y → y ≡ x
first_alone (zero, below, is) = sym is
first_alone (suc k, below, is) = absurd (omega arith)

only_casts : (all : Feeds) → NoSource all → (p : Spot) → IsReached all p → p ≡ Cast
only_casts all none p (begins c) = first_alone (subst (λ ps. Contains ps p) none.asyncs c)
only_casts all none p (onward {p = from} r c) =
    absurd (never_from_cast all.feeds p none.feeds (subst (λ x. Contains all.feeds (feed x p)) (only_casts all none from r) c))

no_cast : (n : ℕ) → Declared n ≡ Cast → ⊥
no_cast n e = subst IsPlace e tt

never : (n : ℕ) (b : Bool) → b ≡ false → b ≡ true → ⊥
never n true e f = cc
never n false e f = cc

pub stays_itself : (circuit : Circuit) → has_source circuit ≡ false → IsResolved circuit circuit
stays_itself circuit e = record {
  reached = none_reached;
  exact = λ n. (λ f. absurd (never n false refl f), λ r. absurd (no_cast n (only_casts (feeds_in circuit) (no_source circuit e) (Declared n) r)));
  is = sym (circuit_stays circuit);
}
