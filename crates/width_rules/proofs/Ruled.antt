-- All rules of a circuit are over the variables that have places.
use Rattle.std.proofs.Common.{ℕ, ◌+◌, ◌≤◌, Bool, true, false, List, [], ◌∷◌, ◌++◌, map, length, find, option_map, Option, Some, None, ◌==◌, cond, sym, subst, arith, length-append}
use Rattle.std.specs.List.{flat_map}
use Rattle.std.proofs.lemmas.List.{length-replicate}
use Rattle.place_text.specs.declared.place.Place.{Place}
use Rattle.fir_types.specs.declared.port.Port.{Port}
use Rattle.fir_types.specs.declared.memory.Memory.{Memory}
use Rattle.fir_types.specs.declared.memory.MemLine.{MemLine}
use Rattle.fir_types.specs.declared.memory.MemLine.TheVariants as line
use Rattle.fir_types.specs.declared.memory.PortMode.TheVariants as mode
use Rattle.fir_types.specs.Memories.{element_of}
use Rattle.fir_types.specs.Bundles.{mask_of}
use Rattle.fir_tree.specs.declared.circuit.Module.{Module}
use Rattle.fir_tree.specs.declared.stmt.Stmt.{Stmt, roll-Stmt, map-Stmt}
use Rattle.fir_tree.specs.declared.stmt.Arm.{Arm, roll-Arm, map-Arm}
use Rattle.fir_tree.specs.declared.stmt.Stmt.TheOpen.{Stmt-F, Arm-F}
use Rattle.fir_tree.specs.declared.stmt.Stmt.TheFolds.{ind-Stmt, fold-roll-Stmt, fold-roll-Arm}
use Rattle.fir_tree.specs.declared.part.Flow.{Flow}
use Rattle.fir_tree.specs.declared.part.Flow.TheVariants.{Source, Sink, Duplex}
use Rattle.fir_tree.specs.Parts.{flow_through}
use Rattle.width_rules.specs.declared.slot.Slot.{Slot}
use Rattle.width_rules.specs.declared.slot.Slot.TheVariants as slot
use Rattle.width_rules.specs.declared.rule.Formula.{Formula}
use Rattle.width_rules.specs.declared.rule.Formula.TheVariants as formula
use Rattle.width_rules.specs.declared.rule.Rule.{Rule}
use Rattle.width_rules.specs.Formulas.{IsFormula}
use Rattle.width_rules.specs.Solutions.{IsRule, AreRules}
use Rattle.width_rules.specs.Places.{Spot, spots, slot_of, is_open, slots_from, open_spots, node_spots, node_slots, node_size}
use Rattle.width_rules.specs.Sources.{Known, known_with, measured, formula_of, component_or_none}
use Rattle.width_rules.specs.Circuits.{Walk, Gathered, WithPorts, mask_slots, line_slots, at_least, driven, connected, zeroed, invalidated, node_rules, nothing, and_then, in_turn, places_for, instance_in, instance_component, of_stmt, of_arm, stmt_walk, arm_walk, known_ports, body_walk, bodies_from, ports_from, open_ports, modules_from, all_open, rules_of_modules}
use Rattle.width_rules.proofs.Bounds.{Each, each_all, each_append, fixed_is, var_below, SlotFits, SlotsFit, FormulasFit, slot_formula, slot_formulas}
use Rattle.width_rules.proofs.Fitting.{KnownFits, with_fits, measured_fits}
use Rattle.width_rules.proofs.Ports.{module_places, modules_open}

-- Widths

one_slot : (count n : ℕ) (width : Option ℕ) → n + is_open width ≤ count → SlotFits count (slot_of n width)
one_slot count n (Some w) h = tt
one_slot count n None h = omega (arith, h)

slots_fit : (count n : ℕ) (ss : List Spot) → n + open_spots ss ≤ count → SlotsFit count (slots_from n ss)
slots_fit count n [] h = tt
slots_fit count n (s ∷ ss) h = (one_slot count n s.width (omega (arith, h)), slots_fit count (n + is_open s.width) ss (omega (arith, h)))

ones_fit : (count : ℕ) (ss : List Spot) → SlotsFit count (map (λ (spot : Spot). slot.Fixed 1) ss)
ones_fit count [] = tt
ones_fit count (s ∷ ss) = (tt, ones_fit count ss)

line_fits : (count : ℕ) (memory : Memory) (element : List Slot) → SlotsFit count element → (l : MemLine) → SlotsFit count (line_slots memory element l)
line_fits count memory element h (line.MemPort at mode.Reader name) = (tt, (tt, h))
line_fits count memory element h (line.MemPort at mode.Writer name) = (tt, (tt, each_append (SlotFits count) element (mask_slots memory) h (ones_fit count (spots (mask_of (element_of memory))))))
line_fits count memory element h (line.MemPort at mode.ReadWriter name) =
    let masks = ones_fit count (spots (mask_of (element_of memory))) in
    (tt, (tt, each_append (SlotFits count) element (slot.Fixed 1 ∷ (element ++ mask_slots memory)) h (tt, each_append (SlotFits count) element (mask_slots memory) h masks)))
line_fits count memory element h (line.Element at typ) = tt
line_fits count memory element h (line.Depth at n) = tt
line_fits count memory element h (line.ReadLatency at n) = tt
line_fits count memory element h (line.WriteLatency at n) = tt
line_fits count memory element h (line.ReadUnder at u) = tt

lines_fit : (count : ℕ) (memory : Memory) (element : List Slot) → SlotsFit count element → (ls : List MemLine) → SlotsFit count (flat_map (line_slots memory element) ls)
lines_fit count memory element h [] = tt
lines_fit count memory element h (l ∷ ls) =
    each_append (SlotFits count) (line_slots memory element l) (flat_map (line_slots memory element) ls) (line_fits count memory element h l) (lines_fit count memory element h ls)

-- Rules

abbrev RulesFit : ℕ → List Rule → Type 0
RulesFit count rules = Each (IsRule count) rules

at_least_fits : (count : ℕ) (f g : Formula) → IsFormula count f → IsFormula count g → RulesFit count (at_least f g)
at_least_fits count (formula.Var x) g h k = (record { target = var_below count x h; formula = k }, tt)
at_least_fits count f g h k = tt

driven_fits : (count : ℕ) (flip : Bool) (f g : Formula) → IsFormula count f → IsFormula count g → RulesFit count (driven flip f g)
driven_fits count false f g h k = at_least_fits count f g h k
driven_fits count true f g h k = at_least_fits count g f k h

connected_fits : (count : ℕ) (ss : List Spot) (ls rs : List Formula) → FormulasFit count ls → FormulasFit count rs → RulesFit count (connected ss ls rs)
connected_fits count [] ls rs h k = tt
connected_fits count (s ∷ ss) [] rs h k = tt
connected_fits count (s ∷ ss) (l ∷ ls) [] h k = tt
connected_fits count (s ∷ ss) (l ∷ ls) (r ∷ rs) h k = each_append (IsRule count) (driven s.flip l r) (connected ss ls rs) (driven_fits count s.flip l r h.0 k.0) (connected_fits count ss ls rs h.1 k.1)

zeroed_fits : (count : ℕ) (flow : Flow) (f : Formula) → IsFormula count f → RulesFit count (zeroed flow f)
zeroed_fits count Source f h = tt
zeroed_fits count Sink f h = at_least_fits count f (formula.Fixed 0) h (fixed_is count 0)
zeroed_fits count Duplex f h = at_least_fits count f (formula.Fixed 0) h (fixed_is count 0)

invalidated_fits : (count : ℕ) (flow : Flow) (ss : List Spot) (fs : List Formula) → FormulasFit count fs → RulesFit count (invalidated flow ss fs)
invalidated_fits count flow [] fs h = tt
invalidated_fits count flow (s ∷ ss) [] h = tt
invalidated_fits count flow (s ∷ ss) (f ∷ fs) h =
    each_append (IsRule count) (zeroed (flow_through s.flip flow) f) (invalidated flow ss fs) (zeroed_fits count (flow_through s.flip flow) f h.0) (invalidated_fits count flow ss fs h.1)

node_fits : (count : ℕ) (slots : List Slot) (fs : List Formula) → SlotsFit count slots → FormulasFit count fs → RulesFit count (node_rules slots fs)
node_fits count [] fs h k = tt
node_fits count (s ∷ ss) [] h k = tt
node_fits count (s ∷ ss) (f ∷ fs) h k = each_append (IsRule count) (at_least (formula_of s) f) (node_rules ss fs) (at_least_fits count (formula_of s) f (slot_formula count s h.0) k.0) (node_fits count ss fs h.1 k.1)

-- Statements: with all variables within the number, all are within it behind them.

record Fits (count : ℕ) (g : Gathered) : Type 0 where
  known : KnownFits count g.known
  rules : RulesFit count g.rules

abbrev Keeps : ℕ → Walk → Type 0
Keeps count walk = (known : Known) (n : ℕ) → KnownFits count known → n + length (walk known n).places ≤ count → Fits count (walk known n)

keeps_nothing : (count : ℕ) → Keeps count nothing
keeps_nothing count known n h le = record { known = h; rules = tt }

keeps_then : (count : ℕ) (p q : Walk) → Keeps count p → Keeps count q → Keeps count (and_then p q)
keeps_then count p q h k known n fits le =
    let a = p known n in
    let b = q a.known (n + length a.places) in
    let len = length-append a.places b.places in
    let first = h known n fits (omega (arith, le, len)) in
    let second = k a.known (n + length a.places) first.known (omega (arith, le, len)) in
    record { known = second.known; rules = each_append (IsRule count) a.rules b.rules first.rules second.rules }

keeps_all : {X : Type 0} (count : ℕ) (part : X → Walk) (xs : List ((x : X) × Keeps count (part x))) → Keeps count (in_turn (map part (map (λ (e : (x : X) × Keeps count (part x)). e.0) xs)))
keeps_all count part [] = keeps_nothing count
keeps_all count part (x ∷ xs) = keeps_then count (part x.0) (in_turn (map part (map (λ (e : (x : _) × Keeps count (part x)). e.0) xs))) x.1 (keeps_all count part xs)

keeps_map : {X : Type 0} (count : ℕ) (part : X → Walk) → ((x : X) → Keeps count (part x)) → (xs : List X) → Keeps count (in_turn (map part xs))
keeps_map count part h [] = keeps_nothing count
keeps_map count part h (x ∷ xs) = keeps_then count (part x) (in_turn (map part xs)) (h x) (keeps_map count part h xs)

open_within : (count n open' : ℕ) (place : Place) → n + length (places_for place open') ≤ count → n + open' ≤ count
open_within count n open' place le = omega (arith, le, length-replicate open' place)

abbrev ModulesFit : ℕ → List WithPorts → Type 0
ModulesFit count modules = Each (λ m. Each (SlotsFit count) m.ports) modules

joined_fit : (count : ℕ) (ports : List (List Slot)) → Each (SlotsFit count) ports → SlotsFit count (flat_map (λ slots. slots) ports)
joined_fit count [] h = tt
joined_fit count (p ∷ ps) h = each_append (SlotFits count) p (flat_map (λ slots. slots) ps) h.0 (joined_fit count ps h.1)

instance_fits : (count : ℕ) (modules : List WithPorts) (name : ℕ) → ModulesFit count modules → SlotsFit count (instance_in modules name).slots
instance_fits count [] name h = tt
instance_fits count (m ∷ ms) name h = by (m.holder.name.id == name) (joined_fit count m.ports h.0) (instance_fits count ms name h.1)
  where
    by : (b : Bool) → SlotsFit count (instance_component m).slots → SlotsFit count (instance_in ms name).slots
        → SlotsFit count (component_or_none (option_map instance_component (cond b (Some m) (find (λ x. x.holder.name.id == name) ms)))).slots
    by true own rest = own
    by false own rest = rest

module _ (count : ℕ) (modules : List WithPorts) (ports : ModulesFit count modules) where
  abbrev StmtFits : Stmt → Type 0
  StmtFits s = Keeps count (stmt_walk modules s)

  abbrev ArmFits : Arm → Type 0
  ArmFits a = Keeps count (arm_walk modules a)

  rolled : (z : Stmt-F Stmt Arm) → Keeps count (of_stmt modules (map-Stmt Stmt Arm Walk Walk (stmt_walk modules) (arm_walk modules) z)) → StmtFits (roll-Stmt z)
  rolled z h = subst (Keeps count) (sym (fold-roll-Stmt Walk Walk (of_stmt modules) of_arm z)) h

  of_layer : (y : Stmt-F ((s : Stmt) × StmtFits s) ((a : Arm) × ArmFits a)) → StmtFits (roll-Stmt (map-Stmt ((s : Stmt) × StmtFits s) ((a : Arm) × ArmFits a) Stmt Arm (λ e. e.0) (λ e. e.0) y))
  of_layer (Stmt-F.Wire name typ) = rolled _ (λ known n h le.
      record { known = with_fits count known name.id _ h (slots_fit count n (spots typ) (open_within count n (open_spots (spots typ)) name.place le)); rules = tt })
  of_layer (Stmt-F.Reg name typ clock) = rolled _ (λ known n h le.
      record { known = with_fits count known name.id _ h (slots_fit count n (spots typ) (open_within count n (open_spots (spots typ)) name.place le)); rules = tt })
  of_layer (Stmt-F.RegReset name typ clock reset init) = rolled _ (λ known n h le.
      let own = slots_fit count n (spots typ) (open_within count n (open_spots (spots typ)) name.place le) in
      record {
        known = with_fits count known name.id _ h own;
        rules = connected_fits count (spots typ) (map formula_of (slots_from n (spots typ))) (measured init known).formulas (slot_formulas count (slots_from n (spots typ)) own) (measured_fits count init known h);
      })
  of_layer (Stmt-F.Mem memory) = rolled _ (λ known n h le.
      let element = slots_from n (spots (element_of memory)) in
      let own = slots_fit count n (spots (element_of memory)) (open_within count n (open_spots (spots (element_of memory))) memory.name.place le) in
      record { known = with_fits count known memory.name.id _ h (lines_fit count memory element own memory.lines); rules = tt })
  of_layer (Stmt-F.Inst name target) = rolled _ (λ known n h le. record { known = with_fits count known name.id _ h (instance_fits count modules target.id ports); rules = tt })
  of_layer (Stmt-F.Node name e) = rolled _ (λ known n h le.
      let source = measured e known in
      let slots = node_slots n source.part.typ in
      let own = slots_fit count n (node_spots source.part.typ) (open_within count n (node_size source.part.typ) name.place le) in
      record { known = with_fits count known name.id _ h own; rules = node_fits count slots source.formulas own (measured_fits count e known h) })
  of_layer (Stmt-F.Connect left right) = rolled _ (λ known n h le.
      record { known = h; rules = connected_fits count (spots (measured left known).part.typ) (measured left known).formulas (measured right known).formulas (measured_fits count left known h) (measured_fits count right known h) })
  of_layer (Stmt-F.Invalidate target) = rolled _ (λ known n h le.
      let t = measured target known in
      record { known = h; rules = invalidated_fits count t.part.flow (spots t.part.typ) t.formulas (measured_fits count target known h) })
  of_layer (Stmt-F.When arms other) = rolled _ (keeps_then count _ _ (keeps_all count (arm_walk modules) arms) (keeps_all count (stmt_walk modules) other))
  of_layer (Stmt-F.Skip place) = rolled _ (keeps_nothing count)

  of_arm_layer : (y : Arm-F ((s : Stmt) × StmtFits s) ((a : Arm) × ArmFits a)) → ArmFits (roll-Arm (map-Arm ((s : Stmt) × StmtFits s) ((a : Arm) × ArmFits a) Stmt Arm (λ e. e.0) (λ e. e.0) y))
  of_arm_layer y = subst (Keeps count) (sym (fold-roll-Arm Walk Walk (of_stmt modules) of_arm (map-Arm ((s : Stmt) × StmtFits s) ((a : Arm) × ArmFits a) Stmt Arm (λ e. e.0) (λ e. e.0) y)))
      (keeps_all count (stmt_walk modules) y.body)

  stmt_fits : (s : Stmt) → StmtFits s
  stmt_fits = ind-Stmt StmtFits ArmFits (λ x y is. subst (λ z. StmtFits (roll-Stmt z)) is (of_layer y)) (λ x y is. subst (λ z. ArmFits (roll-Arm z)) is (of_arm_layer y))

-- Bodies

ports_known : (count : ℕ) (ports : List Port) (slots : List (List Slot)) (known : Known) → Each (SlotsFit count) slots → KnownFits count known → KnownFits count (known_ports ports slots known)
ports_known count [] slots known h k = k
ports_known count (p ∷ ps) [] known h k = k
ports_known count (p ∷ ps) (s ∷ ss) known h k = ports_known count ps ss (known_with known p.name.id _) h.1 (with_fits count known p.name.id _ k h.0)

body_fits : (count : ℕ) (modules : List WithPorts) → ModulesFit count modules → (m : WithPorts) → Each (SlotsFit count) m.ports → (n : ℕ) → n + length (body_walk modules m n).places ≤ count
    → RulesFit count (body_walk modules m n).rules
body_fits count modules ports m own n le =
    (keeps_map count (stmt_walk modules) (stmt_fits count modules ports) m.holder.body (known_ports m.holder.ports m.ports []) n (ports_known count m.holder.ports m.ports [] own tt) le).rules

bodies_fit : (count : ℕ) (modules : List WithPorts) → ModulesFit count modules → (n : ℕ) (ms : List WithPorts) → ModulesFit count ms → n + length (bodies_from modules n ms).places ≤ count
    → RulesFit count (bodies_from modules n ms).rules
bodies_fit count modules ports n [] h le = tt
bodies_fit count modules ports n (m ∷ ms) h le =
    let body = body_walk modules m n in
    let others = bodies_from modules (n + length body.places) ms in
    let len = length-append body.places others.places in
    each_append (IsRule count) body.rules others.rules (body_fits count modules ports m h.0 n (omega (arith, le, len))) (bodies_fit count modules ports (n + length body.places) ms h.1 (omega (arith, le, len)))

ports_fit : (count n : ℕ) (ports : List Port) → n + open_ports ports ≤ count → Each (SlotsFit count) (ports_from n ports)
ports_fit count n [] le = tt
ports_fit count n (p ∷ ps) le = (slots_fit count n (spots p.typ) (omega (arith, le)), ports_fit count (n + open_spots (spots p.typ)) ps (omega (arith, le)))

modules_fit : (count n : ℕ) (ms : List Module) → n + all_open ms ≤ count → ModulesFit count (modules_from n ms)
modules_fit count n [] le = tt
modules_fit count n (m ∷ ms) le = (ports_fit count n m.ports (omega (arith, le)), modules_fit count (n + open_ports m.ports) ms (omega (arith, le)))

pub are_rules : (modules : List Module) → AreRules (length (rules_of_modules modules).places) (rules_of_modules modules).rules
are_rules modules =
    let ports = flat_map module_places modules in
    let all = modules_from 0 modules in
    let bodies = bodies_from all (length ports) all in
    let count = length (ports ++ bodies.places) in
    let len = length-append ports bodies.places in
    let first = modules_fit count 0 modules (omega (arith, len, modules_open modules)) in
    each_all (IsRule count) bodies.rules (bodies_fit count all first (length ports) all first (omega (arith, len)))
