-- What the walk through the bodies has in hand and adds.
use Rattle.std.specs.Prelude.{◌≡◌, ℕ, ◌+◌, Bool, false, List, [], ◌∷◌, ◌++◌, map, length, drop, get_or}
use Rattle.fir_types.specs.declared.name.Name.{Name}
use Rattle.fir_tree.specs.declared.stmt.Stmt.{Stmt, fold-Stmt}
use Rattle.fir_tree.specs.declared.stmt.Arm.{Arm, fold-Arm}
use Rattle.fir_tree.specs.declared.stmt.Stmt.TheOpen.{Stmt-F}
use Rattle.width_rules.specs.Sources.{Known, component, known_with}
use Rattle.width_rules.specs.Circuits.{WithPorts, known_ports}
use Rattle.width_fit.specs.declared.fault.WidthFault.{WidthFault}
use Rattle.width_fit.specs.declared.given.Given.{Given}
use Rattle.width_fit.specs.declared.walk.Walk.{Walk}
use Rattle.type_filling.specs.Filling.{filled}
use Rattle.width_fit.specs.Judging.{Solved, Surveys, Findings, Told, slot_width, declares, in_turn, of_stmt, of_arm, ports_declared, ports_faults, where_reached}

-- what is known of all widths
abbrev pub solved : Given → Solved
solved given = record { widths = given.widths.now; rules = given.rules.now }

-- a part of a body was walked
pub record Walks (part : Surveys) (old new : Walk) : Type 0 where
  pub known : new.known.entries ≡ (part old.known.entries (length old.places.items)).known
  pub count : length new.places.items ≡ length old.places.items + (part old.known.entries (length old.places.items)).count
  pub declared : new.declared.items ≡ old.declared.items ++ (part old.known.entries (length old.places.items)).declared
  pub nodes : new.found.nodes.items ≡ old.found.nodes.items ++ (part old.known.entries (length old.places.items)).nodes
  pub faults : new.found.faults.items ≡ old.found.faults.items ++ (part old.known.entries (length old.places.items)).faults

-- Statements, where the components of the modules' instances are listed by the names of the modules.

abbrev pub of_instance_among : Solved → Known → Name → Name → Surveys
of_instance_among all instances name target known n =
    let there' = component instances target.id in
    declares (known_with known name.id there') 0 (filled there'.part.typ (map (slot_width all.widths) there'.slots)) []

abbrev pub of_stmt_among : Solved → Known → Stmt-F Surveys Surveys → Surveys
of_stmt_among all instances (Stmt-F.Inst name target) = of_instance_among all instances name target
of_stmt_among all instances stmt = of_stmt all [] stmt

abbrev pub stmt_among : Solved → Known → Stmt → Surveys
stmt_among all instances = fold-Stmt Surveys Surveys (of_stmt_among all instances) (of_arm all)

abbrev pub arm_among : Solved → Known → Arm → Surveys
arm_among all instances = fold-Arm Surveys Surveys (of_stmt_among all instances) (of_arm all)

abbrev pub module_among : Solved → Known → WithPorts → ℕ → Findings
module_among all instances m n =
    let body = in_turn (map (stmt_among all instances) m.holder.body) (known_ports m.holder.ports m.ports []) n in
    record {
      known = body.known;
      count = body.count;
      declared = ports_declared all m.holder.ports m.ports ++ body.declared;
      nodes = body.nodes;
      faults = ports_faults all m.holder.ports m.ports ++ body.faults;
    }

abbrev pub told_among : Solved → Known → ℕ → List WithPorts → List Bool → Told
told_among all instances n [] reached = record { declared = []; nodes = []; faults = [] }
told_among all instances n (m ∷ rest) reached =
    let one = module_among all instances m n in
    let others = told_among all instances (n + one.count) rest (drop 1 reached) in
    record {
      declared = one.declared ++ others.declared;
      nodes = one.nodes ++ others.nodes;
      faults = where_reached (get_or reached 0 false) one.faults ++ others.faults;
    }

-- a module was walked, with these faults
pub record WalksModule (one : Findings) (told : List WidthFault) (old new : Walk) : Type 0 where
  pub count : length new.places.items ≡ length old.places.items + one.count
  pub declared : new.declared.items ≡ old.declared.items ++ one.declared
  pub nodes : new.found.nodes.items ≡ old.found.nodes.items ++ one.nodes
  pub faults : new.found.faults.items ≡ old.found.faults.items ++ told

-- all modules were walked
pub record WalksAll (told : Told) (old new : Walk) : Type 0 where
  pub declared : new.declared.items ≡ old.declared.items ++ told.declared
  pub nodes : new.found.nodes.items ≡ old.found.nodes.items ++ told.nodes
  pub faults : new.found.faults.items ≡ old.found.faults.items ++ told.faults
