-- The registers and memory ports that are found are those of the declarations.
use Rattle.std.proofs.Common.{◌≡◌, ℕ, Bool, true, false, if◌then◌else◌, List, [], ◌∷◌, ◌++◌, map, filter_map, Some, refl, sym, ap, ap₂, ◌∙◌, subst, append-nil}
use Rattle.std.specs.List.{flat_map}
use Rattle.std.proofs.lemmas.List.Concat.{flat_map-append, flat_map-cons}
use Rattle.fir_types.specs.declared.memory.MemLine.{MemLine}
use Rattle.fir_types.specs.declared.memory.MemLine.TheVariants as line
use Rattle.fir_types.specs.declared.port.Port.{Port}
use Rattle.fir_types.specs.declared.name.Name.{Name}
use Rattle.fir_tree.specs.declared.circuit.Module.{Module}
use Rattle.fir_tree.specs.declared.stmt.Stmt.{Stmt, ind-Stmt}
use Rattle.fir_tree.specs.declared.stmt.Arm.{Arm, fold-Arm}
use Rattle.fir_tree.specs.declared.stmt.Stmt.TheOpen.{Stmt-F, Arm-F}
use Rattle.fir_tree.specs.declared.stmt.Stmt.TheFolds.{map-Stmt, map-Arm, fold-roll-Stmt, fold-roll-Arm}
use Rattle.fir_tree.specs.declared.stmt.Stmt.TheViews.{roll-Stmt, roll-Arm}
use Rattle.fir_meaning.specs.Components.{Declaration, Told, ToldArm, told, of_told, of_told_arm, declared_from, declared_in_block, declarations_of, declared_by_port, Sort, An_input, An_output, A_wire, A_register, A_reset_register, A_memory, An_instance, A_node}
use Rattle.fir_meaning.specs.Mentions.{Scope}
use Rattle.fir_meaning.specs.MemoryPorts.{port_in}
use Rattle.clock_check.specs.Clocked.{clock_leaf}
use Rattle.clock_check.specs.Hung.{Hangs, line_hung, port_hung, all_hung, of_stmt, of_arm, stmt_hung, arm_hung, sort_hung, hung_by, module_hung}

abbrev told_arm : Arm → ToldArm
told_arm = fold-Arm Told ToldArm of_told of_told_arm

ports_hung : (id : ℕ) (lines : List MemLine) → flat_map (line_hung id) lines ≡ map (port_hung id) (filter_map port_in lines)
ports_hung id [] = refl
ports_hung id (line.Element at t ∷ lines) = flat_map-cons (line_hung id) (line.Element at t) lines ∙ ports_hung id lines
ports_hung id (line.Depth at n ∷ lines) = flat_map-cons (line_hung id) (line.Depth at n) lines ∙ ports_hung id lines
ports_hung id (line.ReadLatency at n ∷ lines) = flat_map-cons (line_hung id) (line.ReadLatency at n) lines ∙ ports_hung id lines
ports_hung id (line.WriteLatency at n ∷ lines) = flat_map-cons (line_hung id) (line.WriteLatency at n) lines ∙ ports_hung id lines
ports_hung id (line.ReadUnder at u ∷ lines) = flat_map-cons (line_hung id) (line.ReadUnder at u) lines ∙ ports_hung id lines
ports_hung id (line.MemPort at m name ∷ lines) =
    flat_map-cons (line_hung id) (line.MemPort at m name) lines ∙ ap (λ l. (name.place, Some (clock_leaf id name.id)) ∷ l) (ports_hung id lines)

abbrev made : Name → Sort → List Stmt → List Stmt → Declaration
made name sort block behind = record { name = name.id; place = name.place; sort = sort; block = block; behind = behind }

module _ (types : Scope) where
  abbrev IsHung : Stmt → Type 0
  IsHung s = (block behind : List Stmt) → stmt_hung types s ≡ flat_map (hung_by types) ((told s).declares block behind)

  abbrev ArmIsHung : Arm → Type 0
  ArmIsHung a = arm_hung types a ≡ flat_map (hung_by types) (told_arm a).declared

  hung_at : (z : Stmt-F Stmt Arm)
      → ((block behind : List Stmt) → of_stmt types (map-Stmt Stmt Arm (List Hangs) (List Hangs) (stmt_hung types) (arm_hung types) z)
      ≡ flat_map (hung_by types) ((of_told (map-Stmt Stmt Arm Told ToldArm told told_arm z)).declares block behind))
      → IsHung (roll-Stmt z)
  hung_at z h block behind =
      fold-roll-Stmt (List Hangs) (List Hangs) (of_stmt types) (of_arm types) z ∙ h block behind
      ∙ ap (λ (t : Told). flat_map (hung_by types) (t.declares block behind)) (sym (fold-roll-Stmt Told ToldArm of_told of_told_arm z))

  lone : (d : Declaration) → hung_by types d ≡ flat_map (hung_by types) (d ∷ [])
  lone d = sym (flat_map-cons (hung_by types) d [] ∙ append-nil (hung_by types d))

  from_hung : (ps : List ((s : Stmt) × IsHung s)) (block : List Stmt)
      → all_hung (map (stmt_hung types) (map (λ e. e.0) ps)) ≡ flat_map (hung_by types) (declared_from block (map told (map (λ e. e.0) ps)))
  from_hung [] block = refl
  from_hung (q ∷ ps) block =
      let rest : List Stmt = map (λ t. t.itself) (map told (map (λ e. e.0) ps)) in
      flat_map-cons (λ (l : List Hangs). l) (stmt_hung types q.0) (map (stmt_hung types) (map (λ e. e.0) ps))
      ∙ ap₂ (λ x y. x ++ y) (q.1 block rest) (from_hung ps block)
      ∙ sym (flat_map-append (hung_by types) ((told q.0).declares block rest) (declared_from block (map told (map (λ e. e.0) ps))))

  block_hung : (ps : List ((s : Stmt) × IsHung s)) → all_hung (map (stmt_hung types) (map (λ e. e.0) ps)) ≡ flat_map (hung_by types) (declared_in_block (map told (map (λ e. e.0) ps)))
  block_hung ps = from_hung ps (map (λ t. t.itself) (map told (map (λ e. e.0) ps)))

  arms_hung : (ps : List ((a : Arm) × ArmIsHung a)) → all_hung (map (arm_hung types) (map (λ e. e.0) ps)) ≡ flat_map (hung_by types) (flat_map (λ a. a.declared) (map told_arm (map (λ e. e.0) ps)))
  arms_hung [] = refl
  arms_hung (q ∷ ps) =
      let tas : List ToldArm = map told_arm (map (λ e. e.0) ps) in
      flat_map-cons (λ (l : List Hangs). l) (arm_hung types q.0) (map (arm_hung types) (map (λ e. e.0) ps))
      ∙ ap₂ (λ x y. x ++ y) q.1 (arms_hung ps)
      ∙ sym (flat_map-append (hung_by types) (told_arm q.0).declared (flat_map (λ a. a.declared) tas))
      ∙ ap (flat_map (hung_by types)) (sym (flat_map-cons (λ (a : ToldArm). a.declared) (told_arm q.0) tas))

  hung_case : (y : Stmt-F ((s : Stmt) × IsHung s) ((a : Arm) × ArmIsHung a)) → IsHung (roll-Stmt (map-Stmt _ _ Stmt Arm (λ e. e.0) (λ e. e.0) y))
  hung_case (Stmt-F.Wire name typ) = hung_at (Stmt-F.Wire name typ) (λ block behind. lone (made name A_wire block behind))
  hung_case (Stmt-F.Reg name typ clock) = hung_at (Stmt-F.Reg name typ clock) (λ block behind. lone (made name (A_register clock) block behind))
  hung_case (Stmt-F.RegReset name typ clock reset init) = hung_at (Stmt-F.RegReset name typ clock reset init) (λ block behind. lone (made name (A_reset_register clock reset init) block behind))
  hung_case (Stmt-F.Mem memory) = hung_at (Stmt-F.Mem memory) (λ block behind. ports_hung memory.name.id memory.lines ∙ lone (made memory.name (A_memory memory) block behind))
  hung_case (Stmt-F.Inst name target) = hung_at (Stmt-F.Inst name target) (λ block behind. lone (made name (An_instance target.id) block behind))
  hung_case (Stmt-F.Node name expr) = hung_at (Stmt-F.Node name expr) (λ block behind. lone (made name (A_node expr) block behind))
  hung_case (Stmt-F.Connect left right) = hung_at (Stmt-F.Connect left right) (λ block behind. refl)
  hung_case (Stmt-F.Invalidate target) = hung_at (Stmt-F.Invalidate target) (λ block behind. refl)
  hung_case (Stmt-F.Skip place) = hung_at (Stmt-F.Skip place) (λ block behind. refl)
  hung_case (Stmt-F.When arms other) = hung_at (Stmt-F.When (map (λ e. e.0) arms) (map (λ e. e.0) other))
      (λ block behind. ap₂ (λ x y. x ++ y) (arms_hung arms) (block_hung other)
      ∙ sym (flat_map-append (hung_by types) (flat_map (λ a. a.declared) (map told_arm (map (λ e. e.0) arms))) (declared_in_block (map told (map (λ e. e.0) other)))))

  arm_case : (y : Arm-F ((s : Stmt) × IsHung s) ((a : Arm) × ArmIsHung a)) → ArmIsHung (roll-Arm (map-Arm _ _ Stmt Arm (λ e. e.0) (λ e. e.0) y))
  arm_case y =
      let z : Arm-F Stmt Arm = record { condition = y.condition; body = map (λ e. e.0) y.body } in
      fold-roll-Arm (List Hangs) (List Hangs) (of_stmt types) (of_arm types) z ∙ block_hung y.body
      ∙ ap (λ (t : ToldArm). flat_map (hung_by types) t.declared) (sym (fold-roll-Arm Told ToldArm of_told of_told_arm z))

  is_hung : (s : Stmt) → IsHung s
  is_hung = ind-Stmt IsHung ArmIsHung
      (λ x y is. subst (λ z. IsHung (roll-Stmt z)) is (hung_case y))
      (λ x y is. subst (λ z. ArmIsHung (roll-Arm z)) is (arm_case y))

  body_hung : (ss : List Stmt) (block : List Stmt) → flat_map (stmt_hung types) ss ≡ flat_map (hung_by types) (declared_from block (map told ss))
  body_hung [] block = refl
  body_hung (s ∷ ss) block =
      flat_map-cons (stmt_hung types) s ss ∙ ap₂ (λ x y. x ++ y) (is_hung s block (map (λ t. t.itself) (map told ss))) (body_hung ss block)
      ∙ sym (flat_map-append (hung_by types) ((told s).declares block (map (λ t. t.itself) (map told ss))) (declared_from block (map told ss)))

  no_port : (body : List Stmt) (x : Port) → hung_by types (declared_by_port body x) ≡ []
  no_port body x = by x.output
    where
      by : (b : Bool) → sort_hung types (declared_by_port body x) (if b then An_output else An_input) ≡ []
      by true = refl
      by false = refl

  ports_hang : (body : List Stmt) (ports : List Port) → flat_map (hung_by types) (map (declared_by_port body) ports) ≡ []
  ports_hang body [] = refl
  ports_hang body (x ∷ ports) =
      flat_map-cons (hung_by types) (declared_by_port body x) (map (declared_by_port body) ports) ∙ ap₂ (λ a b. a ++ b) (no_port body x) (ports_hang body ports)

  pub module_hung_is : (holder : Module) → module_hung types holder ≡ flat_map (hung_by types) (declarations_of holder)
  module_hung_is holder =
      let inside : List Declaration = declared_in_block (map told holder.body) in
      body_hung holder.body (map (λ t. t.itself) (map told holder.body))
      ∙ ap (λ l. l ++ flat_map (hung_by types) inside) (sym (ports_hang holder.body holder.ports))
      ∙ sym (flat_map-append (hung_by types) (map (declared_by_port holder.body) holder.ports) inside)
