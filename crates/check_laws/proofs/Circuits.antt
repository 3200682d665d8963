-- The faults of a memory are faults of each circuit that declares it.
use Rattle.std.proofs.Common.{◌≡◌, List, [], ◌∷◌, map, Some, sym, ap, ◌∙◌, subst, ⊎_elim}
use Rattle.std.specs.Prelude.{Contains}
use Rattle.std.proofs.lemmas.List.Elements.{Contains-append_left, Contains-append_right}
use Rattle.place_text.specs.First.{HasNone}
use Rattle.fir_types.specs.declared.memory.Memory.{Memory}
use Rattle.fir_types.specs.Bundles.{memory_of}
use Rattle.fir_types.specs.Memories.{IsValid}
use Rattle.fir_tree.specs.declared.circuit.Circuit.{Circuit}
use Rattle.fir_tree.specs.declared.circuit.Module.{Module}
use Rattle.fir_tree.specs.declared.stmt.Stmt.{Stmt}
use Rattle.fir_tree.specs.declared.stmt.Stmt.TheVariants as stmt
use Rattle.fir_tree.specs.declared.stmt.Stmt.TheVariants.{rolls-Mem, rolls-When}
use Rattle.fir_tree.specs.declared.stmt.Stmt.TheOpen.{Stmt-F}
use Rattle.fir_tree.specs.declared.stmt.Stmt.TheFolds.{fold-roll-Stmt, fold-roll-Arm}
use Rattle.fir_tree.specs.declared.stmt.Arm.{Arm}
use Rattle.fir_tree.specs.Parts.{source_of}
use Rattle.type_check.specs.declared.fault.TypeFault.{TypeFault}
use Rattle.type_check.specs.declared.fault.TypeFault.TheVariants.{MemoryField}
use Rattle.type_check.specs.Parts.{Known}
use Rattle.type_check.specs.Memories.{memory_faults}
use Rattle.type_check.specs.Statements.{Walk, and_then, in_turn, notes, declares, expects, condition_faults, of_stmt, of_arm, stmt_walk, arm_walk, port_walk, module_walk}
use Rattle.type_check.specs.Faults.{IsFault}
use Rattle.check_laws.specs.Blocks.{Declares, directly, in_an_arm, otherwise}
use Rattle.check_laws.proofs.Members.{nothing_in, in_cases, given_in}
use Rattle.check_laws.proofs.Memories.{valid_exactly}

-- whatever is known, the walk finds the fault
abbrev Finds : Walk → TypeFault → Type 0
Finds walk fault = (known : Known) → Contains (walk known).faults fault

first_finds : (first second : Walk) (fault : TypeFault) → Finds first fault → Finds (and_then first second) fault
first_finds first second fault h known = Contains-append_left (first known).faults (second (first known).known).faults fault (h known)

second_finds : (first second : Walk) (fault : TypeFault) → Finds second fault → Finds (and_then first second) fault
second_finds first second fault h known = Contains-append_right (first known).faults (second (first known).known).faults fault (h (first known).known)

one_finds : {X : Type 0} (walk : X → Walk) (xs : List X) (x : X) (fault : TypeFault) → Contains xs x → Finds (walk x) fault → Finds (in_turn (map walk xs)) fault
one_finds walk [] x fault c h = absurd (nothing_in x c)
one_finds walk (y ∷ ys) x fault c h = ⊎_elim
    (λ same. first_finds (walk y) (in_turn (map walk ys)) fault (subst (λ z. Finds (walk z) fault) (sym same) h))
    (λ later. second_finds (walk y) (in_turn (map walk ys)) fault (one_finds walk ys x fault later h))
    (in_cases y ys x c)

module _ (modules : List Module) where
  memory_walk : (memory : Memory) → stmt_walk modules (stmt.Mem memory) ≡ and_then (notes (memory_faults memory)) (declares memory.name.id (Some (source_of (memory_of memory))))
  memory_walk memory = ap (stmt_walk modules) (sym (rolls-Mem memory)) ∙ fold-roll-Stmt Walk Walk (of_stmt modules) of_arm (Stmt-F.Mem memory)

  when_walk : (arms : List Arm) (other : List Stmt) → stmt_walk modules (stmt.When arms other) ≡ and_then (in_turn (map (arm_walk modules) arms)) (in_turn (map (stmt_walk modules) other))
  when_walk arms other = ap (stmt_walk modules) (sym (rolls-When arms other)) ∙ fold-roll-Stmt Walk Walk (of_stmt modules) of_arm (Stmt-F.When arms other)

  an_arm_walk : (arm : Arm) → arm_walk modules arm ≡ and_then (expects (condition_faults arm.condition.place) arm.condition) (in_turn (map (stmt_walk modules) arm.body))
  an_arm_walk arm = fold-roll-Arm Walk Walk (of_stmt modules) of_arm (record { condition = arm.condition; body = arm.body })

  memory_finds : (memory : Memory) (fault : TypeFault) → Contains (memory_faults memory) fault → Finds (stmt_walk modules (stmt.Mem memory)) fault
  memory_finds memory fault c = subst (λ walk. Finds walk fault) (sym (memory_walk memory))
      (first_finds (notes (memory_faults memory)) (declares memory.name.id (Some (source_of (memory_of memory)))) fault (λ known. c))

  block_finds : {memory : Memory} {block : List Stmt} → Declares memory block → (fault : TypeFault) → Contains (memory_faults memory) fault
      → Finds (in_turn (map (stmt_walk modules) block)) fault
  block_finds {memory} {block} (directly is) fault c = one_finds (stmt_walk modules) block (stmt.Mem memory) fault is (memory_finds memory fault c)
  block_finds {memory} {block} (in_an_arm arms other arm is its inside) fault c =
      let body : Walk = in_turn (map (stmt_walk modules) arm.body) in
      let own : Finds (arm_walk modules arm) fault = subst (λ walk. Finds walk fault) (sym (an_arm_walk arm))
      (second_finds (expects (condition_faults arm.condition.place) arm.condition) body fault (block_finds inside fault c)) in
      one_finds (stmt_walk modules) block (stmt.When arms other) fault is (subst (λ walk. Finds walk fault) (sym (when_walk arms other))
      (first_finds (in_turn (map (arm_walk modules) arms)) (in_turn (map (stmt_walk modules) other)) fault (one_finds (arm_walk modules) arms arm fault its own)))
  block_finds {memory} {block} (otherwise arms other is inside) fault c =
      one_finds (stmt_walk modules) block (stmt.When arms other) fault is (subst (λ walk. Finds walk fault) (sym (when_walk arms other))
      (second_finds (in_turn (map (arm_walk modules) arms)) (in_turn (map (stmt_walk modules) other)) fault (block_finds inside fault c)))

pub circuits_have_valid_memories : (circuit : Circuit) (m : Module) (memory : Memory) → HasNone (IsFault circuit) → Contains circuit.modules m → Declares memory m.body → IsValid memory
circuits_have_valid_memories circuit m memory none its declared = (valid_exactly memory).1 (λ at c.
    let ports : Walk = in_turn (map port_walk m.ports) in
    let body : Walk = in_turn (map (stmt_walk circuit.modules) m.body) in
    none (MemoryField at) (given_in (λ m. (module_walk circuit.modules m []).faults) circuit.modules m (MemoryField at) its
    (second_finds ports body (MemoryField at) (block_finds circuit.modules declared (MemoryField at) c) [])))
