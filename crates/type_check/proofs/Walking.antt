-- One walk behind another.
use Rattle.std.proofs.Common.{◌≡◌, ℕ, ◌+◌, List, ◌++◌, map, length, take, refl, sym, ap, ap₂, ◌∙◌, append_assoc, append-nil, get_or, ◌<◌, subst, arith}
use Rattle.std.proofs.lemmas.Grind.{common_steps}
use Rattle.fir_tree.proofs.Turns.{Turns, walks_push as one_more}
use Rattle.fir_tree.specs.declared.circuit.Module.{Module}
use Rattle.fir_tree.specs.declared.stmt.Stmt.{Stmt, the_lemmas}
use Rattle.fir_tree.specs.declared.stmt.Stmt.TheVariants as stmt
use Rattle.fir_tree.specs.declared.stmt.Arm.{Arm}
use Rattle.module_table.specs.Components.{Environment}
use Rattle.type_check.specs.declared.walk.Walk.{Walk}
use Rattle.type_check.specs.declared.fault.TypeFault.{TypeFault}
use Rattle.type_check.specs.Parts.{Known}
use Rattle.type_check.specs.Statements.{Walk as Steps, Findings, and_then, in_turn, nothing, notes, expects, condition_faults, stmt_walk, arm_walk}
use Rattle.type_check.specs.Walks.{Walks}

findings : {a b : Findings} → a.known ≡ b.known → a.nodes ≡ b.nodes → a.faults ≡ b.faults → a ≡ b
findings p q r = λ i. record { known = p i; nodes = q i; faults = r i }

alone_at : (p : Steps) (known : Known) → and_then nothing p known ≡ and_then p nothing known
alone_at p known = findings refl (sym (append-nil _)) (sym (append-nil _))

either_at : (p q r : Steps) (known : Known) → and_then (and_then p q) r known ≡ and_then p (and_then q r) known
either_at p q r known =
    let a = p known in
    let b = q a.known in
    findings refl (append_assoc a.nodes b.nodes _) (append_assoc a.faults b.faults _)

turns : Turns and_then nothing
turns = record { alone = λ p i known. alone_at p known i; either = λ p q r i known. either_at p q r known i }

pub walks_then : {p q : Steps} {a b c : Walk} → Walks p a b → Walks q b c → Walks (and_then p q) a c
walks_then {p} {q} {a} {b} {c} h k =
    let old = a.known.parts in
    record {
      modules = k.modules ∙ h.modules;
      known = k.known ∙ ap (λ e. (q e).known) h.known;
      types = k.types ∙ ap₂ (λ l e. l ++ (q e).nodes) h.types h.known ∙ append_assoc a.found.types.items (p old).nodes _;
      faults = k.faults ∙ ap₂ (λ l e. l ++ (q e).faults) h.faults h.known ∙ append_assoc a.found.faults.items (p old).faults _;
    }

-- faults are noted, and then something is walked
pub walks_noted : (faults : List TypeFault) {q : Steps} {a b c : Walk} → b.known ≡ a.known → b.found.types.items ≡ a.found.types.items
    → b.found.faults.items ≡ a.found.faults.items ++ faults → Walks q b c → Walks (and_then (notes faults) q) a c
walks_noted faults {q} {a} {b} known types more k =
    let h : Walks (notes faults) a b = record {
      modules = ap (λ (among : Environment). among.modules) known;
      known = ap (λ (among : Environment). among.parts) known;
      types = types ∙ sym (append-nil _);
      faults = more;
    } in
    walks_then h k

-- one more of walks in turn
pub walks_push : {X : Type 0} (steps : X → Steps) (xs : List X) (i : ℕ) (x : X) {a b c : Walk} → i < length xs → x ≡ get_or xs i x
    → Walks (in_turn (map steps (take i xs))) a b → Walks (steps x) b c → Walks (in_turn (map steps (take (i + 1) xs))) a c
walks_push steps xs i x lt is h k = one_more Walks turns (λ p q a b c g l. walks_then g l) steps xs i x lt is h k

-- and where the steps speak of the modules
pub walks_among : {X : Type 0} (steps : List Module → X → Steps) (xs : List X) (i : ℕ) (x : X) {a b c : Walk} → i < length xs → x ≡ get_or xs i x
    → Walks (in_turn (map (steps a.known.modules) (take i xs))) a b → Walks (steps b.known.modules x) b c
    → Walks (in_turn (map (steps a.known.modules) (take (i + 1) xs))) a c
walks_among steps xs i x {a} {b} {c} lt is h k = walks_push (steps a.known.modules) xs i x lt is h (subst (λ modules. Walks (steps modules x) b c) h.modules k)

-- arms and conditional statements

arm_is : (modules : List Module) (arm : Arm)
    → arm_walk modules arm ≡ and_then (expects (condition_faults arm.condition.place) arm.condition) (in_turn (map (stmt_walk modules) arm.body))
arm_is modules arm = grind (arith, common_steps, the_lemmas)

when_is : (modules : List Module) (s : Stmt) (arms : List Arm) (other : List Stmt) → s ≡ stmt.When arms other
    → stmt_walk modules s ≡ and_then (in_turn (map (arm_walk modules) arms)) (in_turn (map (stmt_walk modules) other))
when_is modules s arms other is = grind (arith, common_steps, the_lemmas)

pub walks_arm : (arm : Arm) {a b c : Walk} → Walks (expects (condition_faults arm.condition.place) arm.condition) a b
    → Walks (in_turn (map (stmt_walk b.known.modules) arm.body)) b c → Walks (arm_walk a.known.modules arm) a c
walks_arm arm {a} {b} {c} h k =
    subst (λ steps. Walks steps a c) (sym (arm_is a.known.modules arm))
    (walks_then h (subst (λ modules. Walks (in_turn (map (stmt_walk modules) arm.body)) b c) h.modules k))

pub walks_when : (s : Stmt) (arms : List Arm) (other : List Stmt) {a b c : Walk} → s ≡ stmt.When arms other → Walks (in_turn (map (arm_walk a.known.modules) arms)) a b
    → Walks (in_turn (map (stmt_walk b.known.modules) other)) b c → Walks (stmt_walk a.known.modules s) a c
walks_when s arms other {a} {b} {c} is h k =
    subst (λ steps. Walks steps a c) (sym (when_is a.known.modules s arms other is))
    (walks_then h (subst (λ modules. Walks (in_turn (map (stmt_walk modules) other)) b c) h.modules k))
