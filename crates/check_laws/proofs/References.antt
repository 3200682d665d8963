-- The uses of a module are the references of its statements.
use Rattle.std.proofs.Common.{◌≡◌, ℕ, ◌+◌, List, [], ◌∷◌, ◌++◌, map, length, refl, sym, ap, ap₂, ◌∙◌, subst, append-nil}
use Rattle.std.proofs.lemmas.List.{map-append}
use Rattle.fir_types.specs.declared.name.Name.{Name}
use Rattle.fir_types.specs.declared.port.Port.{Port}
use Rattle.fir_tree.specs.declared.circuit.Module.{Module}
use Rattle.fir_tree.specs.declared.stmt.Stmt.{Stmt, ind-Stmt}
use Rattle.fir_tree.specs.declared.stmt.Arm.{Arm}
use Rattle.fir_tree.specs.declared.stmt.Stmt.TheOpen.{Stmt-F, Arm-F}
use Rattle.fir_tree.specs.declared.stmt.Stmt.TheFolds.{map-Stmt, map-Arm, fold-roll-Stmt, fold-roll-Arm}
use Rattle.fir_tree.specs.declared.stmt.Stmt.TheViews.{roll-Stmt, roll-Arm}
use Rattle.fir_names.specs.Extents.{Seen, Use, references, uses_in}
use Rattle.fir_names.specs.Parts as parts
use Rattle.fir_names.specs.Parts.{Part, stmt_part, arm_part, module_part}
use Rattle.fir_names.proofs.Agreement.{sees_its_blocks}
use Rattle.circuit_laws.specs.Names as names
use Rattle.circuit_laws.specs.Names.{all_of, named_in}
use Rattle.circuit_laws.specs.Standing.{arm_names}

abbrev used : List Use → List Name
used us = map (λ (u : Use). u.name) us

-- what a part uses, whatever it sees
record Uses (part : Part) (ns : List Name) : Type 0 where
  are : (seen : List Seen) (n : ℕ) → used (part.uses seen n) ≡ ns

mentions_used : (seen : List Seen) (ns : List Name) → used (map (λ name. record { name = name; seen = seen }) ns) ≡ ns
mentions_used seen [] = refl
mentions_used seen (n ∷ ns) = ap (λ l. n ∷ l) (mentions_used seen ns)

uses_nothing : Uses parts.nothing []
uses_nothing = record { are = λ seen n. refl }

uses_mentions : (ns : List Name) → Uses (parts.mentions ns) ns
uses_mentions ns = record { are = λ seen n. mentions_used seen ns }

uses_declares : (name : Name) → Uses (parts.declares name) []
uses_declares name = record { are = λ seen n. refl }

uses_instance : (target : Name) → Uses (parts.instance_of target) []
uses_instance target = record { are = λ seen n. refl }

uses_joined : (p q : Part) (ns ms : List Name) → Uses p ns → Uses q ms → Uses (parts.joined p q) (ns ++ ms)
uses_joined p q ns ms h k = record {
  are = λ seen n. map-append (λ (u : Use). u.name) (p.uses seen n) (q.uses (seen ++ p.shows n) (n + length p.declares))
      ∙ ap₂ (λ a b. a ++ b) (h.are seen n) (k.are (seen ++ p.shows n) (n + length p.declares));
}

uses_shut : (p : Part) (ns : List Name) → Uses p ns → Uses (record p { shows = λ n. [] }) ns
uses_shut p ns h = record { are = h.are }

uses_plain : (p : Part) (ns : List Name) → Uses p (ns ++ []) → Uses p ns
uses_plain p ns h = subst (Uses p) (append-nil ns) h

abbrev StmtUses : Stmt → Type 0
StmtUses s = Uses (stmt_part s) (named_in s)

abbrev ArmUses : Arm → Type 0
ArmUses a = Uses (arm_part a) (arm_names a)

uses_each : (ps : List ((s : Stmt) × StmtUses s)) → Uses (parts.in_turn (map stmt_part (map (λ e. e.0) ps))) (all_of (map named_in (map (λ e. e.0) ps)))
uses_each [] = uses_nothing
uses_each (p ∷ ps) = uses_joined (stmt_part p.0) _ (named_in p.0) _ p.1 (uses_each ps)

uses_arms_each : (ps : List ((a : Arm) × ArmUses a)) → Uses (parts.in_turn (map arm_part (map (λ e. e.0) ps))) (all_of (map arm_names (map (λ e. e.0) ps)))
uses_arms_each [] = uses_nothing
uses_arms_each (p ∷ ps) = uses_joined (arm_part p.0) _ (arm_names p.0) _ p.1 (uses_arms_each ps)

uses_at : (z : Stmt-F Stmt Arm) → Uses (parts.of_stmt (map-Stmt Stmt Arm Part Part stmt_part arm_part z)) (names.of_stmt (map-Stmt Stmt Arm (List Name) (List Name) named_in arm_names z))
    → StmtUses (roll-Stmt z)
uses_at z h = subst (λ p. Uses p (named_in (roll-Stmt z))) (sym (fold-roll-Stmt Part Part parts.of_stmt parts.of_arm z))
    (subst (Uses (parts.of_stmt (map-Stmt Stmt Arm Part Part stmt_part arm_part z))) (sym (fold-roll-Stmt (List Name) (List Name) names.of_stmt names.of_arm z)) h)

uses_layer : (y : Stmt-F ((s : Stmt) × StmtUses s) ((a : Arm) × ArmUses a)) → StmtUses (roll-Stmt (map-Stmt _ _ Stmt Arm (λ e. e.0) (λ e. e.0) y))
uses_layer (Stmt-F.Wire name typ) = uses_at (Stmt-F.Wire name typ) (uses_declares name)
uses_layer (Stmt-F.Reg name typ clock) = uses_at (Stmt-F.Reg name typ clock) (uses_plain _ (references clock) (uses_joined _ _ (references clock) [] (uses_mentions (references clock)) (uses_declares name)))
uses_layer (Stmt-F.RegReset name typ clock reset init) = uses_at (Stmt-F.RegReset name typ clock reset init)
    (uses_plain _ (references clock ++ references reset ++ references init) (uses_joined _ _ (references clock ++ references reset ++ references init) [] (uses_mentions (references clock ++ references reset ++ references init)) (uses_declares name)))
uses_layer (Stmt-F.Mem memory) = uses_at (Stmt-F.Mem memory) (uses_declares memory.name)
uses_layer (Stmt-F.Inst name target) = uses_at (Stmt-F.Inst name target) (uses_joined _ _ [] [] (uses_instance target) (uses_declares name))
uses_layer (Stmt-F.Node name expr) = uses_at (Stmt-F.Node name expr) (uses_plain _ (references expr) (uses_joined _ _ (references expr) [] (uses_mentions (references expr)) (uses_declares name)))
uses_layer (Stmt-F.Connect left right) = uses_at (Stmt-F.Connect left right) (uses_mentions (references left ++ references right))
uses_layer (Stmt-F.Invalidate target) = uses_at (Stmt-F.Invalidate target) (uses_mentions (references target))
uses_layer (Stmt-F.Skip place) = uses_at (Stmt-F.Skip place) uses_nothing
uses_layer (Stmt-F.When arms other) = uses_at (Stmt-F.When (map (λ e. e.0) arms) (map (λ e. e.0) other))
    (uses_joined _ _ (all_of (map arm_names (map (λ e. e.0) arms))) (all_of (map named_in (map (λ e. e.0) other))) (uses_arms_each arms) (uses_shut _ _ (uses_each other)))

uses_arm_layer : (y : Arm-F ((s : Stmt) × StmtUses s) ((a : Arm) × ArmUses a)) → ArmUses (roll-Arm (map-Arm _ _ Stmt Arm (λ e. e.0) (λ e. e.0) y))
uses_arm_layer y =
    let z : Arm-F Stmt Arm = map-Arm _ _ Stmt Arm (λ e. e.0) (λ e. e.0) y in
    subst (λ q. Uses q (arm_names (roll-Arm z))) (sym (fold-roll-Arm Part Part parts.of_stmt parts.of_arm z))
    (subst (Uses (parts.of_arm (map-Arm Stmt Arm Part Part stmt_part arm_part z))) (sym (fold-roll-Arm (List Name) (List Name) names.of_stmt names.of_arm z))
    (uses_joined _ _ (references y.condition) _ (uses_mentions (references y.condition)) (uses_shut _ _ (uses_each y.body))))

uses_stmt : (s : Stmt) → StmtUses s
uses_stmt = ind-Stmt StmtUses ArmUses (λ x y is. subst (λ z. StmtUses (roll-Stmt z)) is (uses_layer y)) (λ x y is. subst (λ z. ArmUses (roll-Arm z)) is (uses_arm_layer y))

uses_body : (ss : List Stmt) → Uses (parts.in_turn (map stmt_part ss)) (all_of (map named_in ss))
uses_body [] = uses_nothing
uses_body (s ∷ ss) = uses_joined (stmt_part s) _ (named_in s) _ (uses_stmt s) (uses_body ss)

uses_ports : (ports : List Port) → Uses (parts.in_turn (map (λ port. parts.declares port.name) ports)) []
uses_ports [] = uses_nothing
uses_ports (port ∷ ports) = uses_joined (parts.declares port.name) _ [] [] (uses_declares port.name) (uses_ports ports)

pub uses_are_references : (holder : Module) → used (uses_in holder) ≡ all_of (map named_in holder.body)
uses_are_references holder =
    ap used (sym (sees_its_blocks holder))
    ∙ (uses_joined (parts.in_turn (map (λ port. parts.declares port.name) holder.ports)) (parts.in_turn (map stmt_part holder.body)) [] (all_of (map named_in holder.body))
    (uses_ports holder.ports) (uses_body holder.body)).are [] 0
