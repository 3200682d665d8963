-- One part of a body walked behind another.
use Rattle.std.proofs.Common.{◌≡◌, ℕ, ◌+◌, ◌<◌, List, [], ◌∷◌, ◌++◌, map, length, take, get_or, refl, sym, ap, ap₂, ◌∙◌, arith, append_assoc, append-nil, subst}
use Rattle.fir_tree.specs.declared.stmt.Stmt.{fold-Stmt}
use Rattle.fir_tree.specs.declared.stmt.Stmt.TheOpen.{Stmt-F}
use Rattle.fir_tree.proofs.Turns.{Turns, walks_push as one_more}
use Rattle.width_rules.specs.Sources.{Known, component_or_none, known_with}
use Rattle.width_rules.specs.Circuits.{WithPorts}
use Rattle.width_rules.specs.Walks.{AreInstances}
use Rattle.width_fit.specs.declared.walk.Walk.{Walk}
use Rattle.type_filling.specs.Filling.{filled}
use Rattle.width_fit.specs.Judging.{Solved, Surveys, Findings, slot_width, declares, and_then, in_turn, nothing, of_stmt, of_arm, stmt_survey}
use Rattle.width_fit.specs.Walks.{Walks, of_stmt_among, stmt_among}

findings : {a b : Findings} → a.known ≡ b.known → a.count ≡ b.count → a.declared ≡ b.declared → a.nodes ≡ b.nodes → a.faults ≡ b.faults → a ≡ b
findings p q r s t = λ i. record { known = p i; count = q i; declared = r i; nodes = s i; faults = t i }

alone_at : (p : Surveys) (known : Known) (n : ℕ) → and_then nothing p known n ≡ and_then p nothing known n
alone_at p known n =
    let e : p known (n + 0) ≡ p known n = ap (p known) (omega arith) in
    findings (ap (λ g. g.known) e) (let c : 0 + (p known (n + 0)).count ≡ (p known (n + 0)).count + 0 = omega arith in c ∙ ap (λ g. g.count + 0) e)
    (ap (λ g. g.declared) e ∙ sym (append-nil _)) (ap (λ g. g.nodes) e ∙ sym (append-nil _)) (ap (λ g. g.faults) e ∙ sym (append-nil _))

either_at : (p q r : Surveys) (known : Known) (n : ℕ) → and_then (and_then p q) r known n ≡ and_then p (and_then q r) known n
either_at p q r known n =
    let a = p known n in
    let b = q a.known (n + a.count) in
    let e : r b.known (n + (a.count + b.count)) ≡ r b.known ((n + a.count) + b.count) = ap (r b.known) (omega arith) in
    let last = r b.known ((n + a.count) + b.count) in
    let c : (a.count + b.count) + last.count ≡ a.count + (b.count + last.count) = omega arith in
    findings (ap (λ g. g.known) e) (ap (λ g. (a.count + b.count) + g.count) e ∙ c)
    (ap (λ g. (a.declared ++ b.declared) ++ g.declared) e ∙ append_assoc a.declared b.declared _)
    (ap (λ g. (a.nodes ++ b.nodes) ++ g.nodes) e ∙ append_assoc a.nodes b.nodes _)
    (ap (λ g. (a.faults ++ b.faults) ++ g.faults) e ∙ append_assoc a.faults b.faults _)

turns : Turns and_then nothing
turns = record { alone = λ p i known n. alone_at p known n i; either = λ p q r i known n. either_at p q r known n i }

pub walks_then : {p q : Surveys} {a b c : Walk} → Walks p a b → Walks q b c → Walks (and_then p q) a c
walks_then {p} {q} {a} {b} {c} h k =
    let first = p a.known.entries (length a.places.items) in
    let e : q b.known.entries (length b.places.items) ≡ q first.known (length a.places.items + first.count) = ap₂ q h.known h.count in
    let last = q first.known (length a.places.items + first.count) in
    let counted : (length a.places.items + first.count) + last.count ≡ length a.places.items + (first.count + last.count) = omega arith in
    record {
      known = k.known ∙ ap (λ g. g.known) e;
      count = k.count ∙ ap₂ (λ n g. n + g.count) h.count e ∙ counted;
      declared = k.declared ∙ ap₂ (λ l g. l ++ g.declared) h.declared e ∙ append_assoc a.declared.items _ _;
      nodes = k.nodes ∙ ap₂ (λ l g. l ++ g.nodes) h.nodes e ∙ append_assoc a.found.nodes.items _ _;
      faults = k.faults ∙ ap₂ (λ l g. l ++ g.faults) h.faults e ∙ append_assoc a.found.faults.items _ _;
    }

-- one more of parts in turn
pub walks_push : {X : Type 0} (part : X → Surveys) (xs : List X) (i : ℕ) (x : X) {a b c : Walk} → i < length xs → x ≡ get_or xs i x
    → Walks (in_turn (map part (take i xs))) a b → Walks (part x) b c → Walks (in_turn (map part (take (i + 1) xs))) a c
walks_push part xs i x lt is h k = one_more Walks turns (λ p q a b c g l. walks_then g l) part xs i x lt is h k

-- Instances by their list

same_layer : (all : Solved) (modules : List WithPorts) (instances : Known) → AreInstances modules instances → (s : Stmt-F Surveys Surveys) → of_stmt_among all instances s ≡ of_stmt all modules s
same_layer all modules instances h (Stmt-F.Wire name typ) = refl
same_layer all modules instances h (Stmt-F.Reg name typ clock) = refl
same_layer all modules instances h (Stmt-F.RegReset name typ clock reset init) = refl
same_layer all modules instances h (Stmt-F.Mem memory) = refl
same_layer all modules instances h (Stmt-F.Inst name target) =
    ap (λ o. λ known n. declares (known_with known name.id (component_or_none o)) 0 (filled (component_or_none o).part.typ (map (slot_width all.widths) (component_or_none o).slots)) []) (h.found target.id)
same_layer all modules instances h (Stmt-F.Node name e) = refl
same_layer all modules instances h (Stmt-F.Connect left right) = refl
same_layer all modules instances h (Stmt-F.Invalidate target) = refl
same_layer all modules instances h (Stmt-F.When arms other) = refl
same_layer all modules instances h (Stmt-F.Skip place) = refl

pub same_walk : (all : Solved) (modules : List WithPorts) (instances : Known) → AreInstances modules instances → stmt_among all instances ≡ stmt_survey all modules
same_walk all modules instances h =
    let layers : of_stmt_among all instances ≡ of_stmt all modules = λ i s. same_layer all modules instances h s i in
    ap (λ f. fold-Stmt Surveys Surveys f (of_arm all)) layers
