-- The ports of a circuit are one, and so is its trace under a stimulus.
use Rattle.std.proofs.Common.{◌≡◌, ℕ, ◌≤◌, List, [], ◌∷◌, ◌++◌, map, refl, sym, ap, ap₂, ◌∙◌, subst}
use Rattle.std.specs.List.{flat_map, enumerate_from, AllZip}
use native.Mathlib.Bridge.{le_prop}
use Rattle.bit_words.specs.declared.value.Kind.{Kind}
use Rattle.fir_tree.specs.LeafNames.{Texts}
use Rattle.fir_meaning.specs.Components.{Design}
use Rattle.fir_meaning.specs.States.{first_state}
use Rattle.fir_meaning.proofs.Settling.{state_itself}
use Rattle.fir_meaning.proofs.Nexts.{rows_same}
use Rattle.ground_net.specs.declared.net.Net.{Net}
use Rattle.ground_net.specs.declared.net.Ports.{Ports}
use Rattle.ground_net.specs.declared.net.PortLeaf.{PortLeaf}
use Rattle.ground_net.specs.Reads.{IsOrder}
use Rattle.net_of_circuit.specs.FlatOrder.{all_leaves, flat_of}
use Rattle.net_laws.specs.Serves.{Serves}
use Rattle.net_laws.proofs.Traces.{no_loops, has_leaves}
use Rattle.stimulus.specs.declared.stimulus.Stimulus.{Stimulus}
use Rattle.trace_print.specs.Trace.{header_of}
use Rattle.circuit_run.specs.Ports.{PortPart, IsPortLeaf, ArePortsOf}
use Rattle.circuit_run.specs.Traces.{watched_names, line_of, IsTraceText}
use Rattle.circuit_run.proofs.Takes.{takes_leaves}

-- Ports

abbrev made : List ℕ → Kind → (width : ℕ) → ℕ → width ≤ 128 → PortLeaf
made name kind width leaf narrow = record { name = name; kind = kind; width = width; leaf = leaf; narrow = narrow }

by_width : (name : List ℕ) (kind : Kind) (width other leaf : ℕ) (n : width ≤ 128) (o : other ≤ 128) → width ≡ other → made name kind width leaf n ≡ made name kind other leaf o
by_width name kind width other leaf n o e = subst (λ x. (k : x ≤ 128) → made name kind width leaf n ≡ made name kind x leaf k) e (λ k. ap (made name kind width leaf) (le_prop n k)) o

-- leaves of one name, kind, width and number are the same
same_leaf : (p q : PortLeaf) → p.name ≡ q.name → p.kind ≡ q.kind → p.width ≡ q.width → p.leaf ≡ q.leaf → p ≡ q
same_leaf p q name kind width leaf =
    subst (λ x. p ≡ made x q.kind q.width q.leaf q.narrow) name
    (subst (λ x. p ≡ made p.name x q.width q.leaf q.narrow) kind
    (subst (λ x. p ≡ made p.name p.kind q.width x q.narrow) leaf (by_width p.name p.kind p.width q.width p.leaf p.narrow q.narrow width)))

all_same : (texts : Texts) (parts : List (ℕ × PortPart)) (ps qs : List PortLeaf) → AllZip (IsPortLeaf texts) parts ps → AllZip (IsPortLeaf texts) parts qs → ps ≡ qs
all_same texts [] [] [] a b = refl
all_same texts [] [] (q ∷ qs) a b = absurd b
all_same texts [] (p ∷ ps) qs a b = absurd a
all_same texts (x ∷ xs) [] qs a b = absurd a
all_same texts (x ∷ xs) (p ∷ ps) [] a b = absurd b
all_same texts (x ∷ xs) (p ∷ ps) (q ∷ qs) a b =
    ap₂ (λ l ls. l ∷ ls) (same_leaf p q (a.0.name ∙ sym b.0.name) (a.0.kind ∙ sym b.0.kind) (a.0.width ∙ sym b.0.width) (a.0.number ∙ sym b.0.number)) (all_same texts xs ps qs a.1 b.1)

pub ports_once : (texts : Texts) (design : Design) (ports other : Ports) → ArePortsOf texts design ports → ArePortsOf texts design other → ports ≡ other
ports_once texts design ports other a b =
    ap₂ (λ (both : List PortLeaf × List PortLeaf) (names : List (List ℕ)). record { inputs = both.0; watched = both.1; names = names })
    (ap₂ (λ (inputs watched : List PortLeaf). (inputs, watched)) (all_same texts _ ports.inputs other.inputs a.inputs b.inputs) (all_same texts _ ports.watched other.watched a.watched b.watched))
    (a.names ∙ sym b.names)

-- Traces

pub traces_once : (texts : Texts) (design : Design) (net : Net) (sequence : List ℕ) → Serves texts design net → IsOrder net sequence → (stimulus : Stimulus) (bytes other : List ℕ)
    → IsTraceText texts design stimulus bytes → IsTraceText texts design stimulus other → bytes ≡ other
traces_once texts design net sequence serves order stimulus bytes other a b =
    let rows = rows_same design (map flat_of (all_leaves serves.of.placed)) serves.has
    (no_loops texts design net serves.of serves.lists serves.has serves.typed sequence order)
    (has_leaves texts design net serves.of serves.lists serves.has serves.typed sequence order) (takes_leaves texts design net serves) (state_itself design first_state) a.trace b.trace in
    a.is ∙ (ap (λ rs. header_of (watched_names texts design) ++ flat_map line_of (enumerate_from 0 rs)) rows ∙ sym b.is)
