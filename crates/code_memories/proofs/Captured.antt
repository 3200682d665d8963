-- What the captured reads of a memory leave, port by port.
use Rattle.std.proofs.Common.{◌≡◌, ◌==◌, ℕ, ◌+◌, Bool, true, false, List, [], ◌∷◌, ◌++◌, map, flat_map, slice_get, Option, Some, None, refl, sym, subst, ap, ap₂, ◌∙◌, arith, if◌then◌else◌, ⊎_elim}
use Rattle.std.proofs.lemmas.Bool.{cases_eq, cases_Bool}
use Rattle.std.proofs.lemmas.Grind.{common_steps}
use Rattle.phase_core.specs.declared.model.Publication.{Publication}
use Rattle.prim_ops.specs.Values.{fitted}
use Rattle.ground_net.specs.declared.net.Net.{Net}
use Rattle.ground_net.specs.declared.net.NetMemory.{NetMemory}
use Rattle.ground_net.specs.declared.net.NetPort.{NetPort}
use Rattle.ground_net.specs.declared.net.NetRead.{NetRead}
use Rattle.ground_net.specs.Grounds.{Instant}
use Rattle.ground_net.specs.Cones.{numbered}
use Rattle.ground_net.specs.Cycles.{NetState, Capture, captures, captured_by, next, next_of_capture}
use Rattle.ground_net.specs.Words.{captured_word}
use Rattle.flat_code.specs.Meaning.{stored}
use Rattle.code_draft.specs.declared.sources.Sources.{Sources}
use Rattle.code_emit.specs.Emits.{leaf_source}
use Rattle.partition_code.specs.Effects.{capture_shape, capture_told, captures_told}
use Rattle.code_memories.specs.Memories.{HasMemory, word_of, capture_of, capture_left}
use Rattle.code_memories.proofs.Numbered.{some_same, each_numbered, one_numbered, nothing_left, flat_twice, flat_mapped, to_flat_map, at_numbered, at_map}

numbers_same : (a b : ℕ) → (a == b) ≡ true → a ≡ b
numbers_same a b e = grind (arith, common_steps)

not_same : (a b : ℕ) → (a ≡ b → ⊥) → (a == b) ≡ false
not_same a b ne = ⊎_elim (λ e. absurd (ne e)) (λ n. grind (arith, common_steps, n)) (cases_eq a b)

abbrev pub of_memory : ℕ × NetMemory → List Capture
of_memory both = flat_map (λ port. captured_by both.0 both.1 port port.read) both.1.ports

module _ (net : Net) (S : Sources) (m : ℕ) (st : NetState) (instant : Instant) (h : HasMemory net S m) where
  abbrev left : Capture → List Publication
  left = capture_left net S st instant m

  as_left : (n : ℕ) (c : Capture) → slice_get (captures net) n ≡ Some c → capture_told net st instant m (n, c) ≡ left c
  as_left n c e = by_test (c.number == m) refl
    where
      by_test : (b : Bool) → (c.number == m) ≡ b
          → (if b then stored (captured_word net n) (fitted (capture_shape net c).kind (capture_shape net c).width ((next net st instant).captured n)) else [])
          ≡ (if b then stored (word_of (leaf_source S c.leaf)) (fitted (capture_shape net c).kind (capture_shape net c).width (next_of_capture st instant (Some c))) else [])
      by_test false t = refl
      by_test true t =
          let s = h.captured n c e (numbers_same c.number m t) in
          ap₂ (λ at i. stored at (fitted (capture_shape net c).kind (capture_shape net c).width i)) (sym s.word ∙ sym (ap word_of s.there)) (ap (next_of_capture st instant) e)

  -- of another memory nothing is left
  other_left : (j : ℕ) (y : NetMemory) → (j ≡ m → ⊥) → flat_map left (of_memory (j, y)) ≡ []
  other_left j y ne =
      flat_twice left (λ (port : NetPort). captured_by j y port port.read) y.ports
      ∙ nothing_left (λ (port : NetPort). flat_map left (captured_by j y port port.read)) y.ports (λ port. of_port port port.read)
    where
      of_captured : (port : NetPort) (read : NetRead) (b : Bool) → flat_map left (if b then map (capture_of j y port read) (numbered read.leaves) else []) ≡ []
      of_captured port read false = refl
      of_captured port read true =
          flat_mapped left (capture_of j y port read) (numbered read.leaves)
          ∙ nothing_left (λ both. left (capture_of j y port read both)) (numbered read.leaves) (λ both.
          ap (λ b. if b then stored (word_of (leaf_source S both.1)) (fitted (capture_shape net (capture_of j y port read both)).kind (capture_shape net (capture_of j y port read both)).width (next_of_capture st instant (Some (capture_of j y port read both)))) else []) (not_same j m ne))

      of_port : (port : NetPort) (o : Option NetRead) → flat_map left (captured_by j y port o) ≡ []
      of_port port None = refl
      of_port port (Some read) = of_captured port read read.captured

  -- port by port
  pub by_ports : captures_told net st instant m ≡ flat_map (λ port. flat_map left (captured_by m h.memory port port.read)) h.memory.ports
  by_ports =
      each_numbered (capture_told net st instant m) left (captures net) as_left
      ∙ (flat_twice left of_memory (numbered net.memories)
      ∙ (one_numbered (λ both. flat_map left (of_memory both)) net.memories m h.memory h.there other_left
      ∙ flat_twice left (λ (port : NetPort). captured_by m h.memory port port.read) h.memory.ports))

  -- A captured read is one of the net's.
  pub capture_there : (p k x : ℕ) (port : NetPort) (read : NetRead) → slice_get h.memory.ports p ≡ Some port → port.read ≡ Some read → read.captured ≡ true → slice_get read.leaves k ≡ Some x
      → (n : ℕ) × (slice_get (captures net) n ≡ Some (capture_of m h.memory port read (k, x)))
  capture_there p k x port read listed reads late at =
      let c = capture_of m h.memory port read (k, x) in
      let all : captured_by m h.memory port port.read ≡ map (capture_of m h.memory port read) (numbered read.leaves)
      = ap (captured_by m h.memory port) reads ∙ ap (λ b. if b then map (capture_of m h.memory port read) (numbered read.leaves) else []) late in
      let one : slice_get (captured_by m h.memory port port.read) k ≡ Some c = ap (λ cs. slice_get cs k) all ∙ at_map (capture_of m h.memory port read) (numbered read.leaves) k (k, x) (at_numbered read.leaves k x at) in
      let of_this = to_flat_map (λ (q : NetPort). captured_by m h.memory q q.read) h.memory.ports p k port c listed one in
      to_flat_map of_memory (numbered net.memories) m of_this.0 (m, h.memory) c (at_numbered net.memories m h.memory h.there) of_this.1
