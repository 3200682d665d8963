-- Behind the code of assignments, what is kept from cycle to cycle is found where it was.
use Rattle.std.proofs.Common.{◌≡◌, ⊎_elim, ℕ, ◌<◌, List, length, slice_get, Some, option_and_then, sym, subst, ap, ◌∙◌}
use Rattle.std.specs.Prelude.{Contains}
use Rattle.std.proofs.lemmas.Option.{slice_get_within}
use Rattle.ground_net.specs.declared.net.Net.{Net}
use Rattle.ground_net.specs.declared.net.Leaf.{Leaf}
use Rattle.ground_net.specs.declared.net.NetMemory.{NetMemory}
use Rattle.ground_net.specs.declared.net.ElementLeaf.{ElementLeaf}
use Rattle.ground_net.specs.declared.net.Role.{Role}
use Rattle.ground_net.specs.declared.net.Role.TheVariants as role
use Rattle.ground_net.specs.Cones.{A_memory, needed}
use Rattle.ground_net.specs.Reads.{IsAssigned}
use Rattle.ground_net.specs.Cycles.{Capture, captures, element_leaf}
use Rattle.ground_net.specs.Nets.{IsNet, shape_or_none}
use Rattle.ground_net.specs.Words.{captured_word}
use Rattle.code_draft.specs.declared.sources.Source.{Source}
use Rattle.code_draft.specs.declared.sources.Source.TheVariants as source
use Rattle.code_draft.specs.declared.sources.Elements.{Elements}
use Rattle.code_draft.specs.declared.sources.Sources.{Sources}
use Rattle.code_emit.specs.Emits.{leaf_source, element_source}
use Rattle.code_emit.proofs.Rowing.{some_of}
use Rattle.code_emit.proofs.Shaped.{some_is, some_same}
use Rattle.partition_code.specs.Sequences.{StandElsewhere}
use Rattle.partition_code.specs.FromNets.{IsFrom}
use Rattle.part_compile.specs.Complete.{AreAllOf}
use Rattle.code_memories.specs.Memories.{HasMemory, StandsInMemory, StandsCaptured}
use Rattle.code_memories.proofs.Numbered.{some_there}
use Rattle.part_compile.specs.Rows.{KnowsCone, AreKept}

captured_assigned : (r : Role) (n : ℕ) → r ≡ role.Captured n → r ≡ role.Assigned → ⊥
captured_assigned r n e f = cc

captured_register : (r : Role) (n k : ℕ) → r ≡ role.Captured n → r ≡ role.Register k → ⊥
captured_register r n k e f = cc

captured_input : (r : Role) (n k : ℕ) → r ≡ role.Captured n → r ≡ role.Input k → ⊥
captured_input r n k e f = cc

captured_clock : (r : Role) (n : ℕ) → r ≡ role.Captured n → r ≡ role.Clock → ⊥
captured_clock r n e f = cc

captured_same : (r : Role) (n k : ℕ) → r ≡ role.Captured n → r ≡ role.Captured k → k ≡ n
captured_same r n k e f = cc

module _ (net : Net) (w : IsNet net) (assignments : List ℕ) (first later : Sources) (all : AreAllOf net first) (are : (x : ℕ) → Contains assignments x → IsAssigned net.leaves x) (others : StandElsewhere assignments first later) where
  element_there : (m k : ℕ) (memory : NetMemory) (leaf : ElementLeaf) → slice_get net.memories m ≡ Some memory → slice_get memory.elements k ≡ Some leaf → StandsInMemory net later m k
  element_there m k memory leaf there at =
      let seen : element_leaf net m k ≡ Some leaf = ap (option_and_then (λ (it : NetMemory). slice_get it.elements k)) there ∙ at in
      let e = some_of (element_source first m k) (all.elements m k (some_is (element_leaf net m k) leaf seen)) in
      record {
        source = e.0;
        there = ap (λ (ms : List (List Elements)). option_and_then (λ (es : List Elements). slice_get es k) (slice_get ms m)) others.memories ∙ e.1;
        has = all.of.elements m k e.0 e.1;
      }

  by_source : (n : ℕ) (c : Capture) (leaf : Leaf) (src : Source) → slice_get net.leaves c.leaf ≡ Some leaf → leaf.role ≡ role.Captured n → leaf_source later c.leaf ≡ Some src → IsFrom net leaf src → StandsCaptured net later n c
  by_source n c leaf (source.Word kept) there is at h = record {
    kept = kept;
    there = at;
    shape = h.0 ∙ ap shape_or_none (sym there);
    word = ⊎_elim (λ q. absurd (captured_register leaf.role n h.1 is q.0)) (λ q. q.1 ∙ ap (captured_word net) (captured_same leaf.role n h.1 is q.0)) h.2;
  }
  by_source n c leaf (source.Input kept) there is at h = absurd (captured_input leaf.role n kept.number is h.1)
  by_source n c leaf (source.Constant value) there is at h = absurd (captured_clock leaf.role n is h.0)
  by_source n c leaf (source.Frame location) there is at h = absurd h

  captured_there : (n : ℕ) (c : Capture) → slice_get (captures net) n ≡ Some c → StandsCaptured net later n c
  captured_there n c there =
      let own = w.captured_leaves n c there in
      let free : IsAssigned net.leaves c.leaf → ⊥ = λ a. captured_assigned own.leaf.role n own.is (ap (λ (l : Leaf). l.role) (some_same (sym own.there ∙ a.there)) ∙ a.is) in
      let e = some_of (leaf_source first c.leaf) (all.leaves c.leaf (slice_get_within net.leaves c.leaf own.leaf own.there) free) in
      let h = all.of.leaves c.leaf e.0 e.1 in
      by_source n c own.leaf e.0 own.there own.is (others.leaves c.leaf (λ i. free (are c.leaf i)) ∙ e.1) (subst (λ l. IsFrom net l e.0) (some_same (sym h.there ∙ own.there)) h.is)

  pub are_kept : AreKept net later
  are_kept = record { elements = element_there; captured = captured_there }

-- the sources have what the code of a memory needs
pub has_memory : (net : Net) (S : Sources) (m n : ℕ) → m < length net.memories → n ≡ m → KnowsCone net (A_memory m) S → AreKept net S → HasMemory net S n
has_memory net S m n lt same known kept =
    let at = some_there net.memories m lt in
    subst (HasMemory net S) (sym same) (record {
      memory = at.0;
      there = at.1;
      leaves = λ x c. known.leaf x (λ a. needed c a);
      elements = λ k leaf e. kept.elements m k at.0 leaf at.1 e;
      captured = λ j c e number. kept.captured j c e;
    })
