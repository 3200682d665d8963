-- The leaves of the ports of a memory.
use Rattle.std.proofs.Common.{◌≡◌, ℕ, ◌+◌, ◌<◌, ◌≤◌, true, false, Bool, List, [], ◌∷◌, ◌++◌, flat_map, length, slice_get, Option, Some, None, option_map, option_and_then, All, get_or, refl, sym, subst, ap, ap₂, ◌∙◌, arith, if◌then◌else◌, true≢false}
use Rattle.std.specs.Prelude.{Contains, IsSome}
use Rattle.std.proofs.lemmas.Option.{slice_get-get_or}
use Rattle.bit_words.specs.declared.value.Kind.TheVariants.{Unsigned}
use Rattle.ground_net.specs.declared.net.Net.{Net}
use Rattle.ground_net.specs.declared.net.NetMemory.{NetMemory}
use Rattle.ground_net.specs.declared.net.NetPort.{NetPort}
use Rattle.ground_net.specs.declared.net.NetWrite.{NetWrite}
use Rattle.ground_net.specs.declared.net.NetRead.{NetRead}
use Rattle.ground_net.specs.declared.net.ElementLeaf.{ElementLeaf}
use Rattle.ground_net.specs.Cones.{A_memory, needs, needs_of_memory, port_needs, reads_need, or_no_leaf}
use Rattle.ground_net.specs.Shapes.{Shape, shaped}
use Rattle.ground_net.specs.Nets.{IsNet, IsPort, IsUnsigned, AreElements, table_of, leaf_shape, element_shape}
use Rattle.code_draft.specs.declared.sources.Sources.{Sources}
use Rattle.code_emit.specs.Emits.{sources_table, element_source, elements_shape}
use Rattle.code_memories.specs.declared.leaf.MemoryLeaf.{MemoryLeaf}
use Rattle.code_memories.specs.NextReads.{IsUInt, HasReader, HasWriter, HasCapture}
use Rattle.code_memories.specs.Memories.{HasMemory, StandsInMemory}
use Rattle.code_memories.proofs.Numbered.{some_same, none_some, in_head, in_tail, in_left, in_right, in_flat_map, in_place, some_there, below_there}

no_write : (o : Option NetWrite) → o ≡ None → IsSome o → ⊥
no_write None e h = true≢false (sym h)
no_write (Some write) e h = none_some (sym e)

module _ (net : Net) (S : Sources) (m : ℕ) (w : IsNet net) (h : HasMemory net S m) where
  needed : (x : ℕ) → Contains (flat_map (λ port. port_needs port port.write) h.memory.ports) x → (sources_table S).leaf x ≡ (table_of net).leaf x
  needed x c = h.leaves x (subst (λ o. Contains (needs_of_memory o) x) (sym h.there) c)

  module _ (p : ℕ) (port : NetPort) (listed : slice_get h.memory.ports p ≡ Some port) where
    its_port : IsPort net h.memory port
    its_port = w.memories m p h.memory port h.there listed

    from_port : (x : ℕ) → Contains (port_needs port port.write) x → (sources_table S).leaf x ≡ (table_of net).leaf x
    from_port x c = needed x (in_flat_map (λ (q : NetPort). port_needs q q.write) h.memory.ports p port x listed c)

    unsigned_at : (x : ℕ) → IsUnsigned net x → (sources_table S).leaf x ≡ (table_of net).leaf x → IsUInt (sources_table S) x
    unsigned_at x u e = record {
      width = u.leaf.width;
      there = e ∙ (ap (option_map leaf_shape) u.there ∙ ap (λ k. Some (shaped k u.leaf.width)) u.is);
    }

    module _ (write : NetWrite) (writes : port.write ≡ Some write) where
      in_needs : (x : ℕ) → Contains (port.addr ∷ port.en ∷ (or_no_leaf port.mode ++ (write.leaves ++ write.masks))) x → (sources_table S).leaf x ≡ (table_of net).leaf x
      in_needs x c = from_port x (subst (λ o. Contains (port_needs port o) x) (sym writes) c)

      behind : (x : ℕ) → Contains (or_no_leaf port.mode ++ (write.leaves ++ write.masks)) x → (sources_table S).leaf x ≡ (table_of net).leaf x
      behind x c = in_needs x (in_tail port.addr x (port.en ∷ (or_no_leaf port.mode ++ (write.leaves ++ write.masks))) (in_tail port.en x (or_no_leaf port.mode ++ (write.leaves ++ write.masks)) c))

      mode_in : (x : ℕ) → port.mode ≡ Some x → Contains (or_no_leaf port.mode ++ (write.leaves ++ write.masks)) x
      mode_in x e = in_left (or_no_leaf port.mode) (write.leaves ++ write.masks) x (subst (λ o. Contains (or_no_leaf o) x) (sym e) (in_head x []))

      writer_reads : HasReader (sources_table S) port
      writer_reads = record {
        addr = unsigned_at port.addr its_port.addr (in_needs port.addr (in_head port.addr (port.en ∷ (or_no_leaf port.mode ++ (write.leaves ++ write.masks)))));
        en = unsigned_at port.en its_port.en (in_needs port.en (in_tail port.addr port.en (port.en ∷ (or_no_leaf port.mode ++ (write.leaves ++ write.masks))) (in_head port.en (or_no_leaf port.mode ++ (write.leaves ++ write.masks)))));
        mode = λ x e. unsigned_at x (its_port.mode x e) (behind x (mode_in x e));
      }

      pub has_writer : (k : ℕ) (leaf : ElementLeaf) → slice_get h.memory.elements k ≡ Some leaf → HasWriter (sources_table S) k (element_shape leaf) port write
      has_writer k leaf e =
          let els = its_port.written write writes in
          let many = its_port.masks write writes in
          record {
            reader = writer_reads;
            mask = λ x at. unsigned_at x (many.1 k x at) (behind x (in_right (or_no_leaf port.mode) (write.leaves ++ write.masks) x (in_right write.leaves write.masks x (in_place write.masks k x at))));
            source = λ x at.
                behind x (in_right (or_no_leaf port.mode) (write.leaves ++ write.masks) x (in_left write.leaves write.masks x (in_place write.leaves k x at)))
                ∙ els.shapes k x leaf at e;
            both = λ x at.
                let lt = below_there write.masks k x at in
                let one = els.counted in
                let two = many.0 in
                some_there write.leaves k (omega (arith, lt, one, two));
          }

    -- a port whose reads are captured
    module _ (read : NetRead) (reads : port.read ≡ Some read) (late : read.captured ≡ true) where
      by_write : (o : Option NetWrite) → port.write ≡ o → HasReader (sources_table S) port
      by_write (Some write) e = writer_reads write e
      by_write None e =
          let only : port_needs port port.write ≡ port.addr ∷ port.en ∷ [] = ap (port_needs port) e ∙ (ap (reads_need port) reads ∙ ap (λ b. if b then port.addr ∷ port.en ∷ [] else []) late) in
          record {
            addr = unsigned_at port.addr its_port.addr (from_port port.addr (subst (λ xs. Contains xs port.addr) (sym only) (in_head port.addr (port.en ∷ []))));
            en = unsigned_at port.en its_port.en (from_port port.en (subst (λ xs. Contains xs port.en) (sym only) (in_tail port.addr port.en (port.en ∷ []) (in_head port.en []))));
            mode = λ x at. absurd (no_write port.write e (its_port.of_both x at).0);
          }

      pub has_reader : HasReader (sources_table S) port
      has_reader = by_write port.write refl

  module _ (p : ℕ) (port : NetPort) (listed : slice_get h.memory.ports p ≡ Some port) (read : NetRead) (reads : port.read ≡ Some read) (late : read.captured ≡ true) where
    pub has_capture : (of : MemoryLeaf) (leaf : ElementLeaf) → of.memory ≡ m → slice_get h.memory.elements of.number ≡ Some leaf → shaped of.kind of.width ≡ element_shape leaf → HasCapture (sources_table S) h.memory port of
    has_capture of leaf same e shape =
        let at = h.elements of.number leaf e in
        let found : at.has.memory ≡ h.memory = some_same (sym at.has.there ∙ h.there) in
        let leaf_is : at.has.leaf ≡ leaf = some_same (sym at.has.at ∙ (ap (λ (y : NetMemory). slice_get y.elements of.number) found ∙ e)) in
        record {
          reader = has_reader p port listed read reads late;
          element = ap (λ n. (sources_table S).element n of.number) same ∙ (ap (option_map elements_shape) at.there ∙ ap Some (at.has.shape ∙ (ap element_shape leaf_is ∙ sym shape)));
          writers = λ q d lt write is.
              let listed_q : slice_get h.memory.ports q ≡ Some (get_or h.memory.ports q d) = slice_get-get_or h.memory.ports q d lt in
              subst (λ t. HasWriter (sources_table S) of.number t (get_or h.memory.ports q d) write) (sym shape) (writer_of q (get_or h.memory.ports q d) listed_q write is of.number leaf e);
        }
      where
        writer_of : (q : ℕ) (other : NetPort) → slice_get h.memory.ports q ≡ Some other → (write : NetWrite) → other.write ≡ Some write → (k : ℕ) (leaf : ElementLeaf) → slice_get h.memory.elements k ≡ Some leaf
            → HasWriter (sources_table S) k (element_shape leaf) other write
        writer_of q other at write is k leaf e = has_writer q other at write is k leaf e
