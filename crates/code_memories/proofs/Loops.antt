-- Captured reads, leaf by leaf and port by port.
use Rattle.std.proofs.Common.{◌≡◌, ℕ, ◌+◌, ◌<◌, ◌≤◌, true, false, List, [], ◌∷◌, ◌++◌, map, flat_map, take, length, slice_get, Some, None, sym, subst, ap, ◌∙◌, arith, if◌then◌else◌}
use Rattle.std.proofs.lemmas.List.{take_all, take_more, append-nil}
use Rattle.std.proofs.lemmas.Option.{slice_get-get_or}
use Rattle.bit_words.specs.Values.{integer_of}
use Rattle.phase_core.specs.declared.model.Publication.{Publication}
use Rattle.prim_ops.specs.Ports.{Held, read_by_port}
use Rattle.ground_net.specs.declared.ground.Ground.{Ground}
use Rattle.ground_net.specs.declared.net.Net.{Net}
use Rattle.ground_net.specs.declared.net.NetMemory.{NetMemory}
use Rattle.ground_net.specs.declared.net.NetPort.{NetPort}
use Rattle.ground_net.specs.declared.net.NetRead.{NetRead}
use Rattle.ground_net.specs.declared.net.ElementLeaf.{ElementLeaf}
use Rattle.ground_net.specs.Grounds.{Instant, value}
use Rattle.ground_net.specs.Cones.{numbered, A_memory}
use Rattle.ground_net.specs.Shapes.{shaped, shape, Table, HasShapes}
use Rattle.ground_net.specs.Cycles.{NetState, Capture, captured_by, taken, next_of_memory, shown}
use Rattle.ground_net.specs.Nets.{IsNet, element_shape}
use Rattle.flat_code.specs.declared.instr.Location.{Location}
use Rattle.flat_code.specs.Meaning.{location_shape}
use Rattle.code_draft.specs.declared.draft.Draft.{Draft}
use Rattle.code_draft.specs.declared.sources.Sources.{Sources}
use Rattle.code_emit.specs.Emits.{sources_table, leaf_source, Emits}
use Rattle.code_draft.specs.Publishing.{Publishes}
use Rattle.partition_code.specs.Effects.{sinks_told, memory_told, writes_told}
use Rattle.code_memories.specs.Telling.{PublishesSinks}
use Rattle.code_memories.specs.declared.leaf.MemoryLeaf.{MemoryLeaf}
use Rattle.code_memories.specs.NextReads.{HasCapture, ShowsHeld}
use Rattle.code_memories.specs.Memories.{HasMemory, word_of, capture_of, capture_left}
use Rattle.code_memories.proofs.Numbered.{some_same, numbered_long, some_there}
use Rattle.code_memories.proofs.Captured.{by_ports}
use Rattle.code_memories.specs.Writes.{PublishesLeft}
use Rattle.code_memories.proofs.Targets.{left_as, left_then, nothing_left_yet}
use Rattle.code_memories.proofs.Written.{flat_more}
use Rattle.code_memories.specs.Captures.{ReadsAt, IsKept}
use Rattle.code_memories.proofs.Published.{is_kept, has, captured, capture_more}

abbrev pub Reads : NetMemory → NetPort → NetRead → MemoryLeaf → Ground → Type 0
Reads memory port read of g = (table : Table) (instant : Instant) (held : Held ℕ) (r : NetRead) → HasCapture table memory port of → HasShapes table instant → ShowsHeld instant memory of held → port.read ≡ Some r
    → integer_of (value g instant) ≡ read_by_port memory.depth (taken read.after held (next_of_memory instant (Some memory) held)) (shown instant port) of.number

module _ (net : Net) (S : Sources) (m : ℕ) (w : IsNet net) (h : HasMemory net S m) (memory : NetMemory) (there : slice_get net.memories m ≡ Some memory) where
  same_memory : (other : NetMemory) → slice_get net.memories m ≡ Some other → memory ≡ other
  same_memory other e = some_same (sym there ∙ e)

  abbrev pub left : NetState → Instant → Capture → List Publication
  left st instant = capture_left net S st instant m

  module _ (p : ℕ) (port : NetPort) (listed : slice_get memory.ports p ≡ Some port) where
    same_port : (other : NetMemory) (its : NetPort) → slice_get net.memories m ≡ Some other → slice_get other.ports p ≡ Some its → port ≡ its
    same_port other its e f = some_same (sym listed ∙ (ap (λ (y : NetMemory). slice_get y.ports p) (same_memory other e) ∙ f))

    module _ (read : NetRead) (reads : port.read ≡ Some read) where
      pub same_count : (other : NetMemory) (its : NetPort) (rd : NetRead) → slice_get net.memories m ≡ Some other → slice_get other.ports p ≡ Some its → its.read ≡ Some rd → length read.leaves ≡ length rd.leaves
      same_count other its rd e f g = ap (λ (r : NetRead). length r.leaves) (some_same (sym reads ∙ (ap (λ (q : NetPort). q.read) (same_port other its e f) ∙ g)))

      module _ (k x : ℕ) (leaf : ElementLeaf) (at : slice_get read.leaves k ≡ Some x) (element : slice_get memory.elements k ≡ Some leaf) (r : ReadsAt net m p k) where
        same : memory ≡ h.memory
        same = same_memory h.memory h.there

        listed0 : slice_get h.memory.ports p ≡ Some port
        listed0 = sym (ap (λ (y : NetMemory). slice_get y.ports p) same) ∙ listed

        element0 : slice_get h.memory.elements k ≡ Some leaf
        element0 = sym (ap (λ (y : NetMemory). slice_get y.elements k) same) ∙ element

        late : read.captured ≡ true
        late =
            let its : port ≡ r.port = same_port r.memory r.port r.there r.listed in
            let same_read : read ≡ r.read = some_same (sym reads ∙ (ap (λ (q : NetPort). q.read) its ∙ r.reads)) in
            ap (λ (q : NetRead). q.captured) same_read ∙ r.late

        pub kept_here : IsKept S x
        kept_here = is_kept net S m w h p k x port read leaf listed0 reads late at element0

        pub has_here : (of : MemoryLeaf) → of.memory ≡ m → of.number ≡ k → shaped of.kind of.width ≡ element_shape leaf → HasCapture (sources_table S) memory port of
        has_here of a b s = subst (λ (y : NetMemory). HasCapture (sources_table S) y port of) (sym same) (has net S m w h p k x port read leaf listed0 reads late at element0 of a b s)

        pub capture_done : (of : MemoryLeaf) (g : Ground) (old mid new : Draft) (s : Location) (word : ℕ) → of.memory ≡ m → of.number ≡ k → shaped of.kind of.width ≡ element_shape leaf → Reads memory port read of g
            → shape g (sources_table S) ≡ Some (shaped of.kind of.width) → shape g (sources_table S) ≡ Some (location_shape s) → Emits S g old mid s → Publishes mid new word s → word ≡ word_of (leaf_source S x)
            → (other : NetMemory) (its : NetPort) (rd : NetRead) (sh : ℕ) → slice_get net.memories m ≡ Some other → slice_get other.ports p ≡ Some its → its.read ≡ Some rd → slice_get rd.leaves k ≡ Some sh
            → PublishesLeft net S (λ st instant. left st instant (capture_of m other its rd (k, sh))) old new
        capture_done of g old mid new s word a b e values sh1 sh2 emits publishes is_word other its rd sh f1 f2 f3 f4 =
            let its_is : port ≡ its = same_port other its f1 f2 in
            let rd_is : read ≡ rd = some_same (sym reads ∙ (ap (λ (q : NetPort). q.read) its_is ∙ f3)) in
            let sh_is : x ≡ sh = some_same (sym at ∙ (ap (λ (q : NetRead). slice_get q.leaves k) rd_is ∙ f4)) in
            let other_is : h.memory ≡ other = sym same ∙ same_memory other f1 in
            let t = captured net S m w h p k x port read leaf listed0 reads late at element0 of g old mid new s word a b e (subst (λ (y : NetMemory). Reads y port read of g) same values) sh1 sh2 emits publishes is_word in
            subst (λ (y : NetMemory). PublishesLeft net S (λ st instant. left st instant (capture_of m y its rd (k, sh))) old new) other_is
            (subst (λ (q : NetPort). PublishesLeft net S (λ st instant. left st instant (capture_of m h.memory q rd (k, sh))) old new) its_is
            (subst (λ (q : NetRead). PublishesLeft net S (λ st instant. left st instant (capture_of m h.memory port q (k, sh))) old new) rd_is
            (subst (λ y. PublishesLeft net S (λ st instant. left st instant (capture_of m h.memory port read (k, y))) old new) sh_is t)))

      pub capture_step : (k : ℕ) (a b c : Draft) → k < length read.leaves → PublishesLeft net S (λ st instant. flat_map (left st instant) (map (capture_of m memory port read) (take k (numbered read.leaves)))) a b
          → ((other : NetMemory) (its : NetPort) (rd : NetRead) (sh : ℕ) → slice_get net.memories m ≡ Some other → slice_get other.ports p ≡ Some its → its.read ≡ Some rd → slice_get rd.leaves k ≡ Some sh
          → PublishesLeft net S (λ st instant. left st instant (capture_of m other its rd (k, sh))) b c)
          → PublishesLeft net S (λ st instant. flat_map (left st instant) (map (capture_of m memory port read) (take (k + 1) (numbered read.leaves)))) a c
      capture_step k a b c lt inv called =
          let x = some_there read.leaves k lt in
          left_as net S (λ st instant. flat_map (left st instant) (map (capture_of m memory port read) (take k (numbered read.leaves))) ++ left st instant (capture_of m memory port read (k, x.0)))
          (λ st instant. flat_map (left st instant) (map (capture_of m memory port read) (take (k + 1) (numbered read.leaves)))) a c
          (λ words inputs F instant st sees shows. capture_more net S m k x.0 memory port read st instant x.1)
          (left_then net S (λ st instant. flat_map (left st instant) (map (capture_of m memory port read) (take k (numbered read.leaves)))) (λ st instant. left st instant (capture_of m memory port read (k, x.0))) a b c inv
          (called memory port read x.0 there listed reads x.1))

    reads_here : (a b : Draft) → PublishesLeft net S (λ st instant. flat_map (left st instant) (captured_by m memory port port.read)) a b → (other : NetMemory) (its : NetPort) → slice_get net.memories m ≡ Some other → slice_get other.ports p ≡ Some its
        → PublishesLeft net S (λ st instant. flat_map (left st instant) (captured_by m other its its.read)) a b
    reads_here a b t other its e f =
        subst (λ (y : NetMemory). PublishesLeft net S (λ st instant. flat_map (left st instant) (captured_by m y its its.read)) a b) (same_memory other e)
        (subst (λ (q : NetPort). PublishesLeft net S (λ st instant. flat_map (left st instant) (captured_by m memory q q.read)) a b) (same_port other its e f) t)

    pub no_reads : (a : Draft) → port.read ≡ None → (other : NetMemory) (its : NetPort) → slice_get net.memories m ≡ Some other → slice_get other.ports p ≡ Some its
        → PublishesLeft net S (λ st instant. flat_map (left st instant) (captured_by m other its its.read)) a a
    no_reads a none = reads_here a a (left_as net S (λ st instant. []) (λ st instant. flat_map (left st instant) (captured_by m memory port port.read)) a a
        (λ words inputs F instant st sees shows. sym (ap (λ o. flat_map (left st instant) (captured_by m memory port o)) none)) (nothing_left_yet net S a))

    pub no_captured : (read : NetRead) (a : Draft) → port.read ≡ Some read → read.captured ≡ false → (other : NetMemory) (its : NetPort) → slice_get net.memories m ≡ Some other → slice_get other.ports p ≡ Some its
        → PublishesLeft net S (λ st instant. flat_map (left st instant) (captured_by m other its its.read)) a a
    no_captured read a reads early = reads_here a a (left_as net S (λ st instant. []) (λ st instant. flat_map (left st instant) (captured_by m memory port port.read)) a a
        (λ words inputs F instant st sees shows.
        sym (ap (λ o. flat_map (left st instant) (captured_by m memory port o)) reads ∙ ap (λ b. flat_map (left st instant) (if b then map (capture_of m memory port read) (numbered read.leaves) else [])) early))
        (nothing_left_yet net S a))

    pub reads_done : (read : NetRead) (n : ℕ) (a b : Draft) → port.read ≡ Some read → read.captured ≡ true → length read.leaves ≤ n
        → PublishesLeft net S (λ st instant. flat_map (left st instant) (map (capture_of m memory port read) (take n (numbered read.leaves)))) a b
        → (other : NetMemory) (its : NetPort) → slice_get net.memories m ≡ Some other → slice_get other.ports p ≡ Some its → PublishesLeft net S (λ st instant. flat_map (left st instant) (captured_by m other its its.read)) a b
    reads_done read n a b reads late long inv =
        let one = numbered_long read.leaves in
        let all : take n (numbered read.leaves) ≡ numbered read.leaves = take_all n (numbered read.leaves) (omega (arith, one, long)) in
        reads_here a b (left_as net S (λ st instant. flat_map (left st instant) (map (capture_of m memory port read) (take n (numbered read.leaves)))) (λ st instant. flat_map (left st instant) (captured_by m memory port port.read)) a b
        (λ words inputs F instant st sees shows.
        ap (λ xs. flat_map (left st instant) (map (capture_of m memory port read) xs)) all
        ∙ sym (ap (λ o. flat_map (left st instant) (captured_by m memory port o)) reads ∙ ap (λ b. flat_map (left st instant) (if b then map (capture_of m memory port read) (numbered read.leaves) else [])) late)) inv)

  abbrev pub of_port : NetState → Instant → NetPort → List Publication
  of_port st instant port = flat_map (left st instant) (captured_by m memory port port.read)

  pub port_step : (p : ℕ) (a b c : Draft) → p < length memory.ports → PublishesLeft net S (λ st instant. flat_map (of_port st instant) (take p memory.ports)) a b
      → ((other : NetMemory) (its : NetPort) → slice_get net.memories m ≡ Some other → slice_get other.ports p ≡ Some its → PublishesLeft net S (λ st instant. flat_map (left st instant) (captured_by m other its its.read)) b c)
      → PublishesLeft net S (λ st instant. flat_map (of_port st instant) (take (p + 1) memory.ports)) a c
  port_step p a b c lt inv called =
      let port = some_there memory.ports p lt in
      left_as net S (λ st instant. flat_map (of_port st instant) (take p memory.ports) ++ of_port st instant port.0) (λ st instant. flat_map (of_port st instant) (take (p + 1) memory.ports)) a c
      (λ words inputs F instant st sees shows. flat_more (of_port st instant) (take p memory.ports) port.0 ∙ ap (flat_map (of_port st instant)) (sym (one_more memory.ports p port.0 port.1 lt)))
      (left_then net S (λ st instant. flat_map (of_port st instant) (take p memory.ports)) (λ st instant. of_port st instant port.0) a b c inv (called memory port.0 there port.1))
    where
      one_more : (xs : List NetPort) (k : ℕ) (x : NetPort) → slice_get xs k ≡ Some x → k < length xs → take (k + 1) xs ≡ take k xs ++ x ∷ []
      one_more xs k x e lt = take_more xs k x lt ∙ ap (λ y. take k xs ++ y ∷ []) (some_same (sym (slice_get-get_or xs k x lt) ∙ e))

  pub captures_done : (n : ℕ) (a b : Draft) → length memory.ports ≤ n → PublishesLeft net S (λ st instant. flat_map (of_port st instant) (take n memory.ports)) a b
      → (other : NetMemory) → slice_get net.memories m ≡ Some other → PublishesLeft net S (λ st instant. flat_map (λ port. flat_map (left st instant) (captured_by m other port port.read)) other.ports) a b
  captures_done n a b long inv other e =
      subst (λ (y : NetMemory). PublishesLeft net S (λ st instant. flat_map (λ port. flat_map (left st instant) (captured_by m y port port.read)) y.ports) a b) (same_memory other e)
      (subst (λ xs. PublishesLeft net S (λ st instant. flat_map (of_port st instant) xs) a b) (take_all n memory.ports (omega (arith, long))) inv)

-- the writes, and then the captured reads
pub memory_done : (net : Net) (S : Sources) (m : ℕ) (h : HasMemory net S m) (a b c : Draft)
    → ((memory : NetMemory) → slice_get net.memories m ≡ Some memory → PublishesLeft net S (λ st instant. writes_told net instant m memory) a b)
    → ((memory : NetMemory) → slice_get net.memories m ≡ Some memory → PublishesLeft net S (λ st instant. flat_map (λ port. flat_map (capture_left net S st instant m) (captured_by m memory port port.read)) memory.ports) b c)
    → PublishesSinks net S (A_memory m ∷ []) a c
memory_done net S m h a b c writes reads is srcs have =
    let V = λ (st : NetState) (instant : Instant). writes_told net instant m h.memory in
    let W = λ (st : NetState) (instant : Instant). flat_map (λ port. flat_map (capture_left net S st instant m) (captured_by m h.memory port port.read)) h.memory.ports in
    left_as net S (λ st instant. V st instant ++ W st instant) (λ st instant. sinks_told net st instant (A_memory m ∷ [])) a c
    (λ words inputs F instant st sees shows.
    ap (λ ps. writes_told net instant m h.memory ++ ps) (sym (by_ports net S m st instant h))
    ∙ (sym (append-nil (memory_told net st instant m (Some h.memory))) ∙ ap (λ o. memory_told net st instant m o ++ []) (sym h.there)))
    (left_then net S V W a b c (writes h.memory h.there) (reads h.memory h.there)) is srcs
