-- What captured reads evaluate fits.
use Rattle.std.proofs.Common.{◌≡◌, ℕ, zero, suc, ◌+◌, ◌<◌, ◌≤◌, Bool, true, false, if◌then◌else◌, List, [], ◌∷◌, ◌++◌, map, zip, fold, length, slice_get, slice_index_or, Option, Some, None, IsSome, Contains, sum_by, pos, refl, sym, subst, ap, arith, ⊎_elim}
use Rattle.std.specs.List.{range_with_len, AllByRecursion}
use Rattle.std.proofs.lemmas.Bool.{false≢true}
use Rattle.std.proofs.lemmas.List.Sums.{sum_by-cons}
use Rattle.std.proofs.lemmas.List.Elements.{Contains-append_left, Contains-append_right, Contains-append_cases}
use Rattle.bit_words.specs.declared.value.Value.{Value}
use Rattle.bit_words.specs.declared.value.Kind.{Kind}
use Rattle.bit_words.specs.declared.value.Kind.TheVariants.{Unsigned}
use Rattle.prim_ops.specs.Values.{fitted}
use Rattle.prim_ops.specs.declared.operation.PrimOp.TheVariants as op
use Rattle.ground_net.specs.declared.ground.Ground.{Ground}
use Rattle.ground_net.specs.declared.ground.Ground.TheVariants.{Const, Leaf, Mux, Load}
use Rattle.ground_net.specs.declared.net.Net.{Net}
use Rattle.ground_net.specs.declared.net.NetMemory.{NetMemory}
use Rattle.ground_net.specs.declared.net.NetPort.{NetPort}
use Rattle.ground_net.specs.declared.net.NetWrite.{NetWrite}
use Rattle.ground_net.specs.declared.net.NetRead.{NetRead}
use Rattle.ground_net.specs.declared.net.CutPart.{CutPart}
use Rattle.ground_net.specs.Grounds.{mentions}
use Rattle.ground_net.specs.Cones.{A_memory, needs_of_memory, numbered, or_no_leaf, reads_need, port_needs, memory_needs}
use Rattle.ground_net.proofs.Layers.{all_mentions, mentions-Const, mentions-Leaf, mentions-Op, mentions-Mux, mentions-Load}
use Rattle.ground_net.specs.Cycles.{mask_leaf, written_leaf}
use Rattle.ground_net.specs.Nets.{IsPort}
use Rattle.code_memories.specs.declared.leaf.MemoryLeaf.{MemoryLeaf}
use Rattle.code_memories.specs.NextReads.{one_bit, zero_bit, both_ground, unless_ground, writing_ground, reading_ground, same_ground, below_ground, over_leaf, over_ground, there_ground, captured_ground}
use Rattle.code_draft.specs.declared.sources.Sources.{Sources}
use Rattle.code_emit.specs.Counts.{nodes, tips}
use Rattle.code_emit.proofs.Counting.{tips_few}
use Rattle.code_memories.specs.Groups.{IsCaptureGroup}
use Rattle.partition_code.specs.Codes.{sinks_of_part}
use Rattle.part_compile.specs.SlotBounds.{sinks_read, sinks_nodes, element_of, write_nodes, read_nodes, nodes_of_memory}
use Rattle.part_compile.specs.Pieces.{GroupFits}
use Rattle.part_compile.proofs.Standing.{contains_first, contains_later, contains_flat}
use Rattle.part_compile.proofs.Fitting.{only, item_there, all_read, all_counted}

-- Expressions that mention only such leaves

module _ (P : ℕ → Type 0) where
  abbrev Only : Ground → Type 0
  Only g = (y : ℕ) → Contains (mentions g) y → P y

  only_const : (v : Value) → Only (Const v)
  only_const v y c = absurd (omega (arith, (subst (λ xs. Contains xs y) (mentions-Const v) c).1))

  only_leaf : (x : ℕ) → P x → Only (Leaf x)
  only_leaf x p y c = subst P (only x y (subst (λ xs. Contains xs y) (mentions-Leaf x) c)) p

  only_all : (gs : List Ground) → AllByRecursion Only gs → (y : ℕ) → Contains (all_mentions gs) y → P y
  only_all [] h y c = absurd (omega (arith, c.1))
  only_all (g ∷ gs) h y c = ⊎_elim (λ a. h.0 y a) (λ b. only_all gs h.1 y b) (Contains-append_cases (mentions g) (all_mentions gs) y c)

  only_mux : (gs : List Ground) → AllByRecursion Only gs → Only (Mux gs)
  only_mux gs h y c = only_all gs h y (subst (λ xs. Contains xs y) (mentions-Mux gs) c)

  only_load : (m k : ℕ) (gs : List Ground) → AllByRecursion Only gs → Only (Load m k gs)
  only_load m k gs h y c = only_all gs h y (subst (λ xs. Contains xs y) (mentions-Load m k gs) c)

  only_both : (x : ℕ) (rest : Ground) → P x → Only rest → Only (both_ground x rest)
  only_both x rest p h = only_mux (Leaf x ∷ rest ∷ Const zero_bit ∷ []) (only_leaf x p, (h, (only_const zero_bit, tt)))

  only_unless : (x : ℕ) (rest : Ground) → P x → Only rest → Only (unless_ground x rest)
  only_unless x rest p h = only_mux (Leaf x ∷ Const zero_bit ∷ rest ∷ []) (only_leaf x p, (only_const zero_bit, (h, tt)))

  only_writing : (en : ℕ) (mode : Option ℕ) (rest : Ground) → P en → ((x : ℕ) → mode ≡ Some x → P x) → Only rest → Only (writing_ground en mode rest)
  only_writing en None rest p q h = only_both en rest p h
  only_writing en (Some x) rest p q h = only_both en (both_ground x rest) p (only_both x rest (q x refl) h)

  only_reading : (en : ℕ) (mode : Option ℕ) (rest : Ground) → P en → ((x : ℕ) → mode ≡ Some x → P x) → Only rest → Only (reading_ground en mode rest)
  only_reading en None rest p q h = only_both en rest p h
  only_reading en (Some x) rest p q h = only_both en (unless_ground x rest) p (only_unless x rest (q x refl) h)

  only_same : (x y : ℕ) → P x → P y → Only (same_ground x y)
  only_same x y p q z c = only_all (Leaf x ∷ Leaf y ∷ []) (only_leaf x p, (only_leaf y q, tt)) z (subst (λ xs. Contains xs z) (mentions-Op op.Eq (Leaf x ∷ Leaf y ∷ []) []) c)

  only_below : (x : ℕ) (bound : Value) → P x → Only (below_ground x bound)
  only_below x bound p z c = only_all (Leaf x ∷ Const bound ∷ []) (only_leaf x p, (only_const bound, tt)) z (subst (λ xs. Contains xs z) (mentions-Op op.Lt (Leaf x ∷ Const bound ∷ []) []) c)

  -- what a port writes
  record Writes (port : NetPort) : Type 0 where
    addr : (w : NetWrite) → port.write ≡ Some w → P port.addr
    en : (w : NetWrite) → port.write ≡ Some w → P port.en
    mode : (w : NetWrite) (x : ℕ) → port.write ≡ Some w → port.mode ≡ Some x → P x
    mask : (w : NetWrite) (k x : ℕ) → port.write ≡ Some w → slice_get w.masks k ≡ Some x → P x
    data' : (w : NetWrite) (k x : ℕ) → port.write ≡ Some w → slice_get w.leaves k ≡ Some x → P x

  only_leaf_over : (addr : ℕ) (port : NetPort) (w : NetWrite) (k : ℕ) (mask source : Option ℕ) (held : Ground) → port.write ≡ Some w → P addr → Writes port → ((x : ℕ) → mask ≡ Some x → P x) → ((x : ℕ) → source ≡ Some x → P x) → Only held
      → Only (over_leaf addr port mask source held)
  only_leaf_over addr port w k None source held e p ws m s h = h
  only_leaf_over addr port w k (Some mask) None held e p ws m s h = h
  only_leaf_over addr port w k (Some mask) (Some source) held e p ws m s h =
      only_mux (writing_ground port.en port.mode (both_ground mask (same_ground port.addr addr)) ∷ Leaf source ∷ held ∷ []) (
        only_writing port.en port.mode (both_ground mask (same_ground port.addr addr)) (ws.en w e) (λ x q. ws.mode w x e q)
            (only_both mask (same_ground port.addr addr) (m mask refl) (only_same port.addr addr (ws.addr w e) p)),
        (only_leaf source (s source refl), (h, tt)),
      )

  only_over : (addr k : ℕ) (port : NetPort) (held : Ground) → P addr → Writes port → Only held → Only (over_ground addr k port held)
  only_over addr k port held p ws h = by port.write refl
    where
      by : (o : Option NetWrite) → port.write ≡ o → Only (over_leaf addr port (mask_leaf port.write k) (written_leaf port.write k) held)
      by None e = subst (λ o. Only (over_leaf addr port (mask_leaf o k) (written_leaf o k) held)) (sym e) h
      by (Some w) e = subst (λ o. Only (over_leaf addr port (mask_leaf o k) (written_leaf o k) held)) (sym e)
          (only_leaf_over addr port w k (slice_get w.masks k) (slice_get w.leaves k) held e p ws (λ x q. ws.mask w k x e q) (λ x q. ws.data' w k x e q) h)

  only_fold : (addr k : ℕ) (ports : List NetPort) (held : Ground) → P addr → ((port : NetPort) → Contains ports port → Writes port) → Only held → Only (fold (λ held writer. over_ground addr k writer held) held ports)
  only_fold addr k [] held p ws h = h
  only_fold addr k (port ∷ ports) held p ws h =
      only_fold addr k ports (over_ground addr k port held) p (λ q c. ws q (contains_later port ports q c)) (only_over addr k port held p (ws port (contains_first port ports)) h)

  only_captured : (memory : NetMemory) (port : NetPort) (of : MemoryLeaf) (after : Bool) → P port.addr → P port.en → ((x : ℕ) → port.mode ≡ Some x → P x) → ((q : NetPort) → Contains memory.ports q → Writes q)
      → Only (captured_ground memory port of after)
  only_captured memory port of true a e m ws =
      only_mux (reading_ground port.en port.mode (below_ground port.addr (fitted Unsigned 128 (pos memory.depth))) ∷ fold (λ held writer. over_ground port.addr of.number writer held) (there_ground port.addr of) memory.ports ∷ Const (fitted of.kind of.width (pos 0)) ∷ []) (
        only_reading port.en port.mode (below_ground port.addr (fitted Unsigned 128 (pos memory.depth))) e m (only_below port.addr (fitted Unsigned 128 (pos memory.depth)) a),
        (
          only_fold port.addr of.number memory.ports (there_ground port.addr of) a ws (only_load of.memory of.number (Leaf port.addr ∷ Const one_bit ∷ []) (only_leaf port.addr a, (only_const one_bit, tt))),
          (only_const (fitted of.kind of.width (pos 0)), tt),
        ),
      )
  only_captured memory port of false a e m ws =
      only_load of.memory of.number (Leaf port.addr ∷ reading_ground port.en port.mode (Const one_bit) ∷ []) (only_leaf port.addr a, (only_reading port.en port.mode (Const one_bit) e m (only_const one_bit), tt))

-- What a memory needs

module _ (memory : NetMemory) (port : NetPort) (listed : Contains memory.ports port) where
  needed : (o : Option NetWrite) → port.write ≡ o → (y : ℕ) → Contains (port_needs port o) y → Contains (memory_needs memory) y
  needed o e y c = contains_flat (λ q. port_needs q q.write) memory.ports port y listed (subst (λ w. Contains (port_needs port w) y) (sym e) c)

  mode_there : (mode : Option ℕ) (x : ℕ) → mode ≡ Some x → Contains (or_no_leaf mode) x
  mode_there mode x e = subst (λ o. Contains (or_no_leaf o) x) (sym e) (contains_first x [])

  behind_mode : (w : NetWrite) (y : ℕ) → Contains (w.leaves ++ w.masks) y → Contains (port_needs port (Some w)) y
  behind_mode w y c = contains_later port.addr (port.en ∷ (or_no_leaf port.mode ++ (w.leaves ++ w.masks))) y (contains_later port.en (or_no_leaf port.mode ++ (w.leaves ++ w.masks)) y
      (Contains-append_right (or_no_leaf port.mode) (w.leaves ++ w.masks) y c))

  write_addr : (w : NetWrite) → Contains (port_needs port (Some w)) port.addr
  write_addr w = contains_first port.addr (port.en ∷ (or_no_leaf port.mode ++ (w.leaves ++ w.masks)))

  write_en : (w : NetWrite) → Contains (port_needs port (Some w)) port.en
  write_en w = contains_later port.addr (port.en ∷ (or_no_leaf port.mode ++ (w.leaves ++ w.masks))) port.en (contains_first port.en (or_no_leaf port.mode ++ (w.leaves ++ w.masks)))

  write_mode : (w : NetWrite) (x : ℕ) → port.mode ≡ Some x → Contains (port_needs port (Some w)) x
  write_mode w x e = contains_later port.addr (port.en ∷ (or_no_leaf port.mode ++ (w.leaves ++ w.masks))) x (contains_later port.en (or_no_leaf port.mode ++ (w.leaves ++ w.masks)) x
      (Contains-append_left (or_no_leaf port.mode) (w.leaves ++ w.masks) x (mode_there port.mode x e)))

  writes_needed : Writes (Contains (memory_needs memory)) port
  writes_needed = record {
    addr = λ w e. needed (Some w) e port.addr (write_addr w);
    en = λ w e. needed (Some w) e port.en (write_en w);
    mode = λ w x e q. needed (Some w) e x (write_mode w x q);
    mask = λ w k x e q. needed (Some w) e x (behind_mode w x (Contains-append_right w.leaves w.masks x (item_there w.masks k x q)));
    data' = λ w k x e q. needed (Some w) e x (behind_mode w x (Contains-append_left w.leaves w.masks x (item_there w.leaves k x q)));
  }

  -- a port that captures what it reads
  record Captures : Type 0 where
    addr : Contains (memory_needs memory) port.addr
    en : Contains (memory_needs memory) port.en
    mode : (x : ℕ) → port.mode ≡ Some x → Contains (memory_needs memory) x

  captures_needed : (net : Net) → IsPort net memory port → (read : NetRead) → port.read ≡ Some read → read.captured ≡ true → Captures
  captures_needed net is read e late = by port.write refl
    where
      reads : (o : Option NetRead) → port.read ≡ o → o ≡ Some read → reads_need port o ≡ port.addr ∷ port.en ∷ []
      reads o f g = subst (λ p. reads_need port p ≡ port.addr ∷ port.en ∷ []) (sym g) (ap (λ b. if b then port.addr ∷ port.en ∷ [] else []) late)

      by : (o : Option NetWrite) → port.write ≡ o → Captures
      by (Some w) f = record {
        addr = needed (Some w) f port.addr (write_addr w);
        en = needed (Some w) f port.en (write_en w);
        mode = λ x q. needed (Some w) f x (write_mode w x q);
      }
      by None f =
          let both = reads port.read refl e in
          record {
            addr = needed None f port.addr (subst (λ xs. Contains xs port.addr) (sym both) (contains_first port.addr (port.en ∷ [])));
            en = needed None f port.en (subst (λ xs. Contains xs port.en) (sym both) (contains_later port.addr (port.en ∷ []) port.en (contains_first port.en [])));
            mode = λ x q. absurd (none_is (subst IsSome f (is.of_both x q).0));
          }
        where
          none_is : IsSome {T = NetWrite} None → ⊥
          none_is h = false≢true h

-- the item of a number, with it
numbered_there : {A : Type 0} (from : ℕ) (xs : List A) (k : ℕ) (x : A) → slice_get xs k ≡ Some x → Contains (zip (range_with_len from (length xs)) xs) (from + k, x)
numbered_there from [] k x e = absurd (none_some e)
  where
    none_some : {A : Type 0} {z : A} → None ≡ Some z → ⊥
    none_some e = cc
numbered_there from (y ∷ ys) zero x e = subst (λ n. Contains ((from, y) ∷ zip (range_with_len (from + 1) (length ys)) ys) (n, x)) (let same : from ≡ from + 0 = omega arith in same)
    (subst (λ z. Contains ((from, y) ∷ zip (range_with_len (from + 1) (length ys)) ys) (from, z)) (some_same e) (contains_first (from, y) (zip (range_with_len (from + 1) (length ys)) ys)))
  where
    some_same : {A : Type 0} {a b : A} → Some a ≡ Some b → a ≡ b
    some_same e = cc
numbered_there from (y ∷ ys) (suc k) x e = contains_later (from, y) (zip (range_with_len (from + 1) (length ys)) ys) (from + suc k, x)
    (subst (λ n. Contains (zip (range_with_len (from + 1) (length ys)) ys) (n, x)) (let same : from + 1 + k ≡ from + suc k = omega arith in same) (numbered_there (from + 1) ys k x e))

-- the kind, the width and the numbers count
abbrev of_leaf : NetMemory → NetPort → Bool → (m k : ℕ) (kind : Kind) (width : ℕ) → width ≤ 128 → Ground
of_leaf memory port after m k kind width narrow = captured_ground memory port (record { memory = m; number = k; kind = kind; width = width; narrow = narrow }) after

same_leaf : (memory : NetMemory) (port : NetPort) (after : Bool) (of : MemoryLeaf) (m k : ℕ) (kind : Kind) (width : ℕ) (narrow : width ≤ 128) → of.memory ≡ m → of.number ≡ k → of.kind ≡ kind → of.width ≡ width
    → captured_ground memory port of after ≡ of_leaf memory port after m k kind width narrow
same_leaf memory port after of m k kind width narrow p q r s =
    subst (λ w. (n : w ≤ 128) → captured_ground memory port of after ≡ of_leaf memory port after m k kind w n) s
    (λ n. subst (λ a. captured_ground memory port of after ≡ of_leaf memory port after a k kind of.width n) p
    (subst (λ b. captured_ground memory port of after ≡ of_leaf memory port after of.memory b kind of.width n) q
    (subst (λ c. captured_ground memory port of after ≡ of_leaf memory port after of.memory of.number c of.width n) r refl))) narrow

pub capture_fits : (net : Net) (watch : List ℕ) (part : CutPart) (S : Sources) (m : ℕ) (gs : List Ground) → Contains (sinks_of_part net watch part) (A_memory m)
    → ((p : ℕ) (memory : NetMemory) (port : NetPort) → slice_get net.memories m ≡ Some memory → slice_get memory.ports p ≡ Some port → IsPort net memory port)
    → IsCaptureGroup net m gs → GroupFits S (sinks_read net watch part) (sinks_nodes net watch part) gs
capture_fits net watch part S m gs there ports c =
    let memory = c.memory in
    let port = c.port in
    let after = c.read.after in
    let listed = item_there memory.ports c.p port c.listed in
    let next = captured_ground memory port c.of after in
    let kept = element_of m (c.k, c.leaf) in
    let count : ℕ = nodes (captured_ground memory port kept after) in
    let same : nodes next ≡ count = ap nodes (same_leaf memory port after c.of m c.k c.leaf.kind c.leaf.width c.leaf.narrow c.of_memory c.of_number c.of_kind c.of_width) in
    let few = tips_few next in
    let one = sum_by-cons tips next [] in
    let total : sum_by tips gs ≡ sum_by tips (next ∷ []) = ap (sum_by tips) c.is in
    let own = captures_needed memory port listed net (ports c.p memory port c.there c.listed) c.read c.reads c.late in
    let numbered_leaf = numbered_there 0 memory.elements c.k c.leaf c.element in
    let in_read : Contains (read_nodes m memory port (Some c.read)) count =
    subst (λ b. Contains (if b then map (λ both. nodes (captured_ground memory port (element_of m both) after)) (numbered memory.elements) else []) count) (sym c.late)
    (map_there (λ both. nodes (captured_ground memory port (element_of m both) after)) (numbered memory.elements) (0 + c.k, c.leaf) (c.k, c.leaf) numbered_leaf (ap (λ n. (n, c.leaf)) (zero_plus c.k)))
    in
    record {
      count = count;
      counted = all_counted net watch part (A_memory m) there count
          (subst (λ o. Contains (nodes_of_memory m o) count) (sym c.there)
          (contains_flat (λ q. write_nodes q q.write ++ read_nodes m memory q q.read) memory.ports port count listed
          (Contains-append_right (write_nodes port port.write) (read_nodes m memory port port.read) count (subst (λ o. Contains (read_nodes m memory port o) count) (sym c.reads) in_read))));
      few = omega (arith, same, few, one, total);
      reads = λ g y k d e f. all_read net watch part (A_memory m) there y
          (subst (λ o. Contains (needs_of_memory o) y) (sym c.there)
          (only_captured (Contains (memory_needs memory)) memory port c.of after own.addr own.en own.mode (λ q l. writes_needed memory q l) y
          (subst (λ h. Contains (mentions h) y) (sym (only next g (subst (λ xs. Contains xs g) c.is d))) e)));
    }
  where
    zero_plus : (k : ℕ) → 0 + k ≡ k
    zero_plus k = omega arith

    map_at : {A : Type 0} (f : A → ℕ) (xs : List A) (x : A) (k : ℕ) → k < length xs → slice_index_or xs k x ≡ x → Contains (map f xs) (f x)
    map_at f [] x k lt e = absurd (omega (arith, lt))
    map_at f (y ∷ ys) x zero lt e = (zero, omega arith, ap f e)
    map_at f (y ∷ ys) x (suc k) lt e = contains_later (f y) (map f ys) (f x) (map_at f ys x k (omega (arith, lt)) e)

    map_there : {A : Type 0} (f : A → ℕ) (xs : List A) (x y : A) → Contains xs x → x ≡ y → Contains (map f xs) (f y)
    map_there f xs x y c e = subst (λ z. Contains (map f xs) (f z)) e (map_at f xs x c.0 c.1 c.2)
