-- What a port leaves in a leaf of an element.
use Rattle.std.proofs.Common.{◌≡◌, ℕ, zero, suc, ◌+◌, ◌*◌, ◌<◌, Bool, true, false, not, ◌&&◌, nat_lt, List, [], ◌∷◌, ◌++◌, map, flat_map, take, length, slice_get, Option, Some, None, option_map, unsigned_abs, All, refl, sym, subst, ap, ap₂, ◌∙◌, arith, if◌then◌else◌}
use Rattle.std.specs.Prelude.{IsSome, IfSome}
use Rattle.std.specs.List.{list_all}
use Rattle.std.specs.Option.{is_some}
use Rattle.std.proofs.lemmas.List.{append-nil}
use Rattle.std.proofs.lemmas.Grind.{flat_map-append}
use Rattle.bit_words.specs.declared.value.Kind.TheVariants.{Unsigned}
use Rattle.bit_words.specs.declared.value.Value.{Value}
use Rattle.bit_words.specs.Values.{integer, integer_of}
use Rattle.phase_core.specs.declared.model.Publication.{Publication}
use Rattle.prim_ops.specs.Values.{fitted, is_one}
use Rattle.prim_ops.specs.Ports.{set_to_write}
use Rattle.prim_ops.proofs.Fittings.{refitted}
use Rattle.ground_net.specs.declared.net.Net.{Net}
use Rattle.ground_net.specs.declared.net.NetMemory.{NetMemory}
use Rattle.ground_net.specs.declared.net.NetPort.{NetPort}
use Rattle.ground_net.specs.declared.net.NetWrite.{NetWrite}
use Rattle.ground_net.specs.declared.net.ElementLeaf.{ElementLeaf}
use Rattle.ground_net.specs.declared.ground.Ground.TheVariants.{Leaf}
use Rattle.ground_net.specs.Grounds.{Instant}
use Rattle.ground_net.specs.Cones.{numbered, or_no_leaf}
use Rattle.ground_net.specs.Shapes.{Shape, shaped, shape, HasShapes}
use Rattle.ground_net.specs.Cycles.{NetState, is_set, is_set_at, integer_at, where_it_writes, written_leaf, mask_leaf, shown}
use Rattle.ground_net.specs.Nets.{IsNet, element_shape, element_shapes}
use Rattle.ground_net.specs.Words.{element_word, element_words, memory_word, count_words}
use Rattle.ground_net.proofs.Shaping.{shape-Leaf}
use Rattle.flat_code.specs.Meaning.{stored, stored_where}
use Rattle.flat_code.specs.Fine.{InRegion}
use Rattle.code_draft.specs.declared.draft.Draft.{Draft}
use Rattle.code_draft.specs.declared.sources.Elements.{Elements}
use Rattle.code_draft.specs.declared.sources.Sources.{Sources}
use Rattle.code_emit.specs.Emits.{sources_table, element_source, elements_shape}
use Rattle.code_emit.proofs.Emitting.{seen_shapes}
use Rattle.partition_code.specs.FromNets.{HasElements}
use Rattle.partition_code.specs.Effects.{leaf_told, port_told}
use Rattle.code_memories.specs.NextReads.{HasWriter}
use Rattle.code_memories.specs.Memories.{HasMemory, StandsInMemory}
use Rattle.code_memories.proofs.Numbered.{some_same, numbered_more, nothing_left, some_there, at_map}
use Rattle.code_memories.proofs.Ports.{has_writer}
use Rattle.code_memories.specs.declared.places.Target.{Target}
use Rattle.code_memories.specs.Writes.{PublishesLeft, target_left, FitsTarget, TellsTarget, conditions_of, WritesAt}
use Rattle.code_memories.proofs.Targets.{left_as}

pub some_is : {A : Type 0} (o : Option A) (x : A) → o ≡ Some x → IsSome o
some_is o x e = subst (λ p. IsSome p) (sym e) refl

differ : true ≡ false → ⊥
differ e = cc

-- what `is_none` tells
pub none_by : {A : Type 0} (o : Option A) (b : Bool) → is_some o ≡ not b → b ≡ true → o ≡ None
none_by None b e t = refl
none_by (Some x) b e t = absurd (differ (e ∙ ap not t))

pub some_by : {A : Type 0} (o : Option A) (b : Bool) → is_some o ≡ not b → b ≡ false → (x : A) × (o ≡ Some x)
some_by None b e f = absurd (differ (sym (e ∙ ap not f)))
some_by (Some x) b e f = (x, refl)

pub leaf_has_shape : (S : Sources) (x : ℕ) (s : Shape) → (sources_table S).leaf x ≡ Some s → IsSome (shape (Leaf x) (sources_table S))
leaf_has_shape S x s e = some_is (shape (Leaf x) (sources_table S)) s (shape-Leaf x (sources_table S) ∙ e)

word_is : (net : Net) (m k : ℕ) (e : Elements) (h : HasElements net m k e) (a : ℕ) → e.region.base + a * e.region.stride ≡ element_word net m h.memory a k
word_is net m k e h a =
    let first = plain (memory_word net m) (element_words h.memory) (count_words (take k (element_shapes h.memory))) in
    ap₂ (λ x y. x + a * y) (h.base ∙ first) h.stride ∙ moved (memory_word net m) (a * element_words h.memory) (count_words (take k (element_shapes h.memory)))
  where
    plain : (x y z : ℕ) → x + (0 * y + z) ≡ x + z
    plain x y z = omega arith

    moved : (x y z : ℕ) → (x + z) + y ≡ x + (y + z)
    moved x y z = omega arith

without_mode : (e q l : Bool) → ((e && (q && true)) && l) ≡ ((e && l) && q)
without_mode true true l = and_true l
  where
    and_true : (b : Bool) → b ≡ (b && true)
    and_true true = refl
    and_true false = refl
without_mode true false l = and_false l
  where
    and_false : (b : Bool) → false ≡ (b && false)
    and_false true = refl
    and_false false = refl
without_mode false q l = refl

with_mode : (e w q l : Bool) → ((e && (w && (q && true))) && l) ≡ (((e && w) && l) && q)
with_mode true w q l = without_mode w q l
with_mode false w q l = refl

module _ (net : Net) (S : Sources) (m : ℕ) (w : IsNet net) (h : HasMemory net S m) (p k : ℕ) (port : NetPort) (listed : slice_get h.memory.ports p ≡ Some port) (write : NetWrite) (writes : port.write ≡ Some write)
    (mask datum : ℕ) (masked : slice_get write.masks k ≡ Some mask) (sourced : slice_get write.leaves k ≡ Some datum) (leaf : ElementLeaf) (at : slice_get h.memory.elements k ≡ Some leaf) where
  its : HasWriter (sources_table S) k (element_shape leaf) port write
  its = has_writer net S m w h p port listed write writes k leaf at

  pub address_shaped : IsSome (shape (Leaf port.addr) (sources_table S))
  address_shaped = leaf_has_shape S port.addr (shaped Unsigned its.reader.addr.width) its.reader.addr.there

  pub source_shaped : IsSome (shape (Leaf datum) (sources_table S))
  source_shaped = leaf_has_shape S datum (element_shape leaf) (its.source datum sourced)

  pub mask_shaped : IsSome (shape (Leaf mask) (sources_table S))
  mask_shaped = let u = its.mask mask masked in leaf_has_shape S mask (shaped Unsigned u.width) u.there

  pub enable_shaped : IsSome (shape (Leaf port.en) (sources_table S))
  enable_shaped = leaf_has_shape S port.en (shaped Unsigned its.reader.en.width) its.reader.en.there

  pub mode_shaped : (x : ℕ) → port.mode ≡ Some x → IsSome (shape (Leaf x) (sources_table S))
  mode_shaped x e = let u = its.reader.mode x e in leaf_has_shape S x (shaped Unsigned u.width) u.there

  pub conditions_shaped : All (λ x. IsSome (shape (Leaf x) (sources_table S))) (conditions_of port mask)
  conditions_shaped = by_mode port.mode mode_shaped
    where
      by_mode : (o : Option ℕ) → ((x : ℕ) → o ≡ Some x → IsSome (shape (Leaf x) (sources_table S))) → All (λ x. IsSome (shape (Leaf x) (sources_table S))) (port.en ∷ (or_no_leaf o ++ (mask ∷ [])))
      by_mode None f zero d lt = enable_shaped
      by_mode None f (suc zero) d lt = mask_shaped
      by_mode None f (suc (suc j)) d lt = absurd (omega (arith, lt))
      by_mode (Some x) f zero d lt = enable_shaped
      by_mode (Some x) f (suc zero) d lt = f x refl
      by_mode (Some x) f (suc (suc zero)) d lt = mask_shaped
      by_mode (Some x) f (suc (suc (suc j))) d lt = absurd (omega (arith, lt))

  stands : StandsInMemory net S m k
  stands = h.elements k leaf at

  same_memory : stands.has.memory ≡ h.memory
  same_memory = some_same (sym stands.has.there ∙ h.there)

  same_leaf : stands.has.leaf ≡ leaf
  same_leaf = some_same (sym stands.has.at ∙ (ap (λ (y : NetMemory). slice_get y.elements k) same_memory ∙ at))

  element_is : elements_shape stands.source ≡ element_shape leaf
  element_is = stands.has.shape ∙ ap element_shape same_leaf

  module _ (instant : Instant) (shapes : HasShapes (sources_table S) instant) where
    address_bits : unsigned_abs (integer_of (instant.leaf port.addr)) ≡ (instant.leaf port.addr).bits
    address_bits =
        let e = ap (λ (t : Shape). t.kind) (shapes.leaf port.addr (shaped Unsigned its.reader.addr.width) its.reader.addr.there) in
        ap (λ q. unsigned_abs (integer q (instant.leaf port.addr).width (instant.leaf port.addr).bits)) e

    datum_is : instant.leaf datum ≡ fitted leaf.kind leaf.width (integer_of (instant.leaf datum))
    datum_is = sym (refitted (instant.leaf datum)) ∙ ap (λ (t : Shape). fitted t.kind t.width (integer_of (instant.leaf datum))) (shapes.leaf datum (element_shape leaf) (its.source datum sourced))

    abbrev set : Bool
    set = set_to_write (is_set instant port.en) (option_map (is_set instant) port.mode)

    abbrev bits : ℕ
    bits = (instant.leaf port.addr).bits

    conditions_are : (o : Option ℕ) (b : Bool)
        → (list_all is_one (map (λ x. instant.leaf x) (port.en ∷ (or_no_leaf o ++ (mask ∷ [])))) && b) ≡ ((set_to_write (is_set instant port.en) (option_map (is_set instant) o) && b) && is_set instant mask)
    conditions_are None b = without_mode (is_set instant port.en) (is_set instant mask) b
    conditions_are (Some x) b = with_mode (is_set instant port.en) (is_set instant x) (is_set instant mask) b

    abbrev told_if : Bool → ℕ → List Publication
    told_if b word = if b then stored word (fitted leaf.kind leaf.width (integer_of (instant.leaf datum))) else []

    leaf_is : (st : NetState) → target_left (record { address = port.addr; source = datum; region = stands.source.region }) (conditions_of port mask) st instant
        ≡ leaf_told net m h.memory (shown instant port) (k, element_shape leaf)
    leaf_is st =
        let region = stands.source.region in
        let word : region.base + bits * region.stride ≡ element_word net m h.memory bits k = word_is net m k stands.source stands.has bits ∙ ap (λ y. element_word net m y bits k) same_memory in
        let depth : region.depth ≡ h.memory.depth = stands.has.depth ∙ ap (λ (y : NetMemory). y.depth) same_memory in
        let all : List Value = map (λ x. instant.leaf x) (conditions_of port mask) in
        ap (λ v. if list_all is_one all && nat_lt bits region.depth then stored (region.base + bits * region.stride) v else []) datum_is
        ∙ (ap₂ (λ n at. told_if (list_all is_one all && nat_lt bits n) at) depth word
        ∙ (ap (λ b. told_if b (element_word net m h.memory bits k)) (conditions_are port.mode (nat_lt bits h.memory.depth))
        ∙ (ap (λ n. told_if ((set && nat_lt n h.memory.depth) && is_set instant mask) (element_word net m h.memory n k)) (sym address_bits)
        ∙ (ap₂ (λ (q : Option ℕ) (d : Option ℕ).
        if (set && nat_lt (unsigned_abs (integer_of (instant.leaf port.addr))) h.memory.depth) && is_set_at instant q
        then stored (element_word net m h.memory (unsigned_abs (integer_of (instant.leaf port.addr))) k) (fitted leaf.kind leaf.width (integer_at instant d)) else []) (sym masked) (sym sourced)
        ∙ ap (λ (o : Option NetWrite).
        if (where_it_writes o set && nat_lt (unsigned_abs (integer_of (instant.leaf port.addr))) h.memory.depth) && is_set_at instant (mask_leaf o k)
        then stored (element_word net m h.memory (unsigned_abs (integer_of (instant.leaf port.addr))) k) (fitted leaf.kind leaf.width (integer_at instant (written_leaf o k))) else []) (sym writes)))))

  pub leaf_written : (target : Target) (conditions : List ℕ) (a b : Draft) → target.address ≡ port.addr → target.source ≡ datum → IfSome (element_source S m k) (λ e. target.region ≡ e.region) → conditions ≡ conditions_of port mask
      → TellsTarget net S target conditions a b → PublishesLeft net S (λ st instant. leaf_told net m h.memory (shown instant port) (k, element_shape leaf)) a b
  leaf_written target conditions a b ta ts tr tc told is srcs =
      let region : target.region ≡ stands.source.region = subst (λ (o : Option Elements). IfSome o (λ e. target.region ≡ e.region)) stands.there tr in
      let fits : FitsTarget S a target = λ s e.
      let width : s ≡ elements_shape stands.source = some_same (sym e ∙ (ap (sources_table S).leaf ts ∙ its.source datum sourced)) ∙ sym element_is in
      subst (λ (u : Shape). InRegion a.words u.width target.region) (sym width) (subst (InRegion a.words stands.source.width) (sym region) (srcs.regions m k stands.source stands.there)) in
      left_as net S (target_left target conditions) (λ st instant. leaf_told net m h.memory (shown instant port) (k, element_shape leaf)) a b
      (λ words inputs F instant st sees shows.
      ap₂ (λ x y. stored_where target.region (instant.leaf x) (instant.leaf y) (map (λ x. instant.leaf x) conditions)) ta ts
      ∙ (ap₂ (λ r cs. stored_where r (instant.leaf port.addr) (instant.leaf datum) (map (λ x. instant.leaf x) cs)) region tc
      ∙ leaf_is instant (seen_shapes S words inputs F instant sees) st))
      (told fits) is srcs

-- a port that doesn't write
pub idle_port : (net : Net) (m : ℕ) (memory : NetMemory) (port : NetPort) (instant : Instant) → port.write ≡ None → port_told net instant m memory port ≡ []
idle_port net m memory port instant e =
    let set = set_to_write (is_set instant port.en) (option_map (is_set instant) port.mode) in
    let at = unsigned_abs (integer_of (instant.leaf port.addr)) in
    nothing_left (leaf_told net m memory (shown instant port)) (numbered (element_shapes memory)) (λ both. ap (λ (o : Option NetWrite).
    if (where_it_writes o set && nat_lt at memory.depth) && is_set_at instant (mask_leaf o both.0)
    then stored (element_word net m memory at both.0) (fitted both.1.kind both.1.width (integer_at instant (written_leaf o both.0))) else []) e)

pub flat_more : {A B : Type 0} (f : A → List B) (xs : List A) (x : A) → flat_map f xs ++ f x ≡ flat_map f (xs ++ x ∷ [])
flat_more f xs x = ap (λ l. flat_map f xs ++ l) (sym (append-nil (f x))) ∙ sym (flat_map-append f xs (x ∷ []))

-- one leaf more
pub leaf_more : (net : Net) (m k : ℕ) (memory : NetMemory) (port : NetPort) (leaf : ElementLeaf) (instant : Instant) → slice_get memory.elements k ≡ Some leaf
    → flat_map (leaf_told net m memory (shown instant port)) (take k (numbered (element_shapes memory))) ++ leaf_told net m memory (shown instant port) (k, element_shape leaf)
    ≡ flat_map (leaf_told net m memory (shown instant port)) (take (k + 1) (numbered (element_shapes memory)))
leaf_more net m k memory port leaf instant e =
    let f = leaf_told net m memory (shown instant port) in
    flat_more f (take k (numbered (element_shapes memory))) (k, element_shape leaf) ∙ ap (flat_map f) (sym (numbered_more (element_shapes memory) k (element_shape leaf) (at_map element_shape memory.elements k leaf e)))

-- the leaf of a memory's port is there
pub writes_at : (net : Net) (S : Sources) (m : ℕ) (w : IsNet net) (h : HasMemory net S m) (p k : ℕ) (memory : NetMemory) (port : NetPort) (write : NetWrite) → slice_get net.memories m ≡ Some memory → slice_get memory.ports p ≡ Some port
    → port.write ≡ Some write → k < length memory.elements → WritesAt net m p k
writes_at net S m w h p k memory port write there listed writes lt =
    let q = w.memories m p memory port there listed in
    let els = q.written write writes in
    let many = q.masks write writes in
    let one = els.counted in
    let two = many.0 in
    let mask = some_there write.masks k (omega (arith, lt, two)) in
    let datum = some_there write.leaves k (omega (arith, lt, one)) in
    let leaf = some_there memory.elements k lt in
    record {
      memory = memory;
      there = there;
      port = port;
      listed = listed;
      write = write;
      writes = writes;
      mask = mask.0;
      masked = mask.1;
      source = datum.0;
      sourced = datum.1;
      leaf = leaf.0;
      element = leaf.1;
    }
