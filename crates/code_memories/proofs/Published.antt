-- The words of what a captured read shows next are published.
use Rattle.std.proofs.Common.{◌≡◌, ◌==◌, ℕ, ◌+◌, ◌<◌, true, [], ◌∷◌, ◌++◌, map, flat_map, take, get_or, length, slice_get, Option, Some, None, option_map, pos, unsigned_abs, nat_lt, refl, sym, subst, ap, ap₂, ◌∙◌, arith, if◌then◌else◌}
use Rattle.std.proofs.lemmas.Grind.{common_steps}
use Rattle.std.proofs.lemmas.List.{map-append}
use Rattle.bit_words.specs.declared.value.Kind.TheVariants.{Unsigned}
use Rattle.bit_words.specs.Values.{integer_of}
use Rattle.prim_ops.specs.Values.{fitted}
use Rattle.prim_ops.specs.Ports.{Held, read_by_port}
use Rattle.prim_ops.proofs.Fittings.{refitted}
use Rattle.ground_net.specs.declared.ground.Ground.{Ground}
use Rattle.ground_net.specs.declared.net.Net.{Net}
use Rattle.ground_net.specs.declared.net.Leaf.{Leaf}
use Rattle.ground_net.specs.declared.net.NetMemory.{NetMemory}
use Rattle.ground_net.specs.declared.net.NetPort.{NetPort}
use Rattle.ground_net.specs.declared.net.NetRead.{NetRead}
use Rattle.ground_net.specs.declared.net.ElementLeaf.{ElementLeaf}
use Rattle.ground_net.specs.Grounds.{Instant, value}
use Rattle.ground_net.specs.Cones.{numbered}
use Rattle.ground_net.specs.Shapes.{Shape, shaped, shape, shape_of_value, Table, HasShapes}
use Rattle.ground_net.specs.Cycles.{NetState, first_state, Capture, captures, taken, next_of_memory, next_of_capture, shown}
use Rattle.ground_net.specs.Nets.{IsNet, leaf_shape, element_shape, shape_or_none}
use Rattle.flat_code.specs.declared.instr.Location.{Location}
use Rattle.flat_code.specs.Meaning.{stored, location_shape}
use Rattle.flat_code.specs.Fine.{further_words, location_slots, InRegion}
use Rattle.flat_code.proofs.Frames.{location_more}
use Rattle.code_draft.specs.declared.draft.Draft.{Draft}
use Rattle.code_draft.specs.declared.sources.Source.{Source}
use Rattle.code_draft.specs.declared.sources.Source.TheVariants as source
use Rattle.code_draft.specs.declared.sources.Sources.{Sources}
use Rattle.code_emit.specs.Emits.{sources_table, leaf_source, kept_shape, Fits, AreSources, Emits}
use Rattle.code_emit.proofs.Emitting.{sources_on, seen_shapes}
use Rattle.code_draft.specs.Publishing.{Tells, Publishes}
use Rattle.partition_code.specs.Effects.{capture_shape}
use Rattle.code_memories.specs.declared.leaf.MemoryLeaf.{MemoryLeaf}
use Rattle.code_memories.specs.NextReads.{HasCapture, ShowsHeld}
use Rattle.code_memories.specs.Memories.{HasMemory, StandsCaptured, word_of, capture_of, capture_left}
use Rattle.code_memories.proofs.Numbered.{some_same, none_some, numbered_more, some_there}
use Rattle.code_memories.proofs.Ports.{has_capture}
use Rattle.code_memories.proofs.Captured.{capture_there}
use Rattle.code_memories.specs.Writes.{PublishesLeft}
use Rattle.code_memories.proofs.Written.{flat_more}
use Rattle.code_memories.specs.Captures.{ReadsAt, IsKept}

-- sources stay where they are
fits_told : (a b : Draft) (word : ℕ) (s : Location) (src : Source) → Tells a b word s → Fits a src → Fits b src
fits_told a b word s (source.Word k) t h = let e = t.words in omega (arith, h, e)
fits_told a b word s (source.Input k) t h = tt
fits_told a b word s (source.Frame u) t h = record { within = location_more a.slots b.slots u t.slots h.within; written = λ k d lt. t.stays (get_or (location_slots u) k d) (h.written k d lt) }
fits_told a b word s (source.Constant c) t h = tt

sources_told : (S : Sources) (a b : Draft) (word : ℕ) (s : Location) → Tells a b word s → AreSources S a → AreSources S b
sources_told S a b word s t h = record {
  leaves = λ x src e. fits_told a b word s src t (h.leaves x src e);
  regions = λ m k e at. subst (λ n. InRegion n e.width e.region) (sym t.words) (h.regions m k e at);
}

-- which captured reads there are is no matter of an instant
no_instant : Instant
no_instant = record { leaf = λ x. fitted Unsigned 0 (pos 0); load = λ m k address. address }

same_number : (m : ℕ) → (m == m) ≡ true
same_number m = grind (arith, common_steps)

leaf_of_shape : (o : Option Leaf) (s : Shape) → option_map leaf_shape o ≡ Some s → shape_or_none o ≡ s
leaf_of_shape (Some leaf) s e = some_same e
leaf_of_shape None s e = absurd (none_some e)

module _ (net : Net) (S : Sources) (m : ℕ) (w : IsNet net) (h : HasMemory net S m) (p k x : ℕ) (port : NetPort) (read : NetRead) (leaf : ElementLeaf) (listed : slice_get h.memory.ports p ≡ Some port) (reads : port.read ≡ Some read)
    (late : read.captured ≡ true) (at : slice_get read.leaves k ≡ Some x) (element : slice_get h.memory.elements k ≡ Some leaf) where
  abbrev pub this : Capture
  this = capture_of m h.memory port read (k, x)

  its_number : (n : ℕ) × (slice_get (captures net) n ≡ Some this)
  its_number = capture_there net S m first_state no_instant h p k x port read listed reads late at

  stands : StandsCaptured net S its_number.0 this
  stands = h.captured its_number.0 this its_number.1 refl

  pub is_kept : IsKept S x
  is_kept = record { kept = stands.kept; there = stands.there }

  shape_is : capture_shape net this ≡ element_shape leaf
  shape_is =
      let q = w.memories m p h.memory port h.there listed in
      leaf_of_shape (slice_get net.leaves x) (element_shape leaf) ((q.read read reads).shapes k x leaf at element)

  pub has : (of : MemoryLeaf) → of.memory ≡ m → of.number ≡ k → shaped of.kind of.width ≡ element_shape leaf → HasCapture (sources_table S) h.memory port of
  has of same number shape = has_capture net S m w h p port listed read reads late of leaf same (ap (slice_get h.memory.elements) number ∙ element) shape

  pub captured : (of : MemoryLeaf) (g : Ground) (old mid new : Draft) (s : Location) (word : ℕ) → of.memory ≡ m → of.number ≡ k → shaped of.kind of.width ≡ element_shape leaf
      → ((table : Table) (instant : Instant) (held : Held ℕ) (r : NetRead) → HasCapture table h.memory port of → HasShapes table instant → ShowsHeld instant h.memory of held → port.read ≡ Some r
      → integer_of (value g instant) ≡ read_by_port h.memory.depth (taken read.after held (next_of_memory instant (Some h.memory) held)) (shown instant port) of.number)
      → shape g (sources_table S) ≡ Some (shaped of.kind of.width) → shape g (sources_table S) ≡ Some (location_shape s) → Emits S g old mid s → Publishes mid new word s → word ≡ word_of (leaf_source S x)
      → PublishesLeft net S (λ st instant. capture_left net S st instant m this) old new
  captured of g old mid new s word same number shape values shaped_so at_location emits publishes is_word is srcs =
      let made = emits is srcs in
      let location_is : location_shape s ≡ capture_shape net this = some_same (sym at_location ∙ shaped_so) ∙ (shape ∙ sym shape_is) in
      let kept_is : location_shape s ≡ kept_shape stands.kept = location_is ∙ sym stands.shape in
      let widths : further_words s.width ≡ further_words stands.kept.width = ap (λ (t : Shape). further_words t.width) kept_is in
      let room : stands.kept.number + further_words stands.kept.width < old.words = srcs.leaves x (source.Word stands.kept) stands.there in
      let word_is : word ≡ stands.kept.number = is_word ∙ ap word_of stands.there in
      let kept = made.grows.words in
      let t = publishes made.grows.is made.stands (omega (arith, widths, room, word_is, kept)) in
      let first = made.grows.slots in
      let second = t.slots in
      record {
        is = t.is;
        are = sources_told S mid new word s t (sources_on S old mid made.grows srcs);
        words = t.words ∙ made.grows.words;
        slots = omega (arith, first, second);
        stays = λ j e. t.stays j (made.grows.stays j e);
        back = λ words inputs F sol. made.grows.back words inputs F (t.back words inputs F sol);
        tells = λ words inputs F instant st sol sees shows.
            let v = value g instant in
            let there = made.holds words inputs F v (t.back words inputs F sol) (instant, sees, refl) in
            let value_shape : shape_of_value v ≡ capture_shape net this = there.shape ∙ location_is in
            let holds : ShowsHeld instant h.memory of (st.contents m) = λ address.
            ap₂ (λ i j. integer_of (instant.load i j address)) same number
            ∙ (shows.contents m k h.memory leaf address h.there element
            ∙ ap (λ j. if nat_lt (unsigned_abs (integer_of address)) h.memory.depth then st.contents m (unsigned_abs (integer_of address)) j else pos 0) (sym number)) in
            let integer : integer_of v ≡ next_of_capture st instant (Some this)
            = values (sources_table S) instant (st.contents m) read (has of same number shape) (seen_shapes S words inputs F instant sees) holds reads
            ∙ ap (λ j. read_by_port h.memory.depth (taken read.after (st.contents m) (next_of_memory instant (Some h.memory) (st.contents m))) (shown instant port) j) number in
            let is_value : v ≡ fitted (capture_shape net this).kind (capture_shape net this).width (next_of_capture st instant (Some this))
            = sym (refitted v) ∙ ap₂ (λ (u : Shape) i. fitted u.kind u.width i) value_shape integer in
            t.tells F v there
            ∙ ap₂ (λ ps qs. ps ++ qs) (made.grows.quiet F)
            (ap₂ stored is_word is_value
            ∙ sym (ap (λ b. if b then stored (word_of (leaf_source S x)) (fitted (capture_shape net this).kind (capture_shape net this).width (next_of_capture st instant (Some this))) else []) (same_number m)));
      }

-- one leaf more
pub capture_more : (net : Net) (S : Sources) (m k x : ℕ) (memory : NetMemory) (port : NetPort) (read : NetRead) (st : NetState) (instant : Instant) → slice_get read.leaves k ≡ Some x
    → flat_map (capture_left net S st instant m) (map (capture_of m memory port read) (take k (numbered read.leaves))) ++ capture_left net S st instant m (capture_of m memory port read (k, x))
    ≡ flat_map (capture_left net S st instant m) (map (capture_of m memory port read) (take (k + 1) (numbered read.leaves)))
capture_more net S m k x memory port read st instant e =
    let f = capture_left net S st instant m in
    let c = capture_of m memory port read in
    flat_more f (map c (take k (numbered read.leaves))) (c (k, x))
    ∙ ap (flat_map f) (sym (map-append c (take k (numbered read.leaves)) ((k, x) ∷ [])) ∙ ap (map c) (sym (numbered_more read.leaves k x e)))

-- the place of a captured read
pub reads_at : (net : Net) (m p k : ℕ) (memory : NetMemory) (port : NetPort) (read : NetRead) → IsNet net → slice_get net.memories m ≡ Some memory → slice_get memory.ports p ≡ Some port → port.read ≡ Some read → read.captured ≡ true
    → k < length read.leaves → ReadsAt net m p k
reads_at net m p k memory port read w there listed reads late lt =
    let q = w.memories m p memory port there listed in
    let one = (q.read read reads).counted in
    let x = some_there read.leaves k lt in
    let leaf = some_there memory.elements k (omega (arith, lt, one)) in
    record { memory = memory; there = there; port = port; listed = listed; read = read; reads = reads; late = late; shown = x.0; shows = x.1; leaf = leaf.0; element = leaf.1 }
