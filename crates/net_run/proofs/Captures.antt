-- What captured reads take is what they show next.
use Rattle.std.proofs.Common.{◌≡◌, ℕ, zero, suc, ◌+◌, ◌*◌, ◌<◌, ◌&&◌, nat_lt, Bool, true, false, List, [], ◌∷◌, ◌++◌, refl, sym, ap, ap₂, ◌∙◌, arith, slice_get, get_or, length, map, if◌then◌else◌, Option, Some, None, option_map, ⊎_elim, pos, zip}
use Rattle.std.specs.Prelude.{unsigned_abs, flat_map}
use Rattle.std.specs.List.{range_with_len}
use Rattle.std.proofs.lemmas.Bool.{cases_lt, ltb-true}
use Rattle.std.proofs.lemmas.List.{length-append, length-map, append_assoc}
use Rattle.std.proofs.lemmas.Option.{get_or_from_slice_get, slice_get-map, slice_get_within}
use Rattle.bit_words.specs.declared.value.Value.{Value}
use Rattle.bit_words.specs.Values.{integer_of}
use Rattle.prim_ops.specs.Values.{fitted, lone}
use Rattle.prim_ops.specs.Ports.{Held, set_to_read, read_by_port}
use Rattle.ground_net.specs.declared.net.Net.{Net}
use Rattle.ground_net.specs.declared.net.Leaf.{Leaf}
use Rattle.ground_net.specs.declared.net.NetMemory.{NetMemory}
use Rattle.ground_net.specs.declared.net.NetPort.{NetPort}
use Rattle.ground_net.specs.declared.net.NetRead.{NetRead}
use Rattle.ground_net.specs.declared.net.ElementLeaf.{ElementLeaf}
use Rattle.ground_net.specs.Grounds.{Instant}
use Rattle.ground_net.specs.Cones.{numbered}
use Rattle.ground_net.proofs.Layers.{maps}
use Rattle.ground_net.specs.Shapes.{Shape}
use Rattle.ground_net.specs.Nets.{IsNet, leaf_shape, element_shape}
use Rattle.ground_net.specs.Cycles.{NetState, Capture, captures, captured_by, instant_of, fitted_to, shown, next_of_capture, next_of_memory, taken, is_set, where_it_reads}
use Rattle.ground_net.proofs.Settling.{get_there}
use Rattle.ground_net.proofs.Ranges.{capture_from}
use Rattle.net_run.specs.Seeing.{AreSeen, value_at, held_leaf}
use Rattle.net_run.specs.Keeping.{AreContents}
use Rattle.net_run.specs.Capturing.{is_reading, read_leaf, when_taken, up_to, leaves_taken, read_taken, ports_taken, memory_taken, memories_taken, one_taken, all_taken}
use Rattle.net_run.proofs.Zeros.{map_flat_map, same_flat_map, get_left, get_right}
use Rattle.net_run.proofs.Writes.{address_is}

some_same : {A : Type 0} {x y : A} → Some x ≡ Some y → x ≡ y
some_same e = cc

-- Lists of the first numbers

up_to_cons : {A : Type 0} (h : ℕ → List A) (n : ℕ) → up_to h (suc n) ≡ h 0 ++ up_to (λ i. h (suc i)) n
up_to_cons h zero = nothing (h 0)
  where
    nothing : {A : Type 0} (xs : List A) → [] ++ xs ≡ xs ++ []
    nothing [] = refl
    nothing (x ∷ xs) = ap (λ l. x ∷ l) (nothing xs)
up_to_cons h (suc n) = ap (λ l. l ++ h (suc n)) (up_to_cons h n) ∙ append_assoc (h 0) (up_to (λ i. h (suc i)) n) (h (suc n))

up_to_flat : {A B : Type 0} (f : ℕ × A → List B) (xs : List A) (a : ℕ) (h : ℕ → List B) → ((i : ℕ) (x : A) → slice_get xs i ≡ Some x → h i ≡ f (a + i, x))
    → up_to h (length xs) ≡ flat_map f (zip (range_with_len a (length xs)) xs)
up_to_flat f [] a h same = refl
up_to_flat f (x ∷ xs) a h same =
    let z : a + 0 ≡ a = omega arith in
    up_to_cons h (length xs)
    ∙ ap₂ (λ l m. l ++ m) (same 0 x refl ∙ ap (λ n. f (n, x)) z)
    (up_to_flat f xs (a + 1) (λ i. h (suc i)) (λ i y e. let more : a + suc i ≡ a + 1 + i = omega arith in same (suc i) y e ∙ ap (λ n. f (n, y)) more))

singles : {A B : Type 0} (g : A → B) (xs : List A) → flat_map (λ x. g x ∷ []) xs ≡ map g xs
singles g [] = refl
singles g (x ∷ xs) = ap (λ l. g x ∷ l) (singles g xs)

length_up_to : {A : Type 0} (g : ℕ → A) (count : ℕ) → length (up_to (λ n. g n ∷ []) count) ≡ count
length_up_to g zero = refl
length_up_to g (suc n) =
    let one : n + 1 ≡ suc n = omega arith in
    length-append (up_to (λ n. g n ∷ []) n) (g n ∷ []) ∙ (ap (λ a. a + 1) (length_up_to g n) ∙ one)

get_up_to : {A : Type 0} (g : ℕ → A) (count n : ℕ) → n < count → slice_get (up_to (λ k. g k ∷ []) count) n ≡ Some (g n)
get_up_to g zero n less = absurd (omega (arith, less))
get_up_to g (suc c) n less = ⊎_elim
    (λ old. get_left (up_to (λ k. g k ∷ []) c) (g c ∷ []) n (g n) (get_up_to g c n old))
    (λ most.
    let same : n ≡ c = omega (arith, less, most) in
    let long = length_up_to g c in
    let first : n ≡ length (up_to (λ k. g k ∷ []) c) + 0 = omega (arith, same, long) in
    get_right (up_to (λ k. g k ∷ []) c) (g c ∷ []) n 0 first ∙ ap (λ i. Some (g i)) (sym same))
    (cases_lt n c)

-- What is taken, capture by capture

module _ (late : Bool) (values : List Value) (contents : List (List Value)) where
  abbrev of_capture : Capture → Value
  of_capture c = read_leaf c.memory (get_or contents c.number []) (is_reading c.memory values c.port) (value_at values c.port.addr).bits c.element

  abbrev when_captured : Capture → Option Value
  when_captured c = when_taken late c.after (of_capture c)

  of_leaves : (m : ℕ) (memory : NetMemory) (port : NetPort) (read : NetRead) (b : Bool)
      → (if b then leaves_taken late read.after memory (get_or contents m []) (is_reading memory values port) (value_at values port.addr).bits (length read.leaves) else [])
      ≡ map when_captured (if b then map (λ both. record { number = m; memory = memory; port = port; after = read.after; element = both.0; leaf = both.1 }) (numbered read.leaves) else [])
  of_leaves m memory port read true =
      let g = λ (k : ℕ). when_taken late read.after (read_leaf memory (get_or contents m []) (is_reading memory values port) (value_at values port.addr).bits k) in
      up_to_flat (λ (both : ℕ × ℕ). g both.0 ∷ []) read.leaves 0 (λ k. g k ∷ []) (λ i x e. let z : i ≡ 0 + i = omega arith in ap (λ n. g n ∷ []) z)
      ∙ (singles (λ (both : ℕ × ℕ). g both.0) (numbered read.leaves)
      ∙ sym (maps when_captured (λ both. record { number = m; memory = memory; port = port; after = read.after; element = both.0; leaf = both.1 }) (numbered read.leaves)))
  of_leaves m memory port read false = refl

  of_read : (m : ℕ) (memory : NetMemory) (port : NetPort) (o : Option NetRead)
      → read_taken late memory (get_or contents m []) (is_reading memory values port) (value_at values port.addr).bits o ≡ map when_captured (captured_by m memory port o)
  of_read m memory port None = refl
  of_read m memory port (Some read) = of_leaves m memory port read read.captured

  of_memory : (both : ℕ × NetMemory) → ports_taken late both.1 values (get_or contents both.0 []) both.1.ports ≡ map when_captured (flat_map (λ port. captured_by both.0 both.1 port port.read) both.1.ports)
  of_memory both =
      same_flat_map (λ port. read_taken late both.1 (get_or contents both.0 []) (is_reading both.1 values port) (value_at values port.addr).bits port.read)
      (λ port. map when_captured (captured_by both.0 both.1 port port.read)) (λ port. of_read both.0 both.1 port port.read) both.1.ports
      ∙ sym (map_flat_map when_captured (λ port. captured_by both.0 both.1 port port.read) both.1.ports)

  taken_are : (net : Net) → memories_taken late net.memories values contents (length net.memories) ≡ map when_captured (captures net)
  taken_are net =
      let f = λ (both : ℕ × NetMemory). ports_taken late both.1 values (get_or contents both.0 []) both.1.ports in
      up_to_flat f net.memories 0 (λ m. memory_taken late values (get_or contents m []) (slice_get net.memories m))
      (λ i x e. let z : i ≡ 0 + i = omega arith in ap (memory_taken late values (get_or contents i [])) e ∙ ap (λ n. f (n, x)) z)
      ∙ (same_flat_map f (λ both. map when_captured (flat_map (λ port. captured_by both.0 both.1 port port.read) both.1.ports)) of_memory (numbered net.memories)
      ∙ sym (map_flat_map when_captured (λ (both : ℕ × NetMemory). flat_map (λ port. captured_by both.0 both.1 port port.read) both.1.ports) (numbered net.memories)))

  taken_at : (net : Net) (n : ℕ) (c : Capture) → slice_get (captures net) n ≡ Some c → get_or (memories_taken late net.memories values contents (length net.memories)) n None ≡ when_captured c
  taken_at net n c e =
      get_or_from_slice_get (memories_taken late net.memories values contents (length net.memories)) n (when_captured c) None
      (ap (λ l. slice_get l n) (taken_are net) ∙ (slice_get-map when_captured (captures net) n ∙ ap (option_map when_captured) e))

-- one of the two is there
chosen_one : (after : Bool) (old new : Value) → one_taken (when_taken false after old) (when_taken true after new) ≡ (if after then new else old)
chosen_one true old new = refl
chosen_one false old new = refl

module _ (net : Net) (s : NetState) (fine : IsNet net) (values : List Value) (old new : List (List Value)) (shown_here : AreSeen net values old)
    (old_is : (m : ℕ) (memory : NetMemory) → slice_get net.memories m ≡ Some memory → AreContents memory (s.contents m) (get_or old m []))
    (new_is : (m : ℕ) (memory : NetMemory) → slice_get net.memories m ≡ Some memory → AreContents memory (next_of_memory (instant_of net s (value_at values)) (Some memory) (s.contents m)) (get_or new m []))
  where
    abbrev instant : Instant
    instant = instant_of net s (value_at values)

    -- a leaf that is read, of what the memory holds
    reads_leaf : (memory : NetMemory) (held : List Value) (contents : Held ℕ) (leaf : Leaf) (element : ElementLeaf) (k : ℕ) (set : Bool) (address : ℕ) → AreContents memory contents held
        → slice_get memory.elements k ≡ Some element → element_shape element ≡ leaf_shape leaf
        → read_leaf memory held (set && nat_lt address memory.depth) address k ≡ fitted_to leaf (if set && nat_lt address memory.depth then contents address k else pos 0)
    reads_leaf memory held contents leaf element k set address c there same =
        ap (λ o. held_leaf o (set && nat_lt address memory.depth) held (address * length memory.elements + k)) there
        ∙ (by_set set
        ∙ ap (λ (t : Shape). fitted t.kind t.width (if set && nat_lt address memory.depth then contents address k else pos 0)) same)
      where
        by_test : (b : Bool) → nat_lt address memory.depth ≡ b → (if b then value_at held (address * length memory.elements + k) else fitted element.kind element.width (pos 0))
            ≡ fitted element.kind element.width (if b then contents address k else pos 0)
        by_test true e =
            get_or_from_slice_get held (address * length memory.elements + k) (fitted element.kind element.width (contents address k)) (lone []) (c.each address k element (ltb-true address memory.depth e) there)
        by_test false e = refl

        by_set : (b : Bool) → (if b && nat_lt address memory.depth then value_at held (address * length memory.elements + k) else fitted element.kind element.width (pos 0))
            ≡ fitted element.kind element.width (if b && nat_lt address memory.depth then contents address k else pos 0)
        by_set true = by_test (nat_lt address memory.depth) refl
        by_set false = refl

    module _ (n : ℕ) (c : Capture) (there : slice_get (captures net) n ≡ Some c) (leaf : Leaf) (at : slice_get net.leaves c.leaf ≡ Some leaf) where
      shows : (held : List Value) (contents : Held ℕ) → AreContents c.memory contents held
          → read_leaf c.memory held (is_reading c.memory values c.port) (value_at values c.port.addr).bits c.element ≡ fitted_to leaf (read_by_port c.memory.depth contents (shown instant c.port) c.element)
      shows held contents h =
          let from = capture_from net n c there in
          let port = fine.memories c.number from.place c.memory c.port from.there from.listed in
          let elements = port.read from.read from.reads in
          let counted = elements.counted in
          let inside = slice_get_within from.read.leaves c.element c.leaf from.leaf in
          let el = get_there c.memory.elements c.element (omega (arith, counted, inside)) in
          let same : element_shape el.0 ≡ leaf_shape leaf = some_same (sym (elements.shapes c.element c.leaf el.0 from.leaf el.1) ∙ ap (option_map leaf_shape) at) in
          let bits_are = address_is net s values old shown_here c.memory c.port.addr port.addr in
          let set = set_to_read (is_set instant c.port.en) (option_map (is_set instant) c.port.mode) in
          reads_leaf c.memory held contents leaf el.0 c.element set (value_at values c.port.addr).bits h el.1 same
          ∙ (ap (λ a. fitted_to leaf (if set && nat_lt a c.memory.depth then contents a c.element else pos 0)) bits_are
          ∙ ap (λ o. fitted_to leaf (if where_it_reads o set && nat_lt (unsigned_abs (integer_of (value_at values c.port.addr))) c.memory.depth
          then contents (unsigned_abs (integer_of (value_at values c.port.addr))) c.element else pos 0)) (sym from.reads))

      by_time : (after : Bool) → (if after then of_capture true values new c else of_capture false values old c) ≡ fitted_to leaf (read_by_port c.memory.depth (taken after (s.contents c.number) (next_of_memory instant (Some c.memory) (s.contents c.number))) (shown instant c.port) c.element)
      by_time true = shows (get_or new c.number []) (next_of_memory instant (Some c.memory) (s.contents c.number)) (new_is c.number c.memory (capture_from net n c there).there)
      by_time false = shows (get_or old c.number []) (s.contents c.number) (old_is c.number c.memory (capture_from net n c there).there)

    pub captured_next : (n : ℕ) (c : Capture) (leaf : Leaf) → slice_get (captures net) n ≡ Some c → slice_get net.leaves c.leaf ≡ Some leaf
        → slice_get (all_taken (memories_taken false net.memories values old (length net.memories)) (memories_taken true net.memories values new (length net.memories))
        (length (memories_taken true net.memories values new (length net.memories)))) n ≡ Some (fitted_to leaf (next_of_capture s instant (slice_get (captures net) n)))
    captured_next n c leaf there at =
        let olds = memories_taken false net.memories values old (length net.memories) in
        let news = memories_taken true net.memories values new (length net.memories) in
        let within = slice_get_within (captures net) n c there in
        let long : length news ≡ length (captures net) = ap length (taken_are true values new net) ∙ length-map (captures net) (when_captured true values new) in
        get_up_to (λ n. one_taken (get_or olds n None) (get_or news n None)) (length news) n (omega (arith, within, long))
        ∙ ap Some (ap₂ one_taken (taken_at false values old net n c there) (taken_at true values new net n c there)
        ∙ (chosen_one c.after (of_capture false values old c) (of_capture true values new c)
        ∙ (by_time n c there leaf at c.after ∙ ap (λ o. fitted_to leaf (next_of_capture s instant o)) (sym there))))

    pub all_captured : length (all_taken (memories_taken false net.memories values old (length net.memories)) (memories_taken true net.memories values new (length net.memories))
        (length (memories_taken true net.memories values new (length net.memories)))) ≡ length (captures net)
    all_captured =
        let olds = memories_taken false net.memories values old (length net.memories) in
        let news = memories_taken true net.memories values new (length net.memories) in
        length_up_to (λ n. one_taken (get_or olds n None) (get_or news n None)) (length news) ∙ (ap length (taken_are true values new net) ∙ length-map (captures net) (when_captured true values new))
