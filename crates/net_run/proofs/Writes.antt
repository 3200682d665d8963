-- What a memory holds after its ports is what its contents are then.
use Rattle.std.proofs.Common.{◌≡◌, ◌≢◌, ℕ, zero, suc, ◌+◌, ◌*◌, ◌<◌, ◌≤◌, ◌==◌, ◌&&◌, nat_lt, ℤ, Bool, true, false, List, [], ◌∷◌, refl, sym, ap, ◌∙◌, arith, subst, slice_get, slice_set, length, if◌then◌else◌, Option, Some, None, option_map, ⊎_elim, mul-le-mul_right}
use Rattle.std.specs.Prelude.{unsigned_abs}
use Rattle.std.proofs.lemmas.Grind.{common_steps}
use Rattle.std.proofs.lemmas.List.{get_or-set_same, get_or-set_other, length-set}
use Rattle.std.proofs.lemmas.Bool.{cases_lt, ltb-true}
use Rattle.std.proofs.lemmas.Option.{get_or_from_slice_get, slice_get-get_or, slice_get_within}
use Rattle.bit_words.specs.declared.value.Kind.TheVariants.{Unsigned}
use Rattle.bit_words.specs.declared.value.Value.{Value}
use Rattle.bit_words.specs.Values.{integer, integer_of}
use Rattle.prim_ops.specs.Values.{fitted, is_one}
use Rattle.prim_ops.specs.Ports.{Held, after_port, after_ports}
use Rattle.prim_ops.proofs.Fittings.{refitted}
use Rattle.ground_net.specs.declared.net.Net.{Net}
use Rattle.ground_net.specs.declared.net.NetMemory.{NetMemory}
use Rattle.ground_net.specs.declared.net.NetPort.{NetPort}
use Rattle.ground_net.specs.declared.net.NetWrite.{NetWrite}
use Rattle.ground_net.specs.declared.net.ElementLeaf.{ElementLeaf}
use Rattle.ground_net.specs.Grounds.{Instant}
use Rattle.ground_net.specs.Shapes.{Shape, shape_of_value}
use Rattle.ground_net.specs.Nets.{IsPort, IsUnsigned, AreElements, leaf_shape, element_shape}
use Rattle.ground_net.specs.Cycles.{NetState, instant_of, is_set_at, integer_at, shown, where_it_writes, written_leaf, mask_leaf}
use Rattle.ground_net.proofs.Settling.{le_split, get_there}
use Rattle.net_run.specs.Seeing.{AreSeen, value_at}
use Rattle.net_run.specs.Keeping.{AreContents, put_driven}
use Rattle.net_run.specs.Writing.{written_value, put_leaves, put_element, is_set_to_write, over_port, over_ports}
use Rattle.net_run.proofs.Zeros.{one_row}

numbers_same : (a b : ℕ) → (a == b) ≡ true → a ≡ b
numbers_same a b e = grind (arith, common_steps)

-- leaves of elements stand at different places
differs : (a e l n k : ℕ) → n < l → k < l → (a ≡ e → n ≡ k → ⊥) → e * l + k ≢ a * l + n
differs a e l n k p q h same = ⊎_elim
    (λ less.
    let more : a + 1 ≤ e = omega (arith, less) in
    let room : (a + 1) * l ≤ e * l = mul-le-mul_right l more in
    let row = one_row a l in
    absurd (omega (arith, room, row, p, q, same)))
    (λ most. ⊎_elim
    (λ less.
    let more : e + 1 ≤ a = omega (arith, less) in
    let room : (e + 1) * l ≤ a * l = mul-le-mul_right l more in
    let row = one_row e l in
    absurd (omega (arith, room, row, p, q, same)))
    (λ least.
    let one : a ≡ e = omega (arith, most, least) in
    let times : a * l ≡ e * l = ap (λ z. z * l) one in
    h one (omega (arith, times, same)))
    (cases_lt e a))
    (cases_lt a e)

get_set_other : {A : Type 0} (xs : List A) (i j : ℕ) (v x : A) → j ≢ i → slice_get xs j ≡ Some x → slice_get (slice_set xs i v) j ≡ Some x
get_set_other xs i j v x n e =
    let within = slice_get_within xs j x e in
    let long = length-set xs i v in
    slice_get-get_or (slice_set xs i v) j x (omega (arith, within, long)) ∙ ap Some (get_or-set_other xs i j v x n ∙ get_or_from_slice_get xs j x x e)

get_set_same : {A : Type 0} (xs : List A) (i : ℕ) (v x : A) → slice_get xs i ≡ Some x → slice_get (slice_set xs i v) i ≡ Some v
get_set_same xs i v x e =
    let within = slice_get_within xs i x e in
    let long = length-set xs i v in
    slice_get-get_or (slice_set xs i v) i v (omega (arith, within, long)) ∙ ap Some (get_or-set_same xs i v v within)

put_other : (o : Option Value) (xs : List Value) (i j : ℕ) (x : Value) → j ≢ i → slice_get xs j ≡ Some x → slice_get (put_driven o i xs) j ≡ Some x
put_other (Some v) xs i j x n e = get_set_other xs i j v x n e
put_other None xs i j x n e = e

put_long : (o : Option Value) (i : ℕ) (xs : List Value) → length (put_driven o i xs) ≡ length xs
put_long (Some v) i xs = length-set xs i v
put_long None i xs = refl

module _ (net : Net) (s : NetState) (values : List Value) (kept_contents : List (List Value)) (seen_here : AreSeen net values kept_contents) where
  abbrev instant : Instant
  instant = instant_of net s (value_at values)

  shape_fits : (v : Value) (leaf : ElementLeaf) → shape_of_value v ≡ element_shape leaf → v ≡ fitted leaf.kind leaf.width (integer_of v)
  shape_fits v leaf e = sym (refitted v) ∙ ap (λ (t : Shape). fitted t.kind t.width (integer_of v)) e

  -- a leaf is written where its mask is 1
  put_here : (i : ℕ) (held : List Value) (leaf : ElementLeaf) (old : ℤ) (x : ℕ) (o : Option ℕ) → slice_get held i ≡ Some (fitted leaf.kind leaf.width old)
      → value_at values x ≡ fitted leaf.kind leaf.width (integer_of (value_at values x))
      → slice_get (put_driven (written_value values o (Some x)) i held) i ≡ Some (fitted leaf.kind leaf.width (if is_set_at instant o then integer_at instant (Some x) else old))
  put_here i held leaf old x None e fine = e
  put_here i held leaf old x (Some mask) e fine = by_test (is_one (value_at values mask))
    where
      by_test : (b : Bool) → slice_get (put_driven (if b then Some (value_at values x) else None) i held) i ≡ Some (fitted leaf.kind leaf.width (if b then integer_of (value_at values x) else old))
      by_test true = get_set_same held i (value_at values x) (fitted leaf.kind leaf.width old) e ∙ ap Some fine
      by_test false = e

  module _ (memory : NetMemory) (write : NetWrite) (elements : AreElements net memory write.leaves) (address : ℕ) (inside : address < memory.depth) (contents : Held ℕ) where
    abbrev many : ℕ
    many = length memory.elements

    abbrev changed : Held ℕ
    changed element k = if (address == element) && is_set_at instant (slice_get write.masks k) then integer_at instant (slice_get write.leaves k) else contents element k

    -- The first leaves of the element are written.
    record IsPut (n : ℕ) (held : List Value) : Type 0 where
      pub long : length held ≡ memory.depth * length memory.elements
      pub done : (element k : ℕ) (leaf : ElementLeaf) → element < memory.depth → slice_get memory.elements k ≡ Some leaf → k < n
          → slice_get held (element * length memory.elements + k) ≡ Some (fitted leaf.kind leaf.width (changed element k))
      pub rest : (element k : ℕ) (leaf : ElementLeaf) → element < memory.depth → slice_get memory.elements k ≡ Some leaf → n ≤ k
          → slice_get held (element * length memory.elements + k) ≡ Some (fitted leaf.kind leaf.width (contents element k))

    module _ (n : ℕ) (below : n < many) (held : List Value) (d : IsPut n held) where
      abbrev item : Option Value
      item = written_value values (slice_get write.masks n) (slice_get write.leaves n)

      abbrev later : List Value
      later = put_driven item (address * many + n) held

      elsewhere : (element k : ℕ) (v : Value) → k < many → (address ≡ element → n ≡ k → ⊥) → slice_get held (element * many + k) ≡ Some v → slice_get later (element * many + k) ≡ Some v
      elsewhere element k v less h e = put_other item held (address * many + n) (element * many + k) v (differs address element many n k below less h) e

      at_address : (leaf : ElementLeaf) → slice_get memory.elements n ≡ Some leaf
          → slice_get later (address * many + n) ≡ Some (fitted leaf.kind leaf.width (if is_set_at instant (slice_get write.masks n) then integer_at instant (slice_get write.leaves n) else contents address n))
      at_address leaf there =
          let counted = elements.counted in
          let x = get_there write.leaves n (omega (arith, counted, below)) in
          let fine = shape_fits (value_at values x.0) leaf (seen_here.leaf x.0 (element_shape leaf) (elements.shapes n x.0 leaf x.1 there)) in
          subst (λ p. slice_get (put_driven (written_value values (slice_get write.masks n) p) (address * many + n) held) (address * many + n)
          ≡ Some (fitted leaf.kind leaf.width (if is_set_at instant (slice_get write.masks n) then integer_at instant p else contents address n))) (sym x.1)
          (put_here (address * many + n) held leaf (contents address n) x.0 (slice_get write.masks n) (d.rest address n leaf inside there (omega arith)) fine)

      at_number : (element : ℕ) (leaf : ElementLeaf) → element < memory.depth → slice_get memory.elements n ≡ Some leaf → slice_get later (element * many + n) ≡ Some (fitted leaf.kind leaf.width (changed element n))
      at_number element leaf less there = by_test (address == element) refl
        where
          by_test : (b : Bool) → (address == element) ≡ b
              → slice_get later (element * many + n) ≡ Some (fitted leaf.kind leaf.width (if b && is_set_at instant (slice_get write.masks n) then integer_at instant (slice_get write.leaves n) else contents element n))
          by_test true e =
              subst (λ a. slice_get later (a * many + n)
              ≡ Some (fitted leaf.kind leaf.width (if is_set_at instant (slice_get write.masks n) then integer_at instant (slice_get write.leaves n) else contents a n))) (numbers_same address element e)
              (at_address leaf there)
          by_test false e =
              elsewhere element n (fitted leaf.kind leaf.width (contents element n)) below (λ a m. not_same a e) (d.rest element n leaf less there (omega arith))
            where
              not_same : address ≡ element → (address == element) ≡ false → ⊥
              not_same a e = absurd (grind (arith, common_steps))

      put_more : IsPut (suc n) later
      put_more = record {
        long = put_long item (address * many + n) held ∙ d.long;
        done = λ element k leaf less there small. ⊎_elim
            (λ old. elsewhere element k (fitted leaf.kind leaf.width (changed element k)) (omega (arith, old, below)) (λ a m. omega (arith, m, old)) (d.done element k leaf less there old))
            (λ same. subst (λ j. slice_get memory.elements j ≡ Some leaf → slice_get later (element * many + j) ≡ Some (fitted leaf.kind leaf.width (changed element j))) (sym same) (at_number element leaf less) there)
            (le_split (omega (arith, small)));
        rest = λ element k leaf less there large.
            elsewhere element k (fitted leaf.kind leaf.width (contents element k)) (slice_get_within memory.elements k leaf there) (λ a m. omega (arith, m, large)) (d.rest element k leaf less there (omega (arith, large)));
      }

    puts : (n : ℕ) → n ≤ many → (held : List Value) → AreContents memory contents held → IsPut n (put_leaves values write address many n held)
    puts zero most held c = record {
      long = c.counted;
      done = λ element k leaf less there small. absurd (omega (arith, small));
      rest = λ element k leaf less there large. c.each element k leaf less there;
    }
    puts (suc n) most held c = put_more n (omega (arith, most)) (put_leaves values write address many n held) (puts n (omega (arith, most)) held c)

    put_all : (held : List Value) → AreContents memory contents held → AreContents memory changed (put_leaves values write address many many held)
    put_all held c =
        let p = puts many (omega arith) held c in
        record { counted = p.long; each = λ element k leaf less there. p.done element k leaf less there (slice_get_within memory.elements k leaf there) }

  module _ (memory : NetMemory) where
    written_by : (o : Option NetWrite) → ((write : NetWrite) → o ≡ Some write → AreElements net memory write.leaves) → (set : Bool) (address : ℕ) (contents : Held ℕ) (held : List Value) → AreContents memory contents held
        → AreContents memory (λ element k. if (where_it_writes o set && nat_lt address memory.depth) && ((address == element) && is_set_at instant (mask_leaf o k)) then integer_at instant (written_leaf o k) else contents element k)
        (put_element memory values o set address held)
    written_by None h set address contents held c = c
    written_by (Some write) h true address contents held c = by_test (nat_lt address memory.depth) refl
      where
        by_test : (b : Bool) → nat_lt address memory.depth ≡ b
            → AreContents memory (λ element k. if b && ((address == element) && is_set_at instant (slice_get write.masks k)) then integer_at instant (slice_get write.leaves k) else contents element k)
            (if b then put_leaves values write address (length memory.elements) (length memory.elements) held else held)
        by_test true e = put_all memory write (h write refl) address (ltb-true address memory.depth e) contents held c
        by_test false e = c
    written_by (Some write) h false address contents held c = c

    pub address_is : (x : ℕ) → IsUnsigned net x → (value_at values x).bits ≡ unsigned_abs (integer_of (value_at values x))
    address_is x u =
        let v = value_at values x in
        let shape_is : shape_of_value v ≡ leaf_shape u.leaf = seen_here.leaf x (leaf_shape u.leaf) (ap (option_map leaf_shape) u.there) in
        let kind_is : v.kind ≡ Unsigned = ap (λ (t : Shape). t.kind) shape_is ∙ u.is in
        sym (ap (λ k. unsigned_abs (integer k v.width v.bits)) kind_is)

    port_written : (port : NetPort) → IsPort net memory port → (contents : Held ℕ) (held : List Value) → AreContents memory contents held
        → AreContents memory (after_port memory.depth contents (shown instant port)) (over_port memory values held port)
    port_written port p contents held c =
        subst (λ a. AreContents memory (after_port memory.depth contents (shown instant port)) (put_element memory values port.write (is_set_to_write values port) a held)) (sym (address_is port.addr p.addr))
        (written_by port.write p.written (is_set_to_write values port) (unsigned_abs (integer_of (value_at values port.addr))) contents held c)

    pub ports_written : (ports : List NetPort) → ((p : ℕ) (port : NetPort) → slice_get ports p ≡ Some port → IsPort net memory port) → (contents : Held ℕ) (held : List Value) → AreContents memory contents held
        → AreContents memory (after_ports memory.depth (shown instant) ports contents) (over_ports memory values ports held)
    ports_written [] h contents held c = c
    ports_written (port ∷ ports) h contents held c =
        ports_written ports (λ p other e. h (suc p) other e) (after_port memory.depth contents (shown instant port)) (over_port memory values held port) (port_written port (h 0 port refl) contents held c)
