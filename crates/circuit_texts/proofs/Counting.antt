-- The integers of a state by how many there are: two states have the same list of them where they agree number by number, and nowhere else.
use Rattle.std.proofs.Common.{◌≡◌, ℕ, zero, suc, ◌+◌, ◌<◌, List, [], ◌∷◌, ◌++◌, map, length, zip, ℤ, Some, refl, sym, ap, ap₂, ◌∙◌, subst, arith, slice_get, length-append}
use Rattle.std.specs.List.{flat_map, range_with_len}
use Rattle.std.proofs.lemmas.List.{length-map}
use Rattle.ground_net.specs.declared.net.Net.{Net}
use Rattle.ground_net.specs.declared.net.NetMemory.{NetMemory}
use Rattle.ground_net.specs.declared.net.NetRegister.{NetRegister}
use Rattle.ground_net.specs.Shapes.{Shape}
use Rattle.ground_net.specs.Cycles.{NetState, Capture, captures}
use Rattle.ground_net.specs.Nets.{register_shapes, element_shape, element_shapes, captured_shapes, shape_or_none}
use Rattle.snapshot_text.specs.Snapshots.{integers_all, integers_of_memory, integers_of_state}

-- Lists

heads : {A : Type 0} {x y : A} {xs ys : List A} → x ∷ xs ≡ y ∷ ys → x ≡ y
heads e = cc

tails : {A : Type 0} {x y : A} {xs ys : List A} → x ∷ xs ≡ y ∷ ys → xs ≡ ys
tails e = cc

pub append_same : {A : Type 0} (xs ys us vs : List A) → length xs ≡ length ys → xs ++ us ≡ ys ++ vs → (xs ≡ ys) × (us ≡ vs)
append_same [] [] us vs l e = (refl, e)
append_same [] (y ∷ ys) us vs l e = absurd (omega arith)
append_same (x ∷ xs) [] us vs l e = absurd (omega arith)
append_same (x ∷ xs) (y ∷ ys) us vs l e =
    let rest = append_same xs ys us vs (omega arith) (tails e) in
    (ap₂ (λ z zs. z ∷ zs) (heads e) rest.0, rest.1)

pub range_long : (a n : ℕ) → length (range_with_len a n) ≡ n
range_long a zero = refl
range_long a (suc n) = ap suc (range_long (a + 1) n)

flat_long : {A B : Type 0} (f g : A → List B) → ((x : A) → length (f x) ≡ length (g x)) → (xs : List A) → length (flat_map f xs) ≡ length (flat_map g xs)
flat_long f g h [] = refl
flat_long f g h (x ∷ xs) = length-append (f x) (flat_map f xs) ∙ (ap₂ (λ m n. m + n) (h x) (flat_long f g h xs) ∙ sym (length-append (g x) (flat_map g xs)))

map_long : {A B : Type 0} (f g : A → B) (xs : List A) → length (map f xs) ≡ length (map g xs)
map_long f g xs = length-map xs f ∙ sym (length-map xs g)

-- what is made of the numbers of a range
module _ {B : Type 0} (f g : ℕ → B) where
  map_alike : (a n : ℕ) → ((i : ℕ) → i < n → f (a + i) ≡ g (a + i)) → map f (range_with_len a n) ≡ map g (range_with_len a n)
  map_alike a zero h = refl
  map_alike a (suc n) h =
      let z : a + 0 ≡ a = omega arith in
      ap₂ (λ x xs. x ∷ xs) (subst (λ k. f k ≡ g k) z (h 0 (omega arith)))
      (map_alike (a + 1) n (λ i lt. let e : a + suc i ≡ a + 1 + i = omega arith in subst (λ k. f k ≡ g k) e (h (suc i) (omega (arith, lt)))))

  map_each : (a n i : ℕ) → map f (range_with_len a n) ≡ map g (range_with_len a n) → i < n → f (a + i) ≡ g (a + i)
  map_each a zero i e lt = absurd (omega (arith, lt))
  map_each a (suc n) zero e lt = let z : a ≡ a + 0 = omega arith in subst (λ k. f k ≡ g k) z (heads e)
  map_each a (suc n) (suc i) e lt = let z : a + 1 + i ≡ a + suc i = omega arith in subst (λ k. f k ≡ g k) z (map_each (a + 1) n i (tails e) (omega (arith, lt)))

module _ {B : Type 0} (f g : ℕ → List B) where
  flat_alike : (a n : ℕ) → ((i : ℕ) → i < n → f (a + i) ≡ g (a + i)) → flat_map f (range_with_len a n) ≡ flat_map g (range_with_len a n)
  flat_alike a zero h = refl
  flat_alike a (suc n) h =
      let z : a + 0 ≡ a = omega arith in
      ap₂ (λ x xs. x ++ xs) (subst (λ k. f k ≡ g k) z (h 0 (omega arith)))
      (flat_alike (a + 1) n (λ i lt. let e : a + suc i ≡ a + 1 + i = omega arith in subst (λ k. f k ≡ g k) e (h (suc i) (omega (arith, lt)))))

  flat_each : ((i : ℕ) → length (f i) ≡ length (g i)) → (a n i : ℕ) → flat_map f (range_with_len a n) ≡ flat_map g (range_with_len a n) → i < n → f (a + i) ≡ g (a + i)
  flat_each long a zero i e lt = absurd (omega (arith, lt))
  flat_each long a (suc n) zero e lt =
      let z : a ≡ a + 0 = omega arith in
      subst (λ k. f k ≡ g k) z (append_same (f a) (g a) (flat_map f (range_with_len (a + 1) n)) (flat_map g (range_with_len (a + 1) n)) (long a) e).0
  flat_each long a (suc n) (suc i) e lt =
      let z : a + 1 + i ≡ a + suc i = omega arith in
      subst (λ k. f k ≡ g k) z
      (flat_each long (a + 1) n i (append_same (f a) (g a) (flat_map f (range_with_len (a + 1) n)) (flat_map g (range_with_len (a + 1) n)) (long a) e).1 (omega (arith, lt)))

-- A memory: how many elements, and how many leaves each has
abbrev Sizes : Type 0
Sizes = List (ℕ × ℕ)

abbrev of_memory : ℕ × ℕ → (ℕ → ℕ → ℤ) → List ℤ
of_memory size contents = flat_map (λ element. map (contents element) (range_with_len 0 size.1)) (range_with_len 0 size.0)

abbrev of_memories : ℕ → Sizes → (ℕ → ℕ → ℕ → ℤ) → List ℤ
of_memories a sizes contents = flat_map (λ both. of_memory both.1 (contents both.0)) (zip (range_with_len a (length sizes)) sizes)

abbrev pub counted : ℕ → Sizes → ℕ → NetState → List ℤ
counted registers sizes reads t = map t.registers (range_with_len 0 registers) ++ (of_memories 0 sizes t.contents ++ map t.captured (range_with_len 0 reads))

-- The states agree, number by number.
pub record Agree (registers : ℕ) (sizes : List (ℕ × ℕ)) (reads : ℕ) (t u : NetState) : Type 0 where
  pub of_registers : (n : ℕ) → n < registers → t.registers n ≡ u.registers n
  pub of_contents : (m : ℕ) (size : ℕ × ℕ) (element k : ℕ) → slice_get sizes m ≡ Some size → element < size.0 → k < size.1 → t.contents m element k ≡ u.contents m element k
  pub of_reads : (n : ℕ) → n < reads → t.captured n ≡ u.captured n

memory_long : (size : ℕ × ℕ) (f g : ℕ → ℕ → ℤ) → length (of_memory size f) ≡ length (of_memory size g)
memory_long size f g = flat_long (λ element. map (f element) (range_with_len 0 size.1)) (λ element. map (g element) (range_with_len 0 size.1)) (λ element. map_long (f element) (g element) (range_with_len 0 size.1)) (range_with_len 0 size.0)

memories_long : (a : ℕ) (sizes : Sizes) (f g : ℕ → ℕ → ℕ → ℤ) → length (of_memories a sizes f) ≡ length (of_memories a sizes g)
memories_long a sizes f g = flat_long (λ both. of_memory both.1 (f both.0)) (λ both. of_memory both.1 (g both.0)) (λ both. memory_long both.1 (f both.0) (g both.0)) (zip (range_with_len a (length sizes)) sizes)

memory_alike : (size : ℕ × ℕ) (f g : ℕ → ℕ → ℤ) → ((element k : ℕ) → element < size.0 → k < size.1 → f element k ≡ g element k) → of_memory size f ≡ of_memory size g
memory_alike size f g h =
    flat_alike (λ element. map (f element) (range_with_len 0 size.1)) (λ element. map (g element) (range_with_len 0 size.1)) 0 size.0
    (λ element lt. map_alike (f (0 + element)) (g (0 + element)) 0 size.1 (λ k less. let z : 0 + element ≡ element = omega arith in let y : 0 + k ≡ k = omega arith in
    subst (λ e. f e (0 + k) ≡ g e (0 + k)) (sym z) (subst (λ j. f element j ≡ g element j) (sym y) (h element k lt less))))

memory_each : (size : ℕ × ℕ) (f g : ℕ → ℕ → ℤ) → of_memory size f ≡ of_memory size g → (element k : ℕ) → element < size.0 → k < size.1 → f element k ≡ g element k
memory_each size f g e element k lt less =
    let z : 0 + element ≡ element = omega arith in
    let y : 0 + k ≡ k = omega arith in
    let row = flat_each (λ element. map (f element) (range_with_len 0 size.1)) (λ element. map (g element) (range_with_len 0 size.1)) (λ element. map_long (f element) (g element) (range_with_len 0 size.1)) 0 size.0 element e lt in
    subst (λ j. f element j ≡ g element j) y
    (subst (λ i. f i (0 + k) ≡ g i (0 + k)) z (map_each (f (0 + element)) (g (0 + element)) 0 size.1 k row less))

memories_alike : (a : ℕ) (sizes : Sizes) (f g : ℕ → ℕ → ℕ → ℤ) → ((m : ℕ) (size : ℕ × ℕ) (element k : ℕ) → slice_get sizes m ≡ Some size → element < size.0 → k < size.1 → f (a + m) element k ≡ g (a + m) element k)
    → of_memories a sizes f ≡ of_memories a sizes g
memories_alike a [] f g h = refl
memories_alike a (size ∷ sizes) f g h =
    let z : a + 0 ≡ a = omega arith in
    ap₂ (λ x xs. x ++ xs) (memory_alike size (f a) (g a) (λ element k lt less. subst (λ n. f n element k ≡ g n element k) z (h 0 size element k refl lt less)))
    (memories_alike (a + 1) sizes f g (λ m s element k e lt less. let y : a + suc m ≡ a + 1 + m = omega arith in subst (λ n. f n element k ≡ g n element k) y (h (suc m) s element k e lt less)))

memories_each : (a : ℕ) (sizes : Sizes) (f g : ℕ → ℕ → ℕ → ℤ) → of_memories a sizes f ≡ of_memories a sizes g
    → (m : ℕ) (size : ℕ × ℕ) (element k : ℕ) → slice_get sizes m ≡ Some size → element < size.0 → k < size.1 → f (a + m) element k ≡ g (a + m) element k
memories_each a [] f g e m size element k at lt less = absurd cc
memories_each a (s ∷ sizes) f g e zero size element k at lt less =
    let same : s ≡ size = cc in
    let z : a ≡ a + 0 = omega arith in
    let parts = append_same (of_memory s (f a)) (of_memory s (g a)) (of_memories (a + 1) sizes f) (of_memories (a + 1) sizes g) (memory_long s (f a) (g a)) e in
    subst (λ n. f n element k ≡ g n element k) z
    (memory_each s (f a) (g a) parts.0 element k (subst (λ (x : ℕ × ℕ). element < x.0) (sym same) lt) (subst (λ (x : ℕ × ℕ). k < x.1) (sym same) less))
memories_each a (s ∷ sizes) f g e (suc m) size element k at lt less =
    let z : a + 1 + m ≡ a + suc m = omega arith in
    let parts = append_same (of_memory s (f a)) (of_memory s (g a)) (of_memories (a + 1) sizes f) (of_memories (a + 1) sizes g) (memory_long s (f a) (g a)) e in
    subst (λ n. f n element k ≡ g n element k) z (memories_each (a + 1) sizes f g parts.1 m size element k at lt less)

module _ (registers : ℕ) (sizes : List (ℕ × ℕ)) (reads : ℕ) (t u : NetState) where
  -- States that agree have the same integers.
  pub agree_counted : Agree registers sizes reads t u → counted registers sizes reads t ≡ counted registers sizes reads u
  agree_counted h =
      ap₂ (λ x y. x ++ y) (map_alike t.registers u.registers 0 registers (λ n lt. let z : 0 + n ≡ n = omega arith in subst (λ i. t.registers i ≡ u.registers i) (sym z) (h.of_registers n lt)))
      (ap₂ (λ x y. x ++ y)
      (memories_alike 0 sizes t.contents u.contents (λ m size element k e lt less. let z : 0 + m ≡ m = omega arith in subst (λ i. t.contents i element k ≡ u.contents i element k) (sym z) (h.of_contents m size element k e lt less)))
      (map_alike t.captured u.captured 0 reads (λ n lt. let z : 0 + n ≡ n = omega arith in subst (λ i. t.captured i ≡ u.captured i) (sym z) (h.of_reads n lt))))

  -- And states with the same integers agree.
  pub counted_agree : counted registers sizes reads t ≡ counted registers sizes reads u → Agree registers sizes reads t u
  counted_agree e =
      let first = append_same (map t.registers (range_with_len 0 registers)) (map u.registers (range_with_len 0 registers)) (of_memories 0 sizes t.contents ++ map t.captured (range_with_len 0 reads)) (of_memories 0 sizes u.contents ++ map u.captured (range_with_len 0 reads))
      (map_long t.registers u.registers (range_with_len 0 registers)) e in
      let second = append_same (of_memories 0 sizes t.contents) (of_memories 0 sizes u.contents) (map t.captured (range_with_len 0 reads)) (map u.captured (range_with_len 0 reads)) (memories_long 0 sizes t.contents u.contents) first.1 in
      record {
        of_registers = λ n lt. let z : 0 + n ≡ n = omega arith in subst (λ i. t.registers i ≡ u.registers i) z (map_each t.registers u.registers 0 registers n first.0 lt);
        of_contents = λ m size element k at lt less. let z : 0 + m ≡ m = omega arith in subst (λ i. t.contents i element k ≡ u.contents i element k) z (memories_each 0 sizes t.contents u.contents second.0 m size element k at lt less);
        of_reads = λ n lt. let z : 0 + n ≡ n = omega arith in subst (λ i. t.captured i ≡ u.captured i) z (map_each t.captured u.captured 0 reads n second.1 lt);
      }

-- The integers of a net's state are so many.

all_by_range : (f : ℕ → ℤ) (a : ℕ) (shapes : List Shape) → map (λ (both : ℕ × Shape). f both.0) (zip (range_with_len a (length shapes)) shapes) ≡ map f (range_with_len a (length shapes))
all_by_range f a [] = refl
all_by_range f a (s ∷ shapes) = ap (λ l. f a ∷ l) (all_by_range f (a + 1) shapes)

abbrev pub size_of : NetMemory → ℕ × ℕ
size_of memory = (memory.depth, length memory.elements)

all_of : (f : ℕ → ℤ) (shapes : List Shape) (n : ℕ) → length shapes ≡ n → integers_all shapes f ≡ map f (range_with_len 0 n)
all_of f shapes n e = all_by_range f 0 shapes ∙ ap (λ k. map f (range_with_len 0 k)) e

memory_is : (memory : NetMemory) (contents : ℕ → ℕ → ℤ) → integers_of_memory memory contents ≡ of_memory (size_of memory) contents
memory_is memory contents =
    flat_alike (λ element. integers_all (element_shapes memory) (contents element)) (λ element. map (contents element) (range_with_len 0 (length memory.elements))) 0 memory.depth
    (λ element lt. all_of (contents (0 + element)) (element_shapes memory) (length memory.elements) (length-map memory.elements element_shape))

memories_are : (contents : ℕ → ℕ → ℕ → ℤ) (a : ℕ) (memories : List NetMemory)
    → flat_map (λ (both : ℕ × NetMemory). integers_of_memory both.1 (contents both.0)) (zip (range_with_len a (length memories)) memories) ≡ of_memories a (map size_of memories) contents
memories_are contents a [] = refl
memories_are contents a (m ∷ memories) = ap₂ (λ x y. x ++ y) (memory_is m (contents a)) (memories_are contents (a + 1) memories)

pub integers_counted : (net : Net) (t : NetState) → integers_of_state net t ≡ counted (length net.registers) (map size_of net.memories) (length (captures net)) t
integers_counted net t =
    ap₂ (λ x y. x ++ y)
    (all_of t.registers (register_shapes net) (length net.registers) (length-map net.registers (λ (r : NetRegister). shape_or_none (slice_get net.leaves r.leaf))))
    (ap₂ (λ x y. x ++ y) (memories_are t.contents 0 net.memories)
    (all_of t.captured (captured_shapes net) (length (captures net)) (length-map (captures net) (λ (c : Capture). shape_or_none (slice_get net.leaves c.leaf)))))
