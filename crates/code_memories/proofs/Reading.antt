-- The integers of what captured reads show next.
use Rattle.std.proofs.Common.{◌≡◌, ◌==◌, ℕ, suc, ◌*◌, ◌-◌, ◌%◌, ◌^◌, ◌<◌, ◌≤◌, min, Bool, true, false, ◌&&◌, not, nat_lt, if◌then◌else◌, List, [], ◌∷◌, slice_get, Option, Some, None, option_map, ℤ, pos, negsuc, unsigned_abs, int_eq, int_lt, All, refl, sym, subst, ap, ap₂, ◌∙◌, arith, fold, mod-eq_of_lt}
use Rattle.std.proofs.lemmas.Grind.{common_steps}
use Rattle.std.proofs.lemmas.Bool.Decides.{nat_tests}
use Rattle.std.proofs.lemmas.Nat.{pow_pos}
use Rattle.bit_words.specs.declared.value.Kind.{Kind}
use Rattle.bit_words.specs.declared.value.Kind.TheVariants.{Unsigned, Signed}
use Rattle.bit_words.specs.declared.value.Value.{Value}
use Rattle.bit_words.specs.Values.{integer, integer_of}
use Rattle.prim_ops.specs.declared.operation.PrimOp.TheVariants as op
use Rattle.prim_ops.specs.Kinds.{kind_on_two}
use Rattle.prim_ops.specs.Results.{one_if}
use Rattle.prim_ops.specs.Values.{fitted, is_one, operation, kind_or_unsigned}
use Rattle.prim_ops.specs.Ports.{Held, after_port, after_ports, read_by_port, set_to_write, set_to_read}
use Rattle.prim_ops.proofs.Fittings.{same_value, min_small}
use Rattle.ground_net.specs.declared.ground.Ground.{Ground}
use Rattle.ground_net.specs.declared.ground.Ground.TheVariants.{Const, Leaf}
use Rattle.ground_net.specs.declared.net.NetMemory.{NetMemory}
use Rattle.ground_net.specs.declared.net.NetPort.{NetPort}
use Rattle.ground_net.specs.declared.net.NetWrite.{NetWrite}
use Rattle.ground_net.specs.declared.net.NetRead.{NetRead}
use Rattle.ground_net.specs.Grounds.{Instant, value, chosen, loaded}
use Rattle.ground_net.proofs.Layers.{value-Const, value-Leaf, value-Op, value-Mux, value-Load}
use Rattle.ground_net.specs.Shapes.{Shape, shaped, Table, HasShapes}
use Rattle.ground_net.specs.Cycles.{is_set, is_set_at, integer_at, where_it_writes, where_it_reads, written_leaf, mask_leaf, shown, taken, next_of_memory}
use Rattle.code_memories.specs.declared.leaf.MemoryLeaf.{MemoryLeaf}
use Rattle.code_memories.specs.NextReads.{zero_bit, one_bit, both_ground, unless_ground, writing_ground, reading_ground, same_ground, below_ground, over_leaf, over_ground, there_ground, before_ground, after_ground, captured_ground, IsUInt, HasWriter, HasCapture, ShowsHeld}

-- Zeros

zero_is : (kind : Kind) (width : ℕ) → integer kind width 0 ≡ pos 0
zero_is Unsigned width = refl
zero_is Signed width = let h = pow_pos width in let e : nat_lt (2 * 0) (2 ^ width) ≡ true = grind (arith, nat_tests) in ap (λ b. if b then pos 0 else negsuc (2 ^ width - 1 - 0)) e

no_bits : (width : ℕ) → 0 % 2 ^ width ≡ 0
no_bits width = mod-eq_of_lt (pow_pos width)

pub zero_integer : (kind : Kind) (width : ℕ) → integer_of (fitted kind width (pos 0)) ≡ pos 0
zero_integer kind width = ap (integer kind (min width 128)) (no_bits (min width 128)) ∙ zero_is kind (min width 128)

pub zero_made : (v : Value) → v.bits ≡ 0 → v ≡ fitted v.kind v.width (pos 0)
zero_made v e =
    let narrow : v.width ≤ 128 = v.narrow in
    same_value v (fitted v.kind v.width (pos 0)) refl (min_small v.width narrow) (e ∙ sym (no_bits (min v.width 128)))

pub number_small : (v : Value) (n : ℕ) → v.width ≡ 128 → v.bits ≡ n → n < 2 ^ 128
number_small v n w e = subst (λ x. x < 2 ^ 128) e (subst (λ x. v.bits < 2 ^ x) w v.within)

pub number_made : (v : Value) (n : ℕ) → v.kind ≡ Unsigned → v.width ≡ 128 → v.bits ≡ n → v ≡ fitted Unsigned 128 (pos n)
number_made v n k w e = same_value v (fitted Unsigned 128 (pos n)) k w (e ∙ sym (mod-eq_of_lt (number_small v n w e)))

-- Tests

equal_test : (m n : ℕ) → (m == n) ≡ int_eq (pos m) (pos n)
equal_test m n = grind (arith, common_steps)

less_test : (m n : ℕ) → nat_lt m n ≡ int_lt (pos m) (pos n)
less_test m n = grind (arith, common_steps)

bit_is_one : (b : Bool) → is_one (fitted Unsigned 1 (one_if b)) ≡ b
bit_is_one true = refl
bit_is_one false = refl

-- the number that a UInt shows
number_of : (v : Value) → v.kind ≡ Unsigned → unsigned_abs (integer_of v) ≡ v.bits
number_of v e = ap (λ k. unsigned_abs (integer k v.width v.bits)) e

same_numbers : (x y : Value) → x.kind ≡ Unsigned → y.kind ≡ Unsigned → is_one (operation op.Eq (x ∷ y ∷ []) []) ≡ (unsigned_abs (integer_of x) == unsigned_abs (integer_of y))
same_numbers x y e f =
    ap₂ (λ k l. is_one (fitted (kind_or_unsigned (kind_on_two op.Eq k l)) 1 (one_if (int_eq (integer k x.width x.bits) (integer l y.width y.bits))))) e f
    ∙ (bit_is_one (int_eq (pos x.bits) (pos y.bits)) ∙ (sym (equal_test x.bits y.bits) ∙ sym (ap₂ (λ m n. m == n) (number_of x e) (number_of y f))))

below_number : (x : Value) (n : ℕ) → x.kind ≡ Unsigned → n < 2 ^ 128 → is_one (operation op.Lt (x ∷ fitted Unsigned 128 (pos n) ∷ []) []) ≡ nat_lt (unsigned_abs (integer_of x)) n
below_number x n e lt =
    ap (λ k. is_one (fitted (kind_or_unsigned (kind_on_two op.Lt k Unsigned)) 1 (one_if (int_lt (integer k x.width x.bits) (pos (n % 2 ^ 128)))))) e
    ∙ (bit_is_one (int_lt (pos x.bits) (pos (n % 2 ^ 128))) ∙ (sym (less_test x.bits (n % 2 ^ 128)) ∙ ap₂ nat_lt (sym (number_of x e)) (mod-eq_of_lt lt)))

-- Conditions

and_both : (a b c : Bool) → (a && (b && c)) ≡ ((a && b) && c)
and_both true b c = refl
and_both false b c = refl

module _ (instant : Instant) where
  both_value : (x : ℕ) (rest : Ground) → is_one (value (both_ground x rest) instant) ≡ (is_set instant x && is_one (value rest instant))
  both_value x rest =
      ap is_one (value-Mux (Leaf x ∷ rest ∷ Const zero_bit ∷ []) instant ∙ ap₂ (λ v w. chosen (v ∷ value rest instant ∷ w ∷ [])) (value-Leaf x instant) (value-Const zero_bit instant))
      ∙ by_test (is_set instant x) (value rest instant)
    where
      by_test : (b : Bool) (v : Value) → is_one (if b then v else zero_bit) ≡ (b && is_one v)
      by_test true v = refl
      by_test false v = refl

  unless_value : (x : ℕ) (rest : Ground) → is_one (value (unless_ground x rest) instant) ≡ (not (is_set instant x) && is_one (value rest instant))
  unless_value x rest =
      ap is_one (value-Mux (Leaf x ∷ Const zero_bit ∷ rest ∷ []) instant ∙ ap₂ (λ v w. chosen (v ∷ w ∷ value rest instant ∷ [])) (value-Leaf x instant) (value-Const zero_bit instant))
      ∙ by_test (is_set instant x) (value rest instant)
    where
      by_test : (b : Bool) (v : Value) → is_one (if b then zero_bit else v) ≡ (not b && is_one v)
      by_test true v = refl
      by_test false v = refl

  writing_value : (en : ℕ) (mode : Option ℕ) (rest : Ground)
      → is_one (value (writing_ground en mode rest) instant) ≡ (set_to_write (is_set instant en) (option_map (is_set instant) mode) && is_one (value rest instant))
  writing_value en None rest = both_value en rest
  writing_value en (Some mode) rest =
      both_value en (both_ground mode rest) ∙ (ap (λ b. is_set instant en && b) (both_value mode rest) ∙ and_both (is_set instant en) (is_set instant mode) (is_one (value rest instant)))

  reading_value : (en : ℕ) (mode : Option ℕ) (rest : Ground)
      → is_one (value (reading_ground en mode rest) instant) ≡ (set_to_read (is_set instant en) (option_map (is_set instant) mode) && is_one (value rest instant))
  reading_value en None rest = both_value en rest
  reading_value en (Some mode) rest =
      both_value en (unless_ground mode rest) ∙ (ap (λ b. is_set instant en && b) (unless_value mode rest) ∙ and_both (is_set instant en) (not (is_set instant mode)) (is_one (value rest instant)))

  same_is : (x y : ℕ) → (instant.leaf x).kind ≡ Unsigned → (instant.leaf y).kind ≡ Unsigned
      → is_one (value (same_ground x y) instant) ≡ (unsigned_abs (integer_of (instant.leaf x)) == unsigned_abs (integer_of (instant.leaf y)))
  same_is x y e f =
      ap is_one (value-Op op.Eq (Leaf x ∷ Leaf y ∷ []) [] instant ∙ ap₂ (λ v w. operation op.Eq (v ∷ w ∷ []) []) (value-Leaf x instant) (value-Leaf y instant))
      ∙ same_numbers (instant.leaf x) (instant.leaf y) e f

  below_is : (x n : ℕ) → (instant.leaf x).kind ≡ Unsigned → n < 2 ^ 128 → is_one (value (below_ground x (fitted Unsigned 128 (pos n))) instant) ≡ nat_lt (unsigned_abs (integer_of (instant.leaf x))) n
  below_is x n e lt =
      ap is_one (value-Op op.Lt (Leaf x ∷ Const (fitted Unsigned 128 (pos n)) ∷ []) [] instant
      ∙ ap₂ (λ v w. operation op.Lt (v ∷ w ∷ []) []) (value-Leaf x instant) (value-Const (fitted Unsigned 128 (pos n)) instant))
      ∙ below_number (instant.leaf x) n e lt

-- Writes

numbers_same : (a b : ℕ) → (a == b) ≡ true → a ≡ b
numbers_same a b e = grind (arith, common_steps)

none_some : {A : Type 0} {x : A} → None ≡ Some x → ⊥
none_some e = cc

chosen_integer : (b : Bool) (v w : Value) → integer_of (if b then v else w) ≡ (if b then integer_of v else integer_of w)
chosen_integer true v w = refl
chosen_integer false v w = refl

-- what isn't masked isn't written
not_masked : {A : Type 0} (b c : Bool) (x y : A) → (if b && (c && false) then x else y) ≡ y
not_masked true true x y = refl
not_masked true false x y = refl
not_masked false c x y = refl

conditions : (w q e l : Bool) → (e ≡ true → l ≡ true) → (w && (q && e)) ≡ ((w && l) && (e && q))
conditions false q e l h = refl
conditions true true true l h = ap (λ b. b && true) (sym (h refl))
conditions true false true l h = sym (ap (λ b. b && false) (h refl))
conditions true true false true h = refl
conditions true true false false h = refl
conditions true false false true h = refl
conditions true false false false h = refl

module _ (instant : Instant) (table : Table) (k addr depth : ℕ) (s : Shape) (shapes : HasShapes table instant) (plain : (instant.leaf addr).kind ≡ Unsigned) where
  abbrev at : ℕ
  at = unsigned_abs (integer_of (instant.leaf addr))

  unsigned_there : (x : ℕ) → IsUInt table x → (instant.leaf x).kind ≡ Unsigned
  unsigned_there x h = ap (λ (t : Shape). t.kind) (shapes.leaf x (shaped Unsigned h.width) h.there)

  module _ (port : NetPort) (g : Ground) (held : Held ℕ) (within : nat_lt at depth ≡ true) (e : integer_of (value g instant) ≡ held at k) where
    abbrev its : ℕ
    its = unsigned_abs (integer_of (instant.leaf port.addr))

    abbrev set : Bool
    set = set_to_write (is_set instant port.en) (option_map (is_set instant) port.mode)

    by_leaf : (mask source : Option ℕ) → (port_reads : (instant.leaf port.addr).kind ≡ Unsigned) → ((q : ℕ) → mask ≡ Some q → (d : ℕ) × (source ≡ Some d))
        → integer_of (value (over_leaf addr port mask source g) instant) ≡ (if (set && nat_lt its depth) && ((its == at) && is_set_at instant mask) then integer_at instant source else held at k)
    by_leaf None source r h = e ∙ sym (not_masked (set && nat_lt its depth) (its == at) (integer_at instant source) (held at k))
    by_leaf (Some q) None r h = absurd (none_some (h q refl).1)
    by_leaf (Some q) (Some d) r h =
        let condition = writing_ground port.en port.mode (both_ground q (same_ground port.addr addr)) in
        let test : is_one (value condition instant) ≡ ((set && nat_lt its depth) && ((its == at) && is_set instant q))
        = writing_value instant port.en port.mode (both_ground q (same_ground port.addr addr))
        ∙ (ap (λ b. set && b) (both_value instant q (same_ground port.addr addr) ∙ ap (λ b. is_set instant q && b) (same_is instant port.addr addr r plain))
        ∙ conditions set (is_set instant q) (its == at) (nat_lt its depth) (λ t. ap (λ n. nat_lt n depth) (numbers_same its at t) ∙ within)) in
        ap integer_of (value-Mux (condition ∷ Leaf d ∷ g ∷ []) instant ∙ ap (λ v. chosen (value condition instant ∷ v ∷ value g instant ∷ [])) (value-Leaf d instant))
        ∙ (chosen_integer (is_one (value condition instant)) (instant.leaf d) (value g instant) ∙ ap₂ (λ b i. if b then integer_of (instant.leaf d) else i) test e)

    by_write : (o : Option NetWrite) → ((write : NetWrite) → o ≡ Some write → HasWriter table k s port write)
        → integer_of (value (over_leaf addr port (mask_leaf o k) (written_leaf o k) g) instant)
        ≡ (if (where_it_writes o set && nat_lt its depth) && ((its == at) && is_set_at instant (mask_leaf o k)) then integer_at instant (written_leaf o k) else held at k)
    by_write None h = e
    by_write (Some write) h = let w = h write refl in by_leaf (slice_get write.masks k) (slice_get write.leaves k) (unsigned_there port.addr w.reader.addr) w.both

    over_value : ((write : NetWrite) → port.write ≡ Some write → HasWriter table k s port write) → integer_of (value (over_ground addr k port g) instant) ≡ after_port depth held (shown instant port) at k
    over_value h = by_write port.write h

  -- what all ports leave, one after the other
  pub all_over : (ports : List NetPort) (g : Ground) (held : Held ℕ) → nat_lt at depth ≡ true → All (λ writer. (write : NetWrite) → writer.write ≡ Some write → HasWriter table k s writer write) ports
      → integer_of (value g instant) ≡ held at k → integer_of (value (fold (λ h writer. over_ground addr k writer h) g ports) instant) ≡ after_ports depth (shown instant) ports held at k
  all_over [] g held within each e = e
  all_over (port ∷ ports) g held within each e =
      all_over ports (over_ground addr k port g) (after_port depth held (shown instant port)) within (λ j d lt. each (suc j) d (omega (arith, lt)))
      (over_value port g held within e (each 0 port (omega arith)))

-- Reads

module _ (instant : Instant) (table : Table) (memory : NetMemory) (port : NetPort) (of : MemoryLeaf) (held : Held ℕ) (read : NetRead) (has : HasCapture table memory port of) (shapes : HasShapes table instant)
    (shows : ShowsHeld instant memory of held) (reads : port.read ≡ Some read) where
  abbrev asked : Bool
  asked = set_to_read (is_set instant port.en) (option_map (is_set instant) port.mode)

  abbrev place : ℕ
  place = unsigned_abs (integer_of (instant.leaf port.addr))

  addr_kind : (instant.leaf port.addr).kind ≡ Unsigned
  addr_kind = ap (λ (t : Shape). t.kind) (shapes.leaf port.addr (shaped Unsigned has.reader.addr.width) has.reader.addr.there)

  it_reads : (shown instant port).reads ≡ asked
  it_reads = ap (λ o. where_it_reads o asked) reads

  -- read from given contents
  read_is : (now : Held ℕ) → (if asked && nat_lt place memory.depth then now place of.number else pos 0) ≡ read_by_port memory.depth now (shown instant port) of.number
  read_is now = ap (λ b. if b && nat_lt place memory.depth then now place of.number else pos 0) (sym it_reads)

  before_value : integer_of (value (before_ground port of) instant) ≡ read_by_port memory.depth held (shown instant port) of.number
  before_value =
      let condition = reading_ground port.en port.mode (Const one_bit) in
      let element = instant.load of.memory of.number (instant.leaf port.addr) in
      let test : is_one (value condition instant) ≡ asked = reading_value instant port.en port.mode (Const one_bit) ∙ (ap (λ v. asked && is_one v) (value-Const one_bit instant) ∙ and_true asked) in
      ap integer_of (value-Load of.memory of.number (Leaf port.addr ∷ condition ∷ []) instant ∙ ap (λ v. loaded (instant.load of.memory of.number) (v ∷ value condition instant ∷ [])) (value-Leaf port.addr instant))
      ∙ (chosen_integer (is_one (value condition instant)) element (fitted element.kind element.width (pos 0))
      ∙ (ap₂ (λ b i. if b then i else integer_of (fitted element.kind element.width (pos 0))) test (shows (instant.leaf port.addr))
      ∙ (ap (λ i. if asked then (if nat_lt place memory.depth then held place of.number else pos 0) else i) (zero_integer element.kind element.width)
      ∙ (by_tests asked (nat_lt place memory.depth) (held place of.number) ∙ read_is held))))
    where
      and_true : (b : Bool) → (b && true) ≡ b
      and_true true = refl
      and_true false = refl

      by_tests : (a b : Bool) (i : ℤ) → (if a then (if b then i else pos 0) else pos 0) ≡ (if a && b then i else pos 0)
      by_tests true b i = refl
      by_tests false b i = refl

  there_value : nat_lt place memory.depth ≡ true → integer_of (value (there_ground port.addr of) instant) ≡ held place of.number
  there_value within =
      ap integer_of (value-Load of.memory of.number (Leaf port.addr ∷ Const one_bit ∷ []) instant
      ∙ ap₂ (λ v w. loaded (instant.load of.memory of.number) (v ∷ w ∷ [])) (value-Leaf port.addr instant) (value-Const one_bit instant))
      ∙ (shows (instant.leaf port.addr) ∙ ap (λ b. if b then held place of.number else pos 0) within)

  after_value : memory.depth < 2 ^ 128 → integer_of (value (after_ground memory port of) instant) ≡ read_by_port memory.depth (after_ports memory.depth (shown instant) memory.ports held) (shown instant port) of.number
  after_value small =
      let bound = fitted Unsigned 128 (pos memory.depth) in
      let condition = reading_ground port.en port.mode (below_ground port.addr bound) in
      let all = fold (λ h writer. over_ground port.addr of.number writer h) (there_ground port.addr of) memory.ports in
      let none = fitted of.kind of.width (pos 0) in
      let now = after_ports memory.depth (shown instant) memory.ports held in
      let test : is_one (value condition instant) ≡ (asked && nat_lt place memory.depth)
      = reading_value instant port.en port.mode (below_ground port.addr bound) ∙ ap (λ b. asked && b) (below_is instant port.addr memory.depth addr_kind small) in
      ap integer_of (value-Mux (condition ∷ all ∷ Const none ∷ []) instant ∙ ap (λ v. chosen (value condition instant ∷ value all instant ∷ v ∷ [])) (value-Const none instant))
      ∙ (chosen_integer (is_one (value condition instant)) (value all instant) none
      ∙ (ap₂ (λ b i. if b then integer_of (value all instant) else i) test (zero_integer of.kind of.width)
      ∙ (where_true (asked && nat_lt place memory.depth) (integer_of (value all instant)) (now place of.number) (λ t.
      let within = second asked (nat_lt place memory.depth) t in
      all_over instant table of.number port.addr memory.depth (shaped of.kind of.width) shapes addr_kind memory.ports (there_ground port.addr of) held within has.writers (there_value within))
      ∙ read_is now)))
    where
      second : (a b : Bool) → (a && b) ≡ true → b ≡ true
      second true b t = t
      second false b t = absurd (no t)
        where
          no : false ≡ true → ⊥
          no q = cc

      where_true : (b : Bool) (i j : ℤ) → (b ≡ true → i ≡ j) → (if b then i else pos 0) ≡ (if b then j else pos 0)
      where_true true i j h = h refl
      where_true false i j h = refl

  pub captured_value : (after : Bool) → memory.depth < 2 ^ 128
      → integer_of (value (captured_ground memory port of after) instant) ≡ read_by_port memory.depth (taken after held (next_of_memory instant (Some memory) held)) (shown instant port) of.number
  captured_value true small = after_value small
  captured_value false small = before_value
