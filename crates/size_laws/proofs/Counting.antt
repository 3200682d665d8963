-- What the components in flat order have, together, in words of the run.
use Rattle.std.proofs.Common.{◌≡◌, ℕ, zero, suc, ◌+◌, ◌*◌, ◌==◌, Bool, true, false, if◌then◌else◌, List, [], ◌∷◌, ◌++◌, map, length, sum, refl, sym, ap, ap₂, ◌∙◌, arith, Some, None, Option, codes}
use Rattle.std.specs.Prelude.{cond, count_by, sum_by, filter_map}
use Rattle.std.specs.List.{flat_map, range_with_len}
use Rattle.std.proofs.lemmas.Grind.{common_steps, flat_map-append}
use Rattle.std.proofs.lemmas.List.{map-append, length-append}
use Rattle.std.proofs.lemmas.List.Concat.{flat_map-cons}
use Rattle.std.proofs.lemmas.List.Sums.{sum_by-cons, sum_by-append}
use Rattle.fir_types.specs.declared.fir_type.FirType.{FirType, the_lemmas as type_lemmas}
use Rattle.fir_types.specs.declared.leaf.TypeLeaf.{TypeLeaf}
use Rattle.fir_types.specs.declared.leaf.PathStep.{PathStep}
use Rattle.fir_types.specs.declared.leaf.PathStep.TheVariants as step
use Rattle.fir_types.specs.declared.memory.Memory.{Memory}
use Rattle.fir_types.specs.declared.memory.MemLine.{MemLine}
use Rattle.fir_types.specs.declared.memory.MemLine.TheVariants as line
use Rattle.fir_types.specs.declared.memory.PortMode.{PortMode}
use Rattle.fir_types.specs.declared.memory.PortMode.TheVariants as mode
use Rattle.fir_types.specs.Leaves.{leaves, count, elements, under}
use Rattle.fir_types.specs.Memories.{element_of, depth_of, read_latency_of}
use Rattle.fir_tree.specs.LeafNames.{Texts, text_of, leaf_text}
use Rattle.fir_tree.specs.Texts.{name_bytes}
use Rattle.fir_meaning.specs.Components.{Design, TypedModule, Component, Sort, An_input, An_output, A_wire, A_register, A_reset_register, A_memory, An_instance, A_node, target_in}
use Rattle.fir_meaning.specs.MemoryPorts.{MemoryPort, port_in}
use Rattle.fir_meaning.specs.States.{is_register}
use Rattle.net_of_circuit.specs.FlatOrder.{Placed, InFlatOrder, no_more, one_more, an_instance, Standing, all_leaves, all_memories, memory_in}
use Rattle.net_of_circuit.specs.NetOf.{path_text, flat_text, may_read}
use Rattle.size_check.specs.declared.sums.Sums.{Sums}
use Rattle.size_check.specs.Measures.{plus}
use Rattle.size_check.specs.Owns as own
use Rattle.size_check.specs.Owns.{flat, stored, celled, cells, vector_of, reads_in, reads_in_mode, kept_leaves}
use Rattle.size_check.specs.Standings.{before}
use Rattle.size_laws.specs.Pieces.{ways}
use Rattle.size_laws.specs.Runs.{element_ways, leaf_bytes, element_bytes, bytes_of, is_held, captured, kept}
use Rattle.size_laws.proofs.Sums.{prefixed}
use Rattle.size_laws.proofs.Owning.{sums_of}
use Rattle.size_laws.proofs.Same.{AreCounted}
use Rattle.size_laws.proofs.Standing.{letters}
use Rattle.size_laws.proofs.Running.{placed_sums}

-- No component in flat order is an instance

abbrev pub HoldsNone : List Placed → Type 0
HoldsNone [] = Unit {0}
HoldsNone (p ∷ ps) = (target_in p.c.declaration.sort ≡ None) × HoldsNone ps

none-append : (xs ys : List Placed) → HoldsNone xs → HoldsNone ys → HoldsNone (xs ++ ys)
none-append [] ys a b = b
none-append (x ∷ xs) ys a b = (a.0, none-append xs ys a.1 b)

pub none_held : {design : Design} {path : List ℕ} {m : TypedModule} {cs : List Component} {placed : List Placed} → InFlatOrder design path m cs placed → HoldsNone placed
none_held no_more = tt
none_held (one_more e rest) = (e, none_held rest)
none_held (an_instance {own = own} {rest = rest} target n e f inside later) = none-append own rest (none_held inside) (none_held later)

-- Texts

text_long : (texts : Texts) (path : List ℕ) → length (path_text texts path) ≡ before texts path
text_long texts [] = refl
text_long texts (i ∷ path) =
    ap length (flat_map-cons (λ j. text_of texts j ++ codes ".") i path)
    ∙ length-append (text_of texts i ++ codes ".") (path_text texts path)
    ∙ ap₂ (λ a b. a + b) (length-append (text_of texts i) (codes ".")) (text_long texts path)
    ∙ sym (sum_by-cons (λ (x : ℕ). x) (letters texts i) (map (letters texts) path))

one_long : (texts : Texts) (path : List ℕ) (id : ℕ) (way : List PathStep) → length (flat_text texts (record { path = path; component = id; way = way })) ≡ before texts path + length (leaf_text texts id way)
one_long texts path id way = length-append (path_text texts path) (leaf_text texts id way) ∙ ap (λ n. n + length (leaf_text texts id way)) (text_long texts path)

-- so many texts, each behind the same names
abbrev own_bytes : Texts → ℕ → List (List PathStep) → ℕ
own_bytes texts id list = sum_by (λ way. length (leaf_text texts id way)) list

ways_long : (texts : Texts) (p : Placed) (list : List (List PathStep))
    → sum_by (element_bytes texts p) list ≡ own_bytes texts p.c.declaration.name list + length list * before texts p.path
ways_long texts p [] = none (before texts p.path)
  where
    none : (k : ℕ) → 0 ≡ 0 + 0 * k
    none k = grind (arith, common_steps)
ways_long texts p (way ∷ list) =
    let k = before texts p.path in
    let id = p.c.declaration.name in
    sum_by-cons (element_bytes texts p) way list
    ∙ ap₂ (λ a b. a + b) (one_long texts p.path id way) (ways_long texts p list)
    ∙ across k (length (leaf_text texts id way)) (own_bytes texts id list) (length list)
    ∙ sym (ap (λ s. s + suc (length list) * k) (sum_by-cons (λ w. length (leaf_text texts id w)) way list))
  where
    across : (k l s n : ℕ) → k + l + (s + n * k) ≡ l + s + suc n * k
    across k l s n = grind (arith, common_steps)

-- the same of the leaves of a component
standing_bytes : (texts : Texts) (p : Placed) (list : List TypeLeaf)
    → sum_by (leaf_bytes texts) (map (λ leaf. (p, leaf)) list) ≡ sum_by (element_bytes texts p) (map (λ (leaf : TypeLeaf). leaf.path) list)
standing_bytes texts p [] = refl
standing_bytes texts p (leaf ∷ list) =
    sum_by-cons (leaf_bytes texts) (p, leaf) (map (λ leaf. (p, leaf)) list)
    ∙ ap (λ n. leaf_bytes texts (p, leaf) + n) (standing_bytes texts p list)
    ∙ sym (sum_by-cons (element_bytes texts p) leaf.path (map (λ (leaf : TypeLeaf). leaf.path) list))

named_bytes : (texts : Texts) (id : ℕ) (list : List TypeLeaf) → own_bytes texts id (map (λ (leaf : TypeLeaf). leaf.path) list) ≡ sum (map (λ leaf. length (leaf_text texts id leaf.path)) list)
named_bytes texts id [] = refl
named_bytes texts id (leaf ∷ list) =
    sum_by-cons (λ w. length (leaf_text texts id w)) leaf.path (map (λ (leaf : TypeLeaf). leaf.path) list)
    ∙ ap (λ n. length (leaf_text texts id leaf.path) + n) (named_bytes texts id list)
    ∙ sym (sum_by-cons (λ (x : ℕ). x) (length (leaf_text texts id leaf.path)) (map (λ leaf. length (leaf_text texts id leaf.path)) list))

ways_counted : (list : List TypeLeaf) → length (map (λ (leaf : TypeLeaf). leaf.path) list) ≡ length list
ways_counted [] = refl
ways_counted (l ∷ list) = ap suc (ways_counted list)

-- The elements of a memory

cells_leaves : (e : FirType) (n : ℕ) → leaves (vector_of e n) ≡ elements (leaves e) n
cells_leaves e n = grind (arith, common_steps, type_lemmas)

range_last : (a n : ℕ) → range_with_len a (suc n) ≡ range_with_len a n ++ (a + n) ∷ []
range_last a zero = ap (λ m. m ∷ []) (plain a)
  where
    plain : (a : ℕ) → a ≡ a + 0
    plain a = omega arith
range_last a (suc n) = ap (λ l. a ∷ l) (range_last (a + 1) n ∙ ap (λ m. range_with_len (a + 1) n ++ m ∷ []) (further a n))
  where
    further : (a n : ℕ) → a + 1 + n ≡ a + suc n
    further a n = omega arith

under_ways : (k : ℕ) (list : List TypeLeaf) → map (λ (leaf : TypeLeaf). leaf.path) (map (under (step.Element k ∷ []) false) list) ≡ map (λ (leaf : TypeLeaf). step.Element k ∷ leaf.path) list
under_ways k [] = refl
under_ways k (l ∷ list) = ap (λ r. (step.Element k ∷ l.path) ∷ r) (under_ways k list)

elements_ways : (list : List TypeLeaf) (n : ℕ) → map (λ (leaf : TypeLeaf). leaf.path) (elements list n) ≡ flat_map (λ k. map (λ (leaf : TypeLeaf). step.Element k ∷ leaf.path) list) (range_with_len 0 n)
elements_ways list zero = refl
elements_ways list (suc n) =
    let each = λ (k : ℕ). map (λ (leaf : TypeLeaf). step.Element k ∷ leaf.path) list in
    map-append (λ (leaf : TypeLeaf). leaf.path) (elements list n) (map (under (step.Element n ∷ []) false) list)
    ∙ ap₂ (λ a b. a ++ b) (elements_ways list n) (under_ways n list ∙ sym (Rattle.std.proofs.Common.append-nil (each n)) ∙ ap (λ k. each k ++ []) (plain n))
    ∙ sym (ap (flat_map each) (range_last 0 n) ∙ flat_map-append each (range_with_len 0 n) ((0 + n) ∷ []))
  where
    plain : (n : ℕ) → n ≡ 0 + n
    plain n = omega arith

cells_ways : (memory : Memory) → element_ways memory ≡ ways (cells memory)
cells_ways memory = sym (ap (map (λ (leaf : TypeLeaf). leaf.path)) (cells_leaves (element_of memory) (depth_of memory)) ∙ elements_ways (leaves (element_of memory)) (depth_of memory))

-- Captured reads

one_reads : (m : PortMode) → (cond (may_read m) 1 0) ≡ reads_in_mode m
one_reads mode.Reader = refl
one_reads mode.Writer = refl
one_reads mode.ReadWriter = refl

readers_read : (lines : List MemLine) → count_by (λ port. may_read port.mode) (filter_map port_in lines) ≡ sum (map reads_in lines)
readers_read [] = refl
readers_read (x ∷ xs) = by (readers_read xs) x
  where
    none : (n : ℕ) → 0 + n ≡ n
    none n = omega arith

    skipped : count_by (λ port. may_read port.mode) (filter_map port_in xs) ≡ sum (map reads_in xs) → (y : MemLine) → reads_in y ≡ 0
        → count_by (λ port. may_read port.mode) (filter_map port_in xs) ≡ sum (map reads_in (y ∷ xs))
    skipped rest y e = rest ∙ sym (sum_by-cons (λ (n : ℕ). n) (reads_in y) (map reads_in xs) ∙ ap (λ n. n + sum (map reads_in xs)) e ∙ none (sum (map reads_in xs)))

    by : count_by (λ port. may_read port.mode) (filter_map port_in xs) ≡ sum (map reads_in xs) → (y : MemLine)
        → count_by (λ port. may_read port.mode) (filter_map port_in (y ∷ xs)) ≡ sum (map reads_in (y ∷ xs))
    by rest (line.MemPort at m name) =
        sum_by-cons (λ (port : MemoryPort). cond (may_read port.mode) 1 0) (record { name = name.id; place = name.place; mode = m }) (filter_map port_in xs)
        ∙ ap₂ (λ a b. a + b) (one_reads m) rest ∙ sym (sum_by-cons (λ (n : ℕ). n) (reads_in_mode m) (map reads_in xs))
    by rest (line.Element at typ) = skipped rest (line.Element at typ) refl
    by rest (line.Depth at n) = skipped rest (line.Depth at n) refl
    by rest (line.ReadLatency at n) = skipped rest (line.ReadLatency at n) refl
    by rest (line.WriteLatency at n) = skipped rest (line.WriteLatency at n) refl
    by rest (line.ReadUnder at u) = skipped rest (line.ReadUnder at u) refl

captured_same : AreCounted → (memory : Memory) → own.captured memory ≡ captured memory
captured_same counted memory =
    ap₂ (λ n k. if read_latency_of memory == 1 then n * k else 0) (sym (readers_read memory.lines)) (counted (element_of memory))

-- Component by component

held_all : (p : Placed) (list : List TypeLeaf) → count_by is_held (map (λ leaf. (p, leaf)) list) ≡ (if is_register p.c.declaration.sort then length list else 0)
held_all p list = by (is_register p.c.declaration.sort) refl list
  where
    by : (b : Bool) → is_register p.c.declaration.sort ≡ b → (list : List TypeLeaf) → count_by is_held (map (λ leaf. (p, leaf)) list) ≡ (if is_register p.c.declaration.sort then length list else 0)
    by true e [] = ap (λ b. if b then 0 else 0) (sym e)
    by true e (l ∷ list) =
        sum_by-cons (λ (y : Standing). cond (is_held y) 1 0) (p, l) (map (λ leaf. (p, leaf)) list)
        ∙ ap₂ (λ b n. cond b 1 0 + n) e (by true e list ∙ ap (λ b. if b then length list else 0) e)
        ∙ more (length list) ∙ ap (λ b. if b then suc (length list) else 0) (sym e)
      where
        more : (n : ℕ) → 1 + n ≡ suc n
        more n = omega arith
    by false e [] = ap (λ b. if b then 0 else 0) (sym e)
    by false e (l ∷ list) =
        sum_by-cons (λ (y : Standing). cond (is_held y) 1 0) (p, l) (map (λ leaf. (p, leaf)) list)
        ∙ ap₂ (λ b n. cond b 1 0 + n) e (by false e list ∙ ap (λ b. if b then length list else 0) e)
        ∙ ap (λ b. if b then suc (length list) else 0) (sym e)

abbrev memory_kept : Placed × Memory → ℕ
memory_kept both = length (element_ways both.1) + captured both.1

abbrev memory_bytes : Texts → Placed × Memory → ℕ
memory_bytes texts both = sum_by (element_bytes texts both.0) (element_ways both.1)

-- what a component in flat order has
pub record Shows (texts : Texts) (p : Placed) (own : Sums) (memories : List (Placed × Memory)) : Type 0 where
  pub count_is : own.leaves ≡ length (leaves p.c.typ)
  pub bytes_are : own.bytes ≡ sum_by (leaf_bytes texts) (map (λ leaf. (p, leaf)) (leaves p.c.typ)) + sum_by (memory_bytes texts) memories
  pub words_are : own.words ≡ 2 * (count_by is_held (map (λ leaf. (p, leaf)) (leaves p.c.typ)) + sum_by memory_kept memories)

module _ (counted : AreCounted) (texts : Texts) where
  leaf_part : (p : Placed) → sum_by (leaf_bytes texts) (map (λ leaf. (p, leaf)) (leaves p.c.typ)) ≡ name_bytes texts p.c.declaration.name p.c.typ + count p.c.typ * before texts p.path
  leaf_part p =
      standing_bytes texts p (leaves p.c.typ) ∙ ways_long texts p (ways p.c.typ)
      ∙ ap₂ (λ a n. a + n * before texts p.path) (named_bytes texts p.c.declaration.name (leaves p.c.typ)) (ways_counted (leaves p.c.typ) ∙ sym (counted p.c.typ))

  memory_part : (p : Placed) (memory : Memory) → memory_bytes texts (p, memory) ≡ name_bytes texts p.c.declaration.name (cells memory) + count (cells memory) * before texts p.path
  memory_part p memory =
      ap (sum_by (element_bytes texts p)) (cells_ways memory) ∙ ways_long texts p (ways (cells memory))
      ∙ ap₂ (λ a n. a + n * before texts p.path) (named_bytes texts p.c.declaration.name (leaves (cells memory))) (ways_counted (leaves (cells memory)) ∙ sym (counted (cells memory)))

  cells_counted : (memory : Memory) → length (element_ways memory) ≡ count (cells memory)
  cells_counted memory = ap length (cells_ways memory) ∙ ways_counted (leaves (cells memory)) ∙ sym (counted (cells memory))

  -- a component without a state
  plain_shows : (p : Placed) → is_register p.c.declaration.sort ≡ false → Shows texts p (prefixed (before texts p.path) (flat texts p.c.declaration.name p.c.typ)) []
  plain_shows p e = record {
    count_is = counted p.c.typ;
    bytes_are = sym (leaf_part p) ∙ none (sum_by (leaf_bytes texts) (map (λ leaf. (p, leaf)) (leaves p.c.typ)));
    words_are = sym (ap (λ n. 2 * (n + 0)) (held_all p (leaves p.c.typ) ∙ ap (λ b. if b then length (leaves p.c.typ) else 0) e));
  }
    where
      none : (n : ℕ) → n ≡ n + 0
      none n = omega arith

  register_shows : (p : Placed) → is_register p.c.declaration.sort ≡ true → Shows texts p (prefixed (before texts p.path) (plus (flat texts p.c.declaration.name p.c.typ) (stored (count p.c.typ)))) []
  register_shows p e = record {
    count_is = none (count p.c.typ) ∙ counted p.c.typ;
    bytes_are = without (name_bytes texts p.c.declaration.name p.c.typ) (count p.c.typ) (before texts p.path) ∙ ap (λ n. n + 0) (sym (leaf_part p));
    words_are = twice (count p.c.typ) ∙ sym (ap (λ n. 2 * (n + 0)) (held_all p (leaves p.c.typ) ∙ ap (λ b. if b then length (leaves p.c.typ) else 0) e ∙ sym (counted p.c.typ)));
  }
    where
      none : (n : ℕ) → n + 0 ≡ n
      none n = omega arith

      without : (b n k : ℕ) → b + 0 + (n + 0) * k ≡ b + n * k + 0
      without b n k = grind (arith, common_steps)

      twice : (n : ℕ) → 0 + 2 * n ≡ 2 * (n + 0)
      twice n = omega arith

  memory_shows : (p : Placed) (memory : Memory) → is_register p.c.declaration.sort ≡ false
      → Shows texts p (prefixed (before texts p.path) (plus (flat texts p.c.declaration.name p.c.typ) (plus (celled texts p.c.declaration.name (cells memory)) (stored (own.captured memory))))) ((p, memory) ∷ [])
  memory_shows p memory e = record {
    count_is = none (count p.c.typ) ∙ counted p.c.typ;
    bytes_are = spread (name_bytes texts p.c.declaration.name p.c.typ) (count p.c.typ) (name_bytes texts p.c.declaration.name (cells memory)) (count (cells memory)) (before texts p.path)
        ∙ sym (ap₂ (λ a b. a + b) (leaf_part p) (one (memory_bytes texts) ∙ memory_part p memory));
    words_are = twice (count (cells memory)) (own.captured memory)
        ∙ sym (ap₂ (λ a b. 2 * (a + b)) (held_all p (leaves p.c.typ) ∙ ap (λ b. if b then length (leaves p.c.typ) else 0) e)
        (one memory_kept ∙ ap₂ (λ a b. a + b) (cells_counted memory) (sym (captured_same counted memory))));
  }
    where
      none : (n : ℕ) → n + (0 + 0) ≡ n
      none n = omega arith

      spread : (b n c m k : ℕ) → b + (c + 0) + (n + (m + 0)) * k ≡ b + n * k + (c + m * k)
      spread b n c m k = grind (arith, common_steps)

      twice : (n k : ℕ) → 0 + (2 * n + 2 * k) ≡ 2 * (0 + (n + k))
      twice n k = omega arith

      one : (f : Placed × Memory → ℕ) → sum_by f ((p, memory) ∷ []) ≡ f (p, memory)
      one f = sum_by-cons f (p, memory) [] ∙ plain (f (p, memory))
        where
          plain : (n : ℕ) → n + 0 ≡ n
          plain n = omega arith

  abbrev own_memories : Placed → Sort → List (Placed × Memory)
  own_memories p sort = Rattle.std.specs.List.cons_option (memory_in p sort) []

  component_shows : (p : Placed) (sort : Sort) → p.c.declaration.sort ≡ sort → target_in sort ≡ None
      → Shows texts p (prefixed (before texts p.path) (sums_of texts p.c.declaration.name p.c.typ sort)) (own_memories p sort)
  component_shows p An_input s e = plain_shows p (ap is_register s)
  component_shows p An_output s e = plain_shows p (ap is_register s)
  component_shows p A_wire s e = plain_shows p (ap is_register s)
  component_shows p (A_register clock) s e = register_shows p (ap is_register s)
  component_shows p (A_reset_register clock reset init) s e = register_shows p (ap is_register s)
  component_shows p (A_memory memory) s e = memory_shows p memory (ap is_register s)
  component_shows p (An_instance target) s e = cc
  component_shows p (A_node expr) s e = plain_shows p (ap is_register s)

  memories_more : (p : Placed) (ps : List Placed) → all_memories (p ∷ ps) ≡ own_memories p p.c.declaration.sort ++ all_memories ps
  memories_more p ps = by (memory_in p p.c.declaration.sort)
    where
      by : (o : Option (Placed × Memory)) → Rattle.std.specs.List.cons_option o (all_memories ps) ≡ Rattle.std.specs.List.cons_option o [] ++ all_memories ps
      by None = refl
      by (Some x) = refl

  leaves_more : (p : Placed) (ps : List Placed) → all_leaves (p ∷ ps) ≡ map (λ leaf. (p, leaf)) (leaves p.c.typ) ++ all_leaves ps
  leaves_more p ps = flat_map-cons (λ (q : Placed). map (λ leaf. (q, leaf)) (leaves q.c.typ)) p ps

  all_shown : (p : Placed) (list : List TypeLeaf) → length {A = Standing} (map (λ leaf. (p, leaf)) list) ≡ length list
  all_shown p [] = refl
  all_shown p (l ∷ list) = ap suc (all_shown p list)

  pub leaves_counted : (placed : List Placed) → HoldsNone placed → (placed_sums texts placed).leaves ≡ length (all_leaves placed)
  leaves_counted [] h = refl
  leaves_counted (p ∷ ps) h =
      ap₂ (λ a b. a + b) ((component_shows p p.c.declaration.sort refl h.0).count_is ∙ sym (all_shown p (leaves p.c.typ))) (leaves_counted ps h.1)
      ∙ sym (ap length (leaves_more p ps) ∙ length-append (map (λ leaf. (p, leaf)) (leaves p.c.typ)) (all_leaves ps))

  pub bytes_counted : (placed : List Placed) → HoldsNone placed → (placed_sums texts placed).bytes ≡ bytes_of texts placed
  bytes_counted [] h = refl
  bytes_counted (p ∷ ps) h =
      let own : List Standing = map (λ leaf. (p, leaf)) (leaves p.c.typ) in
      let stores = own_memories p p.c.declaration.sort in
      ap₂ (λ a b. a + b) (component_shows p p.c.declaration.sort refl h.0).bytes_are (bytes_counted ps h.1)
      ∙ across (sum_by (leaf_bytes texts) own) (sum_by (memory_bytes texts) stores) (sum_by (leaf_bytes texts) (all_leaves ps)) (sum_by (memory_bytes texts) (all_memories ps))
      ∙ sym (ap₂ (λ a b. a + b) (ap (sum_by (leaf_bytes texts)) (leaves_more p ps) ∙ sum_by-append (leaf_bytes texts) own (all_leaves ps))
      (ap (sum_by (memory_bytes texts)) (memories_more p ps) ∙ sum_by-append (memory_bytes texts) stores (all_memories ps)))
    where
      across : (a b c d : ℕ) → a + b + (c + d) ≡ a + c + (b + d)
      across a b c d = omega arith

  pub words_counted : (placed : List Placed) → HoldsNone placed → (placed_sums texts placed).words ≡ 2 * kept placed
  words_counted [] h = refl
  words_counted (p ∷ ps) h =
      let own : List Standing = map (λ leaf. (p, leaf)) (leaves p.c.typ) in
      let stores = own_memories p p.c.declaration.sort in
      ap₂ (λ a b. a + b) (component_shows p p.c.declaration.sort refl h.0).words_are (words_counted ps h.1)
      ∙ across (count_by is_held own) (sum_by memory_kept stores) (count_by is_held (all_leaves ps)) (sum_by memory_kept (all_memories ps))
      ∙ sym (ap₂ (λ a b. 2 * (a + b)) (ap (count_by is_held) (leaves_more p ps) ∙ sum_by-append (λ (y : Standing). cond (is_held y) 1 0) own (all_leaves ps))
      (ap (sum_by memory_kept) (memories_more p ps) ∙ sum_by-append memory_kept stores (all_memories ps)))
    where
      across : (a b c d : ℕ) → 2 * (a + b) + 2 * (c + d) ≡ 2 * (a + c + (b + d))
      across a b c d = omega arith
