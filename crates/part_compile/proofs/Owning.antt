-- The words of sinks as spans.
use Rattle.std.proofs.Common.{◌≡◌, ◌⊎◌, inl, inr, ⊎_elim, ◌↔◌, ℕ, zero, suc, ◌+◌, ◌*◌, ◌-◌, ◌<◌, ◌≤◌, ◌&&◌, ◌||◌, Bool, true, false, List, [], ◌∷◌, ◌++◌, map, take, length, slice_get, slice_index, get_or, sum_by, nat_le, nat_lt, Option, Some, None, option_map, refl, sym, subst, ap, ap₂, ◌∙◌, arith}
use Rattle.std.specs.Prelude.{IsTrue}
use Rattle.std.proofs.lemmas.Bool.{cases_lt, cases_eq}
use Rattle.std.proofs.lemmas.Bool.Decides.{nat_tests}
use Rattle.std.proofs.lemmas.List.{append_assoc, length-map}
use Rattle.std.proofs.lemmas.List.Sums.{sum_by-cons, sum_by_more}
use Rattle.std.proofs.lemmas.Option.{slice_get_within, slice_get_cases, slice_get-map, get_or_from_slice_get}
use Rattle.ground_net.specs.declared.net.Net.{Net}
use Rattle.ground_net.specs.declared.net.NetMemory.{NetMemory}
use Rattle.ground_net.specs.declared.net.NetRegister.{NetRegister}
use Rattle.ground_net.specs.Cones.{A_register, A_memory}
use Rattle.ground_net.specs.Shapes.{Shape}
use Rattle.ground_net.specs.Cycles.{Capture, captures}
use Rattle.ground_net.specs.Nets.{register_shapes, captured_shapes, shape_or_none}
use Rattle.ground_net.specs.Words.{word_count, count_words, register_word, captured_word, memory_word, memory_words, state_words}
use Rattle.flat_code.specs.declared.code.Span.{Span}
use Rattle.partition_code.specs.Effects.{HasWord, IsWordOf, register_shape, capture_shape, of_register, of_elements, of_capture}
use Rattle.partition_code.proofs.Parts.{further_is, register_shape_at, capture_shape_at}
use Rattle.part_compile.specs.declared.captured.CapturedRead.{CapturedRead}
use Rattle.part_compile.specs.FirstWords.{told_of}
use Rattle.partition_code.specs.Codes.{spans, is_among}
use Rattle.part_compile.specs.PartRows.{OwnsMore, IsRead, OwnsRead, OwnsSome}
use Rattle.part_compile.proofs.Making.{among_cases, among_left, among_right}

some_same : {A : Type 0} {x y : A} → Some x ≡ Some y → x ≡ y
some_same e = cc

false_true : false ≡ true → ⊥
false_true e = cc

span_from : (first count i : ℕ) → (nat_le first i && nat_lt i (first + count)) ≡ true → (first ≤ i) × (i < first + count)
span_from first count i e = by_tests (nat_le first i) (nat_lt i (first + count)) refl refl e
  where
    by_tests : (a b : Bool) → nat_le first i ≡ a → nat_lt i (first + count) ≡ b → (a && b) ≡ true → (first ≤ i) × (i < first + count)
    by_tests true true p q h = (grind (arith, nat_tests, p), grind (arith, nat_tests, q))
    by_tests true false p q h = absurd (false_true h)
    by_tests false b p q h = absurd (false_true h)

span_to : (first count i : ℕ) → first ≤ i → i < first + count → (nat_le first i && nat_lt i (first + count)) ≡ true
span_to first count i le lt =
    let p : nat_le first i ≡ true = grind (arith, nat_tests, le) in
    let q : nat_lt i (first + count) ≡ true = grind (arith, nat_tests, lt) in
    ap₂ (λ a b. a && b) p q

one_from : (s : Span) (i : ℕ) → is_among (s ∷ []) i ≡ true → (s.first ≤ i) × (i < s.first + s.count)
one_from s i e = span_from s.first s.count i (drop_or (spans s i) e)
  where
    drop_or : (b : Bool) → (b || false) ≡ true → b ≡ true
    drop_or true h = refl
    drop_or false h = h

one_to : (s : Span) (i : ℕ) → s.first ≤ i → i < s.first + s.count → is_among (s ∷ []) i ≡ true
one_to s i le lt = ap (λ b. b || false) (span_to s.first s.count i le lt)

-- the word behind a register, and behind a captured read
next_sum : (shapes : List Shape) (n : ℕ) (s : Shape) → slice_get shapes n ≡ Some s → count_words (take (n + 1) shapes) ≡ count_words (take n shapes) + word_count s
next_sum shapes n s e = sum_by_more word_count shapes n s (slice_get_within shapes n s e) ∙ ap (λ t. count_words (take n shapes) + word_count t) (get_or_from_slice_get shapes n s s e)

register_next : (net : Net) (n : ℕ) (register : NetRegister) → slice_get net.registers n ≡ Some register → register_word net (n + 1) ≡ register_word net n + word_count (register_shape net register)
register_next net n register e = next_sum (register_shapes net) n (register_shape net register) (register_shape_at net n register e)

captured_next : (net : Net) (n : ℕ) (c : Capture) → slice_get (captures net) n ≡ Some c → captured_word net (n + 1) ≡ captured_word net n + word_count (capture_shape net c)
captured_next net n c e =
    plain (count_words (register_shapes net)) (sum_by memory_words net.memories) (count_words (take (n + 1) (captured_shapes net))) (count_words (take n (captured_shapes net))) (word_count (capture_shape net c))
    (next_sum (captured_shapes net) n (capture_shape net c) (capture_shape_at net n c e))
  where
    plain : (r m a b w : ℕ) → a ≡ b + w → r + (m + a) ≡ (r + (m + b)) + w
    plain r m a b w h = omega (arith, h)

-- whose a word is
register_has : (net : Net) (n i : ℕ) → HasWord net (A_register n) i → (register : NetRegister) × (slice_get net.registers n ≡ Some register) × IsWordOf (register_word net n) (register_shape net register) i
register_has net n i (of_register register there is) = (register, there, is)

memory_has : (net : Net) (m i : ℕ) → HasWord net (A_memory m) i
    → ((memory : NetMemory) × (slice_get net.memories m ≡ Some memory) × (memory_word net m ≤ i) × (i < memory_word net m + memory_words memory)) ⊎ ((n : ℕ) × IsRead net m n i)
memory_has net m i (of_elements memory there le lt) = inl (memory, there, le, lt)
memory_has net m i (of_capture n c there number is) = inr (n, record { capture = c; there = there; number = number; is = is })

-- a register's words
pub register_owned : (net : Net) (n : ℕ) (register : NetRegister) (s : Span) (old new : List Span) → slice_get net.registers n ≡ Some register → s.first ≡ register_word net n → s.first + s.count ≡ register_word net (n + 1)
    → new ≡ old ++ s ∷ [] → OwnsMore net (A_register n) old new
register_owned net n register s old new there first behind is =
    let next = register_next net n register there in
    record {
      spans = s ∷ [];
      is = is;
      own = λ i. (
        (λ e. let q = one_from s i e in let le = q.0 in let lt = q.1 in of_register register there (omega (arith, le, first), omega (arith, lt, behind, next))),
        (λ h.
            let q = register_has net n i h in
            let same : word_count (register_shape net q.0) ≡ word_count (register_shape net register) = ap (λ r. word_count (register_shape net r)) (some_same (sym q.1 ∙ there)) in
            let le = q.2.0 in
            let lt = q.2.1 in
            one_to s i (omega (arith, le, first)) (omega (arith, lt, behind, next, same))),
      );
    }

-- a captured read's words
pub read_owned : (net : Net) (m n : ℕ) (c : Capture) (s : Span) (old new : List Span) → slice_get (captures net) n ≡ Some c → c.number ≡ m → s.first ≡ captured_word net n → s.first + s.count ≡ captured_word net (n + 1)
    → new ≡ old ++ s ∷ [] → OwnsRead net m n old new
read_owned net m n c s old new there number first behind is =
    let next = captured_next net n c there in
    record {
      spans = s ∷ [];
      is = is;
      own = λ i. (
        (λ e. let q = one_from s i e in let le = q.0 in let lt = q.1 in record { capture = c; there = there; number = number; is = (omega (arith, le, first), omega (arith, lt, behind, next)) }),
        (λ h.
            let same : word_count (capture_shape net h.capture) ≡ word_count (capture_shape net c) = ap (λ r. word_count (capture_shape net r)) (some_same (sym h.there ∙ there)) in
            let le = h.is.0 in
            let lt = h.is.1 in
            one_to s i (omega (arith, le, first)) (omega (arith, lt, behind, next, same))),
      );
    }

append_none : (xs : List Span) → xs ≡ xs ++ []
append_none [] = refl
append_none (x ∷ xs) = ap (λ l. x ∷ l) (append_none xs)

pub read_elsewhere : (net : Net) (m n : ℕ) (c : Capture) (old new : List Span) → slice_get (captures net) n ≡ Some c → (c.number ≡ m → ⊥) → new ≡ old → OwnsRead net m n old new
read_elsewhere net m n c old new there other is = record {
  spans = [];
  is = is ∙ append_none old;
  own = λ i. ((λ e. absurd (false_true e)), (λ h. absurd (other (ap (λ (d : Capture). d.number) (some_same (sym there ∙ h.there)) ∙ h.number))));
}

-- a memory's words, one captured read after the other
pub none_owned : (net : Net) (m : ℕ) (memory : NetMemory) (s : Span) (old new : List Span) → s.first ≡ memory.word → s.count ≡ memory_words memory → new ≡ old ++ s ∷ [] → OwnsSome net m memory 0 old new
none_owned net m memory s old new first count is = record {
  spans = [];
  is = is ∙ ap₂ (λ a b. old ++ record { first = a; count = b } ∷ []) first count;
  from = λ i e. absurd (false_true e);
  to = λ n i lt h. absurd (omega (arith, lt));
}

pub one_owned : (net : Net) (m : ℕ) (memory : NetMemory) (n : ℕ) (old mid new : List Span) → OwnsSome net m memory n old mid → OwnsRead net m n mid new → OwnsSome net m memory (n + 1) old new
one_owned net m memory n old mid new h more =
    let own_span : Span = record { first = memory.word; count = memory_words memory } in
    record {
      spans = h.spans ++ more.spans;
      is = more.is ∙ (ap (λ l. l ++ more.spans) h.is ∙ append_assoc old (own_span ∷ h.spans) more.spans);
      from = λ i e. ⊎_elim
          (λ q. let r = h.from i q in let lt = r.1 in (r.0, omega (arith, lt), r.2))
          (λ q. (n, omega arith, (more.own i).0 q))
          (among_cases h.spans more.spans i e);
      to = λ k i lt read. ⊎_elim
          (λ before. among_left h.spans more.spans i (h.to k i before read))
          (λ past. let same : k ≡ n = omega (arith, lt, past) in among_right h.spans more.spans i ((more.own i).1 (subst (λ j. IsRead net m j i) same read)))
          (cases_lt k n);
    }

pub memory_owned : (net : Net) (m : ℕ) (memory : NetMemory) (count : ℕ) (old new : List Span) → slice_get net.memories m ≡ Some memory → memory.word ≡ memory_word net m → length (captures net) ≤ count
    → OwnsSome net m memory count old new → OwnsMore net (A_memory m) old new
memory_owned net m memory count old new there word all h =
    let own_span : Span = record { first = memory.word; count = memory_words memory } in
    record {
      spans = own_span ∷ h.spans;
      is = h.is;
      own = λ i. (
        (λ e. ⊎_elim
            (λ q. let r = one_from own_span i q in let le = r.0 in let lt = r.1 in of_elements memory there (omega (arith, le, word)) (omega (arith, lt, word)))
            (λ q. let r = h.from i q in of_capture r.0 r.2.capture r.2.there r.2.number r.2.is)
            (among_cases (own_span ∷ []) h.spans i e)),
        (λ has. ⊎_elim
            (λ q.
            let same : memory_words q.0 ≡ memory_words memory = ap memory_words (some_same (sym q.1 ∙ there)) in
            let le = q.2 in
            let lt = q.3 in
            among_left (own_span ∷ []) h.spans i (one_to own_span i (omega (arith, le, word)) (omega (arith, lt, word, same))))
            (λ q. let in_all = slice_get_within (captures net) q.0 q.1.capture q.1.there in among_right (own_span ∷ []) h.spans i (h.to q.0 i (omega (arith, in_all, all)) q.1))
            (memory_has net m i has)),
      );
    }

-- by the table of first words

pub found : {A : Type 0} (xs : List A) (k : ℕ) → k < length xs → (x : A) × (slice_get xs k ≡ Some x)
found xs k lt = ⊎_elim (λ here. (here.0, here.2)) (λ past. absurd (omega (arith, lt, past.0))) (slice_get_cases xs k).1

pub register_rises : (net : Net) (n first behind : ℕ) → n < length net.registers → first ≡ register_word net n → behind ≡ register_word net (n + 1) → first ≤ behind
register_rises net n first behind lt f b = let r = found net.registers n lt in let next = register_next net n r.0 r.1 in omega (arith, f, b, next)

pub register_span : (net : Net) (n first behind : ℕ) (old new : List Span) → n < length net.registers → first ≡ register_word net n → behind ≡ register_word net (n + 1)
    → new ≡ old ++ record { first = first; count = behind - first } ∷ [] → OwnsMore net (A_register n) old new
register_span net n first behind old new lt f b is =
    let r = found net.registers n lt in
    let rises = register_rises net n first behind lt f b in
    register_owned net n r.0 (record { first = first; count = behind - first }) old new r.1 f (omega (arith, rises, b)) is

pub captured_rises : (net : Net) (n first behind : ℕ) → n < length (captures net) → first ≡ captured_word net n → behind ≡ captured_word net (n + 1) → first ≤ behind
captured_rises net n first behind lt f b = let r = found (captures net) n lt in let next = captured_next net n r.0 r.1 in omega (arith, f, b, next)

pub read_span : (net : Net) (m n first behind : ℕ) (c : Capture) (old new : List Span) → slice_get (captures net) n ≡ Some c → c.number ≡ m → first ≡ captured_word net n → behind ≡ captured_word net (n + 1)
    → new ≡ old ++ record { first = first; count = behind - first } ∷ [] → OwnsRead net m n old new
read_span net m n first behind c old new there number f b is =
    let rises = captured_rises net n first behind (slice_get_within (captures net) n c there) f b in
    read_owned net m n c (record { first = first; count = behind - first }) old new there number f (omega (arith, rises, b)) is

-- a captured read in the list of all
pub read_at : (net : Net) (reads : List CapturedRead) (n : ℕ) (d : CapturedRead) → reads ≡ map told_of (captures net) → n < length reads
    → (c : Capture) × (slice_get (captures net) n ≡ Some c) × (get_or reads n d ≡ told_of c)
read_at net reads n d e lt =
    let long : length reads ≡ length (captures net) = ap length e ∙ length-map (captures net) told_of in
    let c = found (captures net) n (omega (arith, lt, long)) in
    (c.0, c.1, get_or_from_slice_get reads n (told_of c.0) d (ap (λ l. slice_get l n) e ∙ (slice_get-map told_of (captures net) n ∙ ap (option_map told_of) c.1)))

pub reads_long : (net : Net) (reads : List CapturedRead) → reads ≡ map told_of (captures net) → length reads ≡ length (captures net)
reads_long net reads e = ap length e ∙ length-map (captures net) told_of

-- registers have numbers of 32 bits where the words have
pub few_registers : (net : Net) → length net.registers ≤ state_words net
few_registers net =
    let long = length-map net.registers (λ (r : NetRegister). shape_or_none (slice_get net.leaves r.leaf)) in
    let counted = each_counts (register_shapes net) in
    plain (length net.registers) (length (register_shapes net)) (count_words (register_shapes net)) (sum_by memory_words net.memories + count_words (captured_shapes net)) long counted
  where
    plain : (n m w r : ℕ) → m ≡ n → m ≤ w → n ≤ w + r
    plain n m w r e h = omega (arith, e, h)

    each_counts : (shapes : List Shape) → length shapes ≤ count_words shapes
    each_counts [] = omega arith
    each_counts (s ∷ shapes) =
        let sum = sum_by-cons word_count s shapes in
        let one = further_is s in
        let rest = each_counts shapes in
        omega (arith, sum, one, rest)

-- a captured read by what is read of the list
abbrev no_read : CapturedRead
no_read = record { memory = 0; leaf = 0 }

pub read_apart : (net : Net) (reads : List CapturedRead) (m n : ℕ) (owned : List Span) → reads ≡ map told_of (captures net) → n < length reads → ((get_or reads n no_read).memory ≡ m → ⊥) → OwnsRead net m n owned owned
read_apart net reads m n owned e lt differs =
    let r = read_at net reads n no_read e lt in
    let same : (get_or reads n no_read).memory ≡ r.0.number = ap (λ (x : CapturedRead). x.memory) r.2 in
    read_elsewhere net m n r.0 owned owned r.1 (λ q. differs (same ∙ q)) refl

pub read_here : (net : Net) (reads : List CapturedRead) (m n : ℕ) → reads ≡ map told_of (captures net) → n < length reads → (get_or reads n no_read).memory ≡ m → (c : Capture) × (slice_get (captures net) n ≡ Some c) × (c.number ≡ m)
read_here net reads m n e lt equal =
    let r = read_at net reads n no_read e lt in
    let same : (get_or reads n no_read).memory ≡ r.0.number = ap (λ (x : CapturedRead). x.memory) r.2 in
    (r.0, r.1, sym same ∙ equal)
