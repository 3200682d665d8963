-- Marks of leaves.
use Rattle.std.proofs.Common.{◌≡◌, ℕ, zero, suc, ◌+◌, ◌==◌, if◌then◌else◌, List, [], ◌∷◌, ◌++◌, map, length, take, get_or, refl, sym, ap, ◌∙◌, subst, arith, Option, Some, None, option_map, slice_get, ◌<◌, ◌≤◌, ⊎_elim}
use Rattle.std.specs.Prelude.{flat_map, replicate}
use Rattle.std.specs.List.{range_with_len}
use Rattle.std.proofs.lemmas.Option.{slice_get-map, slice_get_past, slice_get_within, slice_get-get_or}
use Rattle.std.proofs.lemmas.List.{map-append, length-replicate}
use Rattle.std.proofs.lemmas.List.Sums.{fold-append}
use Rattle.std.proofs.lemmas.Grind.{flat_map-append}
use Rattle.ground_net.specs.declared.circuit.GroundMemory.{GroundMemory}
use Rattle.ground_net.specs.declared.circuit.FlatCircuit.{FlatCircuit}
use Rattle.ground_net.specs.declared.net.NetPort.{NetPort}
use Rattle.ground_net.specs.declared.net.NetRead.{NetRead}
use Rattle.ground_net.specs.Cones.{numbered}
use Rattle.memory_ports.specs.declared.reads.ReadData.{ReadData}
use Rattle.memory_ports.specs.Placing.{Shows, data_of, reads_of_port, reads_of, last_data, data_in}
use Rattle.memory_ports.specs.Keeping.{Marks}
use Rattle.memory_ports.proofs.Lists.{same_items, next_taken, taken_length, numbered_push, range_get, range_past, below_or, taken_all}

abbrev Marked : Type 0
Marked = List (Option ReadData)

marked_none : (old : Marked) → Marks [] old old
marked_none old = record { counted = refl; each = λ x. stays (slice_get old x) }
  where
    stays : (o : Option (Option ReadData)) → o ≡ option_map (λ last. last) o
    stays (Some d) = refl
    stays None = refl

pub marked_first : (old new : Marked) → new ≡ old → Marks [] old new
marked_first old new e = subst (Marks [] old) (sym e) (marked_none old)

pub marks_more : (a b : List Shows) (old mid new : Marked) → Marks a old mid → Marks b mid new → Marks (a ++ b) old new
marks_more a b old mid new m n = record {
  counted = n.counted ∙ m.counted;
  each = λ x. n.each x ∙ (ap (option_map (last_data b x)) (m.each x) ∙ (twice x (slice_get old x)));
}
  where
    twice : (x : ℕ) (o : Option (Option ReadData)) → option_map (last_data b x) (option_map (last_data a x) o) ≡ option_map (last_data (a ++ b) x) o
    twice x (Some d) = ap Some (sym (fold-append (λ last read. if read.0 == x then Some read.1 else last) d a b))
    twice x None = refl

-- a leaf more of a read
pub marks_leaf : (m : ℕ) (port : NetPort) (read : NetRead) (leaves : List ℕ) (k x : ℕ) (shown : ReadData) (old mid new : Marked) → slice_get leaves k ≡ Some x → shown ≡ data_of m k port read
    → Marks (map (λ both. (both.1, data_of m both.0 port read)) (numbered (take k leaves))) old mid → Marks ((x, shown) ∷ []) mid new
    → Marks (map (λ both. (both.1, data_of m both.0 port read)) (numbered (take (k + 1) leaves))) old new
marks_leaf m port read leaves k x shown old mid new there is before one =
    let f : ℕ × ℕ → Shows = λ (both : ℕ × ℕ). (both.1, data_of m both.0 port read) in
    let counted : length (take k leaves) ≡ k = taken_length leaves k (let h = slice_get_within leaves k x there in omega (arith, h)) in
    let e : map f (numbered (take k leaves)) ++ (x, shown) ∷ [] ≡ map f (numbered (take (k + 1) leaves)) =
    ap (λ d. map f (numbered (take k leaves)) ++ (x, d) ∷ []) is ∙ (ap (λ n. map f (numbered (take k leaves)) ++ (x, data_of m n port read) ∷ []) (sym counted)
    ∙ (sym (map-append f (numbered (take k leaves)) ((length (take k leaves), x) ∷ [])) ∙ (ap (map f) (sym (numbered_push (take k leaves) x)) ∙ ap (λ l. map f (numbered l)) (sym (next_taken leaves k x there))))) in
    subst (λ reads. Marks reads old new) e (marks_more (map f (numbered (take k leaves))) ((x, shown) ∷ []) old mid new before one)

-- a port more of a memory
pub marks_port : (m : ℕ) (ports : List NetPort) (k : ℕ) (port : NetPort) (old mid new : Marked) → slice_get ports k ≡ Some port
    → Marks (flat_map (λ port. reads_of_port m port port.read) (take k ports)) old mid → Marks (reads_of_port m port port.read) mid new
    → Marks (flat_map (λ port. reads_of_port m port port.read) (take (k + 1) ports)) old new
marks_port m ports k port old mid new there before one =
    let f : NetPort → List Shows = λ (port : NetPort). reads_of_port m port port.read in
    let e : flat_map f (take k ports) ++ f port ≡ flat_map f (take (k + 1) ports) =
    ap (λ l. flat_map f (take k ports) ++ l) (sym (append_nil (f port))) ∙ (sym (flat_map-append f (take k ports) (port ∷ [])) ∙ ap (flat_map f) (sym (next_taken ports k port there))) in
    subst (λ reads. Marks reads old new) e (marks_more (flat_map f (take k ports)) (f port) old mid new before one)
  where
    append_nil : (xs : List Shows) → xs ++ [] ≡ xs
    append_nil [] = refl
    append_nil (x ∷ xs) = ap (λ l. x ∷ l) (append_nil xs)

abbrev of_memory : ℕ × GroundMemory → List Shows
of_memory both = flat_map (λ port. reads_of_port both.0 port port.read) both.1.ports

-- a memory more
pub marks_memory : (memories : List GroundMemory) (k : ℕ) (memory : GroundMemory) (old mid new : Marked) → slice_get memories k ≡ Some memory
    → Marks (reads_of (take k memories)) old mid → Marks (of_memory (k, memory)) mid new → Marks (reads_of (take (k + 1) memories)) old new
marks_memory memories k memory old mid new there before one =
    let counted : length (take k memories) ≡ k = taken_length memories k (let h = slice_get_within memories k memory there in omega (arith, h)) in
    let e : reads_of (take k memories) ++ of_memory (k, memory) ≡ reads_of (take (k + 1) memories) =
    ap (λ l. reads_of (take k memories) ++ l) (sym (append_nil (of_memory (k, memory))) ∙ ap (λ n. of_memory (n, memory) ++ []) (sym counted))
    ∙ (sym (flat_map-append of_memory (numbered (take k memories)) ((length (take k memories), memory) ∷ [])) ∙ (ap (flat_map of_memory) (sym (numbered_push (take k memories) memory)) ∙ ap reads_of (sym (next_taken memories k memory there)))) in
    subst (λ reads. Marks reads old new) e (marks_more (reads_of (take k memories)) (of_memory (k, memory)) old mid new before one)
  where
    append_nil : (xs : List Shows) → xs ++ [] ≡ xs
    append_nil [] = refl
    append_nil (x ∷ xs) = ap (λ l. x ∷ l) (append_nil xs)

replicate_get : {A : Type 0} (n : ℕ) (a : A) (k : ℕ) → k < n → slice_get (replicate n a) k ≡ Some a
replicate_get zero a k h = absurd (omega arith)
replicate_get (suc n) a zero h = refl
replicate_get (suc n) a (suc k) h = let less : k < n = omega arith in replicate_get n a k less

-- all reads
pub marks_all : (flat : FlatCircuit) (new : Marked) → Marks (reads_of flat.memories) (replicate (length flat.leaves) None) new → new ≡ data_in flat
marks_all flat new m = same_items new (data_in flat) (λ x. ⊎_elim
    (λ h. m.each x ∙ (ap (option_map (last_data (reads_of flat.memories) x)) (replicate_get (length flat.leaves) None x h) ∙ sym (data_get x h)))
    (λ h. slice_get_past new x (let c = m.counted ∙ length-replicate (length flat.leaves) None in omega (arith, c, h))
    ∙ sym (slice_get-map (λ x. last_data (reads_of flat.memories) x None) (range_with_len 0 (length flat.leaves)) x ∙ ap (option_map (λ x. last_data (reads_of flat.memories) x None)) (range_past 0 (length flat.leaves) x h)))
    (below_or x (length flat.leaves)))
  where
    data_get : (x : ℕ) → x < length flat.leaves → slice_get (data_in flat) x ≡ Some (last_data (reads_of flat.memories) x None)
    data_get x h =
        let z : 0 + x ≡ x = omega arith in
        slice_get-map (λ x. last_data (reads_of flat.memories) x None) (range_with_len 0 (length flat.leaves)) x
        ∙ (ap (option_map (λ x. last_data (reads_of flat.memories) x None)) (range_get 0 (length flat.leaves) x h) ∙ ap (λ n. Some (last_data (reads_of flat.memories) n None)) z)

-- the same of a leaf that a loop reads
pub marks_next : (m : ℕ) (port : NetPort) (read : NetRead) (leaves : List ℕ) (k : ℕ) (shown : ReadData) (old mid new : Marked) → k < length leaves → shown ≡ data_of m k port read
    → Marks (map (λ both. (both.1, data_of m both.0 port read)) (numbered (take k leaves))) old mid → Marks ((get_or leaves k 0, shown) ∷ []) mid new
    → Marks (map (λ both. (both.1, data_of m both.0 port read)) (numbered (take (k + 1) leaves))) old new
marks_next m port read leaves k shown old mid new below is before one = marks_leaf m port read leaves k (get_or leaves k 0) shown old mid new (slice_get-get_or leaves k 0 below) is before one

pub marks_end : (flat : FlatCircuit) (new : Marked) (k : ℕ) → length flat.memories ≤ k → Marks (reads_of (take k flat.memories)) (replicate (length flat.leaves) None) new → new ≡ data_in flat
marks_end flat new k h m = marks_all flat new (subst (λ memories. Marks (reads_of memories) (replicate (length flat.leaves) None) new) (taken_all flat.memories k h) m)
