-- The lines and the ports of memories, one more at a time.
use Rattle.std.proofs.Common.{◌≡◌, ℕ, zero, suc, ◌+◌, ◌<◌, List, [], ◌∷◌, ◌++◌, map, take, length, get_or, filter_map, option_to_list, Option, Some, None, refl, sym, ap, ap₂, ◌∙◌, arith}
use Rattle.std.specs.List.{cons_option, range_with_len}
use Rattle.std.proofs.lemmas.List.{map_more}
use Rattle.std.proofs.lemmas.List.Elements.{filter_map-append}
use Rattle.place_text.specs.declared.place.Place.{Place}
use Rattle.fir_types.specs.declared.name.Name.{Name}
use Rattle.fir_types.specs.declared.memory.MemLine.{MemLine}
use Rattle.fir_types.specs.declared.memory.MemLine.TheVariants as line
use Rattle.fir_types.specs.declared.memory.PortMode.{PortMode}
use Rattle.fir_types.specs.declared.memory.Under.{Under}
use Rattle.fir_types.specs.Memories.{read_latency_in, under_in}
use Rattle.fir_types.proofs.Lines.{lines_more}
use Rattle.fir_meaning.specs.MemoryPorts.{MemoryPort, port_in}
use Rattle.fir_tree.specs.LeafNames.{Texts}
use Rattle.ground_net.specs.declared.circuit.GroundMemory.{GroundMemory}
use Rattle.ground_net.specs.declared.net.NetPort.{NetPort}
use Rattle.lower_aggregates.specs.declared.pieces.Piece.{Piece}
use Rattle.lower_aggregates.specs.Held.{held_part}
use Rattle.lower_aggregates.specs.declared.memories.HowRead.{HowRead}
use Rattle.lower_aggregates.specs.Memories.{port_numbers, ports_from, port_leaves, size_of_ports, size_of_line, mode_of_first, first_mode_of, MemoryRow, memory_row, memory_in, memories_in}

pub not_latency : (l : MemLine) → ((at : Place) (n : ℕ) → l ≡ line.ReadLatency at n → ⊥) → read_latency_in l ≡ None
not_latency (line.ReadLatency at n) h = absurd (h at n refl)
not_latency (line.Element at t) h = refl
not_latency (line.Depth at n) h = refl
not_latency (line.WriteLatency at n) h = refl
not_latency (line.ReadUnder at u) h = refl
not_latency (line.MemPort at m n) h = refl

pub not_under : (l : MemLine) → ((at : Place) (u : Under) → l ≡ line.ReadUnder at u → ⊥) → under_in l ≡ None
not_under (line.ReadUnder at u) h = absurd (h at u refl)
not_under (line.Element at t) h = refl
not_under (line.Depth at n) h = refl
not_under (line.ReadLatency at n) h = refl
not_under (line.WriteLatency at n) h = refl
not_under (line.MemPort at m n) h = refl

pub not_port : (l : MemLine) → ((at : Place) (m : PortMode) (n : Name) → l ≡ line.MemPort at m n → ⊥) → port_in l ≡ None
not_port (line.MemPort at m n) h = absurd (h at m n refl)
not_port (line.Element at t) h = refl
not_port (line.Depth at n) h = refl
not_port (line.ReadLatency at n) h = refl
not_port (line.WriteLatency at n) h = refl
not_port (line.ReadUnder at u) h = refl

nothing_first : {B : Type 0} (o : Option B) (ys : List B) → cons_option o ys ≡ [] → (o ≡ None) × (ys ≡ [])
nothing_first None ys e = (refl, e)
nothing_first (Some y) ys e = absurd cc

-- the first port's mode
pub first_mode_there : (lines : List MemLine) (i : ℕ) (x : MemLine) (port : MemoryPort) → i < length lines → x ≡ get_or lines i x → filter_map port_in (take i lines) ≡ [] → port_in x ≡ Some port → first_mode_of lines ≡ Some port.mode
first_mode_there [] i x port l e n f = absurd (omega (arith, l))
first_mode_there (z ∷ lines) zero x port l e n f = ap (λ o. mode_of_first (cons_option o (filter_map port_in lines))) (ap port_in (sym e) ∙ f)
first_mode_there (z ∷ lines) (suc i) x port l e n f =
    let both = nothing_first (port_in z) (filter_map port_in (take i lines)) n in
    ap (λ o. mode_of_first (cons_option o (filter_map port_in lines))) both.0 ∙ first_mode_there lines i x port (omega (arith, l)) e both.1 f

pub range_more : (a k : ℕ) → range_with_len a (k + 1) ≡ range_with_len a k ++ (a + k) ∷ []
range_more a zero = let e : a ≡ a + 0 = omega arith in ap (λ n. n ∷ []) e
range_more a (suc k) =
    let e : a + 1 + k ≡ a + suc k = omega arith in
    let m : suc k + 1 ≡ suc (k + 1) = omega arith in
    ap (range_with_len a) m ∙ ap (λ l. a ∷ l) (range_more (a + 1) k ∙ ap (λ n. range_with_len (a + 1) k ++ n ∷ []) e)

ports-append : (first count : ℕ) (how : HowRead) (xs ys : List MemoryPort) → ports_from first count how (xs ++ ys) ≡ ports_from first count how xs ++ ports_from (first + size_of_ports count xs) count how ys
ports-append first count how [] ys = let e : first ≡ first + 0 = omega arith in ap (λ n. ports_from n count how ys) e
ports-append first count how (x ∷ xs) ys =
    let e : first + port_leaves x.mode count + size_of_ports count xs ≡ first + (port_leaves x.mode count + size_of_ports count xs) = omega arith in
    ap (λ l. port_numbers first count x.mode how ∷ l)
    (ports-append (first + port_leaves x.mode count) count how xs ys ∙ ap (λ n. ports_from (first + port_leaves x.mode count) count how xs ++ ports_from n count how ys) e)

size-append : (count : ℕ) (xs ys : List MemoryPort) → size_of_ports count (xs ++ ys) ≡ size_of_ports count xs + size_of_ports count ys
size-append count [] ys = omega arith
size-append count (x ∷ xs) ys = let r = size-append count xs ys in omega (arith, r)

size_line : (count : ℕ) (x : MemLine) → size_of_ports count (option_to_list (port_in x)) ≡ size_of_line count x
size_line count (line.MemPort at m n) = omega arith
size_line count (line.Element at t) = refl
size_line count (line.Depth at n) = refl
size_line count (line.ReadLatency at n) = refl
size_line count (line.WriteLatency at n) = refl
size_line count (line.ReadUnder at u) = refl

-- one line more
pub ports_more : (first count : ℕ) (how : HowRead) (lines : List MemLine) (i : ℕ) (x : MemLine) (ports after : List NetPort) (number next : ℕ) → i < length lines → x ≡ get_or lines i x
    → ports ≡ ports_from first count how (filter_map port_in (take i lines)) → number ≡ first + size_of_ports count (filter_map port_in (take i lines))
    → after ≡ ports ++ ports_from number count how (option_to_list (port_in x)) → next ≡ number + size_of_line count x
    → (after ≡ ports_from first count how (filter_map port_in (take (i + 1) lines))) × (next ≡ first + size_of_ports count (filter_map port_in (take (i + 1) lines)))
ports_more first count how lines i x ports after number next l is p n a q =
    let front = filter_map port_in (take i lines) in
    let own = option_to_list (port_in x) in
    let split : filter_map port_in (take (i + 1) lines) ≡ front ++ own = lines_more port_in lines i x l is in
    let sizes : size_of_ports count (front ++ own) ≡ size_of_ports count front + size_of_ports count own = size-append count front own in
    let one : size_of_ports count own ≡ size_of_line count x = size_line count x in (
      a ∙ ap₂ (λ (u : List NetPort) (k : ℕ). u ++ ports_from k count how own) p n ∙ sym (ports-append first count how front own) ∙ sym (ap (ports_from first count how) split),
      q ∙ (omega (arith, n, sizes, one) ∙ sym (ap (λ l. first + size_of_ports count l) split)),
    )

one_line : {B : Type 0} (o : Option B) → cons_option o [] ≡ option_to_list o
one_line None = refl
one_line (Some y) = refl

-- one piece more
pub memories_more : (texts : Texts) (pieces : List Piece) (i : ℕ) (x : Piece) (memories after : List GroundMemory) → i < length pieces → x ≡ get_or pieces i x
    → map memory_row memories ≡ memories_in texts (map held_part (take i pieces)) → map memory_row after ≡ map memory_row memories ++ option_to_list (memory_in texts (held_part x))
    → map memory_row after ≡ memories_in texts (map held_part (take (i + 1) pieces))
memories_more texts pieces i x memories after l is h a =
    let split : map held_part (take (i + 1) pieces) ≡ map held_part (take i pieces) ++ held_part x ∷ [] =
    map_more held_part pieces i x l ∙ ap (λ y. map held_part (take i pieces) ++ held_part y ∷ []) (sym is) in
    a ∙ ap₂ (λ (u v : List MemoryRow). u ++ v) h (sym (one_line (memory_in texts (held_part x))))
    ∙ sym (filter_map-append (memory_in texts) (map held_part (take i pieces)) (held_part x ∷ [])) ∙ sym (ap (memories_in texts) split)
