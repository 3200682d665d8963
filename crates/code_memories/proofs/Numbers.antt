-- Each captured read has a word, so that the leaves of one port's have numbers of 32 bits where the words of a state have.
use Rattle.std.proofs.Common.{◌≡◌, ℕ, ◌+◌, ◌<◌, ◌≤◌, ◌^◌, nat_lt, Bool, true, false, if◌then◌else◌, List, [], ◌∷◌, map, flat_map, take, length, slice_get, sum_by, Some, sym, subst, ap, ◌∙◌, arith}
use Rattle.std.proofs.lemmas.List.{length-map}
use Rattle.std.proofs.lemmas.List.Sums.{sum_by-cons}
use Rattle.std.proofs.lemmas.List.Folds.{length-flat_map-take}
use Rattle.std.proofs.lemmas.Option.{slice_get_within, get_or_from_slice_get}
use Rattle.ground_net.specs.declared.net.Net.{Net}
use Rattle.ground_net.specs.declared.net.NetMemory.{NetMemory}
use Rattle.ground_net.specs.declared.net.NetPort.{NetPort}
use Rattle.ground_net.specs.declared.net.NetRead.{NetRead}
use Rattle.ground_net.specs.Cones.{numbered}
use Rattle.ground_net.specs.Shapes.{Shape}
use Rattle.ground_net.specs.Cycles.{Capture, captures, captured_by}
use Rattle.ground_net.specs.Nets.{register_shapes, captured_shapes, shape_or_none}
use Rattle.ground_net.specs.Words.{word_count, count_words, memory_words, state_words}
use Rattle.code_memories.specs.Memories.{capture_of}
use Rattle.code_memories.proofs.Numbered.{numbered_long, at_numbered}
use Rattle.code_memories.proofs.Captured.{of_memory}

piece_long : {A B : Type 0} (f : A → List B) (xs : List A) (k : ℕ) (x : A) → slice_get xs k ≡ Some x → length (f x) ≤ length (flat_map f xs)
piece_long f xs k x e =
    let all = subst (λ y. length (flat_map f (take k xs)) + length (f y) ≤ length (flat_map f xs)) (get_or_from_slice_get xs k x x e) (length-flat_map-take f xs k x (slice_get_within xs k x e)) in
    omega (arith, all)

-- what a port's captured reads are
reads_long : (net : Net) (m p : ℕ) (memory : NetMemory) (port : NetPort) (read : NetRead) → slice_get net.memories m ≡ Some memory → slice_get memory.ports p ≡ Some port → port.read ≡ Some read → read.captured ≡ true
    → length read.leaves ≤ length (captures net)
reads_long net m p memory port read there listed reads late =
    let all : captured_by m memory port port.read ≡ map (capture_of m memory port read) (numbered read.leaves)
    = ap (captured_by m memory port) reads ∙ ap (λ b. if b then map (capture_of m memory port read) (numbered read.leaves) else []) late in
    let same : length (captured_by m memory port port.read) ≡ length read.leaves = ap length all ∙ (length-map (numbered read.leaves) (capture_of m memory port read) ∙ numbered_long read.leaves) in
    let of_port = piece_long (λ (q : NetPort). captured_by m memory q q.read) memory.ports p port listed in
    let of_net = piece_long of_memory (numbered net.memories) m (m, memory) (at_numbered net.memories m memory there) in
    omega (arith, same, of_port, of_net)

one_at_least : (b : Bool) → 1 ≤ (if b then 2 else 1)
one_at_least true = omega arith
one_at_least false = omega arith

one_each : (shapes : List Shape) → length shapes ≤ count_words shapes
one_each [] = omega arith
one_each (s ∷ shapes) =
    let sum = sum_by-cons word_count s shapes in
    let one : 1 ≤ word_count s = one_at_least (nat_lt 64 s.width) in
    let rest = one_each shapes in
    omega (arith, sum, one, rest)

captures_counted : (net : Net) → length (captures net) ≤ state_words net
captures_counted net =
    let long = length-map (captures net) (λ (c : Capture). shape_or_none (slice_get net.leaves c.leaf)) in
    plain (count_words (register_shapes net)) (sum_by memory_words net.memories) (count_words (captured_shapes net)) (length (captured_shapes net)) (length (captures net)) long (one_each (captured_shapes net))
  where
    plain : (r m c n k : ℕ) → n ≡ k → n ≤ c → k ≤ r + (m + c)
    plain r m c n k e le = omega (arith, e, le)

pub leaf_small : (net : Net) (m p k : ℕ) (memory : NetMemory) (port : NetPort) (read : NetRead) (x : ℕ) → state_words net < 2 ^ 32 → slice_get net.memories m ≡ Some memory → slice_get memory.ports p ≡ Some port
    → port.read ≡ Some read → read.captured ≡ true → slice_get read.leaves k ≡ Some x → k < 2 ^ 32
leaf_small net m p k memory port read x few there listed reads late at =
    let within = slice_get_within read.leaves k x at in
    let long = reads_long net m p memory port read there listed reads late in
    let counted = captures_counted net in
    omega (arith, within, long, counted, few)
