-- Expressions have nodes. So a code with slots has a driver with nodes.
use Rattle.std.proofs.Common.{◌≡◌, ◌⊎◌, inl, inr, ℕ, ◌+◌, ◌≤◌, Bool, true, false, if◌then◌else◌, max, List, [], ◌∷◌, ◌++◌, map, flat_map, length, slice_get, Option, Some, None, Contains, refl, sym, subst, ap, arith, ⊎_elim}
use Rattle.std.proofs.lemmas.List.Elements.{Contains-append_left, Contains-append_right, Contains-append_cases}
use Rattle.ground_net.specs.declared.ground.Ground.{Ground}
use Rattle.ground_net.specs.declared.net.Net.{Net}
use Rattle.ground_net.specs.declared.net.NetRegister.{NetRegister}
use Rattle.ground_net.specs.declared.net.NetMemory.{NetMemory}
use Rattle.ground_net.specs.declared.net.NetPort.{NetPort}
use Rattle.ground_net.specs.declared.net.NetWrite.{NetWrite}
use Rattle.ground_net.specs.declared.net.NetRead.{NetRead}
use Rattle.ground_net.specs.declared.net.CutPart.{CutPart}
use Rattle.ground_net.specs.Reads.{driver_of}
use Rattle.ground_net.specs.Cones.{Sink, A_watched, A_register, A_memory, numbered, or_no_leaf}
use Rattle.flat_code.specs.declared.code.Code.{Code}
use Rattle.code_emit.specs.Counts.{nodes}
use Rattle.code_emit.proofs.Counting.{tips_few, tips_some}
use Rattle.code_draft.specs.Pieces.{Piece, end_of}
use Rattle.code_place.specs.Live.{most_live_of}
use Rattle.code_memories.specs.Nexts.{driven_ground}
use Rattle.code_memories.specs.NextReads.{captured_ground}
use Rattle.partition_code.specs.Codes.{sinks_of_part}
use Rattle.cone_cutter.proofs.Lists.{none_in, cons_cases}
use Rattle.part_compile.specs.SlotBounds.{nodes_of, nodes_of_register, nodes_of_memory, assignment_nodes, register_nodes, write_nodes, read_nodes, element_of, sink_nodes, sinks_nodes, most_nodes, frame_bound}
use Rattle.part_compile.specs.Pieces.{HasDrivers, IsTelling, InPieces}
use Rattle.part_compile.proofs.Standing.{contains_first, contains_flat}
use Rattle.part_compile.proofs.Greatest.{in_greatest}
use Rattle.part_compile.proofs.Frames.{contains_map, few_live_slots}

pub nodes_some : (g : Ground) → 1 ≤ nodes g
nodes_some g = let some = tips_some g in let few = tips_few g in omega (arith, some, few)

pub assignment_some : (net : Net) (watch : List ℕ) (part : CutPart) (x : ℕ) (driver : Ground) → Contains part.assignments x → driver_of net x ≡ Some driver → 1 ≤ most_nodes net watch part
assignment_some net watch part x driver c e =
    let some = nodes_some driver in
    let same : assignment_nodes net x ≡ nodes driver = ap nodes_of e in
    let most = in_greatest (map (assignment_nodes net) part.assignments ++ flat_map (sink_nodes net) (sinks_of_part net watch part)) (assignment_nodes net x)
    (Contains-append_left (map (assignment_nodes net) part.assignments) (flat_map (sink_nodes net) (sinks_of_part net watch part)) (assignment_nodes net x)
    (contains_map (assignment_nodes net) part.assignments x c))
    in
    omega (arith, some, same, most)

pub register_some : (net : Net) (watch : List ℕ) (part : CutPart) (k : ℕ) (register : NetRegister) → Contains (sinks_of_part net watch part) (A_register k) → slice_get net.registers k ≡ Some register
    → 1 ≤ most_nodes net watch part
register_some net watch part k register c e =
    let some = nodes_some (driven_ground register.leaf (driver_of net register.leaf)) in
    let there : Contains (sink_nodes net (A_register k)) (register_nodes net register) =
    subst (λ r. Contains (nodes_of_register net r) (register_nodes net register)) (sym e) (contains_first (register_nodes net register) [])
    in
    let most = in_greatest (map (assignment_nodes net) part.assignments ++ flat_map (sink_nodes net) (sinks_of_part net watch part)) (register_nodes net register)
    (Contains-append_right (map (assignment_nodes net) part.assignments) (flat_map (sink_nodes net) (sinks_of_part net watch part)) (register_nodes net register)
    (contains_flat (sink_nodes net) (sinks_of_part net watch part) (A_register k) (register_nodes net register) c there))
    in
    omega (arith, some, most)

-- What sinks count

abbrev ArePositive : List ℕ → Type 0
ArePositive ns = (n : ℕ) → Contains ns n → 1 ≤ n

none_positive : ArePositive []
none_positive n c = absurd (none_in n c)

more_positive : (n : ℕ) (ns : List ℕ) → 1 ≤ n → ArePositive ns → ArePositive (n ∷ ns)
more_positive n ns le f m c = ⊎_elim (λ e. omega (arith, le, e)) (λ d. f m d) (cons_cases n ns m c)

both_positive : (ns ms : List ℕ) → ArePositive ns → ArePositive ms → ArePositive (ns ++ ms)
both_positive ns ms f g n c = ⊎_elim (f n) (g n) (Contains-append_cases ns ms n c)

if_positive : (b : Bool) (ns : List ℕ) → ArePositive ns → ArePositive (if b then ns else [])
if_positive true ns f = f
if_positive false ns f = none_positive

map_positive : {A : Type 0} (f : A → ℕ) → ((x : A) → 1 ≤ f x) → (xs : List A) → ArePositive (map f xs)
map_positive f each [] = none_positive
map_positive f each (x ∷ xs) = more_positive (f x) (map f xs) (each x) (map_positive f each xs)

flat_positive : {A : Type 0} (f : A → List ℕ) → ((x : A) → ArePositive (f x)) → (xs : List A) → ArePositive (flat_map f xs)
flat_positive f each [] = none_positive
flat_positive f each (x ∷ xs) = both_positive (f x) (flat_map f xs) (each x) (flat_positive f each xs)

write_positive : (port : NetPort) (o : Option NetWrite) → ArePositive (write_nodes port o)
write_positive port (Some write) = more_positive (4 + length (or_no_leaf port.mode)) [] (omega arith) none_positive
write_positive port None = none_positive

read_positive : (m : ℕ) (memory : NetMemory) (port : NetPort) (o : Option NetRead) → ArePositive (read_nodes m memory port o)
read_positive m memory port (Some read) = if_positive read.captured (map (λ both. nodes (captured_ground memory port (element_of m both) read.after)) (numbered memory.elements))
    (map_positive (λ both. nodes (captured_ground memory port (element_of m both) read.after)) (λ both. nodes_some (captured_ground memory port (element_of m both) read.after)) (numbered memory.elements))
read_positive m memory port None = none_positive

memory_positive : (m : ℕ) (o : Option NetMemory) → ArePositive (nodes_of_memory m o)
memory_positive m (Some memory) = flat_positive (λ (port : NetPort). write_nodes port port.write ++ read_nodes m memory port port.read)
    (λ port. both_positive (write_nodes port port.write) (read_nodes m memory port port.read) (write_positive port port.write) (read_positive m memory port port.read)) memory.ports
memory_positive m None = none_positive

register_positive : (net : Net) (o : Option NetRegister) → ArePositive (nodes_of_register net o)
register_positive net (Some register) =
    let some = nodes_some (driven_ground register.leaf (driver_of net register.leaf)) in
    more_positive (register_nodes net register) [] (omega (arith, some)) none_positive
register_positive net None = none_positive

sink_positive : (net : Net) (sink : Sink) → ArePositive (sink_nodes net sink)
sink_positive net (A_watched x) = none_positive
sink_positive net (A_register k) = register_positive net (slice_get net.registers k)
sink_positive net (A_memory m) = memory_positive m (slice_get net.memories m)

-- Slots are of pieces, and each piece has nodes

module _ (net : Net) (watch : List ℕ) (part : CutPart) (drivers : HasDrivers net part) (code : Code) where
  counted_some : (n : ℕ) → Contains (sinks_nodes net watch part) n → 1 ≤ most_nodes net watch part
  counted_some n c =
      let some = flat_positive (sink_nodes net) (sink_positive net) (sinks_of_part net watch part) n c in
      let most = in_greatest (map (assignment_nodes net) part.assignments ++ sinks_nodes net watch part) n
      (Contains-append_right (map (assignment_nodes net) part.assignments) (sinks_nodes net watch part) n c)
      in
      omega (arith, some, most)

  slots_some : (locations : ℕ → List ℕ) (xs : List ℕ) (assigning telling : List Piece) → xs ≡ part.assignments → length assigning ≡ length xs → end_of 0 (assigning ++ telling) ≡ code.slots
      → ((p : Piece) → Contains telling p → IsTelling net watch part code locations p) → (code.slots ≡ 0) ⊎ (1 ≤ most_nodes net watch part)
  slots_some locations [] [] [] all counted ends told = inl (sym ends)
  slots_some locations [] [] (p ∷ telling) all counted ends told = let it = told p (contains_first p telling) in inr (counted_some it.count it.counted)
  slots_some locations [] (p ∷ assigning) telling all counted ends told = absurd (omega (arith, counted))
  slots_some locations (x ∷ xs) assigning telling all counted ends told =
      let c : Contains part.assignments x = subst (λ ys. Contains ys x) all (contains_first x xs) in
      let driver = drivers x c in
      inr (assignment_some net watch part x driver.0 c driver.1)

  pub placed_few : (placed : Code) (most : ℕ) → InPieces net watch part code → most ≤ frame_bound net watch part → placed.slots ≤ max most (max 1 (most_live_of code)) → placed.slots ≤ code.slots → placed.slots ≤ frame_bound net watch part
  placed_few placed most it room few fewer = ⊎_elim
      (λ none. omega (arith, fewer, none))
      (λ some. let bound = few_live_slots net watch part code it in omega (arith, few, room, bound, some))
      (slots_some it.locations part.assignments it.assigning it.telling refl it.counted it.ends it.told)
