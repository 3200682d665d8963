-- The nodes of the largest driver of a part.
use Rattle.std.proofs.Common.{◌≡◌, ℕ, ◌<◌, ◌≤◌, max, List, ◌++◌, map, flat_map, length, slice_get, slice_index, Some, ap, arith}
use Rattle.std.specs.Prelude.{filter_map}
use Rattle.std.proofs.lemmas.List.Elements.{Contains-append_left, Contains-append_right}
use Rattle.ground_net.specs.declared.net.Net.{Net}
use Rattle.ground_net.specs.declared.net.CutPart.{CutPart}
use Rattle.ground_net.specs.Cones.{Sink, sinks}
use Rattle.part_compile.specs.SlotBounds.{greatest, assignment_nodes, sink_nodes, sinks_nodes, most_nodes}
use Rattle.part_compile.proofs.Greatest.{greatest_within}
use Rattle.part_compile.proofs.Walking.{needed_at}

-- a sink of a part by its number
pub sink_counted : (net : Net) (watch : List ℕ) (part : CutPart) (numbers : List ℕ) (i : ℕ) (sink : Sink) (n : ℕ) → numbers ≡ part.sinks → i < length numbers → slice_get (sinks net watch) (slice_index numbers i) ≡ Some sink
    → n ≤ greatest (sink_nodes net sink) → n ≤ greatest (sinks_nodes net watch part)
sink_counted net watch part numbers i sink n same lt there le =
    let all : greatest (sink_nodes net sink) ≤ greatest (flat_map (sink_nodes net) (filter_map (slice_get (sinks net watch)) numbers)) =
    greatest_within (sink_nodes net sink) (flat_map (sink_nodes net) (filter_map (slice_get (sinks net watch)) numbers)) (λ y d. needed_at (sinks net watch) (sink_nodes net) numbers i sink y lt there d)
    in
    let these : greatest (flat_map (sink_nodes net) (filter_map (slice_get (sinks net watch)) numbers)) ≡ greatest (sinks_nodes net watch part) =
    ap (λ ks. greatest (flat_map (sink_nodes net) (filter_map (slice_get (sinks net watch)) ks))) same
    in
    omega (arith, le, all, these)

-- the largest driver of a part is one of its assignments or of its sinks
pub most_counted : (net : Net) (watch : List ℕ) (part : CutPart) (a b n : ℕ) → a ≤ greatest (map (assignment_nodes net) part.assignments) → b ≤ greatest (sinks_nodes net watch part) → n ≡ max b a
    → n ≤ most_nodes net watch part
most_counted net watch part a b n x y e =
    let xs = map (assignment_nodes net) part.assignments in
    let ys = sinks_nodes net watch part in
    let left : greatest xs ≤ most_nodes net watch part = greatest_within xs (xs ++ ys) (λ z c. Contains-append_left xs ys z c) in
    let right : greatest ys ≤ most_nodes net watch part = greatest_within ys (xs ++ ys) (λ z c. Contains-append_right xs ys z c) in
    omega (arith, x, y, e, left, right)
