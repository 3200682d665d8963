use Rattle.std.proofs.Common.{◌≡◌, ◌≤◌, length, vec_capacity}
use Rattle.flat_code.specs.Codes.{most_publications, most_outputs, frame_length}
use Rattle.firsim_bench.proofs.codes.running.cycles.Given as goal

abbrev pub invariant-loop-cycle : goal.invariant-loop-cycle
invariant-loop-cycle l = record {
  frame : frame_length l.code ≤ length l.frame.items;
  words : length l.words.items ≡ l.code.words;
  publications : most_publications l.code ≤ vec_capacity l.effects.publications;
  outputs : most_outputs l.code ≤ vec_capacity l.effects.outputs;
}
