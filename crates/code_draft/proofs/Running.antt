-- A run leaves a frame that solves the code.
use Rattle.std.proofs.Common.{ℕ, ◌^◌, ◌<◌, ◌≤◌, List, length, slice_index, arith}
use Rattle.bit_words.specs.declared.value.Value.{Value}
use Rattle.flat_code.specs.Meaning.{ran}
use Rattle.flat_code.specs.Fine.{nothing}
use Rattle.flat_code.proofs.Solving.{solved, ran_long}
use Rattle.code_draft.specs.declared.draft.Draft.{Draft}
use Rattle.code_draft.specs.Drafts.{IsDraft, Solved}

pub run_solves : (d : Draft) (words : List ℕ) (inputs : List Value) (frame : List ℕ) → IsDraft d → d.slots ≤ length frame → ((k : ℕ) → slice_index words k < 2 ^ 64)
    → Solved d words inputs (ran d.wides d.instrs words inputs frame)
run_solves d words inputs frame is le plain =
    let long = ran_long d.ports d.wides words inputs d.slots d.words (length d.ports) (length d.wides) is.wides d.instrs frame in
    record {
      long = omega (arith, le, long);
      plain = plain;
      each = solved d.ports d.wides words inputs d.slots d.words (length d.ports) (length d.wides) is.wides d.instrs nothing frame le is.fine is.single;
    }
