use Rattle.std.proofs.Common.{◌<◌, length, arith}
use Rattle.std.proofs.lemmas.Option.{slice_get_within}
use Rattle.snapshot_text.proofs.Stepping.{memory_skipped, same_same}
use Rattle.snapshot_text.proofs.walking.at_element.Goals as goal
use Rattle.snapshot_text.proofs.walking.at_element.Goals.{else-at-memory-via-then-at-memory+else-at-len, else-at-memory-via-else-at-memory}

pub memories-preserved : goal.memories-preserved
memories-preserved c =
    let at = c.memories.at in
    let memory = c.index-as_slice-at.result in
    let lt : at.memory < length at.net.now.memories = omega (arith, c.len.ensures) in
    let is = rw c.as_slice.ensures at c.index-as_slice-at.is in
    let none : at.element < memory.depth → at.leaf < length memory.elements → ⊥ = elim c.else-at-memory.branch [
      | else-at-memory-via-then-at-memory+else-at-len w ↦ λ below inside. omega (arith, below, inside, w.if-at-len.false, w.len-then-at-memory.ensures)
      | else-at-memory-via-else-at-memory w ↦ λ below inside. omega (arith, below, inside, w.if-at-memory.false)
    ] in
    record {
      same = same_same c.args.cursor at _ c.memories.invariant.same (memory_skipped at memory c.memories.invariant.same.settled lt is none);
      register = c.memories.invariant.register;
    }

pub returns-clause-there : goal.returns-clause-there
returns-clause-there c = λ memory e. absurd (omega (arith, c.memories-test.false, c.len.ensures, slice_get_within c.memories.at.net.now.memories c.memories.at.memory memory e))
