use Rattle.std.proofs.Common.{◌≡◌, ℕ, Contains, take}
use Rattle.fir_types.specs.declared.leaf.TypeLeaf.{TypeLeaf}
use Rattle.plain_values.specs.Contents.{contents_of, leaves_of_seen}
use Rattle.plain_values.proofs.Storing.{after_lines}
use Rattle.plain_values.proofs.writing.write.Given as goal

abbrev pub invariant-loop-at : goal.invariant-loop-at
invariant-loop-at l = (element : ℕ) (leaf : TypeLeaf) → Contains l.memory.leaves.now leaf
    → contents_of l.memory.leaves.now l.elements element leaf.path ≡ after_lines l.memory.memory.now (leaves_of_seen l.memory) (take l.at l.memory.memory.now.lines) (contents_of l.memory.leaves.now l.fn.elements) element leaf.path
