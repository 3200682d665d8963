use Rattle.std.proofs.Common.{map, take}
use Rattle.ground_net.specs.declared.ground.Ground.TheVariants.{Leaf}
use Rattle.code_emit.specs.Emits.{EmitsAll}
use Rattle.code_emit.specs.Spans.{SpansAll}
use Rattle.code_memories.proofs.leaves.emit_leaves.Given as goal

abbrev pub invariant-loop-leaf : goal.invariant-loop-leaf
invariant-loop-leaf l = record {
  emits : EmitsAll l.sources (map (λ x. Leaf x) (take l.leaf-index l.leaves)) l.fn.draft l.draft l.locations;
  spans : SpansAll l.sources (map (λ x. Leaf x) (take l.leaf-index l.leaves)) l.fn.draft l.draft l.locations;
}
