use Rattle.std.proofs.Common.{◌≡◌, take}
use Rattle.bit_words.specs.declared.value.Value.{Value}
use Rattle.bit_words.specs.Values.{integer_of}
use Rattle.fir_types.specs.declared.leaf.TypeLeaf.{TypeLeaf}
use Rattle.plain_cycle.specs.Layouts.{Located}
use Rattle.plain_cycle.specs.Runs.{IsPart, design_in, state_at, values_at}
use Rattle.plain_cycle.specs.Edges.{Beside, next_in_leaf}
use Rattle.plain_cycle.proofs.registers.next_of_leaves.Given as goal

abbrev pub invariant-loop-leaf : goal.invariant-loop-leaf
invariant-loop-leaf l = (x : Located) → IsPart (design_in l.run) x l.part
    → Beside (λ (leaf : TypeLeaf) (v : Value). integer_of v ≡ next_in_leaf (state_at l.run l.moment) (values_at l.run l.moment) x leaf) (take l.leaf-index l.leaf-items) l.values
