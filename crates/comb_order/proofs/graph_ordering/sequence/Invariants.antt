use Rattle.std.proofs.Common.{◌≡◌, ℕ, ◌<◌, slice_index, vec_len}
use Rattle.comb_order.specs.Search.{Searching}
use Rattle.comb_order.proofs.graph_ordering.sequence.Given as goal

abbrev pub invariant-loop-root : goal.invariant-loop-root
invariant-loop-root l = record {
  searching : Searching l.reads l.marks l.left l.path.items l.sequence.items;
  at_end : vec_len l.path ≡ 0;
  below : (u : ℕ) → u < l.root → slice_index l.marks u ≡ 0;
}
