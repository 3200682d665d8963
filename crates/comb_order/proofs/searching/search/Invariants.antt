use Rattle.std.proofs.Common.{◌+◌, ◌<◌, sum_by, slice_index}
use Rattle.comb_order.specs.Search.{Searching, Lower}
use Rattle.comb_order.proofs.searching.search.Given as goal

abbrev pub invariant-going : goal.invariant-going
invariant-going l = record {
  searching : Searching l.reads l.marks l.left l.path.items l.sequence.items;
  lower : Lower l.fn.marks l.marks;
  root : slice_index l.marks l.root < 2;
}

abbrev pub decreases-going : goal.decreases-going
decreases-going l = sum_by (λ x. x) l.marks + sum_by (λ x. x) l.left
