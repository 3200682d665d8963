use Rattle.std.proofs.Common.{◌≡◌, ◌+◌, drop}
use Rattle.reset_search.specs.Feeds.{lines_count}
use Rattle.reset_search.proofs.tree.skip_lines.Given as goal

abbrev pub invariant-loop-line : goal.invariant-loop-line
invariant-loop-line l = l.fn.next + lines_count l.mask l.lines ≡ l.next + lines_count l.mask (drop l.line-index l.lines)
