use Rattle.std.proofs.Common.{◌≡◌, ◌+◌, ◌++◌, map, take, drop}
use Rattle.reset_search.specs.Feeds.{lines_spots, lines_count}
use Rattle.reset_resolution.proofs.memories.push_lines.Given as goal

abbrev pub invariant-loop-line : goal.invariant-loop-line
invariant-loop-line l = record {
  spots : l.fn.spots ++ lines_spots l.element.spots.now l.element.mask l.fn.numbered.next l.lines ≡ l.spots ++ lines_spots l.element.spots.now l.element.mask l.numbered.next (drop l.line-index l.lines);
  next : l.fn.numbered.next + lines_count l.element.mask l.lines ≡ l.numbered.next + lines_count l.element.mask (drop l.line-index l.lines);
}
