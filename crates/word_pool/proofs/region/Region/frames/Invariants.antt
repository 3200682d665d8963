use Rattle.std.proofs.Common.{◌≡◌, ◌≤◌, length, take, drop, map}
use Rattle.std.specs.Prelude.{sum}
use Rattle.std.specs.List.{flat_map}
use Rattle.word_pool.proofs.region.Region.frames.Given as goal

abbrev pub invariant-loop-length : goal.invariant-loop-length
invariant-loop-length l = record {
  lengths : map (λ frame. length frame.now) l.frames.items ≡ take l.length-index l.lengths;
  words : flat_map (λ frame. frame.now) l.frames.items ≡ take (sum (take l.length-index l.lengths)) l.fn.self.words.items;
  rest : l.rest ≡ drop (sum (take l.length-index l.lengths)) l.fn.self.words.items;
  fits : sum l.lengths ≤ length l.fn.self.words.items;
}
