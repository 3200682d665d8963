use Rattle.std.proofs.Common.{subst, ◌<◌, ◌≤◌, length}
use Rattle.std.specs.Prelude.{AllPairs}
use Rattle.std.specs.BinaryHeap.{heap_items}
use Rattle.word_pool.specs.Pools.{Pool}
use Rattle.word_pool.proofs.Freed.{live-le, live_ascends}
use Rattle.word_pool.proofs.slots.Slots.high.Goals as goal

pub returns-clause-most : goal.returns-clause-most
returns-clause-most c = let s = c.self.inside in subst (λ (p : Pool). length p.live ≤ s.next) c.self.view_is (live-le s.next (heap_items s.freed))

pub returns-clause-ascending : goal.returns-clause-ascending
returns-clause-ascending c = let s = c.self.inside in subst (λ (p : Pool). AllPairs (λ x y. x < y) p.live) c.self.view_is (live_ascends s.next (heap_items s.freed))
