-- How slots are held: the numbers that were ever live are those below the next one, and those of them that were given back lie in a heap.
use Rattle.std.specs.Prelude.{ℕ, ◌+◌, ◌-◌, ◌<◌, ◌≤◌, ◌==◌, List, length, filter, All, if◌then◌else◌, sum_by}
use Rattle.std.specs.List.{range_with_len}
use Rattle.std.specs.Ordering.{nat_cmp}
use Rattle.std.specs.declared.alloc.Global.{Global}
use Rattle.std.specs.declared.cmp.Reverse.{Reverse}
use Rattle.std.specs.declared.collections.BinaryHeap.{BinaryHeap}
use Rattle.std.specs.BinaryHeap.{heap_items, heap_capacity, IsHeap}
use Rattle.word_pool.specs.Pools.{Pool}

-- how often a number was given back and not taken again
abbrev pub times_freed : List (Reverse ℕ) → ℕ → ℕ
times_freed freed k = sum_by (λ f. if f.0 == k then 1 else 0) freed

abbrev pub live_of : ℕ → List (Reverse ℕ) → List ℕ
live_of next freed = filter (λ k. times_freed freed k == 0) (range_with_len 0 next)

abbrev pub pool_of : ℕ → ℕ → BinaryHeap (Reverse ℕ) Global → Pool
pool_of limit next freed = record { live = live_of next (heap_items freed); limit = limit; high = next; spare = heap_capacity freed + length (heap_items freed) - next }

pub record IsKept (limit next : ℕ) (freed : BinaryHeap (Reverse ℕ) Global) : Type 0 where
  pub within : next ≤ limit
  pub below : All (λ f. f.0 < next) (heap_items freed)
  pub once : (k : ℕ) → times_freed (heap_items freed) k ≤ 1
  pub heap : IsHeap (λ x y. nat_cmp y.0 x.0) (heap_items freed)
  pub room : next ≤ heap_capacity freed
