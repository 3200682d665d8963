use Rattle.std.proofs.Common.{◌≡◌, ℕ, ◌<◌, true, false, sym, ap, ◌∙◌, subst, arith}
use Rattle.std.specs.Prelude.{not, ◌&&◌, ◌==◌}
use Rattle.std.specs.BinaryHeap.{heap_len, heap_capacity}
use Rattle.std.specs.Result.{is_ok}
use Rattle.word_pool.specs.Pools.{Pool, is_live}
use Rattle.word_pool.specs.Holding.{pool_of}
use Rattle.word_pool.proofs.Freed.{fewer, kept_back, live_back, on_ok}
use Rattle.word_pool.proofs.slots.Slots.give.Goals as goal

pub unreachable-requires : goal.unreachable-requires
unreachable-requires c =
    let s = c.self.inside in
    let live = subst (λ (p : Pool). is_live p c.args.slot ≡ true) (sym c.self.view_is) c.requires in
    let few = fewer s.limit s.next c.args.slot s.freed c.self.invariant live in
    let room : heap_len s.freed < heap_capacity s.freed = omega (arith, few, s.freed.data.ok.0, c.self.invariant.room) in
    let fine = c.push.ensures.succeeds room in
    let bad : is_ok c.push.result ≡ false = c.is_err.ensures.negation ∙ ap not c.if-is_err.true in
    cc

pub invariant_of-self : goal.invariant_of-self
invariant_of-self c =
    let s = c.self.inside in
    let live = subst (λ (p : Pool). is_live p c.args.slot ≡ true) (sym c.self.view_is) c.requires in
    let good = sym c.is_err.ensures.value ∙ c.if-is_err.false in
    kept_back s.limit s.next c.args.slot s.freed c.push.new.self c.self.invariant live (on_ok c.push.result good c.push.ensures.permutation) (on_ok c.push.result good c.push.ensures.heap_order c.self.invariant.heap) c.push.ensures.capacity

pub returns-clause-live : goal.returns-clause-live
returns-clause-live c =
    let s = c.self.inside in
    let live = subst (λ (p : Pool). is_live p c.args.slot ≡ true) (sym c.self.view_is) c.requires in
    let good = sym c.is_err.ensures.value ∙ c.if-is_err.false in
    subst (λ (p : Pool). (k : ℕ) → is_live (pool_of s.limit s.next c.push.new.self) k ≡ (is_live p k && not (k == c.args.slot))) c.self.view_is
    (live_back s.limit s.next c.args.slot s.freed c.push.new.self c.self.invariant live (on_ok c.push.result good c.push.ensures.permutation) (on_ok c.push.result good c.push.ensures.heap_order c.self.invariant.heap) c.push.ensures.capacity)
