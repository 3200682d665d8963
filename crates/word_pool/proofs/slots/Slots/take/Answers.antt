use Rattle.std.proofs.Common.{◌≡◌, ◌+◌, sym, ap, ◌∙◌, subst, arith}
use Rattle.word_pool.specs.Pools.{Pool, IsFull, Takes}
use Rattle.word_pool.specs.Holding.{pool_of}
use Rattle.word_pool.proofs.Freed.{kept_again, takes_again, freed_not_full, full_is, not_full, takes_next, empty_heap}
use Rattle.word_pool.proofs.slots.Slots.take.Goals as goal

pub invariant_of-self : goal.invariant_of-self
invariant_of-self c =
    let s = c.self.inside in
    let e = c.in-Some.ensures in
    let order = e.heap_order c.self.invariant.heap in
    kept_again s.limit s.next c.in-Some.field-0.0 s.freed c.pop.new.self c.self.invariant e.permutation order.1 order.0 e.capacity

pub returns-in-Some-clause-ok : goal.returns-in-Some-clause-ok
returns-in-Some-clause-ok c =
    let s = c.self.inside in
    let e = c.in-Some.ensures in
    let order = e.heap_order c.self.invariant.heap in
    subst (λ (p : Pool). Takes p (pool_of s.limit s.next c.pop.new.self) c.in-Some.field-0.0) c.self.view_is
    (takes_again s.limit s.next c.in-Some.field-0.0 s.freed c.pop.new.self c.self.invariant e.permutation order.1 order.0 e.capacity)

pub returns-in-Some-clause-refuses : goal.returns-in-Some-clause-refuses
returns-in-Some-clause-refuses c full =
    let s = c.self.inside in
    absurd (freed_not_full s.limit s.next c.in-Some.field-0.0 s.freed c.pop.new.self c.self.invariant c.in-Some.ensures.permutation (subst IsFull (sym c.self.view_is) full))

pub returns-then-self-clause-full : goal.returns-then-self-clause-full
returns-then-self-clause-full c n e =
    let s = c.self.inside in
    let same : c.from.result ≡ n = cc in
    let limit = ap (λ (p : Pool). p.limit) c.self.view_is in (
      subst IsFull c.self.view_is (full_is s.limit s.next s.freed c.self.invariant (empty_heap s.freed c.in_default.ensures.none) c.if-self.true),
      sym same ∙ c.from.ensures ∙ limit,
    )

pub returns-in_err-reserve-clause-refuses : goal.returns-in_err-reserve-clause-refuses
returns-in_err-reserve-clause-refuses c full =
    let s = c.self.inside in
    absurd (not_full s.limit s.next s.freed c.self.invariant (empty_heap s.freed c.in_default.ensures.none) c.if-self.false (subst IsFull (sym c.self.view_is) full))

pub returns-clause-ok : goal.returns-clause-ok
returns-clause-ok c =
    let s = c.self.inside in
    let same = c.reserve.ensures.items ∙ c.in_default.ensures.unchanged.0 in
    subst (λ (p : Pool). Takes p (pool_of s.limit (s.next + 1) c.reserve.new.self) s.next) c.self.view_is
    (takes_next s.limit s.next s.freed c.self.invariant (empty_heap s.freed c.in_default.ensures.none) c.reserve.new.self same
    (omega (arith, c.reserve.ensures.capacity, c.in_default.ensures.capacity)) (omega (arith, c.in_ok-reserve.ensures.ok)) c.if-self.false)

pub returns-clause-refuses : goal.returns-clause-refuses
returns-clause-refuses c full =
    let s = c.self.inside in
    absurd (not_full s.limit s.next s.freed c.self.invariant (empty_heap s.freed c.in_default.ensures.none) c.if-self.false (subst IsFull (sym c.self.view_is) full))
