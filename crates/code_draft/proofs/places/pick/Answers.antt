use Rattle.std.proofs.Common.{[], ◌∷◌, arith}
use Rattle.code_draft.proofs.Placing.{ok_so, level_narrow, level_guarded, one_shifted, adds_then, out_first}
use Rattle.code_draft.proofs.places.pick.Goals as goal

pub returns-then-level-clause-gives : goal.returns-then-level-clause-gives
returns-then-level-clause-gives c = λ is index rest.
    level_narrow c.args.draft.now c.offset.new.draft c.args.level c.args.rest c.in_ok-sum.sum (one_shifted c.args.level.index.width c.args.level.length c.if-level-lt64.true c.if-level.true) (c.in_ok-sum.ensures.gives is index rest)

pub returns-clause-gives : goal.returns-clause-gives
returns-clause-gives c = ok_so c.guarded.result c.guarded.ensures.gives (λ k last is index rest.
    let first = c.in_ok-sum.ensures.gives is index rest in
    level_guarded c.args.draft.now c.offset.new.draft c.guarded.new.draft c.args.level c.args.rest c.in_ok-sum.sum k first (last first.grows.is (first.grows.stays c.args.level.index.low index) first.written))

pub returns-clause-adds : goal.returns-clause-adds
returns-clause-adds c = ok_so c.guarded.result c.guarded.ensures.adds (λ k last.
    let i = c.args.level.index.low in
    let r = c.args.rest in
    let s = c.in_ok-sum.sum in
    let later = c.in_ok-sum.ensures.later in
    adds_then c.args.draft.now c.offset.new.draft c.guarded.new.draft (i ∷ r ∷ []) (i ∷ s ∷ []) (i ∷ r ∷ []) c.in_ok-sum.ensures.adds last (λ j lt h. h)
    (λ j lt h. out_first i s r c.args.draft.now.slots j (omega (arith, later)) lt h))
