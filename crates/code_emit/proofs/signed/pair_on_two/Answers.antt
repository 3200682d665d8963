use Rattle.std.proofs.Common.{[], ◌∷◌}
use Rattle.prim_ops.specs.declared.operation.PrimOp.TheVariants as prim
use Rattle.flat_code.specs.declared.instr.Op.TheVariants as op
use Rattle.code_emit.proofs.Pairwise.{pair_for, add_pair, sub_pair, and_pair, or_pair, xor_pair, equal_pair, unequal_pair, mul_pair, less_pair, greater_pair, at_most_pair, at_least_pair}
use Rattle.code_emit.proofs.signed.pair_on_two.Goals as goal

pub returns-in-Add : goal.returns-in-Add
returns-in-Add c = λ params.
    let x = c.args.x in
    let y = c.args.y in
    let p = c.both.result in
    let mask = c.low_mask.result in
    pair_for c.args.prim prim.Add p params (x ∷ y ∷ []) c.args.width c.in-Add.is (λ kind h.
    add_pair x y c.requires.first c.requires.second params kind c.args.width c.requires.result p mask (c.both.ensures op.Add mask c.last.ensures) (c.low_mask.ensures.narrow c.requires.result) h)

pub returns-in-Sub : goal.returns-in-Sub
returns-in-Sub c = λ params.
    let x = c.args.x in
    let y = c.args.y in
    let p = c.both-in-Sub.result in
    let mask = c.low_mask-in-Sub.result in
    pair_for c.args.prim prim.Sub p params (x ∷ y ∷ []) c.args.width c.in-Sub.is (λ kind h.
    sub_pair x y c.requires.first c.requires.second params kind c.args.width c.requires.result p mask (c.both-in-Sub.ensures op.Sub mask c.last-in-Sub.ensures) (c.low_mask-in-Sub.ensures.narrow c.requires.result) h)

pub returns-in-And : goal.returns-in-And
returns-in-And c = λ params.
    let x = c.args.x in
    let y = c.args.y in
    let p = c.both-in-And.result in
    let mask = c.low_mask-in-And.result in
    pair_for c.args.prim prim.And p params (x ∷ y ∷ []) c.args.width c.in-And.is (λ kind h.
    and_pair x y c.requires.first c.requires.second params kind c.args.width c.requires.result p mask (c.both-in-And.ensures op.And mask c.last-in-And.ensures) (c.low_mask-in-And.ensures.narrow c.requires.result) h)

pub returns-in-Or : goal.returns-in-Or
returns-in-Or c = λ params.
    let x = c.args.x in
    let y = c.args.y in
    let p = c.both-in-Or.result in
    let mask = c.low_mask-in-Or.result in
    pair_for c.args.prim prim.Or p params (x ∷ y ∷ []) c.args.width c.in-Or.is (λ kind h.
    or_pair x y c.requires.first c.requires.second params kind c.args.width c.requires.result p mask (c.both-in-Or.ensures op.Or mask c.last-in-Or.ensures) (c.low_mask-in-Or.ensures.narrow c.requires.result) h)

pub returns-in-Xor : goal.returns-in-Xor
returns-in-Xor c = λ params.
    let x = c.args.x in
    let y = c.args.y in
    let p = c.both-in-Xor.result in
    let mask = c.low_mask-in-Xor.result in
    pair_for c.args.prim prim.Xor p params (x ∷ y ∷ []) c.args.width c.in-Xor.is (λ kind h.
    xor_pair x y c.requires.first c.requires.second params kind c.args.width c.requires.result p mask (c.both-in-Xor.ensures op.Xor mask c.last-in-Xor.ensures) (c.low_mask-in-Xor.ensures.narrow c.requires.result) h)

pub returns-in-Eq : goal.returns-in-Eq
returns-in-Eq c = λ params.
    let x = c.args.x in
    let y = c.args.y in
    let p = c.both-in-Eq.result in
    pair_for c.args.prim prim.Eq p params (x ∷ y ∷ []) c.args.width c.in-Eq.is (λ kind h.
    equal_pair x y c.requires.first c.requires.second params kind c.args.width c.requires.result p 1 c.requires.kind (c.both-in-Eq.ensures op.Equal 1 c.last-in-Eq.ensures) h)

pub returns-in-Neq : goal.returns-in-Neq
returns-in-Neq c = λ params.
    let x = c.args.x in
    let y = c.args.y in
    let p = c.both-in-Neq.result in
    pair_for c.args.prim prim.Neq p params (x ∷ y ∷ []) c.args.width c.in-Neq.is (λ kind h.
    unequal_pair x y c.requires.first c.requires.second params kind c.args.width c.requires.result p 1 c.requires.kind (c.both-in-Neq.ensures op.Equal 1 c.last-in-Neq.ensures) h)

pub returns-in-Mul : goal.returns-in-Mul
returns-in-Mul c = λ params.
    let x = c.args.x in
    let y = c.args.y in
    let p = c.both-in-Mul.result in
    let mask = c.low_mask-in-Mul.result in
    pair_for c.args.prim prim.Mul p params (x ∷ y ∷ []) c.args.width c.in-Mul.is (λ kind h.
    mul_pair x y c.requires.first c.requires.second params kind c.args.width c.requires.result p mask (c.both-in-Mul.ensures op.Mul mask c.last-in-Mul.ensures) (c.low_mask-in-Mul.ensures.narrow c.requires.result) h)

pub returns-in-Lt : goal.returns-in-Lt
returns-in-Lt c = λ params.
    let x = c.args.x in
    let y = c.args.y in
    let p = c.both-in-Lt.result in
    pair_for c.args.prim prim.Lt p params (x ∷ y ∷ []) c.args.width c.in-Lt.is (λ kind h.
    less_pair x y c.requires.first c.requires.second params kind c.args.width c.requires.result p 1 c.requires.kind (c.both-in-Lt.ensures op.Below 1 c.last-in-Lt.ensures) h)

pub returns-in-Gt : goal.returns-in-Gt
returns-in-Gt c = λ params.
    let x = c.args.x in
    let y = c.args.y in
    let p = c.both-in-Gt.result in
    pair_for c.args.prim prim.Gt p params (x ∷ y ∷ []) c.args.width c.in-Gt.is (λ kind h.
    greater_pair x y c.requires.first c.requires.second params kind c.args.width c.requires.result p 1 c.requires.kind (c.both-in-Gt.ensures op.Below 1 c.last-in-Gt.ensures) h)

pub returns-in-Leq : goal.returns-in-Leq
returns-in-Leq c = λ params.
    let x = c.args.x in
    let y = c.args.y in
    let p = c.both-in-Leq.result in
    pair_for c.args.prim prim.Leq p params (x ∷ y ∷ []) c.args.width c.in-Leq.is (λ kind h.
    at_most_pair x y c.requires.first c.requires.second params kind c.args.width c.requires.result p 1 c.requires.kind (c.both-in-Leq.ensures op.Below 1 c.last-in-Leq.ensures) h)

pub returns-in-Geq : goal.returns-in-Geq
returns-in-Geq c = λ params.
    let x = c.args.x in
    let y = c.args.y in
    let p = c.both-in-Geq.result in
    pair_for c.args.prim prim.Geq p params (x ∷ y ∷ []) c.args.width c.in-Geq.is (λ kind h.
    at_least_pair x y c.requires.first c.requires.second params kind c.args.width c.requires.result p 1 c.requires.kind (c.both-in-Geq.ensures op.Below 1 c.last-in-Geq.ensures) h)
