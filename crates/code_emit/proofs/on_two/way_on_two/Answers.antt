use Rattle.std.proofs.Common.{[], ◌∷◌, ◌∙◌, ap}
use Rattle.prim_ops.specs.declared.operation.PrimOp.TheVariants as prim
use Rattle.flat_code.specs.declared.instr.Op.TheVariants as op
use Rattle.code_emit.specs.declared.ways.Way.TheVariants.{Word, Twice}
use Rattle.code_emit.specs.Working.{working}
use Rattle.code_emit.proofs.There.{row_for}
use Rattle.code_emit.proofs.Twos.{add_operates, sub_operates, and_operates, or_operates, xor_operates, equal_operates, less_operates, greater_operates, unequal_follow, at_most_follow, at_least_follow, mul_operates, div_operates, rem_operates, dshl_operates, dshr_operates}
use Rattle.code_emit.proofs.on_two.way_on_two.Goals as goal

pub returns-in-Add : goal.returns-in-Add
returns-in-Add c = λ params.
    let x = c.args.x in
    let y = c.args.y in
    let mask = c.low_mask.result in
    row_for c.args.prim prim.Add (Word c.of_two.result) (Word (working op.Add 0 x.low y.low 0 mask)) params (x ∷ y ∷ []) c.args.width c.in-Add.is (ap Word c.of_two.ensures) (λ kind h.
    add_operates x y c.requires.first c.requires.second params kind c.args.width c.requires.result mask h (c.low_mask.ensures.narrow c.requires.result))

pub returns-in-Sub : goal.returns-in-Sub
returns-in-Sub c = λ params.
    let x = c.args.x in
    let y = c.args.y in
    let mask = c.low_mask-in-Sub.result in
    row_for c.args.prim prim.Sub (Word c.of_two-in-Sub.result) (Word (working op.Sub 0 x.low y.low 0 mask)) params (x ∷ y ∷ []) c.args.width c.in-Sub.is (ap Word c.of_two-in-Sub.ensures) (λ kind h.
    sub_operates x y c.requires.first c.requires.second params kind c.args.width c.requires.result mask h (c.low_mask-in-Sub.ensures.narrow c.requires.result))

pub returns-in-And : goal.returns-in-And
returns-in-And c = λ params.
    let x = c.args.x in
    let y = c.args.y in
    let mask = c.low_mask-in-And.result in
    row_for c.args.prim prim.And (Word c.of_two-in-And.result) (Word (working op.And 0 x.low y.low 0 mask)) params (x ∷ y ∷ []) c.args.width c.in-And.is (ap Word c.of_two-in-And.ensures) (λ kind h.
    and_operates x y c.requires.first c.requires.second params kind c.args.width c.requires.result mask h (c.low_mask-in-And.ensures.narrow c.requires.result))

pub returns-in-Or : goal.returns-in-Or
returns-in-Or c = λ params.
    let x = c.args.x in
    let y = c.args.y in
    let mask = c.low_mask-in-Or.result in
    row_for c.args.prim prim.Or (Word c.of_two-in-Or.result) (Word (working op.Or 0 x.low y.low 0 mask)) params (x ∷ y ∷ []) c.args.width c.in-Or.is (ap Word c.of_two-in-Or.ensures) (λ kind h.
    or_operates x y c.requires.first c.requires.second params kind c.args.width c.requires.result mask h (c.low_mask-in-Or.ensures.narrow c.requires.result))

pub returns-in-Xor : goal.returns-in-Xor
returns-in-Xor c = λ params.
    let x = c.args.x in
    let y = c.args.y in
    let mask = c.low_mask-in-Xor.result in
    row_for c.args.prim prim.Xor (Word c.of_two-in-Xor.result) (Word (working op.Xor 0 x.low y.low 0 mask)) params (x ∷ y ∷ []) c.args.width c.in-Xor.is (ap Word c.of_two-in-Xor.ensures) (λ kind h.
    xor_operates x y c.requires.first c.requires.second params kind c.args.width c.requires.result mask h (c.low_mask-in-Xor.ensures.narrow c.requires.result))

pub returns-in-Eq : goal.returns-in-Eq
returns-in-Eq c = λ params.
    let x = c.args.x in
    let y = c.args.y in
    row_for c.args.prim prim.Eq (Word c.of_two-in-Eq.result) (Word (working op.Equal 0 x.low y.low 0 1)) params (x ∷ y ∷ []) c.args.width c.in-Eq.is (ap Word c.of_two-in-Eq.ensures) (λ kind h.
    equal_operates x y c.requires.first c.requires.second params)

pub returns-in-Lt : goal.returns-in-Lt
returns-in-Lt c = λ params.
    let x = c.args.x in
    let y = c.args.y in
    row_for c.args.prim prim.Lt (Word c.of_two-in-Lt.result) (Word (working op.Less 0 x.low y.low 0 1)) params (x ∷ y ∷ []) c.args.width c.in-Lt.is (ap Word c.of_two-in-Lt.ensures) (λ kind h.
    less_operates x y c.requires.first c.requires.second params)

pub returns-in-Gt : goal.returns-in-Gt
returns-in-Gt c = λ params.
    let x = c.args.x in
    let y = c.args.y in
    row_for c.args.prim prim.Gt (Word c.of_two-in-Gt.result) (Word (working op.Less 0 y.low x.low 0 1)) params (x ∷ y ∷ []) c.args.width c.in-Gt.is (ap Word c.of_two-in-Gt.ensures) (λ kind h.
    greater_operates x y c.requires.first c.requires.second params)

pub returns-in-Neq : goal.returns-in-Neq
returns-in-Neq c = λ params.
    let x = c.args.x in
    let y = c.args.y in
    row_for c.args.prim prim.Neq c.turned.result (Twice (working op.Equal 0 x.low y.low 0 1) (working op.Not 0 x.low 0 0 1)) params (x ∷ y ∷ []) c.args.width c.in-Neq.is
    (c.turned.ensures ∙ ap (λ i. Twice i (working op.Not 0 x.low 0 0 1)) c.of_two-in-Neq.ensures) (λ kind h. unequal_follow x y c.requires.first c.requires.second params)

pub returns-in-Leq : goal.returns-in-Leq
returns-in-Leq c = λ params.
    let x = c.args.x in
    let y = c.args.y in
    row_for c.args.prim prim.Leq c.turned-in-Leq.result (Twice (working op.Less 0 y.low x.low 0 1) (working op.Not 0 x.low 0 0 1)) params (x ∷ y ∷ []) c.args.width c.in-Leq.is
    (c.turned-in-Leq.ensures ∙ ap (λ i. Twice i (working op.Not 0 x.low 0 0 1)) c.of_two-in-Leq.ensures) (λ kind h. at_most_follow x y c.requires.first c.requires.second params)

pub returns-in-Geq : goal.returns-in-Geq
returns-in-Geq c = λ params.
    let x = c.args.x in
    let y = c.args.y in
    row_for c.args.prim prim.Geq c.turned-in-Geq.result (Twice (working op.Less 0 x.low y.low 0 1) (working op.Not 0 x.low 0 0 1)) params (x ∷ y ∷ []) c.args.width c.in-Geq.is
    (c.turned-in-Geq.ensures ∙ ap (λ i. Twice i (working op.Not 0 x.low 0 0 1)) c.of_two-in-Geq.ensures) (λ kind h. at_least_follow x y c.requires.first c.requires.second params)

pub returns-in-Mul : goal.returns-in-Mul
returns-in-Mul c = λ params.
    let x = c.args.x in
    let y = c.args.y in
    let mask = c.low_mask-in-Mul.result in
    row_for c.args.prim prim.Mul (Word c.of_two-in-Mul.result) (Word (working op.Mul 0 x.low y.low 0 mask)) params (x ∷ y ∷ []) c.args.width c.in-Mul.is (ap Word c.of_two-in-Mul.ensures) (λ kind h.
    mul_operates x y c.requires.first c.requires.second params kind c.args.width c.requires.result mask h (c.low_mask-in-Mul.ensures.narrow c.requires.result))

pub returns-in-Div : goal.returns-in-Div
returns-in-Div c = λ params.
    let x = c.args.x in
    let y = c.args.y in
    let mask = c.low_mask-in-Div.result in
    row_for c.args.prim prim.Div (Word c.of_two-in-Div.result) (Word (working op.Quotient 0 x.low y.low 0 mask)) params (x ∷ y ∷ []) c.args.width c.in-Div.is (ap Word c.of_two-in-Div.ensures) (λ kind h.
    div_operates x y c.requires.first c.requires.second params kind c.args.width c.requires.result mask h (c.low_mask-in-Div.ensures.narrow c.requires.result))

pub returns-in-Rem : goal.returns-in-Rem
returns-in-Rem c = λ params.
    let x = c.args.x in
    let y = c.args.y in
    let mask = c.low_mask-in-Rem.result in
    row_for c.args.prim prim.Rem (Word c.of_two-in-Rem.result) (Word (working op.Remainder 0 x.low y.low 0 mask)) params (x ∷ y ∷ []) c.args.width c.in-Rem.is (ap Word c.of_two-in-Rem.ensures) (λ kind h.
    rem_operates x y c.requires.first c.requires.second params kind c.args.width c.requires.result mask h (c.low_mask-in-Rem.ensures.narrow c.requires.result))

pub returns-in-Dshl : goal.returns-in-Dshl
returns-in-Dshl c = λ params.
    let x = c.args.x in
    let y = c.args.y in
    let mask = c.low_mask-in-Dshl.result in
    row_for c.args.prim prim.Dshl (Word c.of_two-in-Dshl.result) (Word (working op.LeftBy 0 x.low y.low 0 mask)) params (x ∷ y ∷ []) c.args.width c.in-Dshl.is (ap Word c.of_two-in-Dshl.ensures) (λ kind h.
    dshl_operates x y c.requires.first c.requires.second params kind c.args.width c.requires.result mask h (c.low_mask-in-Dshl.ensures.narrow c.requires.result))

pub returns-in-Dshr : goal.returns-in-Dshr
returns-in-Dshr c = λ params.
    let x = c.args.x in
    let y = c.args.y in
    let mask = c.low_mask-in-Dshr.result in
    row_for c.args.prim prim.Dshr (Word c.of_two-in-Dshr.result) (Word (working op.RightBy 0 x.low y.low 0 mask)) params (x ∷ y ∷ []) c.args.width c.in-Dshr.is (ap Word c.of_two-in-Dshr.ensures) (λ kind h.
    dshr_operates x y c.requires.first c.requires.second params kind c.args.width c.requires.result mask h (c.low_mask-in-Dshr.ensures.narrow c.requires.result))
