use Rattle.std.proofs.Common.{◌≡◌, ◌-◌, min, [], ◌∷◌, slice_index, sym, subst, ap, ap₂, ◌∙◌}
use Rattle.prim_ops.specs.declared.operation.PrimOp.TheVariants as prim
use Rattle.flat_code.specs.declared.instr.Op.TheVariants as op
use Rattle.code_emit.specs.declared.ways.Way.TheVariants.{Word, Twice}
use Rattle.code_emit.specs.Working.{working}
use Rattle.code_emit.specs.Ways.{Rests, Refits, Shifts, GivesRow, row_value}
use Rattle.code_emit.proofs.There.{some_so, row_for, way_row}
use Rattle.code_emit.proofs.Ones.{pad_refits, cvt_refits, as_uint_rests, as_sint_rests, not_operates, tail_operates, async_operates, bits_shifts, head_shifts, shr_shifts, shr_signed, shr_four_shifts, shr_four_signed, andr_operates, orr_follow, xorr_operates}
use Rattle.code_emit.proofs.on_one.way_on_one.Goals as goal

pub returns-in-Pad : goal.returns-in-Pad
returns-in-Pad c =
    let x = c.args.x in
    way_row c.fit_way.result c.args.prim prim.Pad c.args.params.now x c.args.width (Refits x c.args.width) c.in-Pad.is c.fit_way.ensures (λ kind h. pad_refits x c.requires.operand c.args.params.now kind c.args.width h)

pub returns-in-Cvt : goal.returns-in-Cvt
returns-in-Cvt c =
    let x = c.args.x in
    way_row c.fit_way-in-Cvt.result c.args.prim prim.Cvt c.args.params.now x c.args.width (Refits x c.args.width) c.in-Cvt.is c.fit_way-in-Cvt.ensures (λ kind h. cvt_refits x c.requires.operand c.args.params.now kind c.args.width h)

pub returns-in-AsUInt : goal.returns-in-AsUInt
returns-in-AsUInt c = λ kind h.
    let x = c.args.x in
    subst (λ p. Rests x.low (x ∷ []) (row_value p c.args.params.now)) (sym c.in-AsUInt.is) (as_uint_rests x c.requires.operand c.args.params.now kind c.args.width)

pub returns-in-AsSInt : goal.returns-in-AsSInt
returns-in-AsSInt c = λ kind h.
    let x = c.args.x in
    subst (λ p. Rests x.low (x ∷ []) (row_value p c.args.params.now)) (sym c.in-AsSInt.is) (as_sint_rests x c.requires.operand c.args.params.now kind c.args.width)

pub returns-in-Not : goal.returns-in-Not
returns-in-Not c =
    let x = c.args.x in
    let mask = c.low_mask.result in
    row_for c.args.prim prim.Not (Word c.of_one.result) (Word (working op.Not 0 x.low 0 0 mask)) c.args.params.now (x ∷ []) c.args.width c.in-Not.is (ap Word c.of_one.ensures) (λ kind h.
    not_operates x c.requires.operand c.args.params.now kind c.args.width mask h (c.low_mask.ensures.narrow c.requires.result))

pub returns-in-Tail : goal.returns-in-Tail
returns-in-Tail c =
    let x = c.args.x in
    let mask = c.low_mask-in-Tail.result in
    row_for c.args.prim prim.Tail (Word c.of_one-in-Tail.result) (Word (working op.Keep 0 x.low 0 0 mask)) c.args.params.now (x ∷ []) c.args.width c.in-Tail.is (ap Word c.of_one-in-Tail.ensures) (λ kind h.
    tail_operates x c.requires.operand c.args.params.now kind c.args.width mask h (c.low_mask-in-Tail.ensures.narrow c.requires.result))

pub returns-in-Bits : goal.returns-in-Bits
returns-in-Bits c =
    let x = c.args.x in
    let ps = c.args.params.now in
    way_row c.from_bit.result c.args.prim prim.Bits ps x c.args.width (Shifts x c.parameter.result c.args.width) c.in-Bits.is c.from_bit.ensures (λ kind h.
    subst (λ n. Shifts x n c.args.width (row_value prim.Bits ps)) (sym c.parameter.ensures) (bits_shifts x c.requires.operand ps kind c.args.width h))

pub returns-in-Head : goal.returns-in-Head
returns-in-Head c =
    let x = c.args.x in
    let ps = c.args.params.now in
    let low : c.saturating_sub.result ≡ x.width - slice_index ps 0 = c.saturating_sub.ensures ∙ ap₂ (λ m n. m - n) c.from.ensures c.parameter-in-Head.ensures in
    way_row c.from_bit-in-Head.result c.args.prim prim.Head ps x c.args.width (Shifts x c.saturating_sub.result c.args.width) c.in-Head.is c.from_bit-in-Head.ensures (λ kind h.
    subst (λ n. Shifts x n c.args.width (row_value prim.Head ps)) (sym low) (head_shifts x c.requires.operand ps kind c.args.width h))

pub returns-in-Shr : goal.returns-in-Shr
returns-in-Shr c =
    let x = c.args.x in
    let ps = c.args.params.now in
    let width = c.args.width in
    let R = row_value prim.Shr ps in
    let n = c.parameter-in-Shr.ensures in
    some_so c.shifted.result c.shifted.ensures (λ way f. subst (λ p. GivesRow way p ps (x ∷ []) width) (sym c.in-Shr.is) (λ kind h.
    f R (λ e. subst (λ m. Shifts x m width R) (sym n) (shr_shifts x c.requires.operand ps kind width h e))
    (λ e some. subst (λ m. Shifts x (min m (x.width - 1)) width R) (sym n) (shr_signed x c.requires.operand ps kind width h e some))))

pub returns-in-ShrFour : goal.returns-in-ShrFour
returns-in-ShrFour c =
    let x = c.args.x in
    let ps = c.args.params.now in
    let width = c.args.width in
    let R = row_value prim.ShrFour ps in
    let n = c.parameter-in-ShrFour.ensures in
    some_so c.shifted-in-ShrFour.result c.shifted-in-ShrFour.ensures (λ way f. subst (λ p. GivesRow way p ps (x ∷ []) width) (sym c.in-ShrFour.is) (λ kind h.
    f R (λ e. subst (λ m. Shifts x m width R) (sym n) (shr_four_shifts x c.requires.operand ps kind width h e))
    (λ e some. subst (λ m. Shifts x (min m (x.width - 1)) width R) (sym n) (shr_four_signed x c.requires.operand ps kind width h e some))))

pub returns-in-AsAsyncReset : goal.returns-in-AsAsyncReset
returns-in-AsAsyncReset c =
    let x = c.args.x in
    let mask = c.low_mask-in-AsAsyncReset.result in
    row_for c.args.prim prim.AsAsyncReset (Word c.of_one-in-AsAsyncReset.result) (Word (working op.Keep 0 x.low 0 0 mask)) c.args.params.now (x ∷ []) c.args.width c.in-AsAsyncReset.is
    (ap Word c.of_one-in-AsAsyncReset.ensures) (λ kind h. async_operates x c.requires.operand c.args.params.now kind c.args.width mask h (c.low_mask-in-AsAsyncReset.ensures.narrow c.requires.result))

pub returns-in-Andr : goal.returns-in-Andr
returns-in-Andr c =
    let x = c.args.x in
    let mask = c.low_mask-in-Andr.result in
    row_for c.args.prim prim.Andr (Word c.of_one-in-Andr.result) (Word (working op.IsMask 0 x.low 0 0 mask)) c.args.params.now (x ∷ []) c.args.width c.in-Andr.is (ap Word c.of_one-in-Andr.ensures) (λ kind h.
    andr_operates x c.requires.operand c.args.params.now kind c.args.width mask (c.low_mask-in-Andr.ensures.narrow c.requires.operand))

pub returns-in-Orr : goal.returns-in-Orr
returns-in-Orr c =
    let x = c.args.x in
    row_for c.args.prim prim.Orr (Twice c.of_one-in-Orr.result c.of_one-in-Orr-2.result) (Twice (working op.IsMask 0 x.low 0 0 0) (working op.Not 0 x.low 0 0 1)) c.args.params.now (x ∷ []) c.args.width c.in-Orr.is
    (ap₂ Twice c.of_one-in-Orr.ensures c.of_one-in-Orr-2.ensures) (λ kind h. orr_follow x c.requires.operand c.args.params.now kind c.args.width)

pub returns-in-Xorr : goal.returns-in-Xorr
returns-in-Xorr c =
    let x = c.args.x in
    row_for c.args.prim prim.Xorr (Word c.of_one-in-Xorr.result) (Word (working op.Parity 0 x.low 0 0 0)) c.args.params.now (x ∷ []) c.args.width c.in-Xorr.is (ap Word c.of_one-in-Xorr.ensures) (λ kind h.
    xorr_operates x c.requires.operand c.args.params.now kind c.args.width)

pub returns-in-Shl : goal.returns-in-Shl
returns-in-Shl c =
    let ps = c.args.params.now in
    some_so c.raised.result c.raised.ensures (λ way h. subst (λ p. GivesRow way p ps (c.args.x ∷ []) c.args.width) (sym c.in-Shl.is) (h ps c.parameter-in-Shl.ensures))
