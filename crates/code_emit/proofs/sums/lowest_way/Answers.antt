use Rattle.std.proofs.Common.{[], ◌∷◌, sym, subst}
use Rattle.code_emit.specs.Ways.{Operates, IsLowest}
use Rattle.code_emit.proofs.Lowest.{sum_operates, difference_operates, product_operates, raised_operates}
use Rattle.code_emit.proofs.sums.lowest_way.Goals as goal

pub returns-in-Add : goal.returns-in-Add
returns-in-Add c = λ R params lowest.
    let x = c.args.x in
    let y = c.args.y in
    subst (λ i. Operates i (x ∷ y ∷ []) R) (sym c.of_two.ensures)
    (sum_operates x y c.args.width c.requires (c.keeps_lowest.ensures c.if-not-keeps_lowest.false) (c.keeps_lowest-else-not-keeps_lowest.ensures c.if-not-keeps_lowest-2.false) R params c.low_mask.result (subst (λ p. IsLowest p params c.args.width (x ∷ y ∷ []) R) c.in-Add.is lowest) (c.low_mask.ensures.narrow c.requires))

pub returns-in-Sub : goal.returns-in-Sub
returns-in-Sub c = λ R params lowest.
    let x = c.args.x in
    let y = c.args.y in
    subst (λ i. Operates i (x ∷ y ∷ []) R) (sym c.of_two-in-Sub.ensures)
    (difference_operates x y c.args.width c.requires (c.keeps_lowest.ensures c.if-not-keeps_lowest.false) (c.keeps_lowest-else-not-keeps_lowest.ensures c.if-not-keeps_lowest-2.false) R params c.low_mask-in-Sub.result (subst (λ p. IsLowest p params c.args.width (x ∷ y ∷ []) R) c.in-Sub.is lowest) (c.low_mask-in-Sub.ensures.narrow c.requires))

pub returns-in-Mul : goal.returns-in-Mul
returns-in-Mul c = λ R params lowest.
    let x = c.args.x in
    let y = c.args.y in
    subst (λ i. Operates i (x ∷ y ∷ []) R) (sym c.of_two-in-Mul.ensures)
    (product_operates x y c.args.width c.requires (c.keeps_lowest.ensures c.if-not-keeps_lowest.false) (c.keeps_lowest-else-not-keeps_lowest.ensures c.if-not-keeps_lowest-2.false) R params c.low_mask-in-Mul.result (subst (λ p. IsLowest p params c.args.width (x ∷ y ∷ []) R) c.in-Mul.is lowest) (c.low_mask-in-Mul.ensures.narrow c.requires))

pub returns-in-Dshl : goal.returns-in-Dshl
returns-in-Dshl c = λ R params lowest.
    let x = c.args.x in
    let y = c.args.y in
    subst (λ i. Operates i (x ∷ y ∷ []) R) (sym c.of_two-in-Dshl.ensures)
    (raised_operates x y c.args.width c.requires (c.keeps_lowest.ensures c.if-not-keeps_lowest.false) (c.keeps_lowest-else-not-keeps_lowest.ensures c.if-not-keeps_lowest-2.false) R params c.low_mask-in-Dshl.result (subst (λ p. IsLowest p params c.args.width (x ∷ y ∷ []) R) c.in-Dshl.is lowest) (c.low_mask-in-Dshl.ensures.narrow c.requires))
