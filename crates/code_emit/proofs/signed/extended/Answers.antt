use Rattle.std.proofs.Common.{◌≡◌, ◌<◌, ◌*◌, ◌^◌, ◌∙◌, ap, arith}
use Rattle.code_emit.proofs.Ones.{half_double}
use Rattle.code_emit.proofs.Pairwise.{extend_gives}
use Rattle.code_emit.proofs.signed.extended.Goals as goal

pub returns-else-x-eq0 : goal.returns-else-x-eq0
returns-else-x-eq0 c =
    let x = c.args.x in
    let half = c.sign_of.result in
    let some : 0 < x.width = omega (arith, c.if-x-eq0.false) in
    let double : 2 * half ≡ 2 ^ x.width = ap (λ n. 2 * n) c.sign_of.ensures ∙ half_double x.width some in
    extend_gives x c.requires.few c.requires.kind half c.of_one-else-x-eq0.result double c.of_one-else-x-eq0.ensures
