use Rattle.std.proofs.Common.{◌≡◌, ◌==◌, ◌&&◌, not, refl, arith}
use Rattle.std.proofs.lemmas.Grind.{common_steps}
use Rattle.type_index.proofs.Built.{vector_matches}
use Rattle.type_index.proofs.making.put_one.Goals as goal

pub returns : goal.returns
returns c =
    let clocked : c.if-length-ne0.result ≡ (not (c.args.length == 0) && c.args.inner.clocked) = grind (arith, common_steps) in
    let signals : c.if-length-ne0-2.result ≡ (not (c.args.length == 0) && c.args.inner.signals) = grind (arith, common_steps) in
    rw c.in_ok-new.ensures
    (λ texts typ element is m. vector_matches texts typ element c.args.length c.args.inner _ is m (c.repeated-ways.ensures.leaves typ element is)
    (c.repeated-ways.ensures.bytes texts typ element is) refl clocked signals refl refl)
