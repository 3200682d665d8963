use Rattle.std.proofs.Common.{◌∙◌, sym, arith, rules, length, refl}
use Rattle.std.proofs.lemmas.Option.{slice_get_read, slice_get_past}
use Rattle.plain_run.proofs.Numbers.{found_here, found_later}
use Rattle.plain_run.proofs.flat_order.leaf_numbered.Goals as goal

pub returns-in-Some : goal.returns-in-Some
returns-in-Some c =
    let ls = c.own_leaves-leaves.result.now in
    let k = c.loop-site.left in
    sym (c.loop-site.invariant
    ∙ found_here c.args.sites.now c.loop-site.site-index c.site-item.result (omega arith) c.site-item.is ls c.own_leaves-leaves.ensures k c.in-Some.leaf.now
    (slice_get_read ls (length ls) k c.in-Some.leaf.now refl (search rules) (search rules)))

pub loop-site-preserved : goal.loop-site-preserved
loop-site-preserved c =
    let ls = c.own_leaves-leaves.result.now in
    c.loop-site.invariant
    ∙ found_later c.args.sites.now c.loop-site.site-index c.site-item.result (omega arith) c.site-item.is ls c.own_leaves-leaves.ensures c.loop-site.left (slice_get_past ls c.loop-site.left (search rules))
