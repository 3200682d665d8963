use Rattle.std.proofs.Common.{◌≡◌, ◌∙◌, ap, sym, subst, length, arith}
use Rattle.fir_types.specs.Leaves.{leaves}
use Rattle.ground_exprs.specs.Sources.{AreOfLeaves, IsOfLeaf}
use Rattle.ground_exprs.proofs.Lists.{item_there}
use Rattle.ground_exprs.proofs.Wholes.{of_none, of_more}
use Rattle.ground_exprs.proofs.part_sources.sources_of.Goals as goal

pub loop-leaf-init : goal.loop-leaf-init
loop-leaf-init c = record {
  number = omega arith;
  so_far = subst (AreOfLeaves c.args.typ.now c.args.part.now 0) (sym c.new-sources.ensures) (of_none c.args.typ.now c.args.part.now);
}

pub loop-leaf-preserved : goal.loop-leaf-preserved
loop-leaf-preserved c = record {
  number = omega (arith, c.in_ok-number.ensures);
  so_far = of_more c.args.typ.now c.args.part.now c.loop-leaf.leaf-index _ c.loop-leaf.sources c.push.new.self c.leaf-item.result c.in_ok-source.source c.loop-leaf.invariant.so_far
      (item_there (leaves c.args.typ.now) c.deref-leaf-items.result.now c.loop-leaf.leaf-index c.leaf-item.result (c.deref-leaf-items.ensures.value ∙ c.in_ok-listed.ensures) c.loop-leaf-test.true c.leaf-item.is)
      c.loop-leaf.invariant.number (subst (λ ps. IsOfLeaf ps c.loop-leaf.number c.leaf-item.result c.in_ok-source.source) c.as_slice.ensures c.in_ok-source.ensures) c.in_ok-push.ensures.ok;
}

pub returns : goal.returns
returns c =
    let ended : c.loop-leaf.leaf-index ≡ length (leaves c.args.typ.now) =
    let same = ap length (c.deref-leaf-items.ensures.value ∙ c.in_ok-listed.ensures) in omega (arith, same) in
    subst (λ n. AreOfLeaves c.args.typ.now c.args.part.now n c.loop-leaf.sources) ended c.loop-leaf.invariant.so_far
