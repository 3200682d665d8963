use Rattle.std.proofs.Common.{◌≡◌, ◌∙◌, refl, ap, sym, subst, length, get_or, arith, List, Some}
use Rattle.fir_types.specs.declared.leaf.TypeLeaf.{TypeLeaf}
use Rattle.fir_types.specs.Leaves.{leaves}
use Rattle.ground_net.specs.declared.net.NetReset.{NetReset}
use Rattle.lower_aggregates.specs.Held.{held_part}
use Rattle.lower_aggregates.specs.Registers.{AreFirst, ResetTo}
use Rattle.lower_aggregates.proofs.Registering.{first_none, first_more, item_is, reset_there}
use Rattle.lower_aggregates.proofs.registers.reset_registers.Goals as goal

pub loop-at-init : goal.loop-at-init
loop-at-init c = record {
  number = omega arith;
  so_far = subst (AreFirst (held_part c.args.piece.now) (ResetTo c.args.reset.now c.args.inits.now) 0) (sym c.new-own.ensures) (first_none (held_part c.args.piece.now) (ResetTo c.args.reset.now c.args.inits.now));
}

pub loop-at-preserved : goal.loop-at-preserved
loop-at-preserved c =
    let n : NetReset = record { reset = c.in_ok-copied.field-0; init = c.in_ok-init.init } in
    let list = c.index-list-at.is ∙ ap (λ (l : List TypeLeaf). get_or l c.loop-at.at c.index-list-at.result) (c.as_slice-list.ensures.value ∙ c.in_ok-listed.ensures) in
    record {
      number = omega (arith, c.in_ok-number.ensures, c.loop-at.invariant.number);
      so_far = first_more (held_part c.args.piece.now) (ResetTo c.args.reset.now c.args.inits.now) c.loop-at.at c.loop-at.number c.loop-at.own c.push.new.self (record { leaf = c.loop-at.number; reset = Some n })
          c.loop-at.invariant.so_far c.loop-at.invariant.number refl
          (λ leaf e. reset_there c.args.reset.now c.args.inits.now c.loop-at.at leaf c.index-list-at.result _ n (item_is (leaves c.args.piece.now.typ.now) c.loop-at.at c.index-list-at.result c.index-list-at.result leaf list e)
          c.in_ok-copied.ensures c.get.ensures.value c.in_ok-init.ensures)
          c.in_ok-push.ensures.ok;
    }

pub returns : goal.returns
returns c =
    let ended : c.loop-at.at ≡ length (leaves c.args.piece.now.typ.now) = (let same = ap length (c.as_slice-list.ensures.value ∙ c.in_ok-listed.ensures) in omega (arith, same)) in
    subst (λ n. AreFirst (held_part c.args.piece.now) (ResetTo c.args.reset.now c.args.inits.now) n c.loop-at.own) ended c.loop-at.invariant.so_far
