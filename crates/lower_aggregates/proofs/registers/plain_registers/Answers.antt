use Rattle.std.proofs.Common.{◌≡◌, ◌∙◌, refl, ap, sym, subst, length, arith}
use Rattle.fir_types.specs.Leaves.{leaves}
use Rattle.lower_aggregates.specs.Held.{held_part}
use Rattle.lower_aggregates.specs.Registers.{AreFirst, PlainReset}
use Rattle.lower_aggregates.proofs.Registering.{first_none, first_more}
use Rattle.lower_aggregates.proofs.registers.plain_registers.Goals as goal

pub loop-at-init : goal.loop-at-init
loop-at-init c = record {
  number = omega arith;
  so_far = subst (AreFirst (held_part c.args.piece.now) PlainReset 0) (sym c.new-own.ensures) (first_none (held_part c.args.piece.now) PlainReset);
}

pub loop-at-preserved : goal.loop-at-preserved
loop-at-preserved c = record {
  number = omega (arith, c.in_ok-number.ensures, c.loop-at.invariant.number);
  so_far = first_more (held_part c.args.piece.now) PlainReset c.loop-at._at c.loop-at.number c.loop-at.own c.push.new.self _ c.loop-at.invariant.so_far c.loop-at.invariant.number refl (λ leaf e. refl) c.in_ok-push.ensures.ok;
}

pub returns : goal.returns
returns c =
    let ended : c.loop-at._at ≡ length (leaves c.args.piece.now.typ.now) = (let same = ap length (c.as_slice-list.ensures.value ∙ c.in_ok-listed.ensures) in omega (arith, same)) in
    subst (λ n. AreFirst (held_part c.args.piece.now) PlainReset n c.loop-at.own) ended c.loop-at.invariant.so_far
