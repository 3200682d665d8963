use Rattle.std.proofs.Common.{sym, subst, arith}
use Rattle.fir_meaning.specs.Components.{design_of}
use Rattle.plain_cycle.specs.Places.{stands_of, ArePlaces}
use Rattle.plain_cycle.proofs.Laying.{lists_more, laid_out}
use Rattle.plain_cycle.proofs.layout.lay_out.Goals as goal

pub loop-place-preserved : goal.loop-place-preserved
loop-place-preserved c =
    lists_more (design_of c.args.fitted.now) c.as_slice-listed.result.now c.loop-place.place-index c.place-item.result c.loop-place.layout c.push_place.new.layout (omega arith) c.place-item.is
    c.in_ok-push_place.ensures c.loop-place.invariant

pub returns : goal.returns
returns c =
    let fitted = c.args.fitted.now in
    laid_out fitted c.requires (c.names_are_declared_once.ensures fitted.checked.resolved c.requires.names) c.as_slice-listed.result.now
    (subst (λ l. ArePlaces (design_of fitted) (stands_of l)) (sym c.as_slice-listed.ensures.value) c.in_ok-places.ensures) c.loop-place.place-index c.loop-place.layout (omega arith) c.loop-place.invariant
