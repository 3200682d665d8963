use Rattle.std.proofs.Common.{◌∙◌, sym, ap, arith, option_map}
use Rattle.fir_meaning.specs.Components.{design_of, module_named}
use Rattle.plain_cycle.specs.Parts.{bares_held}
use Rattle.plain_cycle.specs.Places.{stands_of}
use Rattle.plain_cycle.proofs.Modules.{stands_more, stands_all}
use Rattle.plain_cycle.proofs.places.next_places.Goals as goal

pub loop-at-preserved : goal.loop-at-preserved
loop-at-preserved c = λ ts fits.
    stands_more c.args.place.now.path.items c.as_slice.result.now c.as_slice-declared.result.now ts c.loop-at.at c.index-declared-at.result (stands_of c.loop-at.next.items)
    (stands_of c.push_behind.new.next.items) (omega arith) (omega (arith, fits)) c.index-declared-at.is c.as_slice.ensures.value c.in_ok-push_behind.ensures (c.loop-at.invariant ts fits)

pub returns : goal.returns
returns c =
    stands_all c.args.place.now.path.items (module_named (design_of c.args.fitted.now) c.args.place.now.name) c.as_slice-declared.result.now c.in-Some.parts.declared.items c.in-Some.parts.types.now c.loop-at.at
    (stands_of c.loop-at.next.items) c.as_slice-declared.ensures.value (ap (option_map bares_held) (sym c.in-Some.is) ∙ c.in_ok-parts.ensures) (omega arith) (c.loop-at.invariant c.in-Some.parts.types.now (omega arith))
