use Rattle.std.proofs.Common.{[], ◌∷◌, ap, ◌∙◌, arith}
use Rattle.std.proofs.lemmas.List.{take_all}
use Rattle.std.specs.List.{flat_map}
use Rattle.ground_net.specs.declared.stretch.Span.{Span}
use Rattle.ground_net.specs.Numbers.{listed}
use Rattle.comb_order.specs.Spreading.{leaves_of}
use Rattle.comb_order.proofs.Making.{spans_back}
use Rattle.comb_order.proofs.spread.key_of.Goals as goal

pub returns : goal.returns
returns c =
    let spans = c.as_slice-span-items.result.now in
    let first = c.args.stretch.now.first in
    let all = take_all c.loop-span.span-index c.as_slice-span-items.result.now (omega (arith, c.loop-span-test.false)) in
    ap leaves_of c.loop-span.invariant ∙ (ap (λ s. leaves_of (first ∷ flat_map (λ (x : Span). x.length ∷ x.stride ∷ []) s)) all
    ∙ (ap (λ s. listed s first) (spans_back spans) ∙ ap (λ s. listed s first) c.as_slice-span-items.ensures))
