use Rattle.std.proofs.Common.{ap, ◌∙◌}
use Rattle.std.specs.List.{flat_map}
use Rattle.std.specs.Iterator.Adapters.{zip_first, zip_second}
use Rattle.std.specs.Slice.Iter.{iter_rest}
use Rattle.std.proofs.lemmas.Slice.Zip.{zip_turn, zip_end}
use Rattle.trace_print.specs.Components.{components_of}
use Rattle.trace_print.specs.Listing.{component_lines}
use Rattle.trace_print.proofs.Pairs.{lines_more, all_pairs}
use Rattle.trace_print.proofs.listing.widths_text.Goals as goal

pub loop-component-preserved : goal.loop-component-preserved
loop-component-preserved c =
    let all = components_of c.args.fitted.now.checked.resolved.modules c.args.fitted.now.checked.scope.reached in
    let first = ap (λ s. iter_rest (zip_first s)) c.into_iter-component-iterator.ensures.into_iter_gives ∙ ap iter_rest c.zip-component-items.ensures.first ∙ c.iter.ensures.rest ∙ c.deref.ensures.value ∙ c.in_ok-all.ensures in
    let second = ap (λ s. iter_rest (zip_second s)) c.into_iter-component-iterator.ensures.into_iter_gives ∙ c.zip-component-items.ensures.second.0 ∙ c.as_slice.ensures in
    let z = zip_turn all c.args.fitted.now.declared c.loop-component.yielded c.into_iter-component-iterator.result c.loop-component.component-iterator c.next.new.self c.next.result
    first second c.loop-component.yielded_by (c.in-Some.component, c.in-Some.typ) c.in-Some.is c.next.ensures.steps in
    lines_more (component_lines c.args.fitted.now.checked.resolved.names) all c.args.fitted.now.declared c.loop-component.yielded (c.in-Some.component, c.in-Some.typ) c.in-Some.component.now c.in-Some.typ.now
    c.loop-component.text.items c.push_component.new.text.items z.0 z.1 z.2 z.3 c.loop-component.invariant (rw c.get.ensures at c.in_ok-push_component.ensures)

pub returns : goal.returns
returns c =
    let all = components_of c.args.fitted.now.checked.resolved.modules c.args.fitted.now.checked.scope.reached in
    let first = ap (λ s. iter_rest (zip_first s)) c.into_iter-component-iterator.ensures.into_iter_gives ∙ ap iter_rest c.zip-component-items.ensures.first ∙ c.iter.ensures.rest ∙ c.deref.ensures.value ∙ c.in_ok-all.ensures in
    let second = ap (λ s. iter_rest (zip_second s)) c.into_iter-component-iterator.ensures.into_iter_gives ∙ c.zip-component-items.ensures.second.0 ∙ c.as_slice.ensures in
    let z = zip_end all c.args.fitted.now.declared c.loop-component.yielded c.into_iter-component-iterator.result c.loop-component.component-iterator c.next.new.self c.next.result
    first second c.loop-component.yielded_by c.in-None.is c.next.ensures.steps in
    c.loop-component.invariant ∙ ap (flat_map (component_lines c.args.fitted.now.checked.resolved.names)) (all_pairs all c.args.fitted.now.declared _ z)
