use Rattle.std.proofs.Common.{rules, refl, ap, sym, ◌∙◌, ◌≡◌, ◌++◌, length, map}
use Rattle.std.proofs.lemmas.Result.{on_ok_weaker}
use Rattle.fir_types.specs.Memories.{element_of}
use Rattle.fir_types.specs.Bundles.{memory_of}
use Rattle.width_rules.specs.declared.component.Component.{Component}
use Rattle.width_rules.specs.Places.{spots, slots_from, open_spots}
use Rattle.width_rules.specs.Circuits.{memory_slots, places_for}
use Rattle.type_filling.specs.Filling.{filled}
use Rattle.width_fit.specs.Judging.{component_faults, slot_width}
use Rattle.width_fit.specs.Walks.{solved}
use Rattle.width_fit.proofs.Declaring.{memory_walks}
use Rattle.width_fit.proofs.MemoryTypes.{memory_fitted, memory_fits}
use Rattle.width_fit.proofs.walk.declare_memory.Goals as goal

pub returns-clause-walks : goal.returns-clause-walks
returns-clause-walks c =
    let all = solved c.args.given.now in
    let memory = c.args.memory.now in
    let sized = c.in_ok-component.component in
    let slots = c.in_ok-slots.slots in
    let n = length c.args.walk.now.places.items in
    let is = c.in_ok-component.ensures in
    let element : c.element_of-element.result.now ≡ element_of memory = search rules in
    let own : slots ≡ slots_from n (spots (element_of memory)) = search rules in
    let fitted : c.in_ok-fit.fit.typ ≡ filled (memory_of memory) (map (slot_width all.widths) (memory_slots memory slots))
    = memory_fitted all.widths memory n slots c.element_of-element.result.now c.in_ok-fitted.fitted c.in_ok-fit.fit.typ c.in_ok-widths.widths element c.in_ok-slots.ensures.slots
    (search rules) (search rules) c.in_ok-fit.ensures.typ in
    let copied : c.in_ok-copy.field-0 ≡ c.in_ok-fit.fit.typ = search rules in
    on_ok_weaker c.declare.result
    (memory_walks all memory slots sized.slots (memory_of memory) c.in_ok-copy.field-0 sized.part c.args.walk.now _
    own (ap (λ (s : Component). s.slots) is ∙ ap (memory_slots memory) own)
    (c.in_ok-slots.ensures.places ∙ ap (λ t. c.args.walk.now.places.items ++ places_for memory.name.place (open_spots (spots t))) element) refl
    (copied ∙ fitted ∙ ap (λ (s : Component). filled (memory_of memory) (map (slot_width all.widths) s.slots)) (sym is))
    c.in_ok-push.ensures.items refl
    (c.in_ok-push_component.ensures ∙ ap (λ s. c.args.walk.now.found.faults.items ++ component_faults all memory.name.place s) c.as_slice-3.ensures)
    (ap (λ (s : Component). s.part) is))
    c.declare.ensures.known

pub returns-clause-fits : goal.returns-clause-fits
returns-clause-fits c =
    let ws = c.args.given.now.widths.now in
    let memory = c.args.memory.now in
    let sized = c.in_ok-component.component in
    let slots = c.in_ok-slots.slots in
    let n = length c.args.walk.now.places.items in
    let element : c.element_of-element.result.now ≡ element_of memory = search rules in
    let widths : c.in_ok-widths.widths ≡ map (slot_width ws) slots = search rules in
    let fitted : c.in_ok-fit.fit.typ ≡ filled (memory_of memory) (map (slot_width ws) (memory_slots memory slots))
    = memory_fitted ws memory n slots c.element_of-element.result.now c.in_ok-fitted.fitted c.in_ok-fit.fit.typ c.in_ok-widths.widths element c.in_ok-slots.ensures.slots
    widths (search rules) c.in_ok-fit.ensures.typ in
    c.declare.ensures.fits ws c.args.walk.now.choices (memory_fits ws memory slots c.in_ok-widths.widths sized c.in_ok-fit.fit c.in_ok-component.ensures widths fitted (search rules)) c.requires
