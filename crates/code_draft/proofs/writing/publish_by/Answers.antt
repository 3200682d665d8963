use Rattle.std.proofs.Common.{◌≡◌, [], ◌∷◌, ◌∙◌, sym, subst, ap}
use Rattle.code_draft.specs.Drafts.{with_instr}
use Rattle.code_draft.specs.Writing.{PublishesBy}
use Rattle.code_draft.proofs.Written.{on_ok_so, writes_by}
use Rattle.flat_code.specs.Fine.{slots_of}
use Rattle.code_draft.specs.Segments.{Segment}
use Rattle.code_draft.proofs.PortReading.{port_segment}
use Rattle.code_draft.proofs.writing.publish_by.Goals as goal

pub returns-clause-publishes : goal.returns-clause-publishes
returns-clause-publishes c =
    let d = c.args.draft.now in
    let p = c.args.port in
    let i = c.instr_of.result in
    on_ok_so (c.add_instr.new.draft ≡ with_instr c.add_port.new.draft i) (PublishesBy d c.add_instr.new.draft p) c.add_instr.result c.add_instr.ensures (λ e.
    subst (λ x. PublishesBy d x p) (sym (e ∙ ap (λ x. with_instr x i) c.in_ok-number.ensures.draft)) (writes_by d p i c.instr_of.ensures.op (c.instr_of.ensures.first ∙ c.in_ok-number.ensures.number)))

pub returns-clause-segment : goal.returns-clause-segment
returns-clause-segment c =
    let d = c.args.draft.now in
    let p = c.args.port in
    let i = c.instr_of.result in
    let outer = slots_of (p.address ∷ p.source ∷ p.conditions) in
    on_ok_so (c.add_instr.new.draft ≡ with_instr c.add_port.new.draft i) (Segment d c.add_instr.new.draft outer [] 0) c.add_instr.result c.add_instr.ensures (λ e.
    subst (λ x. Segment d x outer [] 0) (sym (e ∙ ap (λ x. with_instr x i) c.in_ok-number.ensures.draft)) (port_segment d p i c.instr_of.ensures.op (c.instr_of.ensures.first ∙ c.in_ok-number.ensures.number)))
