use Rattle.std.proofs.Common.{[], rules, ◌≡◌, ◌+◌, ◌<◌, ◌≤◌, ◌∙◌, sym, subst, ap, arith}
use Rattle.code_draft.specs.Drafts.{with_instr}
use Rattle.code_draft.specs.Publishing.{Publishes}
use Rattle.code_draft.proofs.Loud.{on_ok_so, tells_one, tells_two}
use Rattle.flat_code.specs.Fine.{location_slots}
use Rattle.code_draft.specs.Segments.{Segment}
use Rattle.code_draft.proofs.PublishReading.{one_published, two_published}
use Rattle.code_draft.proofs.publishing.publish.Goals as goal

pub returns-then-location-le64-clause-publishes : goal.returns-then-location-le64-clause-publishes
returns-then-location-le64-clause-publishes c =
    let d = c.args.draft.now in
    let s = c.args.location in
    let low = c.publication-low in
    let few : s.width ≤ 64 = omega (arith, c.if-location-le64.true) in
    on_ok_so (c.add_instr.new.draft ≡ with_instr d low.result) (Publishes d c.add_instr.new.draft c.args.word s) c.add_instr.result c.add_instr.ensures (λ e.
    subst (λ x. Publishes d x c.args.word s) (sym e) (tells_one d s low.result c.args.word few low.ensures.op low.ensures.first low.ensures.second))

pub returns-clause-publishes : goal.returns-clause-publishes
returns-clause-publishes c =
    let d = c.args.draft.now in
    let s = c.args.location in
    let low = c.publication-low in
    let high = c.publication-high in
    let many : 64 < s.width = omega (arith, c.if-location-le64.false) in
    let next : c.in-Some.next ≡ c.args.word + 1 = search (rules, c.checked_add.ensures, c.in-Some.is, c.in-Some.ensures) in
    on_ok_so (c.add_instr-3.new.draft ≡ with_instr c.add_instr-2.new.draft high.result) (Publishes d c.add_instr-3.new.draft c.args.word s) c.add_instr-3.result c.add_instr-3.ensures (λ e.
    subst (λ x. Publishes d x c.args.word s) (sym (e ∙ ap (λ x. with_instr x high.result) c.in_ok-add_instr.ensures))
    (tells_two d s low.result high.result c.args.word many low.ensures.op high.ensures.op low.ensures.first high.ensures.first low.ensures.second (high.ensures.second ∙ next)))

pub returns-then-location-le64-clause-segment : goal.returns-then-location-le64-clause-segment
returns-then-location-le64-clause-segment c =
    let d = c.args.draft.now in
    let s = c.args.location in
    let low = c.publication-low in
    on_ok_so (c.add_instr.new.draft ≡ with_instr d low.result) (Segment d c.add_instr.new.draft (location_slots s) [] 0) c.add_instr.result c.add_instr.ensures (λ e.
    one_published d c.add_instr.new.draft s low.result e low.ensures.op low.ensures.first)

pub returns-clause-segment : goal.returns-clause-segment
returns-clause-segment c =
    let d = c.args.draft.now in
    let s = c.args.location in
    let low = c.publication-low in
    let high = c.publication-high in
    on_ok_so (c.add_instr-3.new.draft ≡ with_instr c.add_instr-2.new.draft high.result) (Segment d c.add_instr-3.new.draft (location_slots s) [] 0) c.add_instr-3.result c.add_instr-3.ensures (λ e.
    two_published d c.add_instr-3.new.draft s low.result high.result (omega (arith, c.if-location-le64.false)) (e ∙ ap (λ x. with_instr x high.result) c.in_ok-add_instr.ensures)
    low.ensures.op high.ensures.op low.ensures.first high.ensures.first)
