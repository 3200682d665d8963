use Rattle.std.proofs.Common.{sym, subst, ap, ◌∙◌}
use Rattle.code_draft.specs.Drafts.{Computes, Works}
use Rattle.code_emit.specs.Ways.{IsWay, Operates, Follow}
use Rattle.code_emit.proofs.Making.{word_makes, twice_makes}
use Rattle.code_draft.specs.Drafts.{with_instr, with_slots, at_slot}
use Rattle.code_emit.proofs.Reading.{rests_step, word_step, twice_step}
use Rattle.code_emit.proofs.ways.made.Goals as goal

pub returns-in_ok-slot-in-Word-clause-makes : goal.returns-in_ok-slot-in-Word-clause-makes
returns-in_ok-slot-in-Word-clause-makes c = λ locations R way is there.
    let d = c.args.draft.now in
    let i = c.in-Word.work in
    let o : Operates i locations R = subst (λ w. IsWay w locations R) c.in-Word.is way in
    word_makes c.args.measure.kind c.args.measure.width c.in_ok-slot-in-Word.slot c.at_slot-in-Word.result c.requires c.at_slot-in-Word.ensures locations R d c.computed.new.draft i o
    (c.in_ok-slot-in-Word.ensures.works is (o.computes d there))

pub returns-in_ok-last-in-Twice-clause-makes : goal.returns-in_ok-last-in-Twice-clause-makes
returns-in_ok-last-in-Twice-clause-makes c = λ locations R way is there.
    let d = c.args.draft.now in
    let i = c.in-Twice.work in
    let next = c.in-Twice.next in
    let e = c.computed-in-Twice.new.draft in
    let f = c.computed-in-Twice-2.new.draft in
    let slot = c.in_ok-slot-in-Twice.slot in
    let o : Follow i next locations R = subst (λ w. IsWay w locations R) c.in-Twice.is way in
    let first = c.in_ok-slot-in-Twice.ensures.works is (o.computes d there) in
    let can = o.then_computes e slot first.written in
    let then_can = subst (Computes e) (sym c.after.ensures) can in
    twice_makes c.args.measure.kind c.args.measure.width c.in_ok-last-in-Twice.last c.at_slot-in-Twice.result c.requires c.at_slot-in-Twice.ensures locations R d e f i next slot o first
    (subst (λ j. Works e f j c.in_ok-last-in-Twice.last) c.after.ensures (c.in_ok-last-in-Twice.ensures.works first.grows.is then_can))

pub returns-in-Same-clause-step : goal.returns-in-Same-clause-step
returns-in-Same-clause-step c = λ locations R way.
    rests_step locations R c.args.measure.kind c.args.measure.width c.in-Same.slot c.at_slot.result c.requires c.at_slot.ensures c.args.draft.now (subst (λ w. IsWay w locations R) c.in-Same.is way)

pub returns-in_ok-slot-in-Word-clause-step : goal.returns-in_ok-slot-in-Word-clause-step
returns-in_ok-slot-in-Word-clause-step c = λ locations R way.
    let i = c.in-Word.work in
    let o : Operates i locations R = subst (λ w. IsWay w locations R) c.in-Word.is way in
    word_step locations R c.args.measure.kind c.args.measure.width c.in_ok-slot-in-Word.slot c.at_slot-in-Word.result c.requires c.at_slot-in-Word.ensures c.args.draft.now c.computed.new.draft i o
    c.in_ok-slot-in-Word.ensures.code c.in_ok-slot-in-Word.ensures.place

pub returns-in_ok-last-in-Twice-clause-step : goal.returns-in_ok-last-in-Twice-clause-step
returns-in_ok-last-in-Twice-clause-step c = λ locations R way.
    let i = c.in-Twice.work in
    let next = c.in-Twice.next in
    let e = c.computed-in-Twice.new.draft in
    let f = c.computed-in-Twice-2.new.draft in
    let slot = c.in_ok-slot-in-Twice.slot in
    let o : Follow i next locations R = subst (λ w. IsWay w locations R) c.in-Twice.is way in
    twice_step locations R c.args.measure.kind c.args.measure.width c.in_ok-last-in-Twice.last c.at_slot-in-Twice.result c.requires c.at_slot-in-Twice.ensures c.args.draft.now e f i next slot o
    c.in_ok-slot-in-Twice.ensures.code c.in_ok-slot-in-Twice.ensures.place
    (c.in_ok-last-in-Twice.ensures.code ∙ ap (λ j. with_instr (with_slots e 1) (at_slot e.slots j)) c.after.ensures) c.in_ok-last-in-Twice.ensures.place
