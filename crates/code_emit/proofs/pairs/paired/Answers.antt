use Rattle.std.proofs.Common.{sym, subst, ap, ◌∙◌, refl, arith}
use Rattle.flat_code.specs.declared.instr.Op.TheVariants as op
use Rattle.flat_code.specs.Fine.{slots_of}
use Rattle.code_draft.specs.Drafts.{Computes, Works}
use Rattle.code_draft.specs.Segments.{Segment}
use Rattle.code_draft.proofs.Growing.{all_stand_on}
use Rattle.code_emit.proofs.There.{one_computes}
use Rattle.code_emit.proofs.Making.{pair_makes, turned_makes}
use Rattle.code_emit.proofs.Reading.{one_slot}
use Rattle.code_emit.proofs.Pairing.{next_of, pair_segment, turned_segment}
use Rattle.code_emit.proofs.pairs.paired.Goals as goal

pub returns-in_ok-last-clause-makes : goal.returns-in_ok-last-clause-makes
returns-in_ok-last-clause-makes c = λ locations R pair is there.
    let d = c.args.draft.now in
    let p = c.args.pair in
    let e = c.computed.new.draft in
    let f = c.computed-2.new.draft in
    let g = c.computed-3.new.draft in
    let h = c.computed-then-pair.new.draft in
    let j = c.in_ok-one.one in
    let k = c.in_ok-other.other in
    let third = c.in_ok-slot.slot in
    let one = c.in_ok-one.ensures.works is (pair.first_computes d there) in
    let other = c.in_ok-other.ensures.works one.grows.is (pair.second_computes e (all_stand_on d e locations one.grows there)) in
    let can = subst (Computes f) (sym c.of_both.ensures) (pair.last_computes f j k (other.grows.stays j one.written) other.written) in
    let word = subst (λ i. Works f g i third) c.of_both.ensures (c.in_ok-slot.ensures.works other.grows.is can) in
    let turns = subst (Computes g) (sym c.turning.ensures) (one_computes op.Not 0 1 third g refl (λ ports wides i. refl) (omega arith) word.written) in
    let turned = subst (λ i. Works g h i c.in_ok-last.last) c.turning.ensures (c.in_ok-last.ensures.works word.grows.is turns) in
    turned_makes c.args.measure.kind c.args.measure.width c.in_ok-last.last c.at_slot.result c.requires c.at_slot.ensures locations R d e f g p j k third pair one other word h c.if-pair.true turned

pub returns-in_ok-last-clause-segment : goal.returns-in_ok-last-clause-segment
returns-in_ok-last-clause-segment c = λ locations R pair.
    let d = c.args.draft.now in
    let e = c.computed.new.draft in
    let f = c.computed-2.new.draft in
    let g = c.computed-3.new.draft in
    let h = c.computed-then-pair.new.draft in
    let outer = slots_of locations in
    let third = c.in_ok-slot.slot in
    let last = c.in_ok-last.last in
    let seg = pair_segment locations R c.args.pair pair d e f g c.in_ok-one.one c.in_ok-other.other third c.in_ok-one.ensures.code c.in_ok-one.ensures.place c.in_ok-other.ensures.code c.in_ok-other.ensures.place
    (c.in_ok-slot.ensures.code ∙ ap (next_of f) c.of_both.ensures) c.in_ok-slot.ensures.place in
    subst (λ xs. Segment d h outer xs 2) (sym (one_slot locations R c.args.measure.kind c.args.measure.width last c.at_slot.result c.requires c.at_slot.ensures))
    (turned_segment d g h outer third last seg (c.in_ok-last.ensures.code ∙ ap (next_of g) c.turning.ensures) c.in_ok-last.ensures.place)

pub returns-else-pair-clause-makes : goal.returns-else-pair-clause-makes
returns-else-pair-clause-makes c = λ locations R pair is there.
    let d = c.args.draft.now in
    let e = c.computed.new.draft in
    let f = c.computed-2.new.draft in
    let g = c.computed-3.new.draft in
    let j = c.in_ok-one.one in
    let k = c.in_ok-other.other in
    let third = c.in_ok-slot.slot in
    let one = c.in_ok-one.ensures.works is (pair.first_computes d there) in
    let other = c.in_ok-other.ensures.works one.grows.is (pair.second_computes e (all_stand_on d e locations one.grows there)) in
    let can = subst (Computes f) (sym c.of_both.ensures) (pair.last_computes f j k (other.grows.stays j one.written) other.written) in
    let word = subst (λ i. Works f g i third) c.of_both.ensures (c.in_ok-slot.ensures.works other.grows.is can) in
    pair_makes c.args.measure.kind c.args.measure.width third c.at_slot-else-pair.result c.requires c.at_slot-else-pair.ensures locations R d e f g c.args.pair j k third pair one other word c.if-pair.false refl

pub returns-else-pair-clause-segment : goal.returns-else-pair-clause-segment
returns-else-pair-clause-segment c = λ locations R pair.
    let d = c.args.draft.now in
    let e = c.computed.new.draft in
    let f = c.computed-2.new.draft in
    let g = c.computed-3.new.draft in
    let third = c.in_ok-slot.slot in
    let seg = pair_segment locations R c.args.pair pair d e f g c.in_ok-one.one c.in_ok-other.other third c.in_ok-one.ensures.code c.in_ok-one.ensures.place c.in_ok-other.ensures.code c.in_ok-other.ensures.place
    (c.in_ok-slot.ensures.code ∙ ap (next_of f) c.of_both.ensures) c.in_ok-slot.ensures.place in
    subst (λ xs. Segment d g (slots_of locations) xs 2) (sym (one_slot locations R c.args.measure.kind c.args.measure.width third c.at_slot-else-pair.result c.requires c.at_slot-else-pair.ensures)) seg
