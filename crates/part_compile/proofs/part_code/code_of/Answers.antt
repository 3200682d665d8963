use Rattle.std.proofs.Common.{◌<◌, length, slice_index, All, sym, subst, ap, ap₂, ◌∙◌, arith}
use Rattle.flat_code.specs.Meaning.{changed}
use Rattle.flat_code.specs.Codes.{published_by}
use Rattle.flat_code.specs.Fine.{nothing}
use Rattle.flat_code.specs.Orders.{Single}
use Rattle.code_emit.specs.Emits.{sources_table}
use Rattle.partition_code.specs.Sequences.{InTurn, StandElsewhere, turned_table}
use Rattle.partition_code.specs.Segmented.{AreSegments}
use Rattle.part_compile.proofs.InTurn.{part_turn}
use Rattle.part_compile.proofs.Keeping.{are_kept}
use Rattle.part_compile.proofs.Composing.{at_both, reads_long, words_counted, registers_counted, registers_first, are_assignments, all_within, goes_on, is_work, code_is}
use Rattle.part_compile.proofs.Framing.{code_in_pieces}
use Rattle.part_compile.proofs.part_code.code_of.Goals as goal

pub bounds-as_slice-last : goal.bounds-as_slice-last
bounds-as_slice-last c =
    let long = c.requires.plan.first.all_captured in
    let same = ap length c.as_slice.ensures in
    let reads = reads_long c.args.plan.now.net.now c.args.plan.now.reads.now c.requires.plan.captured in
    omega (arith, long, same, reads)

pub bounds-as_slice-behind : goal.bounds-as_slice-behind
bounds-as_slice-behind c =
    let long = c.requires.plan.first.all_registers in
    let same = ap length c.as_slice-4.ensures in
    let behind = c.len-behind.ensures in
    omega (arith, long, same, behind)

pub publishing_changes-code-requires-clause-there : goal.publishing_changes-code-requires-clause-there
publishing_changes-code-requires-clause-there c =
    let net = c.args.plan.now.net.now in
    let w = c.requires.plan.is_net in
    let u = c.requires.part in
    let start = c.empty-draft.ensures in
    let counted = start.words ∙ words_counted net c.args.plan.now.words.now c.args.plan.now.reads.now c.as_slice.result.now c.requires.plan.first c.requires.plan.captured c.as_slice.ensures in
    let goes = goes_on net w c.args.plan.now.watch.now c.args.part.now u.sequence u.union c.in_ok-sources.sources c.assign_all.new.sources c.empty-draft.result c.assign_all.new.draft _ _ c.in_ok-sources.ensures start.instrs start.ports start.wides counted
    c.as_slice-2.ensures c.as_slice-3.ensures c.in_ok-assign_all.ensures.assigns in
    let once = ap (slice_index c.as_slice-4.result.now) c.len-behind.ensures ∙ registers_counted net c.args.plan.now.words.now c.as_slice-4.result.now c.requires.plan.first c.as_slice-4.ensures in
    registers_first net _ _ once (c.in_ok-whole.ensures.words ∙ (c.in_ok-made.ensures.so_far.tells.words ∙ (goes.grows.words ∙ counted)))

pub assign_all-requires-clause-within : goal.assign_all-requires-clause-within
assign_all-requires-clause-within c =
    let u = c.requires.part in
    let S = c.in_ok-sources.sources in
    subst (All (λ x. x < length S.leaves)) (sym c.as_slice-3.ensures) (all_within c.args.plan.now.net.now c.requires.plan.is_net c.args.plan.now.watch.now c.args.part.now u.sequence u.union (length S.leaves) c.in_ok-sources.ensures.counted)

pub assign_all-requires-clause-in_turn : goal.assign_all-requires-clause-in_turn
assign_all-requires-clause-in_turn c =
    let net = c.args.plan.now.net.now in
    let u = c.requires.part in
    let S = c.in_ok-sources.sources in
    at_both (λ ds xs. InTurn (sources_table S) ds xs) net.drivers _ c.args.part.now.assignments _ (sym c.as_slice-2.ensures) (sym c.as_slice-3.ensures)
    (part_turn net c.requires.plan.is_net c.args.plan.now.watch.now u.sequence c.args.part.now S u.order u.union c.in_ok-sources.ensures).0

pub made_of-requires-clause-part : goal.made_of-requires-clause-part
made_of-requires-clause-part c =
    let u = c.requires.part in
    let S = c.in_ok-sources.sources in
    is_work c.args.plan.now.net.now c.requires.plan.is_net c.args.plan.now.watch.now c.args.part.now u.sequence u.union S c.assign_all.new.sources u.order c.in_ok-sources.ensures
    (c.in_ok-assign_all.ensures.table ∙ ap₂ (turned_table (sources_table S)) c.as_slice-2.ensures c.as_slice-3.ensures)

pub made_of-requires-clause-kept : goal.made_of-requires-clause-kept
made_of-requires-clause-kept c =
    let net = c.args.plan.now.net.now in
    let w = c.requires.plan.is_net in
    let u = c.requires.part in
    let S = c.in_ok-sources.sources in
    let T = c.assign_all.new.sources in
    are_kept net w c.args.part.now.assignments S T c.in_ok-sources.ensures (are_assignments net w c.args.plan.now.watch.now c.args.part.now u.sequence u.union)
    (subst (λ xs. StandElsewhere xs S T) c.as_slice-3.ensures c.in_ok-assign_all.ensures.others)

pub made_of-requires-clause-ready : goal.made_of-requires-clause-ready
made_of-requires-clause-ready c =
    let net = c.args.plan.now.net.now in
    let w = c.requires.plan.is_net in
    let u = c.requires.part in
    let start = c.empty-draft.ensures in
    let counted = start.words ∙ words_counted net c.args.plan.now.words.now c.args.plan.now.reads.now c.as_slice.result.now c.requires.plan.first c.requires.plan.captured c.as_slice.ensures in
    let goes = goes_on net w c.args.plan.now.watch.now c.args.part.now u.sequence u.union c.in_ok-sources.sources c.assign_all.new.sources c.empty-draft.result c.assign_all.new.draft _ _ c.in_ok-sources.ensures start.instrs start.ports start.wides counted
    c.as_slice-2.ensures c.as_slice-3.ensures c.in_ok-assign_all.ensures.assigns in
    (goes.grows.is, goes.are, goes.grows.words ∙ counted)

pub returns-clause-code : goal.returns-clause-code
returns-clause-code c =
    let net = c.args.plan.now.net.now in
    let watch = c.args.plan.now.watch.now in
    let part = c.args.part.now in
    let w = c.requires.plan.is_net in
    let u = c.requires.part in
    let start = c.empty-draft.ensures in
    let counted = start.words ∙ words_counted net c.args.plan.now.words.now c.args.plan.now.reads.now c.as_slice.result.now c.requires.plan.first c.requires.plan.captured c.as_slice.ensures in
    let goes = goes_on net w watch part u.sequence u.union c.in_ok-sources.sources c.assign_all.new.sources c.empty-draft.result c.assign_all.new.draft _ _ c.in_ok-sources.ensures start.instrs start.ports start.wides counted
    c.as_slice-2.ensures c.as_slice-3.ensures c.in_ok-assign_all.ensures.assigns in
    let whole = c.in_ok-whole.ensures in
    let once = ap (slice_index c.as_slice-4.result.now) c.len-behind.ensures ∙ registers_counted net c.args.plan.now.words.now c.as_slice-4.result.now c.requires.plan.first c.as_slice-4.ensures in
    let now = c.publishing_changes-code.ensures in
    code_is net w watch part c.in_ok-sources.sources c.assign_all.new.sources c.empty-draft.result c.assign_all.new.draft c.in_ok-made.made c.in_ok-whole.whole c.publishing_changes-code.result c.in_ok-sources.ensures start.instrs
    counted goes (are_assignments net w watch part u.sequence u.union) c.in_ok-made.ensures.so_far whole.effects whole.positions whole.owned whole.words
    (record {
      kept = now.kept;
      publications = λ ws is. now.publications ws is ∙ ap (λ n. changed n ws (published_by c.in_ok-whole.whole ws is)) once;
      outputs = now.outputs;
    })

pub returns-clause-single : goal.returns-clause-single
returns-clause-single c =
    let whole = c.in_ok-whole.whole in
    let kept = c.publishing_changes-code.ensures.kept in
    at_both (λ ps ws. Single nothing ps ws c.publishing_changes-code.result.instrs) whole.ports _ whole.wides _ (sym kept.ports) (sym kept.wides)
    (subst (Single nothing whole.ports whole.wides) (sym kept.instrs) c.in_ok-whole.ensures.single)

pub returns-clause-pieces : goal.returns-clause-pieces
returns-clause-pieces c =
    let net = c.args.plan.now.net.now in
    let u = c.requires.part in
    let S = c.in_ok-sources.sources in
    let T = c.assign_all.new.sources in
    let start = c.empty-draft.ensures in
    let whole = c.in_ok-whole.ensures in
    let kept = c.publishing_changes-code.ensures.kept in
    let segments = at_both (λ ds xs. AreSegments ds xs S c.empty-draft.result T c.assign_all.new.draft) _ net.drivers _ c.args.part.now.assignments c.as_slice-2.ensures c.as_slice-3.ensures c.in_ok-assign_all.ensures.segments in
    code_in_pieces net c.requires.plan.is_net c.args.plan.now.watch.now c.args.part.now u.sequence u.union S T c.in_ok-sources.ensures c.empty-draft.result c.assign_all.new.draft c.in_ok-made.made c.publishing_changes-code.result start.instrs start.slots
    segments c.in_ok-made.ensures.pieces (kept.instrs ∙ whole.instrs) (kept.ports ∙ whole.ports) (kept.wides ∙ whole.wides) (kept.slots ∙ whole.slots) (kept.shown ∙ whole.shown)
