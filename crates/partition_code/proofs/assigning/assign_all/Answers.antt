use Rattle.std.proofs.Common.{◌+◌, slice_index, take, drop, sym, subst, ap, ◌∙◌}
use Rattle.std.proofs.lemmas.List.{take_more, take_all, drop_more, drop_all}
use Rattle.code_emit.specs.Emits.{sources_table}
use Rattle.partition_code.specs.Sequences.{InTurn, Assigns, StandElsewhere, turned_table}
use Rattle.partition_code.proofs.Turns.{in_turn_next, next_table, one_more_assigned, one_more_elsewhere}
use Rattle.partition_code.specs.Segmented.{AreSegments}
use Rattle.partition_code.proofs.Segmenting.{one_more_segment}
use Rattle.partition_code.proofs.assigning.assign_all.Goals as goal

pub loop-leaf-preserved : goal.loop-leaf-preserved
loop-leaf-preserved c =
    let drivers = c.args.drivers.now in
    let xs = c.args.sequence.now in
    let k = c.loop-leaf.leaf-index in
    let x = slice_index xs k in
    let S = c.loop-leaf.sources in
    let T = c.assign.new.sources in
    let lt = c.loop-leaf-test.true in
    let turn = subst (InTurn (sources_table S) drivers) (drop_more xs k 0 lt) c.loop-leaf.invariant.turn in
    record {
      long = c.in_ok-assign.ensures.leaves ∙ c.loop-leaf.invariant.long;
      turn = in_turn_next S T drivers x (drop (k + 1) xs) turn c.in_ok-assign.ensures.table;
      table = next_table S T drivers x (drop (k + 1) xs) turn c.in_ok-assign.ensures.table ∙ (ap (turned_table (sources_table S) drivers) (sym (drop_more xs k 0 lt)) ∙ c.loop-leaf.invariant.table);
      others = subst (λ ys. StandElsewhere ys c.args.sources.now T) (sym (take_more xs k 0 lt))
          (one_more_elsewhere (take k xs) x c.args.sources.now S T c.loop-leaf.invariant.others c.in_ok-assign.ensures.others);
      segments = subst (λ ys. AreSegments drivers ys c.args.sources.now c.args.draft.now T c.assign.new.draft) (sym (take_more xs k 0 lt))
          (one_more_segment drivers (take k xs) x c.args.sources.now S T c.args.draft.now c.loop-leaf.draft c.assign.new.draft c.loop-leaf.invariant.segments c.in_ok-assign.ensures.segments);
      assigns = subst (λ ys. Assigns drivers ys c.args.sources.now c.args.draft.now T c.assign.new.draft) (sym (take_more xs k 0 lt))
          (one_more_assigned drivers (take k xs) x c.args.sources.now S T c.args.draft.now c.loop-leaf.draft c.assign.new.draft c.loop-leaf.invariant.assigns c.in_ok-assign.ensures.assigns);
    }

pub returns-clause-table : goal.returns-clause-table
returns-clause-table c =
    let none = drop_all c.loop-leaf.leaf-index c.args.sequence.now c.loop-leaf-test.false in
    sym (ap (turned_table (sources_table c.loop-leaf.sources) c.args.drivers.now) none) ∙ c.loop-leaf.invariant.table

pub returns-clause-others : goal.returns-clause-others
returns-clause-others c =
    subst (λ ys. StandElsewhere ys c.args.sources.now c.loop-leaf.sources) (take_all c.loop-leaf.leaf-index c.args.sequence.now c.loop-leaf-test.false) c.loop-leaf.invariant.others

pub returns-clause-segments : goal.returns-clause-segments
returns-clause-segments c =
    subst (λ ys. AreSegments c.args.drivers.now ys c.args.sources.now c.args.draft.now c.loop-leaf.sources c.loop-leaf.draft)
    (take_all c.loop-leaf.leaf-index c.args.sequence.now c.loop-leaf-test.false) c.loop-leaf.invariant.segments
