use Rattle.std.proofs.Common.{◌≡◌, slice_get, Some, true, false, ap, ◌∙◌}
use Rattle.fir_names.proofs.Graphs.{marks_one, marks_none, read_mark}
use Rattle.fir_names.proofs.graph.mark.Goals as goal

pub returns-in_ok-push : goal.returns-in_ok-push
returns-in_ok-push c =
    let free : slice_get c.args.marks.now.items c.args.node ≡ Some false
    = read_mark c.args.marks.now.items c.args.node c.index.result.now c.requires.within c.index.ensures ∙ ap Some c.if-not-index.true in
    rw c.in_ok-push.ensures.items (marks_one c.args.marks.now.items c.args.order.now.items c.args.node c.requires.marked free)

pub returns-else-not-index : goal.returns-else-not-index
returns-else-not-index c =
    let taken : slice_get c.args.marks.now.items c.args.node ≡ Some true
    = read_mark c.args.marks.now.items c.args.node c.index.result.now c.requires.within c.index.ensures ∙ ap Some c.if-not-index.false in
    marks_none c.args.marks.now.items c.args.order.now.items c.args.node c.requires.marked taken
