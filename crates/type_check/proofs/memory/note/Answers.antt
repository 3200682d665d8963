use Rattle.std.proofs.Common.{sym, ap, ◌∙◌, not}
use Rattle.type_check.specs.Memories.{is_said}
use Rattle.type_check.proofs.Lines.{not_not}
use Rattle.type_check.proofs.memory.note.Goals as goal

pub returns-in_ok-_index-in-MemPort-clause-again : goal.returns-in_ok-_index-in-MemPort-clause-again
returns-in_ok-_index-in-MemPort-clause-again c lines n =
    ap not c.in_ok-_index-in-MemPort.ensures.added ∙ not_not _ ∙ n.ports c.in-MemPort.name.id ∙ sym (ap (is_said lines) c.in-MemPort.is)
