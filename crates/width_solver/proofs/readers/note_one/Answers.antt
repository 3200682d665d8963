use Rattle.std.proofs.Common.{[]}
use Rattle.std.proofs.lemmas.List.{get_or_default}
use Rattle.width_solver.proofs.Noting.{notes_one}
use Rattle.width_solver.proofs.readers.note_one.Goals as goal

pub returns : goal.returns
returns c =
    rw (c.in_ok-push.ensures.ok, c.index_mut.ensures.value, get_or_default c.args.readers.now.items c.args.variable _ [] c.requires.within)
    (notes_one c.args.readers.now.items c.args.variable c.args.number c.requires.within)
