use Rattle.std.proofs.Common.{refl}
use Rattle.std.proofs.lemmas.Option.{slice_get_read}
use Rattle.shelf_io.proofs.Written.{take-drop-all}
use Rattle.shelf_io.proofs.HeldTexts.{read_takes, held_within}
use Rattle.shelf_io.proofs.memory.ShelfMemoryShelf.read.Goals as goal

pub returns-in-Some-clause-taken : goal.returns-in-Some-clause-taken
returns-in-Some-clause-taken c = λ text left.
    let known = rw c.in-Some.is at left in
    let here = slice_get_read c.args.self.now.texts.items _ c.in-Some.i c.index.result.now refl (held_within c.args.self.now.texts.items c.in-Some.i c.args.self.now.at text known) c.index.ensures in
    let start = rw c.as_slice-text.ensures.value at c.min-start.ensures in
    let count = rw (c.min.ensures, take-drop-all, c.as_slice-text.ensures.value) at c.min-count.ensures in
    let copied = rw (take-drop-all, c.as_slice-text.ensures.value) at c.copy_from_slice.ensures.after in
    rw c.in-Some.is (read_takes c.args.self.now.texts.items c.index.result.now c.in-Some.i c.args.self.now.at _ _ _ _ _ text here start count c.requires.room c.args.self.now.moves copied known)
