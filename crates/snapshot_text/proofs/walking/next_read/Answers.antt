use Rattle.std.proofs.Common.{Some, sym, ap, ◌∙◌}
use Rattle.std.proofs.lemmas.Option.{slice_get-get_or}
use Rattle.snapshot_text.proofs.Stepping.{read_next}
use Rattle.snapshot_text.proofs.walking.next_read.Goals as goal

pub returns : goal.returns
returns c =
    let leaves = c.args.cursor.net.now.leaves in
    let leaf = c.index-as_slice-cursor.result in
    let is = rw c.as_slice.ensures at c.index-as_slice-cursor.is in
    let there' = slice_get-get_or leaves c.args.cursor.read leaf c.requires.there ∙ ap Some (sym is) in
    read_next c.args.cursor c.leaf_line.result leaf c.requires.settled c.requires.past c.requires.behind c.requires.there is (c.requires.captured leaf there') c.leaf_line.ensures
