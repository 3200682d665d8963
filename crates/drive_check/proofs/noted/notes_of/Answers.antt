use Rattle.std.proofs.Common.{◌≡◌, Some, slice_get, length, refl, arith}
use Rattle.std.proofs.lemmas.Grind.{common_steps}
use Rattle.std.proofs.lemmas.Option.{slice_get_read}
use Rattle.drive_check.proofs.Noting.{noted_more}
use Rattle.drive_check.proofs.noted.notes_of.Goals as goal

pub loop-typ-preserved : goal.loop-typ-preserved
loop-typ-preserved c =
    let types = c.args.types.now in
    let at : slice_get types c.loop-typ.typ-index ≡ Some c.typ-item.result = slice_get_read types (length types) c.loop-typ.typ-index c.typ-item.result refl c.loop-typ-test.true c.typ-item.is in
    record {
      noted = noted_more types c.loop-typ.notes.items c.push.new.self.items c.loop-typ.typ-index c.typ-item.result c.in_ok-note.note c.loop-typ.invariant.noted
          c.loop-typ.invariant.length at c.in_ok-note.ensures c.in_ok-push.ensures.items;
      length = grind (arith, common_steps);
    }
